-- Answers stay: explained by one judging, and true of the other, under one and the same decision. Assumes nothing.
use Rattle.std.proofs.Common.{◌≡◌, List, suc-ne-zero}
use Rattle.judging.specs.Judging.{Head, is, waits}
use Rattle.judging.specs.Meaning.{Yields}
use Rattle.judging.specs.Explained.{deciding}
use Rattle.judging.specs.Stays.{FalseStays, AnswerStays}
use Rattle.judging.proofs.Explained.{head_explained}
use Rattle.judging.proofs.Determined.{one_head}
use Rattle.judging.proofs.Waiting.{HeadTrue, head_true}

pub false_stays : (U : Type 0) → FalseStays U
false_stays U P K h s left xs E e δ ag s' left' ys F f =
    let no_longer : Yields P (deciding K δ) h 0 xs = head_explained U P K h s left 0 xs E e δ ag in
    suc-ne-zero 0 (one_head P (deciding K δ) (head_true P (deciding K δ) h s' left' (is 1 ys F) f) no_longer).0

pub answer_stays : (U : Type 0) → AnswerStays U
answer_stays U P K h s left c xs E e δ ag s' left' a f = go a (head_true P (deciding K δ) h s' left' a f)
  where
    y : Yields P (deciding K δ) h c xs
    y = head_explained U P K h s left c xs E e δ ag

    go : (a : Head U) → HeadTrue P (deciding K δ) h a → (F : List U) × (a ≡ is c xs F)
    go (is d ys F) z = let o = one_head P (deciding K δ) z y in (F, λ i. is (o.0 i) (o.1 i) F)
    go (waits u) n = absurd (n c xs y)
