-- A model is told unknown by unknown: behind what is told, the records of the unknowns that are left stand in the bytes.
use Rattle.std.proofs.Common.{◌≡◌, ℕ, ◌+◌, ◌*◌, ◌<◌, ◌≤◌, List, [], ◌∷◌, ◌++◌, length, get_or, drop, sym, refl, ap, ◌∙◌, subst, append_assoc, arith}
use Rattle.std.specs.Prelude.{codes}
use Rattle.std.proofs.lemmas.List.{drop_all}
use Rattle.syntax.specs.Typing.{Sig}
use Rattle.syntax.specs.Problems.{Problem, sig_of}
use Rattle.ends.proofs.Ending.{past_part}
use Rattle.model.specs.Partial.{Partials, p[], ◌p∷◌, OfTypes, written, encode_from, Writes}
use Rattle.model.proofs.Bytes.{at_byte}
use Rattle.model.proofs.Roots.{first}
use Rattle.telling.specs.declared.page.Page.{Page}
use Rattle.telling.specs.Lines.{labelled}
use Rattle.telling.specs.Pages.{Adds}
use Rattle.telling.specs.Shown.{value_text, unknown_text, unknowns_text, model_text}
use Rattle.telling.specs.Standing.{Tells}
use Rattle.telling.proofs.Pages.{adds_then, adds_none}

-- of the model ps, the records of the unknowns from number k on stand at `place`
pub record Left (sig : Sig) (bytes types : List ℕ) (ps : Partials) (k place : ℕ) (old now : Page) : Type 0 where
  pub done : List ℕ
  pub left : Partials
  pub typed : OfTypes sig (drop k types) left
  pub stands : drop place bytes ≡ encode_from sig k (drop k types) left
  pub text : model_text ps ≡ done ++ unknowns_text k left
  pub adds : Adds old done now

-- what holds before the unknown with number k
pub record Partway (p : Problem) (bytes : List ℕ) (k place : ℕ) (old now : Page) : Type 0 where
  pub low : place ≤ length bytes
  pub same : now.output.ghost_name ≡ old.output.ghost_name
  pub short : now.length ≤ 32 * place
  pub tells : (ps : Partials) → Writes p bytes ps → Left (sig_of p) bytes p.unknowns ps k place old now

pub left_all : (p : Problem) (bytes : List ℕ) (ps : Partials) (page : Page) → Writes p bytes ps → Left (sig_of p) bytes p.unknowns ps 0 0 page page
left_all p bytes ps page w = record {
  done = [];
  left = ps;
  typed = w.typed;
  stands = w.is;
  text = refl;
  adds = adds_none page;
}

module _ (sig : Sig) (bs : List ℕ) where
  -- a record's value stands behind its mark and its number
  record_at : (place k : ℕ) (more : List ℕ) → drop place bs ≡ 0x4D ∷ (0x44 ∷ (k ∷ more)) → (place + 3 ≤ length bs) × (drop (place + 3) bs ≡ more)
  record_at place k more h =
      let a = at_byte bs place 0x4D (0x44 ∷ (k ∷ more)) h in
      let b = at_byte bs (place + 1) 0x44 (k ∷ more) a.2 in
      let plus : place + 2 ≡ place + 1 + 1 = omega arith in
      let d = at_byte bs (place + 2) k more (ap (λ i. drop i bs) plus ∙ b.2) in
      let third : place + 3 ≡ place + 2 + 1 = omega arith in
      (omega (arith, d.0), ap (λ i. drop i bs) third ∙ d.2)

  room_by : (k place x : ℕ) (ts : List ℕ) (left : Partials) → OfTypes sig (x ∷ ts) left → drop place bs ≡ encode_from sig k (x ∷ ts) left → place + 3 ≤ length bs
  room_by k place x ts p[] typed stands = absurd typed
  room_by k place x ts (p p∷ ps) typed stands = (record_at place k (written sig x p ++ encode_from sig (k + 1) ts ps) stands).0

  step_by : (types : List ℕ) (qs : Partials) (k place : ℕ) {q : ℕ} {old now named before told last : Page} (done : List ℕ) (x : ℕ) (ts : List ℕ) (left : Partials)
      → drop (k + 1) types ≡ ts → OfTypes sig (x ∷ ts) left → drop place bs ≡ encode_from sig k (x ∷ ts) left → model_text qs ≡ done ++ unknowns_text k left
      → Adds old done now → Adds now (labelled (codes "unknown ") k) named → Adds named (codes " = ") before → Tells sig bs (place + 3) q before told
      → Adds told (codes "\n") last → Left sig bs types qs (k + 1) q old last
  step_by types qs k place done x ts p[] e typed stands text adds names is tells ends = absurd typed
  step_by types qs k place {q} done x ts (p p∷ ps) e typed stands text adds names is tells ends =
      let at = (record_at place k (written sig x p ++ encode_from sig (k + 1) ts ps) stands).1 in
      let say = tells x p (encode_from sig (k + 1) ts ps) (record { typed = typed.0; stands = at }) in
      record {
        done = done ++ unknown_text k p;
        left = ps;
        typed = subst (λ l. OfTypes sig l ps) (sym e) typed.1;
        stands = ap (λ j. drop j bs) say.0 ∙ past_part bs (place + 3) (written sig x p) (encode_from sig (k + 1) ts ps) at
            ∙ ap (λ l. encode_from sig (k + 1) l ps) (sym e);
        text = text ∙ sym (append_assoc done (unknown_text k p) (unknowns_text (k + 1) ps));
        adds = adds_then done (unknown_text k p) adds
            (adds_then _ (codes "\n") (adds_then _ (value_text p) (adds_then (labelled (codes "unknown ") k) (codes " = ") names is) say.1) ends);
      }

  finish_by : (qs : Partials) (k : ℕ) {old now : Page} (done : List ℕ) (left : Partials) → OfTypes sig [] left → model_text qs ≡ done ++ unknowns_text k left → Adds old done now
      → Adds old (model_text qs) now
  finish_by qs k {old} {now} done p[] typed text adds = subst (λ l. Adds old l now) (sym text) (adds_then done [] adds (adds_none now))
  finish_by qs k done (p p∷ ps) typed text adds = absurd typed

  module _ {types : List ℕ} {qs : Partials} {k place : ℕ} {old now : Page} (l : Left sig bs types qs k place old now) where
    pub left_room : k < length types → place + 3 ≤ length bs
    left_room lt =
        let e = first types k lt in
        room_by k place (get_or types k 0) (drop (k + 1) types) l.left (subst (λ ts. OfTypes sig ts l.left) e l.typed)
        (l.stands ∙ ap (λ ts. encode_from sig k ts l.left) e)

    pub left_less : {q : ℕ} {named before told last : Page} → k < length types → Adds now (labelled (codes "unknown ") k) named → Adds named (codes " = ") before
        → Tells sig bs (place + 3) q before told → Adds told (codes "\n") last → Left sig bs types qs (k + 1) q old last
    left_less lt names is tells ends =
        let e = first types k lt in
        step_by types qs k place l.done (get_or types k 0) (drop (k + 1) types) l.left refl (subst (λ ts. OfTypes sig ts l.left) e l.typed)
        (l.stands ∙ ap (λ ts. encode_from sig k ts l.left) e) l.text l.adds names is tells ends

    pub left_none : length types ≤ k → Adds old (model_text qs) now
    left_none le = finish_by qs k l.done l.left (subst (λ ts. OfTypes sig ts l.left) (drop_all k types le) l.typed) l.text l.adds
