-- A value is told argument by argument: behind what is told of it, the arguments that are left stand in the bytes.
use Rattle.std.proofs.Common.{◌≡◌, ℕ, ◌+◌, ◌*◌, ◌<◌, ◌≤◌, List, [], ◌∷◌, ◌++◌, length, get_or, drop, sym, refl, ap, ◌∙◌, subst, append_assoc, arith, length-append}
use Rattle.std.proofs.lemmas.List.{drop_all}
use Rattle.std.specs.Prelude.{codes, decimal}
use Rattle.syntax.specs.Typing.{Sig, arguments}
use Rattle.ends.proofs.Ending.{past_part}
use Rattle.model.specs.Partial.{Partial, open_part, built, Partials, p[], ◌p∷◌, OfTypes, written, all_written}
use Rattle.model.proofs.Bytes.{at_byte}
use Rattle.model.proofs.Roots.{first}
use Rattle.telling.specs.declared.page.Page.{Page}
use Rattle.telling.specs.Pages.{Adds}
use Rattle.telling.specs.Shown.{opening, closing, value_text, arguments_text}
use Rattle.telling.specs.Standing.{ValueAt, Tells}
use Rattle.telling.proofs.Pages.{adds_then}

-- of the value v that stands at `place`, the arguments from number i on stand at `end`
pub record Left (sig : Sig) (bytes : List ℕ) (place t : ℕ) (v : Partial) (rest types : List ℕ) (i end : ℕ) (old now : Page) : Type 0 where
  pub done : List ℕ
  pub left : Partials
  pub typed : OfTypes sig (drop i types) left
  pub stands : drop end bytes ≡ all_written sig (drop i types) left ++ rest
  pub ends : end + length (all_written sig (drop i types) left) ≡ place + length (written sig t v)
  pub text : value_text v ≡ done ++ arguments_text i left
  pub adds : Adds old done now

-- What holds before the argument with number i. The head gives at most 20 bytes of text, and each argument one before it.
pub record Partway (sig : Sig) (bytes : List ℕ) (place : ℕ) (types : List ℕ) (i end : ℕ) (old now : Page) : Type 0 where
  pub after : place + 3 ≤ end
  pub low : end ≤ length bytes
  pub same : now.output.ghost_name ≡ old.output.ghost_name
  pub short : now.length + 32 * place + 76 ≤ old.length + i + 32 * end
  pub tells : (t : ℕ) (v : Partial) (rest : List ℕ) → ValueAt sig bytes place t v rest → Left sig bytes place t v rest types i end old now

module _ (sig : Sig) (bs : List ℕ) (place t : ℕ) where
  -- the first three bytes of a constructor's value
  head : (c : ℕ) (more : List ℕ) → drop place bs ≡ 2 ∷ (t ∷ (c ∷ more))
      → (place + 2 < length bs) × (get_or bs place 0 ≡ 2) × (get_or bs (place + 1) 0 ≡ t) × (get_or bs (place + 2) 0 ≡ c) × (drop (place + 3) bs ≡ more)
  head c more h =
      let a = at_byte bs place 2 (t ∷ (c ∷ more)) h in
      let b = at_byte bs (place + 1) t (c ∷ more) a.2 in
      let plus : place + 2 ≡ place + 1 + 1 = omega arith in
      let d = at_byte bs (place + 2) c more (ap (λ i. drop i bs) plus ∙ b.2) in
      let third : place + 3 ≡ place + 2 + 1 = omega arith in
      (d.0, a.1, b.1, d.1, ap (λ i. drop i bs) third ∙ d.2)

  pub value_there : (v : Partial) (rest : List ℕ) → ValueAt sig bs place t v rest → place < length bs
  value_there open_part rest at = (at_byte bs place 8 rest at.stands).0
  value_there (built c vs) rest at = let h = head c (all_written sig (arguments sig t c) vs ++ rest) at.stands in omega (arith, h.0)

  -- what does not begin as a constructor's value is an open part
  pub told_open : {old new : Page} (v : Partial) (rest : List ℕ) → ValueAt sig bs place t v rest → (get_or bs place 0 ≡ 2 → length bs ≤ place + 2)
      → Adds old (codes "?") new → (place + 1 ≡ place + length (written sig t v)) × Adds old (value_text v) new
  told_open open_part rest at none adds = (refl, adds)
  told_open (built c vs) rest at none adds =
      let h = head c (all_written sig (arguments sig t c) vs ++ rest) at.stands in
      let le = none h.1 in
      absurd (omega (arith, h.0, le))

  pub left_all : {old now : Page} (v : Partial) (rest types : List ℕ) → ValueAt sig bs place t v rest → get_or bs place 0 ≡ 2
      → types ≡ arguments sig (get_or bs (place + 1) 0) (get_or bs (place + 2) 0) → Adds old (decimal (get_or bs (place + 2) 0)) now
      → Left sig bs place t v rest types 0 (place + 3) old now
  left_all open_part rest types at two is adds =
      let a = at_byte bs place 8 rest at.stands in
      let eight = a.1 in
      absurd (omega (arith, eight, two))
  left_all {old} {now} (built c vs) rest types at two is adds =
      let h = head c (all_written sig (arguments sig t c) vs ++ rest) at.stands in
      let e : types ≡ arguments sig t c = is ∙ ap (λ x. arguments sig x (get_or bs (place + 2) 0)) h.2 ∙ ap (arguments sig t) h.3 in
      let sum : place + 3 + length (all_written sig (arguments sig t c) vs) ≡ place + length (written sig t (built c vs)) = omega arith in
      record {
        done = decimal c;
        left = vs;
        typed = subst (λ ts. OfTypes sig ts vs) (sym e) at.typed.1;
        stands = h.4 ∙ ap (λ ts. all_written sig ts vs ++ rest) (sym e);
        ends = ap (λ ts. place + 3 + length (all_written sig ts vs)) e ∙ sum;
        text = refl;
        adds = subst (λ x. Adds old (decimal x) now) h.3 adds;
      }

  step_by : (v : Partial) (rest types : List ℕ) (i end : ℕ) {q : ℕ} {old now before last : Page} (done : List ℕ) (x : ℕ) (ts : List ℕ) (left : Partials) → drop (i + 1) types ≡ ts → OfTypes sig (x ∷ ts) left
      → drop end bs ≡ all_written sig (x ∷ ts) left ++ rest → end + length (all_written sig (x ∷ ts) left) ≡ place + length (written sig t v)
      → value_text v ≡ done ++ arguments_text i left → Adds old done now → Adds now (opening i) before → Tells sig bs end q before last
      → Left sig bs place t v rest types (i + 1) q old last
  step_by v rest types i end done x ts p[] e typed stands ends text adds opens tells = absurd typed
  step_by v rest types i end {q} done x ts (p p∷ ps) e typed stands ends text adds opens tells =
      let whole = stands ∙ append_assoc (written sig x p) (all_written sig ts ps) rest in
      let say = tells x p (all_written sig ts ps ++ rest) (record { typed = typed.0; stands = whole }) in
      let sum = length-append (written sig x p) (all_written sig ts ps) in
      let at : q ≡ end + length (written sig x p) = say.0 in
      let all : q + length (all_written sig ts ps) ≡ place + length (written sig t v) = omega (arith, at, sum, ends) in
      record {
        done = done ++ opening i ++ value_text p;
        left = ps;
        typed = subst (λ l. OfTypes sig l ps) (sym e) typed.1;
        stands = ap (λ j. drop j bs) at ∙ past_part bs end (written sig x p) (all_written sig ts ps ++ rest) whole
            ∙ ap (λ l. all_written sig l ps ++ rest) (sym e);
        ends = ap (λ l. q + length (all_written sig l ps)) e ∙ all;
        text = text ∙ sym (append_assoc done (opening i ++ value_text p) (arguments_text (i + 1) ps))
            ∙ ap (λ l. l ++ arguments_text (i + 1) ps) (sym (append_assoc done (opening i) (value_text p)));
        adds = adds_then (done ++ opening i) (value_text p) (adds_then done (opening i) adds opens) say.1;
      }

  finish_by : (v : Partial) (i end : ℕ) {old now last : Page} (done : List ℕ) (left : Partials) → OfTypes sig [] left → end + length (all_written sig [] left) ≡ place + length (written sig t v)
      → value_text v ≡ done ++ arguments_text i left → Adds old done now → Adds now (closing i) last
      → (end ≡ place + length (written sig t v)) × Adds old (value_text v) last
  finish_by v i end {old} {now} {last} done p[] typed ends text adds closes = (omega (arith, ends), subst (λ l. Adds old l last) (sym text) (adds_then done (closing i) adds closes))
  finish_by v i end done (p p∷ ps) typed ends text adds closes = absurd typed

  pub left_less : {v : Partial} {rest types : List ℕ} {i end q : ℕ} {old now before last : Page} → Left sig bs place t v rest types i end old now
      → i < length types → Adds now (opening i) before → Tells sig bs end q before last → Left sig bs place t v rest types (i + 1) q old last
  left_less {v} {rest} {types} {i} {end} l lt opens tells =
      let e = first types i lt in
      step_by v rest types i end l.done (get_or types i 0) (drop (i + 1) types) l.left refl (subst (λ ts. OfTypes sig ts l.left) e l.typed)
      (l.stands ∙ ap (λ ts. all_written sig ts l.left ++ rest) e)
      (ap (λ ts. end + length (all_written sig ts l.left)) (sym e) ∙ l.ends) l.text l.adds opens tells

  pub left_none : {v : Partial} {rest types : List ℕ} {i end : ℕ} {old now last : Page} → Left sig bs place t v rest types i end old now
      → length types ≤ i → Adds now (closing i) last → (end ≡ place + length (written sig t v)) × Adds old (value_text v) last
  left_none {v} {rest} {types} {i} {end} l le closes =
      let e = drop_all i types le in
      finish_by v i end l.done l.left (subst (λ ts. OfTypes sig ts l.left) e l.typed)
      (ap (λ ts. end + length (all_written sig ts l.left)) (sym e) ∙ l.ends) l.text l.adds closes
