-- Tasks that are put on a pile, and taken from it. Assumes nothing.
use Rattle.std.proofs.Common.{◌≡◌, ℕ, zero, suc, ◌+◌, ◌<◌, ◌≤◌, List, [], ◌∷◌, ◌++◌, map, length, take, drop, Some, None, Option, Ok, sym, refl, ap, ◌∙◌, subst, arith}
use Rattle.std.proofs.lemmas.List.{take-take}
use Rattle.terms.specs.declared.tasks.Task.{Task}
use Rattle.terms.specs.declared.tasks.Task.TheVariants.{One, Two, Arguments, Parameters, Case, Branches}
use Rattle.terms.specs.declared.tasks.Opened.{Opened}
use Rattle.reading.specs.declared.parts.Part.TheVariants.{Start}
use Rattle.syntax.specs.Typing.{Sig, Want, want, arguments, params_of, cases_of, each_of, branches_of}
use Rattle.reading.specs.Reading.{Item, item, start, starts}
use Rattle.terms.specs.Tasks.{item_of, expand, cut_of, Left, expand_rest, FineRest, Opens, Steps, put, stack_of, Piled, Advances}

-- the items of a task ask only for the variables below its cut
expand_same : (sig : Sig) (s s' : List ℕ) (x : Task) → take (cut_of x) s' ≡ take (cut_of x) s → expand sig s' x ≡ expand sig s x
expand_same sig s s' (One w) e = ap (λ r. item w.part r w.ty ∷ []) e
expand_same sig s s' (Two ty cut) e = ap (λ r. item Start r ty ∷ (item Start r ty ∷ [])) e
expand_same sig s s' (Arguments of con next cut) e = ap (λ r. starts (each_of r (drop next (arguments sig of con)))) e
expand_same sig s s' (Parameters of next cut) e = ap (λ r. starts (each_of r (drop next (params_of sig of)))) e
expand_same sig s s' (Case of ty cut) e = ap (λ r. item Start r of ∷ starts (branches_of r ty (cases_of sig of))) e
expand_same sig s s' (Branches of next ty cut) e = ap (λ r. starts (branches_of r ty (drop next (cases_of sig of)))) e

shorter : (s s' : List ℕ) (k m : ℕ) → k ≤ m → take m s' ≡ take m s → take k s' ≡ take k s
shorter s s' k m h e = sym (take-take k m s' h) ∙ ap (take k) e ∙ take-take k m s h

stack_same : (sig : Sig) (s s' : List ℕ) (ts : List Task) (k : ℕ) → Piled sig ts k → take k s' ≡ take k s → stack_of sig s' ts ≡ stack_of sig s ts
stack_same sig s s' [] k p e = refl
stack_same sig s s' (x ∷ ts) k p e =
    let f = shorter s s' (cut_of x) k p.0 e in
    ap (λ is. is ++ stack_of sig s' ts) (expand_same sig s s' x f) ∙ ap (λ is. expand sig s x ++ is) (stack_same sig s s' ts (cut_of x) p.2 f)

piled_more : (sig : Sig) (ts : List Task) (k m : ℕ) → k ≤ m → Piled sig ts k → Piled sig ts m
piled_more sig [] k m h p = tt
piled_more sig (x ∷ ts) k m h p = (omega arith, p.1, p.2)

put_piled : (sig : Sig) (r : Option Task) (ts : List Task) (k : ℕ) → FineRest sig k r → Piled sig ts k → Piled sig (put r ts) k
put_piled sig None ts k f p = p
put_piled sig (Some x) ts k f p =
    let low : cut_of x ≤ k = omega (arith, f.cuts) in
    (low, f.left, subst (Piled sig ts) (sym f.cuts) p)

put_stack : (sig : Sig) (s : List ℕ) (r : Option Task) (ts : List Task) → stack_of sig s (put r ts) ≡ expand_rest sig s r ++ stack_of sig s ts
put_stack sig s None ts = refl
put_stack sig s (Some x) ts = refl

put_few : (r : Option Task) (ts : List Task) → length (put r ts) ≤ length ts + 1
put_few None ts = omega arith
put_few (Some x) ts = omega arith

-- the topmost task is opened, and a byte is allowed at its first item
pub advances : (sig : Sig) (s s' : List ℕ) (x : Task) (ts : List Task) (o : Opened) (r : Option Task) (b : ℕ)
    → Piled sig (x ∷ ts) 64 → Opens sig s s' x o → Steps sig s' (item_of s' o.first) o.first.cut b (Ok r)
    → Advances sig s s' (x ∷ ts) (put r (put o.rest ts)) b
advances sig s s' x ts o r b p q e =
    let others = put o.rest ts in
    let few : length (put r others) ≤ length (x ∷ ts) + 1 = omega (arith, put_few r others, put_few o.rest ts) in
    record {
      few = few;
      piled = piled_more sig (put r others) o.first.cut 64 q.high (put_piled sig r others o.first.cut e.2 (piled_more sig others (cut_of x) o.first.cut q.low (put_piled sig o.rest ts (cut_of x) q.fine p.2)));
      moves = record {
        top = item_of s' o.first;
        others = stack_of sig s' others;
        first =
            ap (λ is. is ++ stack_of sig s ts) q.is
            ∙ ap (λ is. item_of s' o.first ∷ (expand_rest sig s' o.rest ++ is)) (sym (stack_same sig s s' ts (cut_of x) p.2 q.same))
            ∙ ap (λ is. item_of s' o.first ∷ is) (sym (put_stack sig s' o.rest ts));
        good = e.0;
        then = put_stack sig s' r others ∙ ap (λ is. is ++ stack_of sig s' others) (sym e.1);
      };
    }

-- a pile with a task has an item
pub some : (sig : Sig) (s : List ℕ) (ts : List Task) (k : ℕ) → 0 < length ts → Piled sig ts k → (i : Item) × (js : List Item) × (stack_of sig s ts ≡ i ∷ js)
some sig s [] k h p = absurd (omega arith)
some sig s (t ∷ ts) k h p = has t p.1
  where
    front : {X : Type 0} (f : X → Want) (xs : List X) (j : ℕ) → j < length xs → (i : Item) × (js : List Item) × (starts (map f (drop j xs)) ++ stack_of sig s ts ≡ i ∷ js)
    front f [] j h = absurd (omega arith)
    front f (x ∷ xs) zero h = (start (f x), starts (map f xs) ++ stack_of sig s ts, refl)
    front f (x ∷ xs) (suc j) h = front f xs j (omega arith)

    has : (x : Task) → Left sig x → (i : Item) × (js : List Item) × (expand sig s x ++ stack_of sig s ts ≡ i ∷ js)
    has (One w) l = (item_of s w, stack_of sig s ts, refl)
    has (Two ty cut) l = (item Start (take cut s) ty, item Start (take cut s) ty ∷ stack_of sig s ts, refl)
    has (Arguments of con next cut) l = front (want (take cut s)) (arguments sig of con) next l
    has (Parameters of next cut) l = front (want (take cut s)) (params_of sig of) next l
    has (Case of ty cut) l =
        (item Start (take cut s) of, starts (branches_of (take cut s) ty (cases_of sig of)) ++ stack_of sig s ts, refl)
    has (Branches of next ty cut) l = front (λ tys. want (take cut s ++ tys) ty) (cases_of sig of) next l
