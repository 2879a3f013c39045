-- What the walk over the trail writes: at each place the clauses that served so far have the time, and the others stay.
use Rattle.std.proofs.Common.{◌≡◌, ℕ, ◌+◌, ◌/◌, ◌<◌, ◌≤◌, ◌⊎◌, Bool, true, false, List, length, get_or, set, refl, sym, ap, ◌∙◌, subst, ⊎_elim, inl, inr, arith, get_or-set_same, get_or-set_other, length-set}
use Rattle.std.proofs.lemmas.Bool.{cases_eq, cases_lt}
use Rattle.std.proofs.lemmas.List.{get_or_past}
use Rattle.trail.specs.Trails.{step_at}
use Rattle.trail.specs.declared.step.Reason.TheVariants.{Clause}
use Rattle.trail.specs.declared.step.Step.{Step}
use Rattle.propagate.specs.declared.watches.TheConstants.{UNWATCHED}
use Rattle.propagate.specs.declared.watches.Watched.{Watched}
use Rattle.propagate.specs.declared.watches.Watches.{Watches}
use Rattle.propagate.specs.Uses.{entry, timed, Served, Alike, Noted}

alike_same : (e f g : Watched) → Alike e f → g ≡ f → Alike e g
alike_same e f g a same = subst (Alike e) (sym same) a

alike_timed : (e f g : Watched) (now : ℕ) → Alike e f → g ≡ timed f now → Alike e g
alike_timed e f g now a same = record {
  next = ap (λ (z : Watched). z.next) same ∙ a.next;
  literals = ap (λ (z : Watched). z.literals) same ∙ a.literals;
  from = ap (λ (z : Watched). z.from) same ∙ a.from;
  glue = ap (λ (z : Watched). z.glue) same ∙ a.glue;
}

-- a place of a list of which one place was written
at_set : (xs : List Watched) (c k : ℕ) (e d : Watched) → ((k ≡ c) × (get_or (set xs c e) k d ≡ e)) ⊎ ((k ≡ c → length xs ≤ c) × (get_or (set xs c e) k d ≡ get_or xs k d))
at_set xs c k e d =
    ⊎_elim
    (λ is. ⊎_elim
    (λ lt. inl (is, subst (λ z. get_or (set xs c e) z d ≡ e) (sym is) (get_or-set_same xs c e d lt)))
    (λ past. inr (
      λ same. past,
      subst (λ z. get_or (set xs c e) z d ≡ get_or xs z d) (sym is)
          (get_or_past (set xs c e) c d (subst (λ n. n ≤ c) (sym (length-set xs c e)) past) ∙ sym (get_or_past xs c d past)),
    ))
    (cases_lt c (length xs)))
    (λ ne. inr (λ same. absurd (ne same), get_or-set_other xs c k e d ne))
    (cases_eq k c)

pub noted_none : (w : Watches) (steps : List Step) (seen : List Bool) (now : ℕ) → Noted w w steps seen 0 now
noted_none w steps seen now = record {
  lists = refl;
  long = refl;
  alike = λ c. record { next = refl; literals = refl; from = refl; glue = refl };
  served = λ c lt s. let no : s.0 < 0 = s.1 in absurd (omega arith);
  others = λ c h. refl;
}

-- a seen variable's step shows that the clause c served
abbrev pub Shows : Step → List Bool → ℕ → Type 0
Shows x seen c = (x.reason ≡ Clause c) × (get_or seen (x.literal / 2) false ≡ true)

-- from the first n steps to one more, which is x
module _ (w u v : Watches) (steps : List Step) (seen : List Bool) (n now : ℕ) (x : Step) (is : step_at steps n ≡ x) (h : Noted w u steps seen n now) where
  more : (c : ℕ) → Served steps seen n c → Served steps seen (n + 1) c
  more c s = let lt : s.0 < n = s.1 in (s.0, omega arith, s.2, s.3)

  -- a clause that served up to n + 1 did so up to n, or at n
  last : (c : ℕ) → Served steps seen (n + 1) c → Served steps seen n c ⊎ Shows x seen c
  last c s =
      let lt : s.0 < n + 1 = s.1 in
      ⊎_elim
      (λ at. inr (subst (λ z. Shows z seen c) is (subst (λ j. Shows (step_at steps j) seen c) at (s.2, s.3))))
      (λ ne. inl (s.0, omega arith, s.2, s.3))
      (cases_eq s.0 n)

  -- no clause served at n
  pub noted_skip : ((c : ℕ) → Shows x seen c → ⊥) → Noted w u steps seen (n + 1) now
  noted_skip none = record {
    lists = h.lists;
    long = h.long;
    alike = h.alike;
    served = λ c lt s. ⊎_elim (λ old. h.served c lt old) (λ new. absurd (none c new)) (last c s);
    others = λ c no. h.others c (λ s. no (more c s));
  }

  -- the clause c served at n
  module _ (c : ℕ) (shows : Shows x seen c) (first : v.first ≡ u.first) (clauses : v.clauses.items ≡ set u.clauses.items c (timed (entry u c) now)) where
    at : (k : ℕ) → ((k ≡ c) × (entry v k ≡ timed (entry u k) now)) ⊎ ((k ≡ c → length u.clauses.items ≤ c) × (entry v k ≡ entry u k))
    at k =
        let read : entry v k ≡ get_or (set u.clauses.items c (timed (entry u c) now)) k UNWATCHED = ap (λ xs. get_or xs k UNWATCHED) clauses in
        ⊎_elim
        (λ z. inl (z.0, read ∙ z.1 ∙ ap (λ j. timed (entry u j) now) (sym z.0)))
        (λ z. inr (z.0, read ∙ z.1))
        (at_set u.clauses.items c k (timed (entry u c) now) UNWATCHED)

    here : Served steps seen (n + 1) c
    here = let z = subst (λ y. Shows y seen c) (sym is) shows in (n, omega arith, z.0, z.1)

    same : (k : ℕ) → Shows x seen k → k ≡ c
    same k z = let both : Clause k ≡ Clause c = sym z.0 ∙ shows.0 in cc

    pub noted_stamp : Noted w v steps seen (n + 1) now
    noted_stamp = record {
      lists = first ∙ h.lists;
      long = ap (λ xs. length xs) clauses ∙ length-set u.clauses.items c (timed (entry u c) now) ∙ h.long;
      alike = λ k. ⊎_elim (λ z. alike_timed (entry w k) (entry u k) (entry v k) now (h.alike k) z.1) (λ z. alike_same (entry w k) (entry u k) (entry v k) (h.alike k) z.1) (at k);
      served = λ k lt s. ⊎_elim
          (λ z. ap (λ (e : Watched). e.used) z.1)
          (λ z. ap (λ (e : Watched). e.used) z.1 ∙ ⊎_elim
          (λ old. h.served k lt old)
          (λ new. let is = same k new in let past = z.0 is in let long = h.long in absurd (omega arith))
          (last k s))
          (at k);
      others = λ k no. ⊎_elim
          (λ z. absurd (no (subst (Served steps seen (n + 1)) (sym z.0) here)))
          (λ z. ap (λ (e : Watched). e.used) z.1 ∙ h.others k (λ s. no (more k s)))
          (at k);
    }
