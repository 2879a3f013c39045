-- A typed term names only unknowns that are declared, and so do the bodies and goals of a lawful problem. Assumes nothing.
use Rattle.std.proofs.Common.{ℕ, zero, suc, ◌<◌, List, [], ◌∷◌, length, get_or}
use Rattle.syntax.specs.Terms.{Term, var, unknown, con, call, case, both, not, equal, Terms, t[], ◌t∷◌}
use Rattle.syntax.specs.Typing.{Sig, Want, Typed, AllTyped, each_of, branches_of, params_of, arguments, cases_of}
use Rattle.syntax.specs.Problems.{Function, sig_of, Each, LawfulFunction, LawfulGoal}
use Rattle.judging.specs.Held.{missing, no_function}
use Rattle.judging.specs.Scope.{Scoped, AllScoped, LawfulScoped}

module _ (sig : Sig) where
  abbrev N : ℕ → Type 0
  N k = k < length sig.unknowns

  mutual
    typed_scoped : (t : Term) (s : List ℕ) (ty : ℕ) → Typed sig s ty t → Scoped N t
    typed_scoped (var v) s ty h = tt
    typed_scoped (unknown k) s ty h = h.0
    typed_scoped (con t c ts) s ty h = all_scoped ts (each_of s (arguments sig ty c)) h.2
    typed_scoped (call f ts) s ty h = all_scoped ts (each_of s (params_of sig f)) h.2
    typed_scoped (case t a bs) s ty h = (typed_scoped a s t h.1, all_scoped bs (branches_of s ty (cases_of sig t)) h.2)
    typed_scoped (both a b) s ty h = (typed_scoped a s 0 h.1, typed_scoped b s 0 h.2)
    typed_scoped (not a) s ty h = typed_scoped a s 0 h.1
    typed_scoped (equal t a b) s ty h = (typed_scoped a s t h.2, typed_scoped b s t h.3)

    all_scoped : (ts : Terms) (ws : List Want) → AllTyped sig ws ts → AllScoped N ts
    all_scoped t[] ws h = tt
    all_scoped (t t∷ ts) [] h = absurd h
    all_scoped (t t∷ ts) (w ∷ ws) h = (typed_scoped t w.scope w.ty h.1, all_scoped ts ws h.2)

  bodies_scoped : (fs : List Function) (f : ℕ) → Each (LawfulFunction sig) fs → Scoped N (get_or fs f no_function).body
  bodies_scoped [] f h = tt
  bodies_scoped (x ∷ fs) zero h = typed_scoped x.body x.profile.params x.profile.result h.0.2.typed
  bodies_scoped (x ∷ fs) (suc f) h = bodies_scoped fs f h.1

  goals_scoped : (gs : List Term) (g : ℕ) → Each (LawfulGoal sig) gs → Scoped N (get_or gs g missing)
  goals_scoped [] g h = tt
  goals_scoped (x ∷ gs) zero h = typed_scoped x [] 0 h.0.typed
  goals_scoped (x ∷ gs) (suc g) h = goals_scoped gs g h.1

pub lawful_scoped : LawfulScoped
lawful_scoped p lawful =
    (λ f. bodies_scoped (sig_of p) p.functions f lawful.of_functions, λ g. goals_scoped (sig_of p) p.goals g lawful.of_goals)
