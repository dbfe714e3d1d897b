-- How a set and a pass come out, from the tests that they make. Assumes nothing.
use Rattle.std.proofs.Common.{◌≡◌, ℕ, Bool, true, false, Some, Ok, Err, Option, Result, subst, arith}
use Rattle.std.proofs.lemmas.Bool.{cond-true, cond-false}
use Rattle.alarms.specs.Meaning.{Gives, Outcome, accepted, arrived, onward, pass_to, rang, set_to}

pub gives_as : {R A : Type 0} {x y : Outcome R A} {answer : R} {clock : A} {due : Option A} → x ≡ y → Gives x answer clock due → Gives y answer clock due
gives_as {R} {A} {answer = answer} {clock = clock} {due = due} e = subst (λ (z : Outcome R A). Gives z answer clock due) e

pub not_both : {R E : Type 0} {answer : Result R E} {x : R} {fault : E} → answer ≡ Ok x → answer ≡ Err fault → ⊥
not_both ok err = let clash : ◌≡◌ {A = ℕ} 0 1 = cc in omega arith

module _ {A : Type 0} (before : A → A → Bool) (clock : A) (due : Option A) (t : A) (forward : before t clock ≡ false) where
  pub set_accepts : set_to before clock due t ≡ accepted clock t
  set_accepts = cond-false (before t clock) _ _ forward

  pub pass_goes : pass_to before clock due t ≡ onward before due t
  pass_goes = cond-false (before t clock) _ _ forward

module _ {A : Type 0} (before : A → A → Bool) (due t : A) where
  pub onward_rings : before due t ≡ true → onward before (Some due) t ≡ rang due
  onward_rings e = cond-true (before due t) _ _ e

  pub onward_arrives : before due t ≡ false → onward before (Some due) t ≡ arrived t (Some due)
  onward_arrives e = cond-false (before due t) _ _ e
