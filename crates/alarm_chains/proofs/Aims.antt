-- A stage of the chain: as far as the short alarm reaches, or the goal. Assumes nothing.
use Rattle.std.proofs.Common.{◌≡◌, ℕ, ◌+◌, ◌≤◌, Bool, false, ◌⊎◌, Some, None, Option, Result, unwrap_or, refl, inl, inr, arith}
use Rattle.std.proofs.lemmas.Bool.{cond_both}
use Rattle.times.specs.Places.{capped}
use Rattle.times.proofs.Measures.{Measure, before_place, not_before_place, place_not_before}
use Rattle.alarm_chains.specs.Chains.{stage_to}
use Rattle.alarms.specs.Meaning.{Gives, accepted, set_to}
use Rattle.alarms.specs.declared.faults.AlarmFault.{AlarmFault}
use Rattle.alarm_chains.proofs.Outcomes.{gives_as, set_accepts}

pub record Aimed {A : Type 0} (place : A → ℕ) (reach : ℕ) (clock goal stage : A) : Type 0 where
  pub onward : place clock ≤ place stage
  pub within : place stage ≤ place goal
  pub near : place stage ≤ place clock + reach
  -- the last stage, or a full one
  pub whole : (place stage ≡ place goal) ⊎ (place stage ≡ place clock + reach)

module _ {A : Type 0} {before : A → A → Bool} {place : A → ℕ} {at : ℕ → Option A} {last : A} (m : Measure before place at last) (reach : ℕ) (clock goal : A) (ahead : before goal clock ≡ false) where
  from_reach : (furthest : Option A) → at (place clock + reach) ≡ furthest → Aimed place reach clock goal (stage_to before (unwrap_or furthest last) goal)
  from_reach None e =
      cond_both (before last goal) last goal (Aimed place reach clock goal)
      (λ b. absurd (omega (arith, before_place m last goal b, m.places.bounded goal)))
      (λ b. record { onward = not_before_place m goal clock ahead; within = omega arith; near = omega (arith, m.places.past (place clock + reach) e, m.places.bounded goal); whole = inl refl })
  from_reach (Some f) e =
      let there = m.places.found (place clock + reach) f e in
      cond_both (before f goal) f goal (Aimed place reach clock goal)
      (λ b. record { onward = omega arith; within = omega (arith, before_place m f goal b); near = omega arith; whole = inr there })
      (λ b. record { onward = not_before_place m goal clock ahead; within = omega arith; near = omega (arith, not_before_place m f goal b); whole = inl refl })

  pub aimed : Aimed place reach clock goal (stage_to before (capped place at last clock reach) goal)
  aimed = from_reach (at (place clock + reach)) refl

  -- so it is never refused
  pub aim_accepted : (due : Option A) {answer : Result (Unit {0}) AlarmFault} {clock' : A} {due' : Option A} → Gives (set_to before clock due (stage_to before (capped place at last clock reach) goal)) answer clock' due' → Gives (accepted clock (stage_to before (capped place at last clock reach) goal)) answer clock' due'
  aim_accepted due = gives_as (set_accepts before clock due _ (place_not_before m _ clock aimed.onward))
