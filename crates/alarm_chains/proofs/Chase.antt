-- The chain on its way to a goal: what holds before each pass of the short alarm, and how it ends. Assumes nothing.
use Rattle.std.proofs.Common.{◌≡◌, ℕ, ◌+◌, ◌-◌, ◌*◌, ◌/◌, ◌^◌, ◌<◌, ◌≤◌, Bool, true, false, ◌⊎◌, Some, None, Ok, Option, Result, sym, refl, ap, ◌∙◌, subst, inl, inr, ⊎_elim, add-mul, zero-mul, arith}
use Rattle.std.proofs.lemmas.Nat.{mul-le}
use Rattle.std.proofs.lemmas.Bool.{cases_Bool, cond-false}
use Rattle.times.specs.Places.{capped}
use Rattle.times.proofs.Measures.{Measure, before_place, not_before_place, place_before, place_not_before, same_place}
use Rattle.alarm_chains.specs.Chains.{Counted, goal_due, stage_to}
use Rattle.alarms.specs.Meaning.{Gives, onward, pass_to, set_to}
use Rattle.alarms.specs.declared.faults.AlarmFault.{AlarmFault}
use Rattle.alarms.specs.declared.faults.Passage.{Passage}
use Rattle.alarms.specs.declared.faults.Passage.TheVariants.{Rang, Arrived}
use Rattle.alarm_chains.proofs.Outcomes.{gives_as, onward_arrives, onward_rings, pass_goes}
use Rattle.alarm_chains.proofs.RingCounts.{few_stages, full_stages}
use Rattle.alarm_chains.proofs.Aims.{Aimed, aim_accepted, aimed}

pub record Chase {A : Type 0} (place : A → ℕ) (reach start : ℕ) (goal t clock : A) (due : Option A) (rings : ℕ) : Type 0 where
  pub stage : A
  pub set : due ≡ Some stage
  pub aim : Aimed place reach clock goal stage
  pub stages : start + rings * reach ≡ place clock
  pub forward : place clock ≤ place t
  -- after a ring there is still a way to go
  pub short : (rings ≡ 0) ⊎ ((place clock < place t) × (place clock < place goal))

pub record Ended {A : Type 0} (before : A → A → Bool) (place : A → ℕ) (reach : ℕ) (from goal t clock : A) (due : Option A) (passage : Passage) (rings : ℕ) : Type 0 where
  pub value : Gives (pass_to before from (Some goal) t) (Ok passage) clock (goal_due before due goal)
  pub count : Counted reach (Some goal) (place clock - place from) (Ok (passage, rings))

module _ {A : Type 0} {before : A → A → Bool} {place : A → ℕ} {at : ℕ → Option A} {last : A} (m : Measure before place at last) (reach : ℕ) (goal t clock : A) (due : Option A) (forward : before t clock ≡ false) (ahead : before goal clock ≡ false) where
  module _ {answer : Result (Unit {0}) AlarmFault} {clock' : A} {due' : Option A} (set : Gives (set_to before clock due (stage_to before (capped place at last clock reach) goal)) answer clock' due') where
    pub chase_begins : Chase place reach (place clock') goal t clock' due' 0
    chase_begins =
        let s = aim_accepted m reach clock goal ahead due set in
        let here : place clock' ≡ place clock = ap place s.clocked in
        record {
          stage = stage_to before (capped place at last clock reach) goal;
          set = s.timed;
          aim = subst (λ (c : A). Aimed place reach c goal (stage_to before (capped place at last clock reach) goal)) (sym s.clocked) (aimed m reach clock goal ahead);
          stages = omega (arith, zero-mul reach);
          forward = omega (arith, not_before_place m t clock forward);
          short = inl refl;
        }

module _ {A : Type 0} {before : A → A → Bool} {place : A → ℕ} {at : ℕ → Option A} {last : A} (m : Measure before place at last) {reach start : ℕ} (reaching : 0 < reach) {goal t clock : A} {due : Option A} {rings : ℕ} (h : Chase place reach start goal t clock due rings) where
  -- the stages up to an end within reach of the clock
  counted : (end : A) → (rings ≡ 0) ⊎ (place clock < place end) → place end ≤ place clock + reach → (place end - start - 1) / reach ≡ rings
  counted end short near =
      full_stages (place end - start) reach reaching rings
      (⊎_elim inl (λ (b : place clock < place end). inr (omega (arith, h.stages))) short)
      (omega (arith, h.stages))

  module _ {answer : Result Passage AlarmFault} {clock' : A} {due' : Option A} (gives : Gives (pass_to before clock due t) answer clock' due') where
    at_stage : Gives (onward before (Some h.stage) t) answer clock' due'
    at_stage = gives_as (ap (λ (d : Option A). pass_to before clock d t) h.set ∙ pass_goes before clock (Some h.stage) t (place_not_before m t clock h.forward)) gives

    pub rung : answer ≡ Ok Rang → (clock' ≡ h.stage) × (due' ≡ None) × (place h.stage < place t)
    rung rang =
        ⊎_elim
        (λ (e : before h.stage t ≡ true). let r = gives_as (onward_rings before h.stage t e) at_stage in (r.clocked, r.timed, before_place m h.stage t e))
        (λ (e : before h.stage t ≡ false).
        let r = gives_as (onward_arrives before h.stage t e) at_stage in
        let z : ◌≡◌ {A = ℕ} 0 1 = cc in
        absurd (omega arith))
        (cases_Bool (before h.stage t))

    rested : answer ≡ Ok Arrived → (clock' ≡ t) × (due' ≡ Some h.stage) × (place t ≤ place h.stage)
    rested arrived =
        ⊎_elim
        (λ (e : before h.stage t ≡ true).
        let r = gives_as (onward_rings before h.stage t e) at_stage in
        let z : ◌≡◌ {A = ℕ} 0 1 = cc in
        absurd (omega arith))
        (λ (e : before h.stage t ≡ false). let r = gives_as (onward_arrives before h.stage t e) at_stage in (r.clocked, r.timed, not_before_place m h.stage t e))
        (cases_Bool (before h.stage t))

    pub few_rings : answer ≡ Ok Rang → rings + 1 < 2 ^ 64
    few_rings rang = omega (arith, mul-le rings 1 rings reach (omega arith) reaching, h.stages, h.aim.onward, (rung rang).2, m.places.bounded t, m.places.fits)

    -- short of the goal, the short alarm is set anew
    module _ (rang : answer ≡ Ok Rang) (short : before clock' goal ≡ true) where
      ahead : before goal clock' ≡ false
      ahead = place_not_before m goal clock' (omega (arith, before_place m clock' goal short))

      module _ {answer'' : Result (Unit {0}) AlarmFault} {clock'' : A} {due'' : Option A} (set : Gives (set_to before clock' due' (stage_to before (capped place at last clock' reach) goal)) answer'' clock'' due'') where
        pub set_anew : answer'' ≡ Ok tt
        set_anew = (aim_accepted m reach clock' goal ahead due' set).answered

        pub chase_on : Chase place reach start goal t clock'' due'' (rings + 1)
        chase_on =
            let r = rung rang in
            let s = aim_accepted m reach clock' goal ahead due' set in
            let here : place clock'' ≡ place h.stage = ap place (s.clocked ∙ r.0) in
            let early : place clock' < place goal = before_place m clock' goal short in
            let there : place clock' ≡ place h.stage = ap place r.0 in
            let whole : place h.stage ≡ place clock + reach = ⊎_elim (λ (e : place h.stage ≡ place goal). absurd (omega arith)) (λ (e : place h.stage ≡ place clock + reach). e) h.aim.whole in
            record {
              stage = stage_to before (capped place at last clock' reach) goal;
              set = s.timed;
              aim = subst (λ (c : A). Aimed place reach c goal (stage_to before (capped place at last clock' reach) goal)) (sym s.clocked) (aimed m reach clock' goal ahead);
              stages = omega (arith, add-mul rings 1 reach, h.stages);
              forward = omega (arith, r.2);
              short = inr (omega (arith, r.2), omega arith);
            }

        pub chase_falls : place t - place clock'' < place t - place clock
        chase_falls = omega (arith, h.stages, chase_on.stages, add-mul rings 1 reach, reaching, chase_on.forward)

    module _ (from : A) (begun : start ≡ place from) (forward : before t from ≡ false) where
      since : (end : A) → (rings ≡ 0) ⊎ (place clock < place end) → place end ≤ place clock + reach → (place end - place from - 1) / reach ≡ rings
      since end short near = subst (λ (n : ℕ). (place end - n - 1) / reach ≡ rings) begun (counted end short near)

      pub rang_at_goal : answer ≡ Ok Rang → before clock' goal ≡ false → Ended before place reach from goal t clock' due' Rang (rings + 1)
      rang_at_goal rang reached =
          let r = rung rang in
          let there : place clock' ≡ place h.stage = ap place r.0 in
          let home : place clock' ≡ place goal = omega (arith, h.aim.within, not_before_place m clock' goal reached) in
          let stages = since clock' (⊎_elim inl (λ (b : (place clock < place t) × (place clock < place goal)). inr (omega (arith, b.1))) h.short) (omega (arith, h.aim.near)) in
          record {
            value = gives_as (sym (pass_goes before from (Some goal) t forward ∙ onward_rings before goal t (place_before m goal t (omega (arith, r.2)))))
                (record { answered = refl; clocked = same_place m clock' goal home; timed = ap (λ (d : Option A). goal_due before d goal) r.1 });
            count = (omega (arith, stages), omega (arith, stages, few_stages (place clock' - place from) reach reaching));
          }

      pub arrived_at_t : answer ≡ Ok Arrived → Ended before place reach from goal t clock' due' Arrived rings
      arrived_at_t arrived =
          let r = rested arrived in
          let there : place clock' ≡ place t = ap place r.0 in
          let stages = since clock' (⊎_elim inl (λ (b : (place clock < place t) × (place clock < place goal)). inr (omega (arith, b.0))) h.short) (omega (arith, r.2, h.aim.near)) in
          let kept : goal_due before (Some h.stage) goal ≡ Some goal = cond-false (before goal h.stage) _ _ (place_not_before m goal h.stage h.aim.within) in
          record {
            value = gives_as (sym (pass_goes before from (Some goal) t forward ∙ onward_arrives before goal t (place_not_before m goal t (omega (arith, r.2, h.aim.within)))))
                (record { answered = refl; clocked = r.0; timed = ap (λ (d : Option A). goal_due before d goal) r.1 ∙ kept });
            count = (sym stages, omega (arith, stages, few_stages (place clock' - place from) reach reaching));
          }
