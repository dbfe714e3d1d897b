-- A timer that passes the tests and enters the slots is armed.
use Rattle.std.proofs.Common.{◌≡◌, ℕ, Bool, false, not, List, [], ◌∷◌, None, Ok, Option, sym, ap, ◌∙◌, subst, ap₂}
use Rattle.std.specs.List.{AllByRecursion}
use Rattle.std.proofs.lemmas.Bool.{not-false}
use Rattle.alarms.specs.Meaning.{NotPast}
use Rattle.heap_links.specs.declared.timer.Timer.{Timer}
use Rattle.slot_heaps.specs.Pending.{Inserted}
use Rattle.times.specs.Order.{StrictOrder}
use Rattle.queue_rules.specs.declared.fault.QueueFault.{QueueFault}
use Rattle.queue_rules.specs.declared.fault.QueueFault.TheVariants.{AlarmMoved, HardBeforeSoft, SoftPassed, NumberPending}
use Rattle.queue_rules.specs.Calls.{same_due, arming}
use Rattle.timer_queue.specs.Doing.{gives}
use Rattle.queue_rules.specs.Lists.{Rearranged, passes}
use Rattle.queue_rules.specs.Timers.{Distinct, numbered, least_hard}
use Rattle.timer_queue.specs.Views.{view, moved, arm_refusal}
use Rattle.timer_queue.proofs.Inserting.{inserted_rearranged}
use Rattle.queue_rules.proofs.Numbering.{distinct_rearranged}
use Rattle.queue_rules.proofs.Orders.{le_le}
use Rattle.timer_queue.proofs.Outcomes.{arm_taken, ahead_all, all_ahead, due_as_left, distinct_armed}
use Rattle.queue_rules.proofs.Rearranged.{all_rearranged, rearranged_back}
use Rattle.queue_rules.proofs.Stepping.{given_none}
use Rattle.queue_rules.proofs.Waking.{Proper}

-- one view by equal parts
pub view_is : {A : Type 0} (u u' : ℕ) (xs : List (Timer A)) (c c' : A) (d d' : Option A) → u' ≡ u → c' ≡ c → d' ≡ d → view u xs c d ≡ view u' xs c' d'
view_is u u' xs c c' d d' p q r = ap (λ n. view n xs c d) (sym p) ∙ ap₂ (view u' xs) (sym q) (sym r)

module _ {A : Type 0} (before : A → A → Bool) (o : StrictOrder before) where
  -- the alarm is due at the least hard time, and no hard time is before the clock
  pub kept_due : (xs : List (Timer A)) (d : Option A) (f : Option QueueFault) → moved before xs d f ≡ None → (d ≡ least_hard before xs) × (f ≡ None)
  kept_due xs d f e =
      let g = given_none (not (same_due before d (least_hard before xs))) AlarmMoved f e in
      (due_as_left before o d (least_hard before xs) (not-false (same_due before d (least_hard before xs)) g.0), g.1)

  pub still_ahead : (xs : List (Timer A)) (c : A) (d : Option A) → d ≡ least_hard before xs → NotPast before c d → AllByRecursion (λ x. before x.hard c ≡ false) xs
  still_ahead xs c d e n = ahead_all before o c xs (subst (NotPast before c) e n)

  module _ (u : ℕ) (xs ys : List (Timer A)) (c : A) (d : Option A) (x : Timer A) (free : arm_refusal before u xs c d x ≡ None)
      (ahead : NotPast before c d) (in_place : Inserted x xs ys) (distinct : Distinct xs) (proper : Proper before o xs) where
    tests : (d ≡ least_hard before xs) × (before x.hard x.soft ≡ false) × (before x.soft c ≡ false) × (passes (numbered x.number) xs ≡ false)
    tests =
        let a = kept_due xs d _ free in
        let b = given_none (before x.hard x.soft) HardBeforeSoft _ a.1 in
        let e = given_none (before x.soft c) SoftPassed _ b.1 in
        let f = given_none (passes (numbered x.number) xs) NumberPending _ e.1 in
        (a.0, b.0, e.0, f.0)

    placed : Rearranged ys (x ∷ xs)
    placed = inserted_rearranged x xs ys in_place

    pub entered_distinct : Distinct ys
    entered_distinct = distinct_rearranged (rearranged_back placed) (distinct_armed x xs tests.3 distinct)

    pub entered_proper : Proper before o ys
    entered_proper = all_rearranged _ (rearranged_back placed) (tests.1, proper)

    -- so that the alarm can be set to the least hard time
    pub entered_ahead : NotPast before c (least_hard before ys)
    entered_ahead =
        all_ahead before o c ys (all_rearranged (λ y. before y.hard c ≡ false) (rearranged_back placed)
        (le_le before o c x.soft x.hard tests.2 tests.1, still_ahead xs c d tests.0 ahead))

    pub entered : (u' : ℕ) (c' : A) (d' : Option A) → u' ≡ u → c' ≡ c → d' ≡ least_hard before ys →
        arming before (view u xs c d) x ≡ gives (Ok tt) (view u' ys c' d') []
    entered u' c' d' p q r =
        arm_taken before o u xs c d x ys free placed entered_distinct
        ∙ ap (λ s. gives (Ok tt) s []) (view_is u u' ys c c' (least_hard before ys) d' p q r)
