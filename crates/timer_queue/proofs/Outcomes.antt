-- From timers that lie in any order to the outcomes of the calls.
use Rattle.std.proofs.Common.{◌≡◌, ℕ, Bool, true, false, not, eqb, ltb, leb, List, [], ◌∷◌, map, length, Some, None, Ok, Err, filter, Option, sym, refl, ap, ◌∙◌, subst, ap₂}
use Rattle.std.specs.List.{AllByRecursion}
use Rattle.std.proofs.ByRecursion.{All-weaker}
use Rattle.std.proofs.lemmas.Bool.{false≢true}
use Rattle.heap_links.specs.declared.timer.Timer.{Timer}
use Rattle.alarms.specs.Meaning.{NotPast}
use Rattle.queue_rules.specs.declared.firing.Firing.{Firing}
use Rattle.queue_rules.specs.declared.fault.QueueFault.{QueueFault}
use Rattle.queue_rules.specs.declared.fault.QueueFault.TheVariants.{AlarmMoved, HardBeforeSoft, SoftPassed, NumberPending, QueueFull, NotPending, AdvancePassed, LogShort}
use Rattle.times.specs.Order.{StrictOrder}
use Rattle.queue_rules.specs.Lists.{Rearranged, then, passes, put, sorted}
use Rattle.queue_rules.specs.Timers.{Distinct, numbered, by_number, least_hard}
use Rattle.queue_rules.specs.WakeUps.{Served, walk}
use Rattle.queue_rules.specs.Calls.{State, given, conclude, same_due, settle, arm_fault, arming, cancel_fault, cancelling, advance_fault, advancing}
use Rattle.timer_queue.specs.Doing.{gives}
use Rattle.timer_queue.specs.Views.{view, arm_refusal, cancel_refusal, advance_refusal}
use Rattle.queue_rules.proofs.Elements.{none_passes, map_all, any_so, any_with}
use Rattle.queue_rules.proofs.Least.{least_none}
use Rattle.queue_rules.proofs.Listing.{least_hard_alike, walk_alike}
use Rattle.queue_rules.proofs.Numbering.{armed_listed, cancelled_listed, distinct_rearranged, sorted_rises, one_rising, passes_rearranged}
use Rattle.queue_rules.proofs.Orders.{le_le, same_is}
use Rattle.queue_rules.proofs.Progress.{Finished, walk_keeps}
use Rattle.queue_rules.proofs.Rearranged.{rearranged_back, length_rearranged, all_rearranged}
use Rattle.queue_rules.proofs.Sorting.{sorted_rearranged}
use Rattle.queue_rules.proofs.Stepping.{eqb_turn}
use Rattle.queue_rules.proofs.Waking.{Proper, next_hard}

-- a call that some test refuses, and one that none does
pub refused_outcome : {R A : Type 0} (f : Option QueueFault) (q : QueueFault) (s : State A) (r : R) (s' : State A) (es : List (Firing A)) → f ≡ Some q →
    conclude f s r s' es ≡ record { answer = Err q; left = s; logged = [] }
refused_outcome f q s r s' es e = ap (λ o. conclude o s r s' es) e

pub taken_outcome : {R A : Type 0} (f : Option QueueFault) (s : State A) (r : R) (s' : State A) (es : List (Firing A)) → f ≡ None →
    conclude f s r s' es ≡ record { answer = Ok r; left = s'; logged = es }
taken_outcome f s r s' es e = ap (λ o. conclude o s r s' es) e

module _ {A : Type 0} (before : A → A → Bool) (o : StrictOrder before) where
  least_listed : (xs : List (Timer A)) → least_hard before (sorted by_number xs) ≡ least_hard before xs
  least_listed xs = sym (least_hard_alike before o (sorted_rearranged by_number xs))

  -- the tests do not depend on the order in which the timers lie
  module _ (u : ℕ) (xs : List (Timer A)) (c : A) (d : Option A) where
    pub arm_refused : (x : Timer A) → arm_fault before (view u xs c d) x ≡ arm_refusal before u xs c d x
    arm_refused x =
        let r = sorted_rearranged by_number xs in
        ap (λ l. given (not (same_due before d l)) AlarmMoved
        (given (before x.hard x.soft) HardBeforeSoft (given (before x.soft c) SoftPassed
        (given (passes (numbered x.number) (sorted by_number xs)) NumberPending (given (leb u (length (sorted by_number xs))) QueueFull None))))) (least_listed xs)
        ∙ ap₂ (λ p n. given (not (same_due before d (least_hard before xs))) AlarmMoved
        (given (before x.hard x.soft) HardBeforeSoft (given (before x.soft c) SoftPassed
        (given p NumberPending (given (leb u n) QueueFull None)))))
        (sym (passes_rearranged (numbered x.number) r)) (sym (length_rearranged r))

    pub cancel_refused : (n : ℕ) → cancel_fault before (view u xs c d) n ≡ cancel_refusal before u xs c d n
    cancel_refused n =
        ap₂ (λ l p. given (not (same_due before d l)) AlarmMoved (given (not p) NotPending None))
        (least_listed xs) (sym (passes_rearranged (numbered n) (sorted_rearranged by_number xs)))

    pub advance_refused : (t : A) (room : ℕ) → advance_fault before (view u xs c d) t room ≡ advance_refusal before u xs c d t room
    advance_refused t room =
        ap₂ (λ l n. given (not (same_due before d l)) AlarmMoved (given (before t c) AdvancePassed (given (ltb room n) LogShort None)))
        (least_listed xs) (sym (length_rearranged (sorted_rearranged by_number xs)))

    -- a call that its test refuses
    pub arm_turned : (x : Timer A) (f : QueueFault) → Some f ≡ arm_refusal before u xs c d x → arming before (view u xs c d) x ≡ gives (Err f) (view u xs c d) []
    arm_turned x f e =
        let s : State A = view u xs c d in
        refused_outcome (arm_fault before s x) f s tt (settle before s (put by_number x s.pending) c) [] (arm_refused x ∙ sym e)

    pub cancel_turned : (n : ℕ) (f : QueueFault) → Some f ≡ cancel_refusal before u xs c d n → cancelling before (view u xs c d) n ≡ gives (Err f) (view u xs c d) []
    cancel_turned n f e =
        let s : State A = view u xs c d in
        refused_outcome (cancel_fault before s n) f s tt (settle before s (filter (λ y. not (numbered n y)) s.pending) c) [] (cancel_refused n ∙ sym e)

    pub advance_turned : (t : A) (room : ℕ) (f : QueueFault) → Some f ≡ advance_refusal before u xs c d t room →
        advancing before (view u xs c d) t room ≡ gives (Err f) (view u xs c d) []
    advance_turned t room f e =
        let s : State A = view u xs c d in
        let w : Served A = walk before t s.pending in
        refused_outcome (advance_fault before s t room) f s (length w.wakes, length w.entries) (settle before s w.pending t) w.entries (advance_refused t room ∙ sym e)

    -- a timer more, and the alarm due at the least hard time
    pub arm_taken : (x : Timer A) (ys : List (Timer A)) → arm_refusal before u xs c d x ≡ None → Rearranged ys (x ∷ xs) → Distinct ys →
        arming before (view u xs c d) x ≡ record { answer = Ok tt; left = view u ys c (least_hard before ys); logged = [] }
    arm_taken x ys e r n =
        let s : State A = view u xs c d in
        let p = armed_listed xs ys x r n in
        taken_outcome (arm_fault before s x) s tt (settle before s (put by_number x s.pending) c) [] (arm_refused x ∙ e)
        ∙ ap₂ (λ l h. record { answer = Ok tt; left = record { usable = u; pending = l; clock = c; due = h }; logged = [] }) (sym p)
        (ap (least_hard before) (sym p) ∙ least_listed ys)

    pub cancel_taken : (x : Timer A) (ys : List (Timer A)) (n : ℕ) → cancel_refusal before u xs c d n ≡ None → Rearranged xs (x ∷ ys) → Distinct xs → x.number ≡ n →
        cancelling before (view u xs c d) n ≡ record { answer = Ok tt; left = view u ys c (least_hard before ys); logged = [] }
    cancel_taken x ys n e r k q =
        let s : State A = view u xs c d in
        let p = cancelled_listed xs ys x n r k q in
        taken_outcome (cancel_fault before s n) s tt (settle before s (filter (λ y. not (numbered n y)) s.pending) c) [] (cancel_refused n ∙ e)
        ∙ ap₂ (λ l h. record { answer = Ok tt; left = record { usable = u; pending = l; clock = c; due = h }; logged = [] }) (sym p)
        (ap (least_hard before) (sym p) ∙ least_listed ys)

    pub advance_taken : (t : A) (room n : ℕ) (fs : List (Firing A)) (ys : List (Timer A)) → advance_refusal before u xs c d t room ≡ None →
        Distinct xs → Proper before o xs → Distinct ys → Finished before o t xs n fs ys →
        advancing before (view u xs c d) t room ≡ record { answer = Ok (n, length fs); left = view u ys t (least_hard before ys); logged = fs }
    advance_taken t room n fs ys e k p k' f =
        let s : State A = view u xs c d in
        let r = sorted_rearranged by_number xs in
        let q : Served A = walk before t (sorted by_number xs) in
        let a = walk_alike before o t (sorted by_number xs) xs (distinct_rearranged r k) (rearranged_back r) in
        let rest : Rearranged q.pending ys = then a.pending f.rest in
        let wakes : length q.wakes ≡ n = ap length a.wakes ∙ f.wakes in
        let entries : q.entries ≡ fs = a.entries ∙ f.entries in
        let pending : q.pending ≡ sorted by_number ys =
        sym (one_rising ys q.pending k' (rearranged_back rest)
        (walk_keeps before o t (λ x y. by_number x y ≡ true) (sorted by_number xs) (all_rearranged _ r p) (sorted_rises xs k))) in
        let due : least_hard before q.pending ≡ least_hard before ys = least_hard_alike before o rest in
        taken_outcome (advance_fault before s t room) s (length q.wakes, length q.entries) (settle before s q.pending t) q.entries (advance_refused t room ∙ e)
        ∙ ap₂ (λ w es. record { answer = Ok (w, length es); left = settle before s q.pending t; logged = es }) wakes entries
        ∙ ap₂ (λ l h. record { answer = Ok (n, length fs); left = record { usable = u; pending = l; clock = t; due = h }; logged = fs }) pending due

  -- no pending hard time is before the clock, if the least is not
  pub ahead_all : (c : A) (xs : List (Timer A)) → NotPast before c (least_hard before xs) → AllByRecursion (λ x. before x.hard c ≡ false) xs
  ahead_all c xs h = by (least_hard before xs) refl h
    where
      by : (l : Option A) → least_hard before xs ≡ l → NotPast before c l → AllByRecursion (λ x. before x.hard c ≡ false) xs
      by None e n = map_all (λ x. x.hard) (λ a. before a c ≡ false) xs (subst (AllByRecursion (λ a. before a c ≡ false)) (sym (least_none before o (map (λ x. x.hard) xs) e)) tt)
      by (Some w) e n = All-weaker (λ x. before x.hard w ≡ false) (λ x. before x.hard c ≡ false) (λ x b. le_le before o c w x.hard n b) xs (next_hard before o xs w e).bounds

  pub all_ahead : (c : A) (xs : List (Timer A)) → AllByRecursion (λ x. before x.hard c ≡ false) xs → NotPast before c (least_hard before xs)
  all_ahead c xs h = by (least_hard before xs) refl
    where
      by : (l : Option A) → least_hard before xs ≡ l → NotPast before c l
      by None e = tt
      by (Some w) e =
          any_so {P = λ x. (before x.hard c ≡ false) × (x.hard ≡ w)} (before w c ≡ false) (λ x p. subst (λ a. before a c ≡ false) p.1 p.0) xs
          (any_with (λ x a b. (a, b)) xs h (next_hard before o xs w e).stands)

  -- a due time that passes the test is the least hard time
  pub due_as_left : (d l : Option A) → same_due before d l ≡ true → d ≡ l
  due_as_left None None e = refl
  due_as_left None (Some b) e = absurd (false≢true e)
  due_as_left (Some a) None e = absurd (false≢true e)
  due_as_left (Some a) (Some b) e = ap Some (same_is before o a b e)

-- a number that no timer has
pub distinct_armed : {A : Type 0} (x : Timer A) (xs : List (Timer A)) → passes (numbered x.number) xs ≡ false → Distinct xs → Distinct (x ∷ xs)
distinct_armed x xs h d =
    (All-weaker (λ y. numbered x.number y ≡ false) (λ y. eqb x.number y.number ≡ false) (λ y f. eqb_turn y.number x.number f) xs (none_passes (numbered x.number) xs h), d)
