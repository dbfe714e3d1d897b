-- An arming and a cancel each take a step, and so does a call that is refused.
use Rattle.std.proofs.Common.{◌≡◌, ℕ, Bool, true, false, not, ◌&&◌, ◌||◌, eqb, ltb, leb, List, [], length, is_ok, Some, None, filter, Option, sym, refl, ap, ◌∙◌, subst, inl, inr, ⊎_elim, arith}
use Rattle.std.specs.List.{AllByRecursion}
use Rattle.std.proofs.ByRecursion.{All-weaker, all_kept_by, kept_by_passes}
use Rattle.std.proofs.lemmas.Bool.{both_ways, cases_Bool, not-true, not_from_false, eqb-true, eqb-false, eq-eqb, ne_eqb, ltb-true, leb-false}
use Rattle.heap_links.specs.declared.timer.Timer.{Timer}
use Rattle.queue_rules.specs.declared.fault.QueueFault.{QueueFault}
use Rattle.queue_rules.specs.declared.fault.QueueFault.TheVariants.{AlarmMoved, HardBeforeSoft, SoftPassed, NumberPending, QueueFull, NotPending}
use Rattle.times.specs.Order.{StrictOrder}
use Rattle.queue_rules.specs.Lists.{Any, Pairwise, passes, put}
use Rattle.queue_rules.specs.Timers.{Distinct, numbered, by_number, least_hard}
use Rattle.queue_rules.specs.Calls.{State, given, conclude, same_due, as_left, settle, arm_fault, cancel_fault}
use Rattle.queue_rules.specs.States.{Standing}
use Rattle.queue_rules.specs.Events.{Deed, armed, cancelled, Event, event}
use Rattle.queue_rules.specs.Histories.{logged, woken, course, dropped_by, tries, of}
use Rattle.queue_rules.specs.Claims.{Counted}
use Rattle.queue_rules.proofs.Elements.{In, all_in, all_from_in, in_kept, kept_in, pairwise_kept, pairwise_weaker, kept_short, none_passes}
use Rattle.queue_rules.proofs.Orders.{number_order, same_itself, le_le}
use Rattle.queue_rules.proofs.Rearranged.{length_rearranged, all_rearranged, in_rearranged}
use Rattle.queue_rules.proofs.Sorting.{put_rearranged, put_rises}
use Rattle.queue_rules.proofs.Walking.{Past}
use Rattle.queue_rules.proofs.Stabbing.{Over}
use Rattle.queue_rules.proofs.Invariant.{Quiet, Treated, Origin, Step}

pub given_none : (b : Bool) (f : QueueFault) (r : Option QueueFault) → given b f r ≡ None → (b ≡ false) × (r ≡ None)
given_none true f r e = (cc, cc)
given_none false f r e = (refl, e)

pub eqb_turn : (a b : ℕ) → eqb a b ≡ false → eqb b a ≡ false
eqb_turn a b h = ⊎_elim (λ t. absurd (both_ways (eqb a b) h (eq-eqb a b (sym (eqb-true b a t))))) (λ f. f) (cases_Bool (eqb b a))

module _ {A : Type 0} (before : A → A → Bool) (o : StrictOrder before) where
  same_due_itself : (d : Option A) → same_due before d d ≡ true
  same_due_itself None = refl
  same_due_itself (Some a) = same_itself before o a

  pub alarm_as_left : (s : State A) → Standing before s → as_left before s ≡ true
  alarm_as_left s h = ap (λ d. same_due before d (least_hard before s.pending)) h.due ∙ same_due_itself (least_hard before s.pending)

  pub standing_distinct : (s : State A) → Standing before s → Distinct s.pending
  standing_distinct s h =
      pairwise_weaker (λ p q. by_number p q ≡ true) (λ p q. eqb p.number q.number ≡ false)
      (λ p q l. ne_eqb p.number q.number (λ e. omega (arith, ltb-true p.number q.number l))) s.pending h.rising

  -- fewer timers, at a clock that no hard time of theirs is before
  pub standing_kept : (s : State A) (test : Timer A → Bool) (c : A) → Standing before s → AllByRecursion (λ p. before p.hard c ≡ false) (filter test s.pending) →
      Standing before (settle before s (filter test s.pending) c)
  standing_kept s test c h a =
      let short = kept_short test s.pending in
      let room = h.few in
      record { rising = pairwise_kept test _ s.pending h.rising; few = omega arith; proper = all_kept_by test _ s.pending h.proper; ahead = a; due = refl }

  -- a deed that does nothing, and tries no cancel of a pending timer
  pub record Idle (s : State A) (d : Deed A) : Type 0 where
    pub unlogged : logged d ≡ []
    pub unwoken : woken d ≡ 0
    pub unarmed : course d [] ≡ []
    pub undropped : (n : ℕ) (r : Bool) → dropped_by n d r ≡ r
    pub untried : AllByRecursion (λ p. tries p.number d ≡ false) s.pending
    pub counted : Counted d

  pub idle_step : (s : State A) (d : Deed A) → Standing before s → Idle s d → Step before o s (event d s.clock) s
  idle_step s d h idle =
      let quiet : (p : Timer A) → In s.pending p → Quiet before o (event d s.clock) p = λ p i. record {
        unlogged = ap (filter (of before p)) idle.unlogged;
        undropped = idle.undropped p.number;
        untried = all_in (λ q. tries q.number d ≡ false) p s.pending idle.untried i;
        ahead = all_in (λ q. before q.hard s.clock ≡ false) p s.pending h.ahead i;
      } in
      record {
        sound = h;
        usable = refl;
        now = refl;
        onward = o.irreflexive s.clock;
        treated = all_from_in (Treated before o (event d s.clock) s) s.pending (λ p i. inl (i, quiet p i));
        fresh = subst (AllByRecursion (λ k. In s.pending k.timer)) (sym idle.unarmed) tt;
        origins = all_from_in (Origin before o s (event d s.clock)) s.pending (λ p i. inl (i, quiet p i));
        logs = subst (AllByRecursion (λ f. Any _ s.pending)) (sym idle.unlogged) tt;
        counts = ap (λ l. length (filter (λ f. f.mark) l)) idle.unlogged ∙ sym idle.unwoken;
        apart = subst (λ l. Pairwise (Over before o) (filter (λ f. f.mark) l)) (sym idle.unlogged) tt;
        over = subst (λ l. AllByRecursion (λ f. Past before o f.hard s.clock s.pending) (filter (λ f. f.mark) l)) (sym idle.unlogged) tt;
        counted = idle.counted;
      }

  module _ (s : State A) (h : Standing before s) where
    -- each clause of a call's tests that refused nothing did not hold
    pub alarm_kept : (r : Option QueueFault) → given (not (as_left before s)) AlarmMoved r ≡ r
    alarm_kept r = ap (λ b. given (not b) AlarmMoved r) (alarm_as_left s h)

    module _ (x : Timer A) (passed : arm_fault before s x ≡ None) where
      abbrev holding : List (Timer A)
      holding = put by_number x s.pending

      abbrev armed_event : Event A
      armed_event = event (armed true x) s.clock

      tests : (before x.hard x.soft ≡ false) × (before x.soft s.clock ≡ false) × (passes (numbered x.number) s.pending ≡ false) ×
          (leb s.usable (length s.pending) ≡ false)
      tests =
          let a = given_none (before x.hard x.soft) HardBeforeSoft _ (sym (alarm_kept _) ∙ passed) in
          let b = given_none (before x.soft s.clock) SoftPassed _ a.1 in
          let c = given_none (passes (numbered x.number) s.pending) NumberPending _ b.1 in
          let d = given_none (leb s.usable (length s.pending)) QueueFull _ c.1 in
          (a.0, b.0, c.0, d.0)

      others : AllByRecursion (λ p. eqb x.number p.number ≡ false) s.pending
      others =
          All-weaker (λ p. eqb p.number x.number ≡ false) (λ p. eqb x.number p.number ≡ false) (λ p. eqb_turn p.number x.number) s.pending
          (none_passes (numbered x.number) s.pending tests.2)

      arm_quiet : (p : Timer A) → In s.pending p → Quiet before o armed_event p
      arm_quiet p i = record {
        unlogged = refl;
        undropped = λ r. ap (λ b. not b && r) (all_in (λ q. eqb x.number q.number ≡ false) p s.pending others i);
        untried = refl;
        ahead = all_in (λ q. before q.hard s.clock ≡ false) p s.pending h.ahead i;
      }

      arm_sound : Standing before (settle before s holding s.clock)
      arm_sound =
          let r = put_rearranged by_number x s.pending in
          record {
            due = refl;
            rising = put_rises (λ p. p.number) ltb number_order x s.pending
                (All-weaker (λ p. eqb x.number p.number ≡ false) (λ p. x.number ≡ p.number → ⊥) (λ p. eqb-false x.number p.number) s.pending others) h.rising;
            few = omega (arith, length_rearranged r, leb-false s.usable (length s.pending) tests.3);
            proper = all_rearranged (λ p. before p.hard p.soft ≡ false) r (tests.0, h.proper);
            ahead = all_rearranged (λ p. before p.hard s.clock ≡ false) r (le_le before o s.clock x.soft x.hard tests.1 tests.0, h.ahead);
          }

      arm_accepted : Step before o s armed_event (settle before s holding s.clock)
      arm_accepted =
          let r = put_rearranged by_number x s.pending in
          record {
            sound = arm_sound;
            usable = refl;
            now = refl;
            onward = o.irreflexive s.clock;
            treated = all_from_in (Treated before o armed_event (settle before s holding s.clock)) s.pending (λ p i. inl (in_rearranged p r (inr i), arm_quiet p i));
            fresh = (in_rearranged x r (inl refl), tt);
            origins = all_rearranged (Origin before o s armed_event) r
                (inr (inl refl, tests.1), all_from_in (Origin before o s armed_event) s.pending (λ p i. inl (i, arm_quiet p i)));
            logs = tt;
            counts = refl;
            apart = tt;
            over = tt;
            counted = tt;
          }

    pub arm_taken : (x : Timer A) (r : Option QueueFault) → arm_fault before s x ≡ r →
        let q = conclude {R = Unit {0}} r s tt (settle before s (put by_number x s.pending) s.clock) [] in
        Step before o s (event (armed (is_ok q.answer) x) q.left.clock) q.left
    arm_taken x None e = arm_accepted x e
    arm_taken x (Some f) e =
        idle_step s (armed false x) h
        (record { unlogged = refl; unwoken = refl; unarmed = refl; undropped = λ n r. refl; untried = all_from_in _ s.pending (λ p i. refl); counted = tt })

    module _ (n : ℕ) where
      abbrev other : Timer A → Bool
      other p = not (numbered n p)

      abbrev cancel_event : Event A
      cancel_event = event (cancelled true n) s.clock

      cancel_quiet : (p : Timer A) → In s.pending p → numbered n p ≡ false → Quiet before o cancel_event p
      cancel_quiet p i f = record {
        unlogged = refl;
        undropped = λ r. ap (λ b. b || r) f;
        untried = f;
        ahead = all_in (λ q. before q.hard s.clock ≡ false) p s.pending h.ahead i;
      }

      cancel_accepted : Step before o s cancel_event (settle before s (filter other s.pending) s.clock)
      cancel_accepted =
          let ps = s.pending in
          record {
            sound = standing_kept s other s.clock h (all_kept_by other _ ps h.ahead);
            usable = refl;
            now = refl;
            onward = o.irreflexive s.clock;
            treated = all_from_in (Treated before o cancel_event (settle before s (filter other ps) s.clock)) ps
                (λ p i. ⊎_elim {C = Treated before o cancel_event (settle before s (filter other ps) s.clock) p}
                (λ t. inr (inr (record { unlogged = refl; drops = λ r. ap (λ b. b || r) t })))
                (λ f. inl (kept_in other p ps i (not_from_false (numbered n p) f), cancel_quiet p i f)) (cases_Bool (numbered n p)));
            fresh = tt;
            origins = all_from_in (Origin before o s cancel_event) (filter other ps)
                (λ p i. inl (in_kept other p ps i, cancel_quiet p (in_kept other p ps i) (not-true (numbered n p) (all_in (λ q. other q ≡ true) p (filter other ps) (kept_by_passes other ps) i))));
            logs = tt;
            counts = refl;
            apart = tt;
            over = tt;
            counted = tt;
          }

      -- a cancel that was refused is of a number that is not pending
      cancel_refused : (f : QueueFault) → cancel_fault before s n ≡ Some f → passes (numbered n) s.pending ≡ false
      cancel_refused f e =
          ⊎_elim (λ t. let u = sym (ap (λ b. given (not b) NotPending None) t) ∙ sym (alarm_kept _) ∙ e in cc) (λ g. g) (cases_Bool (passes (numbered n) s.pending))

      pub cancel_taken : (r : Option QueueFault) → cancel_fault before s n ≡ r →
          let q = conclude {R = Unit {0}} r s tt (settle before s (filter other s.pending) s.clock) [] in
          Step before o s (event (cancelled (is_ok q.answer) n) q.left.clock) q.left
      cancel_taken None e = cancel_accepted
      cancel_taken (Some f) e =
          idle_step s (cancelled false n) h
          (record {
            unlogged = refl;
            unwoken = refl;
            unarmed = refl;
            undropped = λ m r. refl;
            untried = none_passes (numbered n) s.pending (cancel_refused f e);
            counted = tt;
          })
