-- An advance takes a step, so that every list of calls keeps the invariant.
use Rattle.std.proofs.Common.{◌≡◌, ℕ, Bool, true, false, List, [], length, is_ok, Some, None, filter, Option, sym, refl, ap, ◌∙◌, subst, inl, inr, ⊎_elim, arith}
use Rattle.std.specs.List.{AllByRecursion}
use Rattle.std.proofs.lemmas.List.{length-map}
use Rattle.std.proofs.ByRecursion.{All-weaker}
use Rattle.std.proofs.lemmas.Bool.{both_ways}
use Rattle.heap_links.specs.declared.timer.Timer.{Timer}
use Rattle.queue_rules.specs.declared.fault.QueueFault.{QueueFault}
use Rattle.queue_rules.specs.declared.fault.QueueFault.TheVariants.{AdvancePassed}
use Rattle.times.specs.Order.{StrictOrder}
use Rattle.queue_rules.specs.WakeUps.{Served, walk}
use Rattle.queue_rules.specs.Calls.{State, conclude, settle, arm_fault, cancel_fault, advance_fault}
use Rattle.queue_rules.specs.States.{Standing, StatesStand}
use Rattle.queue_rules.specs.Events.{advanced, Event, event, counts, Lived, starting, armed_next, cancelled_next, advanced_next}
use Rattle.queue_rules.proofs.Elements.{In, all_in, all_from_in, in_kept}
use Rattle.queue_rules.proofs.Walking.{Walked, walked, Stays, Fared}
use Rattle.queue_rules.proofs.Invariant.{Quiet, Treated, Origin, Step, Holds}
use Rattle.queue_rules.proofs.Keeping.{holds_more}
use Rattle.queue_rules.proofs.Stepping.{given_none, standing_distinct, standing_kept, alarm_kept, idle_step, arm_taken, cancel_taken}

module _ {A : Type 0} (before : A → A → Bool) (o : StrictOrder before) where
  module _ (s : State A) (h : Standing before s) (t : A) (room : ℕ) where
    abbrev served : Served A
    served = walk before t s.pending

    abbrev went : Event A
    went = event (advanced true t (length served.wakes, length served.entries) served.entries) t

    quiet : (p : Timer A) → Walked before o t s.pending served → Stays before o served.pending served.entries p → Quiet before o went p
    quiet p w i = record {
      unlogged = i.1;
      undropped = λ r. refl;
      untried = refl;
      ahead = all_in (λ q. before q.hard t ≡ false) p served.pending w.ahead i.0;
    }

    -- what is still pending did not fire
    left_quiet : (w : Walked before o t s.pending served) (q : Timer A) → In served.pending q → In s.pending q → Quiet before o went q
    left_quiet w q i j =
        ⊎_elim (quiet q w)
        (λ f. absurd (both_ways (before q.soft q.soft) (o.irreflexive q.soft) (all_in (λ z. before q.soft z.soft ≡ true) q served.pending f.over.softs i)))
        (all_in (Fared before o t served.pending served.entries) q s.pending w.fates j)

    advance_accepted : advance_fault before s t room ≡ None → Step before o s went (settle before s served.pending t)
    advance_accepted passed =
        let w = walked before o t s.pending (standing_distinct before o s h) h.proper in
        let later : State A = settle before s served.pending t in
        let test = given_none (before t s.clock) AdvancePassed _ (sym (alarm_kept before o s h _) ∙ passed) in
        record {
          sound = subst (λ ps. Standing before (settle before s ps t)) (sym w.left)
              (standing_kept before o s w.test t h (subst (AllByRecursion (λ p. before p.hard t ≡ false)) w.left w.ahead));
          usable = refl;
          now = refl;
          onward = test.0;
          treated = All-weaker (Fared before o t served.pending served.entries)
              (Treated before o went later) (λ p. ⊎_elim {C = Treated before o went later p} (λ i. inl (i.0, quiet p w i)) (λ f. inr (inl f))) s.pending w.fates;
          fresh = tt;
          origins = all_from_in (Origin before o s went) served.pending
              (λ q i. let j = in_kept w.test q s.pending (subst (λ ps. In ps q) w.left i) in inl (j, left_quiet w q i j));
          logs = w.logs;
          counts = sym (length-map (filter (λ f. f.mark) served.entries) (λ f. f.wake)) ∙ ap length w.times;
          apart = w.apart;
          over = w.over;
          counted = refl;
        }

    advance_taken : (r : Option QueueFault) → advance_fault before s t room ≡ r →
        let q = conclude {R = ℕ × ℕ} r s (length served.wakes, length served.entries) (settle before s served.pending t) served.entries in
        Step before o s (event (advanced (is_ok q.answer) t (counts q.answer) q.logged) q.left.clock) q.left
    advance_taken None e = advance_accepted e
    advance_taken (Some f) e =
        idle_step before o s (advanced false t (0, 0) []) h
        (record { unlogged = refl; unwoken = refl; unarmed = refl; undropped = λ n r. refl; untried = all_from_in _ s.pending (λ p i. refl); counted = (refl, refl, refl) })

  pub lived_holds : {u : ℕ} {c : A} {es : List (Event A)} {s : State A} → Lived before u c es s → Holds before o c es s
  lived_holds starting = record {
    sound = record { rising = tt; few = omega arith; proper = tt; ahead = tt; due = refl };
    now = refl;
    fates = tt;
    owned = tt;
    counts = refl;
    apart = tt;
    bound = tt;
    logs = tt;
    counted = tt;
  }
  lived_holds {c = c} (armed_next {es = es} {s = s} l x) =
      let h = lived_holds l in holds_more before o s _ _ (arm_taken before o s h.sound x (arm_fault before s x) refl) c es h
  lived_holds {c = c} (cancelled_next {es = es} {s = s} l n) =
      let h = lived_holds l in holds_more before o s _ _ (cancel_taken before o s h.sound n (cancel_fault before s n) refl) c es h
  lived_holds {c = c} (advanced_next {es = es} {s = s} l t room) =
      let h = lived_holds l in holds_more before o s _ _ (advance_taken s h.sound t room (advance_fault before s t room) refl) c es h

  usable_kept : {u : ℕ} {c : A} {es : List (Event A)} {s : State A} → Lived before u c es s → s.usable ≡ u
  usable_kept starting = refl
  usable_kept (armed_next {s = s} l x) = (arm_taken before o s (lived_holds l).sound x (arm_fault before s x) refl).usable ∙ usable_kept l
  usable_kept (cancelled_next {s = s} l n) = (cancel_taken before o s (lived_holds l).sound n (cancel_fault before s n) refl).usable ∙ usable_kept l
  usable_kept (advanced_next {s = s} l t room) = (advance_taken s (lived_holds l).sound t room (advance_fault before s t room) refl).usable ∙ usable_kept l

pub states_stand : {A : Type 0} (before : A → A → Bool) → StrictOrder before → StatesStand before
states_stand before o u c es s l = ((lived_holds before o l).sound, usable_kept before o l)
