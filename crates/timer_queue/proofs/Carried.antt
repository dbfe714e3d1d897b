-- A call that came out as it is defined carries every history on.
use Rattle.std.proofs.Common.{◌≡◌, ℕ, Bool, List, [], ◌∷◌, ◌++◌, length, is_ok, Some, None, filter, Option, Result, sym, refl, ap, subst}
use Rattle.heap_links.specs.declared.timer.Timer.{Timer}
use Rattle.times.specs.Order.{StrictOrder}
use Rattle.queue_rules.specs.declared.fault.QueueFault.{QueueFault}
use Rattle.queue_rules.specs.declared.firing.Firing.{Firing}
use Rattle.queue_rules.specs.Calls.{State, Outcome, conclude, settle, arming, cancelling, advancing, advance_fault}
use Rattle.timer_queue.specs.Doing.{gives, Carries, Greedily}
use Rattle.queue_rules.specs.Events.{Event, event, armed, cancelled, advanced, counts, Lived, armed_next, cancelled_next, advanced_next}
use Rattle.queue_rules.specs.Greedy.{Greedy}
use Rattle.queue_rules.specs.Timers.{Distinct}
use Rattle.queue_rules.specs.WakeUps.{walk}
use Rattle.queue_rules.proofs.Claiming.{claims_hold}
use Rattle.queue_rules.proofs.Points.{walk_is_greedy}
use Rattle.queue_rules.proofs.Waking.{Proper}
use Rattle.queue_rules.proofs.Walking.{walked}

module _ {A : Type 0} (before : A → A → Bool) (o : StrictOrder before) (s s' : State A) where
  carried : (e : Event A) → ((u : ℕ) (c : A) (es : List (Event A)) → Lived before u c es s → Lived before u c (es ++ (e ∷ [])) s') → Carries before s e s'
  carried e f u c es l = (f u c es l, claims_hold before o u c (es ++ (e ∷ [])) s' (f u c es l))

  pub arm_carries : (x : Timer A) (r : Result (Unit {0}) QueueFault) → arming before s x ≡ gives r s' [] →
      Carries before s (event (armed (is_ok r) x) s'.clock) s'
  arm_carries x r e =
      carried _ (λ u c es l.
      subst (λ (q : Outcome (Unit {0}) A). Lived before u c (es ++ (event (armed (is_ok q.answer) x) q.left.clock ∷ [])) q.left) e (armed_next l x))

  pub cancel_carries : (n : ℕ) (r : Result (Unit {0}) QueueFault) → cancelling before s n ≡ gives r s' [] →
      Carries before s (event (cancelled (is_ok r) n) s'.clock) s'
  cancel_carries n r e =
      carried _ (λ u c es l.
      subst (λ (q : Outcome (Unit {0}) A). Lived before u c (es ++ (event (cancelled (is_ok q.answer) n) q.left.clock ∷ [])) q.left) e (cancelled_next l n))

  pub advance_carries : (t : A) (room : ℕ) (r : Result (ℕ × ℕ) QueueFault) (fs : List (Firing A)) → advancing before s t room ≡ gives r s' fs →
      Carries before s (event (advanced (is_ok r) t (counts r) fs) s'.clock) s'
  advance_carries t room r fs e =
      carried _ (λ u c es l.
      subst (λ (q : Outcome (ℕ × ℕ) A). Lived before u c (es ++ (event (advanced (is_ok q.answer) t (counts q.answer) q.logged) q.left.clock ∷ [])) q.left) e
      (advanced_next l t room))

  -- an advance wakes at the greedy's points
  pub advance_greedy : (t : A) (room : ℕ) (r : Result (ℕ × ℕ) QueueFault) (fs : List (Firing A)) → Distinct s.pending → Proper before o s.pending →
      advancing before s t room ≡ gives r s' fs → Greedily before s t r fs
  advance_greedy t room r fs d p e = subst (λ (q : Outcome (ℕ × ℕ) A). Greedily before s t q.answer q.logged) e (by (advance_fault before s t room))
    where
      by : (f : Option QueueFault) →
          let w = walk before t s.pending in
          let q = conclude {R = ℕ × ℕ} f s (length w.wakes, length w.entries) (settle before s w.pending t) w.entries in
          Greedily before s t q.answer q.logged
      by (Some f) = refl
      by None =
          let k = (walked before o t s.pending d p).times in
          (subst (Greedy before (filter (λ x. before x.hard t) s.pending)) (sym k) (walk_is_greedy before o t s.pending p), sym (ap length k))
