-- A call that a test refuses does nothing, and is recorded as refused.
use Rattle.std.proofs.Common.{◌≡◌, ℕ, Bool, List, [], is_ok, Err, Option, Result, sym, refl, ap, ◌∙◌, subst}
use Rattle.times.specs.Order.{StrictOrder}
use Rattle.times.specs.declared.order.Time.{Ghosts}
use Rattle.queue_rules.specs.declared.fault.QueueFault.{QueueFault}
use Rattle.queue_rules.specs.declared.firing.Firing.{Firing}
use Rattle.timer_queue.specs.declared.queue.TimerQueue.{TimerQueue}
use Rattle.queue_rules.specs.Calls.{State, Outcome, advancing}
use Rattle.timer_queue.specs.Doing.{state_with, gives, written, Carries, Done, Greedily}
use Rattle.queue_rules.specs.Events.{Deed, event, advanced, counts}
use Rattle.timer_queue.proofs.Carried.{advance_carries}

module _ {S A : Type 0} {G : Ghosts A} (before : A → A → Bool) (clock : S → A) (due : S → Option A) (q : TimerQueue A G) (a : S) where
  abbrev here : State A
  here = state_with clock due q a

  pub turned_away : {R : Type 0} (call : State A → Outcome R A) (deed : Result R QueueFault → Deed A) (f : QueueFault) (r : Result R QueueFault) →
      ((x : Result R QueueFault) → call here ≡ gives x here [] → Carries before here (event (deed x) (clock a)) here) →
      call here ≡ gives (Err f) here [] → r ≡ Err f → Done before clock due q q a a call r [] (deed r)
  turned_away call deed f r carry e p =
      let e' = e ∙ ap (λ x. gives x here []) (sym p) in record { outcome = e'; history = carry r e' }

  -- an advance that is refused wrote no entry
  module _ (o : StrictOrder before) (t : A) (room : ℕ) (log : List (Firing A)) (f : QueueFault) (r : Result (ℕ × ℕ) QueueFault) (is : r ≡ Err f) where
    pub advance_away : advancing before here t room ≡ gives (Err f) here [] →
        Done before clock due q q a a (λ s. advancing before s t room) r (written r log) (advanced (is_ok r) t (counts r) (written r log))
    advance_away e =
        subst (λ (x : Result (ℕ × ℕ) QueueFault). Done before clock due q q a a (λ s. advancing before s t room) x (written x log) (advanced (is_ok x) t (counts x) (written x log))) (sym is)
        (turned_away (λ s. advancing before s t room) (λ x. advanced (is_ok x) t (counts x) []) f (Err f) (λ x k. advance_carries before o here here t room x [] k) e refl)

    pub greedy_away : Greedily before here t r (written r log)
    greedy_away = subst (λ (x : Result (ℕ × ℕ) QueueFault). Greedily before here t x (written x log)) (sym is) refl
