-- An advance does one thing, whatever order the pending timers are listed in. Assumes nothing.
--     listing s xs               s with its pending timers listed as xs
--     Alike r r'                 two outcomes with one answer and one log, that leave one clock and due time, and the same timers pending
--     OrderOfListingIsFree   an advance over a list and over a rearrangement of it have outcomes that are alike
use Rattle.std.specs.Prelude.{◌≡◌, ℕ, Bool, List}
use Rattle.heap_links.specs.declared.timer.Timer.{Timer}
use Rattle.queue_rules.specs.Lists.{Rearranged}
use Rattle.queue_rules.specs.Timers.{Distinct}
use Rattle.queue_rules.specs.Calls.{State, Outcome, advancing}

abbrev pub listing : {A : Type 0} → State A → List (Timer A) → State A
listing s xs = record { usable = s.usable; pending = xs; clock = s.clock; due = s.due }

pub record Alike {R A : Type 0} (r r' : Outcome R A) : Type 0 where
  pub answer : r.answer ≡ r'.answer
  pub logged : r.logged ≡ r'.logged
  pub usable : r.left.usable ≡ r'.left.usable
  pub clock : r.left.clock ≡ r'.left.clock
  pub due : r.left.due ≡ r'.left.due
  pub pending : Rearranged r.left.pending r'.left.pending

abbrev pub OrderOfListingIsFree : {A : Type 0} → (A → A → Bool) → Type 0
OrderOfListingIsFree {A} before =
    (s : State A) (xs : List (Timer A)) (t : A) (room : ℕ) →
    Distinct s.pending → Rearranged s.pending xs →
    Alike (advancing before s t room) (advancing before (listing s xs) t room)
