-- The record of a list of calls, made from what the caller sees. Assumes nothing.
--     Deed       an arming, a cancel or an advance, and whether it was accepted; an advance with its wake-ups, its firings
--                and the entries that it wrote: 0, 0 and none where it was refused
--     Event      a deed, and the alarm's clock after it
--     Lived u c es s    es are the events, oldest first, of a list of calls on a queue started over u usable slots at clock c,
--                       which left it in the state s; each event and what it leaves are computed from the definition of its call
use Rattle.std.specs.Prelude.{ℕ, Bool, List, [], ◌∷◌, ◌++◌, is_ok, Ok, Err, Result}
use Rattle.heap_links.specs.declared.timer.Timer.{Timer}
use Rattle.queue_rules.specs.declared.firing.Firing.{Firing}
use Rattle.queue_rules.specs.declared.fault.QueueFault.{QueueFault}
use Rattle.queue_rules.specs.Calls.{State, started, arming, cancelling, advancing}

pub data Deed (A : Type 0) : Type 0 where
  armed : Bool → Timer A → Deed A
  cancelled : Bool → ℕ → Deed A
  advanced : Bool → A → ℕ × ℕ → List (Firing A) → Deed A

pub record Event (A : Type 0) : Type 0 where
  pub deed : Deed A
  pub clock : A

abbrev pub event : {A : Type 0} → Deed A → A → Event A
event d c = record { deed = d; clock = c }

-- the wake-ups and firings that an advance answers
abbrev pub counts : Result (ℕ × ℕ) QueueFault → ℕ × ℕ
counts (Ok n) = n
counts (Err f) = (0, 0)

module _ {A : Type 0} (before : A → A → Bool) where
  abbrev pub arm_event : State A → Timer A → Event A
  arm_event s x = let r = arming before s x in event (armed (is_ok r.answer) x) r.left.clock

  abbrev pub cancel_event : State A → ℕ → Event A
  cancel_event s n = let r = cancelling before s n in event (cancelled (is_ok r.answer) n) r.left.clock

  abbrev pub advance_event : State A → A → ℕ → Event A
  advance_event s t room =
      let r = advancing before s t room in
      event (advanced (is_ok r.answer) t (counts r.answer) r.logged) r.left.clock

pub data Lived {A : Type 0} (before : A → A → Bool) (u : ℕ) (c : A) : List (Event A) → State A → Type 0 where
  starting : Lived before u c [] (started u c)
  armed_next : {es : List (Event A)} {s : State A} → Lived before u c es s → (x : Timer A) →
      Lived before u c (es ++ (arm_event before s x ∷ [])) (arming before s x).left
  cancelled_next : {es : List (Event A)} {s : State A} → Lived before u c es s → (n : ℕ) →
      Lived before u c (es ++ (cancel_event before s n ∷ [])) (cancelling before s n).left
  advanced_next : {es : List (Event A)} {s : State A} → Lived before u c es s → (t : A) (room : ℕ) →
      Lived before u c (es ++ (advance_event before s t room ∷ [])) (advancing before s t room).left
