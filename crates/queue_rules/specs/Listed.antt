-- Every list of calls has a history. Assumes nothing.
--     Request             what a call asks for; a call is a request, and the length of the log that is lent with it
--     asked d             the request that a deed records
--     left_by s ks        the state that the calls ks leave, made on s one after the other
--     recorded s ks       the events of these calls
--     CallsRecorded      from every start, what is recorded of any list of calls asks for what they ask for, and is a history of them
use Rattle.std.specs.Prelude.{◌≡◌, ℕ, Bool, List, [], ◌∷◌, map}
use Rattle.heap_links.specs.declared.timer.Timer.{Timer}
use Rattle.queue_rules.specs.Calls.{State, started, arming, cancelling, advancing}
use Rattle.queue_rules.specs.Events.{Deed, armed, cancelled, advanced, Event, arm_event, cancel_event, advance_event, Lived}

pub data Request (A : Type 0) : Type 0 where
  arm : Timer A → Request A
  cancel : ℕ → Request A
  advance : A → Request A

abbrev pub asked : {A : Type 0} → Deed A → Request A
asked (armed b x) = arm x
asked (cancelled b n) = cancel n
asked (advanced b t n fs) = advance t

module _ {A : Type 0} (before : A → A → Bool) where
  abbrev pub next_state : State A → Request A → ℕ → State A
  next_state s (arm x) room = (arming before s x).left
  next_state s (cancel n) room = (cancelling before s n).left
  next_state s (advance t) room = (advancing before s t room).left

  abbrev pub next_event : State A → Request A → ℕ → Event A
  next_event s (arm x) room = arm_event before s x
  next_event s (cancel n) room = cancel_event before s n
  next_event s (advance t) room = advance_event before s t room

  abbrev pub left_by : State A → List (Request A × ℕ) → State A
  left_by s [] = s
  left_by s (k ∷ ks) = left_by (next_state s k.0 k.1) ks

  abbrev pub recorded : State A → List (Request A × ℕ) → List (Event A)
  recorded s [] = []
  recorded s (k ∷ ks) = next_event s k.0 k.1 ∷ recorded (next_state s k.0 k.1) ks

  abbrev pub CallsRecorded : Type 0
  CallsRecorded =
      (u : ℕ) (c : A) (ks : List (Request A × ℕ)) →
      (map (λ e. asked e.deed) (recorded (started u c) ks) ≡ map (λ k. k.0) ks) ×
      Lived before u c (recorded (started u c) ks) (left_by (started u c) ks)
