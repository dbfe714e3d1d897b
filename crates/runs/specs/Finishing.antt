-- A line that was heard, by what the queue answered and logged. Assumes nothing.
--     told plain r log     its effect: the wake-ups and firings that were answered, and as many entries from the start of the log
--     FitsIn r n room     a log of n entries has these firings, and so much room is enough for them and the answer
use Rattle.std.specs.Prelude.{ℕ, ◌+◌, ◌*◌, ◌≤◌, List, map, take, Ok, Err, Result}
use Rattle.queue_rules.specs.declared.firing.Firing.{Firing}
use Rattle.runs.specs.declared.faults.RunFault.{RunFault}
use Rattle.runs.specs.Frames.{firing_frame}
use Rattle.runs.specs.Replies.{Effect}

abbrev pub told : {A : Type 0} → (A → ℕ) → Result (ℕ × ℕ) RunFault → List (Firing A) → Result (Effect (Unit {0})) RunFault
told plain (Ok n) log = Ok (record { left = tt; wakes = n.0; firings = n.1; log = map (firing_frame plain) (take n.1 log) })
told plain (Err f) log = Err f

abbrev pub FitsIn : Result (ℕ × ℕ) RunFault → ℕ → ℕ → Type 0
FitsIn (Ok n) log room = (n.0 ≤ 4096) × (n.1 ≤ 4096) × (n.1 ≤ log) × (63 * n.1 + 23 ≤ room)
FitsIn (Err f) log room = 23 ≤ room
