-- A run that waits for an open frame, and a run that is closed. Assumes nothing.
--     waiting_line ..    a line to a waiting run, which keeps what it accepted, if it did: until it is opened, a line more is too much
--     closed_line ..     a line to a closed run, which comes too late
--     TotalsBy ..       the totals stand at the start of the buffer, or it is too short for them, and all of it stays
use Rattle.std.specs.Prelude.{◌≡◌, ℕ, ◌<◌, ◌≤◌, List, [], ◌∷◌, ◌++◌, length, drop, Some, None, Ok, Err, Option, Result}
use Rattle.std.specs.Result.{result_map_both}
use Rattle.runs.specs.declared.faults.RunFault.{RunFault}
use Rattle.runs.specs.declared.faults.RunFault.TheVariants.{NotNow, ShortBuffer}
use Rattle.runs.specs.declared.opening.Opening.{Opening}
use Rattle.runs.specs.Frames.{totals, text}
use Rattle.runs.specs.Hearing.{request_of, and_then}
use Rattle.runs.specs.Opening.{opens}
use Rattle.runs.specs.Replies.{Tally, Reply, quiet, replied}

abbrev pub opening_in : Option Opening → List ℕ → Result Opening RunFault
opening_in (Some o) line = Err NotNow
opening_in None line = and_then (request_of line) opens

abbrev pub waiting_line : ℕ → Tally → Option Opening → List ℕ → Reply (Option Opening)
waiting_line room t s line = replied room 0 t s (result_map_both (λ o. quiet (Some o)) (λ f. f) (opening_in s line))

-- it keeps how many timers are still pending
abbrev pub closed_line : ℕ → Tally → ℕ → Reply ℕ
closed_line room t pending = replied room pending t pending (Err NotNow)

abbrev pub TotalsBy : Tally → ℕ → List ℕ → List ℕ → Result ℕ RunFault → Type 0
TotalsBy t pending old new (Ok n) = (25 ≤ length old) × (n ≡ 25) × (new ≡ text (totals t.wakes t.firings pending ∷ []) ++ drop 25 old)
TotalsBy t pending old new (Err f) = (length old < 25) × (f ≡ ShortBuffer) × (new ≡ old)
