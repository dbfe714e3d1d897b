-- The frames of a report. Assumes nothing.
--     report_line p             the line of a payload, with its line feed
--     Placed l at old new end   l stands in the buffer from `at` to `end`, and all else is as it was
use Rattle.std.specs.Prelude.{◌≡◌, ℕ, ◌+◌, List, [], ◌∷◌, ◌++◌, length, take, drop, Ok, Err, Result}
use Rattle.frames.specs.Hex.{hex}
use Rattle.frames.specs.Reading.{big_endian, with_check}
use Rattle.runs.specs.declared.faults.RunFault.{RunFault}
use Rattle.runs.specs.Numbers.{run_number}

abbrev pub report_line : List ℕ → List ℕ
report_line payload = hex (with_check payload) ++ 10 ∷ []

pub record Placed (line : List ℕ) (at : ℕ) (old new : List ℕ) (end : ℕ) : Type 0 where
  pub ends : end ≡ at + length line
  pub stands : new ≡ take at old ++ (line ++ drop end old)

-- the kind, the line's number, the refusal or 0, the wake-ups and the firings
abbrev pub answer_payload : ℕ → ℕ → ℕ → ℕ → List ℕ
answer_payload line refusal wakes firings = 0x90 ∷ big_endian 4 line ++ (refusal ∷ []) ++ big_endian 2 wakes ++ big_endian 2 firings

-- the same by the wake-ups and the firings of a line, or by why it is refused
abbrev pub outcome_payload : ℕ → Result (ℕ × ℕ) RunFault → List ℕ
outcome_payload line (Ok n) = answer_payload line 0 n.0 n.1
outcome_payload line (Err f) = answer_payload line (run_number f) 0 0

-- the kind, the timer's number, the mark, and the plain forms of the wake time, the soft and the hard time
abbrev pub firing_payload : ℕ → ℕ → ℕ → ℕ → ℕ → List ℕ
firing_payload number mark wake soft hard = 0x91 ∷ big_endian 4 number ++ (mark ∷ []) ++ big_endian 8 wake ++ big_endian 8 soft ++ big_endian 8 hard

-- the kind, the wake-ups and the firings of the run, and the timers still pending
abbrev pub totals_payload : ℕ → ℕ → ℕ → List ℕ
totals_payload wakes firings pending = 0x95 ∷ big_endian 4 wakes ++ big_endian 4 firings ++ big_endian 2 pending
