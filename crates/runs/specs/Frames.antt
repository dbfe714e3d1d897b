-- A report as a list of frames, and its bytes. Assumes nothing.
--     answer l r w f        the answer of line l: the refusal r or 0, the wake-ups w and the firings f
--     firing n m w s h      timer n fired, with the mark m; the plain forms of its wake, soft and hard time
--     totals w f p          the wake-ups and firings of a run, and the timers still pending
--     text fs               the bytes of frames, each a line
use Rattle.std.specs.Prelude.{ℕ, cond, List}
use Rattle.std.specs.List.{flat_map}
use Rattle.queue_rules.specs.declared.firing.Firing.{Firing}
use Rattle.runs.specs.Report.{report_line, answer_payload, firing_payload, totals_payload}

pub data Frame : Type 0 where
  answer : ℕ → ℕ → ℕ → ℕ → Frame
  firing : ℕ → ℕ → ℕ → ℕ → ℕ → Frame
  totals : ℕ → ℕ → ℕ → Frame

abbrev pub frame_payload : Frame → List ℕ
frame_payload (answer l r w f) = answer_payload l r w f
frame_payload (firing n m w s h) = firing_payload n m w s h
frame_payload (totals w f p) = totals_payload w f p

abbrev pub text : List Frame → List ℕ
text fs = flat_map (λ f. report_line (frame_payload f)) fs

-- the frame of a log entry
abbrev pub firing_frame : {A : Type 0} → (A → ℕ) → Firing A → Frame
firing_frame plain f = firing f.number (cond f.mark 1 0) (plain f.wake) (plain f.soft) (plain f.hard)
