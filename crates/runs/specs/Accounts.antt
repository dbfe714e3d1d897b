-- What the report of every request file is held to. Assumes nothing.
--     counted a          a line so answered is counted: it was not refused for want of room, nor as one line too many
--     code a             the number that is reported of an answer: 0, or that of its fault
--     answers_in fs      the line number and the refusal of each answer frame, in order
--     numbered n rs      what these should be, for answers from line n on
--     Accounted c fs     the course c of a file is accounted for by its frames
use Rattle.std.specs.Prelude.{◌≡◌, ℕ, ◌+◌, ◌<◌, Bool, true, false, List, [], ◌∷◌, length, None, Ok, Err, filter, Result}
use Rattle.std.specs.List.{flat_map}
use Rattle.runs.specs.declared.faults.RunFault.{RunFault}
use Rattle.runs.specs.declared.faults.RunFault.TheVariants.{Line, Frame as Framing, Time, Queue, UnknownDevice, UnknownPurpose, NotOpenedYet, OpenedAlready, NotNow, TooManyLines, ShortBuffer, NotAccepted}
use Rattle.runs.specs.declared.replies.Refusal.{Refusal}
use Rattle.runs.specs.Files.{Feed, Course, waiting, fed}
use Rattle.runs.specs.Frames.{Frame, answer, firing, totals}
use Rattle.runs.specs.Numbers.{run_number}
use Rattle.runs.specs.Replies.{nothing}

abbrev pub Answer : Type 0
Answer = Result (Unit {0}) Refusal

abbrev pub counts_line : RunFault → Bool
counts_line (Line f) = true
counts_line (Framing f) = true
counts_line (Time f) = true
counts_line (Queue f) = true
counts_line UnknownDevice = true
counts_line UnknownPurpose = true
counts_line NotOpenedYet = true
counts_line OpenedAlready = true
counts_line NotNow = true
counts_line TooManyLines = false
counts_line ShortBuffer = false
counts_line NotAccepted = true

abbrev pub counted : Answer → Bool
counted (Ok u) = true
counted (Err r) = counts_line r.fault

abbrev pub code : Answer → ℕ
code (Ok u) = 0
code (Err r) = run_number r.fault

abbrev pub numbered : ℕ → List Answer → List (ℕ × ℕ)
numbered n [] = []
numbered n (a ∷ rest) = (n, code a) ∷ numbered (n + 1) rest

abbrev pub answer_in : Frame → List (ℕ × ℕ)
answer_in (answer l r w f) = (l, r) ∷ []
answer_in (firing n m w s h) = []
answer_in (totals w f p) = []

abbrev pub answers_in : List Frame → List (ℕ × ℕ)
answers_in fs = flat_map answer_in fs

-- the wake-ups and the firings that an answer frame tells, and whether a frame is a firing
abbrev pub woken : Frame → ℕ
woken (answer l r w f) = w
woken (firing n m w s h) = 0
woken (totals w f p) = 0

abbrev pub fired : Frame → ℕ
fired (answer l r w f) = f
fired (firing n m w s h) = 0
fired (totals w f p) = 0

abbrev pub logged : Frame → ℕ
logged (answer l r w f) = 0
logged (firing n m w s h) = 1
logged (totals w f p) = 0

abbrev pub total : (Frame → ℕ) → List Frame → ℕ
total of [] = 0
total of (f ∷ fs) = of f + total of fs

pub record Accounted (c : Course) (fs : List Feed) : Type 0 where
  -- each line is carried out or refused
  pub one_each : length c.answers ≡ length fs
  -- there is one answer frame for each counted line, in order, with the number of its refusal or 0
  pub in_order : answers_in c.frames ≡ numbered 1 (filter counted c.answers)
  pub lines : c.tally.lines ≡ length (filter counted c.answers)
  -- the wake-ups and firings of the answers add up to the totals, and each firing has its frame
  pub wake_ups : c.tally.wakes ≡ total woken c.frames
  pub firings : c.tally.firings ≡ total fired c.frames
  pub firing_frames : total logged c.frames ≡ total fired c.frames

-- whatever is in the file, whenever the caller opens and closes the run, and over any number of slots
abbrev pub FilesAccounted : Type 0
FilesAccounted = (u : ℕ) (fs : List Feed) → Accounted (fed u nothing (waiting None) fs) fs

-- a refusal is never reported as 0
abbrev pub RefusalsTold : Type 0
RefusalsTold = (f : RunFault) → 0 < run_number f
