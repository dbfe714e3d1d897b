-- What a run makes of a line, whatever it is that the run keeps. Assumes nothing.
--     Tally                 the lines counted, and the wake-ups and firings of the run
--     Effect S              what a line does that is carried out: the run keeps `left`, it woke and fired so often, with these frames
--     Reply S               the answer to the caller, the tally and what the run keeps after it, and the frames of its report
--     unanswered ..         why a line is not even counted: the buffer is too short, or a million lines are counted
--     heard t s e           the reply to a line that is counted: carried out, or refused with its fault
--     replied ..            the reply to any line
--     RepliedBy ..         the code replied so: the frames stand at the start of the buffer, and its later bytes stay
use Rattle.std.specs.Prelude.{◌≡◌, ℕ, ◌+◌, ◌*◌, cond, List, [], ◌∷◌, ◌++◌, length, drop, Some, None, Ok, Err, Option, Result, nat_le, nat_lt}
use Rattle.runs.specs.declared.counts.Counts.{Counts}
use Rattle.runs.specs.declared.faults.RunFault.{RunFault}
use Rattle.runs.specs.declared.faults.RunFault.TheVariants.{ShortBuffer, TooManyLines}
use Rattle.runs.specs.declared.replies.Refusal.{Refusal}
use Rattle.runs.specs.declared.replies.Replied.{Replied}
use Rattle.runs.specs.Frames.{Frame, answer, text}
use Rattle.runs.specs.Numbers.{run_number}

pub record Tally : Type 0 where
  pub lines : ℕ
  pub wakes : ℕ
  pub firings : ℕ

-- before the first line
abbrev pub nothing : Tally
nothing = record { lines = 0; wakes = 0; firings = 0 }

-- one line more, with its wake-ups and firings
abbrev pub counting : Tally → ℕ → ℕ → Tally
counting t w f = record { lines = t.lines + 1; wakes = t.wakes + w; firings = t.firings + f }

abbrev pub tally_of : Counts → Tally
tally_of c = record { lines = c.lines; wakes = c.wakes; firings = c.firings }

pub record Effect (S : Type 0) : Type 0 where
  pub left : S
  pub wakes : ℕ
  pub firings : ℕ
  pub log : List Frame

-- nothing woke and nothing fired
abbrev pub quiet : {S : Type 0} → S → Effect S
quiet s = record { left = s; wakes = 0; firings = 0; log = [] }

pub record Reply (S : Type 0) : Type 0 where
  pub answered : Result (Unit {0}) Refusal
  pub tally : Tally
  pub left : S
  pub frames : List Frame

abbrev pub refusing : Tally → RunFault → Result (Unit {0}) Refusal
refusing t f = Err (record { line = t.lines + 1; fault = f })

-- a line's own bytes, and a firing for each pending timer
abbrev pub unanswered : ℕ → ℕ → Tally → Option RunFault
unanswered room pending t =
    cond (nat_lt room (63 * pending + 23)) (Some ShortBuffer) (cond (nat_le 1000000 t.lines) (Some TooManyLines) None)

abbrev pub heard : {S : Type 0} → Tally → S → Result (Effect S) RunFault → Reply S
heard t s (Ok e) =
    record { answered = Ok tt; tally = counting t e.wakes e.firings; left = e.left; frames = e.log ++ (answer (t.lines + 1) 0 e.wakes e.firings ∷ []) }
heard t s (Err f) =
    record { answered = refusing t f; tally = counting t 0 0; left = s; frames = answer (t.lines + 1) (run_number f) 0 0 ∷ [] }

abbrev pub unless : {S : Type 0} → Option RunFault → Tally → S → Reply S → Reply S
unless (Some f) t s r = record { answered = refusing t f; tally = t; left = s; frames = [] }
unless None t s r = r

abbrev pub replied : {S : Type 0} → ℕ → ℕ → Tally → S → Result (Effect S) RunFault → Reply S
replied room pending t s e = unless (unanswered room pending t) t s (heard t s e)

pub record RepliedBy {S : Type 0} (reply : Reply S) (t : Tally) (s : S) (old new : List ℕ) (r : Replied) : Type 0 where
  pub answered : r.answer ≡ reply.answered
  pub tally : t ≡ reply.tally
  pub left : s ≡ reply.left
  pub written : r.written ≡ length (text reply.frames)
  pub buffer : new ≡ text reply.frames ++ drop r.written old
