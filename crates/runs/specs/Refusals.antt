-- A refused line changes nothing but the count of lines. Assumes nothing.
--     RefusedSo t s p      the run keeps s; a counted line writes its answer with no wake-ups or firings, any other nothing
--     RefusalsLeave        that holds of every refused line, to a run in any state
use Rattle.std.specs.Prelude.{◌≡◌, ◌+◌, true, cond, [], ◌∷◌, is_err}
use Rattle.runs.specs.Accounts.{counted, code}
use Rattle.runs.specs.Files.{Run, Feed, run_line}
use Rattle.runs.specs.Frames.{answer}
use Rattle.runs.specs.Replies.{Tally, Reply, counting}

pub record RefusedSo {S : Type 0} (t : Tally) (s : S) (p : Reply S) : Type 0 where
  pub left : p.left ≡ s
  pub tally : p.tally ≡ cond (counted p.answered) (counting t 0 0) t
  pub frames : p.frames ≡ cond (counted p.answered) (answer (t.lines + 1) (code p.answered) 0 0 ∷ []) []

abbrev pub RefusalsLeave : Type 0
RefusalsLeave = (t : Tally) (r : Run) (f : Feed) → is_err (run_line t r f).answered ≡ true → RefusedSo t r (run_line t r f)
