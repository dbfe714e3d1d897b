-- A whole request file, from a waiting run to the end of the input. Assumes nothing.
--     Run                a run in one of its states, at either kind of time
--     Feed               a line, the room in the buffer and in the log, and whether the caller then opens or closes a run that may be
--     moved u r          the run that the caller makes of r where a frame was accepted, over u usable slots
--     fed u t r fs       the answers, the frames, the tally and the run that a list of lines leaves
--     totals_frame t r   the totals of a closed run
use Rattle.std.specs.Prelude.{ℕ, Bool, false, cond, List, [], ◌∷◌, ◌++◌, length, Some, None, Option, Result}
use Rattle.times.specs.declared.ticks.Tick.{Tick}
use Rattle.times.specs.declared.day_ticks.DayTick.{DayTick}
use Rattle.times.specs.Ticks.{tick_place, tick_before, tick_at, last_tick}
use Rattle.times.specs.DayTicks.{day_tick_place, day_tick_before, day_tick_at, day_tick_plain, day_tick_reads, last_day_tick}
use Rattle.queue_rules.specs.Calls.{started}
use Rattle.runs.specs.declared.opening.Opening.{Opening}
use Rattle.runs.specs.declared.opening.TimeKind.{TimeKind}
use Rattle.runs.specs.declared.opening.TimeKind.TheVariants.{Ticks, DayTicks}
use Rattle.runs.specs.declared.replies.Refusal.{Refusal}
use Rattle.runs.specs.Frames.{Frame, totals}
use Rattle.runs.specs.Opened.{Opened, Kind, kind_by, open_line}
use Rattle.runs.specs.Replies.{Tally, Reply}
use Rattle.runs.specs.Waiting.{waiting_line, closed_line}

abbrev pub tick_kind : Kind Tick
tick_kind = kind_by tick_before tick_at tick_place tick_place tick_at last_tick

abbrev pub day_tick_kind : Kind DayTick
day_tick_kind = kind_by day_tick_before day_tick_reads day_tick_plain day_tick_place day_tick_at last_day_tick

pub data Run : Type 0 where
  waiting : Option Opening → Run
  ticks : Opened Tick → Run
  day_ticks : Opened DayTick → Run
  closed : ℕ → Run

pub record Feed : Type 0 where
  pub line : List ℕ
  pub room : ℕ
  pub log : ℕ
  pub moves : Bool

-- an open run whose queue was just started
abbrev pub opened : {A : Type 0} → ℕ → A → Opened A
opened u c = record { closing = false; queue = started u c }

abbrev pub as_closed : {A : Type 0} → (Opened A → Run) → Opened A → Run
as_closed r s = cond s.closing (closed (length s.queue.pending)) (r s)

-- without such a start time the run waits on
abbrev pub as_open : {A : Type 0} → (Opened A → Run) → ℕ → Opening → Option A → Run
as_open r u o None = waiting (Some o)
as_open r u o (Some c) = r (opened u c)

abbrev pub opened_by : ℕ → Opening → TimeKind → Run
opened_by u o Ticks = as_open ticks u o (tick_at o.start)
opened_by u o DayTicks = as_open day_ticks u o (day_tick_reads o.start)

abbrev pub moved : ℕ → Run → Run
moved u (waiting None) = waiting None
moved u (waiting (Some o)) = opened_by u o o.kind
moved u (ticks s) = as_closed ticks s
moved u (day_ticks s) = as_closed day_ticks s
moved u (closed n) = closed n

abbrev pub as_run : {S : Type 0} → (S → Run) → Reply S → Reply Run
as_run r p = record { answered = p.answered; tally = p.tally; left = r p.left; frames = p.frames }

abbrev pub run_line : Tally → Run → Feed → Reply Run
run_line t (waiting s) f = as_run waiting (waiting_line f.room t s f.line)
run_line t (ticks s) f = as_run ticks (open_line tick_kind f.room f.log t s f.line)
run_line t (day_ticks s) f = as_run day_ticks (open_line day_tick_kind f.room f.log t s f.line)
run_line t (closed n) f = as_run closed (closed_line f.room t n)

pub record Course : Type 0 where
  pub answers : List (Result (Unit {0}) Refusal)
  pub frames : List Frame
  pub tally : Tally
  pub left : Run

abbrev pub fed : ℕ → Tally → Run → List Feed → Course
fed u t r [] = record { answers = []; frames = []; tally = t; left = r }
fed u t r (f ∷ fs) =
    let p = run_line t r f in
    let rest = fed u p.tally (cond f.moves (moved u p.left) p.left) fs in
    record { answers = p.answered ∷ rest.answers; frames = p.frames ++ rest.frames; tally = rest.tally; left = rest.left }

abbrev pub totals_frame : Tally → Run → List Frame
totals_frame t (waiting s) = []
totals_frame t (ticks s) = []
totals_frame t (day_ticks s) = []
totals_frame t (closed n) = totals t.wakes t.firings n ∷ []
