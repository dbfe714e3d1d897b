-- A lent buffer with the lines of a report in it. Assumes nothing.
--     room r              how many bytes there is room for behind them
--     Extends l old new   the line l was added, in the same buffer, and all else is as it was
use Rattle.std.specs.Prelude.{◌≡◌, ℕ, ◌-◌, List, length}
use Rattle.runs.specs.declared.report.Report.{Report}
use Rattle.runs.specs.Report.{Placed}

abbrev pub room : Report → ℕ
room r = length r.buffer.now - r.at

pub record Extends (line : List ℕ) (old new : Report) : Type 0 where
  pub same : new.buffer.ghost_name ≡ old.buffer.ghost_name
  pub size : length new.buffer.now ≡ length old.buffer.now
  pub placed : Placed line old.at old.buffer.now new.buffer.now new.at
