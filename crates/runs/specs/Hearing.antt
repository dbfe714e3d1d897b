-- A line as a request to a run. Assumes nothing.
use Rattle.std.specs.Prelude.{ℕ, List, Ok, Err, Result}
use Rattle.std.specs.Result.{result_map_both}
use Rattle.frames.specs.declared.faults.ReadFault.{ReadFault}
use Rattle.frames.specs.declared.faults.ReadFault.TheVariants.{Line as unread, Frame as unframed}
use Rattle.frames.specs.declared.request.Request.{Request}
use Rattle.frames.specs.Reading.{read_line}
use Rattle.runs.specs.declared.faults.RunFault.{RunFault}
use Rattle.runs.specs.declared.faults.RunFault.TheVariants.{Line, Frame}

-- the fault of the line or of the frame, unaltered
abbrev pub carried : ReadFault → RunFault
carried (unread f) = Line f
carried (unframed f) = Frame f

-- what a line asks for, or the first thing that is wrong with it
abbrev pub request_of : List ℕ → Result Request RunFault
request_of line = result_map_both (λ q. q) carried (read_line line)

-- the second of two steps, where the first is not refused
abbrev pub and_then : {X Y E : Type 0} → Result X E → (X → Result Y E) → Result Y E
and_then (Ok x) k = k x
and_then (Err e) k = Err e
