use Rattle.std.proofs.Common.{refl}
use Rattle.frames.specs.Frame.{frame_request}
use Rattle.frames.specs.Hex.{value}
use Rattle.frames.specs.Line.{line_bytes}
use Rattle.frames.specs.Reading.{read_line}
use Rattle.runs.proofs.laws.sample_computes.Goals as goal

pub returns : goal.returns
unfolding frame_request value line_bytes read_line
returns c = refl
