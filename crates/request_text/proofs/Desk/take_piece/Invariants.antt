use Rattle.std.proofs.Common.{length}
use Rattle.request_text.proofs.Desk.take_piece.Given as goal

abbrev pub decreases-loop-rest : goal.decreases-loop-rest
decreases-loop-rest l = length l.rest
