use Rattle.std.proofs.Common.{ap, ◌∙◌}
use Rattle.request_words.specs.Words.{hex_byte}
use Rattle.request_words.proofs.Placings.{puts_then, puts_as}
use Rattle.request_words.proofs.place.Sheet.put_answer.Goals as goal

pub returns-in-Err-clause-puts : goal.returns-in-Err-clause-puts
returns-in-Err-clause-puts c = rw c.in-Err.is (puts_then c.put.ensures (puts_as (c.hex_byte.ensures ∙ ap hex_byte c.number.ensures) c.put-in-Err.ensures))
