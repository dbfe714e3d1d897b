use Rattle.request_words.proofs.Placings.{puts_then, puts_as}
use Rattle.request_words.proofs.place.Sheet.put_purpose.Goals as goal

pub returns-clause-puts : goal.returns-clause-puts
returns-clause-puts c =
    puts_then c.put.ensures (puts_then c.put_number.ensures.puts (puts_then c.put-2.ensures (puts_as c.hex_byte.ensures c.put-3.ensures)))
