use Rattle.request_words.proofs.Placings.{puts_then, puts_as}
use Rattle.request_words.proofs.place.Sheet.put_open.Goals as goal

pub returns-clause-puts : goal.returns-clause-puts
returns-clause-puts c =
    puts_then c.put.ensures
    (puts_then (puts_as c.hex_byte.ensures c.put-2.ensures)
    (puts_then c.put-3.ensures
    (puts_then (puts_as c.hex_byte-2.ensures c.put-4.ensures)
    (puts_then c.put-5.ensures (puts_as c.hex_time.ensures c.put-6.ensures)))))
