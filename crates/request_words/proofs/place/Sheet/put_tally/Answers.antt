use Rattle.request_words.proofs.Placings.{puts_then}
use Rattle.request_words.proofs.place.Sheet.put_tally.Goals as goal

pub returns : goal.returns
returns c =
    puts_then c.put_number.ensures.puts
    (puts_then c.put.ensures
    (puts_then c.put_number-2.ensures.puts
    (puts_then c.put-2.ensures
    (puts_then c.put_number-3.ensures.puts c.put-3.ensures))))
