use Rattle.std.proofs.Common.{rules}
use Rattle.request_words.specs.Words.{full_line}
use Rattle.request_words.specs.Sheets.{Puts}
use Rattle.request_words.proofs.Placings.{puts_then}
use Rattle.request_words.proofs.buffers.put_line.Goals as goal

pub returns : goal.returns
returns c =
    let p : Puts (full_line c.args.number c.args.answer.now) _ c.put-2.new.self =
    puts_then c.put_number.ensures.puts (puts_then c.put.ensures (puts_then c.put_answer.ensures.puts c.put-2.ensures)) in
    search rules
