use Rattle.request_words.proofs.Placings.{puts_then, puts_as}
use Rattle.request_words.proofs.place.Sheet.put_request.Goals as goal

pub returns-in-Cancel-clause-puts : goal.returns-in-Cancel-clause-puts
returns-in-Cancel-clause-puts c = rw c.in-Cancel.is (puts_then c.put.ensures c.put_number.ensures.puts)

pub returns-in-Advance-clause-puts : goal.returns-in-Advance-clause-puts
returns-in-Advance-clause-puts c = rw c.in-Advance.is (puts_then c.put-in-Advance.ensures (puts_as c.hex_time.ensures c.put-in-Advance-2.ensures))

pub returns-in-Arm-clause-puts : goal.returns-in-Arm-clause-puts
returns-in-Arm-clause-puts c = rw c.in-Arm.is c.put_arm.ensures.puts
