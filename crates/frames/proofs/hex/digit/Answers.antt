-- Each arm's numbers have that arm's characters, and no digit has a character outside both.
use Rattle.std.proofs.Common.{arith}
use Rattle.std.proofs.lemmas.Bool.Decides.{nat_tests}
use Rattle.frames.proofs.HexDigits.{digit_answers, digit_refuses}
use Rattle.frames.proofs.hex.digit.Goals as goal

pub returns-in-0-to-9-clause-answer : goal.returns-in-0-to-9-clause-answer
returns-in-0-to-9-clause-answer c = digit_answers c.args.sign _ (omega arith) (grind (arith, nat_tests))

pub returns-in-A-to-F-clause-answer : goal.returns-in-A-to-F-clause-answer
returns-in-A-to-F-clause-answer c = digit_answers c.args.sign _ (omega arith) (grind (arith, nat_tests))

pub returns-in_default-clause-answer : goal.returns-in_default-clause-answer
returns-in_default-clause-answer c = digit_refuses c.args.sign (λ d h e. grind (arith, nat_tests))

pub returns-in_default-2-clause-answer : goal.returns-in_default-2-clause-answer
returns-in_default-2-clause-answer c = digit_refuses c.args.sign (λ d h e. grind (arith, nat_tests))

pub returns-in_default-3-clause-answer : goal.returns-in_default-3-clause-answer
returns-in_default-3-clause-answer c = digit_refuses c.args.sign (λ d h e. grind (arith, nat_tests))
