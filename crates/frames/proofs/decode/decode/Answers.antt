use Rattle.std.proofs.Common.{◌≡◌, true, false, length, Err, sym, ap, ◌∙◌, arith}
use Rattle.std.proofs.lemmas.Result.{err_from_is_err_and}
use Rattle.std.proofs.lemmas.Bool.Decides.{nat_tests}
use Rattle.frames.specs.declared.faults.LineFault.TheVariants.{NotHex}
use Rattle.frames.specs.Check.{checked}
use Rattle.frames.specs.Line.{counted, held_in}
use Rattle.frames.proofs.LineForm.{too_long, bad_count, not_hex, bad_check, well_formed}
use Rattle.frames.proofs.Spelling.{some_from_ok, none_from_err}
use Rattle.frames.proofs.decode.decode.Goals as goal

pub returns-then-line-gt-LONGEST : goal.returns-then-line-gt-LONGEST
returns-then-line-gt-LONGEST c = sym (too_long c.args.line.now (omega arith))

pub returns-then-line-lt-SHORTEST : goal.returns-then-line-lt-SHORTEST
returns-then-line-lt-SHORTEST c =
    let t : counted (length c.args.line.now) ≡ true = grind (arith, nat_tests) in
    sym (bad_count c.args.line.now (omega arith) t)

pub returns-in_err-frame : goal.returns-in_err-frame
returns-in_err-frame c =
    let t : counted (length c.args.line.now) ≡ false = grind (arith, nat_tests) in
    let p = err_from_is_err_and c.from_residual.result c.from_residual.ensures.1 in
    let n = none_from_err _ NotHex _ c.in_err-frame.ensures in
    ap held_in p.1 ∙ ap Err (p.2 ∙ n.1) ∙ sym (not_hex c.args.line.now (omega arith) t n.0)

pub returns-then-not-ends_in_check : goal.returns-then-not-ends_in_check
returns-then-not-ends_in_check c =
    let t : counted (length c.args.line.now) ≡ false = grind (arith, nat_tests) in
    let k = ap checked (sym c.as_slice.ensures) ∙ sym c.if-not-ends_in_check.ensures in
    sym (bad_check c.args.line.now _ (omega arith) t (some_from_ok _ NotHex _ c.in_ok-frame.ensures) k)

pub returns : goal.returns
returns c =
    let t : counted (length c.args.line.now) ≡ false = grind (arith, nat_tests) in
    let k = ap checked (sym c.as_slice.ensures) ∙ sym c.if-not-ends_in_check.ensures in
    sym (well_formed c.args.line.now _ (omega arith) t (some_from_ok _ NotHex _ c.in_ok-frame.ensures) k)
