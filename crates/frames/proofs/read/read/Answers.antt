use Rattle.std.proofs.Common.{Err, sym, ap, ◌∙◌}
use Rattle.std.proofs.lemmas.Result.{err_from_is_err_and}
use Rattle.frames.specs.Reading.{read_line, line_answer, frame_answer}
use Rattle.frames.proofs.OnlyLine.{only_line}
use Rattle.frames.proofs.read.read.Goals as goal

pub returns-in_err-frame-clause-answer : goal.returns-in_err-frame-clause-answer
unfolding read_line
returns-in_err-frame-clause-answer c =
    let p = err_from_is_err_and c.from_residual.result c.from_residual.ensures.1 in
    p.1 ∙ ap Err p.2 ∙ ap line_answer c.in_err-frame.ensures

pub returns-in_err-request-clause-answer : goal.returns-in_err-request-clause-answer
unfolding read_line
returns-in_err-request-clause-answer c =
    let p = err_from_is_err_and c.from_residual-in_err-request.result c.from_residual-in_err-request.ensures.1 in
    p.1 ∙ ap Err p.2 ∙ ap frame_answer c.in_err-request.ensures ∙ ap line_answer c.in_ok-frame.ensures

pub returns : goal.returns
unfolding read_line
returns c =
    let e = ap frame_answer c.in_ok-request.ensures ∙ ap line_answer c.in_ok-frame.ensures in
    record { answer = e; only = only_line c.args.line.now c.in_ok-request.request (sym e) }
