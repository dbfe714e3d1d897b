use Rattle.std.proofs.Common.{Err, Result, ap, ◌∙◌}
use Rattle.std.proofs.lemmas.Result.{err_from_is_err_and}
use Rattle.std.specs.Result.{result_map_both}
use Rattle.frames.specs.declared.faults.ReadFault.{ReadFault}
use Rattle.frames.specs.declared.request.Request.{Request}
use Rattle.frames.specs.Reading.{read_line, line_answer, frame_answer}
use Rattle.runs.specs.declared.faults.RunFault.{RunFault}
use Rattle.runs.specs.Hearing.{carried}
use Rattle.runs.proofs.reading.read_request.Goals as goal

abbrev lifted : Result Request ReadFault → Result Request RunFault
lifted r = result_map_both (λ q. q) carried r

pub returns-in_err-frame : goal.returns-in_err-frame
unfolding read_line
returns-in_err-frame c =
    let p = err_from_is_err_and c.from_residual.result c.from_residual.ensures.1 in
    p.1 ∙ ap Err p.2 ∙ ap (λ r. lifted (line_answer r)) c.in_err-frame.ensures

pub returns-in_err-request : goal.returns-in_err-request
unfolding read_line
returns-in_err-request c =
    let p = err_from_is_err_and c.from_residual-in_err-request.result c.from_residual-in_err-request.ensures.1 in
    p.1 ∙ ap Err p.2 ∙ ap (λ r. lifted (frame_answer r)) c.in_err-request.ensures ∙ ap (λ r. lifted (line_answer r)) c.in_ok-frame.ensures

pub returns : goal.returns
unfolding read_line
returns c = ap (λ r. lifted (frame_answer r)) c.in_ok-request.ensures ∙ ap (λ r. lifted (line_answer r)) c.in_ok-frame.ensures
