use Rattle.std.proofs.Common.{ℕ, ◌/◌, List, length, Some, None, Err, Option, sym, ap, ◌∙◌, arith}
use Rattle.std.proofs.lemmas.List.{length-set}
use Rattle.std.proofs.lemmas.Result.{err_from_is_err_and}
use Rattle.std.specs.Option.{ok_or}
use Rattle.frames.specs.Line.{held_in}
use Rattle.frames.specs.declared.faults.LineFault.TheVariants.{NotHex}
use Rattle.frames.proofs.Spelling.{pair_at, spelled_more, spelled_none, some_from_ok, none_from_err}
use Rattle.frames.proofs.decode.unhex.Goals as goal

pub returns-in_err-bytes : goal.returns-in_err-bytes
returns-in_err-bytes c =
    let line : List ℕ = c.args.line.now in
    let p = err_from_is_err_and c.from_residual.result c.from_residual.ensures.1 in
    let n = none_from_err _ NotHex _ c.in_err-bytes.ensures in
    let q = pair_at (length line / 2) c.loop-i.i line _ _ None c.as_chunks.ensures.front (omega arith) (omega arith) n.0 in
    let s = spelled_none line c.loop-i.bytes c.loop-i.i (omega arith) q c.loop-i.invariant.found in
    ap held_in p.1 ∙ ap Err (p.2 ∙ n.1) ∙ sym (ap (λ (o : Option (List ℕ)). ok_or o NotHex) s)

pub loop-i-preserved : goal.loop-i-preserved
loop-i-preserved c =
    let line : List ℕ = c.args.line.now in
    let b : ℕ = c.in_ok-bytes.field-0 in
    let q = pair_at (length line / 2) c.loop-i.i line _ _ (Some b) c.as_chunks.ensures.front (omega arith) (omega arith) (some_from_ok _ NotHex b c.in_ok-bytes.ensures) in
    record {
      found = spelled_more line c.loop-i.bytes c.loop-i.i b (omega arith) (omega arith) q c.loop-i.invariant.found;
      size = length-set c.loop-i.bytes c.loop-i.i b ∙ c.loop-i.invariant.size;
    }
