use Rattle.std.proofs.Common.{ℕ, ◌+◌, List, ◌++◌, length, take, Some, None, refl, sym, ap, ◌∙◌, arith}
use Rattle.lines.specs.Lines.{kept, keeping, Took}
use Rattle.lines.proofs.LineSplits.{split_took}
use Rattle.lines.proofs.LineSteps.{before_front}
use Rattle.lines.proofs.splitter.LineSplitter.feed.Goals as goal

pub returns-in-Some : goal.returns-in-Some
returns-in-Some c =
    let piece : List ℕ = c.args.piece.now in
    let old : List ℕ = kept c.args.self.now.line in
    let place = c.in-Some.ensures.place in
    let front = ap (λ (n : ℕ). take n piece) place ∙ sym (before_front piece) in
    let line = ap kept c.replace-line.ensures.value ∙ c.keep.ensures ∙ ap (λ (t : List ℕ). keeping (old ++ t)) front in
    let t : Took old piece (c.in-Some.at + 1) (Some c.replace-line.result) (kept c.replace-line.new.dest) =
    (c.in-Some.ensures.found, ap (λ (n : ℕ). n + 1) place, line, ap kept c.replace-line.ensures.after ∙ c.new.ensures) in
    record { took = t; within = omega (arith, c.in-Some.ensures.within); onward = λ some. omega arith; splits = λ past done s. split_took past done old piece _ (Some c.replace-line.result) _ t s }

pub returns-in-None : goal.returns-in-None
returns-in-None c =
    let piece : List ℕ = c.args.piece.now in
    let old : List ℕ = kept c.args.self.now.line in
    let t : Took old piece (length piece) None (kept c.keep-in-None.new.self) = (c.in-None.ensures.found, refl, c.keep-in-None.ensures) in
    record { took = t; within = omega arith; onward = λ some. omega arith; splits = λ past done s. split_took past done old piece _ None _ t s }
