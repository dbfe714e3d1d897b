use Rattle.std.proofs.Common.{◌≡◌, List, ℕ, ◌++◌, sym, ap, ◌∙◌, arith}
use Rattle.std.proofs.lemmas.Grind.{common_steps}
use Rattle.lines.specs.Lines.{kept, handed, ended}
use Rattle.lines.proofs.LineSplits.{split_last}
use Rattle.lines.proofs.LineSteps.{kept_few}
use Rattle.lines.proofs.splitter.LineSplitter.finish.Goals as goal

pub returns-clause-lines : goal.returns-clause-lines
returns-clause-lines c =
    let rest : List ℕ = kept c.args.self.line in
    let e : handed c.then_some.result ≡ ended rest = grind (arith, common_steps) in
    λ past done s. split_last past done rest (kept_few c.args.self.line) s ∙ ap (λ (t : List (List ℕ)). done ++ t) (sym e)
