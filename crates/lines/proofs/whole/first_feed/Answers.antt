use Rattle.std.proofs.Common.{◌≡◌, ◌==◌, rules}
use borrow.Author.Tests.{tests}
use Rattle.std.specs.List.{position}
use Rattle.std.proofs.lemmas.Iterator.{YieldsList-from_slice}
use Rattle.std.proofs.lemmas.Iterator.Search.{position_from_yields_List}
use Rattle.lines.proofs.LineSteps.{feed_at, feeds_at, first_within}
use Rattle.lines.proofs.whole.first_feed.Goals as goal

pub returns : goal.returns
returns c =
    let first : c.position.result ≡ position (λ b. b == 10) c.args.piece.now =
    position_from_yields_List (λ b. b == 10) _ _ c.position.result c.position.ensures.ran (YieldsList-from_slice c.args.piece.now cc) (λ x b q k. search (rules, tests)) in
    record { place = feed_at c.args.piece.now _ first; found = feeds_at c.args.piece.now _ first; within = first_within c.args.piece.now _ first }
