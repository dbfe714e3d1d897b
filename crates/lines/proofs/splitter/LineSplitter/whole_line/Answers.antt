use Rattle.std.proofs.Common.{◌≡◌, ℕ, ◌+◌, List, [], length, take, sym, ap, ◌∙◌, arith, rules, eqb-true}
use Rattle.std.proofs.lemmas.List.{nil_from_length}
use Rattle.lines.specs.Lines.{kept, keeping, before_feed}
use Rattle.lines.proofs.LineSplits.{front_kept, split_whole}
use Rattle.lines.proofs.splitter.LineSplitter.whole_line.Goals as goal

pub returns : goal.returns
returns c =
    let piece : List ℕ = c.args.piece.now in
    let old : List ℕ = kept c.args.self.now.line in
    let feed : ℕ = c.in_ok-feed.feed in
    let o : old ≡ [] = nil_from_length old (ap length (sym c.as_slice.ensures) ∙ eqb-true _ _ (sym c.if-not-is_empty.ensures)) in
    let u : feed + 1 ≡ length (before_feed piece) + 1 = ap (λ (n : ℕ). n + 1) c.in_ok-feed.ensures.place in
    let t : take c.min.result piece ≡ keeping (before_feed piece) = front_kept piece feed c.min.result c.in_ok-feed.ensures.place (omega arith) in
    record {
      found = (o, c.in_ok-feed.ensures.found, u, t);
      within = search rules;
      splits = λ past done s. split_whole past done old piece (feed + 1) c.min.result o c.in_ok-feed.ensures.found u t s;
    }
