use Rattle.std.proofs.Common.{rules, ◌≡◌, sym, ◌∙◌, subst}
use Rattle.slot_heaps.specs.Firsts.{Found}
use Rattle.slot_heaps.proofs.Heads.{found_position}
use Rattle.slot_heaps.proofs.search.find.Goals as goal

pub returns : goal.returns
returns g c =
    let same : c.map.result ≡ c.index_of.result = search rules in
    subst (Found c.args.number c.args.pending c.args.slots.now) (sym (same ∙ c.index_of.ensures)) (found_position c.args.pending c.args.number c.args.slots.now)
