use Rattle.std.proofs.Common.{◌≡◌, ◌<◌, length, get_or, ap, ◌∙◌, arith}
use Rattle.heap_links.specs.Columns.{timers, place_of}
use Rattle.slot_heaps.specs.Firsts.{Holds}
use Rattle.slot_heaps.proofs.Heads.{top_is_first}
use Rattle.key_heaps.proofs.Orders.{precedes_ranks}
use Rattle.heap_links.proofs.Reading.{nth_column}
use Rattle.slot_heaps.proofs.TwoHeaps.{pending_back}
use Rattle.slot_heaps.proofs.roots.root.Goals as goal

pub returns : goal.returns
returns g c =
    let xs = c.args.slots.now in
    let n = c.args.pending in
    let link = g.K.Key.link in
    let i = c.slot_at-slot.result in
    let top = c.requires.linked.0 0 (omega arith) in
    let within : i < length xs = omega (arith, top.0) in
    let place : place_of link xs i ≡ 0 = ap (place_of link xs) c.slot_at-slot.ensures ∙ top.1 in
    let held : Holds n xs i (get_or xs i c.index-slots-slot.result).timer = record {
      within = within;
      pending = pending_back link n xs i c.requires.same within (omega arith);
      timer = nth_column (λ s. s.timer) xs i c.index-slots-slot.result within;
    } in
    let ranks = precedes_ranks g.T.Time.before g.K.Key.time g.met.T.Time.ordered (timers xs) in
    (held, c.slot_at-slot.ensures, top_is_first g.T.Time.before g.K.Key.time link n xs i _ ranks c.requires.linked c.requires.same held c.slot_at-slot.ensures)
