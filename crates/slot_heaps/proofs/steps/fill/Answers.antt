use Rattle.std.proofs.Common.{refl}
use Rattle.std.proofs.lemmas.List.{map-set}
use Rattle.slot_heaps.specs.Pending.{by_hard, by_soft}
use Rattle.heap_links.proofs.Reading.{column_kept}
use Rattle.slot_heaps.proofs.steps.fill.Goals as goal

pub returns : goal.returns
returns g c =
    let xs = c.args.slots.now in
    let i = c.args.slot in
    let d = c.index-slots-slot.result in
    record {
      timers = map-set (λ s. s.timer) xs i _;
      hard = column_kept by_hard xs i d c.requires _ refl;
      soft = column_kept by_soft xs i d c.requires _ refl;
    }
