use Rattle.std.proofs.Common.{◌<◌, length, refl, ◌∙◌, arith}
use Rattle.heap_links.proofs.Reading.{column_kept}
use Rattle.slot_heaps.specs.Pending.{by_hard, by_soft}
use Rattle.slot_heaps.proofs.Laying.{straight_more, straight_standing, none_listed}
use Rattle.slot_heaps.proofs.layout.lay_out.Goals as goal

pub loop-i-preserved : goal.loop-i-preserved
loop-i-preserved g c =
    let xs = c.loop-i.slots in
    let i = c.loop-i.i in
    let was = c.loop-i.invariant in
    let within : i < length xs = omega arith in
    record {
      hard = straight_more by_hard xs i _ within refl refl was.hard;
      soft = straight_more by_soft xs i _ within refl refl was.soft;
      timers = column_kept (λ s. s.timer) xs i c.index-slots-i.result within _ refl ∙ was.timers;
    }

pub returns-clause-standing : goal.returns-clause-standing
returns-clause-standing g c =
    let was = c.loop-i.invariant in
    straight_standing c.loop-i.slots (omega arith) (λ k l. was.hard k (omega (arith, c.loop-i-test.false))) (λ k l. was.soft k (omega (arith, c.loop-i-test.false)))

pub returns-clause-listed : goal.returns-clause-listed
returns-clause-listed g c = none_listed c.loop-i.slots
