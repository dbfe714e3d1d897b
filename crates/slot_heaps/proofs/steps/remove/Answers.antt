use Rattle.std.proofs.Common.{◌+◌, false, arith}
use Rattle.slot_heaps.specs.Pending.{by_hard, by_soft}
use Rattle.slot_heaps.proofs.Inserting.{place_same, listed_removed}
use Rattle.slot_heaps.proofs.TwoHeaps.{heaped_same, pending_both, timer_then, timers_then, marks_then, standing_then}
use Rattle.slot_heaps.proofs.steps.remove.Goals as goal

pub take_out-requires-2-clause-there : goal.take_out-requires-2-clause-there
take_out-requires-2-clause-there g c =
    let xs = c.args.slots.now in
    let s = c.args.slot in
    let there = pending_both by_soft (c.args.left + 1) xs s c.requires.standing.4 c.requires.within (omega (arith, c.requires.there)) in
    omega (arith, place_same by_soft xs c.take_out.new.slots s c.take_out.ensures.marked.kept.others)

pub returns-clause-standing : goal.returns-clause-standing
returns-clause-standing g c =
    let n = c.args.left in
    standing_then c.args.slot false (n + 1) n c.args.slots.now c.take_out.new.slots c.take_out-2.new.slots c.take_out.ensures.marked c.take_out-2.ensures.marked
    (omega (arith, c.requires.standing.1)) c.requires.standing

pub returns-clause-value : goal.returns-clause-value
returns-clause-value g c =
    let n = c.args.left in
    timer_then c.args.slot false (n + 1) n c.args.slots.now c.take_out.new.slots c.take_out-2.new.slots c.take_out.ensures.marked c.take_out-2.ensures.marked
    c.index-slots-slot.result c.requires.within

pub returns-clause-listed : goal.returns-clause-listed
returns-clause-listed g c =
    let xs = c.args.slots.now in
    let ys = c.take_out.new.slots in
    let zs = c.take_out-2.new.slots in
    let n = c.args.left in
    let s = c.args.slot in
    let hard = c.take_out.ensures.marked in
    let soft = c.take_out-2.ensures.marked in
    let timer = timer_then s false (n + 1) n xs ys zs hard soft c.index-slots-slot.result c.requires.within in
    listed_removed n s _ xs zs (record { within = c.requires.within; pending = omega (arith, c.requires.there); timer = timer })
    (marks_then s false (n + 1) n xs ys zs hard soft) (timers_then s false (n + 1) n xs ys zs hard soft)

pub returns-clause-ordered : goal.returns-clause-ordered
returns-clause-ordered g c = λ b.
    let ys = c.take_out.new.slots in
    let n = c.args.left in
    let before = g.T.Time.before in
    let hard = c.take_out.ensures in
    let soft = c.take_out-2.ensures in (
      heaped_same by_hard ys c.take_out-2.new.slots soft.marked.kept.others before (λ t. t.hard) n soft.marked.kept.timers (hard.ordered b.0),
      soft.ordered (heaped_same by_soft c.args.slots.now ys hard.marked.kept.others before (λ t. t.soft) (n + 1) hard.marked.kept.timers b.1),
    )
