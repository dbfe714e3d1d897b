use Rattle.std.proofs.Common.{◌+◌, true, arith}
use Rattle.slot_heaps.specs.Pending.{by_hard, by_soft}
use Rattle.slot_heaps.proofs.Inserting.{place_same, standing_filled, free_filled, length_filled, both_heaped_filled, listed_inserted}
use Rattle.slot_heaps.proofs.TwoHeaps.{heaped_same, timers_then, marks_then, standing_then}
use Rattle.slot_heaps.proofs.steps.insert.Goals as goal

pub push-requires-2-clause-free : goal.push-requires-2-clause-free
push-requires-2-clause-free g c =
    let ys = c.fill.new.slots in
    let s = c.slot_at-slot.result in
    let f = free_filled c.args.pending s c.args.timer c.args.slots.now ys c.requires.standing c.fill.ensures c.requires.room c.slot_at-slot.ensures in
    omega (arith, place_same by_soft ys c.push.new.slots s c.push.ensures.marked.kept.others, f.2)

pub returns-clause-standing : goal.returns-clause-standing
returns-clause-standing g c =
    let xs = c.args.slots.now in
    let ys = c.fill.new.slots in
    let n = c.args.pending in
    let s = c.slot_at-slot.result in
    let t = c.args.timer in
    standing_then s true n (n + 1) ys c.push.new.slots c.push-2.new.slots c.push.ensures.marked c.push-2.ensures.marked
    (omega (arith, length_filled n s t xs ys c.requires.standing c.fill.ensures)) (standing_filled n s t xs ys c.requires.standing c.fill.ensures)

pub returns-clause-listed : goal.returns-clause-listed
returns-clause-listed g c =
    let ys = c.fill.new.slots in
    let zs = c.push.new.slots in
    let ws = c.push-2.new.slots in
    let n = c.args.pending in
    let s = c.slot_at-slot.result in
    let hard = c.push.ensures.marked in
    let soft = c.push-2.ensures.marked in
    listed_inserted n s c.args.timer c.args.slots.now ys c.requires.standing c.fill.ensures c.requires.room c.slot_at-slot.ensures ws
    (marks_then s true n (n + 1) ys zs ws hard soft) (timers_then s true n (n + 1) ys zs ws hard soft)

pub returns-clause-ordered : goal.returns-clause-ordered
returns-clause-ordered g c = λ b.
    let ys = c.fill.new.slots in
    let zs = c.push.new.slots in
    let n = c.args.pending in
    let before = g.T.Time.before in
    let hard = c.push.ensures in
    let soft = c.push-2.ensures in
    let f = both_heaped_filled n c.slot_at-slot.result c.args.timer c.args.slots.now ys c.requires.standing c.fill.ensures c.requires.room c.slot_at-slot.ensures before b in (
      heaped_same by_hard zs c.push-2.new.slots soft.marked.kept.others before (λ t. t.hard) (n + 1) soft.marked.kept.timers (hard.ordered f.0),
      soft.ordered (heaped_same by_soft ys zs hard.marked.kept.others before (λ t. t.soft) n hard.marked.kept.timers f.1),
    )
