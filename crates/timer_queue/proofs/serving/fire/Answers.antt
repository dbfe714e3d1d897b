use Rattle.std.proofs.Common.{◌≡◌, ◌+◌, false, List, set, sym, refl, ap, ◌∙◌, subst, arith}
use Rattle.std.specs.List.{AllByRecursion}
use Rattle.std.proofs.lemmas.List.{set-get_or}
use Rattle.heap_links.specs.declared.timer.Timer.{Timer}
use Rattle.slot_heaps.specs.Firsts.{First}
use Rattle.slot_heaps.specs.Pending.{listed}
use Rattle.queue_rules.specs.declared.firing.Firing.{Firing}
use Rattle.queue_rules.specs.WakeUps.{ripe}
use Rattle.timer_queue.specs.Held.{held_timers}
use Rattle.timer_queue.proofs.FiringLoop.{FiringOn, fire_begins, fire_goes_on, fire_ends, listed_none}
use Rattle.timer_queue.proofs.Inserting.{inserted_rearranged}
use Rattle.queue_rules.proofs.Rearranged.{length_rearranged}
use Rattle.timer_queue.proofs.Tops.{first_unripe}
use Rattle.timer_queue.proofs.serving.fire.Goals as goal

pub loop-entry-init : goal.loop-entry-init
loop-entry-init g c = (omega arith, refl, λ d. fire_begins g.T.Time.before g.met.T.Time.ordered c.args.wake c.args.forcing 0 _ c.args.log.now d, refl)

pub loop-entry-preserved : goal.loop-entry-preserved
loop-entry-preserved g c =
    let inv = c.loop-entry.invariant in
    let top = c.in-Some.ensures in
    let left = c.remove.ensures in
    let timer : c.in-Some.first ≡ c.remove.result = (let a = top.0.timer in let b = left.value in cc) in
    let log = ap (set c.loop-entry.entry-items c.loop-entry.entry-index) c.entry_of.ensures in (
      omega (arith, inv.0, left.count),
      omega (arith, inv.1, left.count, length_rearranged (inserted_rearranged _ _ _ left.listed)),
      (λ d.
          let first : First g.T.Time.before (λ t. t.soft) c.remove.result (held_timers c.loop-entry.timers) =
          subst (λ (t : Timer g.row.T.Denot). First g.T.Time.before (λ t. t.soft) t (held_timers c.loop-entry.timers)) timer (top.2 c.loop-entry.timers.soft_order) in
          let early = ap (λ (t : Timer g.row.T.Denot). g.T.Time.before c.args.wake t.soft) (sym timer) ∙ sym c.if-before.ensures in
          subst (λ (l : List (Firing g.row.T.Denot)). FiringOn g.T.Time.before g.met.T.Time.ordered c.args.wake c.args.forcing 0 (held_timers c.args.timers.now) c.args.log.now l (c.loop-entry.entry-index + 1) (held_timers c.remove.new.self))
          (sym log)
          (fire_goes_on g.T.Time.before g.met.T.Time.ordered c.args.wake c.args.forcing 0 _ c.args.log.now
          c.loop-entry.entry-items c.loop-entry.entry-index _ _ c.remove.result (inv.2 d) c.loop-entry-test.true left.listed first early)),
      left.length ∙ inv.3,
    )

pub returns-then-before-clause-fired : goal.returns-then-before-clause-fired
returns-then-before-clause-fired g c = λ d.
    let inv = c.loop-entry.invariant in
    let top = c.in-Some.ensures in
    let kept = sym (set-get_or c.loop-entry.entry-items c.loop-entry.entry-index c.entry-item.result) in
    fire_ends g.T.Time.before g.met.T.Time.ordered c.args.wake c.args.forcing 0 _ c.args.log.now _ _ _
    (subst (λ (l : List (Firing g.row.T.Denot)). FiringOn g.T.Time.before g.met.T.Time.ordered c.args.wake c.args.forcing 0 (listed c.args.timers.now.count c.args.timers.now.slots.now) c.args.log.now l c.loop-entry.entry-index (listed c.loop-entry.timers.count c.loop-entry.timers.slots.now)) kept (inv.2 d))
    (first_unripe g.T.Time.before g.met.T.Time.ordered c.in-Some.first _ c.args.wake (top.2 c.loop-entry.timers.soft_order) (sym c.if-before.ensures))

pub returns-in_default-clause-fired : goal.returns-in_default-clause-fired
returns-in_default-clause-fired g c = λ d.
    let none = listed_none c.loop-entry.timers.count c.loop-entry.timers.slots.now c.in_default.ensures in
    let kept = sym (set-get_or c.loop-entry.entry-items c.loop-entry.entry-index c.entry-item.result) in
    fire_ends g.T.Time.before g.met.T.Time.ordered c.args.wake c.args.forcing 0 _ c.args.log.now _ _ _
    (subst (λ (l : List (Firing g.row.T.Denot)). FiringOn g.T.Time.before g.met.T.Time.ordered c.args.wake c.args.forcing 0 (listed c.args.timers.now.count c.args.timers.now.slots.now) c.args.log.now l c.loop-entry.entry-index (listed c.loop-entry.timers.count c.loop-entry.timers.slots.now)) kept (c.loop-entry.invariant.2 d))
    (subst (AllByRecursion (λ y. ripe g.T.Time.before c.args.wake y ≡ false)) (sym none) tt)

-- the log is full: every timer was fired
pub returns-after-loop-entry-clause-fired : goal.returns-after-loop-entry-clause-fired
returns-after-loop-entry-clause-fired g c = λ d.
    let inv = c.loop-entry.invariant in
    let none = listed_none c.loop-entry.timers.count c.loop-entry.timers.slots.now (omega (arith, inv.0, c.requires, c.loop-entry-test.false)) in
    fire_ends g.T.Time.before g.met.T.Time.ordered c.args.wake c.args.forcing 0 _ c.args.log.now _ _ _ (inv.2 d)
    (subst (AllByRecursion (λ y. ripe g.T.Time.before c.args.wake y ≡ false)) (sym none) tt)
