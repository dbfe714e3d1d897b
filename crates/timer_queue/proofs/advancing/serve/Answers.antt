use Rattle.std.proofs.Common.{sym, refl, ◌∙◌, subst, arith}
use Rattle.alarms.specs.Meaning.{NotPast}
use Rattle.timer_queue.specs.Held.{held_timers}
use Rattle.timer_queue.proofs.FiringLoop.{fired_behind, listed_none}
use Rattle.timer_queue.proofs.ServingLoop.{serve_begins, serve_counts, serve_ends, wake_ahead, wake_fires, wake_serves, none_rings}
use Rattle.timer_queue.proofs.advancing.serve.Goals as goal

pub loop-t-init : goal.loop-t-init
loop-t-init g c = (
  omega arith,
  refl,
  (λ r. serve_begins g.T.Time.before g.met.T.Time.ordered c.args.t _ c.args.log.now _ _ r.distinct r.proper r.clock r.due),
  refl,
)

pub loop-t-preserved : goal.loop-t-preserved
loop-t-preserved g c =
    let inv = c.loop-t.invariant in
    let f = c.fire.ensures in (
      omega (arith, inv.0, f.fewer, c.if-count-left.false),
      omega (arith, inv.1, f.held),
      (λ r.
          let s = inv.2 r in
          let top = c.in-Some.ensures.2 c.loop-t.timers.hard_order in
          let rung = c.loop-t-test.ensures s.clock in
          let split = c.split_at_mut-unlogged.ensures in
          let fired = fired_behind g.T.Time.before c.in-Some.forcing.hard c.in-Some.forcing.number _ _ _ c.loop-t.log _ _ _ split.front split.back (f.fired s.distinct) in
          let ahead = wake_ahead g.T.Time.before g.met.T.Time.ordered c.args.t (held_timers c.args.timers.now) c.args.log.now c.loop-t.wakes c.loop-t.log (held_timers c.loop-t.timers) _ _ _ _ c.in-Some.forcing s rung top _ _ _ fired in
          let least = c.least.ensures in
          let due = c.aim.ensures.due (subst (NotPast g.T.Time.before (g.A.AlarmDevice.clock c.rings.new.alarm)) (sym least) ahead) ∙ least in
          wake_serves g.T.Time.before g.met.T.Time.ordered c.args.t (held_timers c.args.timers.now) c.args.log.now c.loop-t.wakes c.loop-t.log (held_timers c.loop-t.timers) _ _ _ _ c.in-Some.forcing s rung top _ _ _ fired _ _
          (omega (arith, inv.1, r.held, s.count)) (omega (arith, r.held)) c.aim.ensures.clock due),
      f.length ∙ inv.3,
    )

pub returns-after-loop-t-clause-served : goal.returns-after-loop-t-clause-served
returns-after-loop-t-clause-served g c = λ r. let s = c.loop-t.invariant.2 r in serve_ends g.T.Time.before g.met.T.Time.ordered c.args.t (held_timers c.args.timers.now) c.args.log.now c.loop-t.wakes c.loop-t.log (held_timers c.loop-t.timers) _ _ _ _ s (c.loop-t-test.ensures s.clock)

pub returns-after-loop-t-clause-counted : goal.returns-after-loop-t-clause-counted
returns-after-loop-t-clause-counted g c = λ r. let s = c.loop-t.invariant.2 r in serve_counts g.T.Time.before g.met.T.Time.ordered c.args.t (held_timers c.args.timers.now) c.args.log.now c.loop-t.wakes c.loop-t.log (held_timers c.loop-t.timers) _ _ _ _ s (c.loop-t-test.ensures s.clock)

-- the alarm cannot ring while nothing is pending
pub returns-in_default-clause-served : goal.returns-in_default-clause-served
returns-in_default-clause-served g c = λ r.
    let s = c.loop-t.invariant.2 r in
    absurd (none_rings g.T.Time.before g.met.T.Time.ordered c.args.t (held_timers c.args.timers.now) c.args.log.now c.loop-t.wakes c.loop-t.log (held_timers c.loop-t.timers) _ _ _ _ s (c.loop-t-test.ensures s.clock) (listed_none c.loop-t.timers.count c.loop-t.timers.slots.now c.in_default.ensures))

pub returns-in_default-clause-counted : goal.returns-in_default-clause-counted
returns-in_default-clause-counted g c = λ r.
    let s = c.loop-t.invariant.2 r in
    absurd (none_rings g.T.Time.before g.met.T.Time.ordered c.args.t (held_timers c.args.timers.now) c.args.log.now c.loop-t.wakes c.loop-t.log (held_timers c.loop-t.timers) _ _ _ _ s (c.loop-t-test.ensures s.clock) (listed_none c.loop-t.timers.count c.loop-t.timers.slots.now c.in_default.ensures))

-- nor can a wake-up fire nothing
pub returns-then-count-left-clause-served : goal.returns-then-count-left-clause-served
returns-then-count-left-clause-served g c = λ r.
    let inv = c.loop-t.invariant in
    let f = c.fire.ensures in
    let split = c.split_at_mut-unlogged.ensures in
    let s = inv.2 r in
    let fired = fired_behind g.T.Time.before c.in-Some.forcing.hard c.in-Some.forcing.number _ _ _ c.loop-t.log _ _ _ split.front split.back (f.fired s.distinct) in
    let fires = wake_fires g.T.Time.before g.met.T.Time.ordered c.args.t (held_timers c.args.timers.now) c.args.log.now c.loop-t.wakes c.loop-t.log (held_timers c.loop-t.timers) _ _ _ _ c.in-Some.forcing s (c.loop-t-test.ensures s.clock) (c.in-Some.ensures.2 c.loop-t.timers.hard_order) _ _ _ fired in
    absurd (omega (arith, fires, f.held, c.if-count-left.true))

pub returns-then-count-left-clause-counted : goal.returns-then-count-left-clause-counted
returns-then-count-left-clause-counted g c = λ r.
    let inv = c.loop-t.invariant in
    let f = c.fire.ensures in
    let split = c.split_at_mut-unlogged.ensures in
    let s = inv.2 r in
    let fired = fired_behind g.T.Time.before c.in-Some.forcing.hard c.in-Some.forcing.number _ _ _ c.loop-t.log _ _ _ split.front split.back (f.fired s.distinct) in
    let fires = wake_fires g.T.Time.before g.met.T.Time.ordered c.args.t (held_timers c.args.timers.now) c.args.log.now c.loop-t.wakes c.loop-t.log (held_timers c.loop-t.timers) _ _ _ _ c.in-Some.forcing s (c.loop-t-test.ensures s.clock) (c.in-Some.ensures.2 c.loop-t.timers.hard_order) _ _ _ fired in
    absurd (omega (arith, fires, f.held, c.if-count-left.true))
