use Rattle.std.proofs.Common.{◌≡◌, ℕ, List, length, is_ok, None, Ok, Err, sym, ap, ◌∙◌, subst, arith}
use Rattle.alarms.specs.Meaning.{NotPast}
use Rattle.std.proofs.lemmas.Result.{err_from_is_err_and}
use Rattle.heap_links.specs.declared.timer.Timer.{Timer}
use Rattle.queue_rules.specs.declared.fault.QueueFault.{QueueFault}
use Rattle.slot_heaps.specs.declared.pending.PendingTimers.{PendingTimers}
use Rattle.queue_rules.specs.Calls.{State, arming}
use Rattle.timer_queue.specs.Doing.{state_with}
use Rattle.queue_rules.specs.Events.{armed}
use Rattle.slot_heaps.specs.Pending.{Inserted}
use Rattle.timer_queue.specs.Held.{held_timers}
use Rattle.queue_rules.specs.Timers.{timed, least_hard}
use Rattle.timer_queue.specs.Views.{view, arm_refusal}
use Rattle.timer_queue.proofs.Carried.{arm_carries}
use Rattle.timer_queue.proofs.Entering.{entered, entered_ahead, entered_distinct, entered_proper}
use Rattle.timer_queue.proofs.Inserting.{inserted_length}
use Rattle.timer_queue.proofs.Outcomes.{arm_turned}
use Rattle.timer_queue.proofs.Refused.{turned_away}
use Rattle.timer_queue.proofs.Typed.{counted_still}
use Rattle.timer_queue.proofs.queue.TimerQueue.arm.Goals as goal

pub returns-in_err-check_arm-clause-done : goal.returns-in_err-check_arm-clause-done
returns-in_err-check_arm-clause-done g c =
    let before = g.T.Time.before in
    let q = c.args.self.now in
    let x : Timer g.row.T.Denot = timed c.args.number c.args.soft c.args.hard in
    let s : State g.row.T.Denot = state_with g.A.AlarmDevice.clock g.A.AlarmDevice.due q c.args.alarm.now in
    let f : QueueFault = c.in_err-check_arm.field-0.0 in
    let p = err_from_is_err_and c.from_residual.result c.from_residual.ensures.1 in
    let e : c.from_residual.result ≡ Err f = p.1 ∙ ap Err p.2 in
    turned_away before g.A.AlarmDevice.clock g.A.AlarmDevice.due q c.args.alarm.now (λ t. arming before t x) (λ r. armed (is_ok r) x) f c.from_residual.result
    (arm_carries before g.met.T.Time.ordered s s x)
    (arm_turned before g.met.T.Time.ordered (length q.timers.slots.now) (held_timers q.timers) s.clock s.due x f c.in_err-check_arm.ensures.answer) e

pub invariant_of-self : goal.invariant_of-self
invariant_of-self g c =
    let before = g.T.Time.before in
    let o = g.met.T.Time.ordered in
    let q = c.args.self.now in
    let a : g.row.A.Denot = c.args.alarm.now in
    let i : PendingTimers g.row.T.Denot g.T.Time = q.timers in
    let j : PendingTimers g.row.T.Denot g.T.Time = c.insert.new.self in
    let x : Timer g.row.T.Denot = timed c.args.number c.args.soft c.args.hard in
    let free : arm_refusal before (length i.slots.now) (held_timers i) (g.A.AlarmDevice.clock a) (g.A.AlarmDevice.due a) x ≡ None = sym c.in_ok-check_arm.ensures.answer in
    let ahead = c.check_arm.ensures.ahead in
    let list : Inserted x (held_timers i) (held_timers j) = c.insert.ensures.listed in
    record {
      counted = counted_still _ _ (length q.spare.now) c.insert.ensures.length q.counted;
      held = inserted_length _ (held_timers i) (held_timers j) list ∙ omega (arith, q.held, c.insert.ensures.count);
      distinct = entered_distinct before o (length i.slots.now) (held_timers i) (held_timers j) (g.A.AlarmDevice.clock a) (g.A.AlarmDevice.due a) x free ahead list q.distinct q.proper;
      proper = entered_proper before o (length i.slots.now) (held_timers i) (held_timers j) (g.A.AlarmDevice.clock a) (g.A.AlarmDevice.due a) x free ahead list q.distinct q.proper;
    }

pub returns-clause-done : goal.returns-clause-done
returns-clause-done g c =
    let before = g.T.Time.before in
    let o = g.met.T.Time.ordered in
    let clock = g.A.AlarmDevice.clock in
    let due = g.A.AlarmDevice.due in
    let q = c.args.self.now in
    let a : g.row.A.Denot = c.args.alarm.now in
    let j : PendingTimers g.row.T.Denot g.T.Time = c.insert.new.self in
    let x : Timer g.row.T.Denot = timed c.args.number c.args.soft c.args.hard in
    let u : ℕ = length q.timers.slots.now in
    let xs : List (Timer g.row.T.Denot) = held_timers q.timers in
    let ys : List (Timer g.row.T.Denot) = held_timers j in
    let free : arm_refusal before u xs (clock a) (due a) x ≡ None = sym c.in_ok-check_arm.ensures.answer in
    let ahead = c.check_arm.ensures.ahead in
    let list = c.insert.ensures.listed in
    let least : c.least.result ≡ least_hard before ys = c.least.ensures in
    let not_past = entered_ahead before o u xs ys (clock a) (due a) x free ahead list q.distinct q.proper in
    let at_least : due c.aim.new.alarm ≡ least_hard before ys = c.aim.ensures.due (subst (NotPast before (clock a)) (sym least) not_past) ∙ least in
    let e = entered before o u xs ys (clock a) (due a) x free ahead list q.distinct q.proper (length j.slots.now) (clock c.aim.new.alarm) (due c.aim.new.alarm)
    c.insert.ensures.length c.aim.ensures.clock at_least in
    record {
      outcome = e;
      history = arm_carries before o (view u xs (clock a) (due a)) (view (length j.slots.now) ys (clock c.aim.new.alarm) (due c.aim.new.alarm)) x (Ok tt) e;
    }
