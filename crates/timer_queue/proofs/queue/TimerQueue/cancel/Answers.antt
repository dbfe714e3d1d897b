use Rattle.std.proofs.Common.{◌≡◌, ℕ, List, length, is_ok, None, Ok, Err, sym, ap, ◌∙◌, subst, arith}
use Rattle.std.proofs.lemmas.Result.{err_from_is_err_and}
use Rattle.alarms.specs.Meaning.{NotPast}
use Rattle.heap_links.specs.declared.timer.Timer.{Timer}
use Rattle.queue_rules.specs.declared.fault.QueueFault.{QueueFault}
use Rattle.slot_heaps.specs.declared.pending.PendingTimers.{PendingTimers}
use Rattle.queue_rules.specs.Calls.{State, cancelling}
use Rattle.timer_queue.specs.Doing.{state_with}
use Rattle.queue_rules.specs.Events.{cancelled}
use Rattle.slot_heaps.specs.Pending.{Inserted}
use Rattle.timer_queue.specs.Held.{held_timers}
use Rattle.queue_rules.specs.Timers.{least_hard}
use Rattle.timer_queue.specs.Views.{view, cancel_refusal}
use Rattle.timer_queue.proofs.Carried.{cancel_carries}
use Rattle.timer_queue.proofs.Inserting.{inserted_length}
use Rattle.timer_queue.proofs.Leaving.{left, left_ahead, left_distinct, left_proper}
use Rattle.timer_queue.proofs.Outcomes.{cancel_turned}
use Rattle.timer_queue.proofs.Refused.{turned_away}
use Rattle.timer_queue.proofs.Typed.{counted_still}
use Rattle.timer_queue.proofs.queue.TimerQueue.cancel.Goals as goal

pub returns-in_err-slot-clause-done : goal.returns-in_err-slot-clause-done
returns-in_err-slot-clause-done g c =
    let before = g.T.Time.before in
    let q = c.args.self.now in
    let n : ℕ = c.args.number in
    let s : State g.row.T.Denot = state_with g.A.AlarmDevice.clock g.A.AlarmDevice.due q c.args.alarm.now in
    let f : QueueFault = c.in_err-slot.field-0.0 in
    let p = err_from_is_err_and c.from_residual.result c.from_residual.ensures.1 in
    let e : c.from_residual.result ≡ Err f = p.1 ∙ ap Err p.2 in
    turned_away before g.A.AlarmDevice.clock g.A.AlarmDevice.due q c.args.alarm.now (λ t. cancelling before t n) (λ r. cancelled (is_ok r) n) f c.from_residual.result
    (cancel_carries before g.met.T.Time.ordered s s n)
    (cancel_turned before g.met.T.Time.ordered (length q.timers.slots.now) (held_timers q.timers) s.clock s.due n f c.in_err-slot.ensures.answer) e

pub invariant_of-self : goal.invariant_of-self
invariant_of-self g c =
    let before = g.T.Time.before in
    let o = g.met.T.Time.ordered in
    let q = c.args.self.now in
    let a : g.row.A.Denot = c.args.alarm.now in
    let n : ℕ = c.args.number in
    let i : PendingTimers g.row.T.Denot g.T.Time = q.timers in
    let j : PendingTimers g.row.T.Denot g.T.Time = c.remove.new.self in
    let x : Timer g.row.T.Denot = c.remove.result in
    let hit = c.in_ok-slot.ensures.slot in
    let found : cancel_refusal before (length i.slots.now) (held_timers i) (g.A.AlarmDevice.clock a) (g.A.AlarmDevice.due a) n ≡ None = sym c.in_ok-slot.ensures.answer in
    let ahead = c.check_cancel.ensures.ahead in
    let at = hit.1.timer in
    let value = c.remove.ensures.value in
    let name = hit.2 in
    let named : x.number ≡ n = cc in
    let list : Inserted x (held_timers j) (held_timers i) = c.remove.ensures.listed in
    let m = inserted_length _ (held_timers j) (held_timers i) list in
    record {
      counted = counted_still _ _ (length q.spare.now) c.remove.ensures.length q.counted;
      held = omega (arith, m, q.held, c.remove.ensures.count);
      distinct = left_distinct before o (length i.slots.now) (held_timers i) (held_timers j) (g.A.AlarmDevice.clock a) (g.A.AlarmDevice.due a) n x found ahead list named q.distinct q.proper;
      proper = left_proper before o (length i.slots.now) (held_timers i) (held_timers j) (g.A.AlarmDevice.clock a) (g.A.AlarmDevice.due a) n x found ahead list named q.distinct q.proper;
    }

pub returns-clause-done : goal.returns-clause-done
returns-clause-done g c =
    let before = g.T.Time.before in
    let o = g.met.T.Time.ordered in
    let clock = g.A.AlarmDevice.clock in
    let due = g.A.AlarmDevice.due in
    let q = c.args.self.now in
    let a : g.row.A.Denot = c.args.alarm.now in
    let a' : g.row.A.Denot = c.aim.new.alarm in
    let j : PendingTimers g.row.T.Denot g.T.Time = c.remove.new.self in
    let n : ℕ = c.args.number in
    let x : Timer g.row.T.Denot = c.remove.result in
    let u : ℕ = length q.timers.slots.now in
    let xs : List (Timer g.row.T.Denot) = held_timers q.timers in
    let ys : List (Timer g.row.T.Denot) = held_timers j in
    let found : cancel_refusal before u xs (clock a) (due a) n ≡ None = sym c.in_ok-slot.ensures.answer in
    let ahead = c.check_cancel.ensures.ahead in
    let hit = c.in_ok-slot.ensures.slot in
    let list : Inserted x ys xs = c.remove.ensures.listed in
    let at = hit.1.timer in
    let value = c.remove.ensures.value in
    let name = hit.2 in
    let named : x.number ≡ n = cc in
    let least : c.least.result ≡ least_hard before ys = c.least.ensures in
    let not_past = left_ahead before o u xs ys (clock a) (due a) n x found ahead list named q.distinct q.proper in
    let at_least : due a' ≡ least_hard before ys = c.aim.ensures.due (subst (NotPast before (clock a)) (sym least) not_past) ∙ least in
    let e = left before o u xs ys (clock a) (due a) n x found ahead list named q.distinct q.proper (length j.slots.now) (clock a') (due a')
    c.remove.ensures.length c.aim.ensures.clock at_least in
    record {
      outcome = e;
      history = cancel_carries before o (view u xs (clock a) (due a)) (view (length j.slots.now) ys (clock a') (due a')) n (Ok tt) e;
    }
