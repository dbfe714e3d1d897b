use Rattle.std.proofs.Common.{◌≡◌, ℕ, ◌+◌, ◌-◌, List, length, take, None, Ok, Err, sym, ap, ◌∙◌, arith}
use Rattle.std.proofs.lemmas.Result.{err_from_is_err_and}
use Rattle.heap_links.specs.declared.timer.Timer.{Timer}
use Rattle.queue_rules.specs.declared.fault.QueueFault.{QueueFault}
use Rattle.queue_rules.specs.declared.firing.Firing.{Firing}
use Rattle.slot_heaps.specs.declared.pending.PendingTimers.{PendingTimers}
use Rattle.queue_rules.specs.Calls.{State, advancing}
use Rattle.timer_queue.specs.Doing.{state_with, gives}
use Rattle.timer_queue.specs.Held.{held_timers}
use Rattle.timer_queue.specs.Services.{CountedAll, Ready, ServedAll}
use Rattle.queue_rules.specs.Timers.{by_number}
use Rattle.timer_queue.specs.Views.{view, advance_refusal}
use Rattle.timer_queue.proofs.Advanced.{as_due, not_back, advanced_so}
use Rattle.timer_queue.proofs.Carried.{advance_carries, advance_greedy}
use Rattle.timer_queue.proofs.Outcomes.{advance_turned}
use Rattle.queue_rules.proofs.Numbering.{distinct_rearranged}
use Rattle.queue_rules.proofs.Rearranged.{all_rearranged}
use Rattle.timer_queue.proofs.Refused.{advance_away}
use Rattle.queue_rules.proofs.Sorting.{sorted_rearranged}
use Rattle.timer_queue.proofs.Typed.{counted_still}
use Rattle.timer_queue.proofs.queue.TimerQueue.advance.Goals as goal

pub returns-in_err-check_advance-clause-done : goal.returns-in_err-check_advance-clause-done
returns-in_err-check_advance-clause-done g c =
    let before = g.T.Time.before in
    let q = c.args.self.now in
    let t : g.row.T.Denot = c.args.t in
    let old : List (Firing g.row.T.Denot) = c.args.log.now in
    let s : State g.row.T.Denot = state_with g.A.AlarmDevice.clock g.A.AlarmDevice.due q c.args.alarm.now in
    let f : QueueFault = c.in_err-check_advance.field-0.0 in
    let p = err_from_is_err_and c.from_residual.result c.from_residual.ensures.1 in
    let e : c.from_residual.result ≡ Err f = p.1 ∙ ap Err p.2 in
    advance_away before g.A.AlarmDevice.clock g.A.AlarmDevice.due q c.args.alarm.now g.met.T.Time.ordered t (length old) old f c.from_residual.result e
    (advance_turned before g.met.T.Time.ordered (length q.timers.slots.now) (held_timers q.timers) s.clock s.due t (length old) f c.in_err-check_advance.ensures.answer)

pub invariant_of-self : goal.invariant_of-self
invariant_of-self g c =
    let before = g.T.Time.before in
    let o = g.met.T.Time.ordered in
    let clock = g.A.AlarmDevice.clock in
    let due = g.A.AlarmDevice.due in
    let q = c.args.self.now in
    let a : g.row.A.Denot = c.args.alarm.now in
    let a' : g.row.A.Denot = c.serve-wakes.new.alarm in
    let j : PendingTimers g.row.T.Denot g.T.Time = c.serve-wakes.new.timers in
    let t : g.row.T.Denot = c.args.t in
    let old : List (Firing g.row.T.Denot) = c.args.log.now in
    let new : List (Firing g.row.T.Denot) = c.serve-wakes.new.log in
    let u : ℕ = length q.timers.slots.now in
    let p : ℕ = q.timers.count in
    let n : ℕ = c.serve-wakes.result in
    let xs : List (Timer g.row.T.Denot) = held_timers q.timers in
    let ys : List (Timer g.row.T.Denot) = held_timers j in
    let free : advance_refusal before u xs (clock a) (due a) t (length old) ≡ None = sym c.in_ok-check_advance.ensures.answer in
    let ready : Ready before p xs (clock a) (due a) t = record {
      distinct = q.distinct;
      proper = q.proper;
      held = q.held;
      due = as_due before o u xs (clock a) (due a) t (length old) free;
      clock = not_back before o u xs (clock a) (due a) t (length old) free;
    } in
    let served : ServedAll before t xs ys n old new (clock a') (due a') = c.serve-wakes.ensures.served ready in
    record {
      counted = counted_still _ _ (length q.spare.now) c.serve-wakes.ensures.length q.counted;
      held = let held = q.held in omega (arith, c.serve-wakes.ensures.held, held);
      distinct = served.distinct;
      proper = served.proper;
    }

pub returns-clause-done : goal.returns-clause-done
returns-clause-done g c =
    let before = g.T.Time.before in
    let o = g.met.T.Time.ordered in
    let clock = g.A.AlarmDevice.clock in
    let due = g.A.AlarmDevice.due in
    let q = c.args.self.now in
    let a : g.row.A.Denot = c.args.alarm.now in
    let a' : g.row.A.Denot = c.serve-wakes.new.alarm in
    let j : PendingTimers g.row.T.Denot g.T.Time = c.serve-wakes.new.timers in
    let t : g.row.T.Denot = c.args.t in
    let old : List (Firing g.row.T.Denot) = c.args.log.now in
    let new : List (Firing g.row.T.Denot) = c.serve-wakes.new.log in
    let u : ℕ = length q.timers.slots.now in
    let p : ℕ = q.timers.count in
    let n : ℕ = c.serve-wakes.result in
    let m : ℕ = c.pending-pending.result - c.pending.result in
    let xs : List (Timer g.row.T.Denot) = held_timers q.timers in
    let ys : List (Timer g.row.T.Denot) = held_timers j in
    let free : advance_refusal before u xs (clock a) (due a) t (length old) ≡ None = sym c.in_ok-check_advance.ensures.answer in
    let ready : Ready before p xs (clock a) (due a) t = record {
      distinct = q.distinct;
      proper = q.proper;
      held = q.held;
      due = as_due before o u xs (clock a) (due a) t (length old) free;
      clock = not_back before o u xs (clock a) (due a) t (length old) free;
    } in
    let served : ServedAll before t xs ys n old new (clock a') (due a') = c.serve-wakes.ensures.served ready in
    let counted : CountedAll before t xs ys = c.serve-wakes.ensures.counted ready in
    let held = q.held in
    let fired : length xs ≡ length ys + m = omega (arith, c.pending-pending.ensures.value, c.pending.ensures.value, c.serve-wakes.ensures.held, c.serve-wakes.ensures.fewer) in
    let s : State g.row.T.Denot = view u xs (clock a) (due a) in
    let s' : State g.row.T.Denot = view (length j.slots.now) ys (clock a') (due a') in
    let out : advancing before s t (length old) ≡ gives (Ok (n, m)) s' (take m new) =
    advanced_so before o u xs (clock a) (due a) t (length old) free ys n m old new (clock a') (due a') q.distinct q.proper served counted fired
    (length j.slots.now) c.serve-wakes.ensures.length in
    record { outcome = out; history = advance_carries before o s s' t (length old) (Ok (n, m)) (take m new) out }

pub returns-clause-greedy : goal.returns-clause-greedy
returns-clause-greedy g c =
    let before = g.T.Time.before in
    let o = g.met.T.Time.ordered in
    let clock = g.A.AlarmDevice.clock in
    let due = g.A.AlarmDevice.due in
    let q = c.args.self.now in
    let a : g.row.A.Denot = c.args.alarm.now in
    let a' : g.row.A.Denot = c.serve-wakes.new.alarm in
    let j : PendingTimers g.row.T.Denot g.T.Time = c.serve-wakes.new.timers in
    let t : g.row.T.Denot = c.args.t in
    let old : List (Firing g.row.T.Denot) = c.args.log.now in
    let new : List (Firing g.row.T.Denot) = c.serve-wakes.new.log in
    let u : ℕ = length q.timers.slots.now in
    let p : ℕ = q.timers.count in
    let n : ℕ = c.serve-wakes.result in
    let m : ℕ = c.pending-pending.result - c.pending.result in
    let xs : List (Timer g.row.T.Denot) = held_timers q.timers in
    let ys : List (Timer g.row.T.Denot) = held_timers j in
    let free : advance_refusal before u xs (clock a) (due a) t (length old) ≡ None = sym c.in_ok-check_advance.ensures.answer in
    let ready : Ready before p xs (clock a) (due a) t = record {
      distinct = q.distinct;
      proper = q.proper;
      held = q.held;
      due = as_due before o u xs (clock a) (due a) t (length old) free;
      clock = not_back before o u xs (clock a) (due a) t (length old) free;
    } in
    let served : ServedAll before t xs ys n old new (clock a') (due a') = c.serve-wakes.ensures.served ready in
    let counted : CountedAll before t xs ys = c.serve-wakes.ensures.counted ready in
    let held = q.held in
    let fired : length xs ≡ length ys + m = omega (arith, c.pending-pending.ensures.value, c.pending.ensures.value, c.serve-wakes.ensures.held, c.serve-wakes.ensures.fewer) in
    let s : State g.row.T.Denot = view u xs (clock a) (due a) in
    let s' : State g.row.T.Denot = view (length j.slots.now) ys (clock a') (due a') in
    let out : advancing before s t (length old) ≡ gives (Ok (n, m)) s' (take m new) =
    advanced_so before o u xs (clock a) (due a) t (length old) free ys n m old new (clock a') (due a') q.distinct q.proper served counted fired
    (length j.slots.now) c.serve-wakes.ensures.length in
    let r = sorted_rearranged by_number xs in
    advance_greedy before o s s' t (length old) (Ok (n, m)) (take m new) (distinct_rearranged r q.distinct) (all_rearranged _ r q.proper) out
