use Rattle.std.proofs.Common.{◌≡◌, ℕ, List, length, Some, None, Option, sym, refl, ap, ◌∙◌, subst, arith, rules}
use Rattle.queue_rules.specs.Lists.{sorted}
use Rattle.queue_rules.specs.Timers.{by_number}
use Rattle.queue_rules.proofs.Rearranged.{length_rearranged}
use Rattle.queue_rules.proofs.Sorting.{sorted_rearranged}
use Rattle.times.specs.declared.order.Time.{Ghosts}
use Rattle.timer_queue.specs.declared.queue.TimerQueue.{TimerQueue}
use Rattle.timer_queue.specs.Queues.{queue_timers}
use Rattle.runs.specs.declared.counts.Counts.{Counts}
use Rattle.runs.specs.declared.faults.RunFault.{RunFault}
use Rattle.runs.specs.Calling.{opened_with, line_effect}
use Rattle.runs.specs.Finishing.{told}
use Rattle.runs.specs.Opened.{Kind, Opened, kind_by, open_line}
use Rattle.runs.specs.Replies.{Tally, tally_of, unanswered, heard, RepliedBy}
use Rattle.runs.proofs.LineEvents.{line_carries}
use Rattle.runs.proofs.LineReplies.{ignored, answered, untouched_so, untouched_itself, written_within}
use Rattle.runs.proofs.open.OpenRun.line.Goals as goal

-- as many timers are pending as the state lists
listed_size : {A : Type 0} {G : Ghosts A} (q : TimerQueue A G) (n room : ℕ) (t : Tally) (f : Option RunFault) → n ≡ length (queue_timers q) → f ≡ unanswered room n t →
    f ≡ unanswered room (length (sorted by_number (queue_timers q))) t
listed_size q n room t f e u = u ∙ ap (λ m. unanswered room m t) (e ∙ length_rearranged (sorted_rearranged by_number (queue_timers q)))

pub returns-in-Err : goal.returns-in-Err
returns-in-Err g c =
    let k : Kind g.row.T.Denot = kind_by g.T.Time.before g.T.Plain.reads g.T.Plain.plain g.T.Measured.place g.T.Measured.at g.T.Measured.last in
    let q = c.args.queue.now in
    let a : g.row.A.Denot = c.args.alarm.now in
    let s : Opened g.row.T.Denot = opened_with g.A.AlarmDevice.clock g.A.AlarmDevice.due c.args.self.now.closing q a in
    let t : Tally = tally_of c.args.self.now.counts in
    let room : ℕ = length c.args.buffer.now in
    let log : ℕ = length c.args.log.now in
    let f : RunFault = c.in-Err.fault in
    let u : Some f ≡ unanswered room (length s.queue.pending) t = listed_size q _ room t (Some f) c.pending.ensures.value (sym c.in-Err.ensures) in
    let reply = ignored room (length s.queue.pending) t t s s (line_effect k log s c.args.line.now) c.args.buffer.now c.args.buffer.now c.ignore.result f u
    c.ignore.ensures.written c.ignore.ensures.answer in
    record {
      reply = reply;
      history = line_carries k g.met.T.Time.ordered room log t s c.args.line.now s.queue (ap (λ (x : Opened g.row.T.Denot). x.queue) reply.left);
      within = omega (arith, c.ignore.ensures.written);
      refused = untouched_itself q _ _ c.args.log.now t f c.ignore.result.answer c.ignore.ensures.answer;
      spared = record { usable = refl; spare = refl };
    }

pub returns : goal.returns
returns g c =
    let k : Kind g.row.T.Denot = kind_by g.T.Time.before g.T.Plain.reads g.T.Plain.plain g.T.Measured.place g.T.Measured.at g.T.Measured.last in
    let q = c.args.queue.now in
    let a : g.row.A.Denot = c.args.alarm.now in
    let did = c.carry_out-outcome.ensures in
    let s : Opened g.row.T.Denot = opened_with g.A.AlarmDevice.clock g.A.AlarmDevice.due c.args.self.now.closing q a in
    let s' : Opened g.row.T.Denot =
    opened_with g.A.AlarmDevice.clock g.A.AlarmDevice.due c.carry_out-outcome.new.self.closing c.carry_out-outcome.new.queue c.carry_out-outcome.new.alarm in
    let t : Tally = tally_of c.args.self.now.counts in
    let t' : Tally = tally_of c.finish.result.0 in
    let room : ℕ = length c.args.buffer.now in
    let log : ℕ = length c.args.log.now in
    let line : List ℕ = c.args.line.now in
    let u : None ≡ unanswered room (length s.queue.pending) t = listed_size q _ room t None c.pending.ensures.value (sym c.in-Ok.ensures.1) in
    let done = told g.T.Plain.plain c.carry_out-outcome.result c.carry_out-outcome.new.log in
    let finished : RepliedBy (heard t tt done) t' tt c.args.buffer.now c.finish.new.buffer c.finish.result.1 =
    subst (λ (x : Counts). RepliedBy (heard (tally_of x) tt done) t' tt c.args.buffer.now c.finish.new.buffer c.finish.result.1) c.in-Ok.ensures.0 c.finish.ensures in
    let reply : RepliedBy (open_line k room log t s line) t' s' c.args.buffer.now c.finish.new.buffer c.finish.result.1 =
    answered room (length s.queue.pending) t t' s s' (line_effect k log s line) c.args.buffer.now c.finish.new.buffer c.finish.result.1 done u
    did.told finished did.left in
    record {
      reply = reply;
      history = line_carries k g.met.T.Time.ordered room log t s line s'.queue (ap (λ (x : Opened g.row.T.Denot). x.queue) reply.left);
      within = written_within _ _ _ c.args.buffer.now c.finish.new.buffer c.finish.result.1 finished (search rules);
      refused = untouched_so g.T.Plain.plain q c.carry_out-outcome.new.queue _ _ _ _ c.args.log.now c.carry_out-outcome.new.log t c.carry_out-outcome.result
          c.finish.result.1.answer finished.answered did.refused;
      spared = did.spared;
    }
