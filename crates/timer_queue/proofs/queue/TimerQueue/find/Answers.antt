use Rattle.timer_queue.proofs.Finding.{found_passes}
use Rattle.timer_queue.proofs.queue.TimerQueue.find.Goals as goal

pub returns-clause-pending : goal.returns-clause-pending
returns-clause-pending g c = found_passes c.args.number c.args.self.now.timers.count c.args.self.now.timers.slots.now c.find.result c.find.ensures
