use Rattle.std.proofs.Common.{◌≡◌, ◌∙◌, rules}
use Rattle.timer_queue.proofs.Tops.{hard_of, top_hard}
use Rattle.timer_queue.proofs.serving.least.Goals as goal

pub returns : goal.returns
returns g c =
    let hard : c.map.result ≡ hard_of c.first_by_hard.result = search rules in
    hard ∙ top_hard g.T.Time.before g.met.T.Time.ordered c.args.timers.now.count c.args.timers.now.slots.now c.first_by_hard.result c.first_by_hard.ensures c.args.timers.now.hard_order
