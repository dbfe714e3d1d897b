use Rattle.std.proofs.Common.{◌-◌}
use Rattle.alarm_chains.proofs.Chase.{Chase}
use Rattle.alarm_chains.proofs.stages.follow.Given as goal

abbrev pub invariant-stages : goal.invariant-stages
invariant-stages g l =
    let clock = g.S.AlarmDevice.clock in
    let place = g.T.Measured.place in
    Chase place g.S.ShortAlarm.reach (place (clock l.initial.short)) l.goal l.t (clock l.short) (g.S.AlarmDevice.due l.short) l.rings

abbrev pub decreases-stages : goal.decreases-stages
decreases-stages g l = g.T.Measured.place l.t - g.T.Measured.place (g.S.AlarmDevice.clock l.short)
