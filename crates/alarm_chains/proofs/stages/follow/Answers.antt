use Rattle.std.proofs.Common.{◌≡◌, true, false, Ok, ap, ◌∙◌}
use Rattle.times.specs.Places.{Agrees}
use Rattle.times.proofs.Measures.{Measure, measure}
use Rattle.alarm_chains.proofs.Chase.{arrived_at_t, chase_begins, chase_falls, chase_on, few_rings, rang_at_goal, set_anew}
use Rattle.alarm_chains.proofs.Aims.{aim_accepted}
use Rattle.alarm_chains.proofs.Outcomes.{not_both}
use Rattle.alarm_chains.proofs.stages.follow.Given.{Over}
use Rattle.alarm_chains.proofs.stages.follow.Goals as goal

kind : (g : Over) → Agrees g.T.Time.before g.T.Measured.place → Measure g.T.Time.before g.T.Measured.place g.T.Measured.at g.T.Measured.last
kind g agrees = measure g.met.T.Time.ordered agrees g.met.T.Measured.placed

pub stages-init : goal.stages-init
stages-init g c = chase_begins (kind g c.aim.ensures.agrees) g.S.ShortAlarm.reach c.args.goal c.args.t _ _ c.requires.forward c.requires.ahead c.aim.ensures.value

pub overflow_add-rings : goal.overflow_add-rings
overflow_add-rings g c =
    let rang = c.in_ok-pass.was ∙ ap Ok c.in-Rang.is in
    record { fits = few_rings (kind g c.aim.ensures.agrees) g.met.S.ShortAlarm.reaching c.stages.invariant c.pass.ensures rang }

pub returns-then-not-before : goal.returns-then-not-before
returns-then-not-before g c =
    let m = kind g c.aim.ensures.agrees in
    let begun = (aim_accepted m g.S.ShortAlarm.reach _ c.args.goal c.requires.ahead _ c.aim.ensures.value).clocked in
    let rang = c.in_ok-pass.was ∙ ap Ok c.in-Rang.is in
    let reached : g.T.Time.before (g.S.AlarmDevice.clock c.pass.new.self) c.args.goal ≡ false = cc in
    let ended = rang_at_goal m g.met.S.ShortAlarm.reaching c.stages.invariant c.pass.ensures _ (ap g.T.Measured.place begun) c.requires.forward rang reached in
    record { value = ended.value; count = ended.count }

pub stages-preserved : goal.stages-preserved
stages-preserved g c =
    let rang = c.in_ok-pass.was ∙ ap Ok c.in-Rang.is in
    let short : g.T.Time.before (g.S.AlarmDevice.clock c.pass.new.self) c.args.goal ≡ true = cc in
    chase_on (kind g c.aim.ensures.agrees) g.met.S.ShortAlarm.reaching c.stages.invariant c.pass.ensures rang short c.aim-in-Rang.ensures.value

pub stages-smaller : goal.stages-smaller
stages-smaller g c =
    let rang = c.in_ok-pass.was ∙ ap Ok c.in-Rang.is in
    let short : g.T.Time.before (g.S.AlarmDevice.clock c.pass.new.self) c.args.goal ≡ true = cc in
    chase_falls (kind g c.aim.ensures.agrees) g.met.S.ShortAlarm.reaching c.stages.invariant c.pass.ensures rang short c.aim-in-Rang.ensures.value

-- an aim short of the goal is not refused
pub returns-in_err-aim-2 : goal.returns-in_err-aim-2
returns-in_err-aim-2 g c =
    let rang = c.in_ok-pass.was ∙ ap Ok c.in-Rang.is in
    let short : g.T.Time.before (g.S.AlarmDevice.clock c.pass.new.self) c.args.goal ≡ true = cc in
    let set = set_anew (kind g c.aim.ensures.agrees) g.met.S.ShortAlarm.reaching c.stages.invariant c.pass.ensures rang short c.aim-in-Rang.ensures.value in
    absurd (not_both set c.in_err-aim-2.was)

-- nor is the first, since the goal is not before the clock
pub returns-in_err-aim : goal.returns-in_err-aim
returns-in_err-aim g c =
    let m = kind g c.aim.ensures.agrees in
    let set = (aim_accepted m g.S.ShortAlarm.reach _ c.args.goal c.requires.ahead _ c.aim.ensures.value).answered in
    absurd (not_both set c.in_err-aim.was)

pub returns : goal.returns
returns g c =
    let m = kind g c.aim.ensures.agrees in
    let begun = (aim_accepted m g.S.ShortAlarm.reach _ c.args.goal c.requires.ahead _ c.aim.ensures.value).clocked in
    let arrived = c.in_ok-pass.was ∙ ap Ok c.in_default.is in
    let ended = arrived_at_t m g.met.S.ShortAlarm.reaching c.stages.invariant c.pass.ensures _ (ap g.T.Measured.place begun) c.requires.forward arrived in
    record { value = ended.value; count = ended.count }
