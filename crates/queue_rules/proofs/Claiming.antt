-- The claims follow from the invariant.
use Rattle.std.proofs.Common.{◌≡◌, ◌≤◌, Bool, true, false, List, [], length, filter, sym, ap, ◌∙◌, subst, ⊎_elim, append-nil}
use Rattle.std.specs.List.{AllByRecursion}
use Rattle.std.proofs.ByRecursion.{All-weaker}
use Rattle.std.proofs.lemmas.Bool.{both_ways, and_from}
use Rattle.queue_rules.specs.declared.firing.Firing.{Firing}
use Rattle.times.specs.Order.{StrictOrder}
use Rattle.queue_rules.specs.Lists.{Any}
use Rattle.queue_rules.specs.Timers.{Inside}
use Rattle.queue_rules.specs.Calls.{State}
use Rattle.queue_rules.specs.Events.{Event}
use Rattle.queue_rules.specs.Histories.{Course, log, marked, clock_after, courses, dropped, of, undisturbed, binds}
use Rattle.queue_rules.specs.Claims.{Meets, FiredOnce, Apart, Claims, ClaimsHold}
use Rattle.queue_rules.proofs.Elements.{any_so, any_with, all_in, pairwise_weaker}
use Rattle.queue_rules.proofs.Stabbing.{Over, over_apart, Stabbed, needs_each}
use Rattle.queue_rules.proofs.Invariant.{Fate, Marked, Holds}
use Rattle.queue_rules.proofs.Living.{lived_holds}

module _ {A : Type 0} (before : A → A → Bool) (o : StrictOrder before) (c : A) (es : List (Event A)) (s : State A) (h : Holds before o c es s) where
  fired : (k : Course A) → Fate before o s k → before k.timer.hard (clock_after c es) ≡ true → dropped k.timer.number k.later ≡ false → FiredOnce before k
  fired k fate passed kept =
      let now = ap (before k.timer.hard) (sym h.now) ∙ passed in
      let end = append-nil k.later in
      ⊎_elim {C = FiredOnce before k}
      (λ a. absurd (both_ways (before k.timer.hard s.clock) (all_in (λ p. before p.hard s.clock ≡ false) k.timer s.pending h.sound.ahead a.1) now))
      (⊎_elim {C = FiredOnce before k}
      (λ d. (d.by, ap (λ l. filter (of before k.timer) (log l)) (sym end) ∙ d.one [], d.inside))
      (λ g. absurd (both_ways (dropped k.timer.number k.later) kept (ap (dropped k.timer.number) (sym end) ∙ g []))))
      fate

  -- a list that meets each binding window meets that of each marked entry
  stabs : (times : List A) → AllByRecursion (λ k. binds before (clock_after c es) k ≡ true → Any (Meets before k.timer) times) (courses es) →
      (f : Firing A) → Marked before o es s f → Stabbed before o times f
  stabs times meets f m =
      any_so (Stabbed before o times f) (λ k g. g) (courses es)
      (any_with
      (λ k meet b.
      let passed = ap (λ x. before x (clock_after c es)) (sym b.0.hard) ∙ ap (before f.hard) h.now ∙ m.0.clock in
      let calm = ap (undisturbed before k.timer) (sym (append-nil k.later)) ∙ b.1 [] in
      subst (λ x. Any (Inside before x f.hard) times) (sym b.0.soft)
      (subst (λ x. Any (Inside before k.timer.soft x) times) (sym b.0.hard)
      (meet (and_from (before k.timer.hard (clock_after c es)) (undisturbed before k.timer k.later) passed calm))))
      (courses es) meets m.1)

  claimed : Claims before c es
  claimed = record {
    no_timer_missed = All-weaker (Fate before o s) (λ k. before k.timer.hard (clock_after c es) ≡ true → dropped k.timer.number k.later ≡ false → FiredOnce before k)
        fired (courses es) h.fates;
    no_shorter_list = λ times meets. subst (λ n. n ≤ length times) h.counts
        (needs_each before o (marked es) times h.apart (All-weaker (Marked before o es s) (Stabbed before o times) (stabs times meets) (marked es) h.bound));
    certificate = (h.counts, pairwise_weaker (Over before o) (Apart before) (over_apart before o) (marked es) h.apart);
    nothing_else_logged = h.logs;
    counted = h.counted;
  }

pub claims_hold : {A : Type 0} (before : A → A → Bool) → StrictOrder before → ClaimsHold before
claims_hold before o u c es s l = claimed before o c es s (lived_holds before o l)
