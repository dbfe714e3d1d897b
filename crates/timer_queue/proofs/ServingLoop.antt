-- The loop of an advance: wake-ups so far, and what is left.
use Rattle.std.proofs.Common.{◌≡◌, ℕ, ◌+◌, ◌<◌, ◌≤◌, Bool, true, false, not, List, [], ◌++◌, map, length, filter, Option, sym, ap, ◌∙◌, subst, arith}
use Rattle.std.specs.List.{AllByRecursion}
use Rattle.std.proofs.ByRecursion.{All-weaker, all_kept_by, kept_by_passes}
use Rattle.std.proofs.lemmas.List.{length-append}
use Rattle.std.proofs.lemmas.Bool.{not-true, not-false, not_from_true}
use Rattle.alarms.specs.Meaning.{NotPast}
use Rattle.heap_links.specs.declared.timer.Timer.{Timer}
use Rattle.slot_heaps.specs.Firsts.{First}
use Rattle.times.specs.Order.{StrictOrder}
use Rattle.queue_rules.specs.declared.firing.Firing.{Firing}
use Rattle.timer_queue.specs.Firings.{fired, Fired}
use Rattle.queue_rules.specs.Lists.{sorted}
use Rattle.timer_queue.specs.Logs.{logged_at}
use Rattle.timer_queue.specs.Services.{ServedAll, CountedAll}
use Rattle.queue_rules.specs.Timers.{Distinct, least_hard, by_soft}
use Rattle.queue_rules.specs.WakeUps.{entry, ripe, spared, wake_up}
use Rattle.queue_rules.proofs.Elements.{pairwise_kept, any_with, kept_shorter, all_both}
use Rattle.timer_queue.proofs.Logging.{log_none, log_join}
use Rattle.queue_rules.proofs.Numbering.{distinct_rearranged}
use Rattle.queue_rules.proofs.Orders.{never_both, lt_le}
use Rattle.timer_queue.proofs.Outcomes.{all_ahead}
use Rattle.queue_rules.proofs.Progress.{Late, Progress, progress_none, progress_more, progress_ends}
use Rattle.queue_rules.proofs.Rearranged.{all_rearranged, length_rearranged}
use Rattle.timer_queue.specs.Rings.{Rung, Come}
use Rattle.timer_queue.proofs.Tops.{first_hard, first_bears}
use Rattle.queue_rules.proofs.Waking.{Proper, next_hard, ends_ripe}

module _ {A : Type 0} (before : A → A → Bool) (o : StrictOrder before) (t : A) (xs : List (Timer A)) (old : List (Firing A)) where
  pub record Serving (n : ℕ) (new : List (Firing A)) (ys : List (Timer A)) (c : A) (d : Option A) : Type 0 where
    pub entries : List (Firing A)
    pub log : new ≡ logged_at 0 old entries
    pub count : length ys + length entries ≡ length xs
    pub progress : Progress before o t xs n entries ys
    pub distinct : Distinct ys
    pub proper : Proper before o ys
    pub clock : before t c ≡ false
    pub due : d ≡ least_hard before ys

  pub serve_begins : (c : A) (d : Option A) → Distinct xs → Proper before o xs → before t c ≡ false → d ≡ least_hard before xs → Serving 0 old xs c d
  serve_begins c d di pr ck du = record {
    entries = [];
    log = log_none 0 old;
    count = omega arith;
    progress = progress_none before o t xs;
    distinct = di;
    proper = pr;
    clock = ck;
    due = du;
  }

  -- the wake-up is at the first timer's hard time
  rung_at : (n : ℕ) (new : List (Firing A)) (ys : List (Timer A)) (c : A) (d : Option A) (c' : A) (d' : Option A) (x : Timer A) → Serving n new ys c d → (r : Rung before d t c' d') →
      First before (λ y. y.hard) x ys → r.at ≡ x.hard
  rung_at n new ys c d c' d' x s r f =
      let a = r.was in
      let b = s.due in
      let e = first_hard before o x ys f in
      cc

  spared_ahead : (w : A) (ys : List (Timer A)) → Proper before o ys → AllByRecursion (λ x. before x.hard w ≡ false) (spared before w ys)
  spared_ahead w ys p =
      let q : Timer A → Bool = λ x. not (ripe before w x) in
      All-weaker (λ x. (before x.hard x.soft ≡ false) × (q x ≡ true)) (λ x. before x.hard w ≡ false)
      (λ x b. never_both before o w x.hard (lt_le before o w x.soft x.hard (not-false (before w x.soft) (not-true (ripe before w x) b.1)) b.0))
      (spared before w ys)
      (all_both (λ x. before x.hard x.soft ≡ false) (λ x. q x ≡ true) (spared before w ys) (all_kept_by q (λ x. before x.hard x.soft ≡ false) ys p) (kept_by_passes q ys))

  module _ (n : ℕ) (new : List (Firing A)) (ys : List (Timer A)) (c : A) (d : Option A) (c' : A) (d' : Option A) (x : Timer A) (s : Serving n new ys c d) (r : Rung before d t c' d')
      (f : First before (λ y. y.hard) x ys) (zs : List (Timer A)) (at : ℕ) (new' : List (Firing A)) (g : Fired before x.hard x.number ys zs at new new') where
    -- what is left lies ahead of the clock
    pub wake_ahead : NotPast before c' (least_hard before zs)
    wake_ahead =
        all_ahead before o c' zs
        (subst (λ a. AllByRecursion (λ y. before y.hard a ≡ false) zs) (sym (r.clock ∙ rung_at n new ys c d c' d' x s r f))
        (all_rearranged (λ y. before y.hard x.hard ≡ false) g.rest (spared_ahead x.hard ys s.proper)))

    -- some timer fired
    pub wake_fires : length zs < length ys
    wake_fires =
        let e = first_hard before o x ys f in
        let k = kept_shorter (λ y. not (ripe before x.hard y)) ys
        (any_with (λ y p h. not_from_true (ripe before x.hard y) (ends_ripe before o x.hard y p h)) ys s.proper (next_hard before o ys x.hard e).stands) in
        omega (arith, length_rearranged g.rest, k)

    pub wake_serves : (c'' : A) (d'' : Option A) → at ≡ length s.entries → length xs ≤ length old → c'' ≡ c' → d'' ≡ least_hard before zs → Serving (n + 1) new' zs c'' d''
    wake_serves c'' d'' place room ck du =
        let w = rung_at n new ys c d c' d' x s r f in
        let m : fired before x.hard x.number ys ≡ wake_up before x.hard ys =
        ap (λ b. map (entry x.hard b) (sorted (by_soft before) (filter (ripe before x.hard) ys))) (sym (first_bears before o x ys f)) in
        let log : new' ≡ logged_at 0 old (s.entries ++ fired before x.hard x.number ys) =
        g.log
        ∙ ap (λ l. logged_at at l (fired before x.hard x.number ys)) s.log
        ∙ ap (λ k. logged_at k (logged_at 0 old s.entries) (fired before x.hard x.number ys)) place
        ∙ log_join old s.entries (fired before x.hard x.number ys) (omega (arith, s.count)) in
        record {
          entries = s.entries ++ wake_up before x.hard ys;
          log = log ∙ ap (λ l. logged_at 0 old (s.entries ++ l)) m;
          count = omega (arith, s.count, g.count, length-append s.entries (wake_up before x.hard ys), ap length m);
          progress = progress_more before o t xs n s.entries ys zs x.hard s.progress s.proper s.distinct (first_hard before o x ys f)
              (subst (λ a. before a t ≡ true) w r.soon) g.rest;
          distinct = distinct_rearranged g.rest (pairwise_kept (λ y. not (ripe before x.hard y)) _ ys s.distinct);
          proper = all_rearranged _ g.rest (all_kept_by (λ y. not (ripe before x.hard y)) _ ys s.proper);
          clock = ap (before t) (ck ∙ r.clock) ∙ never_both before o r.at t r.soon;
          due = du;
        }

  -- the alarm came to t
  pub serve_ends : (n : ℕ) (new : List (Firing A)) (ys : List (Timer A)) (c : A) (d : Option A) (c' : A) (d' : Option A) → Serving n new ys c d → Come before d t c' d' →
      ServedAll before t xs ys n old new c' d'
  serve_ends n new ys c d c' d' s k =
      let f = progress_ends before o t xs n s.entries ys s.progress s.proper (subst (Late before o t) s.due k.late) in
      record {
        wakes = f.wakes;
        log = s.log ∙ ap (logged_at 0 old) (sym f.entries);
        rest = f.rest;
        clock = k.clock;
        due = k.left ∙ s.due;
        distinct = s.distinct;
        proper = s.proper;
      }

  pub serve_counts : (n : ℕ) (new : List (Firing A)) (ys : List (Timer A)) (c : A) (d : Option A) (c' : A) (d' : Option A) → Serving n new ys c d → Come before d t c' d' →
      CountedAll before t xs ys
  serve_counts n new ys c d c' d' s k =
      let f = progress_ends before o t xs n s.entries ys s.progress s.proper (subst (Late before o t) s.due k.late) in
      ap (λ l. length ys + length l) f.entries ∙ s.count

  -- with nothing pending it does not ring
  pub none_rings : (n : ℕ) (new : List (Firing A)) (ys : List (Timer A)) (c : A) (d : Option A) (c' : A) (d' : Option A) → Serving n new ys c d → Rung before d t c' d' → ys ≡ [] → ⊥
  none_rings n new ys c d c' d' s r e =
      let a = r.was in
      let b = s.due ∙ ap (least_hard before) e in
      let z : ◌≡◌ {A = ℕ} 0 1 = cc in
      omega arith
