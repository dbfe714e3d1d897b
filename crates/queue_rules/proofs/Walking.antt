-- The wake-ups of an advance, one after the other.
use Rattle.std.proofs.Common.{◌≡◌, suc, Bool, true, false, not, ◌&&◌, ◌⊎◌, List, [], ◌∷◌, ◌++◌, map, length, filter, sym, refl, ap, ◌∙◌, subst, inl, inr, ⊎_elim}
use Rattle.std.specs.List.{AllByRecursion}
use Rattle.std.proofs.lemmas.List.Elements.{filter-append}
use Rattle.std.proofs.ByRecursion.{All-weaker, All-append, kept_by_passes, all_kept_by}
use Rattle.std.proofs.lemmas.Bool.{both_ways, cases_Bool, not-true, not-false, not_from_false}
use Rattle.heap_links.specs.declared.timer.Timer.{Timer}
use Rattle.queue_rules.specs.declared.firing.Firing.{Firing}
use Rattle.times.specs.Order.{StrictOrder}
use Rattle.queue_rules.specs.Lists.{Any, Pairwise}
use Rattle.queue_rules.specs.Timers.{Distinct}
use Rattle.queue_rules.specs.Greedy.{wake_times}
use Rattle.queue_rules.specs.WakeUps.{Served, entry, ripe, spared, bearer, wake_up, still, after, walk}
use Rattle.queue_rules.specs.Histories.{of}
use Rattle.queue_rules.specs.Claims.{Meets}
use Rattle.queue_rules.proofs.Elements.{In, all_in, all_from_in, in_itself, any_so, any_with, kept_all, kept_both, kept_any, kept_in, none_kept, pairwise_kept}
use Rattle.queue_rules.proofs.Orders.{le_lt}
use Rattle.queue_rules.proofs.Going.{along_walk}
use Rattle.queue_rules.proofs.Stabbing.{Over}
use Rattle.queue_rules.proofs.Waking.{From, of_from, Next, Proper, logs_once, logs_none, logs_ripe, marks_one}

module _ {A : Type 0} (before : A → A → Bool) (o : StrictOrder before) where
  -- a is over: it is before the time t, and before each soft time of qs
  pub record Past (a t : A) (qs : List (Timer A)) : Type 0 where
    pub clock : before a t ≡ true
    pub softs : AllByRecursion (λ q. before a q.soft ≡ true) qs

  abbrev pub Logs : List (Timer A) → List (Firing A) → Type 0
  Logs qs = AllByRecursion (λ f. Any (λ q. From q f) qs)

  -- what is logged of timers with later soft times has later soft times
  pub logs_after : (a : A) (qs : List (Timer A)) (fs : List (Firing A)) → AllByRecursion (λ q. before a q.soft ≡ true) qs → Logs qs fs →
      AllByRecursion (λ f. before a f.soft ≡ true) fs
  logs_after a qs fs l g =
      All-weaker (λ f. Any (λ q. From q f) qs) (λ f. before a f.soft ≡ true)
      (λ f i. any_so (before a f.soft ≡ true) (λ q h. h) qs (any_with (λ q b h. subst (λ s. before a s ≡ true) (sym h.soft) b) qs l i)) fs g

  pub logs_not : (p : Timer A) (qs : List (Timer A)) (fs : List (Firing A)) → AllByRecursion (λ q. before p.soft q.soft ≡ true) qs → Logs qs fs →
      filter (of before p) fs ≡ []
  logs_not p qs fs l g =
      none_kept (of before p) fs
      (All-weaker (λ f. before p.soft f.soft ≡ true) (λ f. of before p f ≡ false)
      (λ f b. ⊎_elim (λ t. absurd (both_ways (before p.soft p.soft) (o.irreflexive p.soft) (subst (λ s. before p.soft s ≡ true) (of_from before o p f t).soft b)))
      (λ e. e) (cases_Bool (of before p f)))
      fs (logs_after p.soft qs fs l g))

  abbrev pub marks : List (Firing A) → List (Firing A)
  marks = filter (λ f. f.mark)

  -- the timer p was fired once, inside its window, and its soft time is over
  pub record Once (t : A) (qs : List (Timer A)) (fs : List (Firing A)) (p : Timer A) : Type 0 where
    pub by : Firing A
    pub one : filter (of before p) fs ≡ by ∷ []
    pub inside : Meets before p by.wake
    pub over : Past p.soft t qs

  abbrev pub Stays : List (Timer A) → List (Firing A) → Timer A → Type 0
  Stays qs fs p = In qs p × (filter (of before p) fs ≡ [])

  abbrev pub Fared : A → List (Timer A) → List (Firing A) → Timer A → Type 0
  Fared t qs fs p = Stays qs fs p ⊎ Once t qs fs p

  -- what an advance to t makes of the pending timers xs
  pub record Walked (t : A) (xs : List (Timer A)) (r : Served A) : Type 0 where
    pub test : Timer A → Bool
    pub left : r.pending ≡ filter test xs
    pub ahead : AllByRecursion (λ q. before q.hard t ≡ false) r.pending
    pub logs : Logs xs r.entries
    pub fates : AllByRecursion (Fared t r.pending r.entries) xs
    pub counts : length (marks r.entries) ≡ length r.wakes
    pub times : wake_times r.entries ≡ r.wakes
    pub apart : Pairwise (Over before o) (marks r.entries)
    pub over : AllByRecursion (λ f. Past f.hard t r.pending) (marks r.entries)

  walked_still : (t : A) (xs : List (Timer A)) → AllByRecursion (λ q. before q.hard t ≡ false) xs → Walked t xs (still xs)
  walked_still t xs a = record {
    test = λ _. true;
    left = sym (kept_all xs);
    ahead = a;
    logs = tt;
    fates = All-weaker (In xs) (Fared t xs []) (λ p i. inl (i, refl)) xs (in_itself xs);
    counts = refl;
    times = refl;
    apart = tt;
    over = tt;
  }

  module _ (t w : A) (xs : List (Timer A)) (r : Served A) (d : Distinct xs) (proper : Proper before o xs) (next : Next before o xs w)
      (soon : before w t ≡ true) (rest : Walked t (spared before w xs) r) where
    abbrev late : List (Timer A)
    late = spared before w xs

    late_softs : AllByRecursion (λ q. before w q.soft ≡ true) late
    late_softs =
        All-weaker (λ q. not (ripe before w q) ≡ true) (λ q. before w q.soft ≡ true)
        (λ q h. not-false (before w q.soft) (not-true (ripe before w q) h)) late (kept_by_passes (λ q. not (ripe before w q)) xs)

    late_after : (a : A) → before w a ≡ false → AllByRecursion (λ q. before a q.soft ≡ true) late
    late_after a h = All-weaker (λ q. before w q.soft ≡ true) (λ q. before a q.soft ≡ true) (λ q l. le_lt before o a w q.soft h l) late late_softs

    -- a time that is not after w is over
    over_now : (a : A) → before w a ≡ false → Past a t r.pending
    over_now a h = record {
      clock = le_lt before o a w t h soon;
      softs = subst (AllByRecursion (λ q. before a q.soft ≡ true)) (sym rest.left) (all_kept_by rest.test (λ q. before a q.soft ≡ true) late (late_after a h));
    }

    joined : (g : Firing A → Bool) (us vs : List (Firing A)) → filter g (wake_up before w xs) ≡ us → filter g r.entries ≡ vs →
        filter g (wake_up before w xs ++ r.entries) ≡ us ++ vs
    joined g us vs e f = filter-append g (wake_up before w xs) r.entries ∙ ap (λ l. l ++ filter g r.entries) e ∙ ap (λ l. us ++ l) f

    fires : (p : Timer A) → In xs p → ripe before w p ≡ true → Once t r.pending (after before w xs r).entries p
    fires p i h =
        let soft = not-true (before w p.soft) h in
        record {
          by = entry w (bearer before w xs) p;
          one = joined (of before p) (entry w (bearer before w xs) p ∷ []) [] (logs_once before o w xs p d i h)
              (logs_not p late r.entries (late_after p.soft soft) rest.logs);
          inside = (soft, all_in (λ x. before x.hard w ≡ false) p xs next.bounds i);
          over = over_now p.soft soft;
        }

    waits : (p : Timer A) → In xs p → ripe before w p ≡ false →
        Fared t r.pending (after before w xs r).entries p
    waits p i h =
        let none = logs_none before o w xs p h in
        ⊎_elim {C = Fared t r.pending (after before w xs r).entries p}
        (λ s. inl (s.0, joined (of before p) [] [] none s.1))
        (λ s. inr (record { by = s.by; one = joined (of before p) [] (s.by ∷ []) none s.one; inside = s.inside; over = s.over }))
        (all_in (Fared t r.pending r.entries) p late rest.fates
        (kept_in (λ q. not (ripe before w q)) p xs i (not_from_false (ripe before w p) h)))

    walked_after : Walked t xs (after before w xs r)
    walked_after =
        let one = marks_one before o w xs d proper next in
        let e = joined (λ f. f.mark) (entry w (bearer before w xs) one.0.timer ∷ []) (marks r.entries) one.1 refl in
        let at_w = sym one.0.at_w in
        record {
          test = λ x. not (ripe before w x) && rest.test x;
          left = rest.left ∙ kept_both rest.test (λ x. not (ripe before w x)) xs;
          ahead = rest.ahead;
          logs = All-append (λ f. Any (λ q. From q f) xs) (wake_up before w xs) r.entries (logs_ripe before o w xs)
              (All-weaker (λ f. Any (λ q. From q f) late) (λ f. Any (λ q. From q f) xs) (λ f i. kept_any (λ x. not (ripe before w x)) (λ q. From q f) xs i) r.entries rest.logs);
          fates = all_from_in (Fared t r.pending (after before w xs r).entries) xs
              (λ p i. ⊎_elim {C = Fared t r.pending (after before w xs r).entries p}
              (λ h. inr (fires p i h)) (λ h. waits p i h) (cases_Bool (ripe before w p)));
          counts = ap length e ∙ ap suc rest.counts;
          times = ap (map (λ f. f.wake)) e ∙ ap (λ ws. w ∷ ws) rest.times;
          apart = subst (Pairwise (Over before o)) (sym e) (
            subst (λ h. AllByRecursion (λ g. before h g.soft ≡ true) (marks r.entries)) at_w
                (all_kept_by (λ f. f.mark) (λ g. before w g.soft ≡ true) r.entries (logs_after w late r.entries late_softs rest.logs)),
            rest.apart,
          );
          over = subst (AllByRecursion (λ f. Past f.hard t r.pending)) (sym e)
              (subst (λ h. Past h t r.pending) at_w (over_now w (o.irreflexive w)), rest.over);
        }

  pub walked : (t : A) (xs : List (Timer A)) → Distinct xs → Proper before o xs → Walked t xs (walk before t xs)
  walked t xs d proper =
      along_walk before o t (λ ys r. Distinct ys → Walked t ys r) (λ ys late e. walked_still t ys late)
      (λ w ys r proper next soon rest e. walked_after t w ys r e proper next soon (rest (pairwise_kept (λ x. not (ripe before w x)) _ ys e))) xs proper d
