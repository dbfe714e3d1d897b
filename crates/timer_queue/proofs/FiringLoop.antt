-- The loop of a wake-up: entries so far, and the timers that are left.
use Rattle.std.proofs.Common.{◌≡◌, ℕ, ◌+◌, ◌<◌, Bool, false, ltb, List, [], ◌∷◌, ◌++◌, map, length, take, drop, set, Some, sym, ap, ap₂, ◌∙◌, zero-add, arith}
use Rattle.std.specs.List.{AllByRecursion}
use Rattle.std.proofs.lemmas.List.{length_push, drop-drop}
use Rattle.std.proofs.lemmas.Bool.{not_from_false, le-ltb}
use Rattle.heap_links.specs.declared.slots.Slot.{Slot}
use Rattle.heap_links.specs.declared.timer.Timer.{Timer}
use Rattle.slot_heaps.specs.Firsts.{First}
use Rattle.slot_heaps.specs.Pending.{listed, Inserted}
use Rattle.times.specs.Order.{StrictOrder}
use Rattle.queue_rules.specs.declared.firing.Firing.{Firing}
use Rattle.timer_queue.specs.Firings.{fired, Fired}
use Rattle.timer_queue.specs.Logs.{logged_at}
use Rattle.queue_rules.specs.Timers.{Distinct, by_soft}
use Rattle.queue_rules.specs.WakeUps.{entry, ripe}
use Rattle.queue_rules.proofs.Elements.{none_kept, all_from_in}
use Rattle.timer_queue.proofs.Inserting.{inserted_rearranged}
use Rattle.timer_queue.proofs.Logging.{log_none, log_more}
use Rattle.queue_rules.proofs.Numbering.{distinct_rearranged}
use Rattle.timer_queue.proofs.Popping.{Popped, popped_none, popped_more, popped_all}
use Rattle.queue_rules.proofs.Rearranged.{length_rearranged, all_rearranged}

module _ {A : Type 0} (before : A → A → Bool) (o : StrictOrder before) (w : A) (m at : ℕ) (xs : List (Timer A)) (old : List (Firing A)) where
  -- the log and the timers left, with the next place of the log
  pub record FiringOn (new : List (Firing A)) (next : ℕ) (ys : List (Timer A)) : Type 0 where
    pub entries : List (Firing A)
    pub log : new ≡ logged_at at old entries
    pub place : next ≡ at + length entries
    pub count : length ys + length entries ≡ length xs
    pub popped : Popped before o w (Some m) xs entries ys
    pub distinct : Distinct ys

  pub fire_begins : Distinct xs → FiringOn old at xs
  fire_begins d = record {
    entries = [];
    log = log_none at old;
    place = omega arith;
    count = omega arith;
    popped = popped_none before o w (Some m) xs;
    distinct = d;
  }

  pub fire_goes_on : (new : List (Firing A)) (next : ℕ) (ys zs : List (Timer A)) (x : Timer A) → FiringOn new next ys → next < length old →
      Inserted x zs ys → First before (λ t. t.soft) x ys → before w x.soft ≡ false →
      FiringOn (set new next (entry w (Some m) x)) (next + 1) zs
  fire_goes_on new next ys zs x f h i first early =
      let r = inserted_rearranged x zs ys i in
      let n = length_rearranged r in
      let e : Firing A = entry w (Some m) x in
      let ahead : AllByRecursion (λ y. by_soft before y x ≡ false) zs = (all_rearranged (λ y. by_soft before y x ≡ false) r first.least).1 in
      record {
        entries = f.entries ++ e ∷ [];
        log = ap (λ l. set l next e) f.log ∙ log_more at next old f.entries e f.place h;
        place = omega (arith, f.place, length_push f.entries e);
        count = omega (arith, f.count, n, length_push f.entries e);
        popped = popped_more before o w (Some m) xs f.entries ys zs x f.popped r f.distinct (not_from_false (before w x.soft) early) ahead;
        distinct = (distinct_rearranged r f.distinct).1;
      }

  pub fire_ends : (new : List (Firing A)) (next : ℕ) (ys : List (Timer A)) → FiringOn new next ys → AllByRecursion (λ y. ripe before w y ≡ false) ys → Fired before w m xs ys at old new
  fire_ends new next ys f h =
      let p = popped_all before o w (Some m) xs f.entries ys f.popped h in
      record {
        log = f.log ∙ ap (logged_at at old) p.0;
        count = ap (λ l. length ys + length l) (sym p.0) ∙ f.count;
        rest = p.1;
      }

-- what is fired into the back of a log, told of the whole log
pub fired_behind : {A : Type 0} (before : A → A → Bool) (w : A) (m : ℕ) (xs ys : List (Timer A)) (n : ℕ) (old front back part : List (Firing A)) →
    front ≡ take n old → back ≡ drop n old → Fired before w m xs ys 0 back part → Fired before w m xs ys n old (front ++ part)
fired_behind before w m xs ys n old front back part f b r =
    let fs = fired before w m xs in
    record {
      log = ap₂ (λ a l. a ++ l) f
          (r.log ∙ ap (λ l. fs ++ drop (0 + length fs) l) b ∙ ap (λ l. fs ++ l) (drop-drop (0 + length fs) n old)
          ∙ ap (λ k. fs ++ drop (n + k) old) (zero-add (length fs)));
      count = r.count;
      rest = r.rest;
    }

-- no slot is pending
pub listed_none : {A : Type 0} (n : ℕ) (ss : List (Slot A)) → n ≡ 0 → listed n ss ≡ []
listed_none n ss e = ap (map (λ s. s.timer)) (none_kept (λ s. ltb s.hard.place n) ss (all_from_in (λ s. ltb s.hard.place n ≡ false) ss (λ s i. le-ltb s.hard.place n (omega arith))))
