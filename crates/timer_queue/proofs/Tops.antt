-- What the first timer of each heap says of a wake-up.
use Rattle.std.proofs.Common.{◌≡◌, ℕ, Bool, true, false, ltb, List, map, Some, None, Option, filter, sym, refl, ap, ◌∙◌, inl}
use Rattle.std.specs.List.{AllByRecursion}
use Rattle.std.proofs.ByRecursion.{All-weaker, All-map, kept_by_passes}
use Rattle.std.proofs.lemmas.Bool.{le-ltb, not_from_true}
use Rattle.heap_links.specs.declared.timer.Timer.{Timer}
use Rattle.heap_links.specs.declared.slots.Slot.{Slot}
use Rattle.key_heaps.specs.Sifts.{Heaped}
use Rattle.slot_heaps.specs.Firsts.{First, Top}
use Rattle.slot_heaps.specs.Pending.{by_hard, listed, Among}
use Rattle.slot_heaps.proofs.Firsts.{first_is_least, none_by_then}
use Rattle.times.specs.Order.{StrictOrder}
use Rattle.queue_rules.specs.Lists.{least}
use Rattle.queue_rules.specs.Timers.{same, least_hard}
use Rattle.queue_rules.specs.WakeUps.{ripe, bearer}
use Rattle.queue_rules.proofs.Elements.{In, any_map, any_at, kept_in, in_kept, all_in, all_from_in}
use Rattle.timer_queue.proofs.FiringLoop.{listed_none}
use Rattle.timer_queue.proofs.Inserting.{inserted_rearranged}
use Rattle.queue_rules.proofs.Least.{Lowest, least_lowest, least_some, lowest_one}
use Rattle.queue_rules.proofs.Orders.{number_order, same_is, same_itself}
use Rattle.queue_rules.proofs.Rearranged.{rearranged_back, in_rearranged}

among_in : {X : Type 0} (x : X) (xs : List X) → Among x xs → In xs x
among_in x xs a = in_rearranged x (rearranged_back (inserted_rearranged x a.0 xs a.1)) (inl refl)

-- what is lowest is the least
is_least : {X : Type 0} (lt : X → X → Bool) (o : StrictOrder lt) (xs : List X) (m : X) → Lowest lt xs m → least lt xs ≡ Some m
is_least lt o xs m l =
    let s = least_some lt o (λ y. y ≡ m) xs l.stands in
    s.1 ∙ ap Some (lowest_one lt o xs s.0 m (least_lowest lt o xs s.0 s.1) l)

abbrev pub hard_of : {A : Type 0} → Option (ℕ × Timer A) → Option A
hard_of None = None
hard_of (Some x) = Some x.1.hard

module _ {A : Type 0} (before : A → A → Bool) (o : StrictOrder before) where
  -- its hard time is the least
  pub first_hard : (x : Timer A) (xs : List (Timer A)) → First before (λ t. t.hard) x xs → least_hard before xs ≡ Some x.hard
  first_hard x xs f =
      let l = first_is_least before o (λ t. t.hard) x xs f in
      is_least before o (map (λ t. t.hard) xs) x.hard (record {
        stands = any_map (λ t. t.hard) (λ h. h ≡ x.hard) xs (any_at (λ t. t.hard ≡ x.hard) x xs (among_in x xs f.stands) refl);
        bounds = All-map (λ h. before h x.hard ≡ false) (λ t. t.hard) xs (All-weaker _ (λ t. before t.hard x.hard ≡ false) (λ t p. p.0) xs l);
      })

  -- and it carries the mark
  pub first_bears : (x : Timer A) (xs : List (Timer A)) → First before (λ t. t.hard) x xs → bearer before x.hard xs ≡ Some x.number
  first_bears x xs f =
      let p : Timer A → Bool = λ t. same before t.hard x.hard in
      let l = first_is_least before o (λ t. t.hard) x xs f in
      is_least ltb number_order (map (λ t. t.number) (filter p xs)) x.number (record {
        stands = any_map (λ t. t.number) (λ n. n ≡ x.number) (filter p xs)
            (any_at (λ t. t.number ≡ x.number) x (filter p xs) (kept_in p x xs (among_in x xs f.stands) (same_itself before o x.hard)) refl);
        bounds = All-map (λ n. ltb n x.number ≡ false) (λ t. t.number) (filter p xs)
            (all_from_in (λ t. ltb t.number x.number ≡ false) (filter p xs)
            (λ t i. le-ltb t.number x.number
            ((all_in _ t xs l (in_kept p t xs i)).1 (same_is before o t.hard x.hard (all_in (λ y. p y ≡ true) t (filter p xs) (kept_by_passes p xs) i)))));
      })

  -- nothing is ripe if the first by soft time is not
  pub first_unripe : (x : Timer A) (xs : List (Timer A)) (w : A) → First before (λ t. t.soft) x xs → before w x.soft ≡ true → AllByRecursion (λ t. ripe before w t ≡ false) xs
  first_unripe x xs w f h = All-weaker (λ t. before w t.soft ≡ true) (λ t. ripe before w t ≡ false) (λ t b. not_from_true (before w t.soft) b) xs (none_by_then before o (λ t. t.soft) x xs w f h)

  -- so the least hard time is that of the first, if there is one
  pub top_hard : (n : ℕ) (ss : List (Slot A)) (r : Option (ℕ × Timer A)) → Top before (λ t. t.hard) by_hard n ss r → Heaped before (λ t. t.hard) by_hard ss n →
      hard_of r ≡ least_hard before (listed n ss)
  top_hard n ss None e h = sym (ap (least_hard before) (listed_none n ss e))
  top_hard n ss (Some x) e h = sym (first_hard x.1 (listed n ss) (e.2 h))
