-- The top of a heap comes before all of it, and what holds of each pending slot holds of each listed timer.
use Rattle.std.proofs.Common.{◌≡◌, ℕ, zero, suc, ◌-◌, ◌/◌, ◌<◌, ◌≤◌, Bool, true, false, cond, ◌&&◌, eqb, ltb, List, [], ◌∷◌, length, get_or, Some, None, filter, sym, refl, ap, ◌∙◌, ⊎_elim, arith}
use Rattle.std.specs.List.{AllByRecursion, slice_get, position, position_or_len}
use Rattle.std.proofs.lemmas.Bool.{cases_eq, ltb-true, ltb-false, eqb-true, and_parts, and_cases, cond_both}
use Rattle.std.proofs.lemmas.List.Sums.{fails_before_first, passes_at_first}
use Rattle.heap_links.specs.declared.slots.Link.{Link}
use Rattle.heap_links.specs.declared.slots.Slot.{Slot}
use Rattle.heap_links.specs.declared.timer.Timer.{Timer}
use Rattle.heap_links.specs.Columns.{timers, slot_at, place_of}
use Rattle.slot_heaps.specs.Firsts.{Holds, First, Found}
use Rattle.key_heaps.specs.HeapOrder.{Ordered}
use Rattle.heap_links.specs.Links.{Linked}
use Rattle.slot_heaps.specs.Pending.{by_hard, pending, listed}
use Rattle.key_heaps.specs.Sifts.{Heaped}
use Rattle.key_heaps.specs.Sooner.{ahead, sooner, precedes}
use Rattle.key_heaps.proofs.Gaps.{by}
use Rattle.slot_heaps.proofs.Inserting.{listed_held}
use Rattle.key_heaps.proofs.Orders.{Ranks}
use Rattle.heap_links.proofs.Reading.{half_read, nth_column}
use Rattle.key_heaps.proofs.Sifting.{itself, parent}
use Rattle.slot_heaps.proofs.TwoHeaps.{pending_both}

module _ (lt : ℕ → ℕ → Bool) (r : Ranks lt) (a : ℕ → ℕ) (n : ℕ) (h : Ordered lt a n) where
  climbs : (fuel k : ℕ) → k ≤ fuel → k < n → lt (a k) (a 0) ≡ false
  climbs zero k f l = let e : k ≡ 0 = omega arith in by lt (ap a e) refl (itself lt r (a 0))
  climbs (suc fuel) k f l = ⊎_elim
      (λ e. by lt (ap a e) refl (itself lt r (a 0)))
      (λ u. r.chain _ _ _ (h ((k - 1) / 2) k (parent lt k (omega arith)) l) (climbs fuel ((k - 1) / 2) (omega arith) (omega arith)))
      (cases_eq k 0)

  pub top_first : (k : ℕ) → k < n → lt (a k) (a 0) ≡ false
  top_first k l = climbs k k (omega arith) l

module _ {A : Type 0} where
  one_more : (P : Timer A → Type 0) (b : Bool) (s : Slot A) (ss : List (Slot A)) → (b ≡ true → P s.timer) → AllByRecursion P (timers ss) → AllByRecursion P (timers (cond b (s ∷ ss) ss))
  one_more P true s ss p ps = (p refl, ps)
  one_more P false s ss p ps = ps

  pub listed_all : (P : Timer A → Type 0) (n : ℕ) (xs : List (Slot A)) → ((i : ℕ) (x : Timer A) → Holds n xs i x → P x) → AllByRecursion P (listed n xs)
  listed_all P n [] f = tt
  listed_all P n (s ∷ xs) f =
      one_more P (ltb s.hard.place n) s (filter (λ s. ltb s.hard.place n) xs)
      (λ e. f 0 s.timer (record { within = omega arith; pending = ltb-true s.hard.place n e; timer = refl }))
      (listed_all P n xs (λ i x h. f (suc i) x (record { within = omega (arith, h.within); pending = h.pending; timer = h.timer })))

  -- the slot at the top of a heap holds the first of the listed timers
  pub top_is_first : (before : A → A → Bool) (time : Timer A → A) (link : Slot A → Link) (n : ℕ) (xs : List (Slot A)) (i : ℕ) (x : Timer A) →
      Ranks (precedes before time (timers xs)) → Linked link xs → pending by_hard n xs ≡ pending link n xs → Holds n xs i x → i ≡ slot_at link xs 0 →
      Heaped before time link xs n → First before time x (listed n xs)
  top_is_first before time link n xs i x r l same h is heap = record {
    stands = (_, listed_held n xs i x h);
    least = listed_all (λ y. sooner before time y x ≡ false) n xs (λ j y held.
        let k = place_of link xs j in
        let back : slot_at link xs k ≡ j = (l.1 j held.within).1 in
        let first = top_first (precedes before time (timers xs)) r (slot_at link xs) n heap k (pending_both link n xs j same held.within held.pending) in
        let here : precedes before time (timers xs) j i ≡ false = by (precedes before time (timers xs)) (sym back) is first in
        (λ z. ahead (sooner before time) (sym held.timer z) (sym h.timer z)) ∙ here);
  }

  module _ (n number : ℕ) where
    abbrev pub tested : Slot A → Bool
    tested s = ltb s.hard.place n && eqb s.timer.number number

    module _ (xs : List (Slot A)) (i : ℕ) (d : Slot A) (l : i < length xs) where
      place_read : place_of by_hard xs i ≡ (get_or xs i d).hard.place
      place_read = half_read by_hard xs i d l (λ k. k.place)

      timer_read : slice_get (timers xs) i ≡ Some (get_or xs i d).timer
      timer_read = nth_column (λ s. s.timer) xs i d l

      pub hit : tested (get_or xs i d) ≡ true → Found number n xs (Some i)
      hit t =
          let e = get_or xs i d in
          let p = and_parts (ltb e.hard.place n) (eqb e.timer.number number) t in
          let held : Holds n xs i e.timer =
          record { within = l; pending = omega (arith, place_read, ltb-true e.hard.place n p.0); timer = timer_read } in
          (e.timer, held, eqb-true e.timer.number number p.1, (_, listed_held n xs i e.timer held))

      pub miss : tested (get_or xs i d) ≡ false → (x : Timer A) → Holds n xs i x → eqb x.number number ≡ false
      miss t x h =
          let e = get_or xs i d in
          let same : x ≡ e.timer = let f = timer_read in let g = h.timer in cc in
          ⊎_elim
          (λ f. absurd (let g = ltb-false e.hard.place n f in omega (arith, place_read, h.pending)))
          (λ f. ap (λ y. eqb y.number number) same ∙ f)
          (and_cases (ltb e.hard.place n) (eqb e.timer.number number) t)

    first_found : (xs : List (Slot A)) → position_or_len tested xs < length xs → Found number n xs (Some (position_or_len tested xs))
    first_found [] l = absurd (omega arith)
    first_found (s ∷ xs) l = hit (s ∷ xs) _ s l (passes_at_first tested (s ∷ xs) s l)

    none_found : (xs : List (Slot A)) → length xs ≤ position_or_len tested xs → Found number n xs None
    none_found [] l = tt
    none_found (s ∷ xs) l =
        listed_all (λ x. eqb x.number number ≡ false) n (s ∷ xs)
        (λ i x h. miss (s ∷ xs) i s h.within (fails_before_first tested (s ∷ xs) i s (omega (arith, h.within))) x h)

    -- the first slot that passes the test is what is searched
    pub found_position : (xs : List (Slot A)) → Found number n xs (position tested xs)
    found_position xs =
        let k = position_or_len tested xs in
        cond_both (ltb k (length xs)) (Some k) None (Found number n xs)
        (λ t. first_found xs (ltb-true k (length xs) t)) (λ f. none_found xs (ltb-false k (length xs) f))
