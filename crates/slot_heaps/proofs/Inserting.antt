-- A timer goes into a free slot and into both heaps, or out of both.
use Rattle.std.proofs.Common.{◌≡◌, ℕ, ◌+◌, ◌<◌, ◌≤◌, Bool, true, false, List, map, length, get_or, set, sym, ap, ◌∙◌, subst, arith}
use Rattle.std.proofs.lemmas.List.{length-map, length-set, get_or-set_same, set-set, set-get_or}
use Rattle.std.proofs.lemmas.Option.{slice_get-get_or}
use Rattle.std.proofs.lemmas.Bool.{lt-ltb, le-ltb}
use Rattle.heap_links.specs.declared.slots.Link.{Link}
use Rattle.heap_links.specs.declared.slots.Slot.{Slot}
use Rattle.heap_links.specs.declared.timer.Timer.{Timer}
use Rattle.heap_links.specs.Columns.{timers, slot_at, place_of}
use Rattle.slot_heaps.specs.Firsts.{Holds}
use Rattle.slot_heaps.specs.Pending.{by_hard, by_soft, pending, listed, Standing, Filled, Inserted}
use Rattle.key_heaps.specs.Sifts.{BothHeaped}
use Rattle.key_heaps.proofs.Marking.{pending_at, length_pending}
use Rattle.slot_heaps.proofs.Picked.{picked, listed_picked, picked_set}
use Rattle.slot_heaps.proofs.TwoHeaps.{linked_same, pending_same, heaped_filled, free_both}

module _ {A : Type 0} where
  pub place_same : (link : Slot A → Link) (xs ys : List (Slot A)) (i : ℕ) → map link ys ≡ map link xs → place_of link ys i ≡ place_of link xs i
  place_same link xs ys i e = ap (λ ls. get_or (map (λ l. l.place) ls) i 0) e

  length_timers : (xs : List (Slot A)) → length (timers xs) ≡ length xs
  length_timers xs = length-map xs (λ (s : Slot A). s.timer)

  module _ (n s : ℕ) (t : Timer A) (xs ys : List (Slot A)) (h : Standing n xs) (f : Filled s t xs ys) where
    pub length_filled : length ys ≡ length xs
    length_filled = sym (length_timers ys) ∙ ap length f.timers ∙ length-set (timers xs) s t ∙ length_timers xs

    pub standing_filled : Standing n ys
    standing_filled = (
      subst (λ k. k ≤ 4096) (sym length_filled) h.0,
      subst (λ k. n ≤ k) (sym length_filled) h.1,
      linked_same by_hard xs ys f.hard length_filled h.2,
      linked_same by_soft xs ys f.soft length_filled h.3,
      pending_same by_hard xs ys f.hard n ∙ h.4 ∙ sym (pending_same by_soft xs ys f.soft n),
    )

    -- the slot is the first that is free by hard time
    module _ (room : n < length xs) (is : s ≡ slot_at by_hard xs n) where
      within : s < length xs
      within = omega (arith, (h.2.0 n room).0)

      free : n ≤ place_of by_hard xs s
      free = let e : place_of by_hard xs s ≡ n = ap (place_of by_hard xs) is ∙ (h.2.0 n room).1 in omega arith

      pub free_filled : (s < length ys) × (n ≤ place_of by_hard ys s) × (n ≤ place_of by_soft ys s)
      free_filled =
          let l : s < length ys = omega (arith, length_filled, within) in
          let f : n ≤ place_of by_hard ys s = omega (arith, place_same by_hard xs ys s f.hard, free) in
          (l, f, free_both by_soft n ys s standing_filled.4 l f)

      pub both_heaped_filled : (before : A → A → Bool) → BothHeaped before n xs → BothHeaped before n ys
      both_heaped_filled before b = (
        heaped_filled by_hard xs ys f.hard before (λ t. t.hard) n s t h.1 h.2 free f.timers b.0,
        heaped_filled by_soft xs ys f.soft before (λ t. t.soft) n s t h.1 h.3 (free_both by_soft n xs s h.4 within free) f.timers b.1,
      )

      pub listed_inserted : (zs : List (Slot A)) → pending by_hard (n + 1) zs ≡ set (pending by_hard n ys) s true → timers zs ≡ timers ys → Inserted t (listed n xs) (listed (n + 1) zs)
      listed_inserted zs m e =
          let us = pending by_hard n xs in
          subst (λ l. Inserted t l (listed (n + 1) zs)) (sym (listed_picked n xs))
          (subst (Inserted t (picked us (timers xs)))
          (sym (listed_picked (n + 1) zs
          ∙ (λ k. picked ((m ∙ ap (λ bs. set bs s true) (pending_same by_hard xs ys f.hard n)) k) ((e ∙ f.timers) k))))
          (picked_set t us (timers xs) s (omega (arith, length_pending by_hard n xs)) (omega (arith, length_timers xs))
          (pending_at by_hard n xs s within ∙ le-ltb (place_of by_hard xs s) n free)))

  -- a pending slot's timer stands in the list, and its mark is what puts it there
  pub listed_held : (n : ℕ) (xs : List (Slot A)) (i : ℕ) (t : Timer A) → Holds n xs i t → Inserted t (picked (set (pending by_hard n xs) i false) (timers xs)) (listed n xs)
  listed_held n xs i t h =
      let us = pending by_hard n xs in
      let l = h.within in
      let was : set (set us i false) i true ≡ us =
      set-set us i false true ∙ ap (set us i) (sym (pending_at by_hard n xs i l ∙ lt-ltb (place_of by_hard xs i) n h.pending)) ∙ set-get_or us i false in
      let read : t ≡ get_or (timers xs) i t = let e = slice_get-get_or (timers xs) i t (omega (arith, length_timers xs)) in let f = h.timer in cc in
      let held : set (timers xs) i t ≡ timers xs = ap (set (timers xs) i) read ∙ set-get_or (timers xs) i t in
      subst (Inserted t (picked (set us i false) (timers xs))) ((λ k. picked (was k) (held k)) ∙ sym (listed_picked n xs))
      (picked_set t (set us i false) (timers xs) i
      (omega (arith, length-set us i false, length_pending by_hard n xs)) (omega (arith, length_timers xs))
      (get_or-set_same us i false false (omega (arith, length_pending by_hard n xs))))

  pub listed_removed : (n i : ℕ) (t : Timer A) (xs zs : List (Slot A)) → Holds (n + 1) xs i t →
      pending by_hard n zs ≡ set (pending by_hard (n + 1) xs) i false → timers zs ≡ timers xs → Inserted t (listed n zs) (listed (n + 1) xs)
  listed_removed n i t xs zs h m e =
      subst (λ l. Inserted t l (listed (n + 1) xs)) (sym (listed_picked n zs ∙ (λ k. picked (m k) (e k)))) (listed_held (n + 1) xs i t h)
