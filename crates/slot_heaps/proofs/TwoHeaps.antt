-- Both heaps over the same slots: what changes in one leaves the other, and a slot enters or leaves both.
use Rattle.std.proofs.Common.{◌≡◌, ℕ, zero, suc, ◌<◌, ◌≤◌, Bool, false, ltb, List, [], ◌∷◌, map, length, get_or, set, Some, sym, refl, ap, ◌∙◌, subst, arith}
use Rattle.std.specs.List.{slice_get}
use Rattle.std.proofs.lemmas.Bool.{lt-ltb, le-ltb, ltb-true, ltb-false}
use Rattle.heap_links.specs.declared.slots.Link.{Link}
use Rattle.heap_links.specs.declared.slots.Slot.{Slot}
use Rattle.heap_links.specs.declared.timer.Timer.{Timer}
use Rattle.heap_links.specs.Columns.{timers, slot_at, place_of}
use Rattle.key_heaps.specs.HeapOrder.{Ordered}
use Rattle.heap_links.specs.Links.{Linked, Paired}
use Rattle.slot_heaps.specs.Pending.{by_hard, by_soft, pending, Standing, Marked}
use Rattle.key_heaps.specs.Sifts.{Heaped}
use Rattle.key_heaps.specs.Sooner.{ahead, sooner, precedes}
use Rattle.heap_links.proofs.Lengths.{kept_length}
use Rattle.heap_links.proofs.Reading.{nth_column}
use Rattle.key_heaps.proofs.Marking.{pending_at}

nth_other : {X : Type 0} (xs : List X) (i : ℕ) (x : X) (k : ℕ) → (k ≡ i → ⊥) → slice_get (set xs i x) k ≡ slice_get xs k
nth_other [] i x k u = refl
nth_other (y ∷ xs) zero x zero u = absurd (u refl)
nth_other (y ∷ xs) zero x (suc k) u = refl
nth_other (y ∷ xs) (suc i) x zero u = refl
nth_other (y ∷ xs) (suc i) x (suc k) u = nth_other xs i x k (λ e. u (ap suc e))

module _ {A : Type 0} where
  -- a heap's links are as they were
  module _ (link : Slot A → Link) (xs ys : List (Slot A)) (e : map link ys ≡ map link xs) where
    pub linked_same : length ys ≡ length xs → Linked link xs → Linked link ys
    linked_same l h =
        subst (λ n. Paired n (slot_at link ys) (place_of link ys)) (sym l)
        (subst (λ ls. Paired (length xs) (λ p. get_or (map (λ s. s.at) ls) p 0) (λ i. get_or (map (λ s. s.place) ls) i 0)) (sym e) h)

    pub pending_same : (n : ℕ) → pending link n ys ≡ pending link n xs
    pending_same n = ap (λ ls. map (λ p. ltb p n) (map (λ s. s.place) ls)) e

    module _ (before : A → A → Bool) (time : Timer A → A) where
      pub heaped_same : (n : ℕ) → timers ys ≡ timers xs → Heaped before time link xs n → Heaped before time link ys n
      heaped_same n t h =
          subst (λ ts. Ordered (precedes before time ts) (slot_at link ys) n) (sym t)
          (subst (λ ls. Ordered (precedes before time (timers xs)) (λ p. get_or (map (λ s. s.at) ls) p 0) n) (sym e) h)

      -- a new timer in a slot that is not in the heap
      pub heaped_filled : (n s : ℕ) (t : Timer A) → n ≤ length xs → Linked link xs → n ≤ place_of link xs s → timers ys ≡ set (timers xs) s t →
          Heaped before time link xs n → Heaped before time link ys n
      heaped_filled n s t le l free et h =
          let a = slot_at link xs in
          let apart : (k : ℕ) → k < n → a k ≡ s → ⊥ = λ k i d. let f : place_of link xs s ≡ k = ap (place_of link xs) (sym d) ∙ (l.0 k (omega arith)).1 in omega arith in
          let kept : (i j : ℕ) → (i ≡ s → ⊥) → (j ≡ s → ⊥) → precedes before time (set (timers xs) s t) i j ≡ precedes before time (timers xs) i j =
          λ i j u v. λ k. ahead (sooner before time) (nth_other (timers xs) s t i u k) (nth_other (timers xs) s t j v k) in
          subst (λ ts. Ordered (precedes before time ts) (slot_at link ys) n) (sym et)
          (subst (λ ls. Ordered (precedes before time (set (timers xs) s t)) (λ p. get_or (map (λ s. s.at) ls) p 0) n) (sym e)
          (λ p k c i. kept (a k) (a p) (apart k i) (apart p (omega arith)) ∙ h p k c i))

  -- a slot is pending in both heaps or in none
  module _ (link : Slot A → Link) (n : ℕ) (xs : List (Slot A)) (i : ℕ) (same : pending by_hard n xs ≡ pending link n xs) (l : i < length xs) where
    same_use : ltb (place_of by_hard xs i) n ≡ ltb (place_of link xs i) n
    same_use = sym (pending_at by_hard n xs i l) ∙ ap (λ bs. get_or bs i false) same ∙ pending_at link n xs i l

    pub free_both : n ≤ place_of by_hard xs i → n ≤ place_of link xs i
    free_both f = ltb-false (place_of link xs i) n (sym same_use ∙ le-ltb (place_of by_hard xs i) n f)

    pub pending_both : place_of by_hard xs i < n → place_of link xs i < n
    pending_both f = ltb-true (place_of link xs i) n (sym same_use ∙ lt-ltb (place_of by_hard xs i) n f)

    pub pending_back : place_of link xs i < n → place_of by_hard xs i < n
    pending_back f = ltb-true (place_of by_hard xs i) n (same_use ∙ lt-ltb (place_of link xs i) n f)

  -- the slot enters both heaps, or leaves both
  module _ (s : ℕ) (b : Bool) (m n : ℕ) (xs ys zs : List (Slot A)) (hard : Marked by_hard by_soft s b m n xs ys) (soft : Marked by_soft by_hard s b m n ys zs) where
    pub timers_then : timers zs ≡ timers xs
    timers_then = soft.kept.timers ∙ hard.kept.timers

    pub marks_then : pending by_hard n zs ≡ set (pending by_hard m xs) s b
    marks_then = pending_same by_hard ys zs soft.kept.others n ∙ hard.marks

    pub length_then : length zs ≡ length xs
    length_then = kept_length by_hard ys zs soft.kept ∙ kept_length by_soft xs ys hard.kept

    pub timer_then : (d : Slot A) → s < length xs → slice_get (timers xs) s ≡ Some (get_or zs s d).timer
    timer_then d l = ap (λ ts. slice_get ts s) (sym timers_then) ∙ nth_column (λ x. x.timer) zs s d (omega (arith, length_then, l))

    pub standing_then : n ≤ length xs → Standing m xs → Standing n zs
    standing_then le h = (
      subst (λ k. k ≤ 4096) (sym length_then) h.0,
      subst (λ k. n ≤ k) (sym length_then) le,
      linked_same by_hard ys zs soft.kept.others (kept_length by_hard ys zs soft.kept) hard.linked,
      soft.linked,
      marks_then ∙ ap (λ bs. set bs s b) h.4 ∙ sym (soft.marks ∙ ap (λ bs. set bs s b) (pending_same by_soft xs ys hard.kept.others m)),
    )
