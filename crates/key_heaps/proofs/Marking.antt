-- One slot enters a heap or leaves it: which slots are pending then.
use Rattle.std.proofs.Common.{◌≡◌, ℕ, ◌+◌, ◌<◌, ◌≤◌, Bool, true, false, ltb, List, length, get_or, set, sym, ap, ◌∙◌, subst, ⊎_elim, arith}
use Rattle.std.proofs.lemmas.List.{length-map, length-set, get_or-map, get_or-set_same, get_or-set_other, ext_get_or}
use Rattle.std.proofs.lemmas.Bool.{cases_eq, lt-ltb, le-ltb}
use Rattle.heap_links.specs.declared.slots.Link.{Link}
use Rattle.heap_links.specs.declared.slots.Slot.{Slot}
use Rattle.heap_links.specs.Columns.{places, slot_at, place_of, Kept}
use Rattle.heap_links.specs.Links.{Linked, Paired, Swapped, Moved}
use Rattle.heap_links.proofs.Lengths.{kept_length, length_places}
use Rattle.key_heaps.specs.Members.{pending, Marked}
use Rattle.key_heaps.proofs.Marks.{marks_moved, comes_to, marks_entered, marks_left}
use Rattle.key_heaps.proofs.Sifting.{kept_then}

module _ {A : Type 0} (link : Slot A → Link) where
  pub length_pending : (n : ℕ) (xs : List (Slot A)) → length (pending link n xs) ≡ length xs
  length_pending n xs = simp length-map

  pub pending_at : (n : ℕ) (xs : List (Slot A)) (i : ℕ) → i < length xs → get_or (pending link n xs) i false ≡ ltb (place_of link xs i) n
  pending_at n xs i l = get_or-map (λ p. ltb p n) (places link xs) i 0 false (omega (arith, length_places link xs))

  marked_one : (m n : ℕ) (xs ys : List (Slot A)) (slot : ℕ) (b : Bool) → length ys ≡ length xs →
      ltb (place_of link ys slot) n ≡ b → ((i : ℕ) → i < length xs → (i ≡ slot → ⊥) → ltb (place_of link ys i) n ≡ ltb (place_of link xs i) m) →
      pending link n ys ≡ set (pending link m xs) slot b
  marked_one m n xs ys slot b long here rest =
      ext_get_or false (pending link n ys) (set (pending link m xs) slot b)
      (omega (arith, length_pending n ys, length_pending m xs, length-set (pending link m xs) slot b))
      (λ i l.
      let li : i < length xs = omega (arith, length_pending n ys) in
      pending_at n ys i (omega arith) ∙ ⊎_elim
      (λ e. ap (λ k. ltb (place_of link ys k) n) e ∙ here ∙ sym (ap (λ k. get_or (set (pending link m xs) slot b) k false) e ∙ get_or-set_same (pending link m xs) slot b false (omega (arith, length_pending m xs))))
      (λ u. rest i li u ∙ sym (get_or-set_other (pending link m xs) slot i b false u ∙ pending_at m xs i li))
      (cases_eq i slot))

-- the slot at place p is exchanged for the one at place q, and then links are moved
module _ {A : Type 0} (link other : Slot A → Link) (xs ys zs : List (Slot A)) (slot p q : ℕ) (place : p ≡ place_of link xs slot) (within : slot < length xs) (lq : q < length xs)
    (h : Linked link xs) (k : Kept other xs ys) (linked : Linked link ys) (s : Swapped (place_of link xs) (place_of link ys) (slot_at link xs p) (slot_at link xs q)) where
  lp : p < length xs
  lp = omega (arith, place, (h.1 slot within).0)

  is : slot_at link xs p ≡ slot
  is = ap (slot_at link xs) place ∙ (h.1 slot within).1

  long : length ys ≡ length xs
  long = kept_length other xs ys k

  -- the links were moved below n after the exchange
  module _ (n : ℕ) (v : Moved link other n ys zs) where
    long_then : length zs ≡ length ys
    long_then = kept_length other ys zs v.kept

    moved_test : (i : ℕ) → i < length xs → ltb (place_of link zs i) n ≡ ltb (place_of link ys i) n
    moved_test i l =
        marks_moved (length ys) (slot_at link ys) (place_of link ys) linked (slot_at link zs) (place_of link zs) n
        (subst (λ z. Paired z (slot_at link zs) (place_of link zs)) long_then v.linked) v.rest i (omega (arith, long))

    marked_then : (m : ℕ) (b : Bool) → ltb (place_of link ys (slot_at link xs p)) n ≡ b →
        ((i : ℕ) → i < length xs → (i ≡ slot_at link xs p → ⊥) → ltb (place_of link ys i) n ≡ ltb (place_of link xs i) m) →
        Marked link other slot b m n xs zs
    marked_then m b here rest = record {
      linked = v.linked;
      marks = subst (λ j. pending link n zs ≡ set (pending link m xs) j b) is
          (marked_one link m n xs zs (slot_at link xs p) b (long_then ∙ long) (moved_test (slot_at link xs p) (h.0 p lp).0 ∙ here) (λ i l u. moved_test i l ∙ rest i l u));
      kept = kept_then link other xs ys zs k v.kept;
    }

  at : place_of link ys (slot_at link xs p) ≡ q
  at = comes_to (length xs) (slot_at link xs) (place_of link xs) h (place_of link ys) p q lp lq s

  pub marked_entered : q ≤ p → Moved link other (q + 1) ys zs → Marked link other slot true q (q + 1) xs zs
  marked_entered le v =
      marked_then (q + 1) v q true (lt-ltb (place_of link ys (slot_at link xs p)) (q + 1) (omega (arith, at)))
      (marks_entered (length xs) (slot_at link xs) (place_of link xs) h (place_of link ys) p q lp lq s le)

  pub marked_left : p ≤ q → Moved link other q ys zs → Marked link other slot false (q + 1) q xs zs
  marked_left le v =
      marked_then q v (q + 1) false (le-ltb (place_of link ys (slot_at link xs p)) q (omega (arith, at)))
      (marks_left (length xs) (slot_at link xs) (place_of link xs) h (place_of link ys) p q lp lq s le)
