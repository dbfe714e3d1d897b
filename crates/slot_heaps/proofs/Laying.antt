-- Slots laid out straight: both heaps are linked, and nothing is pending.
use Rattle.std.proofs.Common.{◌≡◌, ℕ, ◌+◌, ◌<◌, ◌≤◌, false, ltb, List, [], ◌∷◌, length, get_or, set, filter, sym, refl, ap, ◌∙◌, arith}
use Rattle.std.proofs.lemmas.List.Edits.{fill_by_more}
use Rattle.std.proofs.lemmas.List.{ext_get_or}
use Rattle.std.proofs.lemmas.Bool.{le-ltb, cond-false}
use Rattle.heap_links.specs.declared.slots.Link.{Link}
use Rattle.heap_links.specs.declared.slots.Slot.{Slot}
use Rattle.heap_links.specs.Columns.{timers, ats, places, slot_at, place_of}
use Rattle.heap_links.specs.Links.{Linked, Straight}
use Rattle.slot_heaps.specs.Pending.{by_hard, by_soft, pending, listed, Standing}
use Rattle.heap_links.proofs.Lengths.{length_ats, length_places}
use Rattle.heap_links.proofs.Reading.{half_set}
use Rattle.key_heaps.proofs.Marking.{length_pending, pending_at}

module _ {A : Type 0} (link : Slot A → Link) where
  -- slot i is written over, and stands at place i
  pub straight_more : (xs : List (Slot A)) (i : ℕ) (s : Slot A) → i < length xs → (link s).at ≡ i → (link s).place ≡ i → Straight link i xs → Straight link (i + 1) (set xs i s)
  straight_more xs i s l ea ep h = λ k m. (
    ap (λ ns. get_or ns k 0) (half_set link xs i s l (λ l. l.at) s i ea) ∙ fill_by_more (λ j. j) (ats link xs) i 0 (omega (arith, length_ats link xs)) (λ j n. (h j n).0) k m,
    ap (λ ns. get_or ns k 0) (half_set link xs i s l (λ l. l.place) s i ep) ∙ fill_by_more (λ j. j) (places link xs) i 0 (omega (arith, length_places link xs)) (λ j n. (h j n).1) k m,
  )

  pub straight_linked : (xs : List (Slot A)) → Straight link (length xs) xs → Linked link xs
  straight_linked xs h = (
    λ k l. let a = (h k l).0 in (omega arith, ap (place_of link xs) a ∙ (h k l).1),
    λ k l. let b = (h k l).1 in (omega arith, ap (slot_at link xs) b ∙ (h k l).0),
  )

module _ {A : Type 0} where
  none_pending : (link : Slot A → Link) (xs : List (Slot A)) (i : ℕ) → i < length xs → get_or (pending link 0 xs) i false ≡ false
  none_pending link xs i l = pending_at link 0 xs i l ∙ le-ltb (place_of link xs i) 0 (omega arith)

  pub straight_standing : (xs : List (Slot A)) → length xs ≤ 4096 → Straight by_hard (length xs) xs → Straight by_soft (length xs) xs → Standing 0 xs
  straight_standing xs small hard soft = (
    small,
    omega arith,
    straight_linked by_hard xs hard,
    straight_linked by_soft xs soft,
    ext_get_or false (pending by_hard 0 xs) (pending by_soft 0 xs) (length_pending by_hard 0 xs ∙ sym (length_pending by_soft 0 xs))
        (λ i l. let m : i < length xs = omega (arith, length_pending by_hard 0 xs) in none_pending by_hard xs i m ∙ sym (none_pending by_soft xs i m)),
  )

  pub none_listed : (xs : List (Slot A)) → listed 0 xs ≡ []
  none_listed [] = refl
  none_listed (s ∷ xs) =
      let rest = filter (λ s. ltb s.hard.place 0) xs in
      ap timers (cond-false (ltb s.hard.place 0) (s ∷ rest) rest (le-ltb s.hard.place 0 (omega arith))) ∙ none_listed xs
