-- Columns are as long as the slots.
use Rattle.std.proofs.Common.{◌≡◌, List, length, ap, arith}
use Rattle.std.proofs.lemmas.List.{length-map}
use Rattle.heap_links.specs.declared.slots.Link.{Link}
use Rattle.heap_links.specs.declared.slots.Slot.{Slot}
use Rattle.heap_links.specs.Columns.{ats, places, Kept}

module _ {A : Type 0} where
  pub kept_length : (other : Slot A → Link) (xs ys : List (Slot A)) → Kept other xs ys → length ys ≡ length xs
  kept_length other xs ys k =
      omega (arith, ap length k.timers, length-map xs (λ (s : Slot A). s.timer), length-map ys (λ (s : Slot A). s.timer))

module _ {A : Type 0} (link : Slot A → Link) where
  pub length_ats : (xs : List (Slot A)) → length (ats link xs) ≡ length xs
  length_ats xs = simp length-map

  pub length_places : (xs : List (Slot A)) → length (places link xs) ≡ length xs
  length_places xs = simp length-map
