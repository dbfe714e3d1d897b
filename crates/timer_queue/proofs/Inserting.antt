-- A list with one more element, wherever it was put, is a rearrangement of that element and the list.
use Rattle.std.proofs.Common.{◌≡◌, ◌+◌, List, [], ◌∷◌, ◌++◌, length, sym, ◌∙◌, subst, add-one}
use Rattle.slot_heaps.specs.Pending.{Inserted}
use Rattle.queue_rules.specs.Lists.{Rearranged, keep, swap, then}
use Rattle.queue_rules.proofs.Rearranged.{rearranged_itself, length_rearranged}

module _ {X : Type 0} where
  to_front : (bs : List X) (x : X) (zs : List X) → Rearranged (bs ++ (x ∷ zs)) (x ∷ (bs ++ zs))
  to_front [] x zs = rearranged_itself (x ∷ zs)
  to_front (b ∷ bs) x zs = then (keep b (to_front bs x zs)) (swap b x (bs ++ zs))

  pub inserted_rearranged : (x : X) (xs ys : List X) → Inserted x xs ys → Rearranged ys (x ∷ xs)
  inserted_rearranged x xs ys i =
      subst (λ l. Rearranged l (x ∷ xs)) (sym i.is)
      (subst (λ l. Rearranged (i.before ++ (x ∷ i.after)) (x ∷ l)) (sym i.was) (to_front i.before x i.after))

  pub inserted_length : (x : X) (xs ys : List X) → Inserted x xs ys → length ys ≡ length xs + 1
  inserted_length x xs ys i = length_rearranged (inserted_rearranged x xs ys i) ∙ sym (add-one (length xs))
