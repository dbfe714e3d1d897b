-- The least element stands in the list, and none is less; so a rearrangement has the same.
use Rattle.std.proofs.Common.{◌≡◌, Bool, false, List, [], ◌∷◌, Some, None, Option, sym, refl, subst, inl, inr}
use Rattle.std.specs.List.{AllByRecursion}
use Rattle.std.proofs.ByRecursion.{All-weaker}
use Rattle.std.proofs.lemmas.Bool.{cond_both}
use Rattle.times.specs.Order.{StrictOrder}
use Rattle.queue_rules.specs.Lists.{Any, least, lesser}
use Rattle.queue_rules.proofs.Elements.{In, all_in}
use Rattle.queue_rules.proofs.Orders.{never_both, le_le}

-- m stands in xs, and nothing there is less
pub record Lowest {X : Type 0} (lt : X → X → Bool) (xs : List X) (m : X) : Type 0 where
  pub stands : In xs m
  pub bounds : AllByRecursion (λ x. lt x m ≡ false) xs

module _ {X : Type 0} (lt : X → X → Bool) (o : StrictOrder lt) where
  abbrev Found : List X → Option X → Type 0
  Found xs None = xs ≡ []
  Found xs (Some m) = Lowest lt xs m

  found_more : (x : X) (xs : List X) (m : Option X) → Found xs m → Lowest lt (x ∷ xs) (lesser lt x m)
  found_more x xs None e =
      record { stands = inl refl; bounds = (o.irreflexive x, subst (AllByRecursion (λ y. lt y x ≡ false)) (sym e) tt) }
  found_more x xs (Some m) f =
      cond_both (lt m x) m x (Lowest lt (x ∷ xs))
      (λ t. record { stands = inr f.stands; bounds = (never_both lt o m x t, f.bounds) })
      (λ t. record {
        stands = inl refl;
        bounds = (o.irreflexive x, All-weaker (λ y. lt y m ≡ false) (λ y. lt y x ≡ false) (λ y h. le_le lt o x m y t h) xs f.bounds);
      })

  found : (xs : List X) → Found xs (least lt xs)
  found [] = refl
  found (x ∷ xs) = found_more x xs (least lt xs) (found xs)

  pub least_lowest : (xs : List X) (m : X) → least lt xs ≡ Some m → Lowest lt xs m
  least_lowest xs m e = subst (Found xs) e (found xs)

  pub least_none : (xs : List X) → least lt xs ≡ None → xs ≡ []
  least_none xs e = subst (Found xs) e (found xs)

  pub least_some : (P : X → Type 0) (xs : List X) → Any P xs → (m : X) × (least lt xs ≡ Some m)
  least_some P [] i = elim i [ ]
  least_some P (x ∷ xs) i = (lesser lt x (least lt xs), refl)

  pub lowest_one : (xs : List X) (a b : X) → Lowest lt xs a → Lowest lt xs b → a ≡ b
  lowest_one xs a b f g =
      o.connected a b (all_in (λ x. lt x b ≡ false) a xs g.bounds f.stands) (all_in (λ x. lt x a ≡ false) b xs f.bounds g.stands)
