-- What a rearrangement keeps.
use Rattle.std.proofs.Common.{◌≡◌, suc, Bool, true, false, cond, List, [], ◌∷◌, map, length, Some, None, filter, Option, refl, ap, ◌∙◌, subst, inl, inr, arith}
use Rattle.std.specs.List.{AllByRecursion}
use Rattle.times.specs.Order.{StrictOrder}
use Rattle.queue_rules.specs.Lists.{Pairwise, Rearranged, none, keep, swap, then, least}
use Rattle.queue_rules.proofs.Elements.{In}
use Rattle.queue_rules.proofs.Least.{Lowest, least_lowest, least_none, lowest_one}

module _ {X : Type 0} where
  pub rearranged_itself : (xs : List X) → Rearranged xs xs
  rearranged_itself [] = none
  rearranged_itself (x ∷ xs) = keep x (rearranged_itself xs)

  pub rearranged_back : {xs ys : List X} → Rearranged xs ys → Rearranged ys xs
  rearranged_back none = none
  rearranged_back (keep x r) = keep x (rearranged_back r)
  rearranged_back (swap x y xs) = swap y x xs
  rearranged_back (then r q) = then (rearranged_back q) (rearranged_back r)

  pub length_rearranged : {xs ys : List X} → Rearranged xs ys → length xs ≡ length ys
  length_rearranged none = refl
  length_rearranged (keep x r) = ap suc (length_rearranged r)
  length_rearranged (swap x y xs) = refl
  length_rearranged (then r q) = length_rearranged r ∙ length_rearranged q

  pub all_rearranged : (P : X → Type 0) {xs ys : List X} → Rearranged xs ys → AllByRecursion P xs → AllByRecursion P ys
  all_rearranged P none a = a
  all_rearranged P (keep x r) a = (a.0, all_rearranged P r a.1)
  all_rearranged P (swap x y xs) a = (a.1.0, (a.0, a.1.1))
  all_rearranged P (then r q) a = all_rearranged P q (all_rearranged P r a)

  pub in_rearranged : (x : X) {xs ys : List X} → Rearranged xs ys → In xs x → In ys x
  in_rearranged x none i = i
  in_rearranged x (keep y r) (inl e) = inl e
  in_rearranged x (keep y r) (inr i) = inr (in_rearranged x r i)
  in_rearranged x (swap y z xs) (inl e) = inr (inl e)
  in_rearranged x (swap y z xs) (inr (inl e)) = inl e
  in_rearranged x (swap y z xs) (inr (inr i)) = inr (inr i)
  in_rearranged x (then r q) i = in_rearranged x q (in_rearranged x r i)

  pub map_rearranged : {Y : Type 0} (f : X → Y) {xs ys : List X} → Rearranged xs ys → Rearranged (map f xs) (map f ys)
  map_rearranged f none = none
  map_rearranged f (keep x r) = keep (f x) (map_rearranged f r)
  map_rearranged f (swap x y xs) = swap (f x) (f y) (map f xs)
  map_rearranged f (then r q) = then (map_rearranged f r) (map_rearranged f q)

  -- a relation that goes both ways
  pub pairwise_rearranged : (R : X → X → Type 0) → ((x y : X) → R x y → R y x) → {xs ys : List X} → Rearranged xs ys → Pairwise R xs → Pairwise R ys
  pairwise_rearranged R back none p = p
  pairwise_rearranged R back (keep x r) p = (all_rearranged (R x) r p.0, pairwise_rearranged R back r p.1)
  pairwise_rearranged R back (swap x y xs) p = ((back x y p.0.0, p.1.0), (p.0.1, p.1.1))
  pairwise_rearranged R back (then r q) p = pairwise_rearranged R back q (pairwise_rearranged R back r p)

  pub kept_rearranged : (p : X → Bool) {xs ys : List X} → Rearranged xs ys → Rearranged (filter p xs) (filter p ys)
  kept_rearranged p none = none
  kept_rearranged p (keep {xs = xs} {ys = ys} x r) = one (p x) (kept_rearranged p r)
    where
      one : (b : Bool) → Rearranged (filter p xs) (filter p ys) → Rearranged (cond b (x ∷ filter p xs) (filter p xs)) (cond b (x ∷ filter p ys) (filter p ys))
      one true q = keep x q
      one false q = q
  kept_rearranged p (swap x y xs) = two (p x) (p y) (filter p xs)
    where
      two : (b c : Bool) (zs : List X) → Rearranged (cond b (x ∷ cond c (y ∷ zs) zs) (cond c (y ∷ zs) zs)) (cond c (y ∷ cond b (x ∷ zs) zs) (cond b (x ∷ zs) zs))
      two true true zs = swap x y zs
      two true false zs = rearranged_itself (x ∷ zs)
      two false true zs = rearranged_itself (y ∷ zs)
      two false false zs = rearranged_itself zs
  kept_rearranged p (then r q) = then (kept_rearranged p r) (kept_rearranged p q)

  pub rearranged_none : (ys : List X) → Rearranged [] ys → ys ≡ []
  rearranged_none [] r = refl
  rearranged_none (y ∷ ys) r = absurd (omega (arith, length_rearranged r))

  pub rearranged_one : (x : X) (ys : List X) → Rearranged (x ∷ []) ys → ys ≡ x ∷ []
  rearranged_one x [] r = absurd (omega (arith, length_rearranged r))
  rearranged_one x (y ∷ []) r = ap (λ z. z ∷ []) (all_rearranged (λ z. z ≡ x) r (refl, tt)).0
  rearranged_one x (y ∷ (z ∷ ys)) r = absurd (omega (arith, length_rearranged r))

  pub least_rearranged : (lt : X → X → Bool) → StrictOrder lt → {xs ys : List X} → Rearranged xs ys → least lt xs ≡ least lt ys
  least_rearranged lt o {xs} {ys} r = go (least lt xs) (least lt ys) refl refl
    where
      go : (a b : Option X) → least lt xs ≡ a → least lt ys ≡ b → a ≡ b
      go None None e f = refl
      go None (Some n) e f =
          let z = subst (λ l. Rearranged l ys) (least_none lt o xs e) r in
          let w : Lowest lt [] n = subst (λ l. Lowest lt l n) (rearranged_none ys z) (least_lowest lt o ys n f) in absurd w.stands
      go (Some m) None e f =
          let z = subst (λ l. Rearranged l xs) (least_none lt o ys f) (rearranged_back r) in
          let w : Lowest lt [] m = subst (λ l. Lowest lt l m) (rearranged_none xs z) (least_lowest lt o xs m e) in absurd w.stands
      go (Some m) (Some n) e f =
          let l = least_lowest lt o xs m e in
          let l' : Lowest lt ys m = record { stands = in_rearranged m r l.stands; bounds = all_rearranged (λ x. lt x m ≡ false) r l.bounds } in
          ap Some (lowest_one lt o ys m n l' (least_lowest lt o ys n f))
