-- One element of a list, seen in a column of it.
use Rattle.std.proofs.Common.{◌≡◌, ℕ, ◌<◌, List, map, length, get_or, set, Some, sym, ap, ◌∙◌, arith}
use Rattle.std.specs.List.{slice_get}
use Rattle.std.proofs.lemmas.Option.{slice_get-get_or}
use Rattle.std.proofs.lemmas.List.{get_or-map, length-map, map-set, set-get_or}

module _ {X Y : Type 0} (f : X → Y) (xs : List X) (i : ℕ) (d : X) (within : i < length xs) where
  -- a write that leaves a column's value leaves the column
  pub column_kept : (x : X) → f x ≡ f (get_or xs i d) → map f (set xs i x) ≡ map f xs
  column_kept x e =
      map-set f xs i x ∙ ap (set (map f xs) i) (e ∙ sym (get_or-map f xs i d (f d) within)) ∙ set-get_or (map f xs) i (f d)

  pub nth_column : slice_get (map f xs) i ≡ Some (f (get_or xs i d))
  nth_column = slice_get-get_or (map f xs) i (f d) (omega (arith, length-map xs f)) ∙ ap Some (get_or-map f xs i d (f d) within)

  -- a column of a column
  module _ (g : Y → ℕ) where
    pub half_read : get_or (map g (map f xs)) i 0 ≡ g (f (get_or xs i d))
    half_read = get_or-map g (map f xs) i (f d) 0 (omega (arith, length-map xs f)) ∙ ap g (get_or-map f xs i d (f d) within)

    pub half_set : (x : X) (n : ℕ) → g (f x) ≡ n → map g (map f (set xs i x)) ≡ set (map g (map f xs)) i n
    half_set x n e =
        ap (map g) (map-set f xs i x) ∙ map-set g (map f xs) i (f x) ∙ ap (set (map g (map f xs)) i) e

    pub half_kept : (x : X) → g (f x) ≡ g (f (get_or xs i d)) → map g (map f (set xs i x)) ≡ map g (map f xs)
    half_kept x e = half_set x (get_or (map g (map f xs)) i 0) (e ∙ sym half_read) ∙ set-get_or (map g (map f xs)) i 0
