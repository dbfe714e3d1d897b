-- Words on lists. Assumes nothing.
--     Any P xs                      P holds of some element
--     Pairwise R xs                 R holds of each element and each later one
--     Rearranged xs ys              ys has the elements of xs, in another order
--     passes p xs                   whether some element passes the test p
--     least lt xs                   the least element by lt, if there is one
--     put lt x xs, sorted lt xs     x put before the first element that it is less than; insertion sort
use Rattle.std.specs.Prelude.{Bool, false, cond, ◌||◌, ◌⊎◌, List, [], ◌∷◌, Some, None, Option}
use Rattle.std.specs.List.{AllByRecursion, AllByRecursion-prop}
use Rattle.std.specs.Coded.{×_prop, Unit-prop}

abbrev pub Any : {X : Type 0} → (X → Type 0) → List X → Type 0
Any P [] = ⊥
Any P (x ∷ xs) = P x ⊎ Any P xs

abbrev pub Pairwise : {X : Type 0} → (X → X → Type 0) → List X → Type 0
Pairwise R [] = Unit {0}
Pairwise R (x ∷ xs) = AllByRecursion (R x) xs × Pairwise R xs

pub Pairwise-prop : {X : Type 0} (R : X → X → Type 0) → ((x y : X) → IsProp (R x y)) → (xs : List X) → IsProp (Pairwise R xs)
Pairwise-prop R p [] = Unit-prop
Pairwise-prop R p (x ∷ xs) = ×_prop (AllByRecursion-prop (R x) (p x) xs) (Pairwise-prop R p xs)

pub data Rearranged {X : Type 0} : List X → List X → Type 0 where
  none : Rearranged [] []
  keep : {xs ys : List X} (x : X) → Rearranged xs ys → Rearranged (x ∷ xs) (x ∷ ys)
  swap : (x y : X) (xs : List X) → Rearranged (x ∷ (y ∷ xs)) (y ∷ (x ∷ xs))
  then : {xs ys zs : List X} → Rearranged xs ys → Rearranged ys zs → Rearranged xs zs

abbrev pub passes : {X : Type 0} → (X → Bool) → List X → Bool
passes p [] = false
passes p (x ∷ xs) = p x || passes p xs

module _ {X : Type 0} (lt : X → X → Bool) where
  abbrev pub lesser : X → Option X → X
  lesser x None = x
  lesser x (Some y) = cond (lt y x) y x

  abbrev pub least : List X → Option X
  least [] = None
  least (x ∷ xs) = Some (lesser x (least xs))

  abbrev pub put : X → List X → List X
  put x [] = x ∷ []
  put x (y ∷ ys) = cond (lt x y) (x ∷ (y ∷ ys)) (y ∷ put x ys)

  abbrev pub sorted : List X → List X
  sorted [] = []
  sorted (x ∷ xs) = put x (sorted xs)
