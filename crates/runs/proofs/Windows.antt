-- The rule of the table of purposes, by one test over the whole table.
use Rattle.std.proofs.Common.{◌≡◌, ℕ, Bool, true, ◌&&◌, leb, List, [], ◌∷◌, refl}
use Rattle.std.proofs.lemmas.Bool.{and_parts, leb-true}
use Rattle.std.specs.List.{AllByRecursion}
use Rattle.runs.specs.Purposes.{offsets_of, Windowed}

abbrev windowed : ℕ × ℕ → Bool
windowed o = leb o.0 o.1 && leb o.1 90000

abbrev all_pass : List (ℕ × ℕ) → Bool
all_pass [] = true
all_pass (o ∷ os) = windowed o && all_pass os

from_test : (os : List (ℕ × ℕ)) → all_pass os ≡ true → AllByRecursion Windowed os
from_test [] h = tt
from_test (o ∷ os) h =
    let p = and_parts (windowed o) (all_pass os) h in
    let q = and_parts (leb o.0 o.1) (leb o.1 90000) p.0 in
    ((leb-true o.0 o.1 q.0, leb-true o.1 90000 q.1), from_test os p.1)

pub every_window : AllByRecursion Windowed offsets_of
every_window = from_test offsets_of refl
