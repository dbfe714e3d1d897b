-- The purposes: soft and hard time, in ticks ahead of the clock. Assumes nothing.
use Rattle.std.specs.Prelude.{ℕ, ◌≤◌, List, [], ◌∷◌}

abbrev pub offsets_of : List (ℕ × ℕ)
offsets_of =
    (10, 50) ∷ (1500, 3000) ∷ (6000, 6500) ∷ (6000, 6500) ∷ (6000, 6600) ∷ (6000, 6700)
    ∷ (200, 260) ∷ (30, 30) ∷ (12000, 18000) ∷ (400, 500) ∷ (3000, 9000) ∷ (60000, 90000) ∷ []

-- the soft time is not after the hard time, and that is at most 15 minutes ahead
abbrev pub Windowed : ℕ × ℕ → Type 0
Windowed o = (o.0 ≤ o.1) × (o.1 ≤ 90000)
