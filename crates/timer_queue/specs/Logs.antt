-- What an advance leaves in the lent log. Assumes nothing.
--     logged_at n old fs     the log with the entries fs from place n on; the others are as they were
use Rattle.std.specs.Prelude.{ℕ, ◌+◌, List, ◌++◌, length, take, drop}

abbrev pub logged_at : {X : Type 0} → ℕ → List X → List X → List X
logged_at n old fs = take n old ++ (fs ++ drop (n + length fs) old)
