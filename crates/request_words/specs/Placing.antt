-- Bytes put at a place of a lent buffer. Assumes nothing.
--
-- placed   a buffer with bytes at a place of it, all others as they were
-- Placed   that was done, and the place behind the bytes is the answer
-- PlacedIn the same where there is room for so many bytes, and otherwise nothing was done
use Rattle.std.specs.Prelude.{◌≡◌, ℕ, ◌+◌, ◌<◌, ◌≤◌, List, ◌++◌, length, take, drop, Some, None, Option}

abbrev pub placed : List ℕ → List ℕ → ℕ → List ℕ
placed bytes old at = take at old ++ (bytes ++ drop (at + length bytes) old)

pub record Placed (bytes old : List ℕ) (at : ℕ) (new : List ℕ) (end : ℕ) : Type 0 where
  pub behind : end ≡ at + length bytes
  pub within : end ≤ length old
  pub whole : new ≡ placed bytes old at

abbrev pub PlacedIn : ℕ → List ℕ → List ℕ → ℕ → List ℕ → Option ℕ → Type 0
PlacedIn room bytes old at new (Some end) = (at + room ≤ length old) × Placed bytes old at new end
PlacedIn room bytes old at new None = (length old < at + room) × (new ≡ old)
