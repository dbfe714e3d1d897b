-- A lent buffer and the place behind what is put into it. Assumes nothing.
use Rattle.std.specs.Prelude.{◌≡◌, ℕ, ◌-◌, List, length}
use Rattle.request_words.specs.declared.place.Sheet.{Sheet}
use Rattle.request_words.specs.Placing.{Placed}

-- how many bytes there is room for
abbrev pub room : Sheet → ℕ
room s = length s.out.now - s.at

-- bytes were put at the place, and the buffer is the same one
pub record Puts (bytes : List ℕ) (old new : Sheet) : Type 0 where
  pub same : new.out.ghost_name ≡ old.out.ghost_name
  pub size : length new.out.now ≡ length old.out.now
  pub placed : Placed bytes old.out.now old.at new.out.now new.at
