-- The check byte that ends every frame. Assumes nothing.
use Rattle.std.specs.Prelude.{ℕ, ◌-◌, ◌%◌, Bool, List, length, take, sum, ◌==◌, slice_index}

-- the sum of the bytes modulo 256
abbrev pub check : List ℕ → ℕ
check bs = sum bs % 256

-- whether the last byte is the check byte of those before it
abbrev pub checked : List ℕ → Bool
checked bs = slice_index bs (length bs - 1) == check (take (length bs - 1) bs)
