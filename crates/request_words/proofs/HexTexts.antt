-- A time field in hexadecimal is the eight bytes in hexadecimal that it is read from.
use Rattle.std.proofs.Common.{◌≡◌, ℕ, ◌<◌, List, length, get_or, sym, refl, ap, ◌∙◌, arith}
use Rattle.std.proofs.lemmas.List.{take_all}
use Rattle.std.proofs.lemmas.Nat.{be_bytes_8}
use Rattle.std.specs.Int.{w64, from_be_bytes, to_be_bytes}
use Rattle.frames.specs.Hex.{hex}
use Rattle.frames.specs.Reading.{big_endian}
use Rattle.frames.proofs.Fields.{listed, listed_take}
use Rattle.frames.proofs.WriteBack.{hex_eight}

pub hex_time_field : (bs : List ℕ) (time : ℕ) → length bs ≡ 8 → ((i : ℕ) → get_or bs i 0 < 256) → time ≡ from_be_bytes w64 (listed bs 0 8) →
    hex (big_endian 8 time) ≡ hex bs
hex_time_field bs time l h e =
    let whole : listed bs 0 8 ≡ bs = listed_take bs 8 (omega (arith, l)) ∙ take_all 8 bs (omega (arith, l)) in
    let back : to_be_bytes w64 time ≡ bs = be_bytes_8 bs time l h (e ∙ ap (from_be_bytes w64) whole) in
    sym (hex_eight time (to_be_bytes w64 time) refl) ∙ ap hex back
