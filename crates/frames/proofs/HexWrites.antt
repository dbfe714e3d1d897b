-- A buffer filled with characters, byte by byte.
use Rattle.std.proofs.Common.{◌≡◌, ℕ, ◌+◌, ◌*◌, ◌/◌, ◌%◌, ◌<◌, ◌≤◌, List, [], ◌∷◌, ◌++◌, length, get_or, take, drop, set, sym, refl, ap, ◌∙◌, arith}
use Rattle.std.proofs.lemmas.List.{append_assoc, drop_more, set_at, length_push, take_more, length-take-le}
use Rattle.frames.specs.Check.{check}
use Rattle.frames.specs.Hex.{character, hex}
use Rattle.frames.specs.Reading.{with_check}
use Rattle.frames.specs.Writing.{hexed}
use Rattle.frames.proofs.ReadBack.{length_hex}

pub hex_push : (bs : List ℕ) (b : ℕ) → hex (bs ++ b ∷ []) ≡ hex bs ++ character (b / 16) ∷ character (b % 16) ∷ []
hex_push [] b = refl
hex_push (x ∷ bs) b = ap (λ (t : List ℕ). character (x / 16) ∷ character (x % 16) ∷ t) (hex_push bs b)

-- one byte more, behind those that are written
pub hexed_push : (bs old : List ℕ) (n b : ℕ) → length bs ≡ n → 2 * n + 1 < length old →
    hexed (hex bs ++ drop (2 * n) old) (2 * n) b ≡ hex (bs ++ b ∷ []) ++ drop (2 * (n + 1)) old
hexed_push bs old n b e h =
    let c : ℕ = character (b / 16) in
    let d : ℕ = character (b % 16) in
    let x : ℕ = get_or old (2 * n) 0 in
    let y : ℕ = get_or old (2 * n + 1) 0 in
    let size : length (hex bs) ≡ 2 * n = length_hex bs ∙ ap (λ (k : ℕ). 2 * k) e in
    let two : drop (2 * n) old ≡ x ∷ y ∷ drop (2 * n + 1 + 1) old =
    drop_more old (2 * n) 0 (omega arith) ∙ ap (λ (t : List ℕ). x ∷ t) (drop_more old (2 * n + 1) 0 h) in
    let later : 2 * n + 1 + 1 ≡ 2 * (n + 1) = omega arith in
    let rest : List ℕ = drop (2 * n + 1 + 1) old in
    ap (λ (t : List ℕ). hexed (hex bs ++ t) (2 * n) b) two
    ∙ ap (λ (t : List ℕ). set t (2 * n + 1) d) (set_at (hex bs) x (y ∷ rest) c (2 * n) size ∙ sym (append_assoc (hex bs) (c ∷ []) (y ∷ rest)))
    ∙ set_at (hex bs ++ c ∷ []) y rest d (2 * n + 1) (length_push (hex bs) c ∙ ap (λ (k : ℕ). k + 1) size)
    ∙ append_assoc (hex bs) (c ∷ []) (d ∷ rest)
    ∙ sym (append_assoc (hex bs) (c ∷ d ∷ []) rest)
    ∙ ap (λ (t : List ℕ). t ++ rest) (sym (hex_push bs b))
    ∙ ap (λ (k : ℕ). hex (bs ++ b ∷ []) ++ drop k old) later

pub hexed_more : (bs old : List ℕ) (i : ℕ) → i < length bs → 2 * length bs ≤ length old →
    hexed (hex (take i bs) ++ drop (2 * i) old) (2 * i) (get_or bs i 0) ≡ hex (take (i + 1) bs) ++ drop (2 * (i + 1)) old
hexed_more bs old i h k =
    hexed_push (take i bs) old i (get_or bs i 0) (length-take-le i bs (omega arith)) (omega arith)
    ∙ ap (λ (t : List ℕ). hex t ++ drop (2 * (i + 1)) old) (sym (take_more bs i 0 h))

-- a line of bytes and their check byte, in its length and as it stands in a buffer
pub length_line : (bs : List ℕ) → length (hex (with_check bs)) ≡ 2 * length bs + 2
length_line bs = omega (arith, length_hex (with_check bs), length_push bs (check bs))

pub line_stands : (bs old : List ℕ) → 2 * length bs + 1 < length old →
    hexed (hex bs ++ drop (2 * length bs) old) (2 * length bs) (check bs) ≡ hex (with_check bs) ++ drop (2 * length bs + 2) old
line_stands bs old h =
    let e : 2 * (length bs + 1) ≡ 2 * length bs + 2 = omega arith in
    hexed_push bs old (length bs) (check bs) refl h ∙ ap (λ (k : ℕ). hex (with_check bs) ++ drop k old) e
