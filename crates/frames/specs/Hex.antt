-- Hexadecimal: the character of a digit, the digit of a character, and lists of bytes as characters.
-- Assumes nothing.
use Rattle.std.specs.Prelude.{ℕ, zero, suc, ◌+◌, ◌*◌, ◌/◌, ◌%◌, cond, List, [], ◌∷◌, Some, None, Option, ◌==◌, nat_lt}

-- the character of a digit below sixteen: '0' to '9', then 'A' to 'F'
abbrev pub character : ℕ → ℕ
character d = cond (nat_lt d 10) (48 + d) (55 + d)

-- the digit below n that has this character
abbrev pub digit_below : ℕ → ℕ → Option ℕ
digit_below zero c = None
digit_below (suc n) c = cond (c == character n) (Some n) (digit_below n c)

-- the number that a character stands for, if it is a digit's
unfoldable pub value : ℕ → Option ℕ
value c = digit_below 16 c

-- the characters of bytes, two for each
abbrev pub hex : List ℕ → List ℕ
hex [] = []
hex (b ∷ bs) = character (b / 16) ∷ character (b % 16) ∷ hex bs

-- the byte of two digits, if both are there
abbrev pub pair : Option ℕ → Option ℕ → Option ℕ
pair None low = None
pair (Some h) None = None
pair (Some h) (Some l) = Some (h * 16 + l)

-- a byte before others, if all are there
abbrev pub before : Option ℕ → Option (List ℕ) → Option (List ℕ)
before None bs = None
before (Some b) None = None
before (Some b) (Some bs) = Some (b ∷ bs)

-- the bytes that characters spell, two for each, if every character is a digit's
abbrev pub spelled : List ℕ → Option (List ℕ)
spelled [] = Some []
spelled (c ∷ []) = None
spelled (c ∷ (d ∷ cs)) = before (pair (value c) (value d)) (spelled cs)
