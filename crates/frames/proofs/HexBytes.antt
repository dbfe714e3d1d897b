-- Bytes and their characters determine each other.
use Rattle.std.proofs.Common.{◌≡◌, ℕ, ◌+◌, ◌*◌, ◌/◌, ◌%◌, ◌<◌, List, [], ◌∷◌, Some, None, Option, sym, refl, ap, ◌∙◌, arith}
use Rattle.std.specs.List.{AllByRecursion}
use Rattle.frames.specs.Hex.{character, value, pair, before, hex, spelled}
use Rattle.frames.proofs.HexDigits.{value_character, value_found}

-- a list of numbers that each fit a byte
abbrev pub Bytes : List ℕ → Type 0
Bytes bs = AllByRecursion (λ b. b < 256) bs

pub spelled_hex : (bs : List ℕ) → Bytes bs → spelled (hex bs) ≡ Some bs
spelled_hex [] h = refl
spelled_hex (b ∷ bs) h =
    let high = value_character (b / 16) (omega (arith, h.0)) in
    let low = value_character (b % 16) (omega arith) in
    let rest = spelled_hex bs h.1 in
    let same : b / 16 * 16 + b % 16 ≡ b = omega arith in
    ap (λ (o : Option ℕ). before (pair o (value (character (b % 16)))) (spelled (hex bs))) high
    ∙ ap (λ (o : Option ℕ). before (pair (Some (b / 16)) o) (spelled (hex bs))) low
    ∙ ap (λ (o : Option (List ℕ)). before (Some (b / 16 * 16 + b % 16)) o) rest
    ∙ ap (λ (x : ℕ). Some (x ∷ bs)) same

-- the parts of a first byte and those after it
before_parts : (h l : Option ℕ) (o : Option (List ℕ)) (bs : List ℕ) → before (pair h l) o ≡ Some bs →
    (x : ℕ) × (y : ℕ) × (cs : List ℕ) × (h ≡ Some x) × (l ≡ Some y) × (o ≡ Some cs) × (bs ≡ (x * 16 + y) ∷ cs)
before_parts None l o bs p = absurd (let z : ◌≡◌ {A = ℕ} 0 1 = cc in omega arith)
before_parts (Some x) None o bs p = absurd (let z : ◌≡◌ {A = ℕ} 0 1 = cc in omega arith)
before_parts (Some x) (Some y) None bs p = absurd (let z : ◌≡◌ {A = ℕ} 0 1 = cc in omega arith)
before_parts (Some x) (Some y) (Some cs) bs p = (x, y, cs, refl, refl, refl, cc)

pub hex_spelled : (cs bs : List ℕ) → spelled cs ≡ Some bs → (cs ≡ hex bs) × Bytes bs
hex_spelled [] bs p = let e : bs ≡ [] = cc in rw e (refl, tt)
hex_spelled (c ∷ []) bs p = absurd (let z : ◌≡◌ {A = ℕ} 0 1 = cc in omega arith)
hex_spelled (c ∷ (d ∷ cs)) bs p =
    let q = before_parts (value c) (value d) (spelled cs) bs p in
    let high = value_found c q.0 q.3 in
    let low = value_found d q.1 q.4 in
    let rest = hex_spelled cs q.2 q.5 in
    let div : (q.0 * 16 + q.1) / 16 ≡ q.0 = omega (arith, high.1, low.1) in
    let rem : (q.0 * 16 + q.1) % 16 ≡ q.1 = omega (arith, high.1, low.1) in
    let cs_is : c ∷ (d ∷ cs) ≡ hex ((q.0 * 16 + q.1) ∷ q.2) =
    ap (λ (x : ℕ). x ∷ (d ∷ cs)) (high.0 ∙ ap character (sym div))
    ∙ ap (λ (x : ℕ). character ((q.0 * 16 + q.1) / 16) ∷ (x ∷ cs)) (low.0 ∙ ap character (sym rem))
    ∙ ap (λ (t : List ℕ). character ((q.0 * 16 + q.1) / 16) ∷ (character ((q.0 * 16 + q.1) % 16) ∷ t)) rest.0 in
    rw q.6 (cs_is, (omega (arith, high.1, low.1), rest.1))
