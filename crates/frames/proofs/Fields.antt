-- A number and its big_endian bytes determine each other.
use Rattle.std.proofs.Common.{◌≡◌, ℕ, zero, suc, ◌+◌, ◌*◌, ◌/◌, ◌%◌, ◌^◌, ◌<◌, ◌≤◌, List, [], ◌∷◌, ◌++◌, length, get_or, take, sym, refl, ap, ◌∙◌, add-zero, add-suc, suc-add, pow-suc, zero-add, add-one, arith}
use Rattle.std.proofs.lemmas.List.{same_from_push, take_more}
use Rattle.frames.specs.Frame.{field}
use Rattle.frames.specs.Reading.{big_endian}

-- n elements of a list from place i on
abbrev pub listed : List ℕ → ℕ → ℕ → List ℕ
listed bs i zero = []
listed bs i (suc n) = get_or bs i 0 ∷ listed bs (suc i) n

listed_push : (bs : List ℕ) (i n : ℕ) → listed bs i (suc n) ≡ listed bs i n ++ get_or bs (i + n) 0 ∷ []
listed_push bs i zero = ap (λ (k : ℕ). get_or bs k 0 ∷ []) (sym (add-zero i))
listed_push bs i (suc n) =
    ap (λ (t : List ℕ). get_or bs i 0 ∷ t) (listed_push bs (suc i) n ∙ ap (λ (k : ℕ). listed bs (suc i) n ++ get_or bs k 0 ∷ []) (suc-add i n ∙ sym (add-suc i n)))

pub big_endian_field : (bs : List ℕ) → ((k : ℕ) → get_or bs k 0 < 256) → (i n : ℕ) → big_endian n (field bs i n) ≡ listed bs i n
big_endian_field bs h i zero = refl
big_endian_field bs h i (suc n) =
    let b = h (i + n) in
    let div : (field bs i n * 256 + get_or bs (i + n) 0) / 256 ≡ field bs i n = omega arith in
    let rem : (field bs i n * 256 + get_or bs (i + n) 0) % 256 ≡ get_or bs (i + n) 0 = omega arith in
    ap (λ (x : ℕ). big_endian n x ++ ((field bs i n * 256 + get_or bs (i + n) 0) % 256) ∷ []) div
    ∙ ap (λ (x : ℕ). big_endian n (field bs i n) ++ x ∷ []) rem
    ∙ ap (λ (t : List ℕ). t ++ get_or bs (i + n) 0 ∷ []) (big_endian_field bs h i n)
    ∙ sym (listed_push bs i n)

pub field_big_endian : (bs : List ℕ) (i n x : ℕ) → x < 256 ^ n → listed bs i n ≡ big_endian n x → field bs i n ≡ x
field_big_endian bs i zero x h e = omega arith
field_big_endian bs i (suc n) x h e =
    let p = same_from_push (listed bs i n) (big_endian n (x / 256)) (get_or bs (i + n) 0) (x % 256) (sym (listed_push bs i n) ∙ e) in
    let small : x / 256 < 256 ^ n = omega (arith, pow-suc 256 n) in
    let q : field bs i n ≡ x / 256 = field_big_endian bs i n (x / 256) small p.0 in
    omega (arith, p.1, q)

-- a list by its places
pub listed_take : (bs : List ℕ) (n : ℕ) → n ≤ length bs → listed bs 0 n ≡ take n bs
listed_take bs zero h = refl
listed_take bs (suc n) h =
    listed_push bs 0 n
    ∙ ap (λ (k : ℕ). listed bs 0 n ++ get_or bs k 0 ∷ []) (zero-add n)
    ∙ ap (λ (t : List ℕ). t ++ get_or bs n 0 ∷ []) (listed_take bs n (omega arith))
    ∙ sym (take_more bs n 0 (omega arith))
    ∙ ap (λ (k : ℕ). take k bs) (add-one n)
