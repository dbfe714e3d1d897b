-- The bytes that a line spells, found one after another.
use Rattle.std.proofs.Common.{◌≡◌, ℕ, zero, suc, ◌≤◌, subst, ◌+◌, ◌*◌, ◌<◌, List, [], ◌∷◌, ◌++◌, length, get_or, take, drop, set, Some, None, Ok, Err, Option, sym, refl, ap, ◌∙◌, arith}
use Rattle.std.specs.Option.{ok_or}
use Rattle.std.proofs.lemmas.List.{append_assoc, take_more_set, drop_more}
use Rattle.std.specs.Simd.{first_chunks}
use Rattle.frames.specs.Hex.{value, pair, before, spelled}

-- the bytes found so far, before those that are left, if they are there
abbrev pub after : List ℕ → Option (List ℕ) → Option (List ℕ)
after bs None = None
after bs (Some cs) = Some (bs ++ cs)

after_before : (bs : List ℕ) (b : ℕ) (o : Option (List ℕ)) → after bs (before (Some b) o) ≡ after (bs ++ (b ∷ [])) o
after_before bs b None = refl
after_before bs b (Some cs) = ap Some (sym (append_assoc bs (b ∷ []) cs))

-- two characters of the line, and what it spells from there on
pub two_left : (cs : List ℕ) (i : ℕ) → 2 * i + 1 < length cs →
    spelled (drop (2 * i) cs) ≡ before (pair (value (get_or cs (2 * i) 0)) (value (get_or cs (2 * i + 1) 0))) (spelled (drop (2 * (i + 1)) cs))
two_left cs i h =
    let a : drop (2 * i) cs ≡ get_or cs (2 * i) 0 ∷ drop (2 * i + 1) cs = drop_more cs (2 * i) 0 (omega arith) in
    let b : drop (2 * i + 1) cs ≡ get_or cs (2 * i + 1) 0 ∷ drop (2 * i + 1 + 1) cs = drop_more cs (2 * i + 1) 0 h in
    let n : 2 * i + 1 + 1 ≡ 2 * (i + 1) = omega arith in
    ap spelled (a ∙ ap (λ (t : List ℕ). get_or cs (2 * i) 0 ∷ t) (b ∙ ap (λ (k : ℕ). get_or cs (2 * i + 1) 0 ∷ drop k cs) n))

-- a chunk of two characters
chunk_at : (n i : ℕ) (cs d : List ℕ) → i < n → 2 * n ≤ length cs → get_or (first_chunks 2 n cs) i d ≡ get_or cs (2 * i) 0 ∷ get_or cs (2 * i + 1) 0 ∷ []
chunk_at zero i cs d h k = absurd (omega arith)
chunk_at (suc n) i [] d h k = absurd (omega arith)
chunk_at (suc n) i (a ∷ []) d h k = absurd (omega arith)
chunk_at (suc n) zero (a ∷ (b ∷ cs)) d h k = refl
chunk_at (suc n) (suc i) (a ∷ (b ∷ cs)) d h k =
    let e : 2 * suc i ≡ suc (suc (2 * i)) = omega arith in
    let f : 2 * suc i + 1 ≡ suc (suc (2 * i + 1)) = omega arith in
    chunk_at n i cs d (omega arith) (omega arith)
    ∙ ap (λ (j : ℕ). get_or (a ∷ b ∷ cs) j 0 ∷ get_or cs (2 * i + 1) 0 ∷ []) (sym e)
    ∙ ap (λ (j : ℕ). get_or (a ∷ b ∷ cs) (2 * suc i) 0 ∷ get_or (a ∷ b ∷ cs) j 0 ∷ []) (sym f)

-- the byte of a chunk is that of its two characters
pub pair_at : (n i : ℕ) (cs d : List ℕ) (pairs : List (List ℕ)) (o : Option ℕ) → pairs ≡ first_chunks 2 n cs → i < n → 2 * n ≤ length cs →
    pair (value (get_or (get_or pairs i d) 0 0)) (value (get_or (get_or pairs i d) 1 0)) ≡ o →
    pair (value (get_or cs (2 * i) 0)) (value (get_or cs (2 * i + 1) 0)) ≡ o
pair_at n i cs d pairs o e h k p =
    let q = ap (λ ps. get_or ps i d) e ∙ chunk_at n i cs d h k in
    subst (λ (c : List ℕ). pair (value (get_or c 0 0)) (value (get_or c 1 0)) ≡ o) q p

-- one byte more is found and stored
pub spelled_more : (cs bs : List ℕ) (i b : ℕ) → 2 * i + 1 < length cs → i < length bs →
    pair (value (get_or cs (2 * i) 0)) (value (get_or cs (2 * i + 1) 0)) ≡ Some b →
    after (take i bs) (spelled (drop (2 * i) cs)) ≡ spelled cs →
    after (take (i + 1) (set bs i b)) (spelled (drop (2 * (i + 1)) cs)) ≡ spelled cs
spelled_more cs bs i b h k p inv =
    let rest : Option (List ℕ) = spelled (drop (2 * (i + 1)) cs) in
    ap (λ (t : List ℕ). after t rest) (take_more_set bs i b k)
    ∙ sym (after_before (take i bs) b rest)
    ∙ ap (λ (o : Option ℕ). after (take i bs) (before o rest)) (sym p)
    ∙ ap (after (take i bs)) (sym (two_left cs i h))
    ∙ inv

-- two characters that are no byte: the line spells nothing
pub spelled_none : (cs bs : List ℕ) (i : ℕ) → 2 * i + 1 < length cs →
    pair (value (get_or cs (2 * i) 0)) (value (get_or cs (2 * i + 1) 0)) ≡ None →
    after (take i bs) (spelled (drop (2 * i) cs)) ≡ spelled cs →
    spelled cs ≡ None
spelled_none cs bs i h p inv =
    let rest : Option (List ℕ) = spelled (drop (2 * (i + 1)) cs) in
    sym inv ∙ ap (after (take i bs)) (two_left cs i h) ∙ ap (λ (o : Option ℕ). after (take i bs) (before o rest)) p

-- what `ok_or` tells of its option
pub some_from_ok : {A E : Type 0} (o : Option A) (e : E) (b : A) → Ok b ≡ ok_or o e → o ≡ Some b
some_from_ok None e b p = absurd (let z : ◌≡◌ {A = ℕ} 0 1 = cc in omega arith)
some_from_ok (Some a) e b p = cc

pub none_from_err : {A E : Type 0} (o : Option A) (e f : E) → Err f ≡ ok_or o e → (o ≡ None) × (f ≡ e)
none_from_err None e f p = (refl, cc)
none_from_err (Some a) e f p = absurd (let z : ◌≡◌ {A = ℕ} 0 1 = cc in omega arith)
