-- A line grows byte by byte, and ends at a line feed.
use Rattle.std.proofs.Common.{◌≡◌, ℕ, zero, suc, ◌+◌, ◌-◌, ◌<◌, ◌≤◌, ◌==◌, min, nat_lt, Bool, true, false, cond, List, [], ◌∷◌, ◌++◌, length, take, Some, None, Option, is_some, IfSome, unwrap_or, sym, refl, ap, ◌∙◌, arith}
use borrow.Rule.Slice.PartMut.{put_mid}
use Rattle.std.proofs.Math.Seq.{take-append-add}
use Rattle.std.specs.List.{position, position_or_len}
use Rattle.std.proofs.lemmas.List.Recursion.{is_position_or_len}
use Rattle.std.proofs.lemmas.Slice.{take-put_mid}
use Rattle.std.proofs.lemmas.List.{take_min, length-take, length-take-le}
use Rattle.std.proofs.lemmas.Bool.Decides.{nat_tests}
use Rattle.lines.specs.declared.line.Line.{Line}
use Rattle.lines.specs.Lines.{keeping, feeds, before_feed, kept}

-- cutting a front first makes no difference
pub take_front : {A : Type 0} (n : ℕ) (xs ys : List A) → take n (take n xs ++ ys) ≡ take n (xs ++ ys)
take_front zero xs ys = refl
take_front (suc n) [] ys = refl
take_front (suc n) (x ∷ xs) ys = ap (λ t. x ∷ t) (take_front n xs ys)

-- more bytes behind those of a line, as many as there is room for
pub keeps : (bs more new : List ℕ) (len count : ℕ) → length bs ≡ 129 → len ≤ 129 → count ≡ min (length more) (129 - len) → new ≡ take count more →
    take (len + count) (put_mid len (len + count - len) bs new) ≡ keeping (take len bs ++ more)
keeps bs more new len count b l c e =
    let xs : List ℕ = take len bs in
    let n : length xs + (129 - len) ≡ 129 = omega (arith, length-take-le len bs (omega arith)) in
    let m : length new ≡ count = ap length e ∙ length-take-le count more (omega arith) in
    let room : count ≡ min (129 - len) (length more) = omega arith in
    take-put_mid len (len + count - len) bs new (len + count) (omega arith) (omega arith)
    ∙ ap (λ (t : List ℕ). xs ++ t) (e ∙ ap (λ (k : ℕ). take k more) room ∙ take_min (129 - len) more)
    ∙ sym (take-append-add xs more (129 - len))
    ∙ ap (λ (k : ℕ). take k (xs ++ more)) n

pub kept_few : (l : Line) → length (kept l) ≤ 129
kept_few l = simp length-take (omega (arith, l.within))

-- the bytes before the first feed stand at the front
pub before_front : (bs : List ℕ) → before_feed bs ≡ take (length (before_feed bs)) bs
before_front [] = refl
before_front (b ∷ bs) =
    let more = ap (λ (t : List ℕ). b ∷ t) (before_front bs) in
    elim (b == 10) as (λ t. cond t [] (b ∷ before_feed bs) ≡ take (length (cond t [] (b ∷ before_feed bs))) (b ∷ bs)) [ true ↦ refl | false ↦ more ]

starts : (n : ℕ) → true ≡ nat_lt 0 (suc n)
starts n = grind (arith, nat_tests)

shifted : (m n : ℕ) → nat_lt m n ≡ nat_lt (suc m) (suc n)
shifted m n = grind (arith, nat_tests)

-- there is a feed if the bytes before the first are not all
feeds_short : (bs : List ℕ) → feeds bs ≡ nat_lt (length (before_feed bs)) (length bs)
feeds_short [] = refl
feeds_short (b ∷ bs) =
    let more = feeds_short bs ∙ shifted _ _ in
    elim (b == 10) as (λ t. cond t true (feeds bs) ≡ nat_lt (length (cond t [] (b ∷ before_feed bs))) (suc (length bs))) [
      | true ↦ starts (length bs)
      | false ↦ more
    ]

-- the first feed is the first byte that passes the test
pub first_of : (bs : List ℕ) → length (before_feed bs) ≡ position_or_len (λ b. b == 10) bs
first_of = is_position_or_len (λ bs. length (before_feed bs)) (λ b. b == 10) refl
    (λ b bs. elim (b == 10) as (λ t. length (cond t [] (b ∷ before_feed bs)) ≡ cond t 0 (1 + length (before_feed bs))) [ true ↦ refl | false ↦ omega arith ])

some_if : (t : Bool) (n : ℕ) → is_some (cond t (Some n) None) ≡ t
some_if true n = refl
some_if false n = refl

pub feeds_at : (bs : List ℕ) (r : Option ℕ) → r ≡ position (λ b. b == 10) bs → feeds bs ≡ is_some r
feeds_at bs r e = feeds_short bs ∙ ap (λ n. nat_lt n (length bs)) (first_of bs) ∙ sym (ap is_some e ∙ some_if _ _)

some_or : (q n : ℕ) → q ≤ n → unwrap_or (cond (nat_lt q n) (Some q) None) n ≡ q
some_or q n h = grind (arith, nat_tests)

pub feed_at : (bs : List ℕ) (r : Option ℕ) → r ≡ position (λ b. b == 10) bs → unwrap_or r (length bs) ≡ length (before_feed bs)
feed_at bs r e =
    let few : length (before_feed bs) ≤ length bs = omega (arith, ap length (before_front bs), length-take (length (before_feed bs)) bs) in
    ap (λ o. unwrap_or o (length bs)) e ∙ some_or _ _ (omega (arith, first_of bs)) ∙ sym (first_of bs)

within_if : (q n : ℕ) → IfSome (cond (nat_lt q n) (Some q) None) (λ i. i < n)
within_if q n = grind (arith, nat_tests)

pub first_within : (bs : List ℕ) (r : Option ℕ) → r ≡ position (λ b. b == 10) bs → IfSome r (λ i. i < length bs)
first_within bs r e = rw e (within_if _ _)
