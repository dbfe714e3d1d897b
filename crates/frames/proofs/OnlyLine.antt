-- A line that reads as a request is that request's line.
use Rattle.std.proofs.Common.{◌≡◌, ℕ, ◌+◌, ◌-◌, ◌<◌, Bool, true, false, cond, eqb, ltb, List, [], ◌∷◌, ◌++◌, length, get_or, take, Some, None, Ok, Err, Option, Result, sym, refl, ap, ◌∙◌, subst, ⊎_elim, zero-add, arith, lit<}
use Rattle.std.proofs.ByRecursion.{All-get_or}
use Rattle.std.proofs.lemmas.List.{get_or_past, take_more, take_all}
use Rattle.std.proofs.lemmas.Bool.{cases_Bool, cond-true, cond-false, eqb-true, cases_lt}
use Rattle.std.specs.List.{AllByRecursion}
use Rattle.frames.specs.declared.faults.LineFault.{LineFault}
use Rattle.frames.specs.declared.faults.LineFault.TheVariants.{TooLong, BadCount, BadCheck}
use Rattle.frames.specs.declared.faults.FrameFault.{FrameFault}
use Rattle.frames.specs.declared.faults.FrameFault.TheVariants.{WrongLength}
use Rattle.frames.specs.declared.request.Request.{Request}
use Rattle.frames.specs.Check.{check, checked}
use Rattle.frames.specs.Frame.{field, Kind, open_kind, arm_kind, cancel_kind, advance_kind, close_kind, purpose_kind, kinds, kind_of, asked, frame_request}
use Rattle.frames.specs.Hex.{hex, spelled}
use Rattle.frames.specs.Line.{counted, checked_bytes, line_bytes}
use Rattle.frames.specs.Reading.{big_endian, payload_of, with_check, line_of, line_answer, frame_answer, read_line}
use Rattle.frames.proofs.Fields.{listed, big_endian_field, listed_take}
use Rattle.frames.proofs.HexBytes.{Bytes, hex_spelled}

-- of a test between an error and a result that is no error, the second was taken
second : {A E : Type 0} (t : Bool) (e : E) (r : Result A E) (x : A) → cond t (Err e) r ≡ Ok x → r ≡ Ok x
second true e r x p = absurd (let z : ◌≡◌ {A = ℕ} 0 1 = cc in omega arith)
second false e r x p = p

first : {A E : Type 0} (t : Bool) (e : E) (a x : A) → cond t (Ok a) (Err e) ≡ Ok x → (t ≡ true) × (a ≡ x)
first true e a x p = (refl, cc)
first false e a x p = absurd (let z : ◌≡◌ {A = ℕ} 0 1 = cc in omega arith)

checked_parts : (o : Option (List ℕ)) (bs : List ℕ) → checked_bytes o ≡ Ok bs → (o ≡ Some bs) × (checked bs ≡ true)
checked_parts None bs p = absurd (let z : ◌≡◌ {A = ℕ} 0 1 = cc in omega arith)
checked_parts (Some cs) bs p = let q = first (checked cs) BadCheck cs bs p in (ap Some q.1, ap checked (sym q.1) ∙ q.0)

line_parts : (cs bs : List ℕ) → line_bytes cs ≡ Ok bs → (cs ≡ hex bs) × Bytes bs × (checked bs ≡ true)
unfolding line_bytes
line_parts cs bs p =
    let short = second (ltb 128 (length cs)) TooLong _ bs p in
    let even = second (counted (length cs)) BadCount _ bs short in
    let q = checked_parts (spelled cs) bs even in
    let h = hex_spelled cs bs q.0 in
    (h.0, h.1, q.1)

-- a kind whose requests have the payload that they were read from
abbrev Faithful : Kind → Type 0
Faithful k = (bs : List ℕ) → ((i : ℕ) → get_or bs i 0 < 256) → get_or bs 0 0 ≡ k.first → payload_of (k.asks bs) ≡ listed bs 0 (k.size - 1)

-- a field of one byte is that byte
one_byte : (bs : List ℕ) (i : ℕ) → field bs i 1 ≡ get_or bs (i + 0) 0
one_byte bs i = zero-add (get_or bs (i + 0) 0)

open_faithful : Faithful open_kind
open_faithful bs h e =
    ap (λ (k : ℕ). k ∷ field bs 1 1 ∷ field bs 2 1 ∷ big_endian 8 (field bs 3 8)) (sym e)
    ∙ ap (λ (x : ℕ). get_or bs 0 0 ∷ x ∷ field bs 2 1 ∷ big_endian 8 (field bs 3 8)) (one_byte bs 1)
    ∙ ap (λ (x : ℕ). get_or bs 0 0 ∷ get_or bs 1 0 ∷ x ∷ big_endian 8 (field bs 3 8)) (one_byte bs 2)
    ∙ ap (λ (t : List ℕ). get_or bs 0 0 ∷ get_or bs 1 0 ∷ get_or bs 2 0 ∷ t) (big_endian_field bs h 3 8)

arm_faithful : Faithful arm_kind
arm_faithful bs h e =
    ap (λ (k : ℕ). k ∷ big_endian 4 (field bs 1 4) ++ big_endian 8 (field bs 5 8) ++ big_endian 8 (field bs 13 8)) (sym e)
    ∙ ap (λ (t : List ℕ). get_or bs 0 0 ∷ t ++ big_endian 8 (field bs 5 8) ++ big_endian 8 (field bs 13 8)) (big_endian_field bs h 1 4)
    ∙ ap (λ (t : List ℕ). get_or bs 0 0 ∷ listed bs 1 4 ++ t ++ big_endian 8 (field bs 13 8)) (big_endian_field bs h 5 8)
    ∙ ap (λ (t : List ℕ). get_or bs 0 0 ∷ listed bs 1 4 ++ listed bs 5 8 ++ t) (big_endian_field bs h 13 8)

cancel_faithful : Faithful cancel_kind
cancel_faithful bs h e =
    ap (λ (k : ℕ). k ∷ big_endian 4 (field bs 1 4)) (sym e) ∙ ap (λ (t : List ℕ). get_or bs 0 0 ∷ t) (big_endian_field bs h 1 4)

advance_faithful : Faithful advance_kind
advance_faithful bs h e =
    ap (λ (k : ℕ). k ∷ big_endian 8 (field bs 1 8)) (sym e) ∙ ap (λ (t : List ℕ). get_or bs 0 0 ∷ t) (big_endian_field bs h 1 8)

close_faithful : Faithful close_kind
close_faithful bs h e = ap (λ (k : ℕ). k ∷ []) (sym e)

purpose_faithful : Faithful purpose_kind
purpose_faithful bs h e =
    ap (λ (k : ℕ). k ∷ big_endian 4 (field bs 1 4) ++ field bs 5 1 ∷ []) (sym e)
    ∙ ap (λ (t : List ℕ). get_or bs 0 0 ∷ t ++ field bs 5 1 ∷ []) (big_endian_field bs h 1 4)
    ∙ ap (λ (x : ℕ). get_or bs 0 0 ∷ listed bs 1 4 ++ x ∷ []) (one_byte bs 5)

faithful : AllByRecursion Faithful kinds
faithful = (open_faithful, (arm_faithful, (cancel_faithful, (advance_faithful, (close_faithful, (purpose_faithful, tt))))))

-- the kind that is found has the byte, and whatever holds of all kinds
found : (P : Kind → Type 0) (b : ℕ) (ks : List Kind) (k : Kind) → AllByRecursion P ks → kind_of b ks ≡ Some k → (b ≡ k.first) × P k
found P b [] k h p = absurd (let z : ◌≡◌ {A = ℕ} 0 1 = cc in omega arith)
found P b (x ∷ ks) k h p =
    ⊎_elim {C = (b ≡ k.first) × P k}
    (λ t. let e : x ≡ k = (let q : Some x ≡ Some k = sym (cond-true _ _ _ t) ∙ p in cc) in
    (eqb-true b x.first t ∙ ap (λ (y : Kind). y.first) e, subst P e h.0))
    (λ t. found P b ks k h.1 (sym (cond-false _ _ _ t) ∙ p))
    (cases_Bool (eqb b x.first))

asked_parts : (o : Option Kind) (bs : List ℕ) (r : Request) → asked o bs ≡ Ok r → (k : Kind) × (o ≡ Some k) × (length bs ≡ k.size) × (k.asks bs ≡ r)
asked_parts None bs r p = absurd (let z : ◌≡◌ {A = ℕ} 0 1 = cc in omega arith)
asked_parts (Some k) bs r p = let q = first (eqb (length bs) k.size) WrongLength (k.asks bs) r p in (k, refl, eqb-true _ _ q.0, q.1)

places_small : (bs : List ℕ) → Bytes bs → (i : ℕ) → get_or bs i 0 < 256
places_small bs h i = ⊎_elim {C = get_or bs i 0 < 256} (λ l. All-get_or (λ b. b < 256) bs i 0 l h) (λ l. let z = get_or_past bs i 0 l in omega arith) (cases_lt i (length bs))

-- no kind's frames are empty
some_bytes : AllByRecursion (λ k. 0 < k.size) kinds
some_bytes = (lit< tt, (lit< tt, (lit< tt, (lit< tt, (lit< tt, (lit< tt, tt))))))

-- a frame that is read is its request's payload with the check byte
frame_only : (bs : List ℕ) (r : Request) → Bytes bs → checked bs ≡ true → frame_request bs ≡ Ok r → bs ≡ with_check (payload_of r)
unfolding frame_request
frame_only bs r h c p =
    let q = asked_parts (kind_of (get_or bs 0 0) kinds) bs r p in
    let f = found Faithful (get_or bs 0 0) kinds q.0 faithful q.1 in
    let n : ℕ = length bs - 1 in
    let some : 0 < length bs = omega (arith, (found (λ k. 0 < k.size) (get_or bs 0 0) kinds q.0 some_bytes q.1).1, q.2) in
    let pay : payload_of r ≡ take n bs =
    ap payload_of (sym q.3) ∙ f.1 bs (places_small bs h) f.0
    ∙ ap (λ (m : ℕ). listed bs 0 (m - 1)) (sym q.2) ∙ listed_take bs n (omega arith) in
    let last : get_or bs n 0 ≡ check (take n bs) = eqb-true _ _ c in
    let whole : bs ≡ take n bs ++ get_or bs n 0 ∷ [] = sym (take_all (n + 1) bs (omega arith)) ∙ take_more bs n 0 (omega arith) in
    whole ∙ ap (λ (x : ℕ). take n bs ++ x ∷ []) last ∙ ap with_check (sym pay)

answer_parts : (x : Result Request FrameFault) (r : Request) → frame_answer x ≡ Ok r → x ≡ Ok r
answer_parts (Ok y) r p = cc
answer_parts (Err e) r p = absurd (let z : ◌≡◌ {A = ℕ} 0 1 = cc in omega arith)

line_answer_parts : (x : Result (List ℕ) LineFault) (r : Request) → line_answer x ≡ Ok r → (bs : List ℕ) × (x ≡ Ok bs) × (frame_request bs ≡ Ok r)
line_answer_parts (Ok bs) r p = (bs, refl, answer_parts (frame_request bs) r p)
line_answer_parts (Err e) r p = absurd (let z : ◌≡◌ {A = ℕ} 0 1 = cc in omega arith)

pub only_line : (cs : List ℕ) (r : Request) → read_line cs ≡ Ok r → cs ≡ line_of r
unfolding read_line line_of
only_line cs r p =
    let q = line_answer_parts (line_bytes cs) r p in
    let h = line_parts cs q.0 q.1 in
    h.0 ∙ ap hex (frame_only q.0 r h.1 h.2 q.2)
