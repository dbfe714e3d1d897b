-- A request whose payload is written as a line: that line stands in the buffer, and reads as the request.
use Rattle.std.proofs.Common.{◌≡◌, ℕ, ◌/◌, ◌%◌, List, [], ◌∷◌, take, drop, IfOk, Ok, Err, Result, sym, ap, ◌∙◌, subst, arith}
use Rattle.std.proofs.lemmas.List.{take_at}
use Rattle.frames.specs.declared.faults.WriteFault.{WriteFault}
use Rattle.frames.specs.declared.request.Request.{Request}
use Rattle.frames.specs.Hex.{hex}
use Rattle.frames.specs.Reading.{big_endian, Sized, payload_of, with_check, line_of, read_line}
use Rattle.frames.specs.Writing.{Wrote, Written}
use Rattle.frames.proofs.Fields.{listed}
use Rattle.frames.proofs.ReadBack.{read_back}

line_reads : (r : Request) (line old new : List ℕ) (res : Result ℕ WriteFault) → read_line line ≡ Ok r → Wrote line old new res →
    IfOk res (λ n. read_line (take n new) ≡ Ok r)
line_reads r line old new (Ok n) h w = ap (λ (t : List ℕ). read_line (take n t)) w.2 ∙ ap read_line (take_at line (drop n old) n (sym w.0)) ∙ h
line_reads r line old new (Err e) h w = tt

pub written : (r : Request) (bytes old new : List ℕ) (res : Result ℕ WriteFault) → Sized r → payload_of r ≡ bytes →
    Wrote (hex (with_check bytes)) old new res → Written r old new res
unfolding line_of
written r bytes old new res s e w =
    let l : Wrote (line_of r) old new res = subst (λ (bs : List ℕ). Wrote (hex (with_check bs)) old new res) (sym e) w in
    record { line = l; back = line_reads r (line_of r) old new res (read_back r s) l }

-- big_endian bytes, as the elements of an array that holds them
pub four_bytes : (x : ℕ) (r : List ℕ) → r ≡ (x / 16777216 % 256) ∷ (x / 65536 % 256) ∷ (x / 256 % 256) ∷ (x % 256) ∷ [] →
    big_endian 4 x ≡ listed r 0 4
four_bytes x r p =
    let a : x / 256 / 256 / 256 ≡ x / 16777216 = omega arith in
    let b : x / 256 / 256 ≡ x / 65536 = omega arith in
    let e : big_endian 4 x ≡ (x / 16777216 % 256) ∷ (x / 65536 % 256) ∷ (x / 256 % 256) ∷ (x % 256) ∷ [] = cc in
    e ∙ ap (λ (t : List ℕ). listed t 0 4) (sym p)

-- eight big_endian bytes by their quotients
abbrev eight : ℕ → List ℕ
eight x =
    (x / 72057594037927936 % 256) ∷ (x / 281474976710656 % 256) ∷ (x / 1099511627776 % 256) ∷ (x / 4294967296 % 256)
    ∷ (x / 16777216 % 256) ∷ (x / 65536 % 256) ∷ (x / 256 % 256) ∷ (x % 256) ∷ []

big_endian_eight : (x : ℕ) → big_endian 8 x ≡ eight x
big_endian_eight x =
    let a : x / 256 / 256 / 256 / 256 ≡ x / 4294967296 = omega arith in
    let b : x / 4294967296 / 256 / 256 / 256 ≡ x / 72057594037927936 = omega arith in
    let c : x / 4294967296 / 256 / 256 ≡ x / 281474976710656 = omega arith in
    let d : x / 4294967296 / 256 ≡ x / 1099511627776 = omega arith in
    let f : x / 256 / 256 / 256 ≡ x / 16777216 = omega arith in
    let g : x / 256 / 256 ≡ x / 65536 = omega arith in
    cc

pub eight_bytes : (x : ℕ) (r : List ℕ) → r ≡ eight x → big_endian 8 x ≡ listed r 0 8
eight_bytes x r p = big_endian_eight x ∙ ap (λ (t : List ℕ). listed t 0 8) (sym p)

pub hex_eight : (x : ℕ) (r : List ℕ) → r ≡ eight x → hex r ≡ hex (big_endian 8 x)
hex_eight x r p = ap hex (p ∙ sym (big_endian_eight x))
