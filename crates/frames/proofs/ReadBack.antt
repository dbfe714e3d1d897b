-- A request's line reads as that request.
use Rattle.std.proofs.Common.{◌≡◌, ℕ, zero, suc, ◌+◌, ◌-◌, ◌*◌, ◌/◌, ◌%◌, ◌<◌, ◌≤◌, true, false, List, [], ◌∷◌, ◌++◌, length, get_or, take, Ok, sym, refl, ap, ◌∙◌, arith, lit≤}
use Rattle.std.proofs.lemmas.List.{length_push, get_or_push, take_at}
use Rattle.std.proofs.ByRecursion.{All-push, All-append}
use Rattle.std.proofs.lemmas.Bool.{eq-eqb}
use Rattle.std.proofs.lemmas.Bool.Decides.{nat_tests}
use Rattle.frames.specs.declared.request.Request.{Request}
use Rattle.frames.specs.declared.request.Request.TheVariants.{Open, Arm, Cancel, Advance, Close, ArmByPurpose}
use Rattle.frames.specs.Check.{check, checked}
use Rattle.frames.specs.Frame.{field, frame_request}
use Rattle.frames.specs.Hex.{hex}
use Rattle.frames.specs.Line.{counted, line_bytes}
use Rattle.frames.specs.Reading.{big_endian, payload_of, with_check, Sized, line_of, line_answer, frame_answer, read_line}
use Rattle.frames.proofs.Fields.{field_big_endian}
use Rattle.frames.proofs.HexBytes.{Bytes, spelled_hex}
use Rattle.frames.proofs.LineForm.{well_formed}

pub length_hex : (bs : List ℕ) → length (hex bs) ≡ 2 * length bs
length_hex [] = refl
length_hex (b ∷ bs) = let h = length_hex bs in omega arith

checked_with : (bs : List ℕ) → checked (with_check bs) ≡ true
checked_with bs =
    let n : length (with_check bs) - 1 ≡ length bs = omega (arith, length_push bs (check bs)) in
    eq-eqb _ _
    (ap (λ (k : ℕ). get_or (with_check bs) k 0) n
    ∙ get_or_push bs (check bs) 0 (length bs) refl
    ∙ ap check (sym (ap (λ (k : ℕ). take k (with_check bs)) n ∙ take_at bs (check bs ∷ []) (length bs) refl))
    )

-- bytes with their check byte are read back from their characters
pub line_bytes_hex : (bs : List ℕ) → Bytes bs → 1 ≤ length bs → length bs ≤ 63 → line_bytes (hex (with_check bs)) ≡ Ok (with_check bs)
line_bytes_hex bs h low high =
    let n : length (hex (with_check bs)) ≡ 2 * (length bs + 1) = length_hex (with_check bs) ∙ ap (λ (k : ℕ). 2 * k) (length_push bs (check bs)) in
    let t : counted (2 * (length bs + 1)) ≡ false = grind (arith, nat_tests) in
    well_formed (hex (with_check bs)) (with_check bs) (omega arith) (ap counted n ∙ t)
    (spelled_hex (with_check bs) (All-push (λ b. b < 256) bs (check bs) h (omega arith))) (checked_with bs)

pub bytes_big_endian : (n x : ℕ) → Bytes (big_endian n x)
bytes_big_endian zero x = tt
bytes_big_endian (suc n) x = All-push (λ b. b < 256) (big_endian n (x / 256)) (x % 256) (bytes_big_endian n (x / 256)) (omega arith)

bytes_payload : (r : Request) → Sized r → Bytes (payload_of r)
bytes_payload (Open kind device start) h = (omega arith, (h.0, (h.1, bytes_big_endian 8 start)))
bytes_payload (Arm number soft hard) h = (
  omega arith,
  All-append (λ b. b < 256) (big_endian 4 number ++ big_endian 8 soft) (big_endian 8 hard)
      (All-append (λ b. b < 256) (big_endian 4 number) (big_endian 8 soft) (bytes_big_endian 4 number) (bytes_big_endian 8 soft)) (bytes_big_endian 8 hard),
)
bytes_payload (Cancel number) h = (omega arith, bytes_big_endian 4 number)
bytes_payload (Advance to) h = (omega arith, bytes_big_endian 8 to)
bytes_payload Close h = (omega arith, tt)
bytes_payload (ArmByPurpose number purpose) h = (omega arith, All-push (λ b. b < 256) (big_endian 4 number) purpose (bytes_big_endian 4 number) h.1)

frame_back : (r : Request) → Sized r → frame_request (with_check (payload_of r)) ≡ Ok r
unfolding frame_request
frame_back (Open kind device start) h =
    let bs : List ℕ = with_check (payload_of (Open kind device start)) in
    let a : field bs 1 1 ≡ kind = omega arith in
    let b : field bs 2 1 ≡ device = omega arith in
    let c : field bs 3 8 ≡ start = field_big_endian bs 3 8 start h.2 refl in
    cc
frame_back (Arm number soft hard) h =
    let bs : List ℕ = with_check (payload_of (Arm number soft hard)) in
    let a : field bs 1 4 ≡ number = field_big_endian bs 1 4 number h.0 refl in
    let b : field bs 5 8 ≡ soft = field_big_endian bs 5 8 soft h.1 refl in
    let c : field bs 13 8 ≡ hard = field_big_endian bs 13 8 hard h.2 refl in
    cc
frame_back (Cancel number) h =
    let bs : List ℕ = with_check (payload_of (Cancel number)) in
    let a : field bs 1 4 ≡ number = field_big_endian bs 1 4 number h refl in
    cc
frame_back (Advance to) h =
    let bs : List ℕ = with_check (payload_of (Advance to)) in
    let a : field bs 1 8 ≡ to = field_big_endian bs 1 8 to h refl in
    cc
frame_back Close h = refl
frame_back (ArmByPurpose number purpose) h =
    let bs : List ℕ = with_check (payload_of (ArmByPurpose number purpose)) in
    let a : field bs 1 4 ≡ number = field_big_endian bs 1 4 number h.0 refl in
    let b : field bs 5 1 ≡ purpose = omega arith in
    cc

payload_length : (r : Request) → (1 ≤ length (payload_of r)) × (length (payload_of r) ≤ 63)
payload_length (Open kind device start) = (lit≤ tt, lit≤ tt)
payload_length (Arm number soft hard) = (lit≤ tt, lit≤ tt)
payload_length (Cancel number) = (lit≤ tt, lit≤ tt)
payload_length (Advance to) = (lit≤ tt, lit≤ tt)
payload_length Close = (lit≤ tt, lit≤ tt)
payload_length (ArmByPurpose number purpose) = (lit≤ tt, lit≤ tt)

pub read_back : (r : Request) → Sized r → read_line (line_of r) ≡ Ok r
unfolding read_line line_of
read_back r h =
    let n = payload_length r in
    ap line_answer (line_bytes_hex (payload_of r) (bytes_payload r h) n.0 n.1) ∙ ap frame_answer (frame_back r h)
