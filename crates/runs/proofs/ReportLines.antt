-- A line of the report in its place: the frame, then the line feed, and all else as it was.
use Rattle.std.proofs.Common.{◌≡◌, ℕ, ◌+◌, ◌-◌, ◌*◌, ◌/◌, ◌%◌, ◌<◌, ◌≤◌, List, [], ◌∷◌, ◌++◌, length, get_or, take, drop, set, Ok, Err, Result, sym, ap, ◌∙◌, subst, arith}
use borrow.Rule.Slice.PartMut.{put_mid}
use Rattle.std.proofs.lemmas.List.{append_assoc, append-nil, length-append, length-drop, length_push, length-take-le, drop_all, drop-drop, drop_more, set_at}
use Rattle.frames.specs.declared.faults.WriteFault.{WriteFault}
use Rattle.frames.specs.declared.faults.WriteFault.TheVariants.{ShortBuffer}
use Rattle.frames.specs.Hex.{hex}
use Rattle.frames.specs.Reading.{big_endian, with_check}
use Rattle.frames.specs.Writing.{Wrote}
use Rattle.frames.proofs.Fields.{listed}
use Rattle.frames.proofs.HexWrites.{length_line}
use Rattle.runs.specs.declared.report.Report.{Report}
use Rattle.runs.specs.Report.{report_line, Placed}
use Rattle.runs.specs.Reports.{Extends}

-- a frame written from a place to the end of the buffer, and a line feed behind it
fed : (old line : List ℕ) (at end : ℕ) → at + length line ≡ end → end < length old →
    set (take at old ++ (line ++ drop end old)) end 10 ≡ take at old ++ ((line ++ 10 ∷ []) ++ drop (end + 1) old)
fed old line at end e h =
    let b : ℕ = get_or old end 0 in
    let rest : List ℕ = drop (end + 1) old in
    let front : List ℕ = take at old ++ line in
    let size : length front ≡ end = length-append (take at old) line ∙ ap (λ (n : ℕ). n + length line) (length-take-le at old (omega arith)) ∙ e in
    ap (λ (t : List ℕ). set (take at old ++ (line ++ t)) end 10) (drop_more old end 0 h)
    ∙ ap (λ (t : List ℕ). set t end 10) (sym (append_assoc (take at old) line (b ∷ rest)))
    ∙ set_at front b rest 10 end size
    ∙ append_assoc (take at old) line (10 ∷ rest)
    ∙ ap (λ (t : List ℕ). take at old ++ t) (sym (append_assoc line (10 ∷ []) rest))

pub placed : (payload old part new : List ℕ) (at : ℕ) (r : Result ℕ WriteFault) → at + (2 * length payload + 3) ≤ length old → part ≡ drop at old →
    Wrote (hex (with_check payload)) part new r →
    Placed (report_line payload) at old (set (put_mid at (length old - at) old new) (at + 2 * length payload + 2) 10) (at + 2 * length payload + 2 + 1)
placed payload old part new at (Err ShortBuffer) h e w =
    let n = length_line payload in
    let l : length part ≡ length old - at = ap length e ∙ length-drop at old in
    absurd (omega (arith, n, l, w.0))
placed payload old part new at (Ok k) h e w =
    let line : List ℕ = hex (with_check payload) in
    let n : length line ≡ 2 * length payload + 2 = length_line payload in
    let end : ℕ = at + 2 * length payload + 2 in
    let k_is : k ≡ 2 * length payload + 2 = w.0 ∙ n in
    let left : drop k part ≡ drop end old =
    ap (drop k) e ∙ drop-drop k at old ∙ ap (λ (m : ℕ). drop m old) (omega arith) in
    let none : drop (length old - at) (drop at old) ≡ [] = drop_all (length old - at) (drop at old) (omega (arith, length-drop at old)) in
    let mid : put_mid at (length old - at) old new ≡ take at old ++ (line ++ drop end old) =
    ap (λ (t : List ℕ). take at old ++ (new ++ t)) none
    ∙ ap (λ (t : List ℕ). take at old ++ t) (append-nil new ∙ w.2 ∙ ap (λ (t : List ℕ). line ++ t) left) in
    record {
      ends = omega (arith, length_push line 10, n);
      stands = ap (λ (t : List ℕ). set t end 10) mid ∙ fed old line at end (omega arith) (omega arith);
    }

-- the same of an equal payload
pub extends_as : (p q : List ℕ) {old new : Report} → p ≡ q → Extends (report_line q) old new → Extends (report_line p) old new
extends_as p q {old} {new} e h = subst (λ (t : List ℕ). Extends (report_line t) old new) (sym e) h

-- two big_endian bytes, as the elements of an array that holds them
pub two_bytes : (x : ℕ) (r : List ℕ) → r ≡ (x / 256 % 256) ∷ (x % 256) ∷ [] → big_endian 2 x ≡ listed r 0 2
two_bytes x r p = ap (λ (t : List ℕ). listed t 0 2) (sym p)
