-- Lines of the report one after the other.
use Rattle.std.proofs.Common.{◌≡◌, ℕ, ◌+◌, ◌<◌, ◌≤◌, List, [], ◌∷◌, ◌++◌, map, length, get_or, take, drop, sym, refl, ap, ◌∙◌, subst, ap₂, arith}
use Rattle.std.proofs.lemmas.List.{append_assoc, length-append, length-take-le, flat_map_more, map-append, take_at, take_more}
use Rattle.std.proofs.lemmas.Slice.{drop-append-drop}
use Rattle.queue_rules.specs.declared.firing.Firing.{Firing}
use Rattle.runs.specs.Frames.{Frame, frame_payload, text, firing_frame}
use Rattle.runs.specs.declared.report.Report.{Report}
use Rattle.runs.specs.Report.{report_line, firing_payload, Placed}
use Rattle.runs.specs.Reports.{Extends}

-- what stands from a place on, and then what is written behind it
pub placed_next : (a b old mid new : List ℕ) (start at end : ℕ) → start ≤ length old → Placed a start old mid at → Placed b at mid new end → Placed (a ++ b) start old new end
placed_next a b old mid new start at end h p q =
    let head : List ℕ = take start old ++ a in
    let size : length head ≡ at =
    let n = length-append (take start old) a in let m = length-take-le start old h in let e = p.ends in omega arith in
    let is : mid ≡ head ++ drop at old = p.stands ∙ sym (append_assoc (take start old) a (drop at old)) in
    let front : take at mid ≡ head = ap (take at) is ∙ take_at head (drop at old) at size in
    let back : drop end mid ≡ drop end old = ap (drop end) is ∙ drop-append-drop at old head end (let e = q.ends in omega arith) size in
    record {
      ends = let e = q.ends in let f = p.ends in omega (arith, length-append a b);
      stands =
          q.stands ∙ ap₂ (λ (s t : List ℕ). s ++ (b ++ t)) front back ∙ append_assoc (take start old) a (b ++ drop end old)
          ∙ ap (λ (t : List ℕ). take start old ++ t) (sym (append_assoc a b (drop end old)));
    }

-- the same of a report
pub extends_next : (a b : List ℕ) (old mid new : Report) → Extends a old mid → Extends b mid new → Extends (a ++ b) old new
extends_next a b old mid new p q = record {
  same = q.same ∙ p.same;
  size = q.size ∙ p.size;
  placed = placed_next a b old.buffer.now mid.buffer.now new.buffer.now old.at mid.at new.at old.within p.placed q.placed;
}

-- a firing by equal numbers
pub payload_as : (n m m' w w' s s' h h' : ℕ) → m ≡ m' → w ≡ w' → s ≡ s' → h ≡ h' → firing_payload n m' w' s' h' ≡ firing_payload n m w s h
payload_as n m m' w w' s s' h h' a b c d =
    ap (λ (x : ℕ). firing_payload n x w' s' h') (sym a) ∙ ap (λ (x : ℕ). firing_payload n m x s' h') (sym b)
    ∙ ap (λ (x : ℕ). firing_payload n m w x h') (sym c) ∙ ap (λ (x : ℕ). firing_payload n m w s x) (sym d)

module _ {A : Type 0} (plain : A → ℕ) where
  abbrev pub line_of : Firing A → List ℕ
  line_of e = report_line (frame_payload (firing_frame plain e))

  abbrev pub lines_of : List (Firing A) → List ℕ
  lines_of es = text (map (firing_frame plain) es)

  pub line_size : (e : Firing A) → length (line_of e) ≡ 63
  line_size e = refl

  pub lines_more : (es : List (Firing A)) (i : ℕ) (e : Firing A) → i < length es → e ≡ get_or es i e → lines_of (take (i + 1) es) ≡ lines_of (take i es) ++ line_of e
  lines_more es i e h r =
      ap lines_of (take_more es i e h ∙ ap (λ x. take i es ++ x ∷ []) (sym r))
      ∙ ap text (map-append (firing_frame plain) (take i es) (e ∷ []))
      ∙ sym (flat_map_more (λ (f : Frame). report_line (frame_payload f)) [] (map (firing_frame plain) (take i es)) (firing_frame plain e))

  pub lines_next : (es : List (Firing A)) (i : ℕ) (e : Firing A) (old mid new : Report) → i < length es → e ≡ get_or es i e →
      Extends (lines_of (take i es)) old mid → Extends (line_of e) mid new → Extends (lines_of (take (i + 1) es)) old new
  lines_next es i e old mid new h r p q =
      subst (λ (l : List ℕ). Extends l old new) (sym (lines_more es i e h r)) (extends_next (lines_of (take i es)) (line_of e) old mid new p q)
