-- A frame is read by the kind that has its first byte.
use Rattle.std.proofs.Common.{◌≡◌, ℕ, ◌-◌, ◌<◌, List, [], ◌∷◌, length, get_or, take, drop, Some, None, Err, Option, sym, ap, ◌∙◌, arith}
use Rattle.std.proofs.lemmas.List.{take_rest}
use Rattle.std.proofs.lemmas.Bool.{cond-false, ne_eqb}
use Rattle.frames.specs.declared.faults.FrameFault.TheVariants.{UnknownKind}
use Rattle.frames.specs.Frame.{Kind, kinds, kind_of, asked, asked_as, frame_request}

first_and_rest : (bs : List ℕ) → 0 < get_or bs 0 0 → get_or bs 0 0 ∷ take (length bs - 1) (drop 1 bs) ≡ bs
first_and_rest [] h = absurd (omega arith)
first_and_rest (b ∷ bs) h = ap (λ (t : List ℕ). b ∷ t) (take_rest (b ∷ bs) 1)

pub by_kind : (bs : List ℕ) (b : ℕ) (k : Kind) → kind_of b kinds ≡ Some k → 0 < b → get_or bs 0 0 ≡ b →
    asked_as k (b ∷ take (length bs - 1) (drop 1 bs)) ≡ frame_request bs
unfolding frame_request
by_kind bs b k f h e =
    ap (asked_as k) (ap (λ (x : ℕ). x ∷ take (length bs - 1) (drop 1 bs)) (sym e) ∙ first_and_rest bs (omega arith))
    ∙ ap (λ (o : Option Kind). asked o bs) (sym (ap (λ (x : ℕ). kind_of x kinds) e ∙ f))

no_kind : (b : ℕ) → (b ≡ 1 → ⊥) → (b ≡ 2 → ⊥) → (b ≡ 3 → ⊥) → (b ≡ 4 → ⊥) → (b ≡ 5 → ⊥) → (b ≡ 6 → ⊥) → kind_of b kinds ≡ None
no_kind b h1 h2 h3 h4 h5 h6 =
    cond-false _ _ _ (ne_eqb b 1 h1) ∙ cond-false _ _ _ (ne_eqb b 2 h2) ∙ cond-false _ _ _ (ne_eqb b 3 h3)
    ∙ cond-false _ _ _ (ne_eqb b 4 h4) ∙ cond-false _ _ _ (ne_eqb b 5 h5) ∙ cond-false _ _ _ (ne_eqb b 6 h6)

pub unknown_kind : (bs : List ℕ) → ((b : ℕ) → 0 < b → b < 7 → get_or bs 0 0 ≡ b → ⊥) → Err UnknownKind ≡ frame_request bs
unfolding frame_request
unknown_kind bs h =
    let at : (b : ℕ) → 0 < b → b < 7 → get_or bs 0 0 ≡ b → ⊥ = h in
    sym (ap (λ (o : Option Kind). asked o bs)
    (no_kind (get_or bs 0 0) (at 1 (omega arith) (omega arith)) (at 2 (omega arith) (omega arith)) (at 3 (omega arith) (omega arith))
    (at 4 (omega arith) (omega arith)) (at 5 (omega arith) (omega arith)) (at 6 (omega arith) (omega arith))))
