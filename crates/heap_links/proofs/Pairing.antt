-- Links that are exchanged on both sides still point at each other.
use Rattle.std.proofs.Common.{◌≡◌, ℕ, ◌<◌, List, length, get_or, set, sym, ap, ◌∙◌, subst, ⊎_elim, arith}
use Rattle.std.proofs.lemmas.List.Edits.{swap_is, swapped_from_swap}
use Rattle.std.proofs.lemmas.Bool.{cases_eq}
use Rattle.heap_links.specs.Links.{Inverse, Paired, Swapped}

inverse_swapped : (n : ℕ) (a b a' b' : ℕ → ℕ) (p q : ℕ) → p < n → q < n → Inverse n a b → Swapped a a' p q → Swapped b b' (a p) (a q) → Inverse n a' b'
inverse_swapped n a b a' b' p q lp lq h s t = λ k l.
    ⊎_elim {C = (a' k < n) × (b' (a' k) ≡ k)}
    (λ e. let f : a' k ≡ a q = ap a' e ∙ s.here in (omega (arith, (h q lq).0), ap b' f ∙ t.there ∙ (h p lp).1 ∙ sym e))
    (λ u. ⊎_elim {C = (a' k < n) × (b' (a' k) ≡ k)}
    (λ e. let f : a' k ≡ a p = ap a' e ∙ s.there in (omega (arith, (h p lp).0), ap b' f ∙ t.here ∙ (h q lq).1 ∙ sym e))
    (λ v.
    let f : a' k ≡ a k = s.rest k u v in
    let back : (r : ℕ) → r < n → a k ≡ a r → k ≡ r = λ r lr e. sym (h k l).1 ∙ ap b e ∙ (h r lr).1 in
    (omega (arith, (h k l).0), ap b' f ∙ t.rest (a k) (λ e. u (back p lp e)) (λ e. v (back q lq e)) ∙ (h k l).1))
    (cases_eq k q))
    (cases_eq k p)

pub paired_swapped : (n : ℕ) (a b a' b' : ℕ → ℕ) (p q : ℕ) → p < n → q < n → Paired n a b → Swapped a a' p q → Swapped b b' (a p) (a q) → Paired n a' b'
paired_swapped n a b a' b' p q lp lq h s t = (
  inverse_swapped n a b a' b' p q lp lq h.0 s t,
  inverse_swapped n b a b' a' (a p) (a q) (h.0 p lp).0 (h.0 q lq).0 h.1 t
      (subst (λ r. Swapped a a' r (b (a q))) (sym (h.0 p lp).1) (subst (λ r. Swapped a a' p r) (sym (h.0 q lq).1) s)),
)

pub swapped_by_sets : (xs ys : List ℕ) (p q : ℕ) → p < length xs → q < length xs → ys ≡ set (set xs p (get_or xs q 0)) q (get_or xs p 0) → Swapped (λ k. get_or xs k 0) (λ k. get_or ys k 0) p q
swapped_by_sets xs ys p q lp lq e =
    let s = swapped_from_swap xs ys p q 0 lp lq (e ∙ swap_is xs p q 0 lp lq) in
    record { here = s.0; there = s.1; rest = s.2 }

flipped : {a b : ℕ → ℕ} {p q : ℕ} → Swapped a b p q → Swapped a b q p
flipped s = record { here = s.there; there = s.here; rest = λ k u v. s.rest k v u }

-- the two halves of the links after an exchange: the slots at p and q, and the places of these two slots
pub exchanged_links :
    (n : ℕ) (ss ss' ps ps' : List ℕ) (p q : ℕ) →
    let at : List ℕ → ℕ → ℕ = λ xs k. get_or xs k 0 in
    length ss ≡ n → length ps ≡ n → p < n → q < n → Paired n (at ss) (at ps) →
    ss' ≡ set (set ss p (at ss q)) q (at ss p) → ps' ≡ set (set ps (at ss q) p) (at ss p) q →
    Paired n (at ss') (at ps') × Swapped (at ss) (at ss') p q × Swapped (at ps) (at ps') (at ss p) (at ss q)
exchanged_links n ss ss' ps ps' p q la lp' lp lq h ea ep =
    let at : List ℕ → ℕ → ℕ = λ xs k. get_or xs k 0 in
    let s = swapped_by_sets ss ss' p q (omega arith) (omega arith) ea in
    let is : ps' ≡ set (set ps (at ss q) (at ps (at ss p))) (at ss p) (at ps (at ss q)) = let x = (h.0 p lp).1 in let y = (h.0 q lq).1 in cc in
    let t = flipped (swapped_by_sets ps ps' (at ss q) (at ss p) (omega (arith, (h.0 q lq).0)) (omega (arith, (h.0 p lp).0)) is) in
    (paired_swapped n (at ss) (at ps) (at ss') (at ps') p q lp lq h s t, s, t)
