-- Which slots are pending after links have moved; a p is the slot at place p, b i the place of slot i.
use Rattle.std.proofs.Common.{◌≡◌, ℕ, ◌+◌, ◌<◌, ◌≤◌, ltb, sym, ap, ◌∙◌, ⊎_elim, arith}
use Rattle.std.proofs.lemmas.Bool.{cases_eq, cases_lt, lt-ltb, ltb-true, ltb_from_iff}
use Rattle.heap_links.specs.Links.{Paired, Swapped}

same_test : (x m y n : ℕ) → (x < m → y < n) → (y < n → x < m) → ltb x m ≡ ltb y n
same_test x m y n to from = ltb_from_iff (λ t. to (ltb-true x m t), λ l. lt-ltb x m (from l))

module _ (size : ℕ) (a b : ℕ → ℕ) (h : Paired size a b) where
  -- links that moved below n only
  pub marks_moved : (a' b' : ℕ → ℕ) (n : ℕ) → Paired size a' b' → ((k : ℕ) → n ≤ k → a' k ≡ a k) → (i : ℕ) → i < size → ltb (b' i) n ≡ ltb (b i) n
  marks_moved a' b' n h' rest i l = same_test (b' i) n (b i) n
      (λ t. ⊎_elim (λ k. k) (λ k.
      let e : b' i ≡ b i = ap b' (sym (rest (b i) k ∙ (h.1 i l).1)) ∙ (h'.0 (b i) (h.1 i l).0).1 in omega arith) (cases_lt (b i) n))
      (λ t. ⊎_elim (λ k. k) (λ k.
      let e : b i ≡ b' i = ap b (sym (sym (rest (b' i) k) ∙ (h'.1 i l).1)) ∙ (h.0 (b' i) (h'.1 i l).0).1 in omega arith) (cases_lt (b' i) n))

  -- the slots at p and q are exchanged
  module _ (b' : ℕ → ℕ) (p q : ℕ) (lp : p < size) (lq : q < size) (t : Swapped b b' (a p) (a q)) where
    pub comes_to : b' (a p) ≡ q
    comes_to = t.here ∙ (h.0 q lq).1

    at_q : (i : ℕ) → i < size → (i ≡ a q → ⊥) → b i ≡ q → ⊥
    at_q i l u e = u (sym (h.1 i l).1 ∙ ap a e)

    -- of a slot other than that at p: whether its place is below m after, if below n before
    others : (m n : ℕ) → ((x : ℕ) → (x ≡ q → ⊥) → (x < m → x < n) × (x < n → x < m)) → ((p ≡ q → ⊥) → (p < m → q < n) × (q < n → p < m)) →
        (i : ℕ) → i < size → (i ≡ a p → ⊥) → ltb (b' i) m ≡ ltb (b i) n
    others m n away moved i l u = ⊎_elim
        (λ e.
        let x : b' i ≡ p = ap b' e ∙ t.there ∙ (h.0 p lp).1 in
        let y : b i ≡ q = ap b e ∙ (h.0 q lq).1 in
        let f = moved (λ w. u (e ∙ ap a (sym w))) in
        same_test (b' i) m (b i) n (λ k. let g = f.0 (omega arith) in omega arith) (λ k. let g = f.1 (omega arith) in omega arith))
        (λ v.
        let x : b' i ≡ b i = t.rest i u v in
        let f = away (b i) (at_q i l v) in
        same_test (b' i) m (b i) n (λ k. f.0 (omega arith)) (λ k. let g = f.1 k in omega arith))
        (cases_eq i (a q))

    pub marks_entered : q ≤ p → (i : ℕ) → i < size → (i ≡ a p → ⊥) → ltb (b' i) (q + 1) ≡ ltb (b i) q
    marks_entered le = others (q + 1) q (λ x u. (λ l. omega arith, λ l. omega arith)) (λ u. (λ l. omega arith, λ l. omega arith))

    pub marks_left : p ≤ q → (i : ℕ) → i < size → (i ≡ a p → ⊥) → ltb (b' i) q ≡ ltb (b i) (q + 1)
    marks_left le = others q (q + 1) (λ x u. (λ l. omega arith, λ l. omega arith)) (λ u. (λ l. omega arith, λ l. omega arith))
