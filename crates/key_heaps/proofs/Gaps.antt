-- A heap with a gap: how an exchange moves it, and when it is closed.
use Rattle.std.proofs.Common.{◌≡◌, ℕ, ◌+◌, ◌<◌, ◌≤◌, Bool, true, false, refl, ap, ◌∙◌, subst, ⊎_elim, arith}
use Rattle.std.proofs.lemmas.Bool.{cases_eq}
use Rattle.key_heaps.specs.HeapOrder.{Child, Ordered, Gap, Under, Over}
use Rattle.heap_links.specs.Links.{Swapped}
use Rattle.key_heaps.proofs.Orders.{Ranks}

module _ (lt : ℕ → ℕ → Bool) where
  pub by : {i j x y : ℕ} → i ≡ x → j ≡ y → lt x y ≡ false → lt i j ≡ false
  by p q h = (λ k. lt (p k) (q k)) ∙ h

  pub closes : (a : ℕ → ℕ) (j n : ℕ) → Gap lt a j n → Under lt a j n → Over lt a j → Ordered lt a n
  closes a j n g u o = λ p k ch l. ⊎_elim
      (λ e. by refl (ap a e) (u k (subst (λ x. Child x k) e ch) l))
      (λ v. ⊎_elim (λ e. by (ap a e) refl (o p (subst (λ x. Child p x) e ch))) (λ w. g.away p k ch l v w) (cases_eq k j))
      (cases_eq p j)

  -- j is a child of p, and their slots are exchanged
  module _ (r : Ranks lt) (a b : ℕ → ℕ) (p j n : ℕ) (ch : Child p j) (in' : j < n) (s : Swapped a b p j) (t : lt (a j) (a p) ≡ true) where
    pub rises : Gap lt a j n → Gap lt b p n × Under lt b p n
    rises g = (
      record {
        away = λ q k c l u v. ⊎_elim
            (λ e. by (s.rest k v (omega arith)) (ap b e ∙ s.there) (g.past p k ch (subst (λ x. Child x k) e c) l))
            (λ w. let z : k ≡ j → ⊥ = omega arith in by (s.rest k v z) (s.rest q u w) (g.away q k c l w z))
            (cases_eq q j);
        past = λ q k c d l.
            let over = g.away q p c (omega arith) (omega arith) (omega arith) in
            let same = s.rest q (omega arith) (omega arith) in
            ⊎_elim
            (λ e. by (ap b e ∙ s.there) same over)
            (λ w. by (s.rest k (omega arith) w) same (r.chain _ _ _ (g.away p k d l (omega arith) w) over))
            (cases_eq k j);
      },
      λ k c l. ⊎_elim
          (λ e. by (ap b e ∙ s.there) s.here (r.one_way _ _ t))
          (λ w. by (s.rest k (omega arith) w) s.here (r.chain _ _ _ (g.away p k c l (omega arith) w) (r.one_way _ _ t)))
          (cases_eq k j),
    )

    pub sinks : ((k : ℕ) → Child p k → k < n → lt (a k) (a j) ≡ false) → Gap lt a p n → Gap lt b j n × Over lt b j
    sinks best g = (
      record {
        away = λ q k c l u v. ⊎_elim
            (λ e. by (s.rest k (omega arith) v) (ap b e ∙ s.here) (best k (subst (λ x. Child x k) e c) l))
            (λ w. ⊎_elim
            (λ e. by (ap b e ∙ s.here) (s.rest q w u) (g.past q j (subst (λ x. Child q x) e c) ch in'))
            (λ z. by (s.rest k z v) (s.rest q w u) (g.away q k c l w z))
            (cases_eq k p))
            (cases_eq q p);
        past = λ q k c d l.
            let e : q ≡ p = omega arith in
            by (s.rest k (omega arith) (omega arith)) (ap b e ∙ s.here) (g.away j k d l (omega arith) (omega arith));
      },
      λ q c. let e : q ≡ p = omega arith in by s.there (ap b e ∙ s.here) (r.one_way _ _ t),
    )

  -- the slot at p is exchanged for the one at n, to enter or to leave the first places
  module _ (a b : ℕ → ℕ) (p n : ℕ) (s : Swapped a b p n) where
    as_before : (k : ℕ) → k < n → (k ≡ p → ⊥) → b k ≡ a k
    as_before k l u = s.rest k u (omega arith)

    pub enters : n ≤ p → Ordered lt a n → Gap lt b n (n + 1) × Under lt b n (n + 1)
    enters le h = (
      record {
        away = λ q k c l u v. by (as_before k (omega arith) (omega arith)) (as_before q (omega arith) (omega arith)) (h q k c (omega arith));
        past = λ q k c d l. absurd (omega arith);
      },
      λ k c l. absurd (omega arith),
    )

    pub leaves : Ranks lt → p ≤ n → Ordered lt a (n + 1) → Gap lt b p n
    leaves r le h = record {
      away = λ q k c l u v. by (as_before k l v) (as_before q (omega arith) u) (h q k c (omega arith));
      past = λ q k c d l.
          by (as_before k l (omega arith)) (as_before q (omega arith) (omega arith)) (r.chain _ _ _ (h p k d (omega arith)) (h q p c (omega arith)));
    }

    pub leaves_last : n ≤ p → Ordered lt a (n + 1) → Ordered lt b n
    leaves_last le h = λ q k c l. by (as_before k l (omega arith)) (as_before q (omega arith) (omega arith)) (h q k c (omega arith))
