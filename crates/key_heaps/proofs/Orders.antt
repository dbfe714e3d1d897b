-- A heap's order of slots, from the laws of the order of times.
use Rattle.std.proofs.Common.{◌≡◌, ◌≤◌, Bool, true, false, not, ◌&&◌, ◌||◌, ltb, List, Some, None, Option, sym, refl, ◌∙◌, subst, ⊎_elim, arith}
use Rattle.std.specs.List.{slice_get}
use Rattle.std.proofs.lemmas.Bool.{cases_Bool, both_ways, ltb-true, ltb-false, le-ltb, or_parts, or_from, or_right, or_cases, and_cases, and_parts, and_left, and_right, not-true, not-false, not_from_true}
use Rattle.times.specs.Order.{StrictOrder}
use Rattle.heap_links.specs.declared.timer.Timer.{Timer}
use Rattle.key_heaps.specs.Sooner.{ahead, sooner, precedes}

-- lt is a test by which any two compare
pub record Ranks {X : Type 0} (lt : X → X → Bool) : Type 0 where
  pub one_way : (x y : X) → lt x y ≡ true → lt y x ≡ false
  pub chain : (x y z : X) → lt x y ≡ false → lt y z ≡ false → lt x z ≡ false

module _ {X : Type 0} {lt : X → X → Bool} (r : Ranks lt) where
  ahead_one_way : (x y : Option X) → ahead lt x y ≡ true → ahead lt y x ≡ false
  ahead_one_way (Some x) (Some y) h = r.one_way x y h
  ahead_one_way (Some x) None h = refl
  ahead_one_way None (Some y) h = absurd (both_ways false refl h)
  ahead_one_way None None h = refl

  ahead_chain : (x y z : Option X) → ahead lt x y ≡ false → ahead lt y z ≡ false → ahead lt x z ≡ false
  ahead_chain (Some x) (Some y) (Some z) h k = r.chain x y z h k
  ahead_chain (Some x) (Some y) None h k = k
  ahead_chain (Some x) None z h k = absurd (both_ways true h refl)
  ahead_chain None y z h k = refl

  ahead_ranks : Ranks (ahead lt)
  ahead_ranks = record { one_way = ahead_one_way; chain = ahead_chain }

module _ {A : Type 0} (before : A → A → Bool) (o : StrictOrder before) where
  one_before : (a b : A) → before a b ≡ true → before b a ≡ false
  one_before a b h =
      ⊎_elim (λ k. absurd (both_ways (before a a) (o.irreflexive a) (o.transitive a b a h k))) (λ k. k) (cases_Bool (before b a))

  -- a before b, b not after c
  pub lt_le : (a b c : A) → before a b ≡ true → before c b ≡ false → before a c ≡ true
  lt_le a b c h k =
      ⊎_elim (λ e. o.transitive a b c h e) (λ e. subst (λ x. before a x ≡ true) (o.connected b c e k) h) (cases_Bool (before b c))

  -- c not after b, b not after a
  le_le : (a b c : A) → before a b ≡ false → before b c ≡ false → before a c ≡ false
  le_le a b c h k =
      ⊎_elim (λ t. absurd (both_ways (before a b) h (lt_le a c b t k))) (λ e. e) (cases_Bool (before a c))

module _ {A : Type 0} (before : A → A → Bool) (time : Timer A → A) where
  abbrev pub NotSooner : Timer A → Timer A → Type 0
  NotSooner x y = (before (time x) (time y) ≡ false) × (time x ≡ time y → y.number ≤ x.number)

  module _ (o : StrictOrder before) where
    -- what it says that x is not sooner than y
    pub not_sooner : (x y : Timer A) → sooner before time x y ≡ false → NotSooner x y
    not_sooner x y h =
        let p = or_parts (before (time x) (time y)) (not (before (time x) (time y) || before (time y) (time x)) && ltb x.number y.number) h in (
          p.0,
          λ e. ⊎_elim
              (λ u. absurd (both_ways (before (time x) (time y) || before (time y) (time x))
              (or_from (before (time x) (time y)) (before (time y) (time x)) p.0 (subst (λ t. before t (time x) ≡ false) e (o.irreflexive (time x))))
              (not-false (before (time x) (time y) || before (time y) (time x)) u)))
              (λ u. ltb-false x.number y.number u)
              (and_cases (not (before (time x) (time y) || before (time y) (time x))) (ltb x.number y.number) p.1),
        )

    pub from_not_sooner : (x y : Timer A) → NotSooner x y → sooner before time x y ≡ false
    from_not_sooner x y h =
        or_from (before (time x) (time y)) (not (before (time x) (time y) || before (time y) (time x)) && ltb x.number y.number) h.0
        (⊎_elim
        (λ t. and_left (not (before (time x) (time y) || before (time y) (time x))) (ltb x.number y.number)
        (not_from_true (before (time x) (time y) || before (time y) (time x)) (or_right (before (time x) (time y)) (before (time y) (time x)) t)))
        (λ f. and_right (not (before (time x) (time y) || before (time y) (time x))) (ltb x.number y.number)
        (le-ltb x.number y.number (h.1 (o.connected (time x) (time y) h.0 f))))
        (cases_Bool (before (time y) (time x))))

    sooner_one_way : (x y : Timer A) → sooner before time x y ≡ true → sooner before time y x ≡ false
    sooner_one_way x y h = from_not_sooner y x (⊎_elim {C = NotSooner y x}
        (λ t. (one_before before o (time x) (time y) t, λ e. absurd (both_ways (before (time x) (time y)) (subst (λ u. before (time x) u ≡ false) (sym e) (o.irreflexive (time x))) t)))
        (λ t.
        let p = and_parts (not (before (time x) (time y) || before (time y) (time x))) (ltb x.number y.number) t in
        let q = or_parts (before (time x) (time y)) (before (time y) (time x)) (not-true (before (time x) (time y) || before (time y) (time x)) p.0) in
        (q.1, λ e. omega (arith, ltb-true x.number y.number p.1)))
        (or_cases (before (time x) (time y)) (not (before (time x) (time y) || before (time y) (time x)) && ltb x.number y.number) h))

    sooner_chain : (x y z : Timer A) → sooner before time x y ≡ false → sooner before time y z ≡ false → sooner before time x z ≡ false
    sooner_chain x y z h k =
        let p = not_sooner x y h in
        let q = not_sooner y z k in
        from_not_sooner x z (
          le_le before o (time x) (time y) (time z) p.0 q.0,
          λ e.
              let f = o.connected (time x) (time y) p.0 (subst (λ u. before (time y) u ≡ false) (sym e) q.0) in
              omega (arith, p.1 f, q.1 (sym f ∙ e)),
        )

    pub sooner_ranks : Ranks (sooner before time)
    sooner_ranks = record { one_way = sooner_one_way; chain = sooner_chain }

    pub precedes_ranks : (ts : List (Timer A)) → Ranks (precedes before time ts)
    precedes_ranks ts =
        let r = ahead_ranks sooner_ranks in
        record { one_way = λ i j. r.one_way (slice_get ts i) (slice_get ts j); chain = λ i j k. r.chain (slice_get ts i) (slice_get ts j) (slice_get ts k) }
