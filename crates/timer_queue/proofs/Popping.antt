-- A wake-up, one timer at a time: the ripe timer that comes first by soft time and number, again and again.
use Rattle.std.proofs.Common.{◌≡◌, ℕ, Bool, true, false, not, eqb, List, [], ◌∷◌, ◌++◌, map, filter, Option, sym, refl, ap, ◌∙◌, subst, ⊎_elim}
use Rattle.std.specs.List.{AllByRecursion}
use Rattle.std.proofs.ByRecursion.{All-weaker, all_kept_by}
use Rattle.std.proofs.lemmas.List.{append_assoc, append-nil}
use Rattle.std.proofs.lemmas.Bool.{cases_Bool, cond-true, cond-false, not_from_true, not_from_false}
use Rattle.heap_links.specs.declared.timer.Timer.{Timer}
use Rattle.queue_rules.specs.declared.firing.Firing.{Firing}
use Rattle.times.specs.Order.{StrictOrder}
use Rattle.queue_rules.specs.Lists.{Rearranged, then, put, sorted}
use Rattle.queue_rules.specs.Timers.{Distinct, by_soft}
use Rattle.queue_rules.specs.WakeUps.{entry, ripe, spared}
use Rattle.queue_rules.proofs.Elements.{none_kept, kept_all, kept_like, pairwise_kept}
use Rattle.queue_rules.proofs.Listing.{key, lex, lex_order, keys_differ}
use Rattle.queue_rules.proofs.Rearranged.{rearranged_itself, kept_rearranged, pairwise_rearranged, all_rearranged}
use Rattle.queue_rules.proofs.Sorting.{sorted_alike, sorted_rearranged}
use Rattle.queue_rules.proofs.Stepping.{eqb_turn}

-- what comes before all others is put in front
put_first : {X : Type 0} (lt : X → X → Bool) (x : X) (ys : List X) → AllByRecursion (λ y. lt x y ≡ true) ys → put lt x ys ≡ x ∷ ys
put_first lt x [] h = refl
put_first lt x (y ∷ ys) h = cond-true (lt x y) _ _ h.0

module _ {A : Type 0} (before : A → A → Bool) (o : StrictOrder before) (w : A) where
  kept_yes : (p : Timer A → Bool) (x : Timer A) (xs : List (Timer A)) → p x ≡ true → filter p (x ∷ xs) ≡ x ∷ filter p xs
  kept_yes p x xs h = cond-true (p x) (x ∷ filter p xs) (filter p xs) h

  kept_no : (p : Timer A → Bool) (x : Timer A) (xs : List (Timer A)) → p x ≡ false → filter p (x ∷ xs) ≡ filter p xs
  kept_no p x xs h = cond-false (p x) (x ∷ filter p xs) (filter p xs) h

  -- of two timers with distinct numbers one comes first
  precedes : (x y : Timer A) → eqb x.number y.number ≡ false → by_soft before y x ≡ false → by_soft before x y ≡ true
  precedes x y d h =
      ⊎_elim (λ t. t)
      (λ f. absurd ((keys_differ before o (x ∷ (y ∷ [])) ((d, tt), (tt, tt))).0.0 ((lex_order before o).connected (key before o x) (key before o y) f h)))
      (cases_Bool (by_soft before x y))

  all_precede : (x : Timer A) (ys : List (Timer A)) → AllByRecursion (λ y. eqb x.number y.number ≡ false) ys → AllByRecursion (λ y. by_soft before y x ≡ false) ys →
      AllByRecursion (λ y. by_soft before x y ≡ true) ys
  all_precede x [] d h = tt
  all_precede x (y ∷ ys) d h = (precedes x y d.0 h.0, all_precede x ys d.1 h.1)

  -- the ripe timers in the order of the log, where x is ripe and comes first
  pub pop_first : (xs ys : List (Timer A)) (x : Timer A) → Rearranged xs (x ∷ ys) → Distinct xs → ripe before w x ≡ true → AllByRecursion (λ y. by_soft before y x ≡ false) ys →
      sorted (by_soft before) (filter (ripe before w) xs) ≡ x ∷ sorted (by_soft before) (filter (ripe before w) ys)
  pop_first xs ys x r d h first =
      let e : Distinct (x ∷ ys) = pairwise_rearranged _ (λ a b n. eqb_turn a.number b.number n) r d in
      let ahead = all_precede x ys e.0 first in
      sorted_alike (key before o) (lex before o) (lex_order before o) (kept_rearranged (ripe before w) r)
      (keys_differ before o (filter (ripe before w) xs) (pairwise_kept (ripe before w) _ xs d))
      ∙ ap (sorted (by_soft before)) (kept_yes (ripe before w) x ys h)
      ∙ put_first (by_soft before) x (sorted (by_soft before) (filter (ripe before w) ys))
      (all_rearranged (λ y. by_soft before x y ≡ true) (sorted_rearranged (by_soft before) (filter (ripe before w) ys)) (all_kept_by (ripe before w) _ ys ahead))

  -- that timer is not spared
  pub pop_spares : (xs ys : List (Timer A)) (x : Timer A) → Rearranged xs (x ∷ ys) → ripe before w x ≡ true → Rearranged (spared before w xs) (spared before w ys)
  pop_spares xs ys x r h =
      let p : Timer A → Bool = λ y. not (ripe before w y) in
      subst (Rearranged (filter p xs)) (kept_no p x ys (not_from_true (ripe before w x) h)) (kept_rearranged p r)

  -- no timer is ripe any more
  pub pop_ends : (xs : List (Timer A)) → AllByRecursion (λ x. ripe before w x ≡ false) xs → (filter (ripe before w) xs ≡ []) × (spared before w xs ≡ xs)
  pop_ends xs h = (
    none_kept (ripe before w) xs h,
    kept_like (λ x. not (ripe before w x)) (λ _. true) xs (All-weaker (λ x. ripe before w x ≡ false) _ (λ x f. not_from_false (ripe before w x) f) xs h) ∙ kept_all xs,
  )

  -- entries so far, and the timers still to be looked at: together the log of the wake-up over `xs`
  pub record Popped (m : Option ℕ) (xs : List (Timer A)) (fs : List (Firing A)) (ys : List (Timer A)) : Type 0 where
    pub entries : fs ++ map (entry w m) (sorted (by_soft before) (filter (ripe before w) ys)) ≡ map (entry w m) (sorted (by_soft before) (filter (ripe before w) xs))
    pub spares : Rearranged (spared before w xs) (spared before w ys)

  pub popped_none : (m : Option ℕ) (xs : List (Timer A)) → Popped m xs [] xs
  popped_none m xs = record { entries = refl; spares = rearranged_itself (spared before w xs) }

  pub popped_more : (m : Option ℕ) (xs : List (Timer A)) (fs : List (Firing A)) (ys zs : List (Timer A)) (x : Timer A) →
      Popped m xs fs ys → Rearranged ys (x ∷ zs) → Distinct ys → ripe before w x ≡ true → AllByRecursion (λ y. by_soft before y x ≡ false) zs →
      Popped m xs (fs ++ entry w m x ∷ []) zs
  popped_more m xs fs ys zs x p r d h first = record {
    entries =
        append_assoc fs (entry w m x ∷ []) _
        ∙ ap (λ l. fs ++ map (entry w m) l) (sym (pop_first ys zs x r d h first))
        ∙ p.entries;
    spares = then p.spares (pop_spares ys zs x r h);
  }

  pub popped_all : (m : Option ℕ) (xs : List (Timer A)) (fs : List (Firing A)) (ys : List (Timer A)) →
      Popped m xs fs ys → AllByRecursion (λ y. ripe before w y ≡ false) ys →
      (fs ≡ map (entry w m) (sorted (by_soft before) (filter (ripe before w) xs))) × Rearranged (spared before w xs) ys
  popped_all m xs fs ys p h =
      let e = pop_ends ys h in (
        sym (append-nil fs) ∙ ap (λ l. fs ++ map (entry w m) (sorted (by_soft before) l)) (sym e.0) ∙ p.entries,
        subst (Rearranged (spared before w xs)) e.1 p.spares,
      )
