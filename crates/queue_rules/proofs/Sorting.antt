-- Insertion sort by a key: a rearrangement of its list, and one list for all rearrangements.
use Rattle.std.proofs.Common.{◌≡◌, Bool, true, false, List, [], ◌∷◌, sym, refl, ap, ◌∙◌, ⊎_elim}
use Rattle.std.specs.List.{AllByRecursion}
use Rattle.std.proofs.ByRecursion.{All-weaker}
use Rattle.std.proofs.lemmas.Bool.{cond_both, cases_Bool, cond-true, cond-false}
use Rattle.times.specs.Order.{StrictOrder}
use Rattle.queue_rules.specs.Lists.{Pairwise, Rearranged, none, keep, swap, then, put, sorted}
use Rattle.queue_rules.proofs.Orders.{never_both, lt_le}
use Rattle.queue_rules.proofs.Rearranged.{rearranged_itself, all_rearranged, pairwise_rearranged}

module _ {X : Type 0} (lt : X → X → Bool) where
  pub put_rearranged : (x : X) (xs : List X) → Rearranged (x ∷ xs) (put lt x xs)
  put_rearranged x [] = keep x none
  put_rearranged x (y ∷ xs) =
      cond_both (lt x y) (x ∷ (y ∷ xs)) (y ∷ put lt x xs) (Rearranged (x ∷ (y ∷ xs)))
      (λ _. rearranged_itself (x ∷ (y ∷ xs))) (λ _. then (swap x y xs) (keep y (put_rearranged x xs)))

  pub sorted_rearranged : (xs : List X) → Rearranged xs (sorted lt xs)
  sorted_rearranged [] = none
  sorted_rearranged (x ∷ xs) = then (keep x (sorted_rearranged xs)) (put_rearranged x (sorted lt xs))

  put_front : (x z : X) (zs : List X) → lt x z ≡ true → put lt x (z ∷ zs) ≡ x ∷ (z ∷ zs)
  put_front x z zs t = cond-true (lt x z) (x ∷ (z ∷ zs)) (z ∷ put lt x zs) t

  put_past : (x z : X) (zs : List X) → lt x z ≡ false → put lt x (z ∷ zs) ≡ z ∷ put lt x zs
  put_past x z zs f = cond-false (lt x z) (x ∷ (z ∷ zs)) (z ∷ put lt x zs) f

module _ {X K : Type 0} (key : X → K) (before : K → K → Bool) (o : StrictOrder before) where
  abbrev pub by : X → X → Bool
  by x y = before (key x) (key y)

  abbrev pub Differ : X → X → Type 0
  Differ x y = key x ≡ key y → ⊥

  -- two insertions, of which x comes before y
  first_both : (x y z : X) (zs : List X) → by x y ≡ true → by x z ≡ true → by y z ≡ true →
      put by x (put by y (z ∷ zs)) ≡ put by y (put by x (z ∷ zs))
  first_both x y z zs xy xz yz =
      (ap (put by x) (put_front by y z zs yz) ∙ put_front by x y (z ∷ zs) xy) ∙
      sym (ap (put by y) (put_front by x z zs xz) ∙ put_past by y x (z ∷ zs) (never_both before o (key x) (key y) xy) ∙
      ap (λ l. x ∷ l) (put_front by y z zs yz))

  first_one : (x y z : X) (zs : List X) → by x z ≡ true → by y z ≡ false →
      put by x (put by y (z ∷ zs)) ≡ put by y (put by x (z ∷ zs))
  first_one x y z zs xz yz =
      let xy = lt_le before o (key x) (key z) (key y) xz yz in
      (ap (put by x) (put_past by y z zs yz) ∙ put_front by x z (put by y zs) xz) ∙
      sym (ap (put by y) (put_front by x z zs xz) ∙ put_past by y x (z ∷ zs) (never_both before o (key x) (key y) xy) ∙
      ap (λ l. x ∷ l) (put_past by y z zs yz))

  first_end : (x y : X) → by x y ≡ true → put by x (y ∷ []) ≡ put by y (x ∷ [])
  first_end x y xy = put_front by x y [] xy ∙ sym (put_past by y x [] (never_both before o (key x) (key y) xy))

  other : (x y : X) → Differ x y → by x y ≡ false → by y x ≡ true
  other x y d f = ⊎_elim (λ t. t) (λ g. absurd (d (o.connected (key x) (key y) f g))) (cases_Bool (by y x))

  pub put_either_order : (x y : X) (zs : List X) → Differ x y → put by x (put by y zs) ≡ put by y (put by x zs)
  put_either_order x y [] d = ⊎_elim (λ t. first_end x y t) (λ f. sym (first_end y x (other x y d f))) (cases_Bool (by x y))
  put_either_order x y (z ∷ zs) d =
      ⊎_elim
      (λ xz. ⊎_elim
      (λ yz. ⊎_elim (λ t. first_both x y z zs t xz yz) (λ f. sym (first_both y x z zs (other x y d f) yz xz)) (cases_Bool (by x y)))
      (λ yz. first_one x y z zs xz yz) (cases_Bool (by y z)))
      (λ xz. ⊎_elim (λ yz. sym (first_one y x z zs yz xz))
      (λ yz. ap (put by x) (put_past by y z zs yz) ∙ put_past by x z (put by y zs) xz ∙ ap (λ l. z ∷ l) (put_either_order x y zs d) ∙
      sym (ap (put by y) (put_past by x z zs xz) ∙ put_past by y z (put by x zs) yz))
      (cases_Bool (by y z)))
      (cases_Bool (by x z))

  pub sorted_alike : {xs ys : List X} → Rearranged xs ys → Pairwise Differ xs → sorted by xs ≡ sorted by ys
  sorted_alike none p = refl
  sorted_alike (keep x r) p = ap (put by x) (sorted_alike r p.1)
  sorted_alike (swap x y zs) p = put_either_order x y (sorted by zs) p.0.0
  sorted_alike (then r q) p = sorted_alike r p ∙ sorted_alike q (pairwise_rearranged Differ (λ x y d e. d (sym e)) r p)

  -- an insertion into a list that rises leaves one that rises
  pub put_rises : (x : X) (ys : List X) → AllByRecursion (Differ x) ys → Pairwise (λ y z. by y z ≡ true) ys → Pairwise (λ y z. by y z ≡ true) (put by x ys)
  put_rises x [] d p = (tt, tt)
  put_rises x (y ∷ ys) d p =
      cond_both (by x y) (x ∷ (y ∷ ys)) (y ∷ put by x ys) (Pairwise (λ u v. by u v ≡ true))
      (λ t. ((t, All-weaker (λ z. by y z ≡ true) (λ z. by x z ≡ true) (λ z l. o.transitive (key x) (key y) (key z) t l) ys p.0), p))
      (λ f. (all_rearranged (λ z. by y z ≡ true) (put_rearranged by x ys) (other x y d.0 f, p.0), put_rises x ys d.1 p.1))
