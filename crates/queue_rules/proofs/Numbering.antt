-- Timers listed by number: one list for every order in which they lie.
use Rattle.std.proofs.Common.{◌≡◌, ℕ, Bool, true, false, not, ◌||◌, eqb, ltb, List, [], ◌∷◌, filter, sym, refl, ap, ◌∙◌, subst}
use Rattle.std.specs.List.{AllByRecursion}
use Rattle.std.proofs.ByRecursion.{All-weaker}
use Rattle.std.proofs.lemmas.Bool.{cond-true, cond-false, eqb-false, eq-eqb, not_from_true, not_from_false}
use Rattle.heap_links.specs.declared.timer.Timer.{Timer}
use Rattle.queue_rules.specs.Lists.{Pairwise, Rearranged, none, keep, swap, then, passes, put, sorted}
use Rattle.queue_rules.specs.Timers.{Distinct, numbered, by_number}
use Rattle.queue_rules.proofs.Elements.{pairwise_weaker, pairwise_kept, kept_like, kept_all}
use Rattle.queue_rules.proofs.Orders.{number_order}
use Rattle.queue_rules.proofs.Rearranged.{rearranged_back, kept_rearranged, pairwise_rearranged, all_rearranged}
use Rattle.queue_rules.proofs.Sorting.{Differ, put_rises, sorted_alike, sorted_rearranged}
use Rattle.queue_rules.proofs.Stepping.{eqb_turn}

module _ {A : Type 0} where
  abbrev number_of : Timer A → ℕ
  number_of x = x.number

  abbrev pub Rising : List (Timer A) → Type 0
  Rising = Pairwise (λ x y. by_number x y ≡ true)

  abbrev Apart : Timer A → Timer A → Type 0
  Apart = Differ number_of ltb number_order

  apart : (x y : Timer A) → eqb x.number y.number ≡ false → Apart x y
  apart x y d e = eqb-false x.number y.number d e

  all_apart : (xs : List (Timer A)) → Distinct xs → Pairwise Apart xs
  all_apart = pairwise_weaker (λ x y. eqb x.number y.number ≡ false) Apart apart

  pub distinct_rearranged : {xs ys : List (Timer A)} → Rearranged xs ys → Distinct xs → Distinct ys
  distinct_rearranged r d = pairwise_rearranged _ (λ a b n. eqb_turn a.number b.number n) r d

  pub by_number_alike : {xs ys : List (Timer A)} → Rearranged xs ys → Distinct xs → sorted by_number xs ≡ sorted by_number ys
  by_number_alike {xs} {ys} r d = sorted_alike number_of ltb number_order r (all_apart xs d)

  pub sorted_rises : (xs : List (Timer A)) → Distinct xs → Rising (sorted by_number xs)
  sorted_rises [] d = tt
  sorted_rises (x ∷ xs) d =
      put_rises number_of ltb number_order x (sorted by_number xs)
      (all_rearranged (Apart x) (sorted_rearranged by_number xs) (All-weaker (λ y. eqb x.number y.number ≡ false) (Apart x) (λ y. apart x y) xs d.0))
      (sorted_rises xs d.1)

  put_lowest : (x : Timer A) (ys : List (Timer A)) → AllByRecursion (λ y. by_number x y ≡ true) ys → put by_number x ys ≡ x ∷ ys
  put_lowest x [] h = refl
  put_lowest x (y ∷ ys) h = cond-true (by_number x y) (x ∷ (y ∷ ys)) (y ∷ put by_number x ys) h.0

  pub rising_sorted : (xs : List (Timer A)) → Rising xs → sorted by_number xs ≡ xs
  rising_sorted [] h = refl
  rising_sorted (x ∷ xs) h = ap (put by_number x) (rising_sorted xs h.1) ∙ put_lowest x xs h.0

  -- a rising list of the same timers is the list by number
  pub one_rising : (xs ys : List (Timer A)) → Distinct xs → Rearranged xs ys → Rising ys → sorted by_number xs ≡ ys
  one_rising xs ys d r h = by_number_alike r d ∙ rising_sorted ys h

  -- arming: one timer more
  pub armed_listed : (xs ys : List (Timer A)) (x : Timer A) → Rearranged ys (x ∷ xs) → Distinct ys → sorted by_number ys ≡ put by_number x (sorted by_number xs)
  armed_listed xs ys x r d = by_number_alike r d

  -- cancelling: the timer of one number less
  pub cancelled_listed : (xs ys : List (Timer A)) (x : Timer A) (n : ℕ) → Rearranged xs (x ∷ ys) → Distinct xs → x.number ≡ n →
      sorted by_number ys ≡ filter (λ y. not (numbered n y)) (sorted by_number xs)
  cancelled_listed xs ys x n r d e =
      let d' : Distinct (x ∷ ys) = distinct_rearranged r d in
      let p : Timer A → Bool = λ y. not (numbered n y) in
      let gone : p x ≡ false = not_from_true (numbered n x) (eq-eqb x.number n e) in
      let stay : AllByRecursion (λ y. p y ≡ true) ys =
      All-weaker (λ y. eqb x.number y.number ≡ false) (λ y. p y ≡ true)
      (λ y f. not_from_false (numbered n y) (ap (eqb y.number) (sym e) ∙ eqb_turn x.number y.number f)) ys d'.0 in
      let all : filter p (x ∷ ys) ≡ ys = cond-false (p x) (x ∷ filter p ys) (filter p ys) gone ∙ kept_like p (λ _. true) ys stay ∙ kept_all ys in
      let q : Rearranged (filter p (sorted by_number xs)) ys =
      subst (Rearranged (filter p (sorted by_number xs))) all
      (kept_rearranged p (then (rearranged_back (sorted_rearranged by_number xs)) r)) in
      one_rising ys (filter p (sorted by_number xs)) d'.1 (rearranged_back q)
      (pairwise_kept p (λ y z. by_number y z ≡ true) (sorted by_number xs) (sorted_rises xs d))

  -- whether some timer passes a test, in any order
  pub passes_rearranged : (p : Timer A → Bool) {xs ys : List (Timer A)} → Rearranged xs ys → passes p xs ≡ passes p ys
  passes_rearranged p none = refl
  passes_rearranged p (keep x r) = ap (λ b. p x || b) (passes_rearranged p r)
  passes_rearranged p (swap x y xs) = or_swap (p x) (p y) (passes p xs)
    where
      or_swap : (a b c : Bool) → (a || (b || c)) ≡ (b || (a || c))
      or_swap true true c = refl
      or_swap true false c = refl
      or_swap false true c = refl
      or_swap false false c = refl
  passes_rearranged p (then r q) = passes_rearranged p r ∙ passes_rearranged p q
