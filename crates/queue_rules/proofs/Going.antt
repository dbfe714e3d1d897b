-- How to reason along the wake-ups of an advance, and that the room it has for them is enough.
use Rattle.std.proofs.Common.{◌≡◌, ℕ, zero, suc, ◌<◌, ◌≤◌, Bool, true, false, cond, not, List, [], ◌∷◌, map, length, Some, None, Option, sym, refl, ap, subst, arith}
use Rattle.std.specs.List.{AllByRecursion}
use Rattle.std.proofs.ByRecursion.{All-weaker, all_kept_by}
use Rattle.std.proofs.lemmas.Bool.{cond_both, not_from_true}
use Rattle.heap_links.specs.declared.timer.Timer.{Timer}
use Rattle.times.specs.Order.{StrictOrder}
use Rattle.queue_rules.specs.Timers.{least_hard}
use Rattle.queue_rules.specs.WakeUps.{Served, ripe, spared, still, after, serve_from, serve, walk, WalkGoesOn}
use Rattle.queue_rules.proofs.Elements.{any_with, map_all, kept_shorter}
use Rattle.queue_rules.proofs.Orders.{le_le}
use Rattle.queue_rules.proofs.Least.{least_none}
use Rattle.queue_rules.proofs.Waking.{Next, next_hard, Proper, ends_ripe}

module _ {A : Type 0} (before : A → A → Bool) (o : StrictOrder before) where
  -- a wake-up at the least hard time spares fewer
  spares_fewer : (w : A) (xs : List (Timer A)) → Proper before o xs → least_hard before xs ≡ Some w → length (spared before w xs) < length xs
  spares_fewer w xs proper e =
      kept_shorter (λ x. not (ripe before w x)) xs
      (any_with (λ x p h. not_from_true (ripe before w x) (ends_ripe before o w x p h)) xs proper (next_hard before o xs w e).stands)

  spares_proper : (w : A) (xs : List (Timer A)) → Proper before o xs → Proper before o (spared before w xs)
  spares_proper w xs proper = all_kept_by (λ x. not (ripe before w x)) _ xs proper

  module _ (t : A) where
    -- what holds where no hard time is before t, and of a wake-up and then more where it holds of the more, holds of every advance
    module _ (P : List (Timer A) → Served A → Type 0)
        (stay : (xs : List (Timer A)) → AllByRecursion (λ x. before x.hard t ≡ false) xs → P xs (still xs))
        (wake : (w : A) (xs : List (Timer A)) (r : Served A) → Proper before o xs → Next before o xs w → before w t ≡ true →
        P (spared before w xs) r → P xs (after before w xs r)) where
      abbrev Goes : ℕ → Type 0
      Goes n = (xs : List (Timer A)) → length xs ≤ n → Proper before o xs → P xs (serve before n t xs)

      goes_from : (n : ℕ) → Goes n → (xs : List (Timer A)) → length xs ≤ suc n → Proper before o xs →
          (h : Option A) → least_hard before xs ≡ h → P xs (serve_from before (serve before n t) t xs h)
      goes_from n ih xs l proper None e =
          stay xs (map_all (λ x. x.hard) (λ h. before h t ≡ false) xs (subst (AllByRecursion (λ h. before h t ≡ false)) (sym (least_none before o (map (λ x. x.hard) xs) e)) tt))
      goes_from n ih xs l proper (Some w) e =
          let next = next_hard before o xs w e in
          let fewer = spares_fewer w xs proper e in
          cond_both (before w t) (after before w xs (serve before n t (spared before w xs))) (still xs) (P xs)
          (λ soon. wake w xs (serve before n t (spared before w xs)) proper next soon (ih (spared before w xs) (omega arith) (spares_proper w xs proper)))
          (λ late. stay xs (All-weaker (λ x. before x.hard w ≡ false) (λ x. before x.hard t ≡ false) (λ x b. le_le before o t w x.hard late b) xs next.bounds))

      goes : (n : ℕ) → Goes n
      goes zero [] l proper = stay [] tt
      goes zero (x ∷ xs) l proper = absurd (omega arith)
      goes (suc n) xs l proper = goes_from n (goes n) xs l proper (least_hard before xs) refl

      pub along_walk : (xs : List (Timer A)) → Proper before o xs → P xs (walk before t xs)
      along_walk xs proper = goes (length xs) xs (omega arith) proper

    -- two ways to go on that agree on fewer timers
    agree : (f g : List (Timer A) → Served A) (xs : List (Timer A)) → Proper before o xs →
        ((ys : List (Timer A)) → length ys < length xs → Proper before o ys → f ys ≡ g ys) →
        (h : Option A) → least_hard before xs ≡ h → serve_from before f t xs h ≡ serve_from before g t xs h
    agree f g xs proper same None e = refl
    agree f g xs proper same (Some w) e =
        ap (λ r. cond (before w t) (after before w xs r) (still xs)) (same (spared before w xs) (spares_fewer w xs proper e) (spares_proper w xs proper))

    enough : (n m : ℕ) (xs : List (Timer A)) → length xs ≤ n → length xs ≤ m → Proper before o xs → serve before n t xs ≡ serve before m t xs
    enough zero zero xs k l proper = refl
    enough zero (suc m) [] k l proper = refl
    enough zero (suc m) (x ∷ xs) k l proper = absurd (omega arith)
    enough (suc n) zero [] k l proper = refl
    enough (suc n) zero (x ∷ xs) k l proper = absurd (omega arith)
    enough (suc n) (suc m) xs k l proper =
        agree (serve before n t) (serve before m t) xs proper (λ ys few p. enough n m ys (omega arith) (omega arith) p) (least_hard before xs) refl

    goes_on : (xs : List (Timer A)) → Proper before o xs → walk before t xs ≡ serve_from before (walk before t) t xs (least_hard before xs)
    goes_on [] proper = refl
    goes_on (x ∷ xs) proper =
        agree (serve before (length xs) t) (walk before t) (x ∷ xs) proper (λ ys few p. enough (length xs) (length ys) ys (omega arith) (omega arith) p)
        (least_hard before (x ∷ xs)) refl

pub walk_goes_on : {A : Type 0} (before : A → A → Bool) → StrictOrder before → WalkGoesOn before
walk_goes_on before o t xs proper = goes_on before o t xs proper
