-- An advance, one wake-up at a time: what was done so far, and what is still to be done.
use Rattle.std.proofs.Common.{◌≡◌, ℕ, suc, ◌+◌, Bool, true, false, not, List, [], ◌++◌, length, Some, None, Option, sym, refl, ap, ◌∙◌, subst, arith}
use Rattle.std.proofs.lemmas.List.{append_assoc, append-nil}
use Rattle.std.proofs.lemmas.Bool.{cond-true, cond-false}
use Rattle.heap_links.specs.declared.timer.Timer.{Timer}
use Rattle.queue_rules.specs.declared.firing.Firing.{Firing}
use Rattle.times.specs.Order.{StrictOrder}
use Rattle.queue_rules.specs.Lists.{Pairwise, Rearranged, then}
use Rattle.queue_rules.specs.Timers.{Distinct, least_hard}
use Rattle.queue_rules.specs.WakeUps.{Served, still, after, ripe, spared, wake_up, serve_from, walk}
use Rattle.queue_rules.proofs.Elements.{pairwise_kept}
use Rattle.queue_rules.proofs.Going.{walk_goes_on, along_walk}
use Rattle.queue_rules.proofs.Listing.{walk_alike}
use Rattle.queue_rules.proofs.Rearranged.{rearranged_itself}
use Rattle.queue_rules.proofs.Waking.{Proper}

module _ {A : Type 0} (before : A → A → Bool) (o : StrictOrder before) (t : A) where
  walk_wakes : (w : A) (xs : List (Timer A)) → Proper before o xs → least_hard before xs ≡ Some w → before w t ≡ true →
      walk before t xs ≡ after before w xs (walk before t (spared before w xs))
  walk_wakes w xs p e h =
      walk_goes_on before o t xs p
      ∙ ap (serve_from before (walk before t) t xs) e
      ∙ cond-true (before w t) (after before w xs (walk before t (spared before w xs))) (still xs) h

  -- a time that is not before t, or none
  abbrev pub Late : Option A → Type 0
  Late None = Unit {0}
  Late (Some w) = before w t ≡ false

  from_late : (xs : List (Timer A)) (h : Option A) → Late h → serve_from before (walk before t) t xs h ≡ still xs
  from_late xs None l = refl
  from_late xs (Some w) l = cond-false (before w t) (after before w xs (walk before t (spared before w xs))) (still xs) l

  walk_rests : (xs : List (Timer A)) → Proper before o xs → Late (least_hard before xs) → walk before t xs ≡ still xs
  walk_rests xs p l = walk_goes_on before o t xs p ∙ from_late xs (least_hard before xs) l

  -- after n wake-ups and the entries fs, an advance over `xs` is an advance over `ys`
  pub record Progress (xs : List (Timer A)) (n : ℕ) (fs : List (Firing A)) (ys : List (Timer A)) : Type 0 where
    pub wakes : length (walk before t xs).wakes ≡ n + length (walk before t ys).wakes
    pub entries : (walk before t xs).entries ≡ fs ++ (walk before t ys).entries
    pub rest : Rearranged (walk before t xs).pending (walk before t ys).pending

  pub progress_none : (xs : List (Timer A)) → Progress xs 0 [] xs
  progress_none xs = record { wakes = omega arith; entries = refl; rest = rearranged_itself _ }

  -- a wake-up at the least hard time, over the timers that it spares, in any order
  pub progress_more : (xs : List (Timer A)) (n : ℕ) (fs : List (Firing A)) (ys zs : List (Timer A)) (w : A) →
      Progress xs n fs ys → Proper before o ys → Distinct ys → least_hard before ys ≡ Some w → before w t ≡ true → Rearranged (spared before w ys) zs →
      Progress xs (n + 1) (fs ++ wake_up before w ys) zs
  progress_more xs n fs ys zs w p proper d e h r =
      let step = walk_wakes w ys proper e h in
      let same = walk_alike before o t (spared before w ys) zs (pairwise_kept (λ x. not (ripe before w x)) _ ys d) r in
      let k : length (walk before t ys).wakes ≡ suc (length (walk before t zs).wakes) =
      ap (λ (q : Served A). length q.wakes) step ∙ ap (λ (l : List A). suc (length l)) same.wakes in
      record {
        wakes = omega (arith, p.wakes, k);
        entries =
            p.entries
            ∙ ap (λ (q : Served A). fs ++ q.entries) step
            ∙ ap (λ (l : List (Firing A)). fs ++ (wake_up before w ys ++ l)) same.entries
            ∙ sym (append_assoc fs (wake_up before w ys) (walk before t zs).entries);
        rest = then (subst (λ (q : Served A). Rearranged (walk before t xs).pending q.pending) step p.rest) same.pending;
      }

  -- no hard time is before t any more
  pub record Finished (xs : List (Timer A)) (n : ℕ) (fs : List (Firing A)) (ys : List (Timer A)) : Type 0 where
    pub wakes : length (walk before t xs).wakes ≡ n
    pub entries : (walk before t xs).entries ≡ fs
    pub rest : Rearranged (walk before t xs).pending ys

  pub progress_ends : (xs : List (Timer A)) (n : ℕ) (fs : List (Firing A)) (ys : List (Timer A)) →
      Progress xs n fs ys → Proper before o ys → Late (least_hard before ys) → Finished xs n fs ys
  progress_ends xs n fs ys p proper l =
      let stop = walk_rests ys proper l in
      let k : length (walk before t ys).wakes ≡ 0 = ap (λ (q : Served A). length q.wakes) stop in
      record {
        wakes = omega (arith, p.wakes, k);
        entries = p.entries ∙ ap (λ (q : Served A). fs ++ q.entries) stop ∙ append-nil fs;
        rest = subst (λ (q : Served A). Rearranged (walk before t xs).pending q.pending) stop p.rest;
      }

  -- what holds pairwise of the timers holds pairwise of those that an advance leaves
  pub walk_keeps : (R : Timer A → Timer A → Type 0) (xs : List (Timer A)) → Proper before o xs → Pairwise R xs → Pairwise R (walk before t xs).pending
  walk_keeps R =
      along_walk before o t (λ xs r. Pairwise R xs → Pairwise R r.pending) (λ xs _ h. h)
      (λ w xs r p e h ih k. ih (pairwise_kept (λ x. not (ripe before w x)) R xs k))
