-- One wake-up: it logs each ripe timer once and no other, and marks one entry, whose hard time is the wake time.
use Rattle.std.proofs.Common.{◌≡◌, ℕ, Bool, true, false, not, ◌&&◌, eqb, ltb, List, [], ◌∷◌, map, Some, filter, Option, sym, refl, ap, ◌∙◌, subst, inl, inr, ⊎_elim}
use Rattle.std.specs.List.{AllByRecursion}
use Rattle.std.proofs.ByRecursion.{All-weaker, All-map, kept_by_passes}
use Rattle.std.proofs.lemmas.Bool.{both_ways, cases_Bool, and_parts, and_from, eqb-true, eq-eqb, not_from_false, cond-true, cond-false}
use Rattle.heap_links.specs.declared.timer.Timer.{Timer}
use Rattle.queue_rules.specs.declared.firing.Firing.{Firing}
use Rattle.times.specs.Order.{StrictOrder}
use Rattle.queue_rules.specs.Lists.{Any, Rearranged, sorted}
use Rattle.queue_rules.specs.Timers.{Distinct, same, by_soft, least_hard}
use Rattle.queue_rules.specs.WakeUps.{entry, names, ripe, bearer, wake_up}
use Rattle.queue_rules.specs.Histories.{of}
use Rattle.queue_rules.proofs.Elements.{In, all_in, all_from_in, any_weaker, any_find, any_at, any_map, map_any, map_all, any_kept, in_kept, kept_in, kept_by_map, none_kept, pairwise_kept}
use Rattle.queue_rules.proofs.Orders.{number_order, same_is, same_itself}
use Rattle.queue_rules.proofs.Least.{least_lowest, least_some}
use Rattle.queue_rules.proofs.Rearranged.{kept_rearranged, all_rearranged, rearranged_none, rearranged_one}
use Rattle.queue_rules.proofs.Sorting.{sorted_rearranged}

module _ {A : Type 0} where
  -- what is logged of p
  pub record From (p : Timer A) (f : Firing A) : Type 0 where
    pub number : f.number ≡ p.number
    pub soft : f.soft ≡ p.soft
    pub hard : f.hard ≡ p.hard

  -- a test that one number passes keeps that timer alone
  pub only : (q : Timer A → Bool) (p : Timer A) (xs : List (Timer A)) → Distinct xs → In xs p → q p ≡ true →
      ((x : Timer A) → q x ≡ true → x.number ≡ p.number) → filter q xs ≡ p ∷ []
  only q p [] d i t u = elim i [ ]
  only q p (x ∷ xs) d (inl e) t u =
      let none : AllByRecursion (λ y. q y ≡ false) xs = All-weaker (λ y. eqb x.number y.number ≡ false) (λ y. q y ≡ false)
      (λ y n. ⊎_elim (λ k. absurd (both_ways (eqb x.number y.number) n (eq-eqb x.number y.number (ap (λ z. z.number) e ∙ sym (u y k))))) (λ k. k) (cases_Bool (q y)))
      xs d.0 in
      cond-true (q x) (x ∷ filter q xs) (filter q xs) (ap q e ∙ t) ∙ ap (λ l. x ∷ l) (none_kept q xs none) ∙ ap (λ y. y ∷ []) e
  only q p (x ∷ xs) d (inr i) t u =
      let n = all_in (λ y. eqb x.number y.number ≡ false) p xs d.0 i in
      let f : q x ≡ false = ⊎_elim (λ k. absurd (both_ways (eqb x.number p.number) n (eq-eqb x.number p.number (u x k)))) (λ k. k) (cases_Bool (q x)) in
      cond-false (q x) (x ∷ filter q xs) (filter q xs) f ∙ only q p xs d.1 i t u

module _ {A : Type 0} (before : A → A → Bool) (o : StrictOrder before) where
  pub of_from : (x : Timer A) (f : Firing A) → of before x f ≡ true → From x f
  of_from x f t =
      let h = and_parts (eqb f.number x.number) (same before f.soft x.soft && same before f.hard x.hard) t in
      let k = and_parts (same before f.soft x.soft) (same before f.hard x.hard) h.1 in
      record {
        number = eqb-true f.number x.number h.0;
        soft = same_is before o f.soft x.soft k.0;
        hard = same_is before o f.hard x.hard k.1;
      }

  pub from_of : (x : Timer A) (f : Firing A) → From x f → of before x f ≡ true
  from_of x f h =
      and_from (eqb f.number x.number) (same before f.soft x.soft && same before f.hard x.hard) (eq-eqb f.number x.number h.number)
      (and_from (same before f.soft x.soft) (same before f.hard x.hard)
      (ap (λ s. same before s x.soft) h.soft ∙ same_itself before o x.soft)
      (ap (λ s. same before s x.hard) h.hard ∙ same_itself before o x.hard))

  -- w is the least hard time
  pub record Next (xs : List (Timer A)) (w : A) : Type 0 where
    pub stands : Any (λ x. x.hard ≡ w) xs
    pub bounds : AllByRecursion (λ x. before x.hard w ≡ false) xs

  pub next_hard : (xs : List (Timer A)) (w : A) → least_hard before xs ≡ Some w → Next xs w
  next_hard xs w e =
      let l = least_lowest before o (map (λ x. x.hard) xs) w e in
      record {
        stands = map_any (λ x. x.hard) (λ h. h ≡ w) xs l.stands;
        bounds = map_all (λ x. x.hard) (λ h. before h w ≡ false) xs l.bounds;
      }

  -- no soft time is after its hard time
  abbrev pub Proper : List (Timer A) → Type 0
  Proper = AllByRecursion (λ x. before x.hard x.soft ≡ false)

  pub ends_ripe : (w : A) (x : Timer A) → before x.hard x.soft ≡ false → x.hard ≡ w → ripe before w x ≡ true
  ends_ripe w x p e = not_from_false (before w x.soft) (subst (λ h. before h x.soft ≡ false) e p)

  module _ (w : A) (xs : List (Timer A)) where
    abbrev m : Option ℕ
    m = bearer before w xs

    abbrev awake : List (Timer A)
    awake = filter (ripe before w) xs

    itself : (p : Timer A) → From p (entry w m p)
    itself p = record { number = refl; soft = refl; hard = refl }

    -- what a test keeps of the log, by what it keeps of the ripe timers
    log_kept : (g : Firing A → Bool) (ps : List (Timer A)) → filter (λ x. g (entry w m x)) awake ≡ ps →
        ((ys : List (Timer A)) → Rearranged ps ys → ys ≡ ps) → filter g (wake_up before w xs) ≡ map (entry w m) ps
    log_kept g ps e one =
        let r = kept_rearranged (λ x. g (entry w m x)) (sorted_rearranged (by_soft before) awake) in
        kept_by_map g (entry w m) (sorted (by_soft before) awake) ∙
        ap (map (entry w m)) (one _ (subst (λ l. Rearranged l (filter (λ x. g (entry w m x)) (sorted (by_soft before) awake))) e r))

    pub logs_once : (p : Timer A) → Distinct xs → In xs p → ripe before w p ≡ true → filter (of before p) (wake_up before w xs) ≡ entry w m p ∷ []
    logs_once p d i t =
        log_kept (of before p) (p ∷ [])
        (only (λ x. of before p (entry w m x)) p awake (pairwise_kept (ripe before w) _ xs d) (kept_in (ripe before w) p xs i t) (from_of p (entry w m p) (itself p))
        (λ x h. (of_from p (entry w m x) h).number))
        (rearranged_one p)

    pub logs_none : (p : Timer A) → ripe before w p ≡ false → filter (of before p) (wake_up before w xs) ≡ []
    logs_none p f =
        log_kept (of before p) []
        (none_kept (λ x. of before p (entry w m x)) awake
        (All-weaker (λ x. ripe before w x ≡ true) (λ x. of before p (entry w m x) ≡ false)
        (λ x t. ⊎_elim (λ h. absurd (both_ways (ripe before w p) f (ap (λ s. not (before w s)) (sym (of_from p (entry w m x) h).soft) ∙ t))) (λ h. h)
        (cases_Bool (of before p (entry w m x))))
        awake (kept_by_passes (ripe before w) xs)))
        (rearranged_none)

    pub logs_ripe : AllByRecursion (λ f. Any (λ p. From p f) xs) (wake_up before w xs)
    logs_ripe =
        let P : Firing A → Type 0 = λ f. Any (λ p. From p f) xs in
        let Q : Timer A → Type 0 = λ x. P (entry w m x) in
        All-map P (entry w m) (sorted (by_soft before) awake)
        (all_rearranged Q (sorted_rearranged (by_soft before) awake)
        (all_from_in Q awake (λ x i. any_at (λ p. From p (entry w m x)) x xs (in_kept (ripe before w) x xs i) (itself x))))

    abbrev ends : Timer A → Bool
    ends x = same before x.hard w

    -- the timer that carries the mark: of those whose hard time is w, the one with the lowest number
    pub record Bearer : Type 0 where
      pub timer : Timer A
      pub stands : In xs timer
      pub at_w : timer.hard ≡ w
      pub named : m ≡ Some timer.number

    abbrev final : List (Timer A)
    final = filter ends xs

    bearer_at : (n : ℕ) → m ≡ Some n → Bearer
    bearer_at n e =
        let low = least_lowest ltb number_order (map (λ x. x.number) final) n e in
        let b = any_find (λ x. x.number ≡ n) final (map_any (λ x. x.number) (λ k. k ≡ n) final low.stands) in
        record {
          timer = b.0;
          stands = in_kept ends b.0 xs b.1;
          at_w = same_is before o b.0.hard w (all_in (λ x. ends x ≡ true) b.0 final (kept_by_passes ends xs) b.1);
          named = e ∙ ap Some (sym b.2);
        }

    bearer_found : Next xs w → Bearer
    bearer_found next =
        let some = any_kept ends (λ x. x.hard ≡ w) (λ x e. ap (λ h. same before h w) e ∙ same_itself before o w) xs next.stands in
        let low = least_some ltb number_order (λ _. Unit {0}) (map (λ x. x.number) final) (any_map (λ x. x.number) (λ _. Unit {0}) final (any_weaker (λ x e. tt) final some)) in
        bearer_at low.0 low.1

    bears : (b x : Timer A) → m ≡ Some b.number → names m x.number ≡ eqb b.number x.number
    bears b x e = ap (λ k. names k x.number) e

    -- the mark is on one entry
    pub marks_one : Distinct xs → Proper xs → Next xs w → (b : Bearer) × (filter (λ f. f.mark) (wake_up before w xs) ≡ entry w m b.timer ∷ [])
    marks_one d proper next = let b = bearer_found next in (b, one b.timer b.stands b.at_w b.named)
      where
        one : (b : Timer A) → In xs b → b.hard ≡ w → m ≡ Some b.number → filter (λ f. f.mark) (wake_up before w xs) ≡ entry w m b ∷ []
        one b i at_w named =
            let proper_b = all_in (λ x. before x.hard x.soft ≡ false) b xs proper i in
            log_kept (λ f. f.mark) (b ∷ [])
            (only (λ x. names m x.number) b awake (pairwise_kept (ripe before w) _ xs d) (kept_in (ripe before w) b xs i (ends_ripe w b proper_b at_w))
            (bears b b named ∙ eq-eqb b.number b.number refl)
            (λ x t. sym (eqb-true b.number x.number (sym (bears b x named) ∙ t))))
            (rearranged_one b)
