-- A step keeps the invariant.
use Rattle.std.proofs.Common.{◌≡◌, ◌+◌, Bool, true, false, not, ◌&&◌, ◌||◌, List, [], ◌∷◌, ◌++◌, length, filter, sym, refl, ap, ◌∙◌, subst, ap₂, inl, inr, ⊎_elim, append_assoc, append-nil, length-append}
use Rattle.std.specs.List.{AllByRecursion}
use Rattle.std.proofs.lemmas.List.Elements.{filter-append}
use Rattle.std.proofs.ByRecursion.{All-weaker, All-append, All-push, all_kept_by}
use Rattle.heap_links.specs.declared.timer.Timer.{Timer}
use Rattle.queue_rules.specs.declared.firing.Firing.{Firing}
use Rattle.times.specs.Order.{StrictOrder}
use Rattle.queue_rules.specs.Lists.{Any, Pairwise}
use Rattle.queue_rules.specs.Calls.{State}
use Rattle.queue_rules.specs.Events.{Deed, armed, cancelled, advanced, Event}
use Rattle.queue_rules.specs.Histories.{Course, logged, log, marked, course, courses, dropped, tries, of, undisturbed}
use Rattle.queue_rules.specs.Claims.{DueOnce, Counted}
use Rattle.queue_rules.proofs.Elements.{In, all_in, all_from_in, any_find, any_weaker, in_kept, kept_in, pairwise_append}
use Rattle.queue_rules.proofs.Orders.{lt_le}
use Rattle.queue_rules.proofs.Stabbing.{Over}
use Rattle.queue_rules.proofs.Waking.{From, from_of}
use Rattle.queue_rules.proofs.Walking.{Past, marks, logs_after, logs_not}
use Rattle.queue_rules.proofs.Appending.{then_too, log_more, wake_ups_more, clock_more, each_more, longer, all_courses, any_courses, any_new}
use Rattle.queue_rules.proofs.Invariant.{Alive, Done, Bound, Fate, Owned, Marked, Holds, Quiet, Treated, Origin, Step}

module _ {A : Type 0} (before : A → A → Bool) (o : StrictOrder before) where
  -- the event, and then more
  shift : (e : Event A) (es more : List (Event A)) → then_too e es ++ more ≡ es ++ (e ∷ more)
  shift e es more = append_assoc es (e ∷ []) more

  logged_next : (e : Event A) (x : Timer A) (fs : List (Firing A)) (more : List (Event A)) → filter (of before x) (logged e.deed) ≡ fs →
      filter (of before x) (log (e ∷ more)) ≡ fs ++ filter (of before x) (log more)
  logged_next e x fs more h = filter-append (of before x) (logged e.deed) (log more) ∙ ap (λ l. l ++ filter (of before x) (log more)) h

  alive_more : (e : Event A) (k : Course A) → Quiet before o e k.timer → Alive before o k → Alive before o (longer e k)
  alive_more e k q a =
      let x = k.timer in
      record {
        unfired = λ more. ap (λ l. filter (of before x) (log l)) (shift e k.later more) ∙ a.unfired (e ∷ more) ∙ logged_next e x [] more q.unlogged;
        undropped = λ more. ap (dropped x.number) (shift e k.later more) ∙ a.undropped (e ∷ more) ∙ q.undropped (dropped x.number more);
        untried = λ more. ap (undisturbed before x) (shift e k.later more) ∙ a.untried (e ∷ more) ∙
            ap (λ b. b || (not (tries x.number e.deed) && undisturbed before x more)) q.ahead ∙
            ap (λ b. not b && undisturbed before x more) q.untried;
      }

  new_alive : (d : Deed A) (Q : Timer A → Type 0) → Any (λ k. Q k.timer) (course d []) → Any (λ k. Q k.timer × Alive before o k) (course d [])
  new_alive (armed true x) Q (inl h) = inl (h, record { unfired = λ more. refl; undropped = λ more. refl; untried = λ more. refl })
  new_alive (armed true x) Q (inr i) = elim i [ ]
  new_alive (armed false x) Q i = elim i [ ]
  new_alive (cancelled b n) Q i = elim i [ ]
  new_alive (advanced b t n fs) Q i = elim i [ ]

  new_fates : (d : Deed A) (s : State A) → AllByRecursion (λ k. In s.pending k.timer) (course d []) → AllByRecursion (Fate before o s) (course d [])
  new_fates (armed true x) s a = (inl (record { unfired = λ more. refl; undropped = λ more. refl; untried = λ more. refl }, a.0), tt)
  new_fates (armed false x) s a = tt
  new_fates (cancelled b n) s a = tt
  new_fates (advanced b t n fs) s a = tt

  module _ (s : State A) (e : Event A) (s' : State A) (step : Step before o s e s') where
    past_more : (a : A) → Past before o a s.clock s.pending → Past before o a s'.clock s'.pending
    past_more a p = record {
      clock = lt_le before o a s.clock s'.clock p.clock step.onward;
      softs = All-weaker (Origin before o s e) (λ q. before a q.soft ≡ true)
          (λ q. ⊎_elim (λ h. all_in (λ z. before a z.soft ≡ true) q s.pending p.softs h.0) (λ h. lt_le before o a s.clock q.soft p.clock h.1))
          s'.pending step.origins;
    }

    fate_treated : (k : Course A) → Alive before o k → Treated before o e s' k.timer → Fate before o s' (longer e k)
    fate_treated k a =
        let x = k.timer in
        ⊎_elim {C = Fate before o s' (longer e k)}
        (λ h. inl (alive_more e k h.1 a, h.0))
        (⊎_elim {C = Fate before o s' (longer e k)}
        (λ h. inr (inl (record {
          by = h.by;
          inside = h.inside;
          over = h.over;
          one = λ more. ap (λ l. filter (of before x) (log l)) (shift e k.later more) ∙ a.unfired (e ∷ more) ∙ logged_next e x (h.by ∷ []) more h.one;
        })))
        (λ h. inr (inr (λ more. ap (dropped x.number) (shift e k.later more) ∙ a.undropped (e ∷ more) ∙ h.drops (dropped x.number more)))))

    done_more : (k : Course A) → Done before o s k → Done before o s' (longer e k)
    done_more k h =
        let x = k.timer in
        record {
          by = h.by;
          inside = h.inside;
          over = past_more x.soft h.over;
          one = λ more. ap (λ l. filter (of before x) (log l)) (shift e k.later more) ∙ h.one (e ∷ more) ∙
              ap (λ l. h.by ∷ l) (logged_next e x [] more (logs_not before o x s.pending (logged e.deed) h.over.softs step.logs));
        }

    fate_more : (k : Course A) → Fate before o s k → Fate before o s' (longer e k)
    fate_more k =
        ⊎_elim {C = Fate before o s' (longer e k)}
        (λ h. fate_treated k h.0 (all_in (Treated before o e s') k.timer s.pending step.treated h.1))
        (⊎_elim {C = Fate before o s' (longer e k)} (λ h. inr (inl (done_more k h)))
        (λ h. inr (inr (λ more. ap (dropped k.timer.number) (shift e k.later more) ∙ h (e ∷ more)))))

    owned_more : (es : List (Event A)) (q : Timer A) → AllByRecursion (Owned before o es) s.pending → Origin before o s e q → Owned before o (then_too e es) q
    owned_more es q own =
        ⊎_elim {C = Owned before o (then_too e es) q}
        (λ h. any_courses e (λ k. (k.timer ≡ q) × Alive before o k) (λ k. (k.timer ≡ q) × Alive before o k)
        (λ k a. (a.0, alive_more e k (subst (Quiet before o e) (sym a.0) h.1) a.1)) es
        (all_in (Owned before o es) q s.pending own h.0))
        (λ h. any_new e (λ k. (k.timer ≡ q) × Alive before o k) es (new_alive e.deed (λ x. x ≡ q) h.0))

    due : (k : Course A) (f : Firing A) (p : Timer A) → k.timer ≡ p → Alive before o k → filter (of before p) (logged e.deed) ≡ f ∷ [] →
        DueOnce before (logged e.deed) f k
    due k f p same a one = (
      ap (dropped k.timer.number) (sym (append-nil k.later)) ∙ a.undropped [],
      ap (λ l. filter (of before k.timer) (log l)) (sym (append-nil k.later)) ∙ a.unfired [],
      ap (λ x. filter (of before x) (logged e.deed)) same ∙ one,
    )

    -- the timer that an entry is of, with all its entries
    entry_one : (f : Firing A) → In (logged e.deed) f → (p : Timer A) × In s.pending p × From p f × (filter (of before p) (logged e.deed) ≡ f ∷ [])
    entry_one f i =
        let fs = logged e.deed in
        let h = any_find (λ p. From p f) s.pending (all_in (λ g. Any (λ p. From p g) s.pending) f fs step.logs i) in
        let p = h.0 in
        let stands = kept_in (of before p) f fs i (from_of before o p f h.2) in (
          p,
          h.1,
          h.2,
          ⊎_elim (λ q. absurd (subst (λ l. In l f) q.1.unlogged stands))
              (⊎_elim (λ q. q.one ∙ ⊎_elim (λ same. ap (λ g. g ∷ []) same) (λ n. absurd n) (subst (λ l. In l f) q.one stands))
              (λ q. absurd (subst (λ l. In l f) q.unlogged stands)))
              (all_in (Treated before o e s') p s.pending step.treated h.1),
        )

    entries_due : (es : List (Event A)) → AllByRecursion (Owned before o es) s.pending →
        AllByRecursion (λ f. Any (DueOnce before (logged e.deed) f) (courses es)) (logged e.deed)
    entries_due es own =
        let fs = logged e.deed in
        all_from_in (λ f. Any (DueOnce before fs f) (courses es)) fs
        (λ f i.
        let r = entry_one f i in
        any_weaker (λ k h. due k f r.0 h.0 h.1 r.3) (courses es) (all_in (Owned before o es) r.0 s.pending own r.1))

    marked_more : (es : List (Event A)) → marked (then_too e es) ≡ marked es ++ marks before o (logged e.deed)
    marked_more es = ap (marks before o) (log_more e es) ∙ filter-append (λ f. f.mark) (log es) (logged e.deed)

    bound_still : (es : List (Event A)) (f : Firing A) → Marked before o es s f → Marked before o (then_too e es) s' f
    bound_still es f h = (
      past_more f.hard h.0,
      any_courses e (λ k. From k.timer f × Bound before o k) (λ k. From k.timer f × Bound before o k)
          (λ k b. (b.0, λ more. ap (undisturbed before k.timer) (shift e k.later more) ∙ b.1 (e ∷ more))) es h.1,
    )

    -- the advance that fired it took the clock past its hard time
    bound_now : (k : Course A) (f : Firing A) (p : Timer A) → k.timer ≡ p → Alive before o k → From p f → Past before o f.hard s'.clock s'.pending →
        From k.timer f × Bound before o (longer e k)
    bound_now k f p same a from over =
        let mine = subst (λ x. From x f) (sym same) from in
        let passed : before k.timer.hard e.clock ≡ true =
        ap (λ h. before h e.clock) (sym mine.hard) ∙ ap (before f.hard) step.now ∙ over.clock in (
          mine,
          λ more. ap (undisturbed before k.timer) (shift e k.later more) ∙ a.untried (e ∷ more) ∙
              ap (λ b. b || (not (tries k.timer.number e.deed) && undisturbed before k.timer more)) passed,
        )

    bound_new : (es : List (Event A)) → AllByRecursion (Owned before o es) s.pending → AllByRecursion (Marked before o (then_too e es) s') (marks before o (logged e.deed))
    bound_new es own =
        let fs = logged e.deed in
        all_from_in (Marked before o (then_too e es) s') (marks before o fs)
        (λ f i.
        let over = all_in (λ g. Past before o g.hard s'.clock s'.pending) f (marks before o fs) step.over i in
        let r = entry_one f (in_kept (λ g. g.mark) f fs i) in (
          over,
          any_courses e (λ k. (k.timer ≡ r.0) × Alive before o k) (λ k. From k.timer f × Bound before o k)
              (λ k h. bound_now k f r.0 h.0 h.1 r.2 over) es (all_in (Owned before o es) r.0 s.pending own r.1),
        ))

    apart_more : (es : List (Event A)) → Pairwise (Over before o) (marked es) → AllByRecursion (Marked before o es s) (marked es) → Pairwise (Over before o) (marked (then_too e es))
    apart_more es p b =
        let fs = logged e.deed in
        subst (Pairwise (Over before o)) (sym (marked_more es))
        (pairwise_append (Over before o) (marked es) (marks before o fs) p step.apart
        (All-weaker (Marked before o es s) (λ f. AllByRecursion (Over before o f) (marks before o fs))
        (λ f h. all_kept_by (λ g. g.mark) (Over before o f) fs (logs_after before o f.hard s.pending fs h.0.softs step.logs))
        (marked es) b))

    pub holds_more : (c : A) (es : List (Event A)) → Holds before o c es s → Holds before o c (then_too e es) s'
    holds_more c es h = record {
      sound = step.sound;
      now = clock_more e c es ∙ step.now;
      fates = all_courses e (Fate before o s) (Fate before o s') fate_more es h.fates (new_fates e.deed s' step.fresh);
      owned = All-weaker (Origin before o s e) (Owned before o (then_too e es)) (λ q. owned_more es q h.owned) s'.pending step.origins;
      counts = ap length (marked_more es) ∙ length-append (marked es) (marks before o (logged e.deed)) ∙
          ap₂ ◌+◌ h.counts step.counts ∙ sym (wake_ups_more e es);
      apart = apart_more es h.apart h.bound;
      bound = subst (AllByRecursion (Marked before o (then_too e es) s')) (sym (marked_more es))
          (All-append (Marked before o (then_too e es) s') (marked es) (marks before o (logged e.deed))
          (All-weaker (Marked before o es s) (Marked before o (then_too e es) s') (bound_still es) (marked es) h.bound) (bound_new es h.owned));
      logs = each_more e _ [] es h.logs (entries_due es h.owned);
      counted = All-push (λ d. Counted d.deed) es e h.counted step.counted;
    }
