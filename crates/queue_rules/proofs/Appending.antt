-- A history with one event more.
use Rattle.std.proofs.Common.{◌≡◌, ◌+◌, true, false, List, [], ◌∷◌, ◌++◌, sym, refl, ap, ◌∙◌, subst, inl, inr, append_assoc, append-nil, arith}
use Rattle.std.specs.List.{AllByRecursion}
use Rattle.std.proofs.ByRecursion.{All-append}
use Rattle.queue_rules.specs.Lists.{Any}
use Rattle.queue_rules.specs.Events.{Deed, armed, cancelled, advanced, Event}
use Rattle.queue_rules.specs.Histories.{Course, logged, log, woken, wake_ups, clock_after, course, courses}
use Rattle.queue_rules.specs.Claims.{EachEvent}
use Rattle.queue_rules.proofs.Elements.{any_left, any_right}

module _ {A : Type 0} (e : Event A) where
  abbrev pub then_too : List (Event A) → List (Event A)
  then_too es = es ++ (e ∷ [])

  pub log_more : (es : List (Event A)) → log (then_too es) ≡ log es ++ logged e.deed
  log_more [] = append-nil (logged e.deed)
  log_more (d ∷ es) = ap (λ l. logged d.deed ++ l) (log_more es) ∙ sym (append_assoc (logged d.deed) (log es) (logged e.deed))

  pub wake_ups_more : (es : List (Event A)) → wake_ups (then_too es) ≡ wake_ups es + woken e.deed
  wake_ups_more [] = omega arith
  wake_ups_more (d ∷ es) = let ih = wake_ups_more es in omega arith

  pub clock_more : (c : A) (es : List (Event A)) → clock_after c (then_too es) ≡ e.clock
  clock_more c [] = refl
  clock_more c (d ∷ es) = clock_more d.clock es

  pub each_more : (P : List (Event A) → Event A → Type 0) (earlier es : List (Event A)) → EachEvent P earlier es → P (earlier ++ es) e →
      EachEvent P earlier (then_too es)
  each_more P earlier [] h p = (subst (λ l. P l e) (append-nil earlier) p, tt)
  each_more P earlier (d ∷ es) h p =
      (h.0, each_more P (earlier ++ (d ∷ [])) es h.1 (subst (λ l. P l e) (sym (append_assoc earlier (d ∷ []) es)) p))

  abbrev pub longer : Course A → Course A
  longer k = record { timer = k.timer; later = then_too k.later }

  module _ (P Q : Course A → Type 0) (step : (k : Course A) → P k → Q (longer k)) where
    all_first : (d : Deed A) (es : List (Event A)) (ks ks' : List (Course A)) → (AllByRecursion P ks → AllByRecursion Q ks') →
        AllByRecursion P (course d es ++ ks) → AllByRecursion Q (course d (then_too es) ++ ks')
    all_first (armed true x) es ks ks' f a = (step (record { timer = x; later = es }) a.0, f a.1)
    all_first (armed false x) es ks ks' f a = f a
    all_first (cancelled b n) es ks ks' f a = f a
    all_first (advanced b t n fs) es ks ks' f a = f a

    pub all_courses : (es : List (Event A)) → AllByRecursion P (courses es) → AllByRecursion Q (course e.deed []) → AllByRecursion Q (courses (then_too es))
    all_courses [] a b = All-append Q (course e.deed []) [] b tt
    all_courses (d ∷ es) a b = all_first d.deed es (courses es) (courses (then_too es)) (λ h. all_courses es h b) a

    any_first : (d : Deed A) (es : List (Event A)) (ks ks' : List (Course A)) → (Any P ks → Any Q ks') →
        Any P (course d es ++ ks) → Any Q (course d (then_too es) ++ ks')
    any_first (armed true x) es ks ks' f (inl p) = inl (step (record { timer = x; later = es }) p)
    any_first (armed true x) es ks ks' f (inr i) = inr (f i)
    any_first (armed false x) es ks ks' f i = f i
    any_first (cancelled b n) es ks ks' f i = f i
    any_first (advanced b t n fs) es ks ks' f i = f i

    pub any_courses : (es : List (Event A)) → Any P (courses es) → Any Q (courses (then_too es))
    any_courses [] i = elim i [ ]
    any_courses (d ∷ es) i = any_first d.deed es (courses es) (courses (then_too es)) (any_courses es) i

  pub any_new : (Q : Course A → Type 0) (es : List (Event A)) → Any Q (course e.deed []) → Any Q (courses (then_too es))
  any_new Q [] i = any_left Q (course e.deed []) [] i
  any_new Q (d ∷ es) i = any_right Q (course d.deed (then_too es)) (courses (then_too es)) (any_new Q es i)
