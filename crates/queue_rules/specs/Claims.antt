-- What is claimed of every list of calls. Assumes nothing.
--     NoTimerMissed        a timer whose hard time is before the clock and that was not cancelled fired once, inside its window
--     NoShorterList        a list of times that meets the window of each binding timer has at least as many times as there were wake-ups
--     Certificate            there are as many marked entries as wake-ups, and no two of their windows share a time
--     NothingElseLogged    each entry is the one firing so far of a timer that was armed before and not cancelled since
--     Counted                an advance answered as many firings as it wrote entries; a refused one woke, fired and wrote nothing
use Rattle.std.specs.Prelude.{◌≡◌, ℕ, ◌≤◌, Bool, true, false, List, [], ◌∷◌, ◌++◌, length, filter}
use Rattle.std.specs.List.{AllByRecursion}
use Rattle.heap_links.specs.declared.timer.Timer.{Timer}
use Rattle.queue_rules.specs.declared.firing.Firing.{Firing}
use Rattle.queue_rules.specs.Lists.{Any, Pairwise}
use Rattle.queue_rules.specs.Timers.{Inside}
use Rattle.queue_rules.specs.Events.{Deed, armed, cancelled, advanced, Event, Lived}
use Rattle.queue_rules.specs.Calls.{State}
use Rattle.queue_rules.specs.Histories.{Course, logged, marked, wake_ups, clock_after, courses, dropped, of, firings, binds}

abbrev pub Counted : {A : Type 0} → Deed A → Type 0
Counted (armed b x) = Unit {0}
Counted (cancelled b n) = Unit {0}
Counted (advanced true t n fs) = n.1 ≡ length fs
Counted (advanced false t n fs) = (n.0 ≡ 0) × (n.1 ≡ 0) × (fs ≡ [])

-- P holds of each event and those before it
abbrev pub EachEvent : {A : Type 0} → (List (Event A) → Event A → Type 0) → List (Event A) → List (Event A) → Type 0
EachEvent P earlier [] = Unit {0}
EachEvent P earlier (e ∷ es) = P earlier e × EachEvent P (earlier ++ (e ∷ [])) es

module _ {A : Type 0} (before : A → A → Bool) where
  -- t lies in the timer's window
  abbrev pub Meets : Timer A → A → Type 0
  Meets x t = Inside before x.soft x.hard t

  abbrev pub FiredOnce : Course A → Type 0
  FiredOnce k = (f : Firing A) × (firings before k ≡ f ∷ []) × Meets k.timer f.wake

  abbrev pub NoTimerMissed : A → List (Event A) → Type 0
  NoTimerMissed c es =
      AllByRecursion (λ k. before k.timer.hard (clock_after c es) ≡ true → dropped k.timer.number k.later ≡ false → FiredOnce k) (courses es)

  abbrev pub NoShorterList : A → List (Event A) → Type 0
  NoShorterList c es =
      (times : List A) →
      AllByRecursion (λ k. binds before (clock_after c es) k ≡ true → Any (Meets k.timer) times) (courses es) →
      wake_ups es ≤ length times

  -- no time lies in both windows
  abbrev pub Apart : Firing A → Firing A → Type 0
  Apart f g = (t : A) → Inside before f.soft f.hard t → Inside before g.soft g.hard t → ⊥

  abbrev pub Certificate : List (Event A) → Type 0
  Certificate es = (length (marked es) ≡ wake_ups es) × Pairwise Apart (marked es)

  -- among the entries fs of one advance, f is the only one of the timer, which had not fired before
  abbrev pub DueOnce : List (Firing A) → Firing A → Course A → Type 0
  DueOnce fs f k = (dropped k.timer.number k.later ≡ false) × (firings before k ≡ []) × (filter (of before k.timer) fs ≡ f ∷ [])

  abbrev pub NothingElseLogged : List (Event A) → Type 0
  NothingElseLogged es =
      EachEvent (λ earlier e. AllByRecursion (λ f. Any (DueOnce (logged e.deed) f) (courses earlier)) (logged e.deed)) [] es

  pub record Claims (c : A) (es : List (Event A)) : Type 0 where
    pub no_timer_missed : NoTimerMissed c es
    pub no_shorter_list : NoShorterList c es
    pub certificate : Certificate es
    pub nothing_else_logged : NothingElseLogged es
    pub counted : AllByRecursion (λ e. Counted e.deed) es

  -- the claims hold of every history that a list of calls leaves
  abbrev pub ClaimsHold : Type 0
  ClaimsHold =
      (u : ℕ) (c : A) (es : List (Event A)) (s : State A) → Lived before u c es s → Claims c es
