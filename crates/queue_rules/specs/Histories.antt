-- What a history says of its timers. A history is a list of events, oldest first. Assumes nothing.
--     log es, wake-ups es      the entries that accepted advances wrote, in order; the wake-ups that they answered, added up
--     marked es                the entries that carry a mark
--     clock_after c es         the alarm's clock after the last event, from the clock c at the start
--     Course, courses es       the timers of the history: each accepted arming, with the events after it
--     of x f                   the entry f has the number, the soft and the hard time of x
--     firings k                a timer's firings: the later entries that are of it
--     dropped n es             an accepted cancel of n comes before any accepted arming of n: the timer was cancelled
--     undisturbed x es         up to the event that first takes the clock past x's hard time no cancel of its number is tried
--     binds c k                its hard time is before the clock c, and it was undisturbed
use Rattle.std.specs.Prelude.{ℕ, ◌+◌, Bool, true, false, not, ◌&&◌, ◌||◌, List, [], ◌∷◌, ◌++◌, filter, ◌==◌}
use Rattle.heap_links.specs.declared.timer.Timer.{Timer}
use Rattle.queue_rules.specs.declared.firing.Firing.{Firing}
use Rattle.queue_rules.specs.Timers.{same, numbered}
use Rattle.queue_rules.specs.Events.{Deed, armed, cancelled, advanced, Event}

pub record Course (A : Type 0) : Type 0 where
  pub timer : Timer A
  pub later : List (Event A)

module _ {A : Type 0} where
  abbrev pub logged : Deed A → List (Firing A)
  logged (armed b x) = []
  logged (cancelled b n) = []
  logged (advanced true t n fs) = fs
  logged (advanced false t n fs) = []

  abbrev pub log : List (Event A) → List (Firing A)
  log [] = []
  log (e ∷ es) = logged e.deed ++ log es

  abbrev pub marked : List (Event A) → List (Firing A)
  marked es = filter (λ f. f.mark) (log es)

  abbrev pub woken : Deed A → ℕ
  woken (armed b x) = 0
  woken (cancelled b n) = 0
  woken (advanced true t n fs) = n.0
  woken (advanced false t n fs) = 0

  abbrev pub wake_ups : List (Event A) → ℕ
  wake_ups [] = 0
  wake_ups (e ∷ es) = woken e.deed + wake_ups es

  abbrev pub clock_after : A → List (Event A) → A
  clock_after c [] = c
  clock_after c (e ∷ es) = clock_after e.clock es

  abbrev pub course : Deed A → List (Event A) → List (Course A)
  course (armed true x) es = record { timer = x; later = es } ∷ []
  course (armed false x) es = []
  course (cancelled b n) es = []
  course (advanced b t n fs) es = []

  abbrev pub courses : List (Event A) → List (Course A)
  courses [] = []
  courses (e ∷ es) = course e.deed es ++ courses es

  -- what a deed makes of being dropped, where the later events make of it r
  abbrev pub dropped_by : ℕ → Deed A → Bool → Bool
  dropped_by n (armed true x) r = not (numbered n x) && r
  dropped_by n (armed false x) r = r
  dropped_by n (cancelled true m) r = n == m || r
  dropped_by n (cancelled false m) r = r
  dropped_by n (advanced b t k fs) r = r

  abbrev pub dropped : ℕ → List (Event A) → Bool
  dropped n [] = false
  dropped n (e ∷ es) = dropped_by n e.deed (dropped n es)

  abbrev pub tries : ℕ → Deed A → Bool
  tries n (armed b x) = false
  tries n (cancelled b m) = n == m
  tries n (advanced b t k fs) = false

module _ {A : Type 0} (before : A → A → Bool) where
  abbrev pub of : Timer A → Firing A → Bool
  of x f = f.number == x.number && (same before f.soft x.soft && same before f.hard x.hard)

  abbrev pub firings : Course A → List (Firing A)
  firings k = filter (of k.timer) (log k.later)

  abbrev pub undisturbed : Timer A → List (Event A) → Bool
  undisturbed x [] = true
  undisturbed x (e ∷ es) = before x.hard e.clock || (not (tries x.number e.deed) && undisturbed x es)

  abbrev pub binds : A → Course A → Bool
  binds c k = before k.timer.hard c && undisturbed k.timer k.later
