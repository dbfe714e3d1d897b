-- What every list of calls keeps, and what a call has to do to keep it.
use Rattle.std.proofs.Common.{◌≡◌, Bool, true, false, ◌⊎◌, List, [], ◌∷◌, ◌++◌, length, filter}
use Rattle.std.specs.List.{AllByRecursion}
use Rattle.heap_links.specs.declared.timer.Timer.{Timer}
use Rattle.queue_rules.specs.declared.firing.Firing.{Firing}
use Rattle.times.specs.Order.{StrictOrder}
use Rattle.queue_rules.specs.Lists.{Any, Pairwise}
use Rattle.queue_rules.specs.Calls.{State}
use Rattle.queue_rules.specs.States.{Standing}
use Rattle.queue_rules.specs.Events.{Event}
use Rattle.queue_rules.specs.Histories.{Course, logged, log, marked, woken, wake_ups, clock_after, course, courses, dropped_by, dropped, tries, of, undisturbed}
use Rattle.queue_rules.specs.Claims.{Meets, Counted, NothingElseLogged}
use Rattle.queue_rules.proofs.Elements.{In}
use Rattle.queue_rules.proofs.Stabbing.{Over}
use Rattle.queue_rules.proofs.Waking.{From}
use Rattle.queue_rules.proofs.Walking.{Past, Logs, Once, marks}

module _ {A : Type 0} (before : A → A → Bool) (o : StrictOrder before) where
  -- nothing happened to the timer yet: whatever comes is all that counts
  pub record Alive (k : Course A) : Type 0 where
    pub unfired : (more : List (Event A)) → filter (of before k.timer) (log (k.later ++ more)) ≡ filter (of before k.timer) (log more)
    pub undropped : (more : List (Event A)) → dropped k.timer.number (k.later ++ more) ≡ dropped k.timer.number more
    pub untried : (more : List (Event A)) → undisturbed before k.timer (k.later ++ more) ≡ undisturbed before k.timer more

  -- it fired, once
  pub record Done (s : State A) (k : Course A) : Type 0 where
    pub by : Firing A
    pub inside : Meets before k.timer by.wake
    pub over : Past before o k.timer.soft s.clock s.pending
    pub one : (more : List (Event A)) → filter (of before k.timer) (log (k.later ++ more)) ≡ by ∷ filter (of before k.timer) (log more)

  -- it was cancelled
  abbrev pub Gone : Course A → Type 0
  Gone k = (more : List (Event A)) → dropped k.timer.number (k.later ++ more) ≡ true

  -- it binds once its hard time is passed
  abbrev pub Bound : Course A → Type 0
  Bound k = (more : List (Event A)) → undisturbed before k.timer (k.later ++ more) ≡ true

  abbrev pub Fate : State A → Course A → Type 0
  Fate s k = (Alive k × In s.pending k.timer) ⊎ (Done s k ⊎ Gone k)

  abbrev pub Owned : List (Event A) → Timer A → Type 0
  Owned es p = Any (λ k. (k.timer ≡ p) × Alive k) (courses es)

  abbrev pub Marked : List (Event A) → State A → Firing A → Type 0
  Marked es s f = Past before o f.hard s.clock s.pending × Any (λ k. From k.timer f × Bound k) (courses es)

  pub record Holds (c : A) (es : List (Event A)) (s : State A) : Type 0 where
    pub sound : Standing before s
    pub now : clock_after c es ≡ s.clock
    pub fates : AllByRecursion (Fate s) (courses es)
    pub owned : AllByRecursion (Owned es) s.pending
    pub counts : length (marked es) ≡ wake_ups es
    pub apart : Pairwise (Over before o) (marked es)
    pub bound : AllByRecursion (Marked es s) (marked es)
    pub logs : NothingElseLogged before es
    pub counted : AllByRecursion (λ e. Counted e.deed) es

  -- the event leaves p alone
  pub record Quiet (e : Event A) (p : Timer A) : Type 0 where
    pub unlogged : filter (of before p) (logged e.deed) ≡ []
    pub undropped : (r : Bool) → dropped_by p.number e.deed r ≡ r
    pub untried : tries p.number e.deed ≡ false
    pub ahead : before p.hard e.clock ≡ false

  -- the event cancels p
  pub record Drops (e : Event A) (p : Timer A) : Type 0 where
    pub unlogged : filter (of before p) (logged e.deed) ≡ []
    pub drops : (r : Bool) → dropped_by p.number e.deed r ≡ true

  abbrev pub Treated : Event A → State A → Timer A → Type 0
  Treated e s p = (In s.pending p × Quiet e p) ⊎ (Once before o s.clock s.pending (logged e.deed) p ⊎ Drops e p)

  abbrev pub Origin : State A → Event A → Timer A → Type 0
  Origin s e q = (In s.pending q × Quiet e q) ⊎ (Any (λ k. k.timer ≡ q) (course e.deed []) × (before q.soft s.clock ≡ false))

  -- what a call does that has the event e and takes s to s'
  pub record Step (s : State A) (e : Event A) (s' : State A) : Type 0 where
    pub sound : Standing before s'
    pub usable : s'.usable ≡ s.usable
    pub now : e.clock ≡ s'.clock
    pub onward : before s'.clock s.clock ≡ false
    pub treated : AllByRecursion (Treated e s') s.pending
    pub fresh : AllByRecursion (λ k. In s'.pending k.timer) (course e.deed [])
    pub origins : AllByRecursion (Origin s e) s'.pending
    pub logs : Logs before o s.pending (logged e.deed)
    pub counts : length (marks before o (logged e.deed)) ≡ woken e.deed
    pub apart : Pairwise (Over before o) (marks before o (logged e.deed))
    pub over : AllByRecursion (λ f. Past before o f.hard s'.clock s'.pending) (marks before o (logged e.deed))
    pub counted : Counted e.deed
