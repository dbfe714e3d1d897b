use Rattle.std.proofs.Common.{◌≡◌, ℕ, Bool, List, [], None, Option, sym, subst, rules}
use Rattle.heap_links.specs.declared.timer.Timer.{Timer}
use Rattle.queue_rules.specs.Events.{Lived, starting}
use Rattle.timer_queue.specs.Held.{held_timers}
use Rattle.timer_queue.specs.Views.{view}
use Rattle.timer_queue.proofs.queue.TimerQueue.start.Goals as goal

-- a queue that was just started, by equal parts
started_so : {A : Type 0} (before : A → A → Bool) (u u' : ℕ) (xs : List (Timer A)) (c c' : A) (d : Option A) → u' ≡ u → xs ≡ [] → c' ≡ c → d ≡ None →
    Lived before u c [] (view u' xs c' d)
started_so before u u' xs c c' d p q r e =
    subst (λ x. Lived before u c [] (view u' xs c' x)) (sym e)
    (subst (λ x. Lived before u c [] (view u' xs x None)) (sym r) (subst (λ x. Lived before u c [] (view u' x c None)) (sym q) (subst (λ x. Lived before u c [] (view x [] c None)) (sym p) starting)))

pub returns-clause-history : goal.returns-clause-history
returns-clause-history g c =
    let none : held_timers c.clear.new.self ≡ [] = search rules in
    started_so g.T.Time.before _ _ _ _ _ _ c.clear.ensures.length none c.clear-2.ensures.clocked c.clear-2.ensures.timed
