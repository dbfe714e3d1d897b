-- A timer that passes the tests and leaves the slots is cancelled.
use Rattle.std.proofs.Common.{◌≡◌, ℕ, Bool, false, List, [], ◌∷◌, None, Ok, Option, ap, ◌∙◌}
use Rattle.alarms.specs.Meaning.{NotPast}
use Rattle.heap_links.specs.declared.timer.Timer.{Timer}
use Rattle.slot_heaps.specs.Pending.{Inserted}
use Rattle.times.specs.Order.{StrictOrder}
use Rattle.queue_rules.specs.Calls.{cancelling}
use Rattle.timer_queue.specs.Doing.{gives}
use Rattle.queue_rules.specs.Lists.{Rearranged}
use Rattle.queue_rules.specs.Timers.{Distinct, least_hard}
use Rattle.timer_queue.specs.Views.{view, cancel_refusal}
use Rattle.timer_queue.proofs.Entering.{view_is, kept_due, still_ahead}
use Rattle.timer_queue.proofs.Inserting.{inserted_rearranged}
use Rattle.queue_rules.proofs.Numbering.{distinct_rearranged}
use Rattle.timer_queue.proofs.Outcomes.{cancel_taken, all_ahead}
use Rattle.queue_rules.proofs.Rearranged.{all_rearranged}
use Rattle.queue_rules.proofs.Waking.{Proper}

module _ {A : Type 0} (before : A → A → Bool) (o : StrictOrder before) (u : ℕ) (xs ys : List (Timer A)) (c : A) (d : Option A) (n : ℕ) (x : Timer A)
    (found : cancel_refusal before u xs c d n ≡ None) (ahead : NotPast before c d) (taken : Inserted x ys xs) (named : x.number ≡ n)
    (distinct : Distinct xs) (proper : Proper before o xs) where
  placed : Rearranged xs (x ∷ ys)
  placed = inserted_rearranged x ys xs taken

  pub left_distinct : Distinct ys
  left_distinct = (distinct_rearranged placed distinct).1

  pub left_proper : Proper before o ys
  left_proper = (all_rearranged _ placed proper).1

  -- so that the alarm can be set to the least hard time
  pub left_ahead : NotPast before c (least_hard before ys)
  left_ahead =
      all_ahead before o c ys (all_rearranged (λ y. before y.hard c ≡ false) placed (still_ahead before o xs c d (kept_due before o xs d _ found).0 ahead)).1

  pub left : (u' : ℕ) (c' : A) (d' : Option A) → u' ≡ u → c' ≡ c → d' ≡ least_hard before ys →
      cancelling before (view u xs c d) n ≡ gives (Ok tt) (view u' ys c' d') []
  left u' c' d' p q r =
      cancel_taken before o u xs c d x ys n found placed distinct named
      ∙ ap (λ s. gives (Ok tt) s []) (view_is u u' ys c c' (least_hard before ys) d' p q r)
