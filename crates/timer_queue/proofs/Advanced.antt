-- An advance that passes the tests and serves its wake-ups comes out as it is defined.
use Rattle.std.proofs.Common.{◌≡◌, ℕ, ◌+◌, Bool, false, List, ◌++◌, length, take, drop, None, Ok, Option, sym, refl, ap, ◌∙◌, ap₂, zero-add, arith}
use Rattle.std.proofs.lemmas.List.{take_at, drop_at}
use Rattle.heap_links.specs.declared.timer.Timer.{Timer}
use Rattle.times.specs.Order.{StrictOrder}
use Rattle.queue_rules.specs.declared.fault.QueueFault.TheVariants.{AdvancePassed}
use Rattle.queue_rules.specs.declared.firing.Firing.{Firing}
use Rattle.queue_rules.specs.Calls.{advancing}
use Rattle.timer_queue.specs.Doing.{gives}
use Rattle.timer_queue.specs.Services.{CountedAll, ServedAll}
use Rattle.queue_rules.specs.Timers.{Distinct, least_hard}
use Rattle.timer_queue.specs.Views.{view, advance_refusal}
use Rattle.queue_rules.specs.WakeUps.{walk}
use Rattle.timer_queue.proofs.Entering.{view_is, kept_due}
use Rattle.timer_queue.proofs.Outcomes.{advance_taken}
use Rattle.queue_rules.proofs.Stepping.{given_none}
use Rattle.queue_rules.proofs.Waking.{Proper}

module _ {A : Type 0} (before : A → A → Bool) (o : StrictOrder before) (u : ℕ) (xs : List (Timer A)) (c : A) (d : Option A) (t : A) (room : ℕ)
    (open_way : advance_refusal before u xs c d t room ≡ None) where
  -- what the tests tell the work
  pub as_due : d ≡ least_hard before xs
  as_due = (kept_due before o xs d _ open_way).0

  pub not_back : before t c ≡ false
  not_back = (given_none (before t c) AdvancePassed _ (kept_due before o xs d _ open_way).1).0

  module _ (ys : List (Timer A)) (n m : ℕ) (old new : List (Firing A)) (c' : A) (d' : Option A) (distinct : Distinct xs) (proper : Proper before o xs)
      (served : ServedAll before t xs ys n old new c' d') (counted : CountedAll before t xs ys) (fired : length xs ≡ length ys + m) where
    abbrev entries : List (Firing A)
    entries = (walk before t xs).entries

    pub as_many : length entries ≡ m
    as_many = omega (arith, counted)

    -- the log is these entries, and then what was there
    log_is : new ≡ entries ++ drop (length entries) old
    log_is = served.log ∙ ap (λ k. entries ++ drop k old) (zero-add (length entries))

    pub wrote : take m new ≡ entries
    wrote = ap (take m) log_is ∙ take_at entries (drop (length entries) old) m as_many

    pub stayed : drop m new ≡ drop m old
    stayed = ap (drop m) log_is ∙ drop_at entries (drop (length entries) old) m as_many ∙ ap (λ k. drop k old) as_many

    pub advanced_so : (u' : ℕ) → u' ≡ u → advancing before (view u xs c d) t room ≡ gives (Ok (n, m)) (view u' ys c' d') (take m new)
    advanced_so u' p =
        advance_taken before o u xs c d t room n entries ys open_way distinct proper served.distinct (record { wakes = served.wakes; entries = refl; rest = served.rest })
        ∙ ap₂ (λ k s. gives (Ok (n, k)) s entries) as_many (view_is u u' ys t c' (least_hard before ys) d' p served.clock served.due)
        ∙ ap (gives (Ok (n, m)) (view u' ys c' d')) (sym wrote)
