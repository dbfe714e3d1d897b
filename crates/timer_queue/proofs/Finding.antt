-- A search by number finds a slot exactly if a pending timer has that number.
use Rattle.std.proofs.Common.{◌≡◌, ℕ, Bool, false, ◌||◌, List, [], ◌∷◌, is_some, Some, None, Option, sym, refl, ap, ◌∙◌, eq-eqb}
use Rattle.std.specs.List.{AllByRecursion}
use Rattle.heap_links.specs.declared.slots.Slot.{Slot}
use Rattle.slot_heaps.specs.Firsts.{Found}
use Rattle.slot_heaps.specs.Pending.{listed}
use Rattle.queue_rules.specs.Lists.{passes}
use Rattle.queue_rules.specs.Timers.{numbered}
use Rattle.timer_queue.proofs.Inserting.{inserted_rearranged}
use Rattle.queue_rules.proofs.Numbering.{passes_rearranged}

passes_none : {X : Type 0} (p : X → Bool) (xs : List X) → AllByRecursion (λ x. p x ≡ false) xs → passes p xs ≡ false
passes_none p [] h = refl
passes_none p (x ∷ xs) h = ap (λ b. b || passes p xs) h.0 ∙ passes_none p xs h.1

pub found_passes : {A : Type 0} (n m : ℕ) (ss : List (Slot A)) (r : Option ℕ) → Found n m ss r → is_some r ≡ passes (numbered n) (listed m ss)
found_passes n m ss None h = sym (passes_none (numbered n) (listed m ss) h)
found_passes n m ss (Some i) (x, h, e, (xs, a)) =
    sym (passes_rearranged (numbered n) (inserted_rearranged x xs (listed m ss) a) ∙ ap (λ b. b || passes (numbered n) xs) (eq-eqb x.number n e))
