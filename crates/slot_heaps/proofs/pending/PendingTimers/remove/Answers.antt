use Rattle.std.proofs.Common.{◌≡◌, ℕ, ◌+◌, ◌-◌, sym, subst, arith}
use Rattle.key_heaps.specs.Sifts.{BothHeaped}
use Rattle.slot_heaps.proofs.pending.PendingTimers.remove.Goals as goal

pub invariant_of-self : goal.invariant_of-self
invariant_of-self g c =
    let i = c.args.self.now in
    let one : (i.count - 1) + 1 ≡ i.count = omega (arith, c.requires.there) in
    let heaps = c.remove-timer.ensures.ordered (subst (λ (n : ℕ). BothHeaped g.T.Time.before n i.slots.now) (sym one) (i.hard_order, i.soft_order)) in
    record { standing = c.remove-timer.ensures.standing; hard_order = heaps.0; soft_order = heaps.1 }
