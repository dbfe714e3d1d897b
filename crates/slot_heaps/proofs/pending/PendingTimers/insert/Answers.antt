use Rattle.slot_heaps.proofs.pending.PendingTimers.insert.Goals as goal

pub invariant_of-self : goal.invariant_of-self
invariant_of-self g c =
    let i = c.args.self.now in
    let heaps = c.insert.ensures.ordered (i.hard_order, i.soft_order) in
    record { standing = c.insert.ensures.standing; hard_order = heaps.0; soft_order = heaps.1 }
