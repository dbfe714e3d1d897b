-- Opening a waiting run, and closing an open one. Assumes nothing.
--     Opens ready w r     w may be opened or not: the open run has its counts, or w comes back as it was, with the refusal
--     Closes o n r        likewise of closing o, which may be if a close frame was accepted, with n timers still pending
use Rattle.std.specs.Prelude.{◌≡◌, ℕ, Bool, true, false, Ok, Err, Result}
use Rattle.runs.specs.declared.closed.ClosedRun.{ClosedRun}
use Rattle.runs.specs.declared.faults.RunFault.{RunFault}
use Rattle.runs.specs.declared.faults.RunFault.TheVariants.{NotAccepted}
use Rattle.runs.specs.declared.open.OpenRun.{OpenRun}
use Rattle.runs.specs.declared.waiting.WaitingRun.{WaitingRun}

module _ {A : Type 0} where
  abbrev pub Opens : Bool → WaitingRun → Result (OpenRun A) (WaitingRun × RunFault) → Type 0
  Opens ready w (Ok o) = (ready ≡ true) × (o.counts ≡ w.counts) × (o.closing ≡ false)
  Opens ready w (Err e) = (ready ≡ false) × (e.0 ≡ w) × (e.1 ≡ NotAccepted)

  abbrev pub Closes : OpenRun A → ℕ → Result ClosedRun (OpenRun A × RunFault) → Type 0
  Closes o n (Ok c) = (o.closing ≡ true) × (c.counts ≡ o.counts) × (c.pending ≡ n)
  Closes o n (Err e) = (o.closing ≡ false) × (e.0 ≡ o) × (e.1 ≡ NotAccepted)
