-- A step that devices share: to find the ring on the way of a pass. Assumes nothing.
use Rattle.std.specs.Prelude.{◌≡◌, Bool, true, false, Some, None, Ok, Err, Option, Result}
use Rattle.alarms.specs.Meaning.{NotPast}
use Rattle.alarms.specs.declared.faults.AlarmFault.{AlarmFault}
use Rattle.alarms.specs.declared.faults.AlarmFault.TheVariants.{BeforeClock}

module _ {A : Type 0} (before : A → A → Bool) where
  -- the ring on the way from the clock to t, or none
  abbrev pub RingBefore : A → Option A → A → Result (Option A) AlarmFault → Type 0
  RingBefore clock due t (Err fault) = (before t clock ≡ true) × (fault ≡ BeforeClock)
  RingBefore clock due t (Ok (Some ring)) = (before t clock ≡ false) × (due ≡ Some ring) × (before ring t ≡ true)
  RingBefore clock due t (Ok None) = (before t clock ≡ false) × NotPast before t due
