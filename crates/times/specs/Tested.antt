-- A value that exists only where a test passes. Assumes nothing.
use Rattle.std.specs.Prelude.{◌≡◌, Bool, true, false, Some, None, Option, refl}

abbrev pub tested : {A : Type 0} (b : Bool) → (b ≡ true → A) → Option A
tested true make = Some (make refl)
tested false make = None
