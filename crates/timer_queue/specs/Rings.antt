-- What a pass of the alarm to t did, from the due time that it had. Assumes nothing.
--     Rung      it rang: the due time was before t, is the clock now, and none is left
--     Come      it came to t, and the due time, if any, is as it was and not before t
--     Passed    one or the other, as the answer tells
use Rattle.std.specs.Prelude.{◌≡◌, Bool, true, false, Some, None, Option}

module _ {A : Type 0} (before : A → A → Bool) where
  pub record Rung (due : Option A) (t clock' : A) (due' : Option A) : Type 0 where
    pub at : A
    pub was : due ≡ Some at
    pub soon : before at t ≡ true
    pub clock : clock' ≡ at
    pub left : due' ≡ None

  abbrev pub NotBefore : A → Option A → Type 0
  NotBefore t None = Unit {0}
  NotBefore t (Some w) = before w t ≡ false

  pub record Come (due : Option A) (t clock' : A) (due' : Option A) : Type 0 where
    pub late : NotBefore t due
    pub clock : clock' ≡ t
    pub left : due' ≡ due

  abbrev pub Passed : Option A → A → A → Option A → Bool → Type 0
  Passed due t clock' due' true = Rung due t clock' due'
  Passed due t clock' due' false = Come due t clock' due'
