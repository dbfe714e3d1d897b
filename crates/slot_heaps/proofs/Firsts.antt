-- What the first timer of a heap says of all of them.
use Rattle.std.proofs.Common.{◌≡◌, Bool, true, false}
use Rattle.std.proofs.ByRecursion.{All-weaker}
use Rattle.times.specs.Order.{StrictOrder}
use Rattle.slot_heaps.specs.Firsts.{FirstIsLeast, NoneByThen}
use Rattle.key_heaps.specs.Sooner.{sooner}
use Rattle.key_heaps.proofs.Orders.{NotSooner, not_sooner, lt_le}

module _ {A : Type 0} (before : A → A → Bool) (o : StrictOrder before) where
  pub first_is_least : FirstIsLeast before
  first_is_least time x xs f =
      All-weaker (λ y. sooner before time y x ≡ false) (λ y. NotSooner before time y x) (λ y h. not_sooner before time o y x h) xs f.least

  pub none_by_then : NoneByThen before
  none_by_then time x xs w f after =
      All-weaker (λ y. sooner before time y x ≡ false) (λ y. before w (time y) ≡ true)
      (λ y h. lt_le before o w (time x) (time y) after (not_sooner before time o y x h).0) xs f.least
