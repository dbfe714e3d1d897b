-- Tick time is measured, and its place is its plain form. Assumes nothing.
use Rattle.std.specs.Prelude.{◌≡◌, ℕ, ◌^◌, ◌<◌, Some, nat_lt, refl}
use Rattle.std.proofs.Common.{ap, arith, lit<}
use mathlib.Core.HLevel.{is_prop→PathP}
use Rattle.std.proofs.Math.Bridge.{le_prop}
use Rattle.std.proofs.lemmas.Bool.{ltb-false, lt-ltb}
use Rattle.times.specs.Places.{Places}
use Rattle.times.specs.Plain.{PlainForm}
use Rattle.times.specs.Ticks.{tick_place, tick_at, last_tick}
use Rattle.times.specs.declared.ticks.Tick.{Tick}
use Rattle.times.specs.TestedFacts.{tested_is, from_some, from_none}

pub tick_same : (a b : Tick) → tick_place a ≡ tick_place b → a ≡ b
tick_same a b e j = record {
  place = e j;
  within = is_prop→PathP (λ k. e k < 2 ^ 62) (λ k. le_prop) a.within b.within j;
}

pub tick_found : (a : Tick) → tick_at a.place ≡ Some a
tick_found a = tested_is (nat_lt a.place (2 ^ 62)) _ a (lt-ltb a.place (2 ^ 62) a.within) (λ e. tick_same _ a refl)

tick_only : (n : ℕ) (a : Tick) → tick_at n ≡ Some a → a.place ≡ n
tick_only n a e = let made = from_some (nat_lt n (2 ^ 62)) _ a e in cc (ap tick_place made.1)

pub tick_places : Places tick_place tick_at last_tick
tick_places = record {
  found = tick_only;
  past = λ n e. omega (arith, ltb-false n (2 ^ 62) (from_none (nat_lt n (2 ^ 62)) _ e));
  fits = lit< tt;
  bounded = λ a. omega (arith, a.within);
}

pub tick_plain_form : PlainForm tick_place tick_at
tick_plain_form = record { back = tick_found; only = tick_only }
