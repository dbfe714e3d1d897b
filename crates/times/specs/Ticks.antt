-- Tick time: the places 0 to 2^62 − 1. Assumes nothing.
use Rattle.std.specs.Prelude.{ℕ, ◌-◌, ◌^◌, Bool, Option, nat_lt}
use Rattle.std.proofs.Common.{lit<}
use Rattle.std.proofs.lemmas.Bool.{ltb-true}
use Rattle.times.specs.Places.{earlier}
use Rattle.times.specs.Tested.{tested}
use Rattle.times.specs.declared.ticks.Tick.{Tick}

abbrev pub tick_place : Tick → ℕ
tick_place a = a.place

abbrev pub tick_before : Tick → Tick → Bool
tick_before = earlier tick_place

abbrev pub tick_at : ℕ → Option Tick
tick_at n = tested (nat_lt n (2 ^ 62)) (λ e. record { place = n; within = ltb-true n (2 ^ 62) e })

abbrev pub last_tick : Tick
last_tick = record { place = 2 ^ 62 - 1; within = lit< tt }
