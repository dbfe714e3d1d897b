-- Day-tick time: a day, and a tick of that day; a day has 8,640,000 ticks of 10 ms. Assumes nothing.
use Rattle.std.specs.Prelude.{◌≡◌, ℕ, ◌+◌, ◌-◌, ◌*◌, ◌/◌, ◌%◌, ◌^◌, Bool, true, ◌&&◌, Option, nat_lt}
use Rattle.std.proofs.Common.{lit<}
use Rattle.std.proofs.lemmas.Bool.{ltb-true, and_parts}
use Rattle.times.specs.Places.{earlier}
use Rattle.times.specs.Tested.{tested}
use Rattle.times.specs.declared.day_ticks.DayTick.{DayTick}

abbrev pub day_tick_place : DayTick → ℕ
day_tick_place a = a.day * 8640000 + a.tick

abbrev pub day_tick_before : DayTick → DayTick → Bool
day_tick_before = earlier day_tick_place

abbrev in_range : ℕ → ℕ → Bool
in_range day tick = nat_lt day (2 ^ 32) && nat_lt tick 8640000

abbrev ranged : (day tick : ℕ) → in_range day tick ≡ true → DayTick
ranged day tick e =
    let both : (nat_lt day (2 ^ 32) ≡ true) × (nat_lt tick 8640000 ≡ true) = and_parts _ _ e in
    record { day = day; tick = tick; within = (ltb-true day (2 ^ 32) both.0, ltb-true tick 8640000 both.1) }

abbrev pub day_tick_of : ℕ → ℕ → Option DayTick
day_tick_of day tick = tested (in_range day tick) (ranged day tick)

abbrev pub day_tick_at : ℕ → Option DayTick
day_tick_at n = day_tick_of (n / 8640000) (n % 8640000)

-- the day in the upper and the tick of the day in the lower 32 bits
abbrev pub day_tick_plain : DayTick → ℕ
day_tick_plain a = a.day * 2 ^ 32 + a.tick

abbrev pub day_tick_reads : ℕ → Option DayTick
day_tick_reads n = day_tick_of (n / 2 ^ 32) (n % 2 ^ 32)

abbrev pub last_day_tick : DayTick
last_day_tick = record { day = 2 ^ 32 - 1; tick = 8639999; within = (lit< tt, lit< tt) }
