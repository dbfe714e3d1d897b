-- Day-tick time is measured, and a day over a tick of the day is its plain form. Assumes nothing.
use Rattle.std.specs.Prelude.{◌≡◌, ℕ, ◌/◌, ◌%◌, ◌^◌, ◌<◌, ◌≤◌, false, ◌&&◌, ltb, Some, None, nat_lt}
use Rattle.std.proofs.Common.{sym, ap, ⊎_elim, arith, lit<}
use mathlib.Core.HLevel.{is_prop→PathP}
use Rattle.std.proofs.Math.Bridge.{le_prop}
use Rattle.std.proofs.lemmas.Bool.{ltb-false, lt-ltb, le-ltb, and_from, and_left, and_cases}
use Rattle.times.specs.Places.{Places}
use Rattle.times.specs.Plain.{PlainForm}
use Rattle.times.specs.DayTicks.{day_tick_place, day_tick_of, day_tick_at, day_tick_plain, day_tick_reads, last_day_tick}
use Rattle.times.specs.declared.day_ticks.DayTick.{DayTick}
use Rattle.times.specs.TestedFacts.{tested_is, tested_not, from_some, from_none}

same_fields : (a b : DayTick) → a.day ≡ b.day → a.tick ≡ b.tick → a ≡ b
same_fields a b d t j = record {
  day = d j;
  tick = t j;
  within = (
    is_prop→PathP (λ k. d k < 2 ^ 32) (λ k. le_prop) a.within.0 b.within.0 j,
    is_prop→PathP (λ k. t k < 8640000) (λ k. le_prop) a.within.1 b.within.1 j,
  );
}

pub day_tick_same : (a b : DayTick) → day_tick_place a ≡ day_tick_place b → a ≡ b
day_tick_same a b e = same_fields a b (omega (arith, a.within.1, b.within.1)) (omega (arith, a.within.1, b.within.1))

-- the fields of a time, however they were computed, give that time back
pub day_tick_made : (a : DayTick) (day tick : ℕ) → a.day ≡ day → a.tick ≡ tick → day_tick_of day tick ≡ Some a
day_tick_made a day tick d t =
    tested_is (nat_lt day (2 ^ 32) && nat_lt tick 8640000) _ a
    (and_from _ _ (lt-ltb day (2 ^ 32) (omega (arith, a.within.0))) (lt-ltb tick 8640000 (omega (arith, a.within.1))))
    (λ e. same_fields _ a (sym d) (sym t))

pub no_such_day : (day tick : ℕ) → 2 ^ 32 ≤ day → day_tick_of day tick ≡ None
no_such_day day tick h = tested_not (nat_lt day (2 ^ 32) && nat_lt tick 8640000) _ (and_left _ _ (le-ltb day (2 ^ 32) h))

fields : (day tick : ℕ) (a : DayTick) → day_tick_of day tick ≡ Some a → (a.day ≡ day) × (a.tick ≡ tick)
fields day tick a e =
    let made = from_some (nat_lt day (2 ^ 32) && nat_lt tick 8640000) _ a e in
    (sym (ap (λ (x : DayTick). x.day) made.1), sym (ap (λ (x : DayTick). x.tick) made.1))

past_last : (n : ℕ) → day_tick_at n ≡ None → day_tick_place last_day_tick < n
past_last n e =
    let day = ltb (n / 8640000) (2 ^ 32) in
    let tick = ltb (n % 8640000) 8640000 in
    ⊎_elim (λ (d : day ≡ false). omega (arith, ltb-false (n / 8640000) (2 ^ 32) d)) (λ (t : tick ≡ false). omega (arith, ltb-false (n % 8640000) 8640000 t))
    (and_cases day tick (from_none (day && tick) _ e))

pub day_tick_places : Places day_tick_place day_tick_at last_day_tick
day_tick_places = record {
  found = λ n a e. let f = fields (n / 8640000) (n % 8640000) a e in omega (arith, f.0, f.1);
  past = past_last;
  fits = lit< tt;
  bounded = λ a. omega (arith, a.within.0, a.within.1);
}

pub day_tick_plain_form : PlainForm day_tick_plain day_tick_reads
day_tick_plain_form = record {
  back = λ a. let n = day_tick_plain a in day_tick_made a (n / 2 ^ 32) (n % 2 ^ 32) (omega (arith, a.within.1)) (omega (arith, a.within.1));
  only = λ n a e. let f = fields (n / 2 ^ 32) (n % 2 ^ 32) a e in omega (arith, f.0, f.1);
}
