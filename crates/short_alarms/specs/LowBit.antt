-- Twelve low bits to be matched by a place: the ticks to the first match, which is the due time. Assumes nothing.
use Rattle.std.specs.Prelude.{◌≡◌, ℕ, ◌+◌, ◌-◌, ◌%◌, Bool, false, Some, None, Option, MatchOption}
use Rattle.std.specs.Option.{option_map}
use Rattle.short_alarms.specs.Countdown.{due_in}
use Rattle.short_alarms.specs.declared.low_bits.LowBits.{LowBits}

abbrev pub ticks_to_match : ℕ → LowBits → ℕ
ticks_to_match place low = (low.value + 4096 - place % 4096) % 4096

abbrev pub match_due : {A : Type 0} → (A → ℕ) → (ℕ → Option A) → A → Option LowBits → Option A
match_due place at clock low = due_in place at clock (option_map (ticks_to_match (place clock)) low)

module _ {A : Type 0} (before : A → A → Bool) (place : A → ℕ) (clock : A) where
  -- a time at or after the clock whose place has these low bits
  abbrev pub Match : LowBits → A → Type 0
  Match low t = (before t clock ≡ false) × (place t % 4096 ≡ low.value)

  -- the due time is the earliest match, or there is none
  abbrev pub Earliest : Option LowBits → Option A → Type 0
  Earliest None due = due ≡ None
  Earliest (Some low) due = MatchOption due ((t : A) → Match low t → ⊥) (λ d. Match low d × ((t : A) → Match low t → before t d ≡ false))
