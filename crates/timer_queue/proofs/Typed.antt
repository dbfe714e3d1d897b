-- What a queue's type keeps, from what the work over its slots leaves.
use Rattle.std.proofs.Common.{◌≡◌, ℕ, ◌+◌, sym, subst}
use Rattle.queue_rules.specs.Calls.{usable_of}

-- as many slots are usable as before
pub counted_still : (n n' spare : ℕ) → n' ≡ n → n ≡ usable_of (n + spare) → n' ≡ usable_of (n' + spare)
counted_still n n' spare e h = subst (λ k. k ≡ usable_of (k + spare)) (sym e) h
