-- What is wrong with a line, in the order in which it is looked for.
use Rattle.std.proofs.Common.{◌≡◌, ℕ, ◌<◌, ◌≤◌, true, false, List, length, Some, None, Ok, Err, ap, ◌∙◌}
use Rattle.std.proofs.lemmas.Bool.{cond-true, cond-false, lt-ltb, le-ltb}
use Rattle.frames.specs.declared.faults.LineFault.TheVariants.{TooLong, BadCount, NotHex, BadCheck}
use Rattle.frames.specs.Check.{checked}
use Rattle.frames.specs.Hex.{spelled}
use Rattle.frames.specs.Line.{counted, checked_bytes, line_bytes}

pub too_long : (cs : List ℕ) → 128 < length cs → line_bytes cs ≡ Err TooLong
unfolding line_bytes
too_long cs h = cond-true _ _ _ (lt-ltb 128 (length cs) h)

pub bad_count : (cs : List ℕ) → length cs ≤ 128 → counted (length cs) ≡ true → line_bytes cs ≡ Err BadCount
unfolding line_bytes
bad_count cs h t = cond-false _ _ _ (le-ltb 128 (length cs) h) ∙ cond-true _ _ _ t

-- a line of a frame's length is what its characters spell, checked
pub well_counted : (cs : List ℕ) → length cs ≤ 128 → counted (length cs) ≡ false → line_bytes cs ≡ checked_bytes (spelled cs)
unfolding line_bytes
well_counted cs h t = cond-false _ _ _ (le-ltb 128 (length cs) h) ∙ cond-false _ _ _ t

pub not_hex : (cs : List ℕ) → length cs ≤ 128 → counted (length cs) ≡ false → spelled cs ≡ None → line_bytes cs ≡ Err NotHex
not_hex cs h t e = well_counted cs h t ∙ ap checked_bytes e

pub bad_check : (cs bs : List ℕ) → length cs ≤ 128 → counted (length cs) ≡ false → spelled cs ≡ Some bs → checked bs ≡ false → line_bytes cs ≡ Err BadCheck
bad_check cs bs h t e k = well_counted cs h t ∙ ap checked_bytes e ∙ cond-false _ _ _ k

pub well_formed : (cs bs : List ℕ) → length cs ≤ 128 → counted (length cs) ≡ false → spelled cs ≡ Some bs → checked bs ≡ true → line_bytes cs ≡ Ok bs
well_formed cs bs h t e k = well_counted cs h t ∙ ap checked_bytes e ∙ cond-true _ _ _ k
