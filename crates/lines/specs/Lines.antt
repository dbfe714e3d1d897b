-- The lines of an input: the bytes before each line feed, and a rest at the end if it is not empty.
-- Assumes nothing.
use Rattle.std.specs.Prelude.{◌≡◌, ℕ, ◌+◌, ◌≤◌, Bool, true, false, cond, List, [], ◌∷◌, ◌++◌, map, length, take, Some, None, Option, ◌==◌}
use Rattle.lines.specs.declared.line.Line.{Line}
use Rattle.lines.specs.declared.whole.Whole.{Whole}

-- a byte before the first of some lines, or a line of its own
abbrev pub starting : ℕ → List (List ℕ) → List (List ℕ)
starting b [] = (b ∷ []) ∷ []
starting b (l ∷ ls) = (b ∷ l) ∷ ls

-- the lines of an input; 10 is the line feed
abbrev pub lines : List ℕ → List (List ℕ)
lines [] = []
lines (b ∷ bs) = cond (b == 10) ([] ∷ lines bs) (starting b (lines bs))

-- the first 129 bytes of a line
abbrev pub keeping : List ℕ → List ℕ
keeping l = take 129 l

-- the lines of an input, each cut after 129 bytes
abbrev pub cut_lines : List ℕ → List (List ℕ)
cut_lines bs = map keeping (lines bs)

-- the bytes that a `Line` holds
abbrev pub kept : Line → List ℕ
kept l = take l.len l.bytes

-- whether there is a line feed among bytes, and the bytes before the first
abbrev pub feeds : List ℕ → Bool
feeds [] = false
feeds (b ∷ bs) = cond (b == 10) true (feeds bs)

abbrev pub before_feed : List ℕ → List ℕ
before_feed [] = []
before_feed (b ∷ bs) = cond (b == 10) [] (b ∷ before_feed bs)

-- what one call did: with `old` kept of an unended line, it took `used` bytes of a piece, handed on
-- a line or none, and keeps `new` of the next one
abbrev pub Took : List ℕ → List ℕ → ℕ → Option Line → List ℕ → Type 0
Took old piece used None new = (feeds piece ≡ false) × (used ≡ length piece) × (new ≡ keeping (old ++ piece))
Took old piece used (Some l) new = (feeds piece ≡ true) × (used ≡ length (before_feed piece) + 1) × (kept l ≡ keeping (old ++ before_feed piece)) × (new ≡ [])

abbrev pub handed : Option Line → List (List ℕ)
handed None = []
handed (Some l) = kept l ∷ []

-- after the bytes `past`, the lines `done` were handed on and `rest` is kept: whatever comes, the
-- cut lines of the whole are those handed on and those of the rest with what comes
pub record Split (past : List ℕ) (done : List (List ℕ)) (rest : List ℕ) : Type 0 where
  pub unended : feeds rest ≡ false
  pub whole : (more : List ℕ) → cut_lines (past ++ more) ≡ done ++ cut_lines (rest ++ more)

-- with `old` kept of an unended line: a line that begins and ends in a piece, if the piece's first does
abbrev pub BeginsAndEnds : List ℕ → List ℕ → Option Whole → Type 0
BeginsAndEnds old piece None = old ≡ [] → feeds piece ≡ false
BeginsAndEnds old piece (Some w) = (old ≡ []) × (feeds piece ≡ true) × (w.used ≡ length (before_feed piece) + 1) × (take w.len piece ≡ keeping (before_feed piece))

-- that line is handed on, if it is there, and what is kept stays
abbrev pub Passed : List ℕ → List (List ℕ) → List ℕ → List ℕ → Option Whole → Type 0
Passed past done old piece None = Split past done old
Passed past done old piece (Some w) = Split (past ++ take w.used piece) (done ++ take w.len piece ∷ []) old

-- it lies within the piece
abbrev pub Within : List ℕ → Option Whole → Type 0
Within piece None = Unit {0}
Within piece (Some w) = (w.len ≤ w.used) × (w.used ≤ length piece)

-- the lines that an unended rest makes at the end of the input
abbrev pub ended : List ℕ → List (List ℕ)
ended [] = []
ended (b ∷ l) = (b ∷ l) ∷ []
