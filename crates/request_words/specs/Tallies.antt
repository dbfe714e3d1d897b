-- The counts of a request file, and their words. Assumes nothing.
use Rattle.std.specs.Prelude.{ℕ, ◌+◌, ◌-◌, ◌^◌, min, List, [], ◌∷◌, ◌++◌, Ok, Err, codes, decimal, Result}
use Rattle.frames.specs.declared.faults.ReadFault.{ReadFault}
use Rattle.frames.specs.declared.request.Request.{Request}
use Rattle.request_words.specs.declared.tally.Tally.{Tally}
use Rattle.request_words.specs.Words.{numbered}

-- one more, up to the largest number of 64 bits
abbrev pub next : ℕ → ℕ
next n = min (n + 1) (2 ^ 64 - 1)

-- a line is counted, and it is a frame or refused
abbrev pub counted : Tally → Result Request ReadFault → Tally
counted t (Ok request) = record { lines = next t.lines; frames = next t.frames; refused = t.refused }
counted t (Err fault) = record { lines = next t.lines; frames = t.frames; refused = next t.refused }

abbrev pub tally_words : Tally → List ℕ
tally_words t = decimal t.lines ++ (codes " lines, " ++ (decimal t.frames ++ (codes " frames, " ++ (decimal t.refused ++ codes " refused"))))

-- the words of the counts, and the line feed
abbrev pub summary : Tally → List ℕ
summary t = decimal t.lines ++ (numbered " lines, " t.frames ++ (numbered " frames, " t.refused ++ (codes " refused" ++ 10 ∷ [])))
