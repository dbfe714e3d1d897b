-- A small request file and its report, byte for byte: two timers, one wake-up. Assumes nothing.
use Rattle.std.specs.Prelude.{◌≡◌, ℕ, true, List, [], ◌∷◌, ◌++◌, map, None, codes}
use Rattle.std.specs.List.{flat_map}
use Rattle.runs.specs.Files.{waiting, fed, totals_frame}
use Rattle.runs.specs.Frames.{text}
use Rattle.runs.specs.Replies.{nothing}

abbrev input : List (List ℕ)
input =
    codes "010001000000000000000002" ∷ codes "0200000001000000000000000A000000000000001E2B" ∷ codes "02000000020000000000000014000000000000002840"
    ∷ codes "04000000000000003C40" ∷ codes "0505" ∷ []

abbrev output : List (List ℕ)
output =
    codes "9000000001000000000091" ∷ codes "9000000002000000000092" ∷ codes "9000000003000000000093"
    ∷ codes "910000000101000000000000001E000000000000000A000000000000001ED9"
    ∷ codes "910000000200000000000000001E00000000000000140000000000000028ED"
    ∷ codes "9000000004000001000297" ∷ codes "9000000005000000000095" ∷ codes "950000000100000002000098" ∷ []

-- with 512 slots and log entries, a buffer that is long enough, and a caller that opens and closes at once
abbrev pub SampleReport : Type 0
SampleReport =
    let r = fed 512 nothing (waiting None) (map (λ l. record { line = l; room = 40000; log = 512; moves = true }) input) in
    text (r.frames ++ totals_frame r.tally r.left) ≡ flat_map (λ l. l ++ 10 ∷ []) output
