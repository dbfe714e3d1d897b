-- Lines that are refused, each with the number of its refusal, in the order of the tests. Assumes nothing.
use Rattle.std.specs.Prelude.{◌≡◌, ℕ, Bool, true, false, List, [], ◌∷◌, ◌++◌, map, replicate, None, codes}
use Rattle.runs.specs.Accounts.{code}
use Rattle.runs.specs.Files.{Feed, waiting, fed, run_line}
use Rattle.runs.specs.Replies.{Tally, nothing}

abbrev feed : ℕ → Bool → List ℕ → Feed
feed room moves l = record { line = l; room = room; log = 512; moves = moves }

-- a line after which the caller opens or closes the run if it may, and one after which it does not
abbrev on : List ℕ → Feed
on l = feed 40000 true l

abbrev stay : List ℕ → Feed
stay l = feed 40000 false l

-- to a waiting run, up to an open frame that is accepted
abbrev waiting_lines : List (Feed × ℕ)
waiting_lines =
    (feed 22 true (replicate 129 48), 0x45) ∷ (on (replicate 129 48), 0x10) ∷ (on [], 0x11) ∷ (on (codes "0G000"), 0x11) ∷ (on (codes "0G00"), 0x12)
    ∷ (on (codes "0708"), 0x13) ∷ (on (codes "0707"), 0x21) ∷ (on (codes "0101"), 0x22) ∷ (on (codes "0505"), 0x41)
    ∷ (on (codes "010200000000000000000003"), 0x24) ∷ (on (codes "010003400000000000000044"), 0x24) ∷ (on (codes "010000400000000000000041"), 0x23)
    ∷ (stay (codes "010001000000000000000002"), 0) ∷ (on (replicate 129 48), 0x43) ∷ []

-- to the open run, up to a close frame that is accepted, and to the closed run
abbrev open_lines : List (Feed × ℕ)
open_lines =
    (on (codes "010200000000000000000003"), 0x42) ∷ (on (codes "06000000010C13"), 0x25) ∷ (on (codes "02000000014000000000000000000000000000000043"), 0x23)
    ∷ (on (codes "030000000508"), 0x36) ∷ (on (codes "06000000010007"), 0) ∷ (feed 85 true (codes "030000000104"), 0x45) ∷ (on (codes "06000000010007"), 0x34)
    ∷ (on (codes "04000000000000000A0E"), 0) ∷ (on (codes "04000000000000000509"), 0x37) ∷ (stay (codes "0505"), 0) ∷ (on (codes "0505"), 0x43) ∷ (on [], 0x43) ∷ []

abbrev ToldSo : List (Feed × ℕ) → List (Feed × ℕ) → Type 0
ToldSo ws os =
    let fs : List (Feed × ℕ) = ws ++ os in
    map code (fed 512 nothing (waiting None) (map (λ f. f.0) fs)).answers ≡ map (λ f. f.1) fs

-- a million lines are counted
abbrev full : Tally
full = record { lines = 1000000; wakes = 0; firings = 0 }

abbrev pub RefusedSample : Type 0
RefusedSample =
    ToldSo waiting_lines open_lines × (code (run_line full (waiting None) (on [])).answered ≡ 0x44)
    × (code (run_line full (waiting None) (feed 22 true [])).answered ≡ 0x45)
