-- How many levels a heap of n slots has below its top: the number of times that n can be halved. Assumes nothing.
--     The sifts' loops are shown to end by these: the number falls with each turn, so that there are no more turns than levels.
use Rattle.std.specs.Prelude.{ℕ, zero, suc, ◌/◌, cond, nat_lt}

-- at most f halvings, until 1 is left
abbrev pub halvings : ℕ → ℕ → ℕ
halvings zero n = 0
halvings (suc f) n = cond (nat_lt n 2) 0 (suc (halvings f (n / 2)))

abbrev pub log2 : ℕ → ℕ
log2 n = halvings n n
