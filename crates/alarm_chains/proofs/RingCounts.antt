-- Rings counted by division: one for each full reach, short of the end. Assumes nothing.
use Rattle.std.proofs.Common.{◌≡◌, ℕ, ◌+◌, ◌-◌, ◌*◌, ◌/◌, ◌<◌, ◌≤◌, ◌⊎◌, ap, ◌∙◌, inl, inr, zero-mul, arith}
use Rattle.std.proofs.lemmas.Nat.{div-mul-add, div-add-mod', le-div}

module _ (moved reach : ℕ) (reaching : 0 < reach) where
  by_remainder : (rings rest : ℕ) → moved - 1 ≡ rings * reach + rest → rest < reach → (moved - 1) / reach ≡ rings
  by_remainder rings rest e h = ap (λ (n : ℕ). n / reach) e ∙ div-mul-add rings reach rest h

  pub full_stages : (rings : ℕ) → (rings ≡ 0) ⊎ (rings * reach < moved) → moved ≤ rings * reach + reach → (moved - 1) / reach ≡ rings
  full_stages rings (inl none) h =
      let z : rings * reach ≡ 0 = ap (λ (n : ℕ). n * reach) none ∙ zero-mul reach in
      by_remainder rings (moved - 1) (omega arith) (omega arith)
  full_stages rings (inr some) h = by_remainder rings (moved - 1 - rings * reach) (omega arith) (omega arith)

  pub few_stages : (moved - 1) / reach ≤ moved / reach
  few_stages = le-div ((moved - 1) / reach) moved reach reaching (omega (arith, div-add-mod' (moved - 1) reach))
