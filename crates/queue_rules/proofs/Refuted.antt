-- The histories of wrong rules, refused by computing.
use Rattle.std.proofs.Common.{◌≡◌, ℕ, true, false, [], ◌∷◌, refl, inl, ⊎_elim, arith}
use Rattle.std.proofs.lemmas.Bool.{true≢false, false≢true}
use Rattle.queue_rules.specs.Trials.{WrongRulesRefused}

pub wrong_rules_refused : WrongRulesRefused
wrong_rules_refused = (
  refl,
  λ h. let n = h (10 ∷ []) (λ b. inl (refl, refl), (λ b. absurd (false≢true b), (λ b. inl (refl, refl), tt))) in omega arith,
  λ h. let n = h (5 ∷ []) (λ b. inl (refl, refl), (λ b. inl (refl, refl), tt)) in omega arith,
  λ h. let r = h.1.0 refl refl in let wake = r.1 in let inside = r.2.0 in let z : true ≡ false = cc in true≢false z,
  λ h. let n = h [] (λ b. false≢true b, tt) in omega arith,
  λ h. let n = h [] (λ b. false≢true b, tt) in omega arith,
  λ h. ⊎_elim (λ one. let same = one.2 in let z : ◌≡◌ {A = ℕ} 0 1 = cc in omega arith)
      (⊎_elim (λ two. true≢false two.0) (λ none. none)) h.1.1.1.0.1.0,
)
