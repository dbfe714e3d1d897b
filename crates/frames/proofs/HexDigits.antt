-- A character and its digit determine each other.
use Rattle.std.proofs.Common.{◌≡◌, ℕ, zero, suc, ◌<◌, ◌≤◌, true, false, eqb, Some, None, Ok, Err, Option, sym, refl, ap, ◌∙◌, ⊎_elim, arith}
use Rattle.std.proofs.lemmas.Bool.{cases_Bool, cond-true, cond-false, eqb-true, eq-eqb, ne_eqb, cases_eq}
use Rattle.std.proofs.lemmas.Bool.Decides.{nat_tests}
use Rattle.std.specs.Option.{ok_or}
use Rattle.frames.specs.declared.faults.LineFault.TheVariants.{NotHex}
use Rattle.frames.specs.Hex.{character, digit_below, value}

-- two digits with one character are one digit
pub character_apart : (d e : ℕ) → d < 16 → e < 16 → character d ≡ character e → d ≡ e
character_apart d e hd he p = grind (arith, nat_tests)

below_finds : (n d : ℕ) → n ≤ 16 → d < n → digit_below n (character d) ≡ Some d
below_finds zero d hn h = absurd (omega arith)
below_finds (suc n) d hn h =
    ⊎_elim {C = digit_below (suc n) (character d) ≡ Some d}
    (λ e. let t : eqb (character d) (character n) ≡ true = eq-eqb _ _ (ap character e) in cond-true _ _ _ t ∙ ap Some (sym e))
    (λ e. let t : eqb (character d) (character n) ≡ false = ne_eqb _ _ (λ p. e (character_apart d n (omega arith) (omega arith) p)) in
    cond-false _ _ _ t ∙ below_finds n d (omega arith) (omega arith))
    (cases_eq d n)

pub value_character : (d : ℕ) → d < 16 → value (character d) ≡ Some d
unfolding value
value_character d h = below_finds 16 d (omega arith) h

below_found : (n c d : ℕ) → digit_below n c ≡ Some d → (c ≡ character d) × (d < n)
below_found zero c d p = absurd (let z : ◌≡◌ {A = ℕ} 0 1 = cc in omega arith)
below_found (suc n) c d p =
    ⊎_elim {C = (c ≡ character d) × (d < suc n)}
    (λ t. let e : Some n ≡ Some d = sym (cond-true _ _ _ t) ∙ p in
    let f : n ≡ d = cc in
    (eqb-true c (character n) t ∙ ap character f, omega arith))
    (λ t. let r = below_found n c d (sym (cond-false _ _ _ t) ∙ p) in (r.0, omega (arith, r.1)))
    (cases_Bool (eqb c (character n)))

pub value_found : (c d : ℕ) → value c ≡ Some d → (c ≡ character d) × (d < 16)
unfolding value
value_found c d p = below_found 16 c d p

-- what is the character of no digit stands for none
pub value_none : (c : ℕ) → ((d : ℕ) → d < 16 → c ≡ character d → ⊥) → value c ≡ None
value_none c h = by (value c) refl
  where
    by : (o : Option ℕ) → value c ≡ o → value c ≡ None
    by None e = e
    by (Some d) e = let f = value_found c d e in absurd (h d f.1 f.0)

-- the answer for a digit's character, and for any other
pub digit_answers : (c d : ℕ) → d < 16 → character d ≡ c → Ok d ≡ ok_or (value c) NotHex
digit_answers c d h e = sym (ap (λ o. ok_or o NotHex) (ap value (sym e) ∙ value_character d h))

pub digit_refuses : (c : ℕ) → ((d : ℕ) → d < 16 → c ≡ character d → ⊥) → Err NotHex ≡ ok_or (value c) NotHex
digit_refuses c h = sym (ap (λ o. ok_or o NotHex) (value_none c h))
