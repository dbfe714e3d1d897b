-- A half has a level less.
use Rattle.std.proofs.Common.{◌≡◌, ℕ, zero, suc, ◌/◌, ◌<◌, ◌≤◌, ltb, ⊎_elim, arith}
use Rattle.std.proofs.lemmas.Bool.{cases_lt, lt-ltb, le-ltb, cond-true, cond-false}
use Rattle.key_heaps.specs.Levels.{halvings, log2}

halves : (f n : ℕ) → 2 ≤ n → halvings (suc f) n ≡ suc (halvings f (n / 2))
halves f n l = cond-false (ltb n 2) 0 (suc (halvings f (n / 2))) (le-ltb n 2 l)

halved_out : (f n : ℕ) → n < 2 → halvings (suc f) n ≡ 0
halved_out f n l = cond-true (ltb n 2) 0 (suc (halvings f (n / 2))) (lt-ltb n 2 l)

halvings_le : (f g m n : ℕ) → m ≤ f → n ≤ g → m ≤ n → halvings f m ≤ halvings g n
halvings_le zero g m n a b le = omega arith
halvings_le (suc f) zero m n a b le = omega (arith, halved_out f m (omega arith))
halvings_le (suc f) (suc g) m n a b le = ⊎_elim
    (λ l. omega (arith, halved_out f m l))
    (λ l. omega (arith, halves f m l, halves g n (omega arith), halvings_le f g (m / 2) (n / 2) (omega arith) (omega arith) (omega arith)))
    (cases_lt m 2)

pub log2_le : (m n : ℕ) → m ≤ n → log2 m ≤ log2 n
log2_le m n le = halvings_le m n m n (omega arith) (omega arith) le

pub log2_falls : (m n : ℕ) → 2 ≤ n → m ≤ n / 2 → log2 m < log2 n
log2_falls m zero l le = absurd (omega arith)
log2_falls m (suc g) l le = omega (arith, halves g (suc g) l, halvings_le m g m (suc g / 2) (omega arith) (omega arith) le)
