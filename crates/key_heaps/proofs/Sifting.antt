-- What a sift keeps from turn to turn.
use Rattle.std.proofs.Common.{◌≡◌, ℕ, ◌-◌, ◌/◌, ◌<◌, ◌≤◌, Bool, true, false, List, Some, refl, sym, ◌∙◌, subst, ⊎_elim, arith}
use Rattle.std.proofs.lemmas.Bool.{cases_Bool}
use Rattle.heap_links.specs.declared.slots.Link.{Link}
use Rattle.heap_links.specs.declared.slots.Slot.{Slot}
use Rattle.heap_links.specs.declared.timer.Timer.{Timer}
use Rattle.heap_links.specs.Columns.{slot_at, Kept}
use Rattle.key_heaps.specs.HeapOrder.{Child, Gap, Under, Over, Rising, FirstChild}
use Rattle.heap_links.specs.Links.{Linked, Swapped, Moved}
use Rattle.key_heaps.specs.Sifts.{Heaped, Sinks}
use Rattle.key_heaps.proofs.Gaps.{closes, rises, sinks}
use Rattle.key_heaps.proofs.Orders.{Ranks}

module _ {A : Type 0} (link other : Slot A → Link) where
  pub kept_then : (xs ys zs : List (Slot A)) → Kept other xs ys → Kept other ys zs → Kept other xs zs
  kept_then xs ys zs k l = record { timers = l.timers ∙ k.timers; others = l.others ∙ k.others }

  pub moved_exchanged : (n : ℕ) (xs ys zs : List (Slot A)) (p q : ℕ) → p < n → q < n →
      Linked link zs → Swapped (slot_at link ys) (slot_at link zs) p q → Kept other ys zs → Moved link other n xs ys → Moved link other n xs zs
  moved_exchanged n xs ys zs p q lp lq h s k m = record {
    linked = h;
    rest = λ i l. s.rest i (omega arith) (omega arith) ∙ m.rest i l;
    kept = kept_then xs ys zs m.kept k;
  }

  pub unmoved : (n : ℕ) (xs : List (Slot A)) → Linked link xs → Moved link other n xs xs
  unmoved n xs h = record { linked = h; rest = λ k l. refl; kept = record { timers = refl; others = refl } }

module _ (lt : ℕ → ℕ → Bool) where
  -- the slot that began at place j₀ of a is at j of b
  abbrev pub GoingUp : (ℕ → ℕ) → ℕ → (ℕ → ℕ) → ℕ → Type 0
  GoingUp a j₀ b j = (n : ℕ) → j₀ < n → Gap lt a j₀ n → Under lt a j₀ n → Gap lt b j n × Under lt b j n

  abbrev pub GoingDown : ℕ → (ℕ → ℕ) → ℕ → (ℕ → ℕ) → ℕ → Type 0
  GoingDown n a j₀ b j = Gap lt a j₀ n → Over lt a j₀ → Gap lt b j n × Over lt b j

  pub parent : (j : ℕ) → 0 < j → Child ((j - 1) / 2) j
  parent j l = record { low = omega arith; high = omega arith }

  module _ (r : Ranks lt) where
    pub itself : (i : ℕ) → lt i i ≡ false
    itself i = ⊎_elim (λ t. r.one_way i i t) (λ f. f) (cases_Bool (lt i i))

    pub up_steps : (a b c : ℕ → ℕ) (j₀ j : ℕ) → j ≤ j₀ → Rising lt b j true → Swapped b c ((j - 1) / 2) j → GoingUp a j₀ b j → GoingUp a j₀ c ((j - 1) / 2)
    up_steps a b c j₀ j le t s was = λ n l g u. rises lt r b c ((j - 1) / 2) j n (parent j t.0) (omega arith) s t.1 (was n l g u).0

    -- in a gap, a slot that comes before its parent's comes before its children's too
    pub rising_under : (a : ℕ → ℕ) (j n : ℕ) → Rising lt a j true → Gap lt a j n → Under lt a j n
    rising_under a j n t g = λ k ch l. r.chain _ _ _ (g.past ((j - 1) / 2) k (parent j t.0) ch l) (r.one_way _ _ t.1)

    pub down_steps : (a b c : ℕ → ℕ) (j₀ j k n : ℕ) → FirstChild lt b j n (Some k) → lt (b k) (b j) ≡ true → Swapped b c j k → GoingDown n a j₀ b j → GoingDown n a j₀ c k
    down_steps a b c j₀ j k n f t s was = λ g o. sinks lt r b c j k n f.0 f.1 s t f.2 (was g o).0

    pub down_rests : (a b : ℕ → ℕ) (j₀ j k n : ℕ) → FirstChild lt b j n (Some k) → lt (b k) (b j) ≡ false → GoingDown n a j₀ b j → Sinks lt a j₀ n b
    down_rests a b j₀ j k n f t was = λ g o. let h = was g o in closes lt b j n h.0 (λ i ch l. r.chain _ _ _ (f.2 i ch l) t) h.1

-- slots that are the same are the same heap
pub heaped_there : {A : Type 0} (before : A → A → Bool) (time : Timer A → A) (link : Slot A → Link) (xs ys : List (Slot A)) (n : ℕ) →
    ys ≡ xs → Heaped before time link xs n → Heaped before time link ys n
heaped_there before time link xs ys n e h = subst (λ zs. Heaped before time link zs n) (sym e) h
