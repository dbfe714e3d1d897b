-- The elements of a list that are marked, and a mark that is set or cleared.
use Rattle.std.proofs.Common.{◌≡◌, ℕ, zero, suc, ◌<◌, Bool, true, false, cond, ltb, List, [], ◌∷◌, length, get_or, set, filter, refl, ap, ◌∙◌, arith}
use Rattle.heap_links.specs.declared.slots.Slot.{Slot}
use Rattle.heap_links.specs.Columns.{timers}
use Rattle.slot_heaps.specs.Pending.{pending, listed, by_hard, Inserted}

abbrev pub picked : {X : Type 0} → List Bool → List X → List X
picked [] xs = []
picked (b ∷ bs) [] = []
picked (b ∷ bs) (x ∷ xs) = cond b (x ∷ picked bs xs) (picked bs xs)

one_listed : {A : Type 0} (b : Bool) (s : Slot A) (ss : List (Slot A)) → timers (cond b (s ∷ ss) ss) ≡ cond b (s.timer ∷ timers ss) (timers ss)
one_listed true s ss = refl
one_listed false s ss = refl

pub listed_picked : {A : Type 0} (n : ℕ) (xs : List (Slot A)) → listed n xs ≡ picked (pending by_hard n xs) (timers xs)
listed_picked n [] = refl
listed_picked n (s ∷ xs) =
    let b = ltb s.hard.place n in
    one_listed b s (filter (λ s. ltb s.hard.place n) xs) ∙ ap (λ ts. cond b (s.timer ∷ ts) ts) (listed_picked n xs)

module _ {X : Type 0} (t : X) where
  later : (b : Bool) (x : X) (xs ys : List X) → Inserted t xs ys → Inserted t (cond b (x ∷ xs) xs) (cond b (x ∷ ys) ys)
  later true x xs ys i = record { before = x ∷ i.before; after = i.after; was = ap (λ zs. x ∷ zs) i.was; is = ap (λ zs. x ∷ zs) i.is }
  later false x xs ys i = i

  here : (b : Bool) (x : X) (xs : List X) → b ≡ false → Inserted t (cond b (x ∷ xs) xs) (t ∷ xs)
  here true x xs e = absurd (let z : ◌≡◌ {A = ℕ} 0 1 = cc in omega arith)
  here false x xs e = record { before = []; after = xs; was = refl; is = refl }

  pub picked_set : (bs : List Bool) (xs : List X) (i : ℕ) → i < length bs → i < length xs → get_or bs i false ≡ false → Inserted t (picked bs xs) (picked (set bs i true) (set xs i t))
  picked_set [] xs i l m e = absurd (omega arith)
  picked_set (b ∷ bs) [] i l m e = absurd (omega arith)
  picked_set (b ∷ bs) (x ∷ xs) zero l m e = here b x (picked bs xs) e
  picked_set (b ∷ bs) (x ∷ xs) (suc i) l m e = later b x (picked bs xs) (picked (set bs i true) (set xs i t)) (picked_set bs xs i (omega arith) (omega arith) e)
