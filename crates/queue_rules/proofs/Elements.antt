-- `All`, `Any`, `Pairwise` and `kept_by`: what one of them gives of another.
use Rattle.std.proofs.Common.{◌≡◌, suc, ◌<◌, ◌≤◌, Bool, true, false, cond, ◌&&◌, List, [], ◌∷◌, ◌++◌, map, length, filter, sym, refl, ap, ◌∙◌, subst, inl, inr, ⊎_elim, arith}
use Rattle.std.specs.List.{AllByRecursion}
use Rattle.std.proofs.ByRecursion.{All-append, All-weaker}
use Rattle.std.proofs.lemmas.Bool.{cond-true, cond-false, cond_both, or_parts}
use Rattle.queue_rules.specs.Lists.{Any, Pairwise, passes}

-- x stands in xs
abbrev pub In : {X : Type 0} → List X → X → Type 0
In xs x = Any (λ y. y ≡ x) xs

module _ {X : Type 0} where
  pub any_with : {P Q R : X → Type 0} → ((x : X) → P x → Q x → R x) → (xs : List X) → AllByRecursion P xs → Any Q xs → Any R xs
  any_with f [] a q = q
  any_with f (x ∷ xs) a (inl q) = inl (f x a.0 q)
  any_with f (x ∷ xs) a (inr q) = inr (any_with f xs a.1 q)

  pub any_weaker : {P Q : X → Type 0} → ((x : X) → P x → Q x) → (xs : List X) → Any P xs → Any Q xs
  any_weaker f [] q = q
  any_weaker f (x ∷ xs) (inl q) = inl (f x q)
  any_weaker f (x ∷ xs) (inr q) = inr (any_weaker f xs q)

  -- what holds of each holds of the one that is found
  pub any_so : {P : X → Type 0} (C : Type 0) → ((x : X) → P x → C) → (xs : List X) → Any P xs → C
  any_so C f [] p = elim p [ ]
  any_so C f (x ∷ xs) (inl p) = f x p
  any_so C f (x ∷ xs) (inr p) = any_so C f xs p

  pub any_find : (P : X → Type 0) (xs : List X) → Any P xs → (x : X) × In xs x × P x
  any_find P [] i = elim i [ ]
  any_find P (x ∷ xs) (inl p) = (x, inl refl, p)
  any_find P (x ∷ xs) (inr i) = let r = any_find P xs i in (r.0, inr r.1, r.2)

  pub any_at : (P : X → Type 0) (x : X) (xs : List X) → In xs x → P x → Any P xs
  any_at P x xs i p = any_weaker (λ y e. subst P (sym e) p) xs i

  pub all_in : (P : X → Type 0) (x : X) (xs : List X) → AllByRecursion P xs → In xs x → P x
  all_in P x [] a i = elim i [ ]
  all_in P x (y ∷ xs) a (inl e) = subst P e a.0
  all_in P x (y ∷ xs) a (inr i) = all_in P x xs a.1 i

  pub in_itself : (xs : List X) → AllByRecursion (In xs) xs
  in_itself [] = tt
  in_itself (x ∷ xs) = (inl refl, All-weaker (In xs) (In (x ∷ xs)) (λ y i. inr i) xs (in_itself xs))

  pub all_from_in : (P : X → Type 0) (xs : List X) → ((x : X) → In xs x → P x) → AllByRecursion P xs
  all_from_in P [] f = tt
  all_from_in P (x ∷ xs) f = (f x (inl refl), all_from_in P xs (λ y i. f y (inr i)))

  pub all_both : (P Q : X → Type 0) (xs : List X) → AllByRecursion P xs → AllByRecursion Q xs → AllByRecursion (λ x. P x × Q x) xs
  all_both P Q [] a b = tt
  all_both P Q (x ∷ xs) a b = ((a.0, b.0), all_both P Q xs a.1 b.1)

  pub any_left : (P : X → Type 0) (xs ys : List X) → Any P xs → Any P (xs ++ ys)
  any_left P [] ys p = elim p [ ]
  any_left P (x ∷ xs) ys (inl p) = inl p
  any_left P (x ∷ xs) ys (inr p) = inr (any_left P xs ys p)

  pub any_right : (P : X → Type 0) (xs ys : List X) → Any P ys → Any P (xs ++ ys)
  any_right P [] ys p = p
  any_right P (x ∷ xs) ys p = inr (any_right P xs ys p)

  pub pairwise_weaker : (R S : X → X → Type 0) → ((x y : X) → R x y → S x y) → (xs : List X) → Pairwise R xs → Pairwise S xs
  pairwise_weaker R S f [] p = tt
  pairwise_weaker R S f (x ∷ xs) p = (All-weaker (R x) (S x) (f x) xs p.0, pairwise_weaker R S f xs p.1)

  pub pairwise_append : (R : X → X → Type 0) (xs ys : List X) → Pairwise R xs → Pairwise R ys → AllByRecursion (λ x. AllByRecursion (R x) ys) xs → Pairwise R (xs ++ ys)
  pairwise_append R [] ys p q r = q
  pairwise_append R (x ∷ xs) ys p q r = (All-append (R x) xs ys p.0 r.0, pairwise_append R xs ys p.1 q r.1)

module _ {X Y : Type 0} (f : X → Y) (P : Y → Type 0) where
  pub any_map : (xs : List X) → Any (λ x. P (f x)) xs → Any P (map f xs)
  any_map [] i = i
  any_map (x ∷ xs) (inl p) = inl p
  any_map (x ∷ xs) (inr i) = inr (any_map xs i)

  pub map_any : (xs : List X) → Any P (map f xs) → Any (λ x. P (f x)) xs
  map_any [] i = i
  map_any (x ∷ xs) (inl p) = inl p
  map_any (x ∷ xs) (inr i) = inr (map_any xs i)

  pub map_all : (xs : List X) → AllByRecursion P (map f xs) → AllByRecursion (λ x. P (f x)) xs
  map_all [] a = tt
  map_all (x ∷ xs) a = (a.0, map_all xs a.1)

module _ {X : Type 0} (p : X → Bool) where
  pub kept_any : (P : X → Type 0) (xs : List X) → Any P (filter p xs) → Any P xs
  kept_any P [] = λ i. i
  kept_any P (y ∷ xs) =
      cond_both (p y) (y ∷ filter p xs) (filter p xs) (λ l. Any P l → Any P (y ∷ xs))
      (λ _. ⊎_elim {C = Any P (y ∷ xs)} (λ e. inl e) (λ i. inr (kept_any P xs i))) (λ _ i. inr (kept_any P xs i))

  pub in_kept : (x : X) (xs : List X) → In (filter p xs) x → In xs x
  in_kept x xs = kept_any (λ y. y ≡ x) xs

  -- the one that is found passes
  pub any_kept : (P : X → Type 0) → ((x : X) → P x → p x ≡ true) → (xs : List X) → Any P xs → Any P (filter p xs)
  any_kept P f [] i = i
  any_kept P f (x ∷ xs) (inl h) = subst (Any P) (sym (cond-true (p x) (x ∷ filter p xs) (filter p xs) (f x h))) (inl h)
  any_kept P f (x ∷ xs) (inr i) =
      cond_both (p x) (x ∷ filter p xs) (filter p xs) (Any P) (λ _. inr (any_kept P f xs i)) (λ _. any_kept P f xs i)

  pub kept_in : (x : X) (xs : List X) → In xs x → p x ≡ true → In (filter p xs) x
  kept_in x xs i t = any_kept (λ y. y ≡ x) (λ y e. ap p e ∙ t) xs i

  pub pairwise_kept : (R : X → X → Type 0) (xs : List X) → Pairwise R xs → Pairwise R (filter p xs)
  pairwise_kept R [] h = tt
  pairwise_kept R (x ∷ xs) h =
      cond_both (p x) (x ∷ filter p xs) (filter p xs) (Pairwise R)
      (λ _. (all_from_in (R x) (filter p xs) (λ y i. all_in (R x) y xs h.0 (in_kept y xs i)), pairwise_kept R xs h.1))
      (λ _. pairwise_kept R xs h.1)

  pub none_kept : (xs : List X) → AllByRecursion (λ x. p x ≡ false) xs → filter p xs ≡ []
  none_kept [] a = refl
  none_kept (x ∷ xs) a = cond-false (p x) (x ∷ filter p xs) (filter p xs) a.0 ∙ none_kept xs a.1

  pub kept_short : (xs : List X) → length (filter p xs) ≤ length xs
  kept_short [] = omega arith
  kept_short (x ∷ xs) =
      let ih = kept_short xs in
      cond_both (p x) (x ∷ filter p xs) (filter p xs) (λ l. length l ≤ suc (length xs)) (λ _. omega arith) (λ _. omega arith)

  pub kept_shorter : (xs : List X) → Any (λ x. p x ≡ false) xs → length (filter p xs) < length xs
  kept_shorter [] i = elim i [ ]
  kept_shorter (x ∷ xs) (inl e) =
      let s = kept_short xs in
      subst (λ l. length l < suc (length xs)) (sym (cond-false (p x) (x ∷ filter p xs) (filter p xs) e)) (omega arith)
  kept_shorter (x ∷ xs) (inr i) =
      let ih = kept_shorter xs i in
      cond_both (p x) (x ∷ filter p xs) (filter p xs) (λ l. length l < suc (length xs)) (λ _. omega arith) (λ _. omega arith)

  pub kept_by_map : {Y : Type 0} (f : Y → X) (ys : List Y) → filter p (map f ys) ≡ map f (filter (λ y. p (f y)) ys)
  kept_by_map f [] = refl
  kept_by_map f (y ∷ ys) =
      let us = filter (λ z. p (f z)) ys in
      ap (λ l. cond (p (f y)) (f y ∷ l) l) (kept_by_map f ys) ∙
      cond_both (p (f y)) (y ∷ us) us (λ l. cond (p (f y)) (f y ∷ map f us) (map f us) ≡ map f l)
      (λ e. cond-true (p (f y)) (f y ∷ map f us) (map f us) e) (λ e. cond-false (p (f y)) (f y ∷ map f us) (map f us) e)

  -- a test that does not pass passes no element
  pub none_passes : (xs : List X) → passes p xs ≡ false → AllByRecursion (λ x. p x ≡ false) xs
  none_passes [] e = tt
  none_passes (x ∷ xs) e = let h = or_parts (p x) (passes p xs) e in (h.0, none_passes xs h.1)

pub kept_all : {X : Type 0} (xs : List X) → filter (λ _. true) xs ≡ xs
kept_all [] = refl
kept_all (x ∷ xs) = ap (λ l. x ∷ l) (kept_all xs)

module _ {X : Type 0} (p q : X → Bool) where
  pub kept_like : (xs : List X) → AllByRecursion (λ x. p x ≡ q x) xs → filter p xs ≡ filter q xs
  kept_like [] a = refl
  kept_like (x ∷ xs) a =
      ap (λ b. cond b (x ∷ filter p xs) (filter p xs)) a.0 ∙ ap (λ l. cond (q x) (x ∷ l) l) (kept_like xs a.1)

  pub kept_either_order : (xs : List X) → filter p (filter q xs) ≡ filter q (filter p xs)
  kept_either_order [] = refl
  kept_either_order (x ∷ xs) =
      let ih = kept_either_order xs in
      let ps = filter p xs in
      let qs = filter q xs in
      cond_both (q x) (x ∷ qs) qs (λ l. filter p l ≡ filter q (cond (p x) (x ∷ ps) ps))
      (λ t. cond_both (p x) (x ∷ ps) ps (λ l. cond (p x) (x ∷ filter p qs) (filter p qs) ≡ filter q l)
      (λ u. cond-true (p x) (x ∷ filter p qs) (filter p qs) u ∙ ap (λ l. x ∷ l) ih ∙ sym (cond-true (q x) (x ∷ filter q ps) (filter q ps) t))
      (λ u. cond-false (p x) (x ∷ filter p qs) (filter p qs) u ∙ ih))
      (λ t. cond_both (p x) (x ∷ ps) ps (λ l. filter p qs ≡ filter q l)
      (λ u. ih ∙ sym (cond-false (q x) (x ∷ filter q ps) (filter q ps) t))
      (λ u. ih))

  pub kept_both : (xs : List X) → filter p (filter q xs) ≡ filter (λ x. q x && p x) xs
  kept_both [] = refl
  kept_both (x ∷ xs) =
      let qs = filter q xs in
      let both = filter (λ y. q y && p y) xs in
      cond_both (q x) (x ∷ qs) qs (λ l. filter p l ≡ cond (q x && p x) (x ∷ both) both)
      (λ t. ap (λ l. cond (p x) (x ∷ l) l) (kept_both xs) ∙ ap (λ b. cond (b && p x) (x ∷ both) both) (sym t))
      (λ f. kept_both xs ∙ ap (λ b. cond (b && p x) (x ∷ both) both) (sym f))
