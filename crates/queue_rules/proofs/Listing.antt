-- An advance over a rearranged list does the same.
use Rattle.std.proofs.Common.{◌≡◌, ℕ, zero, suc, Bool, true, false, cond, not, ◌&&◌, ◌||◌, eqb, ltb, ◌⊎◌, List, ◌∷◌, ◌++◌, map, length, Some, None, Ok, filter, Option, sym, refl, ap, ◌∙◌, subst, ap₂, inl, inr, ⊎_elim}
use Rattle.std.proofs.lemmas.Bool.{both_ways, or_cases, or_parts, or_from, or_left, or_right, and_parts, and_from, and_right, eq-eqb}
use Rattle.heap_links.specs.declared.timer.Timer.{Timer}
use Rattle.queue_rules.specs.declared.fault.QueueFault.{QueueFault}
use Rattle.queue_rules.specs.declared.fault.QueueFault.TheVariants.{AlarmMoved, AdvancePassed, LogShort}
use Rattle.times.specs.Order.{StrictOrder}
use Rattle.queue_rules.specs.Lists.{Pairwise, Rearranged}
use Rattle.queue_rules.specs.Timers.{Distinct, same, least_hard}
use Rattle.queue_rules.specs.WakeUps.{Served, entry, ripe, spared, wake_up, still, serve_from, serve, walk}
use Rattle.queue_rules.specs.Calls.{State, given, conclude, same_due, settle, advance_fault, advancing}
use Rattle.queue_rules.specs.Rearranging.{listing, Alike, OrderOfListingIsFree}
use Rattle.queue_rules.proofs.Elements.{pairwise_kept, pairwise_weaker}
use Rattle.queue_rules.proofs.Orders.{number_order, same_is, same_itself}
use Rattle.queue_rules.proofs.Rearranged.{length_rearranged, map_rearranged, kept_rearranged, least_rearranged}
use Rattle.queue_rules.proofs.Sorting.{Differ, sorted_alike}

module _ {A : Type 0} (before : A → A → Bool) (o : StrictOrder before) where
  -- by time, and where that is one, by number
  abbrev pub lex : A × ℕ → A × ℕ → Bool
  lex p q = before p.0 q.0 || (same before p.0 q.0 && ltb p.1 q.1)

  lex_second : (p q : A × ℕ) → p.0 ≡ q.0 → ltb p.1 q.1 ≡ true → lex p q ≡ true
  lex_second p q e l =
      or_right (before p.0 q.0) (same before p.0 q.0 && ltb p.1 q.1)
      (and_from (same before p.0 q.0) (ltb p.1 q.1) (ap (λ a. same before a q.0) e ∙ same_itself before o q.0) l)

  lex_cases : (p q : A × ℕ) → lex p q ≡ true → (before p.0 q.0 ≡ true) ⊎ ((p.0 ≡ q.0) × (ltb p.1 q.1 ≡ true))
  lex_cases p q h =
      ⊎_elim {C = (before p.0 q.0 ≡ true) ⊎ ((p.0 ≡ q.0) × (ltb p.1 q.1 ≡ true))} (λ b. inl b)
      (λ r. let k = and_parts (same before p.0 q.0) (ltb p.1 q.1) r in inr (same_is before o p.0 q.0 k.0, k.1))
      (or_cases (before p.0 q.0) (same before p.0 q.0 && ltb p.1 q.1) h)

  lex_transitive : (p q r : A × ℕ) → lex p q ≡ true → lex q r ≡ true → lex p r ≡ true
  lex_transitive p q r h k =
      let first : before p.0 r.0 ≡ true → lex p r ≡ true = or_left (before p.0 r.0) (same before p.0 r.0 && ltb p.1 r.1) in
      ⊎_elim
      (λ a. ⊎_elim (λ b. first (o.transitive p.0 q.0 r.0 a b)) (λ b. first (ap (before p.0) (sym b.0) ∙ a)) (lex_cases q r k))
      (λ a. ⊎_elim (λ b. first (ap (λ z. before z r.0) a.0 ∙ b))
      (λ b. lex_second p r (a.0 ∙ b.0) (number_order.transitive p.1 q.1 r.1 a.1 b.1)) (lex_cases q r k))
      (lex_cases p q h)

  lex_connected : (p q : A × ℕ) → lex p q ≡ false → lex q p ≡ false → p ≡ q
  lex_connected p q h k =
      let a = or_parts (before p.0 q.0) (same before p.0 q.0 && ltb p.1 q.1) h in
      let b = or_parts (before q.0 p.0) (same before q.0 p.0 && ltb q.1 p.1) k in
      let e = o.connected p.0 q.0 a.0 b.0 in
      let second : (m n : A × ℕ) → m.0 ≡ n.0 → (same before m.0 n.0 && ltb m.1 n.1) ≡ false → ltb m.1 n.1 ≡ false =
      λ m n i z. ap (λ s. s && ltb m.1 n.1) (sym (ap (λ x. same before x n.0) i ∙ same_itself before o n.0)) ∙ z in
      ap₂ {C = A × ℕ} (λ x n. (x, n)) e (number_order.connected p.1 q.1 (second p q e a.1) (second q p (sym e) b.1))

  pub lex_order : StrictOrder lex
  lex_order = record {
    irreflexive = λ p. or_from (before p.0 p.0) (same before p.0 p.0 && ltb p.1 p.1) (o.irreflexive p.0)
        (and_right (same before p.0 p.0) (ltb p.1 p.1) (number_order.irreflexive p.1));
    transitive = lex_transitive;
    connected = lex_connected;
  }

  abbrev pub key : Timer A → A × ℕ
  key x = (x.soft, x.number)

  pub keys_differ : (xs : List (Timer A)) → Distinct xs → Pairwise (Differ key lex lex_order) xs
  keys_differ =
      pairwise_weaker (λ x y. eqb x.number y.number ≡ false) (Differ key lex lex_order)
      (λ x y h e. both_ways (eqb x.number y.number) h (eq-eqb x.number y.number (ap (λ k. k.1) e)))

  wake_up_alike : (w : A) {xs ys : List (Timer A)} → Distinct xs → Rearranged xs ys → wake_up before w xs ≡ wake_up before w ys
  wake_up_alike w {xs} {ys} d r =
      ap₂ (λ m l. map (entry w m) l)
      (least_rearranged ltb number_order (map_rearranged (λ x. x.number) (kept_rearranged (λ x. same before x.hard w) r)))
      (sorted_alike key lex lex_order (kept_rearranged (ripe before w) r) (keys_differ (filter (ripe before w) xs) (pairwise_kept (ripe before w) _ xs d)))

  pub least_hard_alike : {xs ys : List (Timer A)} → Rearranged xs ys → least_hard before xs ≡ least_hard before ys
  least_hard_alike r = least_rearranged before o (map_rearranged (λ x. x.hard) r)

  pub record ServedAlike (r q : Served A) : Type 0 where
    pub wakes : r.wakes ≡ q.wakes
    pub entries : r.entries ≡ q.entries
    pub pending : Rearranged r.pending q.pending

  abbrev ServesAlike : ℕ → A → Type 0
  ServesAlike n t = (xs ys : List (Timer A)) → Distinct xs → Rearranged xs ys → ServedAlike (serve before n t xs) (serve before n t ys)

  still_alike : (xs ys : List (Timer A)) → Rearranged xs ys → ServedAlike (still xs) (still ys)
  still_alike xs ys r = record { wakes = refl; entries = refl; pending = r }

  from_alike : (n : ℕ) (t : A) → ServesAlike n t → (xs ys : List (Timer A)) → Distinct xs → Rearranged xs ys → (h : Option A) →
      ServedAlike (serve_from before (serve before n t) t xs h) (serve_from before (serve before n t) t ys h)
  from_alike n t ih xs ys d r None = still_alike xs ys r
  from_alike n t ih xs ys d r (Some w) =
      let rest = ih (spared before w xs) (spared before w ys) (pairwise_kept (λ x. not (ripe before w x)) _ xs d) (kept_rearranged (λ x. not (ripe before w x)) r) in
      choose (before w t)
      (record { wakes = ap (λ l. w ∷ l) rest.wakes; entries = ap₂ ◌++◌ (wake_up_alike w d r) rest.entries; pending = rest.pending })
      (still_alike xs ys r)
    where
      choose : (b : Bool) {p q p' q' : Served A} → ServedAlike p p' → ServedAlike q q' → ServedAlike (cond b p q) (cond b p' q')
      choose true f g = f
      choose false f g = g

  serves_alike : (n : ℕ) (t : A) → ServesAlike n t
  serves_alike zero t xs ys d r = still_alike xs ys r
  serves_alike (suc n) t xs ys d r =
      subst (λ h. ServedAlike (serve before (suc n) t xs) (serve_from before (serve before n t) t ys h)) (least_hard_alike r)
      (from_alike n t (serves_alike n t) xs ys d r (least_hard before xs))

  pub walk_alike : (t : A) (xs ys : List (Timer A)) → Distinct xs → Rearranged xs ys → ServedAlike (walk before t xs) (walk before t ys)
  walk_alike t xs ys d r = subst (λ n. ServedAlike (walk before t xs) (serve before n t ys)) (length_rearranged r) (serves_alike (length xs) t xs ys d r)

  fault_alike : (s : State A) (xs : List (Timer A)) (t : A) (room : ℕ) → Rearranged s.pending xs → advance_fault before s t room ≡ advance_fault before (listing s xs) t room
  fault_alike s xs t room r =
      ap₂ (λ l n. given (not (same_due before s.due l)) AlarmMoved (given (before t s.clock) AdvancePassed (given (ltb room n) LogShort None)))
      (least_hard_alike r) (length_rearranged r)

  concluded : (f : Option QueueFault) (s : State A) (xs : List (Timer A)) (t : A) (p q : Served A) → Rearranged s.pending xs → ServedAlike p q →
      Alike (conclude {R = ℕ × ℕ} f s (length p.wakes, length p.entries) (settle before s p.pending t) p.entries)
      (conclude {R = ℕ × ℕ} f (listing s xs) (length q.wakes, length q.entries) (settle before (listing s xs) q.pending t) q.entries)
  concluded (Some f) s xs t p q r a = record { answer = refl; logged = refl; usable = refl; clock = refl; due = refl; pending = r }
  concluded None s xs t p q r a = record {
    answer = ap₂ (λ ws es. Ok (length ws, length es)) a.wakes a.entries;
    logged = a.entries;
    usable = refl;
    clock = refl;
    due = least_hard_alike a.pending;
    pending = a.pending;
  }

pub order_of_listing_is_free : {A : Type 0} (before : A → A → Bool) → StrictOrder before → OrderOfListingIsFree before
order_of_listing_is_free before o s xs t room d r =
    let p = walk before t s.pending in
    let q = walk before t xs in
    subst (λ f. Alike (advancing before s t room) (conclude {R = ℕ × ℕ} f (listing s xs) (length q.wakes, length q.entries) (settle before (listing s xs) q.pending t) q.entries))
    (fault_alike before o s xs t room r)
    (concluded before o (advance_fault before s t room) s xs t p q r (walk_alike before o t s.pending xs d r))
