-- What follows from the laws of an order of times, and the order of numbers.
use Rattle.std.proofs.Common.{◌≡◌, Bool, true, false, ◌||◌, ltb, subst, ⊎_elim, arith}
use Rattle.std.proofs.lemmas.Bool.{cases_Bool, both_ways, ltb-true, ltb-false, lt-ltb, le-ltb, or_parts, not-true, not_from_false, or_from}
use Rattle.times.specs.Order.{StrictOrder}
use Rattle.queue_rules.specs.Timers.{same}

pub number_order : StrictOrder ltb
number_order = record {
  irreflexive = λ a. le-ltb a a (omega arith);
  transitive = λ a b c h k. lt-ltb a c (omega (arith, ltb-true a b h, ltb-true b c k));
  connected = λ a b h k. omega (arith, ltb-false a b h, ltb-false b a k);
}

module _ {A : Type 0} (before : A → A → Bool) (o : StrictOrder before) where
  pub never_both : (a b : A) → before a b ≡ true → before b a ≡ false
  never_both a b h =
      ⊎_elim (λ k. absurd (both_ways (before a a) (o.irreflexive a) (o.transitive a b a h k))) (λ k. k) (cases_Bool (before b a))

  -- a before b, b not after c
  pub lt_le : (a b c : A) → before a b ≡ true → before c b ≡ false → before a c ≡ true
  lt_le a b c h k =
      ⊎_elim (λ e. o.transitive a b c h e) (λ e. subst (λ x. before a x ≡ true) (o.connected b c e k) h) (cases_Bool (before b c))

  -- a not after b, b before c
  pub le_lt : (a b c : A) → before b a ≡ false → before b c ≡ true → before a c ≡ true
  le_lt a b c h k =
      ⊎_elim (λ e. o.transitive a b c e k) (λ e. subst (λ x. before x c ≡ true) (o.connected b a h e) k) (cases_Bool (before a b))

  -- a not after b, b not after c
  pub le_le : (a b c : A) → before b a ≡ false → before c b ≡ false → before c a ≡ false
  le_le a b c h k =
      ⊎_elim (λ e. absurd (both_ways (before b a) h (le_lt b c a k e))) (λ e. e) (cases_Bool (before c a))

  pub same_is : (a b : A) → same before a b ≡ true → a ≡ b
  same_is a b h =
      let n = or_parts (before a b) (before b a) (not-true (before a b || before b a) h) in o.connected a b n.0 n.1

  pub same_itself : (a : A) → same before a a ≡ true
  same_itself a = let i = o.irreflexive a in not_from_false (before a a || before a a) (or_from (before a a) (before a a) i i)
