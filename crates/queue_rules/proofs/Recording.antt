-- What is recorded of a list of calls is a history of them.
use Rattle.std.proofs.Common.{◌≡◌, ℕ, Bool, List, [], ◌∷◌, ◌++◌, map, sym, refl, subst, append_assoc, append-nil}
use Rattle.queue_rules.specs.Calls.{State, started}
use Rattle.queue_rules.specs.Events.{Event, Lived, starting, armed_next, cancelled_next, advanced_next}
use Rattle.queue_rules.specs.Listed.{Request, arm, cancel, advance, asked, next_state, next_event, left_by, recorded, CallsRecorded}

module _ {A : Type 0} (before : A → A → Bool) where
  asks_next : (s : State A) (q : Request A) (room : ℕ) → asked (next_event before s q room).deed ≡ q
  asks_next s (arm x) room = refl
  asks_next s (cancel n) room = refl
  asks_next s (advance t) room = refl

  asks_all : (s : State A) (ks : List (Request A × ℕ)) → map (λ e. asked e.deed) (recorded before s ks) ≡ map (λ k. k.0) ks
  asks_all s [] = refl
  asks_all s (k ∷ ks) = let ih = asks_all (next_state before s k.0 k.1) ks in let here = asks_next s k.0 k.1 in cc

  module _ (u : ℕ) (c : A) where
    lives_next : (es : List (Event A)) (s : State A) (q : Request A) (room : ℕ) → Lived before u c es s →
        Lived before u c (es ++ (next_event before s q room ∷ [])) (next_state before s q room)
    lives_next es s (arm x) room l = armed_next l x
    lives_next es s (cancel n) room l = cancelled_next l n
    lives_next es s (advance t) room l = advanced_next l t room

    lives_on : (es : List (Event A)) (s : State A) (ks : List (Request A × ℕ)) → Lived before u c es s →
        Lived before u c (es ++ recorded before s ks) (left_by before s ks)
    lives_on es s [] l = subst (λ d. Lived before u c d s) (sym (append-nil es)) l
    lives_on es s (k ∷ ks) l =
        let e = next_event before s k.0 k.1 in
        let s' = next_state before s k.0 k.1 in
        subst (λ d. Lived before u c d (left_by before s' ks)) (append_assoc es (e ∷ []) (recorded before s' ks))
        (lives_on (es ++ (e ∷ [])) s' ks (lives_next es s k.0 k.1 l))

pub calls_recorded : {A : Type 0} (before : A → A → Bool) → CallsRecorded before
calls_recorded before u c ks = (asks_all before (started u c) ks, lives_on before u c [] (started u c) ks starting)
