-- Each reply is accounted for by its own frames.
use Rattle.std.proofs.Common.{◌≡◌, ℕ, ◌+◌, ◌*◌, Bool, true, false, cond, ltb, leb, List, [], ◌∷◌, ◌++◌, map, length, Some, None, Ok, Err, Option, Result, sym, refl, ap, ◌∙◌, arith}
use Rattle.std.specs.Result.{result_map_both}
use Rattle.queue_rules.specs.declared.fault.QueueFault.{QueueFault}
use Rattle.queue_rules.specs.declared.firing.Firing.{Firing}
use Rattle.queue_rules.specs.Calls.{State, conclude, arm_fault, cancel_fault, advance_fault}
use Rattle.queue_rules.specs.WakeUps.{walk}
use Rattle.runs.specs.declared.faults.RunFault.{RunFault}
use Rattle.runs.specs.declared.faults.RunFault.TheVariants.{ShortBuffer, TooManyLines}
use Rattle.runs.specs.declared.opening.Opening.{Opening}
use Rattle.runs.specs.declared.steps.Step.{Step}
use Rattle.runs.specs.declared.steps.Step.TheVariants.{Arm, Cancel, Advance, Close}
use Rattle.runs.specs.Accounts.{Answer, counts_line, numbered, answers_in, woken, fired, logged, total}
use Rattle.runs.specs.Frames.{Frame, answer, firing_frame}
use Rattle.runs.specs.Hearing.{and_then}
use Rattle.runs.specs.Opened.{Kind, Opened, called, carried_out, step_in}
use Rattle.runs.specs.Replies.{Tally, Effect, Reply, quiet, refusing, unanswered, heard, unless, replied}
use Rattle.runs.specs.Waiting.{opening_in}
use Rattle.runs.proofs.Adding.{answers_append, total_append, Adds}
use Rattle.runs.proofs.Hearings.{Heard, waiting_heard, open_heard}

-- a log of so many firings, and of nothing else
pub record LogOf (n : ℕ) (fs : List Frame) : Type 0 where
  pub answers : answers_in fs ≡ []
  pub woke : total woken fs ≡ 0
  pub fires : total fired fs ≡ 0
  pub logs : total logged fs ≡ n

pub log_of : {A : Type 0} (plain : A → ℕ) (es : List (Firing A)) → LogOf (length es) (map (firing_frame plain) es)
log_of plain [] = record { answers = refl; woke = refl; fires = refl; logs = refl }
log_of plain (e ∷ es) =
    let h = log_of plain es in
    record { answers = h.answers; woke = let a = h.woke in omega arith; fires = let a = h.fires in omega arith; logs = let a = h.logs in omega arith }

-- what a line must do for its reply to be accounted for
abbrev pub Fit : {S : Type 0} → Result (Effect S) RunFault → Type 0
Fit (Ok e) = LogOf e.firings e.log
Fit (Err f) = counts_line f ≡ true

quiet_fit : {X S : Type 0} (r : Result X RunFault) (g : X → S) → Heard r → Fit (result_map_both (λ (x : X). quiet (g x)) (λ (f : RunFault). f) r)
quiet_fit (Ok x) g h = record { answers = refl; woke = refl; fires = refl; logs = refl }
quiet_fit (Err f) g h = h

module _ {A : Type 0} (k : Kind A) where
  called_fit : {R : Type 0} (counts : R → ℕ × ℕ) (o : Option QueueFault) (s s' : State A) (r : R) (es : List (Firing A)) → length es ≡ (counts r).1 →
      Fit (called k counts (conclude o s r s' es))
  called_fit counts (Some f) s s' r es e = refl
  called_fit counts None s s' r es e =
      let h = log_of k.plain es in
      record { answers = h.answers; woke = h.woke; fires = h.fires; logs = h.logs ∙ e }

  carried_fit : (log : ℕ) (q : State A) (s : Step A) → Fit (carried_out k log q s)
  carried_fit log q (Arm x) = called_fit (λ _. (0, 0)) (arm_fault k.before q x) q _ tt [] refl
  carried_fit log q (Cancel n) = called_fit (λ _. (0, 0)) (cancel_fault k.before q n) q _ tt [] refl
  carried_fit log q (Advance t) = called_fit (λ n. n) (advance_fault k.before q t log) q _ _ (walk k.before t q.pending).entries refl
  carried_fit log q Close = record { answers = refl; woke = refl; fires = refl; logs = refl }

  steps_fit : (log : ℕ) (q : State A) (r : Result (Step A) RunFault) → Heard r → Fit (and_then r (carried_out k log q))
  steps_fit log q (Ok s) h = carried_fit log q s
  steps_fit log q (Err f) h = h

  pub open_fit : (log : ℕ) (s : Opened A) (line : List ℕ) →
      Fit (and_then (step_in k s.closing s.queue.clock line) (carried_out k log s.queue))
  open_fit log s line = steps_fit log s.queue (step_in k s.closing s.queue.clock line) (open_heard k s.closing s.queue.clock line)

pub waiting_fit : (s : Option Opening) (line : List ℕ) → Fit (result_map_both (λ o. quiet (Some o)) (λ (f : RunFault). f) (opening_in s line))
waiting_fit s line = quiet_fit (opening_in s line) Some (waiting_heard s line)

heard_adds : {S : Type 0} (t : Tally) (s : S) (e : Result (Effect S) RunFault) → Fit e →
    Adds t ((heard t s e).answered ∷ []) (heard t s e).frames (heard t s e).tally
heard_adds t s (Ok e) h =
    let last : List Frame = answer (t.lines + 1) 0 e.wakes e.firings ∷ [] in
    let w = total_append woken e.log last in
    let f = total_append fired e.log last in
    let l = total_append logged e.log last in
    let a = h.woke in
    let b = h.fires in
    let c = h.logs in
    record {
      in_order = answers_append e.log last ∙ ap (λ r. r ++ answers_in last) h.answers;
      lines = refl;
      wake_ups = omega arith;
      firings = omega arith;
      firing_frames = omega arith;
    }
heard_adds t s (Err f) h =
    let kept : Bool → List Answer = λ b. cond b (refusing t f ∷ []) [] in
    record {
      in_order = ap (λ b. numbered (t.lines + 1) (kept b)) (sym h);
      lines = ap (λ b. t.lines + length (kept b)) (sym h);
      wake_ups = refl;
      firings = refl;
      firing_frames = refl;
    }

abbrev pub Skips : Option RunFault → Type 0
Skips (Some f) = counts_line f ≡ false
Skips None = Unit {0}

pub skips : (a b : Bool) → Skips (cond a (Some ShortBuffer) (cond b (Some TooManyLines) None))
skips true b = refl
skips false true = refl
skips false false = tt

unless_adds : {S : Type 0} (o : Option RunFault) (t : Tally) (s : S) (p : Reply S) → Skips o → Adds t (p.answered ∷ []) p.frames p.tally →
    Adds t ((unless o t s p).answered ∷ []) (unless o t s p).frames (unless o t s p).tally
unless_adds (Some f) t s p h k =
    let kept : Bool → List Answer = λ b. cond b (refusing t f ∷ []) [] in
    record {
      in_order = ap (λ b. numbered (t.lines + 1) (kept b)) (sym h);
      lines = let e = ap (λ b. length (kept b)) h in omega arith;
      wake_ups = omega arith;
      firings = omega arith;
      firing_frames = refl;
    }
unless_adds None t s p h k = k

pub replied_adds : {S : Type 0} (room pending : ℕ) (t : Tally) (s : S) (e : Result (Effect S) RunFault) → Fit e →
    Adds t ((replied room pending t s e).answered ∷ []) (replied room pending t s e).frames (replied room pending t s e).tally
replied_adds room pending t s e h =
    unless_adds (unanswered room pending t) t s (heard t s e) (skips (ltb room (63 * pending + 23)) (leb 1000000 t.lines)) (heard_adds t s e h)
