-- What a refused line leaves, in every state of a run.
use Rattle.std.proofs.Common.{◌≡◌, ℕ, ◌+◌, ◌*◌, true, cond, ltb, leb, [], ◌∷◌, is_err, Some, None, Ok, Err, Option, Result, sym, refl, ap}
use Rattle.std.proofs.lemmas.Bool.{false≢true}
use Rattle.runs.specs.declared.faults.RunFault.{RunFault}
use Rattle.runs.specs.declared.faults.RunFault.TheVariants.{NotNow}
use Rattle.runs.specs.Files.{Run, waiting, ticks, day_ticks, closed, tick_kind, day_tick_kind, as_run}
use Rattle.runs.specs.Frames.{answer}
use Rattle.runs.specs.Numbers.{run_number}
use Rattle.runs.specs.Refusals.{RefusedSo, RefusalsLeave}
use Rattle.runs.specs.Replies.{Tally, Effect, Reply, counting, unanswered, heard, unless, replied}
use Rattle.runs.proofs.Replying.{Fit, Skips, skips, waiting_fit, open_fit}

heard_refused : {S : Type 0} (t : Tally) (s : S) (e : Result (Effect S) RunFault) → Fit e → is_err (heard t s e).answered ≡ true → RefusedSo t s (heard t s e)
heard_refused t s (Ok e) h r = absurd (false≢true r)
heard_refused t s (Err f) h r =
    record {
      left = refl;
      tally = ap (λ b. cond b (counting t 0 0) t) (sym h);
      frames = ap (λ b. cond b (answer (t.lines + 1) (run_number f) 0 0 ∷ []) []) (sym h);
    }

unless_refused : {S : Type 0} (o : Option RunFault) (t : Tally) (s : S) (p : Reply S) → Skips o → (is_err p.answered ≡ true → RefusedSo t s p) →
    is_err (unless o t s p).answered ≡ true → RefusedSo t s (unless o t s p)
unless_refused (Some f) t s p h k r =
    record {
      left = refl;
      tally = ap (λ b. cond b (counting t 0 0) t) (sym h);
      frames = ap (λ b. cond b (answer (t.lines + 1) (run_number f) 0 0 ∷ []) []) (sym h);
    }
unless_refused None t s p h k r = k r

-- as a run in one of its states
replied_refused : {S : Type 0} (g : S → Run) (room pending : ℕ) (t : Tally) (s : S) (e : Result (Effect S) RunFault) → Fit e →
    is_err (replied room pending t s e).answered ≡ true → RefusedSo t (g s) (as_run g (replied room pending t s e))
replied_refused g room pending t s e h r =
    let k =
    unless_refused (unanswered room pending t) t s (heard t s e) (skips (ltb room (63 * pending + 23)) (leb 1000000 t.lines)) (heard_refused t s e h) r in
    record { left = ap g k.left; tally = k.tally; frames = k.frames }

pub refusals_leave : RefusalsLeave
refusals_leave t (waiting s) f r = replied_refused waiting f.room 0 t s _ (waiting_fit s f.line) r
refusals_leave t (ticks s) f r = replied_refused ticks f.room _ t s _ (open_fit tick_kind f.log s f.line) r
refusals_leave t (day_ticks s) f r = replied_refused day_ticks f.room _ t s _ (open_fit day_tick_kind f.log s f.line) r
refusals_leave t (closed n) f r = replied_refused closed f.room n t n (Err NotNow) refl r
