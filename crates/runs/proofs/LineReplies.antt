-- The reply to a line, from what was counted, done and written.
use Rattle.std.proofs.Common.{◌≡◌, ℕ, ◌≤◌, List, length, drop, Some, None, Ok, Err, Option, Result, sym, refl, ap, ◌∙◌, subst, arith}
use Rattle.std.proofs.lemmas.List.{length-append, length-drop}
use Rattle.queue_rules.specs.declared.firing.Firing.{Firing}
use Rattle.times.specs.declared.order.Time.{Ghosts}
use Rattle.timer_queue.specs.declared.queue.TimerQueue.{TimerQueue}
use Rattle.runs.specs.declared.faults.RunFault.{RunFault}
use Rattle.runs.specs.declared.replies.Refusal.{Refusal}
use Rattle.runs.specs.declared.replies.Replied.{Replied}
use Rattle.runs.specs.Calling.{effect_left, Untouched}
use Rattle.runs.specs.Finishing.{told}
use Rattle.runs.specs.Frames.{text}
use Rattle.runs.specs.Performing.{forget}
use Rattle.runs.specs.Replies.{Tally, Effect, Reply, refusing, unanswered, heard, unless, replied, RepliedBy}
use Rattle.runs.proofs.Finished.{regained}

module _ {S : Type 0} (room pending : ℕ) (t t' : Tally) (s s' : S) (e : Result (Effect S) RunFault) (old new : List ℕ) (r : Replied) where
  -- a line that is not even counted
  pub ignored : (f : RunFault) → Some f ≡ unanswered room pending t → r.written ≡ 0 → r.answer ≡ refusing t f → RepliedBy (replied room pending t s e) t s old old r
  ignored f u w a =
      subst (λ (x : Option RunFault). RepliedBy (unless x t s (heard t s e)) t s old old r) u
      (record { answered = a; tally = refl; left = refl; written = w; buffer = sym (ap (λ n. drop n old) w) })

  heard_left : (x : Result (Effect S) RunFault) → effect_left x s ≡ (heard t s x).left
  heard_left (Ok x) = refl
  heard_left (Err f) = refl

  -- a line that is counted, from the answer that was finished and what the run keeps
  pub answered : (d : Result (Effect (Unit {0})) RunFault) → None ≡ unanswered room pending t → d ≡ forget e → RepliedBy (heard t tt d) t' tt old new r → s' ≡ effect_left e s →
      RepliedBy (replied room pending t s e) t' s' old new r
  answered d u p h k =
      subst (λ (x : Option RunFault). RepliedBy (unless x t s (heard t s e)) t' s' old new r) u
      (regained t t' s s' e old new r (subst (λ (x : Result (Effect (Unit {0})) RunFault). RepliedBy (heard t tt x) t' tt old new r) p h) (k ∙ heard_left e))

-- what is written lies within the buffer
pub written_within : {S : Type 0} (reply : Reply S) (t : Tally) (s : S) (old new : List ℕ) (r : Replied) → RepliedBy reply t s old new r → length new ≡ length old → r.written ≤ length old
written_within reply t s old new r h e =
    let n = ap length h.buffer in
    let w = h.written in
    omega (arith, length-append (text reply.frames) (drop r.written old), length-drop r.written old)

-- what a refusal leaves, told of the queue's answer and of the line's
module _ {A : Type 0} {G : Ghosts A} (plain : A → ℕ) (q q' : TimerQueue A G) (c c' : A) (d d' : Option A) (l l' : List (Firing A)) where
  pub untouched_so : (t : Tally) (o : Result (ℕ × ℕ) RunFault) (a : Result (Unit {0}) Refusal) → a ≡ (heard t tt (told plain o l')).answered →
      Untouched o q q' c c' d d' l l' → Untouched a q q' c c' d d' l l'
  untouched_so t (Ok n) a e h = subst (λ (x : Result (Unit {0}) Refusal). Untouched x q q' c c' d d' l l') (sym e) tt
  untouched_so t (Err f) a e h = subst (λ (x : Result (Unit {0}) Refusal). Untouched x q q' c c' d d' l l') (sym e) h

pub untouched_itself : {A : Type 0} {G : Ghosts A} (q : TimerQueue A G) (c : A) (d : Option A) (l : List (Firing A)) (t : Tally) (f : RunFault) (a : Result (Unit {0}) Refusal) → a ≡ refusing t f →
    Untouched a q q c c d d l l
untouched_itself q c d l t f a e = subst (λ (x : Result (Unit {0}) Refusal). Untouched x q q c c d d l l) (sym e) (refl, refl, refl, refl)
