-- Accounts of two stretches of a file add up to one.
use Rattle.std.proofs.Common.{◌≡◌, ℕ, ◌+◌, List, [], ◌∷◌, ◌++◌, length, filter, sym, refl, ap, ◌∙◌, ap₂, arith}
use Rattle.std.proofs.lemmas.List.{append_assoc, length-append}
use Rattle.std.proofs.lemmas.List.Elements.{filter-append}
use Rattle.runs.specs.Accounts.{Answer, counted, code, numbered, answer_in, answers_in, woken, fired, logged, total}
use Rattle.runs.specs.Frames.{Frame}
use Rattle.runs.specs.Replies.{Tally}

pub answers_append : (fs gs : List Frame) → answers_in (fs ++ gs) ≡ answers_in fs ++ answers_in gs
answers_append [] gs = refl
answers_append (f ∷ fs) gs = ap (λ l. answer_in f ++ l) (answers_append fs gs) ∙ sym (append_assoc (answer_in f) (answers_in fs) (answers_in gs))

pub total_append : (of : Frame → ℕ) (fs gs : List Frame) → total of (fs ++ gs) ≡ total of fs + total of gs
total_append of [] gs = omega arith
total_append of (f ∷ fs) gs = let ih = total_append of fs gs in omega arith

numbered_append : (n : ℕ) (rs qs : List Answer) → numbered n (rs ++ qs) ≡ numbered n rs ++ numbered (n + length rs) qs
numbered_append n [] qs = ap (λ (m : ℕ). numbered m qs) (omega arith)
numbered_append n (a ∷ rs) qs =
    ap (λ l. (n, code a) ∷ l) (numbered_append (n + 1) rs qs ∙ ap (λ (m : ℕ). numbered (n + 1) rs ++ numbered m qs) (omega arith))

-- the frames fs account for the answers rs, which took the tally from t to t'
pub record Adds (t : Tally) (rs : List Answer) (fs : List Frame) (t' : Tally) : Type 0 where
  pub in_order : answers_in fs ≡ numbered (t.lines + 1) (filter counted rs)
  pub lines : t'.lines ≡ t.lines + length (filter counted rs)
  pub wake_ups : t'.wakes ≡ t.wakes + total woken fs
  pub firings : t'.firings ≡ t.firings + total fired fs
  pub firing_frames : total logged fs ≡ total fired fs

pub adds_none : (t : Tally) → Adds t [] [] t
adds_none t = record { in_order = refl; lines = omega arith; wake_ups = omega arith; firings = omega arith; firing_frames = refl }

pub adds_both : (t u v : Tally) (rs qs : List Answer) (fs gs : List Frame) → Adds t rs fs u → Adds u qs gs v → Adds t (rs ++ qs) (fs ++ gs) v
adds_both t u v rs qs fs gs h k =
    let ks : List Answer = filter counted rs in
    let kept : filter counted (rs ++ qs) ≡ ks ++ filter counted qs = filter-append counted rs qs in
    let size : length (filter counted (rs ++ qs)) ≡ length ks + length (filter counted qs) = ap length kept ∙ length-append ks (filter counted qs) in
    let w = total_append woken fs gs in
    let f = total_append fired fs gs in
    let l = total_append logged fs gs in
    let next : u.lines + 1 ≡ t.lines + 1 + length ks = let e = h.lines in omega arith in
    record {
      in_order =
          answers_append fs gs
          ∙ ap₂ ◌++◌ h.in_order (k.in_order ∙ ap (λ (n : ℕ). numbered n (filter counted qs)) next)
          ∙ sym (numbered_append (t.lines + 1) ks (filter counted qs))
          ∙ ap (numbered (t.lines + 1)) (sym kept);
      lines = let a = h.lines in let b = k.lines in omega arith;
      wake_ups = let a = h.wake_ups in let b = k.wake_ups in omega arith;
      firings = let a = h.firings in let b = k.firings in omega arith;
      firing_frames = let a = h.firing_frames in let b = k.firing_frames in omega arith;
    }
