-- The firings of a line in the buffer, and its answer behind them.
use Rattle.std.proofs.Common.{◌≡◌, ℕ, ◌+◌, ◌-◌, List, [], ◌∷◌, ◌++◌, map, length, take, drop, Ok, Err, Result, sym, refl, ap, ◌∙◌, subst, arith}
use Rattle.std.proofs.lemmas.List.{flat_map_more}
use Rattle.std.specs.Prelude.{MatchResult}
use Rattle.queue_rules.specs.declared.firing.Firing.{Firing}
use Rattle.runs.specs.declared.faults.RunFault.{RunFault}
use Rattle.runs.specs.declared.replies.Replied.{Replied}
use Rattle.runs.specs.Finishing.{told}
use Rattle.runs.specs.Frames.{Frame, answer, frame_payload, text, firing_frame}
use Rattle.runs.specs.Numbers.{run_number}
use Rattle.runs.specs.Performing.{forget}
use Rattle.runs.specs.Replies.{Tally, Effect, refusing, counting, heard, RepliedBy}
use Rattle.runs.specs.Report.{report_line, outcome_payload, Placed}
use Rattle.runs.proofs.FiringLines.{placed_next, lines_of}

module _ {A : Type 0} (plain : A → ℕ) (log : List (Firing A)) (old : List ℕ) where
  -- the firings of a line stand in the buffer up to a place, or nothing does where it is refused
  abbrev pub Logged : Result (ℕ × ℕ) RunFault → List ℕ → ℕ → Type 0
  Logged (Ok n) mid at = Placed (lines_of plain (take n.1 log)) 0 old mid at
  Logged (Err f) mid at = Placed [] 0 old mid at

  pub logged : (o : Result (ℕ × ℕ) RunFault) (w f n : ℕ) (mid : List ℕ) (at : ℕ) → o ≡ Ok (w, f) → n ≡ f →
      Placed (lines_of plain (take (n - 0) log)) 0 old mid at → Logged o mid at
  logged o w f n mid at e m p =
      let size : n - 0 ≡ f = omega arith in
      subst (λ (x : Result (ℕ × ℕ) RunFault). Logged x mid at) (sym e)
      (subst (λ (k : ℕ). Placed (lines_of plain (take k log)) 0 old mid at) size p)

  pub none_logged : (o : Result (ℕ × ℕ) RunFault) (f : RunFault) → o ≡ Err f → Logged o old 0
  none_logged o f e = subst (λ (x : Result (ℕ × ℕ) RunFault). Logged x old 0) (sym e) (record { ends = refl; stands = refl })

  module _ (t t' : Tally) (mid new : List ℕ) (at : ℕ) (r : Replied) where
    -- frames in the buffer, and one more behind them
    one_more : (fs : List Frame) (last : Frame) → Placed (text fs) 0 old mid at → Placed (report_line (frame_payload last)) at mid new r.written →
        (r.written ≡ length (text (fs ++ (last ∷ [])))) × (new ≡ text (fs ++ (last ∷ [])) ++ drop r.written old)
    one_more fs last p q =
        let line : Frame → List ℕ = λ x. report_line (frame_payload x) in
        let all : text fs ++ line last ≡ text (fs ++ (last ∷ [])) = flat_map_more line [] fs last in
        let both = placed_next (text fs) (line last) old mid new 0 at r.written (omega arith) p q in (
          (let e = both.ends in let n = ap length all in omega arith),
          both.stands ∙ ap (λ (l : List ℕ). l ++ drop r.written old) all,
        )

    pub finished : (o : Result (ℕ × ℕ) RunFault) → Logged o mid at → Placed (report_line (outcome_payload (t.lines + 1) o)) at mid new r.written →
        MatchResult o (λ _. r.answer ≡ Ok tt) (λ f. r.answer ≡ refusing t f) → MatchResult o (λ n. t' ≡ counting t n.0 n.1) (λ _. t' ≡ counting t 0 0) →
        RepliedBy (heard t tt (told plain o log)) t' tt old new r
    finished (Ok n) p q a c =
        let stands = one_more (map (firing_frame plain) (take n.1 log)) (answer (t.lines + 1) 0 n.0 n.1) p q in
        record { answered = a; tally = c; left = refl; written = stands.0; buffer = stands.1 }
    finished (Err f) p q a c =
        let stands = one_more [] (answer (t.lines + 1) (run_number f) 0 0) p q in
        record { answered = a; tally = c; left = refl; written = stands.0; buffer = stands.1 }

-- a reply that was right but for that is right where the run keeps what it should
pub regained : {S : Type 0} (t t' : Tally) (s s' : S) (e : Result (Effect S) RunFault) (old new : List ℕ) (r : Replied) →
    RepliedBy (heard t tt (forget e)) t' tt old new r → s' ≡ (heard t s e).left → RepliedBy (heard t s e) t' s' old new r
regained t t' s s' (Ok e) old new r h k = record { answered = h.answered; tally = h.tally; left = k; written = h.written; buffer = h.buffer }
regained t t' s s' (Err f) old new r h k = record { answered = h.answered; tally = h.tally; left = k; written = h.written; buffer = h.buffer }
