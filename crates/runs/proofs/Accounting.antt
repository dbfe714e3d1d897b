-- Every file is accounted for, line after line.
use Rattle.std.proofs.Common.{◌≡◌, ℕ, suc, cond, List, [], ◌∷◌, length, None, Err, refl, ap, arith}
use Rattle.runs.specs.declared.faults.RunFault.TheVariants.{NotNow}
use Rattle.runs.specs.Accounts.{FilesAccounted}
use Rattle.runs.specs.Files.{Run, waiting, ticks, day_ticks, closed, Feed, tick_kind, day_tick_kind, moved, run_line, fed}
use Rattle.runs.specs.Replies.{Tally, nothing}
use Rattle.runs.proofs.Adding.{Adds, adds_none, adds_both}
use Rattle.runs.proofs.Replying.{waiting_fit, open_fit, replied_adds}

line_adds : (t : Tally) (r : Run) (f : Feed) → Adds t ((run_line t r f).answered ∷ []) (run_line t r f).frames (run_line t r f).tally
line_adds t (waiting s) f = replied_adds f.room 0 t s _ (waiting_fit s f.line)
line_adds t (ticks s) f = replied_adds f.room _ t s _ (open_fit tick_kind f.log s f.line)
line_adds t (day_ticks s) f = replied_adds f.room _ t s _ (open_fit day_tick_kind f.log s f.line)
line_adds t (closed n) f = replied_adds f.room n t n (Err NotNow) refl

fed_adds : (u : ℕ) (t : Tally) (r : Run) (fs : List Feed) → Adds t (fed u t r fs).answers (fed u t r fs).frames (fed u t r fs).tally
fed_adds u t r [] = adds_none t
fed_adds u t r (f ∷ fs) =
    let p = run_line t r f in
    let next : Run = cond f.moves (moved u p.left) p.left in
    adds_both t p.tally _ (p.answered ∷ []) _ p.frames _ (line_adds t r f) (fed_adds u p.tally next fs)

one_each : (u : ℕ) (t : Tally) (r : Run) (fs : List Feed) → length (fed u t r fs).answers ≡ length fs
one_each u t r [] = refl
one_each u t r (f ∷ fs) = let p = run_line t r f in ap suc (one_each u p.tally (cond f.moves (moved u p.left) p.left) fs)

pub files_accounted : FilesAccounted
files_accounted u fs =
    let h = fed_adds u nothing (waiting None) fs in
    record {
      one_each = one_each u nothing (waiting None) fs;
      in_order = h.in_order;
      lines = let e = h.lines in omega arith;
      wake_ups = let e = h.wake_ups in omega arith;
      firings = let e = h.firings in omega arith;
      firing_frames = h.firing_frames;
    }
