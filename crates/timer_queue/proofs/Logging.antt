-- A log filled entry by entry.
use Rattle.std.proofs.Common.{◌≡◌, ℕ, ◌+◌, ◌<◌, ◌≤◌, List, [], ◌∷◌, ◌++◌, length, get_or, take, drop, set, sym, refl, ap, ◌∙◌, add-zero, arith}
use Rattle.std.proofs.lemmas.List.{append_assoc, length-append, length_push, length-take-le, take-append-drop, drop_more, drop-drop, drop_at, take_at, set_at}
use Rattle.timer_queue.specs.Logs.{logged_at}

module _ {X : Type 0} where
  pub log_none : (n : ℕ) (old : List X) → old ≡ logged_at n old []
  log_none n old = sym (ap (λ k. take n old ++ drop k old) (add-zero n) ∙ take-append-drop n old)

  pub log_more : (n k : ℕ) (old fs : List X) (f : X) → k ≡ n + length fs → k < length old → set (logged_at n old fs) k f ≡ logged_at n old (fs ++ f ∷ [])
  log_more n k old fs f e h =
      let front : List X = take n old ++ fs in
      let rest : List X = drop (k + 1) old in
      let size : length front ≡ k = length-append (take n old) fs ∙ ap (λ m. m + length fs) (length-take-le n old (omega arith)) ∙ sym e in
      let next : k + 1 ≡ n + length (fs ++ f ∷ []) = omega (arith, length_push fs f) in
      ap (λ m. set (take n old ++ (fs ++ drop m old)) k f) (sym e)
      ∙ ap (λ l. set l k f) (sym (append_assoc (take n old) fs (drop k old)) ∙ ap (λ l. front ++ l) (drop_more old k f h))
      ∙ set_at front (get_or old k f) rest f k size
      ∙ append_assoc (take n old) fs (f ∷ rest)
      ∙ ap (λ l. take n old ++ l) (sym (append_assoc fs (f ∷ []) rest))
      ∙ ap (λ m. take n old ++ ((fs ++ f ∷ []) ++ drop m old)) next

  -- entries behind entries, from the start of the log
  pub log_join : (old fs gs : List X) → length fs ≤ length old → logged_at (length fs) (logged_at 0 old fs) gs ≡ logged_at 0 old (fs ++ gs)
  log_join old fs gs h =
      let n : ℕ = length fs in
      let l : List X = fs ++ drop (0 + n) old in
      let front : take n l ≡ fs = take_at fs (drop (0 + n) old) n refl in
      let back : drop (n + length gs) l ≡ drop (0 + length (fs ++ gs)) old =
      sym (drop-drop (length gs) n l)
      ∙ ap (drop (length gs)) (drop_at fs (drop (0 + n) old) n refl)
      ∙ drop-drop (length gs) (0 + n) old
      ∙ ap (λ m. drop m old) (omega (arith, length-append fs gs)) in
      ap (λ t. t ++ (gs ++ drop (n + length gs) l)) front
      ∙ ap (λ t. fs ++ (gs ++ t)) back
      ∙ sym (append_assoc fs gs (drop (0 + length (fs ++ gs)) old))
