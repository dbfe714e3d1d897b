-- However the input is cut into pieces, the lines handed on are those of the whole.
use Rattle.std.proofs.Common.{◌≡◌, ℕ, zero, suc, ◌+◌, ◌≤◌, true, false, eqb, List, [], ◌∷◌, ◌++◌, map, length, min, take, Some, None, Option, sym, refl, ap, ◌∙◌, subst, ⊎_elim, add-one, arith}
use Rattle.std.proofs.lemmas.List.{append_assoc, append-nil, take_all, take-take, take_min}
use Rattle.std.proofs.lemmas.Bool.{cases_Bool, cond-true, cond-false, eqb-true, true≢false}
use Rattle.lines.specs.declared.line.Line.{Line}
use Rattle.lines.specs.Lines.{starting, lines, keeping, cut_lines, feeds, before_feed, kept, Took, handed, Split, ended}
use Rattle.lines.proofs.LineSteps.{take_front, before_front}

-- a byte that is no line feed, and none after it
unfed : (b : ℕ) (bs : List ℕ) → feeds (b ∷ bs) ≡ false → (eqb b 10 ≡ false) × (feeds bs ≡ false)
unfed b bs h =
    ⊎_elim {C = (eqb b 10 ≡ false) × (feeds bs ≡ false)}
    (λ t. absurd (true≢false (sym (cond-true _ _ _ t) ∙ h)))
    (λ t. (t, sym (cond-false _ _ _ t) ∙ h))
    (cases_Bool (eqb b 10))

pub feeds_append : (xs ys : List ℕ) → feeds xs ≡ false → feeds ys ≡ false → feeds (xs ++ ys) ≡ false
feeds_append [] ys h k = k
feeds_append (x ∷ xs) ys h k = let u = unfed x xs h in cond-false _ _ _ u.0 ∙ feeds_append xs ys u.1 k

pub feeds_take : (n : ℕ) (xs : List ℕ) → feeds xs ≡ false → feeds (take n xs) ≡ false
feeds_take zero xs h = refl
feeds_take (suc n) [] h = refl
feeds_take (suc n) (x ∷ xs) h = let u = unfed x xs h in cond-false _ _ _ u.0 ∙ feeds_take n xs u.1

-- the first of some lines and the others, where none has the empty line for its first
first : List (List ℕ) → List ℕ
first [] = []
first (l ∷ ls) = l

others : List (List ℕ) → List (List ℕ)
others [] = []
others (l ∷ ls) = ls

starting_parts : (b : ℕ) (ls : List (List ℕ)) → starting b ls ≡ (b ∷ first ls) ∷ others ls
unfolding first others
starting_parts b [] = refl
starting_parts b (l ∷ ls) = refl

-- bytes without a line feed stand at the front of the first line
lines_front : (b : ℕ) (q more : List ℕ) → feeds (b ∷ q) ≡ false → lines ((b ∷ q) ++ more) ≡ ((b ∷ q) ++ first (lines more)) ∷ others (lines more)
unfolding first others
lines_front b [] more h = cond-false _ _ _ (unfed b [] h).0 ∙ starting_parts b (lines more)
lines_front b (c ∷ q) more h =
    let u = unfed b (c ∷ q) h in
    cond-false _ _ _ u.0 ∙ ap (starting b) (lines_front c q more u.1)

-- of an unended line only the part that is kept matters
cut_front : (q more : List ℕ) → feeds q ≡ false → cut_lines (q ++ more) ≡ cut_lines (keeping q ++ more)
cut_front [] more h = refl
cut_front (b ∷ q) more h =
    let k : feeds (b ∷ take 128 q) ≡ false = feeds_take 129 (b ∷ q) h in
    ap (map keeping) (lines_front b q more h)
    ∙ ap (λ (l : List ℕ). l ∷ map keeping (others (lines more))) (sym (take_front 129 (b ∷ q) (first (lines more))))
    ∙ sym (ap (map keeping) (lines_front b (take 128 q) more k))

-- a line feed ends the line
cut_feed : (q more : List ℕ) → feeds q ≡ false → cut_lines (q ++ 10 ∷ more) ≡ keeping q ∷ cut_lines more
unfolding first others
cut_feed [] more h = refl
cut_feed (b ∷ q) more h =
    ap (map keeping) (lines_front b q (10 ∷ more) h)
    ∙ ap (λ (l : List ℕ). keeping l ∷ cut_lines more) (append-nil (b ∷ q))

split_on : (past : List ℕ) (done : List (List ℕ)) (rest piece : List ℕ) → feeds piece ≡ false → Split past done rest →
    Split (past ++ piece) (done ++ []) (keeping (rest ++ piece))
split_on past done rest piece h s =
    let u : feeds (rest ++ piece) ≡ false = feeds_append rest piece s.unended h in
    record {
      unended = feeds_take 129 (rest ++ piece) u;
      whole = λ more.
          ap cut_lines (append_assoc past piece more)
          ∙ s.whole (piece ++ more)
          ∙ ap (λ (t : List ℕ). done ++ cut_lines t) (sym (append_assoc rest piece more))
          ∙ ap (λ (t : List (List ℕ)). done ++ t) (cut_front (rest ++ piece) more u)
          ∙ ap (λ (d : List (List ℕ)). d ++ cut_lines (keeping (rest ++ piece) ++ more)) (sym (append-nil done));
    }

split_end : (past : List ℕ) (done : List (List ℕ)) (rest front : List ℕ) → feeds front ≡ false → Split past done rest →
    Split (past ++ (front ++ 10 ∷ [])) (done ++ keeping (rest ++ front) ∷ []) []
split_end past done rest front h s =
    let u : feeds (rest ++ front) ≡ false = feeds_append rest front s.unended h in
    record {
      unended = refl;
      whole = λ more.
          ap cut_lines (append_assoc past (front ++ 10 ∷ []) more)
          ∙ s.whole ((front ++ 10 ∷ []) ++ more)
          ∙ ap (λ (t : List ℕ). done ++ cut_lines (rest ++ t)) (append_assoc front (10 ∷ []) more)
          ∙ ap (λ (t : List ℕ). done ++ cut_lines t) (sym (append_assoc rest front (10 ∷ more)))
          ∙ ap (λ (t : List (List ℕ)). done ++ t) (cut_feed (rest ++ front) more u)
          ∙ sym (append_assoc done (keeping (rest ++ front) ∷ []) (cut_lines more));
    }

before_unfed : (bs : List ℕ) → feeds (before_feed bs) ≡ false
before_unfed [] = refl
before_unfed (b ∷ bs) =
    ⊎_elim {C = feeds (before_feed (b ∷ bs)) ≡ false}
    (λ t. ap feeds (cond-true _ _ _ t))
    (λ t. ap feeds (cond-false _ _ _ t) ∙ cond-false _ _ _ t ∙ before_unfed bs)
    (cases_Bool (eqb b 10))

-- the bytes up to the first line feed, that one included
up_to_feed : (bs : List ℕ) → feeds bs ≡ true → take (suc (length (before_feed bs))) bs ≡ before_feed bs ++ 10 ∷ []
up_to_feed [] h = absurd (true≢false (sym h))
up_to_feed (b ∷ bs) h =
    ⊎_elim {C = take (suc (length (before_feed (b ∷ bs)))) (b ∷ bs) ≡ before_feed (b ∷ bs) ++ 10 ∷ []}
    (λ t. let e = cond-true (eqb b 10) [] (b ∷ before_feed bs) t in
    ap (λ (l : List ℕ). take (suc (length l)) (b ∷ bs)) e
    ∙ ap (λ (x : ℕ). x ∷ []) (eqb-true b 10 t)
    ∙ ap (λ (l : List ℕ). l ++ 10 ∷ []) (sym e))
    (λ t. let e = cond-false (eqb b 10) [] (b ∷ before_feed bs) t in
    ap (λ (l : List ℕ). take (suc (length l)) (b ∷ bs)) e
    ∙ ap (λ (l : List ℕ). b ∷ l) (up_to_feed bs (sym (cond-false _ _ _ t) ∙ h))
    ∙ ap (λ (l : List ℕ). l ++ 10 ∷ []) (sym e))
    (cases_Bool (eqb b 10))

-- what one call did carries the split on
pub split_took : (past : List ℕ) (done : List (List ℕ)) (old piece : List ℕ) (used : ℕ) (line : Option Line) (new : List ℕ) →
    Took old piece used line new → Split past done old → Split (past ++ take used piece) (done ++ handed line) new
split_took past done old piece used None new t s =
    let e : take used piece ≡ piece = ap (λ (n : ℕ). take n piece) t.1 ∙ take_all (length piece) piece (omega arith) in
    subst (λ (l : List ℕ). Split (past ++ l) (done ++ []) new) (sym e)
    (subst (Split (past ++ piece) (done ++ [])) (sym t.2) (split_on past done old piece t.0 s))
split_took past done old piece used (Some l) new t s =
    let e : take used piece ≡ before_feed piece ++ 10 ∷ [] = ap (λ (n : ℕ). take n piece) (t.1 ∙ add-one (length (before_feed piece))) ∙ up_to_feed piece t.0 in
    subst (λ (x : List ℕ). Split (past ++ x) (done ++ kept l ∷ []) new) (sym e)
    (subst (λ (x : List ℕ). Split (past ++ (before_feed piece ++ 10 ∷ [])) (done ++ x ∷ []) new) (sym t.2)
    (subst (Split (past ++ (before_feed piece ++ 10 ∷ [])) (done ++ keeping (old ++ before_feed piece) ∷ [])) (sym t.3)
    (split_end past done old (before_feed piece) (before_unfed piece) s)))

-- the rest at the end of the input is a line, unless it is empty
cut_rest : (rest : List ℕ) → feeds rest ≡ false → length rest ≤ 129 → cut_lines rest ≡ ended rest
unfolding first others
cut_rest [] h n = refl
cut_rest (b ∷ q) h n =
    ap cut_lines (sym (append-nil (b ∷ q)))
    ∙ ap (map keeping) (lines_front b q [] h)
    ∙ ap (λ (l : List ℕ). keeping l ∷ []) (append-nil (b ∷ q))
    ∙ ap (λ (l : List ℕ). l ∷ []) (take_all 129 (b ∷ q) n)

pub split_last : (past : List ℕ) (done : List (List ℕ)) (rest : List ℕ) → length rest ≤ 129 → Split past done rest → cut_lines past ≡ done ++ ended rest
split_last past done rest n s =
    ap cut_lines (sym (append-nil past))
    ∙ s.whole []
    ∙ ap (λ (t : List ℕ). done ++ cut_lines t) (append-nil rest)
    ∙ ap (λ (t : List (List ℕ)). done ++ t) (cut_rest rest s.unended n)

-- a line before its feed, with as much of it as is kept
pub front_kept : (piece : List ℕ) (n m : ℕ) → n ≡ length (before_feed piece) → m ≡ min n 129 → take m piece ≡ keeping (before_feed piece)
front_kept piece n m e h =
    let k : m ≡ min 129 (length (before_feed piece)) = omega arith in
    ap (λ (i : ℕ). take i piece) k
    ∙ sym (take-take (min 129 (length (before_feed piece))) (length (before_feed piece)) piece (omega arith))
    ∙ ap (take (min 129 (length (before_feed piece)))) (sym (before_front piece))
    ∙ take_min 129 (before_feed piece)

-- a line that begins and ends in a piece carries the split on
pub split_whole : (past : List ℕ) (done : List (List ℕ)) (old piece : List ℕ) (used len : ℕ) →
    old ≡ [] → feeds piece ≡ true → used ≡ length (before_feed piece) + 1 → take len piece ≡ keeping (before_feed piece) →
    Split past done old → Split (past ++ take used piece) (done ++ take len piece ∷ []) old
split_whole past done old piece used len o f u t s =
    let e : take used piece ≡ before_feed piece ++ 10 ∷ [] = ap (λ (n : ℕ). take n piece) (u ∙ add-one (length (before_feed piece))) ∙ up_to_feed piece f in
    let line : keeping (old ++ before_feed piece) ≡ take len piece = ap (λ (l : List ℕ). keeping (l ++ before_feed piece)) o ∙ sym t in
    subst (λ (x : List ℕ). Split (past ++ x) (done ++ take len piece ∷ []) old) (sym e)
    (subst (λ (x : List ℕ). Split (past ++ (before_feed piece ++ 10 ∷ [])) (done ++ x ∷ []) old) line
    (subst (Split (past ++ (before_feed piece ++ 10 ∷ [])) (done ++ keeping (old ++ before_feed piece) ∷ [])) (sym o)
    (split_end past done old (before_feed piece) (before_unfed piece) s)))
