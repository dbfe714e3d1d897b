-- Bytes put behind bytes are the two put as one.
use Rattle.std.proofs.Common.{◌≡◌, ℕ, ◌+◌, List, ◌++◌, length, sym, refl, ap, ◌∙◌, subst, arith}
use lib.Seq.{paste}
use Rattle.std.proofs.lemmas.List.Edits.{paste_all, paste-paste}
use Rattle.std.proofs.lemmas.List.{length-append}
use Rattle.request_words.specs.declared.place.Sheet.{Sheet}
use Rattle.request_words.specs.Placing.{placed, Placed}
use Rattle.request_words.specs.Sheets.{Puts}

placed_paste : (bs old : List ℕ) (at : ℕ) → placed bs old at ≡ paste old at bs (length bs)
placed_paste bs old at = sym (paste_all old at bs (length bs) refl)

-- one after the other
pub placed_then : (xs ys old mid new : List ℕ) (at e f : ℕ) → length mid ≡ length old → Placed xs old at mid e → Placed ys mid e new f → Placed (xs ++ ys) old at new f
placed_then xs ys old mid new at e f n p q =
    let l : length (xs ++ ys) ≡ length xs + length ys = length-append xs ys in
    record {
      behind = omega (arith, p.behind, q.behind);
      within = omega (arith, q.within);
      whole =
          q.whole
          ∙ placed_paste ys mid e
          ∙ ap (λ (m : List ℕ). paste m e ys (length ys)) (p.whole ∙ placed_paste xs old at)
          ∙ ap (λ (k : ℕ). paste (paste old at xs (length xs)) k ys (length ys)) p.behind
          ∙ paste-paste old at xs ys (length xs) (length ys) refl refl (omega (arith, p.behind, p.within))
          ∙ ap (paste old at (xs ++ ys)) (sym l)
          ∙ sym (placed_paste (xs ++ ys) old at);
    }

-- the same on a sheet
pub puts_then : {xs ys : List ℕ} {old mid new : Sheet} → Puts xs old mid → Puts ys mid new → Puts (xs ++ ys) old new
puts_then p q =
    record {
      same = q.same ∙ p.same;
      size = q.size ∙ p.size;
      placed = placed_then _ _ _ _ _ _ _ _ p.size p.placed q.placed;
    }

-- the same bytes
pub puts_as : {xs ys : List ℕ} {old new : Sheet} → xs ≡ ys → Puts xs old new → Puts ys old new
puts_as {xs} {ys} {old} {new} e p = subst (λ (t : List ℕ). Puts t old new) e p
