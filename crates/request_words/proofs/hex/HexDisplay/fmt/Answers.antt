use Rattle.std.proofs.Common.{ℕ, ◌++◌, List, get_or, take, sym, ap, ◌∙◌, rules, arith}
use Rattle.std.proofs.Output.{has_written_append, has_written_of_eq}
use Rattle.std.proofs.lemmas.List.{take_more}
use Rattle.frames.specs.Hex.{hex}
use Rattle.frames.proofs.HexWrites.{hex_push}
use Rattle.request_words.proofs.HexTexts.{hex_time_field}
use Rattle.request_words.proofs.hex.HexDisplay.fmt.Goals as goal

pub returns-in-len8-clause-writes : goal.returns-in-len8-clause-writes
returns-in-len8-clause-writes g c = λ plain ok.
    let xs : List ℕ = c.as_slice.result.now in
    let text = c.hex_time.ensures ∙ hex_time_field xs c.from_be_bytes-time.result (omega (arith, c.in-len8.len_at_least, c.in-len8.len_below)) (search rules) c.from_be_bytes-time.ensures in
    has_written_of_eq _ _ _ _ _ (text ∙ ap hex c.as_slice.ensures) (c.put_text.ensures plain ok)

pub loop-byte-preserved : goal.loop-byte-preserved
loop-byte-preserved g c = λ p.
    let xs : List ℕ = c.args.self.now.0 in
    let i : ℕ = c.loop-byte.byte-index in
    let b : ℕ = get_or xs i 0 in
    let so_far = c.loop-byte.invariant p in
    has_written_of_eq _ _ _ _ _ (ap (λ (t : List ℕ). hex (take i xs) ++ t) c.hex_byte.ensures ∙ sym (ap hex (take_more xs i 0 (omega arith)) ∙ hex_push (take i xs) b))
    (has_written_append _ _ _ _ _ _ so_far (c.put_text-in-loop-byte.ensures so_far.plain (search rules)))
