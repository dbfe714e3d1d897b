use Rattle.std.proofs.Common.{sym, ap, ◌∙◌}
use Rattle.heap_links.proofs.Reading.{half_read}
use Rattle.heap_links.proofs.links.slot_at.Goals as goal

pub returns : goal.returns
returns g c =
    let e = c.index-slots-place in
    let f = g.K.Key.link in
    ap (λ l. l.at) (c.link.ensures ∙ ap f e.is) ∙ sym (half_read f c.args.slots.now c.args.place e.result c.requires (λ l. l.at))
