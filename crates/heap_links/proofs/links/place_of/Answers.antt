use Rattle.std.proofs.Common.{sym, ap, ◌∙◌}
use Rattle.heap_links.proofs.Reading.{half_read}
use Rattle.heap_links.proofs.links.place_of.Goals as goal

pub returns : goal.returns
returns g c =
    let e = c.index-slots-slot in
    let f = g.K.Key.link in
    ap (λ l. l.place) (c.link.ensures ∙ ap f e.is) ∙ sym (half_read f c.args.slots.now c.args.slot e.result c.requires (λ l. l.place))
