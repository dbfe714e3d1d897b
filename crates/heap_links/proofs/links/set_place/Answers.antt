use Rattle.std.proofs.Common.{ap, ◌∙◌}
use Rattle.heap_links.proofs.Reading.{column_kept, half_set, half_kept}
use Rattle.heap_links.proofs.links.set_place.Goals as goal

pub returns : goal.returns
returns g c =
    let xs = c.args.slots.now in
    let i = c.args.slot in
    let d = c.index-slots-slot.result in
    let y = c.set_link.new.slot in
    let to = c.set_link.ensures in
    record {
      ats = half_kept g.K.Key.link xs i d c.requires (λ l. l.at) y (ap (λ l. l.at) to.link ∙ ap (λ l. l.at) c.link-link.ensures);
      places = half_set g.K.Key.link xs i d c.requires (λ l. l.place) y c.args.place (ap (λ l. l.place) to.link);
      kept = record {
        timers = column_kept (λ s. s.timer) xs i d c.requires y to.timer;
        others = column_kept g.K.Key.other xs i d c.requires y to.other;
      };
    }
