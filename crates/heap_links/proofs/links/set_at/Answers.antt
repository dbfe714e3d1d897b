use Rattle.std.proofs.Common.{ap, ◌∙◌}
use Rattle.heap_links.proofs.Reading.{column_kept, half_set, half_kept}
use Rattle.heap_links.proofs.links.set_at.Goals as goal

pub returns : goal.returns
returns g c =
    let xs = c.args.slots.now in
    let i = c.args.place in
    let d = c.index-slots-place.result in
    let y = c.set_link.new.slot in
    let to = c.set_link.ensures in
    record {
      ats = half_set g.K.Key.link xs i d c.requires (λ l. l.at) y c.args.slot (ap (λ l. l.at) to.link);
      places = half_kept g.K.Key.link xs i d c.requires (λ l. l.place) y (ap (λ l. l.place) to.link ∙ ap (λ l. l.place) c.link-link.ensures);
      kept = record {
        timers = column_kept (λ s. s.timer) xs i d c.requires y to.timer;
        others = column_kept g.K.Key.other xs i d c.requires y to.other;
      };
    }
