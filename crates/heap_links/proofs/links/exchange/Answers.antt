use Rattle.std.proofs.Common.{◌≡◌, length, get_or, set, subst, arith}
use Rattle.heap_links.specs.Columns.{ats, places, slot_at, place_of}
use Rattle.heap_links.specs.Links.{Paired}
use Rattle.heap_links.proofs.Lengths.{length_ats, length_places}
use Rattle.heap_links.proofs.Pairing.{exchanged_links}
use Rattle.heap_links.proofs.links.exchange.Goals as goal

pub returns : goal.returns
returns g c =
    let f = g.K.Key.link in
    let xs = c.args.slots.now in
    let ys = c.put-2.new.slots in
    let p = c.args.p in
    let q = c.args.q in
    let ss = ats f xs in
    let ea : ats f ys ≡ set (set ss p (get_or ss q 0)) q (get_or ss p 0) = cc in
    let ep : places f ys ≡ set (set (places f xs) (get_or ss q 0) p) (get_or ss p 0) q = cc in
    let la : length ss ≡ length xs = length_ats f xs in
    let lp : length (places f xs) ≡ length xs = length_places f xs in
    let long : length xs ≡ length ys = omega arith in
    let r = exchanged_links (length xs) ss (ats f ys) (places f xs) (places f ys) p q la lp c.requires.first c.requires.second c.requires.linked ea ep in
    record {
      linked = subst (λ n. Paired n (slot_at f ys) (place_of f ys)) long r.0;
      swapped = r.1;
      moved = r.2;
      kept = record { timers = cc; others = cc };
    }
