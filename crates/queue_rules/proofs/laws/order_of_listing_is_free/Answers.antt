use Rattle.queue_rules.proofs.Listing.{order_of_listing_is_free}
use Rattle.queue_rules.proofs.laws.order_of_listing_is_free.Goals as goal

pub returns : goal.returns
returns g c = order_of_listing_is_free g.T.Time.before g.met.T.Time.ordered
