use Rattle.std.proofs.Common.{length}
use Rattle.cert_types.proofs.places.+push_places.Given as goal

abbrev pub decreases-push_places : goal.decreases-push_places
decreases-push_places g l = length l.coefs.now
