use Rattle.simplex_core.proofs.Certificates.{least-first, least-second}
use Rattle.simplex_core.proofs.laws.least_costs_least.Goals as goal

pub returns : goal.returns
returns c = record { first = least-first; second = least-second }
