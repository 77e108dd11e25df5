use Rattle.its_graph.specs.Groups.{IsPair}
use Rattle.its_graph.proofs.Uniqueness.{one_listing}
use Rattle.its_graph.proofs.law.listings_are_unique.Goals as goal

pub returns : goal.returns
returns c = λ edges n. one_listing (IsPair edges) n
