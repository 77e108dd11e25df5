use Rattle.its_graph.proofs.InnerLinks.{cycles_are_inner_links}
use Rattle.its_graph.proofs.law.cycles_are_inner_links.Goals as goal

pub returns : goal.returns
returns c = cycles_are_inner_links
