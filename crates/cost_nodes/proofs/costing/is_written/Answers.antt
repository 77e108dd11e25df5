use Rattle.std.proofs.Common.{option_map, refl, ap}
use Rattle.poly_terms.specs.Views.{term_of}
use Rattle.cost_nodes.proofs.costing.is_written.Goals as goal

pub returns-in-Some : goal.returns-in-Some
returns-in-Some c = (λ e. (term_of c.in-Some.field-0, ap (option_map term_of) c.in-Some.is), λ k. refl)
