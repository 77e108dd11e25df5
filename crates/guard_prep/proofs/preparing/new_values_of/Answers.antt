use Rattle.poly_terms.specs.Ordered.{IsAscending}
use Rattle.poly_terms.specs.AffineForms.{HasVariablesBelow}
use Rattle.poly_terms.specs.Views.{poly_of}
use Rattle.its_model.proofs.ListLaws.{mapped-all}
use Rattle.guard_prep.proofs.preparing.new_values_of.Goals as goal

pub linear_part-requires-clause-ordered : goal.linear_part-requires-clause-ordered
linear_part-requires-clause-ordered c =
    mapped-all IsAscending poly_of c.args.polys.now c.loop-p.p-index c.p-item.result c.requires.ascending c.loop-p-test.true c.p-item.is

pub linear_part-requires-clause-in_range : goal.linear_part-requires-clause-in_range
linear_part-requires-clause-in_range c =
    mapped-all (HasVariablesBelow c.args.unknowns) poly_of c.args.polys.now c.loop-p.p-index c.p-item.result c.requires.in_range c.loop-p-test.true c.p-item.is
