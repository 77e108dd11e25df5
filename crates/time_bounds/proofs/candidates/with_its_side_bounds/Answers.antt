use Rattle.std.proofs.Common.{List, map, sym, subst}
use Rattle.cert_types.specs.Views.{result_variable_of}
use Rattle.cert_types.specs.declared.side_bound.ResultVariable.{ResultVariable}
use Rattle.rvg_components.specs.Listing.{answer_lists}
use Rattle.time_bounds.specs.Locals.{AreAnswered}
use Rattle.time_bounds.proofs.candidates.with_its_side_bounds.Goals as goal

pub side_bounds_of-requires-clause-answered : goal.side_bounds_of-requires-clause-answered
side_bounds_of-requires-clause-answered c =
    subst (λ (ss : List ResultVariable). AreAnswered (answer_lists c.args.locals.now) (map result_variable_of ss)) (sym c.deref.ensures.value) c.requires.answered
