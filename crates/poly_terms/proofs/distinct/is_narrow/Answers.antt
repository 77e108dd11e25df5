use Rattle.poly_terms.proofs.DistinctLaws.{narrow-distinct, narrow-norm}
use Rattle.poly_terms.proofs.distinct.is_narrow.Goals as goal

pub returns-then-has_small_norm : goal.returns-then-has_small_norm
returns-then-has_small_norm c = λ e. narrow-norm c.args.table.now c.args.es.now (c.has_small_norm.ensures e)

pub returns-else-has_small_norm : goal.returns-else-has_small_norm
returns-else-has_small_norm c = λ e. narrow-distinct c.args.table.now c.args.es.now c.requires (c.are_distinct.ensures e)
