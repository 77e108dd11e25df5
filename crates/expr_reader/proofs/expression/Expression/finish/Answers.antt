-- The result is the term of the sum that the state ends, and the state is then empty.
use Rattle.std.proofs.Common.{refl, ap, map}
use Rattle.expr_reader.specs.Views.{level_of}
use Rattle.expr_reader.proofs.Endings.{finish_ends, finish_clears}
use Rattle.expr_reader.proofs.expression.Expression.finish.Goals as goal

pub returns-clause-ends : goal.returns-clause-ends
returns-clause-ends c = finish_ends _ _ c.in_ok-sum.ensures.made

pub returns-clause-clears : goal.returns-clause-clears
returns-clause-clears c = finish_clears _ _ c.in_ok-sum.ensures.level c.in_ok-sum.ensures.operand (ap (λ v. map level_of v.items) c.in_ok-sum.ensures.outer) refl
