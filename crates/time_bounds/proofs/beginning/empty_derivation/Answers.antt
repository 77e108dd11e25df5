use Rattle.std.proofs.Common.{◌∙◌, map}
use Rattle.bound_expr.proofs.Views.{bound_of-Const}
use Rattle.cert_types.specs.Views.{result_variable_of}
use Rattle.bound_fixpoint.specs.Derivations.{EmptyBy}
use Rattle.time_bounds.proofs.beginning.empty_derivation.Goals as goal

pub returns : goal.returns
returns c = λ i. record {
  keys = c.in_ok-keys.ensures i;
  node = EmptyBy c.args.rule ((c.in_ok-multipliers.ensures.items ∙ c.deref.ensures.value) i);
  premises = map result_variable_of (c.new-premises.ensures.items i);
  bound = bound_of-Const 0 i;
}
