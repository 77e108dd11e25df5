use Rattle.std.proofs.Common.{◌∙◌, ap, subst, List, map}
use Rattle.model.specs.Bounds.{Bound}
use Rattle.cert_types.specs.cert_rules.Nodes.{ResultVariable, Cycle}
use Rattle.cert_types.specs.cert_rules.AcceptsSizes.{cycle_facts}
use Rattle.cert_types.specs.cert_program.Setting.{setting_of}
use Rattle.cert_types.specs.Views.{result_variable_of, member_of}
use Rattle.bound_fixpoint.specs.Needs.{uses_for}
use Rattle.size_bounds.specs.Tables.{table_of, number_at}
use Rattle.size_nodes.specs.Sizings.{IsCycleSizing}
use Rattle.size_bounds.proofs.looping.cycle.Goals as goal

-- the node cites the lemmas of its premises, and its facts are the sizes
pub returns-in_ok-size_facts-in-Found : goal.returns-in_ok-size_facts-in-Found
returns-in_ok-size_facts-in-Found c = λ p given.
    let ms = map member_of c.args.members.now in
    let found = subst (IsCycleSizing (setting_of p) (table_of c.args.t.now) ms) c.in-Found.is
    (c.in_ok-sizing.ensures p given) in (
      found.0,
      c.in_ok-cycle_node-in-Found.ensures
          ∙ ap (λ (result_variables : List ResultVariable). Cycle ms (uses_for (number_at c.args.t.now) result_variables))
          (ap (map result_variable_of) c.deref.ensures.value ∙ found.1),
      c.in_ok-size_facts-in-Found.ensures ∙ ap (λ (b : Bound). cycle_facts b ms) found.2,
    )

-- the first size that is missing
pub returns-in-Missing : goal.returns-in-Missing
returns-in-Missing c = λ p given.
    subst (IsCycleSizing (setting_of p) (table_of c.args.t.now) (map member_of c.args.members.now)) c.in-Missing.is
    (c.in_ok-sizing.ensures p given)

-- the first nonlinear member
pub returns-in-Nonlinear : goal.returns-in-Nonlinear
returns-in-Nonlinear c = λ p given.
    subst (IsCycleSizing (setting_of p) (table_of c.args.t.now) (map member_of c.args.members.now)) c.in-Nonlinear.is
    (c.in_ok-sizing.ensures p given)

-- the first rule without a time
pub returns-in-Untimed : goal.returns-in-Untimed
returns-in-Untimed c = λ p given.
    subst (IsCycleSizing (setting_of p) (table_of c.args.t.now) (map member_of c.args.members.now)) c.in-Untimed.is
    (c.in_ok-sizing.ensures p given)

-- a bound that is too large
pub returns-in-Large : goal.returns-in-Large
returns-in-Large c = λ p given.
    subst (IsCycleSizing (setting_of p) (table_of c.args.t.now) (map member_of c.args.members.now)) c.in-Large.is
    (c.in_ok-sizing.ensures p given)
