use Rattle.std.proofs.Common.{◌∙◌, ap, subst, List, [], ◌∷◌, map}
use Rattle.model.specs.Bounds.{Bound}
use Rattle.model.specs.Facts.{Size}
use Rattle.cert_types.specs.cert_rules.Nodes.{ResultVariable, Spread}
use Rattle.cert_types.specs.cert_program.Setting.{setting_of}
use Rattle.cert_types.specs.Views.{result_variable_of, member_of}
use Rattle.bound_fixpoint.specs.Needs.{uses_for}
use Rattle.size_bounds.specs.Tables.{table_of, number_at}
use Rattle.size_nodes.specs.Sizings.{IsSpreadSizing}
use Rattle.size_bounds.proofs.spreading.spread.Goals as goal

-- the node cites the lemmas of its premises, and its fact is the size
pub returns-in_ok-size_fact-in-Found : goal.returns-in_ok-size_fact-in-Found
returns-in_ok-size_fact-in-Found c = λ p given.
    let m = member_of c.args.m.now in
    let found = subst (IsSpreadSizing (setting_of p) (table_of c.args.t.now) m) c.in-Found.is
    (c.in_ok-sizing.ensures p given) in (
      found.0,
      c.in_ok-spread_node-in-Found.ensures
          ∙ ap (λ (result_variables : List ResultVariable). Spread m (uses_for (number_at c.args.t.now) result_variables))
          (ap (map result_variable_of) c.deref.ensures.value ∙ found.1),
      c.in_ok-size_fact-in-Found.ensures ∙ ap (λ (b : Bound). Size m.result_variable.rule m.result_variable.place b ∷ []) found.2,
    )

-- the first size that is missing
pub returns-in-Missing : goal.returns-in-Missing
returns-in-Missing c = λ p given.
    subst (IsSpreadSizing (setting_of p) (table_of c.args.t.now) (member_of c.args.m.now)) c.in-Missing.is
    (c.in_ok-sizing.ensures p given)

-- no member is nonlinear
pub returns-in-Nonlinear : goal.returns-in-Nonlinear
returns-in-Nonlinear c = λ p given.
    subst (IsSpreadSizing (setting_of p) (table_of c.args.t.now) (member_of c.args.m.now)) c.in-Nonlinear.is
    (c.in_ok-sizing.ensures p given)

-- no time is needed
pub returns-in-Untimed : goal.returns-in-Untimed
returns-in-Untimed c = λ p given.
    subst (IsSpreadSizing (setting_of p) (table_of c.args.t.now) (member_of c.args.m.now)) c.in-Untimed.is
    (c.in_ok-sizing.ensures p given)

-- a bound that is too large
pub returns-in-Large : goal.returns-in-Large
returns-in-Large c = λ p given.
    subst (IsSpreadSizing (setting_of p) (table_of c.args.t.now) (member_of c.args.m.now)) c.in-Large.is
    (c.in_ok-sizing.ensures p given)
