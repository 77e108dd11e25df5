use Rattle.std.proofs.Common.{◌≡◌, ◌≤◌, ◌<◌, ◌∙◌, ◌^◌, ◌++◌, ◌-◌, ℕ, List, All, ap, sym, subst, map, get_or, arith}
use Rattle.std.proofs.lemmas.Result.{on_ok_weaker}
use Rattle.model.specs.Programs.{Program}
use Rattle.model.specs.Paths.{pre}
use Rattle.guard_prep.specs.declared.rule_rows.RuleRows.{RuleRows}
use Rattle.cert_types.specs.cert_rules.Nodes.{ResultVariable, SideBound}
use Rattle.cert_types.specs.cert_rules.ComposedSizes.{poly_at}
use Rattle.cert_types.specs.cert_rules.AcceptsSizes.{left_of}
use Rattle.cert_types.specs.cert_program.Setting.{setting_of}
use Rattle.cert_types.specs.Views.{side_bound_of, result_variable_of, member_of}
use Rattle.cert_types.specs.Composing.{optional_poly}
use Rattle.cert_types.specs.Reading.{places_read}
use Rattle.size_nodes.specs.Needs.{result_variables_from}
use Rattle.size_nodes.specs.Members.{IsMemberIn}
use Rattle.size_nodes.proofs.NeededResultVariables.{few_read, needed-result_variables}
use Rattle.size_nodes.proofs.ProgramMembers.{left_is, few_left}
use Rattle.size_nodes.proofs.premises.push_needed.Goals as goal

-- a rule has few left variables
few : (c : goal.After-pre) → c.index-transitions-m.result.left ≤ 64
few c =
    let p = c.requires.0 in
    let h = c.requires.1 in
    omega (arith, left_is p c.args.transitions.now.rows.now h.rows (result_variable_of c.args.m.now.result_variable) h.shape.at c.index-transitions-m.result c.index-transitions-m.is, few_left p h.valid (result_variable_of c.args.m.now.result_variable) h.shape.at)

-- the places that are read, by the rows of the rule
by_rows : (c : goal.After-pre) (side_bound : SideBound) (js : List ℕ)
    → js ≡ places_read (optional_poly c.poly_at-poly.result) side_bound (get_or c.args.transitions.now.rows.now (c.args.m.now.result_variable.rule - 1) c.index-transitions-m.result).left
    → js ≡ places_read (optional_poly c.poly_at-poly.result) side_bound c.index-transitions-m.result.left
by_rows c side_bound js e =
    e ∙ ap (λ (r : RuleRows). places_read (optional_poly c.poly_at-poly.result) side_bound r.left) (sym c.index-transitions-m.is)

pub push_from-requires-clause-up : goal.push_from-requires-clause-up
push_from-requires-clause-up c =
    subst (All (λ j. j < 2 ^ 31))
    (sym (c.deref.ensures.value ∙ by_rows c (side_bound_of c.args.m.now.local.up) c.in_ok-up.up.items c.in_ok-up.ensures))
    (few_read (optional_poly c.poly_at-poly.result) (side_bound_of c.args.m.now.local.up) c.index-transitions-m.result.left (few c))

pub push_from-requires-clause-low : goal.push_from-requires-clause-low
push_from-requires-clause-low c =
    subst (All (λ j. j < 2 ^ 31))
    (sym (c.deref-2.ensures.value ∙ by_rows c (side_bound_of c.args.m.now.local.low) c.in_ok-low.low.items c.in_ok-low.ensures))
    (few_read (optional_poly c.poly_at-poly.result) (side_bound_of c.args.m.now.local.low) c.index-transitions-m.result.left (few c))

-- the premises by the setting
by_transitions : (c : goal.After-drop-up-2) (p : Program) → IsMemberIn p c.args.transitions.now (member_of c.args.m.now)
    → (side_bound : SideBound) (js : List ℕ)
    → js ≡ places_read (optional_poly c.poly_at-poly.result) side_bound (get_or c.args.transitions.now.rows.now (c.args.m.now.result_variable.rule - 1) c.index-transitions-m.result).left
    → js ≡ places_read (poly_at (setting_of p) (result_variable_of c.args.m.now.result_variable)) side_bound (left_of p c.args.m.now.result_variable.rule)
by_transitions c p given side_bound js e =
    e ∙ (ap (λ (r : RuleRows). places_read (optional_poly c.poly_at-poly.result) side_bound r.left) (sym c.index-transitions-m.is)
    ∙ (λ i. places_read (c.poly_at-poly.ensures.seen p given.rows given.shape.at i) side_bound
    (left_is p c.args.transitions.now.rows.now given.rows (result_variable_of c.args.m.now.result_variable) given.shape.at c.index-transitions-m.result c.index-transitions-m.is i)))

pub returns : goal.returns
returns c =
    let members = map member_of c.args.cycle.now.members.now in
    let m = member_of c.args.m.now in
    on_ok_weaker c.push_from.result
    (λ h p given. h ∙ ap (λ (result_variables : List ResultVariable). map result_variable_of c.args.result_variables.now.items ++ result_variables) (
    (λ i. result_variables_from members (by_transitions c p given m.local.up c.deref.result.now (c.deref.ensures.value ∙ c.in_ok-up.ensures) i)
    (by_transitions c p given m.local.low c.deref-2.result.now (c.deref-2.ensures.value ∙ c.in_ok-low.ensures) i) (c.pre.ensures p given.graph i))
    ∙ sym (needed-result_variables (setting_of p) members m (pre p m.result_variable.rule))
    ))
    c.push_from.ensures
