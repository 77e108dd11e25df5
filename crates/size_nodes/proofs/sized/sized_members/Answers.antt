use Rattle.std.proofs.Common.{◌≡◌, ◌∙◌, ap, sym, map, None}
use Rattle.std.proofs.lemmas.Result.{IfOk-weaker}
use Rattle.model.specs.Programs.{Program}
use Rattle.cert_types.specs.cert_rules.Checks.{needed_into}
use Rattle.cert_types.specs.cert_rules.ComposedSizes.{base_of}
use Rattle.cert_types.specs.cert_program.Setting.{setting_of}
use Rattle.cert_types.specs.Views.{member_of, result_variable_of}
use Rattle.size_nodes.specs.Needs.{first_missing}
use Rattle.size_nodes.specs.Flows.{flow_of}
use Rattle.size_nodes.specs.Growths.{growth_by_flows}
use Rattle.size_nodes.specs.NonlinearSideBounds.{first_nonlinear}
use Rattle.size_nodes.specs.Members.{AreMembersOfProgram}
use Rattle.size_nodes.specs.Sizings.{IsLoopSizing, IsCycleSizing}
use Rattle.size_nodes.proofs.MemberRules.{rules-are}
use Rattle.size_nodes.proofs.RuleFlows.{flows-ascend}
use Rattle.size_nodes.proofs.LoopAnswers.{is-missing, is-nonlinear, is-sized}
use Rattle.size_nodes.proofs.sized.sized_members.Goals as goal

pub returns-in-Some : goal.returns-in-Some
returns-in-Some g c = λ p given.
    let ms = map member_of c.args.cycle.now.members.now in
    let tab = g.K.Known.table c.args.known.now in
    is-missing p c.args.transitions.now.graph.now c.args.transitions.now.rows.now tab ms given (result_variable_of c.in-Some.result_variable)
    (ap (first_missing tab) (sym (ap (map result_variable_of) c.deref.ensures.value ∙ c.in_ok-needed.ensures p given))
    ∙ sym c.in-Some.ensures)

pub returns-in-Some-first_nonlinear : goal.returns-in-Some-first_nonlinear
returns-in-Some-first_nonlinear g c = λ p given.
    let ms = map member_of c.args.cycle.now.members.now in
    let tab = g.K.Known.table c.args.known.now in
    let none : first_missing tab (needed_into (setting_of p) ms ms) ≡ None =
    ap (first_missing tab) (sym (ap (map result_variable_of) c.deref.ensures.value ∙ c.in_ok-needed.ensures p given))
    ∙ sym c.in_default.ensures in
    is-nonlinear p c.args.transitions.now.graph.now c.args.transitions.now.rows.now tab ms given none (result_variable_of c.in-Some-first_nonlinear.result_variable)
    (sym (c.in-Some-first_nonlinear.ensures p given))

pub returns : goal.returns
returns g c =
    let ms = map member_of c.args.cycle.now.members.now in
    let tab = g.K.Known.table c.args.known.now in
    let fs = map flow_of c.deref-2.result.now in
    let ts = c.deref-3.result.now in
    let result_variables = map result_variable_of c.in_ok-needed.needed.items in
    IfOk-weaker c.sized_by_flows.result
    (λ a. IsLoopSizing tab result_variables (base_of fs) (map (growth_by_flows fs) ts) a)
    (λ a. (p : Program) → AreMembersOfProgram p c.args.transitions.now.graph.now c.args.transitions.now.rows.now ms → IsCycleSizing (setting_of p) tab ms a)
    (λ a h p given.
    let none : first_missing tab (needed_into (setting_of p) ms ms) ≡ None =
    ap (first_missing tab) (sym (ap (map result_variable_of) c.deref.ensures.value ∙ c.in_ok-needed.ensures p given))
    ∙ sym c.in_default.ensures in
    let straight : first_nonlinear (setting_of p) ms ms ≡ None = sym (c.in_default-first_nonlinear.ensures p given) in
    is-sized p c.args.transitions.now.graph.now c.args.transitions.now.rows.now tab ms given none straight a result_variables fs ts
    (c.in_ok-needed.ensures p given)
    (ap (map flow_of) c.deref-2.ensures.value ∙ c.in_ok-flows.ensures p given)
    (c.deref-3.ensures.value ∙ (c.in_ok-rules.ensures ∙ rules-are p ms given.shape)) h)
    c.sized_by_flows.ensures

pub sized_by_flows-requires : goal.sized_by_flows-requires
sized_by_flows-requires g c =
    let given = c.requires in
    let ms = map member_of c.args.cycle.now.members.now in
    flows-ascend (setting_of given.0) ms (g.K.Known.table c.args.known.now).size c.deref-2.result.now given.1.shape.ascending
    (ap (map flow_of) c.deref-2.ensures.value ∙ c.in_ok-flows.ensures given.0 given.1)
