use Rattle.std.proofs.Common.{◌≡◌, ◌+◌, List, [], ◌∷◌, ◌++◌, map, take, get_or, Some, None, sym, ◌∙◌, ap, subst}
use Rattle.std.proofs.lemmas.List.{take_more, map-append}
use Rattle.local_size.specs.declared.answer.LocalAnswer.{LocalAnswer}
use Rattle.cert_types.specs.cert_rules.Nodes as nodes
use Rattle.cert_types.specs.Views.{result_variable_of, member_of}
use Rattle.cert_types.specs.declared.side_bound.ResultVariable.{ResultVariable}
use Rattle.rvg_components.specs.Listing.{answer_lists, local_from}
use Rattle.time_bounds.specs.ProgramSizes.{AreMembers, unbounded_reason, limit_hit_reason}
use Rattle.time_bounds.specs.Locals.{answer_in}
use Rattle.time_bounds.proofs.SideBoundLists.{no_members, members_more, bound_where, none_unbounded, none_hit_limit, of_result_variables}
use Rattle.time_bounds.proofs.candidates.members_of.Goals as goal

pub loop-result_variable-init : goal.loop-result_variable-init
loop-result_variable-init c = no_members (local_from (answer_lists c.args.locals.now)) _ (ap (map member_of) c.new-members.ensures.items)

pub member_at-requires : goal.member_at-requires
member_at-requires c =
    let lists = answer_lists c.args.locals.now in
    let local = local_from lists in
    let i = c.loop-result_variable.result_variable-index in
    let result_variables = c.args.result_variables.now in
    let d : ResultVariable = record { rule = 0; place = 0 } in
    let result_variable = get_or result_variables i d in
    let low = c.loop-result_variable-test.true in
    let answered = of_result_variables (λ m. (a : LocalAnswer) × (answer_in lists m.rule m.place ≡ Some a)) result_variables i d c.requires.answered low in
    let unbounded = of_result_variables (λ m. unbounded_reason (local m.rule m.place) ≡ None) result_variables i d (none_unbounded local (map result_variable_of result_variables) c.requires.armed) low in
    let hit_limit = of_result_variables (λ m. limit_hit_reason (local m.rule m.place) ≡ None) result_variables i d (none_hit_limit local (map result_variable_of result_variables) c.requires.armed) low in
    (answered.0, answered.1, bound_where lists result_variable.rule result_variable.place answered.0 answered.1 unbounded hit_limit)

pub loop-result_variable-preserved : goal.loop-result_variable-preserved
loop-result_variable-preserved c =
    let local = local_from (answer_lists c.args.locals.now) in
    let i = c.loop-result_variable.result_variable-index in
    let result_variables = c.args.result_variables.now in
    let d : ResultVariable = record { rule = 0; place = 0 } in
    let result_variable = get_or result_variables i d in
    let m = c.in_ok-member_at.field-0 in
    let one : map result_variable_of (take (i + 1) result_variables) ≡ map result_variable_of (take i result_variables) ++ result_variable_of result_variable ∷ [] =
    ap (map result_variable_of) (take_more result_variables i d c.loop-result_variable-test.true) ∙ map-append result_variable_of (take i result_variables) (result_variable ∷ []) in
    let all : map member_of c.push.new.self.items ≡ map member_of c.loop-result_variable.members.items ++ member_of m ∷ [] =
    ap (map member_of) c.in_ok-push.ensures.items ∙ map-append member_of c.loop-result_variable.members.items (m ∷ []) in
    subst (λ (ss : List nodes.ResultVariable). AreMembers local ss (map member_of c.push.new.self.items)) (sym one)
    (subst (λ (ms : List nodes.Member). AreMembers local (map result_variable_of (take i result_variables) ++ result_variable_of result_variable ∷ []) ms) (sym all)
    (members_more local (map result_variable_of (take i result_variables)) (map member_of c.loop-result_variable.members.items) (result_variable_of result_variable) (member_of m) c.loop-result_variable.invariant
    c.in_ok-member_at.ensures))
