use Rattle.std.proofs.Common.{◌≡◌, ℕ, ◌<◌, false, List, length, map, replicate, All, Vec, sym, ap, ◌∙◌, subst, arith}
use Rattle.std.specs.declared.alloc.Global.{Global}
use Rattle.std.proofs.lemmas.List.{length-map, length-replicate, get_or-map}
use Rattle.std.proofs.lemmas.Result.{IfOk-weaker}
use Rattle.model.specs.Programs.{Program}
use Rattle.its_graph.specs.Components.{IsListing}
use Rattle.its_graph.specs.Groups.{IsPair, items_of}
use Rattle.its_graph.proofs.PairLists.{Pair}
use Rattle.model.proofs.Cases.{IfOk-both as IfOk-from_both}
use Rattle.cert_types.specs.cert_program.Setting.{setting_of}
use Rattle.cert_types.specs.Views.{result_variable_of}
use Rattle.cert_types.specs.declared.side_bound.ResultVariable.{ResultVariable}
use Rattle.rvg_components.specs.declared.component.Component.{Component}
use Rattle.rvg_components.specs.Listing.{AreAnswersOfProgram, AreComponents, SaysWhetherItLoops, answer_lists}
use Rattle.rvg_components.specs.Listing.{is_flagged, local_from, members_of, result_variable_at}
use Rattle.rvg_components.specs.Inside.{marked, has_inside}
use Rattle.rvg_components.proofs.InnerFlows.{marked-length}
use Rattle.rvg_components.proofs.FlowComponents.{all-within, found-components, found-looping}
use Rattle.rvg_components.proofs.listing.components.Goals as goal

-- a listing by the code's edges and number of places
listed : (places : ℕ) (result_variables : List ResultVariable) (edges lent : List Pair) (positions : List (List ℕ)) → places ≡ length result_variables → lent ≡ edges
    → IsListing (IsPair lent) places positions → IsListing (IsPair edges) (length (map result_variable_of result_variables)) positions
listed places result_variables edges lent positions size same l =
    subst (λ (n : ℕ). IsListing (IsPair edges) n positions) (size ∙ sym (length-map result_variables result_variable_of)) (subst (λ (es : List Pair). IsListing (IsPair es) places positions) same l)

-- a property of all components is one of each list
each-within : (n : ℕ) (lists : List (Vec ℕ Global)) → All (λ c. All (λ a. a < n) c) (map items_of lists) → All (λ c. All (λ a. a < n) c.items) lists
each-within n lists h k d low =
    subst (λ (c : List ℕ). All (λ a. a < n) c) (get_or-map items_of lists k d (items_of d) low) (h k (items_of d) (omega (arith, low, length-map lists items_of)))

-- there is a flag for each place
pub placed-requires-clause-one_each : goal.placed-requires-clause-one_each
placed-requires-clause-one_each c =
    ap length (c.deref-4.ensures.value ∙ c.in_ok-own.ensures)
    ∙ (marked-length c.deref-2.result.now (replicate c.len-nodes.result false)
    ∙ (length-replicate c.len-nodes.result false ∙ ((c.len-nodes.ensures ∙ c.in_ok-graph.graph.result_variables.ok.0) ∙ sym (ap length c.deref-3.ensures.value))))

-- all positions are positions of places
pub placed-requires-clause-within : goal.placed-requires-clause-within
placed-requires-clause-within c =
    let p = c.requires.0 in
    let given = c.requires.1 in
    let result_variables = c.in_ok-graph.graph.result_variables.items in
    let edges = c.in_ok-graph.graph.edges.items in
    let lists = c.in_ok-components.components.items in
    let local = local_from (answer_lists c.args.locals.now) in
    let listing = listed c.len-nodes.result result_variables edges c.deref.result.now (map items_of lists) (c.len-nodes.ensures ∙ c.in_ok-graph.graph.result_variables.ok.0) c.deref.ensures.value c.in_ok-components.ensures in
    let within = each-within (length (map result_variable_of result_variables)) lists
    (all-within (setting_of p) (is_flagged c.args.live.now) local (map result_variable_of result_variables) edges (c.in_ok-graph.ensures p given) (map items_of lists) listing) in
    subst (λ (n : ℕ). All (λ (l : Vec ℕ Global). All (λ a. a < n) l.items) c.deref-5.result.now) (length-map result_variables result_variable_of ∙ sym (ap length c.deref-3.ensures.value))
    (subst (λ (ls : List (Vec ℕ Global)). All (λ (l : Vec ℕ Global). All (λ a. a < length (map result_variable_of result_variables)) l.items) ls) (sym c.deref-5.ensures.value) within)

-- the lists of places at these positions are the components
pub returns-clause-components : goal.returns-clause-components
returns-clause-components c =
    let result_variables = c.in_ok-graph.graph.result_variables.items in
    let edges = c.in_ok-graph.graph.edges.items in
    let lists = c.in_ok-components.components.items in
    let local = local_from (answer_lists c.args.locals.now) in
    let listing = listed c.len-nodes.result result_variables edges c.deref.result.now (map items_of lists) (c.len-nodes.ensures ∙ c.in_ok-graph.graph.result_variables.ok.0) c.deref.ensures.value c.in_ok-components.ensures in
    IfOk-weaker c.placed.result
    (λ (found : Vec Component Global). map members_of found.items ≡ map (map (result_variable_at (map result_variable_of c.deref-3.result.now))) (map items_of c.deref-5.result.now))
    (λ (found : Vec Component Global). (p : Program) → AreAnswersOfProgram p c.args.g.now c.args.prepared_rules.now (answer_lists c.args.locals.now) c.args.live.now
    → AreComponents (setting_of p) (is_flagged c.args.live.now) local (map members_of found.items))
    (λ found e p given.
    let made : map members_of found.items ≡ map (map (result_variable_at (map result_variable_of result_variables))) (map items_of lists) =
    e ∙ (ap (λ (xs : List ResultVariable). map (map (result_variable_at (map result_variable_of xs))) (map items_of c.deref-5.result.now)) c.deref-3.ensures.value
    ∙ ap (λ (ls : List (Vec ℕ Global)). map (map (result_variable_at (map result_variable_of result_variables))) (map items_of ls)) c.deref-5.ensures.value) in
    found-components (setting_of p) (is_flagged c.args.live.now) local (map result_variable_of result_variables) edges (c.in_ok-graph.ensures p given) (map items_of lists) listing
    (map members_of found.items) made)
    c.placed.ensures.members

-- each component's flag is true exactly if it loops
pub returns-clause-looping : goal.returns-clause-looping
returns-clause-looping c =
    let result_variables = c.in_ok-graph.graph.result_variables.items in
    let edges = c.in_ok-graph.graph.edges.items in
    let lists = c.in_ok-components.components.items in
    let own = c.deref-4.result.now in
    let local = local_from (answer_lists c.args.locals.now) in
    let listing = listed c.len-nodes.result result_variables edges c.deref.result.now (map items_of lists) (c.len-nodes.ensures ∙ c.in_ok-graph.graph.result_variables.ok.0) c.deref.ensures.value c.in_ok-components.ensures in
    let marks : own ≡ marked edges (replicate (length (map result_variable_of result_variables)) false) =
    c.deref-4.ensures.value ∙ (c.in_ok-own.ensures ∙ (ap (λ (es : List Pair). marked es (replicate c.len-nodes.result false)) c.deref-2.ensures.value
    ∙ ap (λ (n : ℕ). marked edges (replicate n false)) ((c.len-nodes.ensures ∙ c.in_ok-graph.graph.result_variables.ok.0) ∙ sym (length-map result_variables result_variable_of)))) in
    IfOk-from_both c.placed.result
    (λ (found : Vec Component Global). map members_of found.items ≡ map (map (result_variable_at (map result_variable_of c.deref-3.result.now))) (map items_of c.deref-5.result.now))
    (λ (found : Vec Component Global). map (λ c. c.looping) found.items ≡ map (has_inside own) (map items_of c.deref-5.result.now))
    (λ (found : Vec Component Global). (p : Program) → AreAnswersOfProgram p c.args.g.now c.args.prepared_rules.now (answer_lists c.args.locals.now) c.args.live.now
    → All (SaysWhetherItLoops (setting_of p) local) found.items)
    (λ found e f p given.
    let made : map members_of found.items ≡ map (map (result_variable_at (map result_variable_of result_variables))) (map items_of lists) =
    e ∙ (ap (λ (xs : List ResultVariable). map (map (result_variable_at (map result_variable_of xs))) (map items_of c.deref-5.result.now)) c.deref-3.ensures.value
    ∙ ap (λ (ls : List (Vec ℕ Global)). map (map (result_variable_at (map result_variable_of result_variables))) (map items_of ls)) c.deref-5.ensures.value) in
    let flags : map (λ c. c.looping) found.items ≡ map (has_inside own) (map items_of lists) =
    f ∙ ap (λ (ls : List (Vec ℕ Global)). map (has_inside own) (map items_of ls)) c.deref-5.ensures.value in
    found-looping (setting_of p) (is_flagged c.args.live.now) local (map result_variable_of result_variables) edges (c.in_ok-graph.ensures p given) (map items_of lists) listing
    found.items own marks made flags)
    c.placed.ensures.members c.placed.ensures.looping
