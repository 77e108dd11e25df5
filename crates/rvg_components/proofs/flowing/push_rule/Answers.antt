use Rattle.std.proofs.Common.{◌≡◌, ℕ, suc, ◌+◌, ◌<◌, ◌≤◌, ◌^◌, ◌++◌, List, length, map, get_or, true, false, sym, ap}
use Rattle.std.proofs.Common.{◌∙◌, subst, arith}
use Rattle.std.proofs.lemmas.List.{length-map, get_or-map}
use Rattle.std.proofs.lemmas.List.Elements.{All-same}
use Rattle.std.proofs.lemmas.Result.{on_ok_weaker}
use Rattle.model.specs.Paths.{pre}
use Rattle.its_graph.specs.Links.{ends_of}
use Rattle.guard_prep.specs.Prepared.{Prepared}
use Rattle.guard_prep.specs.Views.{prepared_of}
use Rattle.its_graph.proofs.PairLists.{Pair}
use Rattle.rvg_components.specs.Listing.{answer_lists}
use Rattle.rvg_components.specs.Edges.{firsts_of}
use Rattle.rvg_components.proofs.ProgramAnswers.{before-within, live-firsts-few, edges-agree}
use Rattle.rvg_components.proofs.flowing.push_rule.Goals as goal

-- only the virtual entry and rules can come before a rule
pub live_firsts-requires-clause-within : goal.live_firsts-requires-clause-within
live_firsts-requires-clause-within c =
    let p = c.requires.graph.0 in
    let graph = c.requires.graph.1 in
    All-same (λ (e : ℕ). e ≤ length c.args.live.now) c.pre.result.now (pre p (c.args.position + 1)) (c.pre.ensures p graph)
    (before-within p (c.args.position + 1) (length c.args.live.now) (c.requires.fitting.live ∙ (ap length graph.links ∙ length-map p.rules ends_of)))

-- there are few left variables
pub push_into-requires-clause-left_few : goal.push_into-requires-clause-left_few
push_into-requires-clause-left_few c =
    let prepared_rules = c.args.prepared_rules.now in
    let m = c.index-prepared_rules-position.result in
    let rows : length (map prepared_of prepared_rules) ≡ length c.args.live.now = c.requires.fitting.rows ∙ sym c.requires.fitting.live in
    let low : c.args.position < length (map prepared_of prepared_rules) = omega (arith, rows, c.requires.within) in
    let inside : c.args.position < length prepared_rules = omega (arith, low, length-map prepared_rules prepared_of) in
    let same : get_or (map prepared_of prepared_rules) c.args.position (prepared_of m) ≡ prepared_of m =
    get_or-map prepared_of prepared_rules c.args.position m (prepared_of m) inside ∙ ap prepared_of (sym c.index-prepared_rules-position.is) in
    subst (λ (n : Prepared). n.left < 2 ^ 31) same (c.requires.fitting.few_left c.args.position (prepared_of m) low)

-- the first places are small numbers
pub push_into-requires-clause-before_few : goal.push_into-requires-clause-before_few
push_into-requires-clause-before_few c =
    All-same (λ (x : ℕ). x < 2 ^ 31) c.deref.result.now (firsts_of c.args.live.now c.args.firsts.now c.pre.result.now) (c.deref.ensures.value ∙ c.in_ok-before.ensures)
    (live-firsts-few c.args.live.now c.args.firsts.now c.pre.result.now (2 ^ 31) (omega arith) c.requires.fitting.few_before)

-- the edges of the rule are appended
pub returns : goal.returns
returns c =
    let prepared_rules = c.args.prepared_rules.now in
    let locals = c.args.locals.now in
    let live = c.args.live.now in
    let firsts = c.args.firsts.now in
    let k : ℕ = c.args.position in
    let is : get_or live k false ≡ true = grind (arith, c.if-not-live-position.false) in
    let rows : length (map prepared_of prepared_rules) ≡ length live = c.requires.fitting.rows ∙ sym c.requires.fitting.live in
    let lists : length (answer_lists locals) ≡ length live = c.requires.fitting.locals ∙ sym c.requires.fitting.live in
    let low : k < length prepared_rules = omega (arith, rows, c.requires.within, length-map prepared_rules prepared_of) in
    let inside : k < length locals = omega (arith, lists, c.requires.within, length-map locals (λ l. l.items)) in
    let next : k + 1 ≡ suc k = omega arith in
    on_ok_weaker c.push_into.result
    (λ e p graph. e ∙ ap (λ (xs : List Pair). c.args.edges.now.items ++ xs)
    (edges-agree p prepared_rules locals live firsts k c.index-prepared_rules-position.result c.index-locals-position.result c.deref.result.now c.deref-2.result.now low inside
    c.index-prepared_rules-position.is c.index-locals-position.is is
    (c.deref.ensures.value ∙ (c.in_ok-before.ensures ∙ ap (firsts_of live firsts) (c.pre.ensures p graph ∙ ap (pre p) next))) c.deref-2.ensures.value))
    c.push_into.ensures
