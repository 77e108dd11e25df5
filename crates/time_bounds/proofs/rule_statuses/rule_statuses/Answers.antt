use Rattle.std.proofs.Common.{◌≡◌, ◌↔◌, ℕ, ◌<◌, All, Bool, true, false, List, length, sym, ◌∙◌, ap, subst}
use Rattle.std.specs.Prelude.{slice_index_or}
use Rattle.std.proofs.lemmas.List.{length-map}
use Rattle.std.proofs.lemmas.Result.{IfOk-weaker}
use Rattle.its_model.specs.declared.program.Rule.{Rule}
use Rattle.its_model.specs.Views.{rule_of, program_of}
use Rattle.time_bounds.specs.ProgramSearches.{searches_of_program}
use Rattle.model.specs.Paths.{IsReached}
use Rattle.its_graph.specs.Graphs.{none_of}
use Rattle.cert_types.specs.declared.answer.GuardFeasibility.{GuardFeasibility}
use Rattle.time_bounds.specs.declared.rule_statuses.RuleStatus.{RuleStatus}
use Rattle.time_bounds.specs.RuleStatuses.{said_empty, rule_statuses_by, AreRuleStatuses}
use Rattle.time_bounds.proofs.RuleSymbols.{sources_within}
use Rattle.time_bounds.proofs.RuleStatusLaws.{are_rule_statuses}
use Rattle.time_bounds.proofs.rule_statuses.rule_statuses.Goals as goal

pub rule_statuses_of-requires-clause-sources : goal.rule_statuses_of-requires-clause-sources
rule_statuses_of-requires-clause-sources c =
    let within = sources_within c.args.cx.now.program.now c.requires.ready.valid c.args.cx.now.graph c.requires.ready.graph in
    let long : c.args.cx.now.graph.symbols ≡ length c.deref-5.result.now =
    sym (c.in_ok-reached.ensures.one_each) ∙ ap length (sym c.deref-5.ensures.value) in
    subst (λ (n : ℕ). All (λ r. r.source < n) c.deref-3.result.now) long
    (subst (λ (rs : List Rule). All (λ r. r.source < c.args.cx.now.graph.symbols) rs) (sym c.deref-3.ensures.value) within)

pub returns : goal.returns
returns c =
    let p = c.args.cx.now.program.now in
    let q = c.args.cx.now in
    let cut : c.deref-2.result.now ≡ said_empty q.empties.items =
    c.deref-2.ensures.value ∙ (c.in_ok-cut.ensures ∙ ap said_empty c.deref.ensures.value) in
    let reached = subst (λ (xs : List ℕ). (b : ℕ) → (slice_index_or c.in_ok-reached.reached.items b false ≡ true)
    ↔ IsReached (program_of p) (none_of xs) b) cut
    (c.in_ok-reached.ensures.reached (program_of p) c.requires.ready.graph) in
    let long = c.requires.ready.empties.one_each ∙ length-map p.rules.items rule_of in
    let are = are_rule_statuses p q.pivots q.empties.items c.in_ok-reached.reached.items c.requires.ready.empties long reached in
    let same : rule_statuses_by c.deref-5.result.now c.deref-4.result.now c.deref-3.result.now
    ≡ rule_statuses_by c.in_ok-reached.reached.items q.empties.items p.rules.items =
    ap (λ (xs : List Bool). rule_statuses_by xs c.deref-4.result.now c.deref-3.result.now) c.deref-5.ensures.value
    ∙ (ap (λ (xs : List GuardFeasibility). rule_statuses_by c.in_ok-reached.reached.items xs c.deref-3.result.now) c.deref-4.ensures.value
    ∙ ap (λ (xs : List Rule). rule_statuses_by c.in_ok-reached.reached.items q.empties.items xs) c.deref-3.ensures.value) in
    IfOk-weaker c.rule_statuses_of.result (λ f. f.items ≡ rule_statuses_by c.deref-5.result.now c.deref-4.result.now c.deref-3.result.now)
    (λ f. AreRuleStatuses (searches_of_program (program_of p) q.pivots) (program_of p) f.items)
    (λ f e. subst (λ (fs : List RuleStatus). AreRuleStatuses (searches_of_program (program_of p) q.pivots) (program_of p) fs) (sym (e ∙ same)) are)
    c.rule_statuses_of.ensures
