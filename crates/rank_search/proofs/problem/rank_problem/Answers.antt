use Rattle.std.proofs.Common.{ℕ, ap, map, sym, subst, arith, ◌∙◌, length, get_or, List}
use Rattle.std.proofs.lemmas.Result.{IfOk-weaker}
use Rattle.poly_terms.specs.model.Programs.{rule_at}
use Rattle.std.specs.List.{range_with_len}
use Rattle.simplex_core.proofs.linear_forms.SolutionLaws.{length-map}
use Rattle.its_model.specs.Views.{program_of, symbol_of}
use Rattle.lp_builder.specs.declared.description.Cost.{Cost}
use Rattle.lp_builder.specs.Builders.{Adds, IsBuilt}
use Rattle.cert_types.specs.cert_rules.AcceptsPlain.{IsRule}
use Rattle.rank_search.specs.declared.goals.Part.{Part}
use Rattle.rank_search.specs.Coefficients.{coefficient_of}
use Rattle.rank_search.specs.Goals.{Fits}
use Rattle.rule_questions.specs.ProgramQuestions.{forms_in, places_of, is_entered}
use Rattle.rank_search.proofs.Counts.{few-rules, few-sought, sought-inside}
use Rattle.rule_questions.proofs.Lists.{read-again}
use Rattle.rank_search.proofs.RankProblems.{set_group-is, move-fits, floor-fits, costs-are, problem-built}
use Rattle.rank_search.proofs.RankSets.{in-all}
use Rattle.rank_search.proofs.Writing.{written-more, written-all}
use Rattle.rank_search.proofs.problem.rank_problem.Goals as goal

pub overflow_cast-coefficients : goal.overflow_cast-coefficients
overflow_cast-coefficients c =
    let l = few-sought (program_of c.args.p.now) c.args.set.now c.args.strict
    (places_of c.args.shut.now) c.requires.valid c.requires.rules c.args.coefficients.now c.requires.coefficients
    in omega (arith, l)

pub new-builder-requires : goal.new-builder-requires
new-builder-requires c =
    let l = few-sought (program_of c.args.p.now) c.args.set.now c.args.strict
    (places_of c.args.shut.now) c.requires.valid c.requires.rules c.args.coefficients.now c.requires.coefficients
    in omega (arith, l)

pub blocks_of-requires-clause-few : goal.blocks_of-requires-clause-few
blocks_of-requires-clause-few c =
    let l = few-sought (program_of c.args.p.now) c.args.set.now c.args.strict
    (places_of c.args.shut.now) c.requires.valid c.requires.rules c.args.coefficients.now c.requires.coefficients
    in omega (arith, l)

pub blocks_of-requires-clause-inside : goal.blocks_of-requires-clause-inside
blocks_of-requires-clause-inside c =
    sought-inside (program_of c.args.p.now) c.args.set.now c.args.strict (places_of c.args.shut.now)
    c.args.coefficients.now c.requires.coefficients _
    (let e = c.len.ensures in let l = length-map symbol_of c.args.p.now.symbols.items in
    let o = c.args.p.now.symbols.ok.0 in omega (arith, e, l, o))

pub add_part-requires-clause-few_rows : goal.add_part-requires-clause-few_rows
add_part-requires-clause-few_rows c =
    let r = c.loop-rule.invariant.rows in
    let t = c.loop-rule-test.true in
    let l = few-rules (program_of c.args.p.now) c.args.set.now c.args.strict c.requires.valid c.requires.rules in omega
    (arith, r, t, l)

pub add_part-requires-clause-few_columns : goal.add_part-requires-clause-few_columns
add_part-requires-clause-few_columns c =
    let r = c.loop-rule.invariant.columns in
    let t = c.loop-rule-test.true in
    let n = few-sought (program_of c.args.p.now) c.args.set.now c.args.strict
    (places_of c.args.shut.now) c.requires.valid c.requires.rules c.args.coefficients.now c.requires.coefficients in
    let l = few-rules (program_of c.args.p.now) c.args.set.now c.args.strict c.requires.valid c.requires.rules in omega
    (arith, r, t, n, l)

pub add_part-requires-clause-fit : goal.add_part-requires-clause-fit
add_part-requires-clause-fit c =
    subst (λ (part : Part). Fits part
    (forms_in (rule_at (program_of c.args.p.now) (get_or c.args.set.now c.loop-rule.rule-index 0)))
    (map coefficient_of c.args.coefficients.now)) (sym c.part_of-part.ensures)
    (move-fits (program_of c.args.p.now) c.args.set.now c.args.strict
    (places_of c.args.shut.now) c.requires.valid c.requires.rules
    (map coefficient_of c.args.coefficients.now) c.loop-rule.rule-index
    (get_or c.args.set.now c.loop-rule.rule-index 0)
    c.requires.coefficients.each c.loop-rule-test.true
    (read-again c.args.set.now c.loop-rule.rule-index 0
    (get_or c.args.set.now c.loop-rule.rule-index 0) c.loop-rule-test.true))

pub loop-rule-preserved : goal.loop-rule-preserved
loop-rule-preserved c =
    written-more (program_of c.args.p.now) c.args.strict (map coefficient_of c.args.coefficients.now)
    (length c.args.coefficients.now) c.args.set.now c.loop-rule.rule-index
    (get_or c.args.set.now c.loop-rule.rule-index 0) c.loop-rule.builder c.add_part.new.builder
    c.requires.valid (c.requires.rules.rules c.loop-rule.rule-index 0 c.loop-rule-test.true) c.loop-rule-test.true
    (read-again c.args.set.now c.loop-rule.rule-index 0
    (get_or c.args.set.now c.loop-rule.rule-index 0) c.loop-rule-test.true) c.loop-rule.invariant
    (subst (Adds c.loop-rule.builder c.add_part.new.builder)
    (set_group-is (program_of c.args.p.now) c.args.strict (map coefficient_of c.args.coefficients.now)
    (get_or c.args.set.now c.loop-rule.rule-index 0) c.part_of-part.result c.part_of-part.ensures)
    c.in_ok-add_part.ensures)

pub add_part-requires-2-clause-rule : goal.add_part-requires-2-clause-rule
add_part-requires-2-clause-rule c =
    in-all (IsRule (program_of c.args.p.now)) c.args.strict c.args.set.now c.requires.rules.rules
    c.requires.rules.inside

pub add_part-requires-2-clause-few_rows : goal.add_part-requires-2-clause-few_rows
add_part-requires-2-clause-few_rows c =
    let r = c.loop-rule.invariant.rows in
    let t = c.loop-rule.auto.rule-index-end in
    let l = few-rules (program_of c.args.p.now) c.args.set.now c.args.strict c.requires.valid c.requires.rules in omega
    (arith, r, t, l)

pub add_part-requires-2-clause-few_columns : goal.add_part-requires-2-clause-few_columns
add_part-requires-2-clause-few_columns c =
    let r = c.loop-rule.invariant.columns in
    let t = c.loop-rule.auto.rule-index-end in
    let n = few-sought (program_of c.args.p.now) c.args.set.now c.args.strict
    (places_of c.args.shut.now) c.requires.valid c.requires.rules c.args.coefficients.now c.requires.coefficients in
    let l = few-rules (program_of c.args.p.now) c.args.set.now c.args.strict c.requires.valid c.requires.rules in omega
    (arith, r, t, n, l)

pub add_part-requires-2-clause-fit : goal.add_part-requires-2-clause-fit
add_part-requires-2-clause-fit c =
    floor-fits (program_of c.args.p.now) c.args.set.now c.args.strict
    (places_of c.args.shut.now) c.requires.valid c.requires.rules
    (map coefficient_of c.args.coefficients.now) c.requires.coefficients.each

pub returns : goal.returns
returns c =
    let costs = c.in_ok-costs.costs.items in
    let marks = c.deref.ensures.value ∙ (c.in_ok-marks.ensures
    ∙ ap (λ (n : ℕ). map (is_entered (program_of c.args.p.now) c.args.set.now) (range_with_len 0 n))
    (sym (length-map symbol_of c.args.p.now.symbols.items))) in
    IfOk-weaker c.finish.result _ _
    (λ problem built. problem-built (program_of c.args.p.now) c.args.set.now c.args.strict
    (places_of c.args.shut.now) c.args.coefficients.now costs c.add_part-2.new.builder problem
    c.requires.coefficients.each
    (costs-are (program_of c.args.p.now) c.args.set.now c.args.strict
    (places_of c.args.shut.now) c.deref.result.now c.args.coefficients.now
    (map (λ (k : Cost). k.size) costs) 0 1 marks
    c.requires.coefficients.each c.in_ok-costs.ensures.sizes)
    (costs-are (program_of c.args.p.now) c.args.set.now c.args.strict
    (places_of c.args.shut.now) c.deref.result.now c.args.coefficients.now
    (map (λ (k : Cost). k.height) costs) 1 0 marks
    c.requires.coefficients.each c.in_ok-costs.ensures.heights)
    (c.in_ok-add_part-2.ensures.holds _
    (written-all (program_of c.args.p.now) c.args.strict (map coefficient_of c.args.coefficients.now)
    (length c.args.coefficients.now) c.args.set.now c.loop-rule.rule-index c.loop-rule.builder
    c.loop-rule-test.false c.loop-rule.invariant))
    (subst (λ (ks : List Cost). IsBuilt c.add_part-2.new.builder ks problem) c.deref-3.ensures.value built))
    c.finish.ensures
