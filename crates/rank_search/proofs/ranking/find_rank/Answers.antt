use Rattle.std.proofs.Common.{◌≡◌, ℕ, ◌≤◌, ap, refl, sym, subst, arith, ◌∙◌, length, List}
use Rattle.std.specs.Prelude.{ℤ}
use Rattle.std.specs.List.{All}
use Rattle.simplex_core.specs.linear_forms.RuleQuestions.{coefficients}
use Rattle.poly_terms.specs.model.Programs.{arity_of}
use Rattle.its_model.specs.Views.{program_of}
use Rattle.simplex_core.specs.declared.answers.Answer.{Answer}
use Rattle.simplex_core.specs.Problem.{program_of as program_of_problem}
use Rattle.simplex_core.specs.HitsLimit.{IsWholeAnswer}
use Rattle.rank_search.specs.Coefficients.{open_set, AreCoefficients}
use Rattle.rule_questions.specs.ProgramQuestions.{places_of, ranked_set}
use Rattle.rank_search.specs.Reading.{IsNodeRead, IsGapRead}
use Rattle.rank_search.proofs.RankAnswers.{coefficients-are, few-found, few-parameters, few-places-all, solution-room}
use Rattle.rank_search.proofs.RankAnswers.{node-answer, dual-room, gap-answer, empty-limit_hit, own-limit_hit}
use Rattle.rank_search.proofs.RankAnswers.{has-points}
use Rattle.rank_search.proofs.ranking.find_rank.Goals as goal

pub rank_problem-requires-clause-coefficients : goal.rank_problem-requires-clause-coefficients
rank_problem-requires-clause-coefficients c =
    subst (AreCoefficients
    (ranked_set (program_of c.args.p.now) c.args.set.now c.args.strict (places_of c.args.shut.now)))
    (sym c.deref-2.ensures.value)
    (coefficients-are (program_of c.args.p.now) c.args.prepared_rules.now c.args.set.now c.args.strict
    (places_of c.args.shut.now) c.requires.valid c.requires.rows c.requires.rules c.in_ok-symbols.symbols.items
    c.in_ok-coefficients.coefficients.items c.in_ok-symbols.ensures
    (c.in_ok-coefficients.ensures ∙ ap
    (coefficients (open_set (program_of c.args.p.now) (places_of c.args.shut.now))) c.deref.ensures.value))

pub rank_node-requires-clause-few : goal.rank_node-requires-clause-few
rank_node-requires-clause-few c =
    let l = few-found (program_of c.args.p.now) c.args.prepared_rules.now c.args.set.now c.args.strict
    (places_of c.args.shut.now) c.requires.valid c.requires.rows c.requires.rules c.in_ok-symbols.symbols.items
    c.in_ok-coefficients.coefficients.items c.in_ok-symbols.ensures
    (c.in_ok-coefficients.ensures ∙ ap
    (coefficients (open_set (program_of c.args.p.now) (places_of c.args.shut.now))) c.deref.ensures.value) in
    let e = ap (λ (ss : List ℕ). length ss) c.deref-in-Solution.ensures.value in omega (arith, l, e)

pub rank_node-requires-clause-few_places : goal.rank_node-requires-clause-few_places
rank_node-requires-clause-few_places c =
    subst (λ (ss : List ℕ). All (λ s. arity_of (program_of c.args.p.now) s ≤ 32) ss)
    (sym c.deref-in-Solution.ensures.value)
    (few-places-all (program_of c.args.p.now) c.args.prepared_rules.now c.args.set.now c.args.strict
    (places_of c.args.shut.now) c.requires.valid c.requires.rows c.requires.rules c.in_ok-symbols.symbols.items
    c.in_ok-coefficients.coefficients.items c.in_ok-symbols.ensures
    (c.in_ok-coefficients.ensures ∙ ap
    (coefficients (open_set (program_of c.args.p.now) (places_of c.args.shut.now))) c.deref.ensures.value))

pub rank_node-requires-clause-few_parameters : goal.rank_node-requires-clause-few_parameters
rank_node-requires-clause-few_parameters c =
    let l = few-parameters (program_of c.args.p.now) c.args.prepared_rules.now c.args.set.now c.args.strict
    (places_of c.args.shut.now) c.requires.valid c.requires.rows c.requires.rules c.in_ok-symbols.symbols.items
    c.in_ok-coefficients.coefficients.items c.in_ok-symbols.ensures
    (c.in_ok-coefficients.ensures ∙ ap
    (coefficients (open_set (program_of c.args.p.now) (places_of c.args.shut.now))) c.deref.ensures.value) in
    let e = c.len.ensures in
    let f = c.in_ok-coefficients.coefficients.ok.0 in omega (arith, l, e, f)

pub rank_node-requires-clause-room : goal.rank_node-requires-clause-room
rank_node-requires-clause-room c =
    let l = solution-room (program_of c.args.p.now) c.args.prepared_rules.now c.args.set.now c.args.strict
    (places_of c.args.shut.now) c.requires.valid c.requires.rows c.requires.rules c.in_ok-symbols.symbols.items
    c.in_ok-coefficients.coefficients.items c.in_ok-symbols.ensures
    (c.in_ok-coefficients.ensures ∙ ap
    (coefficients (open_set (program_of c.args.p.now)
    (places_of c.args.shut.now))) c.deref.ensures.value) c.args.pivots c.in_ok-problem.problem
    c.in_ok-problem.ensures c.in-Solution.solution
    (subst (λ (a : Answer). IsWholeAnswer
    (program_of_problem c.in_ok-problem.problem) c.args.pivots a) c.in-Solution.is c.in_ok-solution.ensures) in
    let e = c.len.ensures in
    let f = c.in_ok-coefficients.coefficients.ok.0 in omega (arith, l, e, f)

pub returns-in-Solution : goal.returns-in-Solution
returns-in-Solution c =
    let many : c.len.result ≡ length c.in_ok-coefficients.coefficients.items =
    let e = c.len.ensures in let f = c.in_ok-coefficients.coefficients.ok.0 in omega (arith, e, f) in
    node-answer (program_of c.args.p.now) c.args.prepared_rules.now c.args.set.now c.args.strict
    (places_of c.args.shut.now) c.requires.valid c.requires.rows c.requires.rules c.in_ok-symbols.symbols.items
    c.in_ok-coefficients.coefficients.items c.in_ok-symbols.ensures
    (c.in_ok-coefficients.ensures ∙ ap
    (coefficients (open_set (program_of c.args.p.now)
    (places_of c.args.shut.now))) c.deref.ensures.value) c.args.pivots c.in_ok-problem.problem
    c.in_ok-problem.ensures c.args.empties.now c.in-Solution.solution c.in_ok-node-in-Solution.node
    (subst (λ (a : Answer). IsWholeAnswer
    (program_of_problem c.in_ok-problem.problem) c.args.pivots a) c.in-Solution.is c.in_ok-solution.ensures)
    (subst (λ (n : ℕ). IsNodeRead (program_of c.args.p.now) c.args.prepared_rules.now
    (record {
      set = c.args.set.now;
      strict = c.args.strict;
      shut =
          (places_of c.args.shut.now);
    }) c.in_ok-symbols.symbols.items n
    c.in-Solution.solution.numbers.items c.in-Solution.solution.den c.in_ok-node-in-Solution.node) many
    (subst (λ (ss : List ℕ). IsNodeRead (program_of c.args.p.now) c.args.prepared_rules.now
    (record { set = c.args.set.now; strict = c.args.strict; shut = (places_of c.args.shut.now) }) ss c.len.result
    c.in-Solution.solution.numbers.items c.in-Solution.solution.den c.in_ok-node-in-Solution.node)
    c.deref-in-Solution.ensures.value c.in_ok-node-in-Solution.ensures))

pub returns-in-Some : goal.returns-in-Some
returns-in-Some c =
    empty-limit_hit (program_of c.args.p.now) c.args.prepared_rules.now c.args.set.now c.args.strict
    (places_of c.args.shut.now) c.requires.valid c.requires.rows c.requires.rules c.in_ok-symbols.symbols.items
    c.in_ok-coefficients.coefficients.items c.in_ok-symbols.ensures
    (c.in_ok-coefficients.ensures ∙ ap
    (coefficients (open_set (program_of c.args.p.now)
    (places_of c.args.shut.now))) c.deref.ensures.value) c.args.pivots c.in_ok-problem.problem
    c.in_ok-problem.ensures c.args.empties.now c.in-Dual.dual c.in-Some.limit_hit
    (subst (λ (a : Answer). IsWholeAnswer
    (program_of_problem c.in_ok-problem.problem) c.args.pivots a) c.in-Dual.is c.in_ok-solution.ensures)
    (sym c.in-Some.is ∙ c.first_hit_limit.ensures)

pub gap_of_dual-requires-clause-points : goal.gap_of_dual-requires-clause-points
gap_of_dual-requires-clause-points c =
    has-points (program_of c.args.p.now) c.args.prepared_rules.now c.args.set.now c.args.strict
    (places_of c.args.shut.now) c.requires.valid c.requires.rows c.requires.rules c.args.pivots c.args.empties.now
    c.requires.answers c.args.set.now c.requires.rules.rules c.requires.may_run
    (sym c.in-None.is ∙ c.first_hit_limit.ensures)

pub gap_of_dual-requires-clause-room : goal.gap_of_dual-requires-clause-room
gap_of_dual-requires-clause-room c =
    let l = dual-room (program_of c.args.p.now) c.args.prepared_rules.now c.args.set.now c.args.strict
    (places_of c.args.shut.now) c.requires.valid c.requires.rows c.requires.rules c.in_ok-symbols.symbols.items
    c.in_ok-coefficients.coefficients.items c.in_ok-symbols.ensures
    (c.in_ok-coefficients.ensures ∙ ap
    (coefficients (open_set (program_of c.args.p.now)
    (places_of c.args.shut.now))) c.deref.ensures.value) c.args.pivots c.in_ok-problem.problem
    c.in_ok-problem.ensures c.in-Dual.dual
    (subst (λ (a : Answer). IsWholeAnswer
    (program_of_problem c.in_ok-problem.problem) c.args.pivots a) c.in-Dual.is c.in_ok-solution.ensures) in
    let e = ap (λ (ns : List ℤ). length ns) c.deref-in-None.ensures.value in omega (arith, l, e)

pub returns-in-Dual : goal.returns-in-Dual
returns-in-Dual c =
    gap-answer (program_of c.args.p.now) c.args.prepared_rules.now c.args.set.now c.args.strict
    (places_of c.args.shut.now) c.requires.valid c.requires.rows c.requires.rules c.in_ok-symbols.symbols.items
    c.in_ok-coefficients.coefficients.items c.in_ok-symbols.ensures
    (c.in_ok-coefficients.ensures ∙ ap
    (coefficients (open_set (program_of c.args.p.now)
    (places_of c.args.shut.now))) c.deref.ensures.value) c.args.pivots c.in_ok-problem.problem
    c.in_ok-problem.ensures c.args.empties.now c.in-Dual.dual c.in_ok-gap-in-None.gap
    (subst (λ (a : Answer). IsWholeAnswer
    (program_of_problem c.in_ok-problem.problem) c.args.pivots a) c.in-Dual.is c.in_ok-solution.ensures)
    (subst (λ (ns : List ℤ). IsGapRead c.args.prepared_rules.now
    (record {
      set = c.args.set.now;
      strict = c.args.strict;
      shut =
          (places_of c.args.shut.now);
    }) c.args.empties.now ns c.in_ok-gap-in-None.gap)
    c.deref-in-None.ensures.value c.in_ok-gap-in-None.ensures)
    (sym c.in-None.is ∙ c.first_hit_limit.ensures)

pub returns : goal.returns
returns c =
    own-limit_hit (program_of c.args.p.now) c.args.prepared_rules.now c.args.set.now c.args.strict
    (places_of c.args.shut.now) c.requires.valid c.requires.rows c.requires.rules c.in_ok-symbols.symbols.items
    c.in_ok-coefficients.coefficients.items c.in_ok-symbols.ensures
    (c.in_ok-coefficients.ensures ∙ ap
    (coefficients (open_set (program_of c.args.p.now)
    (places_of c.args.shut.now))) c.deref.ensures.value) c.args.pivots c.in_ok-problem.problem
    c.in_ok-problem.ensures c.args.empties.now c.in-OutOfLimits.cause _
    (subst (λ (a : Answer). IsWholeAnswer
    (program_of_problem c.in_ok-problem.problem) c.args.pivots a) c.in-OutOfLimits.is c.in_ok-solution.ensures) refl
    refl
