-- A size that grows by a rule without a time, and a time that is large.
use Rattle.std.proofs.Common.{◌≡◌, inl, inr, ℕ, zero, suc, ◌≤◌, true, false, List, [], ◌∷◌, map, Some, None, refl, sym, ◌∙◌, subst}
use Rattle.std.proofs.Common.{arith}
use Rattle.std.specs.Prelude.{ℤ, pos}
use Rattle.model.specs.Bounds.{Constant}
use Rattle.model.specs.Entries.{is_in}
use Rattle.model.specs.Paths.{IsInSet, LeadsBackTo}
use Rattle.model.specs.Programs.{arity_of}
use Rattle.model.proofs.Cases.{none_some, some_none, some_same}
use Rattle.model.proofs.Membership.{no_is_not_yes}
use Rattle.its_model.specs.linear_forms.Forms.{at}
use Rattle.its_model.specs.linear_forms.Questions.{program_of_question}
use Rattle.its_model.specs.linear_forms.QuestionLaws.{parameters_of}
use Rattle.its_model.specs.linear_forms.RuleQuestions.{RankedSet, symbols_of_set}
use Rattle.guard_prep.specs.Tightening.{divisor_of}
use Rattle.simplex_core.specs.Tableau.{first_tableau, equation, cost, pivot}
use Rattle.simplex_core.specs.HitsLimit.{IsScaledSolution}
use Rattle.cert_types.specs.rule_forms.RankLaws.{function_of}
use Rattle.cert_types.specs.cert_rules.Checks.{large_nodes}
use Rattle.cert_types.specs.cert_rules.Nodes.{SymbolForm, RankNode}
use Rattle.bound_fixpoint.proofs.OneOrder.{sets_one, shut_one}
use Rattle.cert_types.specs.cert_rules.AcceptsRank.{AcceptsRank, rank_time}
use Rattle.cert_types.specs.cert_rules.Gaps.{SymbolPlace}
use Rattle.cert_types.specs.cert_rules.Reasons as reasons
use Rattle.cert_types.specs.cert_rules.Worked.{doubled, alone_node}
use Rattle.cert_types.specs.cert_rules.WorkedReasons.{tower}
use Rattle.cert_types.specs.cert_rules.WorkedSettings.{counting, doubling}
use Rattle.cert_types.proofs.cert_rules.CheckLists.{of_one}
use Rattle.cert_types.proofs.cert_rules.TestedNodes.{tested-rank, first-cycle}
use Rattle.cert_types.specs.cert_program.bound_table.InForce.{rewritten}
use Rattle.cert_types.specs.cert_program.bound_table.Rewriting.{simplified, passes_until_same, at_node, parts_passed}
use Rattle.cert_types.specs.cert_rules.Known.{Table}
use Rattle.cert_types.specs.cert_program.Setting.{setting_of}
use Rattle.rank_search.specs.RankAnswers.{rank_program, part_at, IsRankNode}
use Rattle.rank_search.specs.rule_questions.ProgramQuestions.{ranked_set}
use Rattle.bound_fixpoint.specs.Keys.{IsPlace, is_untimed, over}
use Rattle.bound_fixpoint.specs.Right.{IsRanking}
use Rattle.bound_fixpoint.specs.Sets.{IsSetOfRule, IsShut, AreShutOf}
use Rattle.bound_fixpoint.proofs.ListMembers.{contains-none}
use Rattle.time_bounds.specs.SizeWhys.{GrowsUntimed}
use Rattle.time_bounds.specs.TimeWhys.{IsSought, TimeIsLarge}
use Rattle.worked_reasons.specs.Growths.{growing_said, deep_said, GrowthsAreWorkedOut}
use Rattle.worked_reasons.proofs.DoubleComponents.{doubled_alone}
use Rattle.worked_reasons.proofs.DoubleMembers.{not_used}
use Rattle.worked_reasons.proofs.LoopComponents.{grows_nowhere}
use Rattle.worked_reasons.proofs.WholeEnds.{solution_run, solution_hits_no_limit, solutions_same}

-- the place that doubles grows by its rule
grows : GrowsUntimed doubling.program 10 growing_said 2 1 2
unfolding divisor_of rewritten simplified passes_until_same at_node parts_passed
grows = record {
  members = doubled;
  component = doubled_alone;
  loop = refl;
  uses = refl;
  grows = refl;
  missing = refl;
  first = (reasons.MissingTime 2, refl, first-cycle (setting_of doubling.program) (over growing_said) doubled (reasons.MissingTime 2) refl);
}

-- the function A ranks the second rule of the program that counts down, if all times and sizes are 1
abbrev all_one : Table
all_one = record { time = λ t. Some (Constant 1); size = λ t i. Some (Constant 1) }

alone_accepted : AcceptsRank (setting_of counting.program) all_one alone_node
unfolding divisor_of rewritten simplified passes_until_same at_node parts_passed
alone_accepted = tested-rank (setting_of counting.program) all_one alone_node refl

alone_ranks : IsRanking (setting_of counting.program) (2 ∷ []) 2 [] alone_node
alone_ranks = record {
  rule = refl;
  same_set = refl;
  shape = alone_accepted.shape;
  moves = alone_accepted.moves;
  floor = alone_accepted.floor;
  reads = λ a j h. absurd (no_is_not_yes false refl h);
}

-- if the first rule has a time, the set of the second one is the second one alone
alone_set : IsSetOfRule counting.program deep_said 2 (2 ∷ [])
alone_set = record { ascending = tt; members = λ e. (onward e, back e) }
  where
    onward : (e : ℕ) → is_in e (2 ∷ []) ≡ true → IsInSet counting.program (is_untimed deep_said) 2 e
    onward e m = of_one (λ n. IsInSet counting.program (is_untimed deep_said) 2 n) 2 (inl refl) e m

    leading : (e : ℕ) → LeadsBackTo counting.program (is_untimed deep_said) 2 e → is_in e (2 ∷ []) ≡ true
    leading zero h = absurd (no_is_not_yes false refl h.untimed)
    leading (suc zero) h = absurd (no_is_not_yes false refl h.untimed)
    leading (suc (suc zero)) h = refl
    leading (suc (suc (suc k))) h = absurd (none_some h.from h.leads)

    back : (e : ℕ) → IsInSet counting.program (is_untimed deep_said) 2 e → is_in e (2 ∷ []) ≡ true
    back e (inl same) = subst (λ (n : ℕ). is_in n (2 ∷ []) ≡ true) (sym same) refl
    back e (inr h) = leading e h

-- the first rule, which enters the set, has a size at its only place
one_place : (i : ℕ) → IsPlace counting.program 1 i → i ≡ 1
one_place i place =
    let last : i ≤ 1 = subst (λ (a : ℕ). i ≤ arity_of counting.program a) (sym (some_same 1 place.symbol place.target)) place.last in
    omega (arith, place.least, last)

keeps_open : (i : ℕ) → IsPlace counting.program 1 i → deep_said 1 i ≡ None → ⊥
keeps_open i place missing =
    some_none (tower 200) (subst (λ (n : ℕ). deep_said 1 n ≡ None) (one_place i place) missing)

none_shut : (s : SymbolPlace) → IsShut counting.program deep_said (2 ∷ []) s → ⊥
none_shut s h =
    of_one (λ e. IsPlace counting.program e s.place → deep_said e s.place ≡ None → ⊥) 1 (keeps_open s.place) h.entry h.enters
    h.place h.missing

alone_sought : IsSought counting.program deep_said 2 (2 ∷ []) []
alone_sought = record {
  is_set = alone_set;
  are_shut = record {
    order = tt;
    places = λ s. ((λ m. absurd (contains-none s m)), λ h. absurd (none_shut s h));
  };
}

-- the question which function ranks the rule, and the numbers of its solution
abbrev counted : RankedSet
counted = ranked_set counting.program (2 ∷ []) 2 []

abbrev numbers : List ℤ
numbers = pos 1 ∷ pos 0 ∷ pos 0 ∷ pos 0 ∷ pos 0 ∷ pos 0 ∷ pos 1 ∷ pos 0 ∷ []

solved : IsScaledSolution (rank_program counted) 10 numbers 1
unfolding program_of_question first_tableau equation cost pivot divisor_of
solved = solution_run (rank_program counted) 10 4 numbers (8 ∷ 3 ∷ 0 ∷ 6 ∷ []) refl

-- the search finds the function A
alone_found : IsRankNode counted 10 alone_node
unfolding divisor_of
alone_found = record {
  numbered = refl;
  same_set = refl;
  numbers = numbers;
  solution = solved;
  forms = refl;
  multipliers = refl;
  hits_no_limit = record { each = solution_hits_no_limit (rank_program counted) 10 numbers 1 solved };
}

-- the time that it composes of a size of 201 levels is large
deep : TimeIsLarge counting.program 10 deep_said 2 208
deep = record {
  set = 2 ∷ [];
  shut = [];
  sought = alone_sought;
  node = alone_node;
  ranks = alone_ranks;
  found = alone_found;
  large = λ h. no_is_not_yes true h.before refl;
  nodes = refl;
}

-- the search finds no other function, whatever its multipliers
nodes_of : (node : RankNode) → node.set ≡ 2 ∷ [] → node.den ≡ 1 → node.forms ≡ alone_node.forms
    → large_nodes (setting_of counting.program).rewrite (rank_time (setting_of counting.program) node (over deep_said)) ≡ 208
nodes_of node set den forms =
    subst (λ (fs : List SymbolForm). count node.set node.den fs ≡ 208) (sym forms)
    (subst (λ (d : ℕ). count node.set d alone_node.forms ≡ 208) (sym den)
    (subst (λ (ts : List ℕ). count ts 1 alone_node.forms ≡ 208) (sym set) refl))
  where
    count : List ℕ → ℕ → List SymbolForm → ℕ
    count ts d fs =
        large_nodes (setting_of counting.program).rewrite
        (rank_time (setting_of counting.program)
        (record { rule = node.rule; set = ts; den = d; forms = fs; moves = node.moves; floor = node.floor }) (over deep_said))

node_is : (node : RankNode) → IsRankNode counted 10 node → (node.den ≡ 1) × (node.forms ≡ alone_node.forms)
unfolding divisor_of
node_is node h =
    let same = solutions_same (rank_program counted) 10 h.numbers numbers node.den 1 h.solution solved in (
      same.1,
      subst (λ (zs : List ℤ). node.forms ≡ map (part_at (function_of counted (parameters_of (at zs)))) (symbols_of_set counted))
          same.0 h.forms,
    )

not_so_large : TimeIsLarge counting.program 10 deep_said 2 207 → ⊥
not_so_large h = other (h.nodes ∙ nodes_of h.node (h.found.same_set ∙ set) is.0 is.1)
  where
    set : h.set ≡ 2 ∷ []
    set = sets_one counting.program deep_said 2 h.set (2 ∷ []) h.sought.is_set alone_set

    shut : h.shut ≡ []
    shut = shut_one counting.program deep_said (2 ∷ []) h.shut []
        (subst (λ (s : List ℕ). AreShutOf counting.program deep_said s h.shut) set h.sought.are_shut) alone_sought.are_shut

    found : IsRankNode counted 10 h.node
    found = subst (λ (ys : List SymbolPlace). IsRankNode (ranked_set counting.program (2 ∷ []) 2 ys) 10 h.node) shut
        (subst (λ (xs : List ℕ). IsRankNode (ranked_set counting.program xs 2 h.shut) 10 h.node) set h.found)

    is : (h.node.den ≡ 1) × (h.node.forms ≡ alone_node.forms)
    is = node_is h.node found

    other : ◌≡◌ {A = ℕ} 207 208 → ⊥
    other e = omega (arith, e)

pub growths_worked : GrowthsAreWorkedOut
growths_worked = record {
  untimed = grows;
  other_rule = λ h. not_used h.members h.component h.uses;
  timed = λ h. some_none (Constant 3) h.missing;
  grows_nowhere = grows_nowhere;
  large = deep;
  not_so_large = not_so_large;
}
