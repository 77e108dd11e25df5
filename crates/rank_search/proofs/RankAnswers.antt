-- The answer that is built from the solver's answer to a ranking question.
use Rattle.std.proofs.Common.{◌≡◌, ℕ, zero, suc, ◌+◌, ◌*◌, ◌<◌, ◌≤◌, ap, arith, refl, sym, ◌∙◌, subst, inl, inr, List}
use Rattle.std.proofs.Common.{[], ◌∷◌, length, map, Option, Some, None}
use Rattle.std.specs.Prelude.{slice_get}
use Rattle.std.specs.List.{All}
use Rattle.std.proofs.lemmas.List.Elements.{All-nil, All-cons, All-head, All-tail}
use Rattle.simplex_core.specs.linear_forms.Causes.{Cause, cause_of}
use Rattle.simplex_core.specs.linear_forms.Forms.{at}
use Rattle.simplex_core.specs.linear_forms.Questions.{double, group_columns, program_of_question}
use Rattle.simplex_core.specs.linear_forms.QuestionLaws.{after, parameters_of, multipliers_by_group}
use Rattle.simplex_core.specs.linear_forms.RuleQuestions.{RankedSet, Coefficient, symbols_of_set, coefficients}
use Rattle.simplex_core.specs.linear_forms.RuleQuestions.{rank_question}
use Rattle.simplex_core.proofs.linear_forms.ElementLaws.{program-columns}
use Rattle.simplex_core.proofs.linear_forms.SolutionLaws.{length-map}
use Rattle.poly_terms.specs.model.Programs.{Program, arity_of}
use Rattle.its_model.specs.Valid.{IsValid}
use Rattle.guard_prep.specs.declared.rule_rows.RuleRows.{RuleRows}
use Rattle.simplex_core.specs.declared.problem.Problem.{Problem}
use Rattle.simplex_core.specs.declared.scaling.Numerators.{Numerators}
use Rattle.simplex_core.specs.declared.answers.Answer.{Answer}
use Rattle.simplex_core.specs.declared.answers.Answer.TheVariants.{Solution, Dual, OutOfLimits}
use Rattle.simplex_core.specs.linear_forms.declared.limit_cause.LimitCause.{LimitCause}
use Rattle.simplex_core.specs.Problem.{program_of}
use Rattle.simplex_core.specs.HitsLimit.{HitsLimit, IsWholeAnswer, IsScaledSolution}
use Rattle.simplex_core.proofs.Agreement.{whole-answers-agree}
use Rattle.simplex_core.proofs.Certificates.{dual-excludes}
use Rattle.cert_types.specs.cert_rules.AcceptsPlain.{IsRule}
use Rattle.cert_types.specs.cert_rules.Gaps.{SymbolPlace}
use Rattle.cert_types.specs.cert_rules.Graph.{symbols_of}
use Rattle.cert_types.specs.declared.answer.GuardFeasibility.{GuardFeasibility}
use Rattle.cert_types.specs.declared.answer.GuardFeasibility.TheVariants as answers
use Rattle.cert_types.specs.declared.answer.Question.TheVariants as asked
use Rattle.cert_types.specs.declared.answer.LimitHit.{LimitHit}
use Rattle.cert_types.specs.declared.gap.Gap.{Gap}
use Rattle.cert_types.specs.declared.rank.RankNode.{RankNode}
use Rattle.cert_types.specs.AnswerViews.{scaled_of}
use Rattle.cert_types.specs.Composing.{AreRowsOf}
use Rattle.rank_search.specs.declared.answer.RankAnswer.TheVariants as ranked
use Rattle.rank_search.specs.declared.coefficients.Coefficient.{Coefficient as CoefficientSought}
use Rattle.rank_search.specs.Coefficients.{coefficient_of, open_set, AreCoefficients}
use Rattle.rule_questions.specs.ProgramQuestions.{ranked_set}
use Rattle.rule_questions.specs.EmptyAnswers.{SaysEmpty}
use Rattle.rule_questions.specs.Programs.{IsProblemOf}
use Rattle.rank_search.specs.RankAnswers.{IsRuleSet, MayAllRun, HasPointFor}
use Rattle.rule_questions.specs.RuleAnswers.{AreEmptyAnswers, answer_for, point_in}
use Rattle.rule_questions.specs.RuleAnswers.{limit_hit_in}
use Rattle.rank_search.specs.RankAnswers.{first_of, first_limit_hit, rank_program, IsRankAnswer}
use Rattle.rank_search.specs.Reading.{shapes, read_forms, IsNodeRead, IsGapRead}
use Rattle.rule_questions.specs.GroupLines.{group_lines}
use Rattle.rank_search.proofs.Counts.{few-in-all, few-places, few-symbols, rule-inside}
use Rattle.rank_search.proofs.Groups.{shapes-alike, alike-multipliers, alike-points, alike-columns, alike-lines}
use Rattle.rule_questions.proofs.GroupLines.{equations-many}
use Rattle.rank_search.proofs.OpenPlaces.{same-coefficients}
use Rattle.rule_questions.proofs.Pairs.{double-is}
use Rattle.rank_search.proofs.RankSets.{in-all, symbols-same}
use Rattle.rank_search.proofs.FunctionReading.{function-read}
use Rattle.rule_questions.proofs.HitsLimit.{solution-hits_no_limit, dual-hits_no_limit}

module _ (p : Program) (prepared_rules : List RuleRows) (set : List ℕ) (strict : ℕ) (shut : List SymbolPlace)
    (valid : IsValid p)
    (rows : AreRowsOf prepared_rules p) (rules : IsRuleSet p set strict) where
  abbrev b : RankedSet
  b = ranked_set p set strict shut

  -- the linear program has as many rows as the groups have lines
  rows-are : (rank_program b).rows ≡ group_lines (rank_question b).groups
  unfolding program_of_question
  rows-are = equations-many 0 (rank_question b).groups

  strict-rule : IsRule p strict
  strict-rule = in-all (IsRule p) strict set rules.rules rules.inside

  -- each number of the set is that of a rule
  pub rules-are : All (IsRule p) set
  rules-are = rules.rules

  -- the symbols and the coefficients that were found
  module _ (symbols : List ℕ) (coefs : List CoefficientSought) (found : symbols ≡ symbols_of p set)
      (listed : map coefficient_of coefs ≡ coefficients (open_set p shut) symbols) where
    symbols-are : symbols ≡ symbols_of_set b
    symbols-are = found ∙ sym (symbols-same p set strict shut rules.rules)

    pub coefficients-are : AreCoefficients b coefs
    coefficients-are = record {
      each = listed ∙ (same-coefficients p set strict shut symbols ∙ ap
          (λ (ss : List ℕ). coefficients b ss) symbols-are);
    }

    pub few-found : length symbols ≤ 2000
    few-found = let e = ap (λ (ss : List ℕ). length ss) symbols-are in let l = few-symbols p set strict shut valid rules
        in omega (arith, e, l)

    many-parameters : length coefs ≡ (rank_question b).parameters
    many-parameters = sym (length-map coefficient_of coefs) ∙ ap
        (λ (cs : List Coefficient). length cs) coefficients-are.each

    pub few-parameters : length coefs ≤ 66000
    few-parameters = let e = many-parameters in let l = few-in-all p set strict shut valid rules in omega (arith, e, l)

    pub few-places-all : All (λ s. arity_of p s ≤ 32) symbols
    few-places-all = λ k d l. few-places p.symbols _ valid.symbols

    module _ (pivots : ℕ) (problem : Problem) (of : IsProblemOf (rank_question b) problem) where
      moved : (a : Answer) → IsWholeAnswer (program_of problem) pivots a → IsWholeAnswer (rank_program b) pivots a
      moved a h = whole-answers-agree (program_of problem) (rank_program b) pivots a of.agrees h

      -- there is a column for each parameter's pair, each row and each slack
      pub solution-room : (s : Numerators) → IsWholeAnswer (program_of problem) pivots (Solution s)
          → 2 * length coefs + group_columns (shapes prepared_rules set strict) ≤ length s.numbers.items
      solution-room s h =
          let e = (moved (Solution s) h).columns in
          let f = program-columns (rank_question b) in
          let g = alike-columns (shapes prepared_rules set strict) (rank_question b).groups
          (shapes-alike p prepared_rules rows set strict shut rules strict-rule) in
          let k = many-parameters in
          let d = double-is (rank_question b).parameters in omega (arith, e, f, g, k, d)

      -- the node that is read off a solution is the answer
      pub node-answer : (empties : List GuardFeasibility) (s : Numerators) (node : RankNode) → IsWholeAnswer
          (program_of problem) pivots (Solution s)
          → IsNodeRead p prepared_rules (record { set = set; strict = strict; shut = shut }) symbols
          (length coefs) s.numbers.items s.den node
          → IsRankAnswer b shut pivots empties (ranked.Ranked node)
      node-answer empties s node h n = (
        record {
          numbered = n.numbered;
          same_set = n.same_set;
          numbers = s.numbers.items;
          solution = subst (λ (d : ℕ). IsScaledSolution (rank_program b) pivots s.numbers.items d) (sym n.over)
              (moved (Solution s) h);
          forms = n.forms
              ∙ (ap (λ (ss : List ℕ). read_forms p shut (parameters_of (at s.numbers.items)) 0 ss) symbols-are
              ∙ function-read p set strict shut (parameters_of (at s.numbers.items)));
          multipliers = n.multipliers
              ∙ (ap (λ (k : ℕ). multipliers_by_group (after k (at s.numbers.items)) (shapes prepared_rules set strict))
              (ap (λ (k : ℕ). 2 * k) many-parameters ∙ sym (double-is (rank_question b).parameters))
              ∙ alike-multipliers (after (double (rank_question b).parameters) (at s.numbers.items))
              (shapes prepared_rules set strict) (rank_question b).groups
              (shapes-alike p prepared_rules rows set strict shut rules strict-rule));
          hits_no_limit = solution-hits_no_limit (rank_program b) pivots s (moved (Solution s) h);
        },
        n.unused,
      )

      -- the dual has a number for each unknown and each constant
      pub dual-room : (s : Numerators) → IsWholeAnswer (program_of problem) pivots (Dual s) → group_lines
          (shapes prepared_rules set strict) ≤ length s.numbers.items
      dual-room s h =
          let e = (moved (Dual s) h).rows in
          let f = rows-are in
          let g = alike-lines (shapes prepared_rules set strict) (rank_question b).groups
          (shapes-alike p prepared_rules rows set strict shut rules strict-rule) in
          omega (arith, e, f, g)

      -- the gap that is read off a dual is the answer
      pub gap-answer : (empties : List GuardFeasibility) (s : Numerators) (gap : Gap)
          → IsWholeAnswer (program_of problem) pivots
          (Dual s)
          → IsGapRead prepared_rules (record { set = set; strict = strict; shut = shut }) empties s.numbers.items gap
          → None
          ≡ first_limit_hit empties set
          → IsRankAnswer b shut pivots empties (ranked.NoRank gap)
      gap-answer empties s gap h g none = (
        record {
          numbered = g.numbered;
          same_set = g.same_set;
          same_shut = g.same_shut;
          numbers = s.numbers.items;
          den = s.den;
          dual = moved (Dual s) h;
          points = g.points ∙ alike-points (at s.numbers.items) (shapes prepared_rules set strict)
              (rank_question b).groups
              (shapes-alike p prepared_rules rows set strict shut rules strict-rule);
          kept = g.kept;
          hits_no_limit = dual-hits_no_limit (rank_program b) pivots s (moved (Dual s) h);
        },
        sym none,
      )

      -- the limit hit of a feasibility question is the answer
      pub empty-limit_hit : (empties : List GuardFeasibility) (s : Numerators) (t : LimitHit)
          → IsWholeAnswer (program_of problem) pivots
          (Dual s)
          → Some t ≡ first_limit_hit empties set → IsRankAnswer b shut pivots empties (ranked.OutOfLimits t)
      empty-limit_hit empties s t h e = inr (record {
        hits_no_limit = dual-hits_no_limit (rank_program b) pivots s (moved (Dual s) h);
        unsolved = λ solution. dual-excludes (rank_program b) (at s.numbers.items)
            (moved (Dual s) h).certified solution;
        first = sym e;
      })

      -- the limit hit of the ranking question itself is the answer
      pub own-limit_hit : (empties : List GuardFeasibility) (c : LimitCause) (t : LimitHit)
          → IsWholeAnswer (program_of problem) pivots
          (OutOfLimits c)
          → t.question ≡ asked.Rank strict → cause_of t.cause ≡ cause_of c → IsRankAnswer b shut pivots empties
          (ranked.OutOfLimits t)
      own-limit_hit empties c t h e f = inl (record {
        question = e;
        hits_limit = subst (λ (k : Cause). HitsLimit (rank_program b) pivots k) (sym f) (moved (OutOfLimits c) h);
      })

  -- if no rule of the set hit a limit, and none is known to be infeasible, each has a point
  module _ (pivots : ℕ) (empties : List GuardFeasibility) (known : AreEmptyAnswers p pivots empties) where
    read-inside : (xs : List GuardFeasibility) (k : ℕ) → k < length xs
        → (a : GuardFeasibility) × (slice_get xs k ≡ Some a)
    read-inside [] k l = absurd (omega (arith, l))
    read-inside (a ∷ xs) zero l = (a, refl)
    read-inside (a ∷ xs) (suc k) l = read-inside xs k (omega (arith, l))

    answered : (t : ℕ) → IsRule p t → (a : GuardFeasibility) × (answer_for empties t ≡ Some a)
    answered t i = go t (rule-inside p t i)
      where
        go : (t : ℕ) → (0 < t) × (t ≤ length p.rules) → (a : GuardFeasibility) × (answer_for empties t ≡ Some a)
        go zero h = absurd (let l = h.0 in omega (arith, l))
        go (suc t) h = read-inside empties t (let l = h.1 in let e = known.one_each in omega (arith, l, e))

    pub has-points : (ts : List ℕ) → All (IsRule p) ts → MayAllRun ts empties → None ≡ first_limit_hit empties ts → All
        (HasPointFor empties) ts
    has-points [] h m e = All-nil (HasPointFor empties)
    has-points (t ∷ ts) h m e =
        let a = answered t (All-head (IsRule p) t ts h) in
        let both = hits_no_limit (limit_hit_in (answer_for empties t)) (first_limit_hit empties ts) e in
        All-cons (HasPointFor empties) t ts
        (one a.0 a.1 (All-head
        (λ t. (a : GuardFeasibility) → answer_for empties t ≡ Some a → ¬ (SaysEmpty a)) t ts m.each a.0 a.1)
        (ap limit_hit_in (sym a.1) ∙ both.0))
        (has-points ts (All-tail (IsRule p) t ts h)
        (record {
          each = All-tail
              (λ t. (a : GuardFeasibility) → answer_for empties t ≡ Some a → ¬ (SaysEmpty a)) t ts m.each;
        }) (sym both.1))
      where
        hits_no_limit : (o q : Option LimitHit) → None ≡ first_of o q → (o ≡ None) × (q ≡ None)
        hits_no_limit None q e = (refl, sym e)
        hits_no_limit (Some t) q e = absurd (none e)
          where
            none : None ≡ Some t → ⊥
            none f = cc

        one : (a : GuardFeasibility) → answer_for empties t ≡ Some a → ¬ (SaysEmpty a) → limit_hit_in (Some a) ≡ None
            → HasPointFor empties t
        one (answers.Empty n) e f g = absurd (f tt)
        one (answers.Point z) e f g = record { point = scaled_of z; found = ap point_in e }
        one (answers.OutOfLimits t) e f g = absurd (none g)
          where
            none : Some t ≡ None → ⊥
            none h = cc
