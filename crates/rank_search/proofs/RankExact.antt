-- Each answer on ranking functions is given exactly in its case.
use Rattle.std.proofs.Common.{◌≡◌, ℕ, ◌<◌, ap, arith, refl, sym, ◌∙◌, subst, inl, inr, List, [], length, map}
use Rattle.std.proofs.Common.{get_or, Option, Some, None}
use Rattle.std.specs.Prelude.{◌↔◌, ◌⊎◌, pos}
use Rattle.simplex_core.specs.linear_forms.Causes.{cause_of}
use Rattle.simplex_core.specs.linear_forms.Forms.{at}
use Rattle.simplex_core.specs.linear_forms.LinearProgram.{HasSolution}
use Rattle.simplex_core.specs.linear_forms.RuleQuestions.{RankedSet}
use Rattle.simplex_core.specs.linear_forms.QuestionLaws.{parameters_of}
use Rattle.simplex_core.proofs.linear_forms.ColumnLaws.{get_or-map}
use Rattle.simplex_core.proofs.linear_forms.SolutionLaws.{length-map}
use Rattle.cert_types.specs.rule_forms.Laws.{HasPoint}
use Rattle.cert_types.specs.rule_forms.Ranking.{Ranks, IsLeastRank, NoRank as NoneRanks}
use Rattle.cert_types.specs.rule_forms.RankLaws.{HavePointsOf, rank_multipliers}
use Rattle.cert_types.proofs.rule_forms.RankFits.{function-fits}
use Rattle.cert_types.proofs.rule_forms.RankSolutions.{rank-shown, shown-ranks}
use Rattle.cert_types.proofs.rule_forms.RankExclusion.{dual-excludes_ranks}
use Rattle.cert_types.proofs.rule_forms.LeastRanks.{least-rank}
use Rattle.poly_terms.specs.model.Programs.{Program, Rule, rule_at}
use Rattle.its_model.specs.Valid.{IsValid}
use Rattle.cert_types.specs.cert_rules.AcceptsPlain.{IsRule}
use Rattle.cert_types.specs.cert_rules.Gaps.{SymbolPlace, ScaledPoint}
use Rattle.cert_types.specs.cert_rules.Nodes.{RankNode}
use Rattle.cert_types.specs.declared.answer.GuardFeasibility.{GuardFeasibility}
use Rattle.cert_types.specs.declared.answer.GuardFeasibility.TheVariants as answers
use Rattle.cert_types.specs.declared.answer.LimitHit.{LimitHit}
use Rattle.cert_types.specs.AnswerViews.{gap_of}
use Rattle.cert_types.specs.Views.{rank_of}
use Rattle.rule_questions.proofs.EmptyLaws.{at-least-one}
use Rattle.rank_search.specs.declared.answer.RankAnswer.{RankAnswer}
use Rattle.rank_search.specs.declared.answer.RankAnswer.TheVariants.{Ranked, NoRank, OutOfLimits}
use Rattle.rule_questions.specs.ProgramQuestions.{ranked_set, forms_in}
use Rattle.rule_questions.specs.Programs.{NothingHitsLimit}
use Rattle.rank_search.specs.RankAnswers.{IsRuleSet, rank_program, IsRankNode}
use Rattle.rule_questions.specs.RuleAnswers.{AreEmptyAnswers, answer_for, point_in}
use Rattle.rank_search.specs.RankAnswers.{IsRankAnswer, first_limit_hit, SaysRanked, SaysNoRank, SaysHitLimit}
use Rattle.rank_search.specs.RankLaws.{function_of_node, RankAnswersAreExact}
use Rattle.simplex_core.proofs.Certificates.{dual-excludes}
use Rattle.rank_search.proofs.RankSets.{set-of}

module _ (p : Program) (set : List ℕ) (strict : ℕ) (shut : List SymbolPlace) (valid : IsValid p)
    (rules : IsRuleSet p set strict) where
  abbrev b : RankedSet
  b = ranked_set p set strict shut

  -- the function that a node is read off ranks the rule
  pub node-ranks : (pivots : ℕ) (node : RankNode) (n : IsRankNode b pivots node) → Ranks b
      (function_of_node b pivots node n) node.den
  node-ranks pivots node n =
      shown-ranks b (function_of_node b pivots node n) node.den (rank_multipliers b (at n.numbers))
      (set-of p set strict shut valid rules)
      (at-least-one node.den n.solution.solution.denominator)
      (rank-shown b (at n.numbers) (pos node.den) (set-of p set strict shut valid rules) n.solution.solution)

  -- the function that a node is read off has least weight
  pub node-least : (pivots : ℕ) (node : RankNode) (n : IsRankNode b pivots node) → HavePointsOf b
      → IsLeastRank b (function_of_node b pivots node n) node.den
  node-least pivots node n points =
      least-rank b (at n.numbers) (pos node.den)
      (set-of p set strict shut valid rules) points n.solution.solution n.solution.least

  -- the kept points of a gap are points of the rules of the set
  module _ (pivots : ℕ) (empties : List GuardFeasibility) (known : AreEmptyAnswers p pivots empties) where
    kept-point : (t : ℕ) (z : ScaledPoint) → IsRule p t → (o : Option GuardFeasibility) → answer_for empties t ≡ o
        → Some z ≡ point_in o → HasPoint (forms_in (rule_at p t)).rows
    kept-point t z i None e f = absurd (differ f)
      where
        differ : {y : ScaledPoint} → Some y ≡ None → ⊥
        differ h = cc
    kept-point t z i (Some (answers.Empty n)) e f = absurd (differ f)
      where
        differ : {y : ScaledPoint} → Some y ≡ None → ⊥
        differ h = cc
    kept-point t z i (Some (answers.Point w)) e f =
        subst (λ (o : Option Rule). HasPoint (forms_in o).rows) (sym i.numbered)
        (record {
          z = at w.parts.items;
          d = pos w.den;
          point =
              (known.each t i.rule (answers.Point w) i.numbered e).0.point;
        })
    kept-point t z i (Some (answers.OutOfLimits w)) e f = absurd (differ f)
      where
        differ : {y : ScaledPoint} → Some y ≡ None → ⊥
        differ h = cc

    kept-points : (kept : List ScaledPoint) → map (λ z. Some z) kept ≡ map (λ t. point_in (answer_for empties t)) set
        → HavePointsOf b
    kept-points kept e = record { each = λ k d l. here k d l }
      where
        long : length kept ≡ length set
        long =
            sym (length-map (λ (z : ScaledPoint). Some z) kept)
            ∙ (ap (λ (os : List (Option ScaledPoint)). length os) e ∙ length-map
            (λ (t : ℕ). point_in (answer_for empties t)) set)

        nowhere : ScaledPoint
        nowhere = record { parts = []; den = 0 }

        here : (k d : ℕ) → k < length set → HasPoint (forms_in (rule_at p (get_or set k d))).rows
        here k d l =
            kept-point (get_or set k d) (get_or kept k nowhere) (rules.rules k d l)
            (answer_for empties (get_or set k d)) refl
            (sym (get_or-map (λ (z : ScaledPoint). Some z) kept k None nowhere (omega (arith, l, long)))
            ∙ (ap (λ (os : List (Option ScaledPoint)). get_or os k None) e
            ∙ get_or-map (λ (t : ℕ). point_in (answer_for empties t)) set k None d l))

    pub none-if : (a : RankAnswer) → IsRankAnswer b shut pivots empties a
        → SaysNoRank a ↔ (NoneRanks b × NothingHitsLimit (rank_program b) pivots × (first_limit_hit empties set ≡ None))
    none-if (Ranked node) h = (
      λ s. absurd s,
      λ g. g.0.each (function_of_node b pivots (rank_of node) h.0) (rank_of node).den
          (node-ranks pivots (rank_of node) h.0)
          (function-fits b (parameters_of (at h.0.numbers))),
    )
    none-if (NoRank gap) h = (
      λ s. (
        dual-excludes_ranks b (at h.0.numbers) (set-of p set strict shut valid rules)
            (kept-points (gap_of gap).kept h.0.kept) h.0.dual.certified,
        h.0.hits_no_limit,
        h.1,
      ),
      λ g. tt,
    )
    none-if (OutOfLimits t) (inl own) = (λ s. absurd s, λ g. g.1.each (cause_of t.cause) own.hits_limit)
    none-if (OutOfLimits t) (inr other) = (λ s. absurd s, λ g. differ (sym g.2 ∙ other.first))
      where
        differ : {y : LimitHit} → None ≡ Some y → ⊥
        differ h = cc

-- `Ranked` is the answer exactly if the linear program has a solution and hits no limit
ranked-if : (b : RankedSet) (shut : List SymbolPlace) (pivots : ℕ) (empties : List GuardFeasibility) (a : RankAnswer)
    → IsRankAnswer b shut pivots empties a → SaysRanked a ↔
    (HasSolution (rank_program b) × NothingHitsLimit (rank_program b) pivots)
ranked-if b shut pivots empties (Ranked node) h = (
  λ s. (record { x = at h.0.numbers; d = pos (rank_of node).den; solution = h.0.solution.solution }, h.0.hits_no_limit),
  λ g. tt,
)
ranked-if b shut pivots empties (NoRank gap) h =
    (λ s. absurd s, λ g. dual-excludes (rank_program b) (at h.0.numbers) h.0.dual.certified g.0)
ranked-if b shut pivots empties (OutOfLimits t) (inl own) =
    (λ s. absurd s, λ g. g.1.each (cause_of t.cause) own.hits_limit)
ranked-if b shut pivots empties (OutOfLimits t) (inr other) = (λ s. absurd s, λ g. other.unsolved g.0)

-- `OutOfLimits` is the answer exactly if the linear program hits a limit, or has no solution and the feasibility
-- question of a rule of the set hit one
hit_limit-if : (b : RankedSet) (shut : List SymbolPlace) (pivots : ℕ) (empties : List GuardFeasibility) (a : RankAnswer)
    → IsRankAnswer b shut pivots empties a
    → SaysHitLimit a
    ↔ ((¬ NothingHitsLimit (rank_program b) pivots)
    ⊎ (NothingHitsLimit (rank_program b) pivots × (¬ HasSolution (rank_program b))
    × ¬ (first_limit_hit empties b.set ≡ None)))
hit_limit-if b shut pivots empties (Ranked node) h = (λ s. absurd s, λ g. go g)
  where
    go : ((¬ NothingHitsLimit (rank_program b) pivots)
        ⊎ (NothingHitsLimit (rank_program b) pivots × (¬ HasSolution (rank_program b)) × ¬
        (first_limit_hit empties b.set ≡ None))) → ⊥
    go (inl g) = g h.0.hits_no_limit
    go (inr g) = g.1 (record { x = at h.0.numbers; d = pos (rank_of node).den; solution = h.0.solution.solution })
hit_limit-if b shut pivots empties (NoRank gap) h = (λ s. absurd s, λ g. go g)
  where
    go : ((¬ NothingHitsLimit (rank_program b) pivots)
        ⊎ (NothingHitsLimit (rank_program b) pivots × (¬ HasSolution (rank_program b)) × ¬
        (first_limit_hit empties b.set ≡ None))) → ⊥
    go (inl g) = g h.0.hits_no_limit
    go (inr g) = g.2 h.1
hit_limit-if b shut pivots empties (OutOfLimits t) (inl own) =
    (λ s. inl (λ n. n.each (cause_of t.cause) own.hits_limit), λ g. tt)
hit_limit-if b shut pivots empties (OutOfLimits t) (inr other) =
    (λ s. inr (other.hits_no_limit, other.unsolved, λ e. differ (sym e ∙ other.first)), λ g. tt)
  where
    differ : {y : LimitHit} → None ≡ Some y → ⊥
    differ h = cc

-- each answer on ranking functions is given exactly in its case
pub answers-exact : RankAnswersAreExact
answers-exact = record {
  ranked = ranked-if;
  none = λ p set strict shut pivots empties a valid rules known h. none-if p set strict shut valid rules pivots empties
      known a h;
  hit_limit = hit_limit-if;
}
