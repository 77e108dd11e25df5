-- The answers of the code represent the outcomes, along the decisions.
use Rattle.std.proofs.Common.{◌≡◌, inl, inr, ℕ, Bool, true, false, not, List, [], ◌∷◌, Option, Some, None, refl, sym}
use Rattle.std.proofs.Common.{ap, ◌∙◌, subst}
use denote.Ref.{Bor}
use Rattle.std.specs.Prelude.{is_some}
use Rattle.bound_expr.specs.declared.bound.Bound as code
use Rattle.cert_types.specs.Lookups.{optional_bound}
use Rattle.bound_table.specs.RewriteResult.{Fits, TooLarge, rewritten_within}
use Rattle.model.specs.Bounds.{Bound, Constant}
use Rattle.model.specs.Costs.{cost_rule}
use Rattle.model.specs.Programs.{Program}
use Rattle.guard_prep.specs.Prepared.{Prepared}
use Rattle.guard_prep.specs.Views.{prepared_of}
use Rattle.cert_types.specs.cert_rules.AcceptsCosts.{cost_result_variable}
use Rattle.cert_types.specs.cert_rules.Known.{Table}
use Rattle.cert_types.specs.cert_rules.Nodes.{ResultVariable, SideBound, EmptyCost, NeverCost, SideBoundCost, NoProof}
use Rattle.cert_types.specs.declared.answer.GuardFeasibility.{GuardFeasibility}
use Rattle.cert_types.specs.declared.answer.GuardFeasibility.TheVariants as feasible
use Rattle.cert_types.specs.declared.proof.EmptyNode.{EmptyNode}
use Rattle.cert_types.proofs.cert_program.Small.{small-bounds}
use Rattle.rank_search.specs.rule_questions.EmptyAnswers.{IsEmptyAnswer, IsPrepared, SaysEmpty}
use Rattle.outcome.specs.Reports.{SizeLarge}
use Rattle.local_size.specs.LocalAnswers.{Local, IsLocal, local_answer_of}
use Rattle.local_size.specs.declared.answer.LocalAnswer.{LocalAnswer}
use Rattle.local_size.specs.declared.answer.LocalAnswer.TheVariants as locals
use Rattle.size_nodes.specs.Needs.{first_missing}
use Rattle.bound_fixpoint.specs.Keys.{time_key}
use Rattle.bound_fixpoint.specs.Needs.{uses_for}
use Rattle.cost_nodes.specs.CostRules.{IsPreparedCost}
use Rattle.cost_nodes.specs.declared.prepared_cost.PreparedCost.{PreparedCost}
use Rattle.cost_nodes.proofs.CostRules.{cost-rule-fits}
use Rattle.cost_bounds.specs.CostAnswers.{AnswersWith, HasReadableUp, IsCostAnswer, IsFound}
use Rattle.cost_bounds.specs.CostOutcomes.{CostOutcome, BoundedBy, NotBounded, CostQuestion, IsCostOf, ComposesTo}
use Rattle.cost_bounds.specs.CostOutcomes.{FeasibleTo, RunsTo, SizedTo, StepTo, TimedTo}
use Rattle.cost_bounds.specs.CostOutcomes.{composed_bound, is_zero_time, question, sizes_read}
use Rattle.cost_bounds.specs.CostReasons.{prepared_cost}
use Rattle.cost_bounds.specs.declared.answer.CostAnswer.{CostAnswer}
use Rattle.cost_bounds.proofs.CostAnswers.{answers-weaker, found-answers}
use Rattle.cost_bounds.proofs.CostPrograms.{shape-readable, up-shaped}

-- the rows of a cost are prepared
pub cost-prepared : (p : Program) (k : PreparedCost) → IsPreparedCost p k → IsPrepared k.rows.now
cost-prepared p k given = record {
  rule = cost_rule given.rows.costs.rule given.rows.costs.cost;
  preparable = cost-rule-fits p k.rule given.rows.costs given.valid;
  same = given.rows.same;
}

-- a time for which the test for a missing one fails isn't missing, and one for which it succeeds is
pub time-there : (o : Option (Bor code.Bound)) (v : Bool) → is_some o ≡ not v → v ≡ false → (optional_bound o ≡ None)
    → ⊥
time-there None v e f h = absurd (no (e ∙ ap not f))
  where
    no : false ≡ true → ⊥
    no k = cc
time-there (Some b) v e f h = cc

pub time-missing : (o : Option (Bor code.Bound)) (v : Bool) → is_some o ≡ not v → v ≡ true → optional_bound o ≡ None
time-missing None v e t = refl
time-missing (Some b) v e t = absurd (no (e ∙ ap not t))
  where
    no : true ≡ false → ⊥
    no k = cc

-- the decisions by the sizes that are read
module _ (q : CostQuestion) (number : ℕ → ℕ → ℕ) (side_bound : SideBound) (a : CostAnswer) where
  -- the decision by whether one of the sizes is missing
  pub sized-by : (o : Option ResultVariable) → first_missing q.table (sizes_read q side_bound) ≡ o
      → AnswersWith q number (SizedTo q side_bound o) a
      → AnswersWith q number (SizedTo q side_bound (first_missing q.table (sizes_read q side_bound))) a
  sized-by o e h = subst (λ (x : Option ResultVariable). AnswersWith q number (SizedTo q side_bound x) a) (sym e) h

  -- the decision by whether the rule has a time
  pub timed-by : (o : Option Bound) → q.table.time q.rule ≡ o → AnswersWith q number (TimedTo q side_bound o) a
      → AnswersWith q number (SizedTo q side_bound None) a
  timed-by o e h = subst (λ (x : Option Bound). AnswersWith q number (TimedTo q side_bound x) a) (sym e) h

  -- if the time is known, the answer is that of the composed bound
  pub composed-by : (o : Option Bound) → ((o ≡ None) → ⊥) → AnswersWith q number (ComposesTo q side_bound) a
      → AnswersWith q number (TimedTo q side_bound o) a
  composed-by None some h = absurd (some refl)
  composed-by (Some b) some h = h

-- the composed bound is small, or too large
module _ (p : Program) (tab : Table) (number : ℕ → ℕ → ℕ) (t : ℕ) (side_bound : SideBound) where
  pub large-answers : (n : ℕ) → TooLarge n ≡ rewritten_within (composed_bound (question p tab t) side_bound)
      → ComposesTo (question p tab t) side_bound (NotBounded (SizeLarge n))
  large-answers n e =
      let w = (small-bounds.large (composed_bound (question p tab t) side_bound) n).0 (sym e) in
      inr (w.0, ap (λ (k : ℕ). NotBounded (SizeLarge k)) w.1)

  pub small-answers : (bound : Bound) → Fits bound ≡ rewritten_within (composed_bound (question p tab t) side_bound)
      → (keys : List ResultVariable) → keys ≡ time_key t ∷ sizes_read (question p tab t) side_bound
      → (a : CostAnswer) → IsFound t (SideBoundCost side_bound) (uses_for number keys) bound a
      → AnswersWith (question p tab t) number (ComposesTo (question p tab t) side_bound) a
  small-answers bound e keys listed a h =
      let w = (small-bounds.fits (composed_bound (question p tab t) side_bound) bound).0 (sym e) in
      found-answers (question p tab t) number (ComposesTo (question p tab t) side_bound) (SideBoundCost side_bound)
      (uses_for number keys) bound a h (inl (w.0, refl)) (ap (uses_for number) listed) w.1

-- the decisions by the rows of a cost
module _ (p : Program) (pivots : ℕ) (tab : Table) (number : ℕ → ℕ → ℕ) (k : PreparedCost) (given : IsPreparedCost p k)
  where
    -- the answer on the cost of one step
    abbrev IsStep : GuardFeasibility → Local → Type 0
    IsStep e step = IsLocal (prepared_cost given.rows.costs) (cost_result_variable k.rule) pivots e step

    module _ (e : GuardFeasibility) (answered : IsEmptyAnswer (prepared_of k.rows.now) k.rule pivots e) where
      -- the outcome is decided by the answer on the rows
      decided : (o : CostOutcome) → FeasibleTo (question p tab k.rule) (IsStep e) e o → IsCostOf p pivots tab k.rule o
      decided o h = record {
        costs = given.rows.costs;
        feasibility = e;
        answered = subst (λ (m : Prepared). IsEmptyAnswer m k.rule pivots e) given.rows.same answered;
        first = h;
      }

      -- the answer if the rows have no point
      pub empty-answers : (node : EmptyNode) → e ≡ feasible.Empty node → (ms : List ℕ) → ms ≡ node.multipliers.items
          → (a : CostAnswer) → IsFound k.rule (EmptyCost ms) NoProof (Constant 0) a
          → IsCostAnswer p pivots tab number k.rule a
      empty-answers node is ms same a h =
          found-answers (question p tab k.rule) number (IsCostOf p pivots tab k.rule) (EmptyCost ms) NoProof (Constant 0)
          a h
          (decided (BoundedBy (EmptyCost ms))
          (subst (λ (d : GuardFeasibility). FeasibleTo (question p tab k.rule) (IsStep d) d (BoundedBy (EmptyCost ms)))
          (sym is)
          (ap (λ (xs : List ℕ). BoundedBy (EmptyCost xs)) same))) refl refl

      module _ (may_run : ¬ SaysEmpty e) where
        -- the outcome is decided by whether the time is 0
        running : (d : GuardFeasibility) → (¬ SaysEmpty d) → (o : CostOutcome)
            → RunsTo (question p tab k.rule) (IsStep d) (is_zero_time (tab.time k.rule)) o
            → FeasibleTo (question p tab k.rule) (IsStep d) d o
        running (feasible.Empty n) may o h = absurd (may tt)
        running (feasible.Point z) may o h = h
        running (feasible.OutOfLimits x) may o h = h

        -- the answer if the time is 0
        pub never-answers : is_zero_time (tab.time k.rule) ≡ true → (a : CostAnswer)
            → IsFound k.rule NeverCost (uses_for number (time_key k.rule ∷ [])) (Constant 0) a
            → IsCostAnswer p pivots tab number k.rule a
        never-answers zero a h =
            found-answers (question p tab k.rule) number (IsCostOf p pivots tab k.rule) NeverCost
            (uses_for number (time_key k.rule ∷ [])) (Constant 0) a h
            (decided _ (running e may_run _
            (subst (λ (v : Bool). RunsTo (question p tab k.rule) (IsStep e) v (BoundedBy NeverCost)) (sym zero) refl)))
            refl refl

        -- the answer if the time isn't 0
        pub step-answers : is_zero_time (tab.time k.rule) ≡ false → (step : Local)
            → IsLocal (prepared_of k.rows.now) (cost_result_variable k.rule) pivots e step → (a : CostAnswer)
            → AnswersWith (question p tab k.rule) number (StepTo (question p tab k.rule) step) a
            → IsCostAnswer p pivots tab number k.rule a
        step-answers zero step is a h =
            answers-weaker (question p tab k.rule) number (StepTo (question p tab k.rule) step)
            (IsCostOf p pivots tab k.rule)
            (λ o to. decided o (running e may_run o
            (subst (λ (v : Bool). RunsTo (question p tab k.rule) (IsStep e) v o) (sym zero) (
              step,
              subst (λ (m : Prepared). IsLocal m (cost_result_variable k.rule) pivots e step) given.rows.same is,
              to,
            )))) a h

      -- the upper side of local bounds can be read
      pub step-readable : (a : LocalAnswer)
          → IsLocal (prepared_of k.rows.now) (cost_result_variable k.rule) pivots e (local_answer_of a) → HasReadableUp a
      step-readable (locals.Bound l) is =
          shape-readable p k.rule given.rows.costs given.valid l.up
          (up-shaped p k.rule given.rows.costs given.valid pivots e _
          (subst (λ (m : Prepared). IsLocal m (cost_result_variable k.rule) pivots e (local_answer_of (locals.Bound l)))
          given.rows.same is))
      step-readable (locals.UnboundedSide l) is = tt
      step-readable (locals.OutOfLimits x) is = tt
