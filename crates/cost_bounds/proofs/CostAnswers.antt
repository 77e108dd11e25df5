-- How the answers of the code represent outcomes.
use Rattle.std.proofs.Common.{◌≡◌, ◌∙◌, ℕ, ap}
use Rattle.model.specs.Bounds.{Bound}
use Rattle.model.specs.Facts.{Cost}
use Rattle.cert_types.specs.cert_program.Setting.{setting_of}
use Rattle.cert_types.specs.cert_rules.AcceptsCosts.{stated_cost}
use Rattle.cert_types.specs.cert_rules.Nodes.{CostBy, Proofs, CostBound}
use Rattle.bound_fixpoint.specs.Needs.{uses_for}
use Rattle.cost_bounds.specs.CostAnswers.{AnswersWith, IsFound}
use Rattle.cost_bounds.specs.CostLemmas.{cost_node, cost_premises}
use Rattle.cost_bounds.specs.CostOutcomes.{CostOutcome, BoundedBy, CostQuestion}
use Rattle.cost_bounds.specs.declared.answer.CostAnswer.{CostAnswer}
use Rattle.cost_bounds.specs.declared.answer.CostAnswer.TheVariants as answers

module _ (q : CostQuestion) (number : ℕ → ℕ → ℕ) where
  -- an answer that represents an outcome with a property represents one with a weaker property
  pub answers-weaker : (Is Other : CostOutcome → Type 0) → ((o : CostOutcome) → Is o → Other o) → (a : CostAnswer)
      → AnswersWith q number Is a → AnswersWith q number Other a
  answers-weaker Is Other wider (answers.Found node fact) (by, is, proof, states) = (by, wider _ is, proof, states)
  answers-weaker Is Other wider (answers.UnboundedSide l) h = wider _ h
  answers-weaker Is Other wider (answers.OutOfLimits x) h = wider _ h
  answers-weaker Is Other wider (answers.Missing m) h = wider _ h
  answers-weaker Is Other wider (answers.Untimed u) h = wider _ h
  answers-weaker Is Other wider (answers.Large n) h = wider _ h

  -- a node that is found represents its certificate, if it cites the certificate's premises and states its bound
  pub found-answers : (Is : CostOutcome → Type 0) (by : CostBy) (uses : Proofs) (bound : Bound) (a : CostAnswer)
      → IsFound q.rule by uses bound a → Is (BoundedBy by)
      → uses ≡ uses_for number (cost_premises (setting_of q.program) q.rule by)
      → bound ≡ stated_cost (setting_of q.program) q.table q.rule by → AnswersWith q number Is a
  found-answers Is by uses bound (answers.Found node fact) (proof, states) is cited stated = (
    by,
    is,
    proof ∙ ap (λ (u : Proofs). CostBound (cost_node q.rule by) u) cited,
    states ∙ ap (λ (b : Bound). Cost q.rule b) stated,
  )
  found-answers Is by uses bound (answers.UnboundedSide l) h is cited stated = absurd h
  found-answers Is by uses bound (answers.OutOfLimits x) h is cited stated = absurd h
  found-answers Is by uses bound (answers.Missing m) h is cited stated = absurd h
  found-answers Is by uses bound (answers.Untimed u) h is cited stated = absurd h
  found-answers Is by uses bound (answers.Large n) h is cited stated = absurd h
