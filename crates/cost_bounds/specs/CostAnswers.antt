-- The answers of the code on costs.
use Rattle.std.specs.Prelude.{◌≡◌, ℕ, ⊤}
use Rattle.model.specs.Bounds.{Bound}
use Rattle.model.specs.Facts.{Cost}
use Rattle.model.specs.Programs.{Program}
use Rattle.cert_types.specs.Composing.{IsReadable}
use Rattle.cert_types.specs.Views.{fact_of, proof_of, result_variable_of}
use Rattle.cert_types.specs.cert_program.Setting.{setting_of}
use Rattle.cert_types.specs.cert_rules.AcceptsCosts.{stated_cost}
use Rattle.cert_types.specs.cert_rules.Known.{Table}
use Rattle.cert_types.specs.cert_rules.Nodes.{CostBy, Proofs, CostBound}
use Rattle.local_size.specs.declared.answer.LocalAnswer.{LocalAnswer}
use Rattle.local_size.specs.declared.answer.LocalAnswer.TheVariants as locals
use Rattle.outcome.specs.Reports.{SizeHitLimit, SizeMissing, SizeUntimed, SizeLarge}
use Rattle.outcome.specs.Views.{unbounded_of}
use Rattle.cost_bounds.specs.declared.answer.CostAnswer.{CostAnswer}
use Rattle.cost_bounds.specs.declared.answer.CostAnswer.TheVariants as answers
use Rattle.cost_bounds.specs.CostLemmas.{cost_lemma, cost_node}
use Rattle.cost_bounds.specs.CostOutcomes.{CostOutcome, BoundedBy, NotBounded, CostQuestion, question, IsCostOf}

-- the answer is the node that bounds the cost of a rule, with this certificate and these premises; its fact has this
-- bound
abbrev pub IsFound : ℕ → CostBy → Proofs → Bound → CostAnswer → Type 0
IsFound t by uses bound (answers.Found node fact) = (proof_of node ≡ CostBound (cost_node t by) uses)
    × (fact_of fact ≡ Cost t bound)
IsFound t by uses bound (answers.UnboundedSide l) = ⊥
IsFound t by uses bound (answers.OutOfLimits x) = ⊥
IsFound t by uses bound (answers.Missing m) = ⊥
IsFound t by uses bound (answers.Untimed u) = ⊥
IsFound t by uses bound (answers.Large n) = ⊥

-- an answer represents an outcome with a property: a node that is found cites its premises by these numbers, and states
-- what its certificate composes over the table
abbrev pub AnswersWith : CostQuestion → (ℕ → ℕ → ℕ) → (CostOutcome → Type 0) → CostAnswer → Type 0
AnswersWith q number Is (answers.Found node fact) = (by : CostBy) × Is (BoundedBy by)
    × (proof_of node ≡ cost_lemma (setting_of q.program) number (cost_node q.rule by))
    × (fact_of fact ≡ Cost q.rule (stated_cost (setting_of q.program) q.table q.rule by))
AnswersWith q number Is (answers.UnboundedSide l) = Is (NotBounded (unbounded_of l))
AnswersWith q number Is (answers.OutOfLimits x) = Is (NotBounded (SizeHitLimit x))
AnswersWith q number Is (answers.Missing m) = Is (NotBounded (SizeMissing (result_variable_of m)))
AnswersWith q number Is (answers.Untimed u) = Is (NotBounded (SizeUntimed u))
AnswersWith q number Is (answers.Large n) = Is (NotBounded (SizeLarge n))

-- the answer on the cost of a rule over a table, whose bounds are those of lemmas with these numbers
abbrev pub IsCostAnswer : Program → ℕ → Table → (ℕ → ℕ → ℕ) → ℕ → CostAnswer → Type 0
IsCostAnswer p pivots tab number t a = AnswersWith (question p tab t) number (IsCostOf p pivots tab t) a

-- an upper side bound, if there are local bounds, can be read as a bound
abbrev pub HasReadableUp : LocalAnswer → Type 0
HasReadableUp (locals.Bound l) = IsReadable l.up
HasReadableUp (locals.UnboundedSide l) = ⊤
HasReadableUp (locals.OutOfLimits x) = ⊤
