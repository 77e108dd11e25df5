-- Worked values of which outcome of a cost is the first that applies, of what its bound needs, and of its lemma: for
-- the program that enters a loop for a cost of A, and pays B for each round.
use Rattle.std.specs.Prelude.{◌≡◌, ℕ, zero, suc, true, false, [], ◌∷◌, pos, Option, Some, None}
use Rattle.model.specs.Bounds.{Bound, Constant, Input, SumOf, NoParts}
use Rattle.model.specs.Facts.{Cost}
use Rattle.model.specs.WorkedCosts.{paying}
use Rattle.cert_types.specs.cert_program.Setting.{setting_of}
use Rattle.cert_types.specs.cert_rules.Known.{Table}
use Rattle.cert_types.specs.cert_rules.Nodes.{SideBound, Linear, Poly, EmptyCost, NeverCost, SideBoundCost}
use Rattle.cert_types.specs.cert_rules.Nodes.{Start, Cite, NoProof, AndProof, CostBound}
use Rattle.cert_types.specs.declared.answer.LimitHit.{LimitHit}
use Rattle.cert_types.specs.declared.answer.Question.TheVariants as questions
use Rattle.local_size.specs.LocalAnswers.{Local, HasBound, HasHitLimit}
use Rattle.outcome.specs.Reports.{SizeHitLimit, SizeMissing, SizeUntimed}
use Rattle.bound_fixpoint.specs.Keys.{key}
use Rattle.cost_bounds.specs.CostLemmas.{cost_fact, cost_lemma, cost_node, cost_premises}
use Rattle.cost_bounds.specs.CostOutcomes.{BoundedBy, NotBounded, CostQuestion, question, is_zero_time, sizes_read}
use Rattle.cost_bounds.specs.CostOutcomes.{RunsTo, StepTo}

-- the table of these times and sizes
abbrev pub known_as : (ℕ → Option Bound) → (ℕ → ℕ → Option Bound) → Table
known_as time size = record { time = time; size = size }

-- the question of the cost of the rule with this number over them
abbrev pub paying_over : (ℕ → Option Bound) → (ℕ → ℕ → Option Bound) → ℕ → CostQuestion
paying_over time size t = question paying (known_as time size) t

-- no time, and no size, is known
abbrev pub no_time : ℕ → Option Bound
no_time t = None

abbrev pub no_size : ℕ → ℕ → Option Bound
no_size t i = None

-- each rule occurs once; the size of a place after each rule is that of the start argument
abbrev pub once : ℕ → Option Bound
once t = Some (Constant 1)

abbrev pub own_size : ℕ → ℕ → Option Bound
own_size t zero = None
own_size t (suc i) = Some (Input i)

-- A as an upper bound on the cost of entering, and B on that of a round
abbrev pub by_A : SideBound
by_A = Linear 1 (record { coefs = pos 1 ∷ pos 0 ∷ []; constant = pos 0 }) (0 ∷ [])

abbrev pub by_B : SideBound
by_B = Linear 1 (record { coefs = pos 0 ∷ pos 1 ∷ []; constant = pos 0 }) (0 ∷ 0 ∷ [])

-- an answer with this upper bound
abbrev pub up_to : SideBound → Local
up_to side_bound = HasBound (record { up = side_bound; low = Poly })

-- the bound on a round reads B after each rule that can come before, and that on entering the start value of A
pub record SizesReadAreWorkedOut : Type 0 where
  pub entering : sizes_read (paying_over no_time no_size 1) by_A ≡ key 0 1 ∷ []
  pub round : sizes_read (paying_over no_time no_size 2) by_B ≡ key 1 2 ∷ key 2 2 ∷ []

-- a time of 0 is the constant; no time isn't, nor is an empty sum, whose value is 0
pub record ZeroTimesAreWorkedOut : Type 0 where
  pub zero : is_zero_time (Some (Constant 0)) ≡ true
  pub none : is_zero_time None ≡ false
  pub one : is_zero_time (Some (Constant 1)) ≡ false
  pub sum : is_zero_time (Some (SumOf NoParts)) ≡ false

-- a missing size is reported before the missing time, and the first one by rules; then the time. The question of a
-- limit is the cost, whatever the linear program was for; and a rule whose time is 0 costs nothing, though the cost of
-- a step isn't known
pub record ReasonsAreWorkedOut : Type 0 where
  pub no_bounds : StepTo (paying_over no_time no_size 2) (up_to by_B) (NotBounded (SizeMissing (key 1 2)))
  pub not_untimed : ¬ (StepTo (paying_over no_time no_size 2) (up_to by_B) (NotBounded (SizeUntimed 2)))
  pub not_the_second : ¬ (StepTo (paying_over no_time no_size 2) (up_to by_B) (NotBounded (SizeMissing (key 2 2))))
  pub lacks_time : StepTo (paying_over no_time own_size 2) (up_to by_B) (NotBounded (SizeUntimed 2))
  pub lacks_size : StepTo (paying_over once no_size 2) (up_to by_B) (NotBounded (SizeMissing (key 1 2)))
  pub limit : (x : LimitHit) → StepTo (paying_over once own_size 2) (HasHitLimit x)
      (NotBounded (SizeHitLimit (record { question = questions.Cost 2; cause = x.cause })))
  pub not_of_a_place : (x : LimitHit) → x.question ≡ questions.Local 2 1
      → ¬ (StepTo (paying_over once own_size 2) (HasHitLimit x) (NotBounded (SizeHitLimit x)))
  pub never : RunsTo (paying_over once no_size 2) (λ step. ⊥) true (BoundedBy NeverCost)
  pub not_never : ¬ (RunsTo (paying_over once no_size 2) (λ step. step ≡ up_to by_B) false (BoundedBy NeverCost))

-- with a time of 1 and the sizes of the start arguments the cost of entering is |A|, and that of a round |B|; entering
-- isn't charged |B|
pub record BoundsAreWorkedOut : Type 0 where
  pub entering : StepTo (paying_over once own_size 1) (up_to by_A) (BoundedBy (SideBoundCost by_A))
  pub entering_costs : cost_fact (setting_of paying) (known_as once own_size) (cost_node 1 (SideBoundCost by_A))
      ≡ Cost 1 (Input 0)
  pub round_costs : cost_fact (setting_of paying) (known_as once own_size) (cost_node 2 (SideBoundCost by_B))
      ≡ Cost 2 (Input 1)
  pub not_the_other : ¬ (cost_fact (setting_of paying) (known_as once own_size) (cost_node 1 (SideBoundCost by_A))
      ≡ Cost 1 (Input 1))
  pub empty_costs : cost_fact (setting_of paying) (known_as once own_size) (cost_node 1 (EmptyCost (0 ∷ [])))
      ≡ Cost 1 (Constant 0)
  pub never_costs : cost_fact (setting_of paying) (known_as no_time own_size) (cost_node 2 NeverCost)
      ≡ Cost 2 (Constant 0)

-- the number of each bound's lemma: the time of rule 1 is stated by lemma 1, its sizes by 2 and 3, and those of rule 2
-- by 4, which also states its time; the virtual entry has number 0
abbrev pub numbers : ℕ → ℕ → ℕ
numbers zero i = 0
numbers (suc zero) i = suc i
numbers (suc (suc t)) i = 4

-- a lemma cites the virtual entry first, if it needs a start value; then the lemma of the time, and then those of the
-- sizes, none twice
pub record LemmasAreWorkedOut : Type 0 where
  pub premises : cost_premises (setting_of paying) 2 (SideBoundCost by_B) ≡ key 2 0 ∷ key 1 2 ∷ key 2 2 ∷ []
  pub entering : cost_lemma (setting_of paying) numbers (cost_node 1 (SideBoundCost by_A))
      ≡ CostBound (cost_node 1 (SideBoundCost by_A)) (AndProof Start (AndProof (Cite 1) NoProof))
  pub round : cost_lemma (setting_of paying) numbers (cost_node 2 (SideBoundCost by_B))
      ≡ CostBound (cost_node 2 (SideBoundCost by_B)) (AndProof (Cite 4) (AndProof (Cite 3) NoProof))
  pub empty : cost_lemma (setting_of paying) numbers (cost_node 1 (EmptyCost (0 ∷ [])))
      ≡ CostBound (cost_node 1 (EmptyCost (0 ∷ []))) NoProof
  pub never : cost_lemma (setting_of paying) numbers (cost_node 2 NeverCost)
      ≡ CostBound (cost_node 2 NeverCost) (AndProof (Cite 4) NoProof)
  pub not_the_time_alone : ¬ (cost_lemma (setting_of paying) numbers (cost_node 2 (SideBoundCost by_B))
      ≡ CostBound (cost_node 2 (SideBoundCost by_B)) (AndProof (Cite 4) NoProof))

-- all worked values of costs
pub record CostsAreWorkedOut : Type 0 where
  pub sizes : SizesReadAreWorkedOut
  pub zero : ZeroTimesAreWorkedOut
  pub reasons : ReasonsAreWorkedOut
  pub bounds : BoundsAreWorkedOut
  pub lemmas : LemmasAreWorkedOut
