-- Derivation trees as plain data: each node names what it states, with the numbers that certify it and its premises.
use Rattle.std.specs.Prelude.{ℕ, List}
use Rattle.run_counting.specs.model.Bounds.{Bound}
use Rattle.rule_forms.specs.linear_forms.Forms.{Form}

-- a result variable: a rule, and a place of its target, numbered from 1
pub record ResultVariable : Type 0 where
  pub rule : ℕ
  pub place : ℕ

-- one side of a bound on a new value: an affine form in the left arguments, as a denominator, a form over the left
-- places and the multipliers that show it; or the update's own polynomial with absolute coefficients
pub data SideBound : Type 0 where
  Linear : ℕ → Form → List ℕ → SideBound
  Poly : SideBound

-- a local bound: the upper side bound is never below the new value, the lower one never below its negation
pub record LocalBound : Type 0 where
  pub up : SideBound
  pub low : SideBound

-- a result variable with its local bound
pub record Member : Type 0 where
  pub result_variable : ResultVariable
  pub local : LocalBound

-- the part of a ranking function at a symbol
pub record SymbolForm : Type 0 where
  pub symbol : ℕ
  pub form : Form

-- a ranking node without its premises: the rule whose time it bounds, the set of rules, the function as one form for
-- each symbol over one denominator, the multipliers of each rule of the set, and those of the floor
pub record RankNode : Type 0 where
  pub rule : ℕ
  pub set : List ℕ
  pub den : ℕ
  pub forms : List SymbolForm
  pub moves : List (List ℕ)
  pub floor : List ℕ

-- how the cost of the steps by a rule is shown: the cost rows, each times its multiplier, add up to -1; the rule never
-- runs; or a side bound over the cost, in the rule's left arguments
pub data CostBy : Type 0 where
  EmptyCost : List ℕ → CostBy
  NeverCost : CostBy
  SideBoundCost : SideBound → CostBy

-- a node on the cost of a rule, without its premises
pub record CostNode : Type 0 where
  pub rule : ℕ
  pub by : CostBy

-- a derivation: a node with the derivations of its premises; and a list of derivations
mutual
  pub data Proof : Type 0 where
    Cite : ℕ → Proof
    Start : Proof
    Empty : ℕ → List ℕ → Proof
    Unreached : ℕ → Proofs → Proof
    Never : Proof → Proof
    Rank : RankNode → Proofs → Proof
    Spread : Member → Proofs → Proof
    Cycle : List Member → Proofs → Proof
    Weaken : Proof → Bound → Proof
    CostBound : CostNode → Proofs → Proof

  pub data Proofs : Type 0 where
    NoProof : Proofs
    AndProof : Proof → Proofs → Proofs
