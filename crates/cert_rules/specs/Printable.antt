-- When the facts that lemmas state can be printed.
use Rattle.std.specs.Prelude.{◌≡◌, ℕ, ◌≤◌, List, All, nat_abs, Some, ⊤}
use Rattle.std.specs.List.{AllByRecursion}
use Rattle.run_counting.specs.model.Programs.{arity_of}
use Rattle.run_counting.specs.model.Bounds.{Bound}
use Rattle.run_counting.specs.model.Facts.{Fact}
use Rattle.run_counting.specs.model.Polynomials.{Polynomial}
use Rattle.bound_expr.specs.Limits.{constant_limit}
use Rattle.bound_expr.specs.Numbers.{HasTidyNumbers, ReadsBelow}
use Rattle.bound_expr.specs.Tidy.{IsTidy}
use Rattle.cert_rules.specs.Nodes.{Proof, Weaken}
use Rattle.cert_rules.specs.Numbering.{nodes_of}
use Rattle.cert_rules.specs.Setting.{Setting}
use Rattle.cert_rules.specs.Acceptance.{AcceptsLemmas, facts_of_lemmas}
use Rattle.cert_rules.specs.Laws.{bound_in}

-- each coefficient of a polynomial is at most 2^127 - 1 in absolute value
abbrev pub HasSmallCoefficients : Polynomial → Type 0
HasSmallCoefficients q = AllByRecursion (λ m. nat_abs m.coef ≤ constant_limit) q

-- a setting makes bounds that can be printed: its polynomials have small coefficients; a rewritten bound is tidy if the
-- bases and constants of the bound before were tidy, and reads no further input
pub record IsTidying (s : Setting) : Type 0 where
  pub updates : (t i : ℕ) (q : Polynomial) → s.poly t i ≡ Some q → HasSmallCoefficients q
  pub costs : (t : ℕ) (q : Polynomial) → s.cost_poly t ≡ Some q → HasSmallCoefficients q
  pub tidy : (b : Bound) → HasTidyNumbers b → IsTidy (s.rewrite b)
  pub reads : (b : Bound) (n : ℕ) → ReadsBelow n b → ReadsBelow n (s.rewrite b)

-- the bound of a fact has tidy numbers, and its inputs are among the first n
abbrev pub HasTidyFactNumbers : ℕ → Fact → Type 0
HasTidyFactNumbers n f = HasTidyNumbers (bound_in f) × ReadsBelow n (bound_in f)

-- the bound of a fact is tidy, and its inputs are among the first n
abbrev pub IsPrintableFact : ℕ → Fact → Type 0
IsPrintableFact n f = IsTidy (bound_in f) × ReadsBelow n (bound_in f)

-- if the node writes a bound, that bound is tidy
abbrev pub WritesTidy : Proof → Type 0
WritesTidy (Weaken child b) = IsTidy b
WritesTidy _ = ⊤

-- each bound that a lemma writes is tidy
abbrev pub WritesTidyBounds : Proof → Type 0
WritesTidyBounds proof = All WritesTidy (nodes_of proof)

-- the facts of accepted lemmas have bounds with tidy numbers over the start arguments alone; and if each bound that the
-- lemmas write is tidy, so is each bound of their facts
pub record AcceptedFactsArePrintable : Type 0 where
  pub numbers : (s : Setting) → IsTidying s → (proofs : List Proof) → AcceptsLemmas s proofs
      → All (All (HasTidyFactNumbers (arity_of s.program s.program.start))) (facts_of_lemmas s proofs)
  pub tidy : (s : Setting) → IsTidying s → (proofs : List Proof) → AcceptsLemmas s proofs → All WritesTidyBounds proofs
      → All (All (IsPrintableFact (arity_of s.program s.program.start))) (facts_of_lemmas s proofs)
