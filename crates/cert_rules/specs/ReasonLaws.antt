-- The computed reason is the first reason, first reasons agree with acceptance, and so lemmas are decided.
use Rattle.std.specs.Prelude.{◌≡◌, ◌↔◌, true, List, Some, None}
use Rattle.run_counting.specs.model.Facts.{Fact}
use Rattle.cert_rules.specs.Nodes.{Proof}
use Rattle.cert_rules.specs.Setting.{Setting}
use Rattle.cert_rules.specs.Acceptance.{AcceptsNode, AcceptsLemmas}
use Rattle.cert_rules.specs.Reasons.{Reason}
use Rattle.cert_rules.specs.Checks.{IsFirstReason}
use Rattle.cert_rules.specs.Deciding.{first_reason, accepts_lemmas}

-- the node has no first reason
pub record HasNoReason (s : Setting) (past : List (List Fact)) (proof : Proof) : Type 0 where
  pub none : (r : Reason) → ¬ (IsFirstReason s past proof r)

-- a node has no first reason exactly if it is accepted, and it has at most one
pub record FirstReasonsAreInLine : Type 0 where
  pub none : (s : Setting) (past : List (List Fact)) (proof : Proof)
      → AcceptsNode s past proof ↔ HasNoReason s past proof
  pub one : (s : Setting) (past : List (List Fact)) (proof : Proof) (q r : Reason)
      → IsFirstReason s past proof q → IsFirstReason s past proof r → q ≡ r

-- for every node, setting and earlier facts: the computed reason is the first reason, and none is computed exactly if
-- the node is accepted
pub record FirstReasonsAreDecided : Type 0 where
  pub some : (s : Setting) (past : List (List Fact)) (proof : Proof) (r : Reason)
      → (first_reason s past proof ≡ Some r) ↔ IsFirstReason s past proof r
  pub none : (s : Setting) (past : List (List Fact)) (proof : Proof)
      → (first_reason s past proof ≡ None) ↔ AcceptsNode s past proof

-- the computed test whether all lemmas of a list are accepted is right
pub record LemmasAreDecided : Type 0 where
  pub each : (s : Setting) (proofs : List Proof) → (accepts_lemmas s proofs ≡ true) ↔ AcceptsLemmas s proofs
