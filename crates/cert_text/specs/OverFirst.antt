-- Proofs whose bounds are over the first n start arguments alone.
use Rattle.std.specs.Prelude.{ℕ, ⊤}
use Rattle.cert_types.specs.bound_expr.Numbers.{ReadsBelow}
use Rattle.cert_types.specs.cert_rules.Nodes.{Proof, Cite, Start, Empty, Unreached, Never, Rank, Spread, Cycle}
use Rattle.cert_types.specs.cert_rules.Nodes.{Weaken, CostBound, Proofs, NoProof, AndProof}

abbrev mutual
  -- each bound that a proof writes reads the first n inputs alone
  pub IsOverFirst : ℕ → Proof → Type 0
  IsOverFirst n (Cite lemma) = ⊤
  IsOverFirst n Start = ⊤
  IsOverFirst n (Empty rule multipliers) = ⊤
  IsOverFirst n (Unreached rule uses) = AreOverFirst n uses
  IsOverFirst n (Never child) = IsOverFirst n child
  IsOverFirst n (Rank node uses) = AreOverFirst n uses
  IsOverFirst n (Spread member uses) = AreOverFirst n uses
  IsOverFirst n (Cycle members uses) = AreOverFirst n uses
  IsOverFirst n (Weaken child b) = IsOverFirst n child × ReadsBelow n b
  IsOverFirst n (CostBound node uses) = AreOverFirst n uses

  -- each of these nodes is over the first n start arguments
  pub AreOverFirst : ℕ → Proofs → Type 0
  AreOverFirst n NoProof = ⊤
  AreOverFirst n (AndProof proof uses) = IsOverFirst n proof × AreOverFirst n uses
