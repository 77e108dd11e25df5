-- The nodes of a lemma in the order in which they are numbered.
use Rattle.std.specs.Prelude.{List, [], ◌∷◌, ◌++◌}
use Rattle.cert_rules.specs.Nodes.{Proof, Cite, Start, Empty, Unreached, Never, Rank, Spread, Cycle, Weaken, CostBound}
use Rattle.cert_rules.specs.Nodes.{Proofs, NoProof, AndProof}

-- the nodes of a derivation: each after its premises, and premises in order; and the nodes of a list of derivations
abbrev mutual
  pub nodes_of : Proof → List Proof
  nodes_of (Cite n) = Cite n ∷ []
  nodes_of Start = Start ∷ []
  nodes_of (Empty t multipliers) = Empty t multipliers ∷ []
  nodes_of (Unreached t uses) = nodes_of_all uses ++ Unreached t uses ∷ []
  nodes_of (Never child) = nodes_of child ++ Never child ∷ []
  nodes_of (Rank node uses) = nodes_of_all uses ++ Rank node uses ∷ []
  nodes_of (Spread m uses) = nodes_of_all uses ++ Spread m uses ∷ []
  nodes_of (Cycle members uses) = nodes_of_all uses ++ Cycle members uses ∷ []
  nodes_of (Weaken child b) = nodes_of child ++ Weaken child b ∷ []
  nodes_of (CostBound node uses) = nodes_of_all uses ++ CostBound node uses ∷ []

  pub nodes_of_all : Proofs → List Proof
  nodes_of_all NoProof = []
  nodes_of_all (AndProof proof uses) = nodes_of proof ++ nodes_of_all uses
