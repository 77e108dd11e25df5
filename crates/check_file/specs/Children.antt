-- The premises of a node that are nodes inside it, as a list.
use Rattle.std.specs.Prelude.{List, [], ◌∷◌, ◌++◌}
use Rattle.cert_types.specs.cert_rules.Nodes.{Proof, Cite, Start, Empty, Unreached, Never, Rank, Spread, Cycle, Weaken}
use Rattle.cert_types.specs.cert_rules.Nodes.{CostBound, Proofs, NoProof, AndProof}
use Rattle.cert_types.specs.cert_rules.Numbering.{nodes_of}

-- premises as a list
abbrev pub list_of : Proofs → List Proof
list_of NoProof = []
list_of (AndProof proof uses) = proof ∷ list_of uses

-- the nodes inside a node: its premises
abbrev pub children_of : Proof → List Proof
children_of (Cite n) = []
children_of Start = []
children_of (Empty t multipliers) = []
children_of (Unreached t uses) = list_of uses
children_of (Never child) = child ∷ []
children_of (Rank node uses) = list_of uses
children_of (Spread m uses) = list_of uses
children_of (Cycle members uses) = list_of uses
children_of (Weaken child b) = child ∷ []
children_of (CostBound node uses) = list_of uses

-- the nodes of these derivations, one after the other
abbrev pub nodes_in : List Proof → List Proof
nodes_in [] = []
nodes_in (proof ∷ proofs) = nodes_of proof ++ nodes_in proofs
