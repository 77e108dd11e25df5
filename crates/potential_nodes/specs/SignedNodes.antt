-- Lemmas: nodes of all kinds, each with the bound that it states.
use Rattle.signed_bounds.specs.Bounds.{Signed}
use Rattle.potential_nodes.specs.Falls.{FallNode}
use Rattle.potential_nodes.specs.Peaks.{PeakNode}
use Rattle.potential_nodes.specs.Combinations.{Combination}
use Rattle.potential_nodes.specs.PlainPeaks.{RowNode, SizedNode}
use Rattle.potential_nodes.specs.PhaseNodes.{PhasesNode}

-- the kinds of nodes
pub data SignedNode : Type 0 where
  Fall : FallNode → SignedNode
  Peak : PeakNode → SignedNode
  Row : RowNode → SignedNode
  Combined : Combination → SignedNode
  Sized : SizedNode → SignedNode
  InPhases : PhasesNode → SignedNode

-- a lemma: a node, and the bound that it states
pub record SignedLemma : Type 0 where
  pub node : SignedNode
  pub bound : Signed
