-- Faults of nodes and of lemmas, with their numbers.
use Rattle.std.specs.Prelude.{ℕ}
use Rattle.check_file.specs.declared.error.CheckError.{CheckError}
use Rattle.check_file.specs.declared.error.CheckError.TheVariants as error
use Rattle.cert_context.specs.declared.refusal.NodeFault.{NodeFault}
use Rattle.cert_context.specs.declared.refusal.NodeFault.TheVariants as node
use Rattle.check_file.specs.declared.refusal.TreeFault.{TreeFault}
use Rattle.check_file.specs.declared.refusal.TreeFault.TheVariants as tree

-- the fault of the node with a number
abbrev pub at_number : NodeFault → ℕ → TreeFault
at_number (node.Refused reason) n = tree.Refused n reason
at_number node.Memory n = tree.Memory

-- the fault of the lemma with a number
abbrev pub in_lemma : TreeFault → ℕ → CheckError
in_lemma (tree.Refused node reason) n = error.No n node reason
in_lemma tree.Memory n = error.Memory
