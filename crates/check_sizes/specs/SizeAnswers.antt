-- The facts of a node on sizes, or why it states none, given the result on its members.
use Rattle.std.specs.Prelude.{◌≡◌, List, ⊤}
use Rattle.std.specs.Global.{Vec}
use Rattle.bound_expr.specs.Views.{bound_of}
use Rattle.cert_types.specs.AnswerViews.{reason_of}
use Rattle.cert_types.specs.Views.{facts_of, local_of, result_variable_of}
use Rattle.cert_types.specs.declared.fact.Fact.{Fact}
use Rattle.cert_types.specs.declared.proof.SpreadNode.{SpreadNode}
use Rattle.cert_types.specs.cert_rules.AcceptsSizes.{cycle_facts}
use Rattle.cert_types.specs.cert_rules.Nodes.{Member}
use Rattle.cert_types.specs.cert_rules.Reasons.{MissingTime, MissingSize, Nonlinear, Large}
use Rattle.size_nodes.specs.declared.sizing.Sizing.{Sizing}
use Rattle.size_nodes.specs.declared.sizing.Sizing.TheVariants as sizings
use Rattle.cert_context.specs.declared.refusal.NodeFault.{NodeFault}
use Rattle.cert_context.specs.declared.refusal.NodeFault.TheVariants as node

-- a node on the size of a place, without its premises, as a member
abbrev pub spread_member : SpreadNode → Member
spread_member n = record { result_variable = result_variable_of n.result_variable; local = local_of n.local }

-- the facts are that the size that was found is the size of each of these members
abbrev pub StatesSizes : List Member → Sizing → Vec Fact → Type 0
StatesSizes members (sizings.Found premises bound) facts = facts_of facts.items ≡ cycle_facts (bound_of bound) members
StatesSizes members (sizings.Missing result_variable) facts = ⊥
StatesSizes members (sizings.Nonlinear result_variable) facts = ⊥
StatesSizes members (sizings.Untimed rule) facts = ⊥
StatesSizes members (sizings.Large nodes) facts = ⊥

-- the reason is that for which no size was found; running out of memory is always permitted
abbrev pub IsFaultOf : Sizing → NodeFault → Type 0
IsFaultOf sizing node.Memory = ⊤
IsFaultOf (sizings.Found premises bound) (node.Refused reason) = ⊥
IsFaultOf (sizings.Missing result_variable) (node.Refused reason) = reason_of reason ≡ MissingSize result_variable.rule result_variable.place
IsFaultOf (sizings.Nonlinear result_variable) (node.Refused reason) = reason_of reason ≡ Nonlinear result_variable.rule result_variable.place
IsFaultOf (sizings.Untimed rule) (node.Refused reason) = reason_of reason ≡ MissingTime rule
IsFaultOf (sizings.Large nodes) (node.Refused reason) = reason_of reason ≡ Large nodes
