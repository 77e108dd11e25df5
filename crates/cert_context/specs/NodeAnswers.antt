-- The answer on a node: the facts that it states, if all its checks pass, or the first check that fails.
use Rattle.std.specs.Prelude.{◌≡◌, List, ⊤}
use Rattle.std.specs.Global.{Vec}
use Rattle.model.specs.Facts as plain
use Rattle.cert_types.specs.AnswerViews.{reason_of}
use Rattle.cert_types.specs.Views.{facts_of}
use Rattle.cert_types.specs.declared.fact.Fact.{Fact}
use Rattle.cert_types.specs.cert_rules.Reasons.{Check, AllPass, IsFirstAmong}
use Rattle.cert_context.specs.declared.refusal.NodeFault.{NodeFault}
use Rattle.cert_context.specs.declared.refusal.NodeFault.TheVariants as node

-- the refusal is the reason of the first check that fails; running out of memory is always permitted
abbrev pub Refuses : List Check → NodeFault → Type 0
Refuses checks (node.Refused reason) = IsFirstAmong checks (reason_of reason)
Refuses checks node.Memory = ⊤

-- all checks pass, and these facts are stated
pub record States (checks : List Check) (facts : List plain.Fact) (stated : Vec Fact) : Type 0 where
  pub passed : AllPass checks
  pub result_is : facts_of stated.items ≡ facts
