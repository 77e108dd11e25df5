-- Facts, derivations and their parts as plain data, which contracts speak of.
use Rattle.std.specs.Prelude.{List, [], ◌∷◌, map}
use Rattle.poly_terms.specs.model.Facts as facts
use Rattle.bound_expr.specs.Views.{bound_of}
use Rattle.cert_program.specs.cert_rules.Nodes as nodes
use Rattle.cert_program.specs.cert_rules.Nodes.{NoProof, AndProof}
use Rattle.cert_types.specs.declared.fact.Fact.{Fact}
use Rattle.cert_types.specs.declared.fact.Fact.TheVariants.{Time, Size, Cost}
use Rattle.cert_types.specs.declared.side_bound.ResultVariable.{ResultVariable}
use Rattle.cert_types.specs.declared.side_bound.SideBound.{SideBound}
use Rattle.cert_types.specs.declared.side_bound.SideBound.TheVariants as side_bounds
use Rattle.cert_types.specs.declared.side_bound.LocalBound.{LocalBound}
use Rattle.cert_types.specs.declared.side_bound.Member.{Member}
use Rattle.cert_types.specs.declared.rank.Form.{Form}
use Rattle.cert_types.specs.declared.rank.RankNode.{RankNode}
use Rattle.cert_types.specs.declared.proof.Proof.{Proof}
use Rattle.cert_types.specs.declared.proof.EmptyNode.{EmptyNode}
use Rattle.cert_types.specs.declared.proof.CostBy.{CostBy}
use Rattle.cert_types.specs.declared.proof.CostBy.TheVariants as costs
use Rattle.cert_types.specs.declared.proof.Proof.TheOpen.{Proof-F, UnreachedNode-F, SpreadNode-F, CycleNode-F}
use Rattle.cert_types.specs.declared.proof.Proof.TheOpen.{RankNode-F, CostNode-F}
use Rattle.cert_types.specs.declared.proof.Proof.TheFolds.{fold-Proof}

-- a fact as plain data
abbrev pub fact_of : Fact → facts.Fact
fact_of (Time t b) = facts.Time t (bound_of b)
fact_of (Size t i b) = facts.Size t i (bound_of b)
fact_of (Cost t b) = facts.Cost t (bound_of b)

-- facts as plain data
abbrev pub facts_of : List Fact → List facts.Fact
facts_of fs = map fact_of fs

-- a result variable as plain data
abbrev pub result_variable_of : ResultVariable → nodes.ResultVariable
result_variable_of s = record { rule = s.rule; place = s.place }

-- a side bound as plain data
abbrev pub side_bound_of : SideBound → nodes.SideBound
side_bound_of (side_bounds.Linear den coefs constant multipliers) =
    nodes.Linear den (record { coefs = coefs.items; constant = constant }) multipliers.items
side_bound_of side_bounds.Poly = nodes.Poly

-- a local bound as plain data
abbrev pub local_of : LocalBound → nodes.LocalBound
local_of l = record { up = side_bound_of l.up; low = side_bound_of l.low }

-- a member as plain data
abbrev pub member_of : Member → nodes.Member
member_of m = record { result_variable = result_variable_of m.result_variable; local = local_of m.local }

-- the part of a ranking function at a symbol as plain data
abbrev pub form_of : Form → nodes.SymbolForm
form_of f = record { symbol = f.symbol; form = record { coefs = f.coefs.items; constant = f.constant } }

-- a ranking node, without its premises, as plain data
abbrev pub rank_of : RankNode → nodes.RankNode
rank_of n = record {
  rule = n.rule;
  set = n.set.items;
  den = n.den;
  forms = map form_of n.forms.items;
  moves = map (λ m. m.items) n.moves.items;
  floor = n.floor.items;
}

-- a list of derivations as the premises of one
abbrev pub uses_of : List nodes.Proof → nodes.Proofs
uses_of [] = NoProof
uses_of (p ∷ ps) = AndProof p (uses_of ps)

-- the nodes with premises of their own, as plain data
abbrev pub empty_of : EmptyNode → nodes.Proof
empty_of n = nodes.Empty n.rule n.multipliers.items

-- how a cost is shown, as plain data
abbrev pub cost_by_of : CostBy → nodes.CostBy
cost_by_of (costs.Empty multipliers) = nodes.EmptyCost multipliers.items
cost_by_of costs.Never = nodes.NeverCost
cost_by_of (costs.SideBound side_bound) = nodes.SideBoundCost (side_bound_of side_bound)

-- one layer of each type, with the plain derivation of each child in its place
abbrev pub proof_step : Proof-F nodes.Proof nodes.Proof nodes.Proof nodes.Proof nodes.Proof nodes.Proof → nodes.Proof
proof_step (Proof-F.Cite n) = nodes.Cite n
proof_step Proof-F.Start = nodes.Start
proof_step (Proof-F.Empty n) = empty_of n.value
proof_step (Proof-F.Unreached n) = n.value
proof_step (Proof-F.Never child) = nodes.Never child.value
proof_step (Proof-F.Rank n) = n.value
proof_step (Proof-F.Spread n) = n.value
proof_step (Proof-F.Cycle n) = n.value
proof_step (Proof-F.Weaken child b) = nodes.Weaken child.value (bound_of b)
proof_step (Proof-F.Cost n) = n.value

abbrev pub unreached_step : UnreachedNode-F nodes.Proof nodes.Proof nodes.Proof nodes.Proof nodes.Proof nodes.Proof
    → nodes.Proof
unreached_step n = nodes.Unreached n.rule (uses_of n.uses.items)

abbrev pub spread_step : SpreadNode-F nodes.Proof nodes.Proof nodes.Proof nodes.Proof nodes.Proof nodes.Proof
    → nodes.Proof
spread_step n = nodes.Spread (record { result_variable = result_variable_of n.result_variable; local = local_of n.local }) (uses_of n.uses.items)

abbrev pub cycle_step : CycleNode-F nodes.Proof nodes.Proof nodes.Proof nodes.Proof nodes.Proof nodes.Proof
    → nodes.Proof
cycle_step n = nodes.Cycle (map member_of n.members.items) (uses_of n.uses.items)

abbrev pub rank_step : RankNode-F nodes.Proof nodes.Proof nodes.Proof nodes.Proof nodes.Proof nodes.Proof → nodes.Proof
rank_step n = nodes.Rank (record {
  rule = n.rule;
  set = n.set.items;
  den = n.den;
  forms = map form_of n.forms.items;
  moves = map (λ m. m.items) n.moves.items;
  floor = n.floor.items;
}) (uses_of n.uses.items)

abbrev pub cost_step : CostNode-F nodes.Proof nodes.Proof nodes.Proof nodes.Proof nodes.Proof nodes.Proof → nodes.Proof
cost_step n = nodes.CostBound (record { rule = n.rule; by = cost_by_of n.by }) (uses_of n.uses.items)

-- a derivation as plain data
abbrev pub proof_of : Proof → nodes.Proof
proof_of = fold-Proof nodes.Proof nodes.Proof nodes.Proof nodes.Proof nodes.Proof nodes.Proof proof_step cost_step
    cycle_step spread_step unreached_step rank_step
