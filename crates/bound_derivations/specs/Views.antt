-- Derivations as plain data.
use Rattle.std.specs.Prelude.{List, map}
use Rattle.bound_expr.specs.Views.{bound_of}
use Rattle.bound_fixpoint.specs.Derivations as plain
use Rattle.cert_types.specs.Views.{result_variable_of, member_of, rank_of}
use Rattle.bound_derivations.specs.declared.derivation.Node.{Node}
use Rattle.bound_derivations.specs.declared.derivation.Node.TheVariants as nodes
use Rattle.bound_derivations.specs.declared.derivation.Derivation.{Derivation}

-- a node as plain data
abbrev pub node_of : Node → plain.Node
node_of (nodes.Empty n) = plain.EmptyBy n.rule n.multipliers.items
node_of (nodes.Unreached t) = plain.UnreachedBy t
node_of (nodes.Never t) = plain.NeverBy t
node_of (nodes.Rank n) = plain.RankBy (rank_of n)
node_of (nodes.Spread m) = plain.SpreadBy (member_of m)
node_of (nodes.Cycle members) = plain.CycleBy (map member_of members.items)

-- a derivation as plain data
abbrev pub derivation_of : Derivation → plain.Derivation
derivation_of f = record {
  keys = map result_variable_of f.keys.items;
  node = node_of f.node;
  premises = map result_variable_of f.premises.items;
  bound = bound_of f.bound;
}

-- derivations as plain data
abbrev pub derivations_of : List Derivation → List plain.Derivation
derivations_of fs = map derivation_of fs
