-- The properties of a member of a loop: its rule is one of the graph, and the numbers of its side bounds are within
-- their limits.
use Rattle.std.proofs.Common.{◌≡◌, ℕ, zero, suc, ◌<◌, ◌≤◌, List, length, Some, None, ap, ◌∙◌, arith}
use Rattle.std.proofs.lemmas.List.{length-map}
use Rattle.std.proofs.lemmas.Option.{slice_get_within}
use Rattle.model.specs.Programs.{Program, rule_at}
use Rattle.its_graph.specs.declared.graph.Graph.{Graph}
use Rattle.its_graph.specs.Links.{ends_of}
use Rattle.guard_prep.specs.declared.rule_rows.RuleRows.{RuleRows}
use Rattle.cert_types.specs.cert_rules.Nodes as nodes
use Rattle.cert_types.specs.cert_rules.AcceptsSizes.{HasSideBoundShape, left_of}
use Rattle.cert_types.specs.cert_program.Setting.{setting_of}
use Rattle.cert_types.specs.declared.side_bound.SideBound.{SideBound}
use Rattle.cert_types.specs.declared.side_bound.SideBound.TheVariants.{Linear, Poly}
use Rattle.cert_types.specs.Views.{side_bound_of}
use Rattle.size_nodes.specs.Flows.{IsLimited}
use Rattle.size_nodes.specs.Members.{IsMemberOfProgram}
use Rattle.size_nodes.proofs.ProgramMembers.{few_left}

module _ (p : Program) (g : Graph) (prepared_rules : List RuleRows) where
  -- the rule of a member is one of the graph
  pub linked : (m : nodes.Member) → IsMemberOfProgram p g prepared_rules m → (0 < m.result_variable.rule) × (m.result_variable.rule ≤ length g.links.items)
  linked m h = go m.result_variable.rule h.shape.at.numbered
    where
      go : (t : ℕ) → rule_at p t ≡ Some h.shape.at.rule → (0 < t) × (t ≤ length g.links.items)
      go zero e = absurd (none e)
        where
          none : None ≡ Some h.shape.at.rule → ⊥
          none k = cc
      go (suc t) e =
          let l = slice_get_within p.rules t h.shape.at.rule e in
          let n = ap length h.graph.links ∙ length-map p.rules ends_of in
          (omega arith, omega (arith, l, n))

  -- the numbers of its side bounds are within their limits
  pub limited : (m : nodes.Member) → IsMemberOfProgram p g prepared_rules m → (side_bound : SideBound)
      → HasSideBoundShape (setting_of p) m.result_variable.rule (left_of p m.result_variable.rule) (side_bound_of side_bound) → IsLimited side_bound
  limited m h (Linear den coefs constant multipliers) shape =
      (shape.over, (omega (arith, shape.long, few_left p h.valid m.result_variable h.shape.at), shape.limit.coefs))
  limited m h Poly shape = tt
