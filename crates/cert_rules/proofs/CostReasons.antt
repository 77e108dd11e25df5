-- The checks of a node on a cost pass exactly if it is accepted.
use Rattle.std.proofs.Common.{ℕ, suc, List, [], ◌∷◌}
use Rattle.std.specs.List.{AllByRecursion}
use Rattle.run_counting.specs.model.Paths.{pre}
use Rattle.cert_rules.specs.Nodes.{SideBound, CostBy, EmptyCost, NeverCost, SideBoundCost, CostNode}
use Rattle.cert_rules.specs.Known.{IsKnown, Table}
use Rattle.cert_rules.specs.Setting.{Setting, costs_of}
use Rattle.cert_rules.specs.ComposedSizes.{reads}
use Rattle.cert_rules.specs.AcceptsSizes.{Up, HasSideBoundShape, left_of}
use Rattle.cert_rules.specs.AcceptsCosts.{HasCostNumbers, cost_result_variable, AcceptsCostSideBound}
use Rattle.cert_rules.specs.AcceptsCosts.{CostSideBoundHasSizes, AcceptsCostBy, AcceptsCost}
use Rattle.cert_rules.specs.Reasons.{AllPass}
use Rattle.cert_rules.specs.Checks.{needed_at_cost, cost_checks_by, cost_checks}
use Rattle.cert_rules.proofs.CheckLists.{each_passes, passes_each, each-in, in-each}
use Rattle.cert_rules.proofs.CheckLists.{each-append, append-each, map-each, each-map, below-each, each-below}
use Rattle.cert_rules.proofs.FirstReasons.{HasSize}
use Rattle.cert_rules.proofs.SizeReasons.{reads-left}

module _ (s : Setting) (table : Table) where
  -- the side bound of a cost has its sizes after these rules exactly if those that it needs are known
  side_bound-known : (t : ℕ) (side_bound : SideBound) → HasSideBoundShape (costs_of s) t (left_of s.program t) side_bound → AcceptsCostSideBound s t side_bound
      → (es : List ℕ) → AllByRecursion (HasSize table) (needed_at_cost s t side_bound es)
      → AllByRecursion (CostSideBoundHasSizes s table t side_bound) es
  side_bound-known t side_bound shape ok [] h = tt
  side_bound-known t side_bound shape ok (e ∷ es) h =
      let k = append-each (HasSize table) _ (needed_at_cost s t side_bound es) h in (
        (λ j r.
            below-each (λ i. IsKnown (table.size e (suc i))) (reads (s.cost_poly t) side_bound) (left_of s.program t)
            (map-each (HasSize table) (λ i. record { rule = e; place = suc i }) _ k.0)
            j (reads-left (costs_of s) (cost_result_variable t) Up side_bound shape ok j r) r),
        side_bound-known t side_bound shape ok es k.1,
      )

  known-side_bound : (t : ℕ) (side_bound : SideBound) (es : List ℕ) → AllByRecursion (CostSideBoundHasSizes s table t side_bound) es
      → AllByRecursion (HasSize table) (needed_at_cost s t side_bound es)
  known-side_bound t side_bound [] h = tt
  known-side_bound t side_bound (e ∷ es) h =
      each-append (HasSize table) _ (needed_at_cost s t side_bound es)
      (each-map (HasSize table) (λ i. record { rule = e; place = suc i }) _
      (each-below (λ i. IsKnown (table.size e (suc i))) (reads (s.cost_poly t) side_bound) (left_of s.program t)
      (λ j r. h.0 j r)))
      (known-side_bound t side_bound es h.1)

  -- if a cost is shown, its checks pass
  by-passes : (t : ℕ) (by : CostBy) → AcceptsCostBy s table t by → AllPass (cost_checks_by s table t by)
  by-passes t (EmptyCost ms) h = (h, tt)
  by-passes t NeverCost h = (h.time, (h.zero, tt))
  by-passes t (SideBoundCost side_bound) h = (
    h.up,
    (
      h.time,
      passes_each _ _ (needed_at_cost s t side_bound (pre s.program t))
          (known-side_bound t side_bound (pre s.program t) (in-each (CostSideBoundHasSizes s table t side_bound) (pre s.program t) h.sizes))
          (h.small, tt),
    ),
  )

  -- if its checks pass, a cost is shown
  passes-by : (t : ℕ) (by : CostBy) → HasCostNumbers s t by → AllPass (cost_checks_by s table t by)
      → AcceptsCostBy s table t by
  passes-by t (EmptyCost ms) shape h = h.0
  passes-by t NeverCost shape h = record { time = h.0; zero = h.1.0 }
  passes-by t (SideBoundCost side_bound) shape h =
      let sizes = each_passes _ _ (needed_at_cost s t side_bound (pre s.program t)) h.1.1 in record {
        up = h.0;
        time = h.1.0;
        sizes = each-in (CostSideBoundHasSizes s table t side_bound) (pre s.program t)
            (side_bound-known t side_bound shape h.0 (pre s.program t) sizes.0);
        small = sizes.1.0;
      }

  -- all checks of an accepted node on a cost pass
  pub cost-passes : (node : CostNode) → AcceptsCost s table node → AllPass (cost_checks s table node)
  cost-passes node h = (h.shape, by-passes node.rule node.by h.by)

  -- a node on a cost whose checks all pass is accepted
  pub passes-cost : (node : CostNode) → AllPass (cost_checks s table node) → AcceptsCost s table node
  passes-cost node h = record { shape = h.0; by = passes-by node.rule node.by h.0.numbers h.1 }
