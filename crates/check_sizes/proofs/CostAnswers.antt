-- The answer on a node on a cost: the fact that it states, or its first check that fails.
use Rattle.std.proofs.Common.{◌≡◌, inl, inr, ℕ, true, false, List, [], ◌∷◌, Option, Some, None, refl, sym, ap, ◌∙◌, Vec}
use Rattle.std.specs.List.{AllByRecursion}
use Rattle.std.specs.declared.alloc.Global.{Global}
use Rattle.bound_table.specs.RewriteResult.{Fits, TooLarge, rewritten_within}
use Rattle.model.specs.Bounds.{Bound, Constant}
use Rattle.model.specs.Facts.{Cost}
use Rattle.model.specs.Paths.{pre}
use Rattle.model.specs.Programs.{Program}
use Rattle.poly_terms.specs.linear_forms.Certificates.{Implies, minus_one}
use Rattle.gap_checks.specs.GapTests.{IsFirstFailing}
use Rattle.cert_types.specs.Views.{facts_of}
use Rattle.cert_types.specs.declared.fact.Fact.{Fact}
use Rattle.cert_types.specs.cert_rules.AcceptsCosts.{AcceptsCostSideBound, HasCostShape, side_bound_cost, node_cost}
use Rattle.cert_types.specs.cert_rules.Checks.{check_size, cost_checks, cost_checks_by, needed_at_cost}
use Rattle.cert_types.specs.cert_rules.Known.{IsKnown, Table, is_zero_bound, known}
use Rattle.cert_types.specs.cert_rules.Nodes.{SideBound, SideBoundCost, CostNode, EmptyCost, NeverCost, ResultVariable}
use Rattle.cert_types.specs.cert_rules.Reasons.{SideBoundUp, IsFirstAmong, Large, MissingSize, MissingTime, NotEmpty, NotZero, Shape}
use Rattle.cert_types.specs.cert_rules.Setting.{Setting}
use Rattle.cert_types.specs.cert_program.Setting.{setting_of}
use Rattle.gap_checks.proofs.GapFaults.{first-of-each, behind-each}
use Rattle.cert_types.proofs.cert_rules.CheckLists.{passes_each}
use Rattle.cert_types.proofs.cert_program.Small.{small-bounds}
use Rattle.cert_context.specs.NodeAnswers.{Refuses, States}
use Rattle.cert_context.specs.declared.refusal.NodeFault.{NodeFault}
use Rattle.cert_context.specs.declared.refusal.NodeFault.TheVariants as fault
use Rattle.cert_context.specs.Needed.{HasSize}
use Rattle.check_sizes.specs.CostAnswers.{ComposesCost}

module _ (s : Setting) (table : Table) (t : ℕ) where
  -- if the cost rows have no point, the cost 0 is stated
  pub free : (ms : List ℕ) → Implies (s.cost_rows t) ms minus_one → ComposesCost s table t (EmptyCost ms) (Constant 0)
  free ms h = record { passed = (h, tt); result_is = refl }

  pub not-free : (ms : List ℕ) → ¬ (Implies (s.cost_rows t) ms minus_one)
      → IsFirstAmong (cost_checks_by s table t (EmptyCost ms)) NotEmpty
  not-free ms n = inl (n, refl)

  -- if the rule is known never to run, the cost 0 is stated
  pub unused : (b : Bound) → Some b ≡ table.time t → is_zero_bound b ≡ true → ComposesCost s table t NeverCost (Constant 0)
  unused b e z = record { passed = ((b, sym e), (ap (λ (o : Option Bound). is_zero_bound (known o)) (sym e) ∙ z, tt)); result_is = refl }

  pub used : (b : Bound) → Some b ≡ table.time t → is_zero_bound b ≡ false
      → IsFirstAmong (cost_checks_by s table t NeverCost) NotZero
  used b e z = inr ((b, sym e), inl ((λ h. differ (sym z ∙ (ap (λ (o : Option Bound). is_zero_bound (known o)) e ∙ h))), refl))
    where
      differ : false ≡ true → ⊥
      differ h = cc

  -- an absent time isn't known
  pub no-time : None ≡ table.time t → ¬ (IsKnown (table.time t))
  no-time e k = differ k.0 (e ∙ k.1)
    where
      differ : (b : Bound) → None ≡ Some b → ⊥
      differ b h = cc

  pub untimed : None ≡ table.time t → IsFirstAmong (cost_checks_by s table t NeverCost) (MissingTime t)
  untimed e = inl (no-time e, refl)

module _ (p : Program) (table : Table) (t : ℕ) (side_bound : SideBound) where
  abbrev result_variables : List ResultVariable
  result_variables = needed_at_cost (setting_of p) t side_bound (pre p t)

  -- the first reason of a cost by a side bound: it isn't accepted; its rule has no time; a place that it reads has no
  -- size; or the composed bound is too large
  pub no-side_bound : ¬ (AcceptsCostSideBound (setting_of p) t side_bound) → IsFirstAmong (cost_checks_by (setting_of p) table t (SideBoundCost side_bound)) (SideBoundUp t 0)
  no-side_bound n = inl (n, refl)

  module _ (up : AcceptsCostSideBound (setting_of p) t side_bound) where
    pub side_bound-untimed : ¬ (IsKnown (table.time t)) → IsFirstAmong (cost_checks_by (setting_of p) table t (SideBoundCost side_bound)) (MissingTime t)
    side_bound-untimed n = inr (up, inl (n, refl))

    module _ (time : IsKnown (table.time t)) where
      pub side_bound-missing : (result_variable : ResultVariable) → IsFirstFailing (HasSize table) result_variables result_variable
          → IsFirstAmong (cost_checks_by (setting_of p) table t (SideBoundCost side_bound)) (MissingSize result_variable.rule result_variable.place)
      side_bound-missing result_variable k = inr (up, inr (time, first-of-each (check_size table) _ result_variables result_variable k))

      module _ (sizes : AllByRecursion (HasSize table) result_variables) where
        pub side_bound-large : (n : ℕ) → TooLarge n ≡ rewritten_within (side_bound_cost (setting_of p) table t side_bound)
            → IsFirstAmong (cost_checks_by (setting_of p) table t (SideBoundCost side_bound)) (Large n)
        side_bound-large n e =
            let w = (small-bounds.large (side_bound_cost (setting_of p) table t side_bound) n).0 (sym e) in
            inr (up, inr (time, behind-each (check_size table) _ result_variables _ sizes (inl (w.0, ap Large (sym w.1)))))

        -- if the composed cost is small, it is stated as it is rewritten
        pub side_bound-small : (b : Bound) → Fits b ≡ rewritten_within (side_bound_cost (setting_of p) table t side_bound)
            → ComposesCost (setting_of p) table t (SideBoundCost side_bound) b
        side_bound-small b e =
            let w = (small-bounds.fits (side_bound_cost (setting_of p) table t side_bound) b).0 (sym e) in
            record { passed = (up, (time, passes_each (check_size table) _ result_variables sizes (w.0, tt))); result_is = w.1 }

module _ (s : Setting) (table : Table) (n : CostNode) where
  -- if the shape isn't right, the reason is `Shape`
  pub cost-shape : ¬ (HasCostShape s n) → IsFirstAmong (cost_checks s table n) Shape
  cost-shape k = inl (k, refl)

  -- if the shape is right, the answer on how the cost is shown is the answer on the node
  pub cost-behind : HasCostShape s n → (facts : Vec Fact Global) (b : Bound) → ComposesCost s table n.rule n.by b
      → facts_of facts.items ≡ Cost n.rule b ∷ []
      → States (cost_checks s table n) (Cost n.rule (node_cost s table n) ∷ []) facts
  cost-behind h facts b k e = record { passed = (h, k.passed); result_is = e ∙ ap (λ (c : Bound). Cost n.rule c ∷ []) k.result_is }

  pub cost-refused : HasCostShape s n → (f : NodeFault) → Refuses (cost_checks_by s table n.rule n.by) f
      → Refuses (cost_checks s table n) f
  cost-refused h (fault.Refused r) k = inr (h, k)
  cost-refused h fault.Memory k = tt
