-- The worked bounds are within the limits of texts, or aren't.
use Rattle.std.proofs.Common.{◌≡◌, ℕ, zero, suc, ◌≤◌, ◌<◌, refl, arith}
use Rattle.bound_expr.specs.model.Bounds.{SumOf}
use Rattle.bound_expr.specs.Measure.{node_count, depth_of}
use Rattle.bound_expr.specs.Worked.{copies, tower}
use Rattle.bound_text.specs.Texts.{HasShortBases, HaveShortBases}
use Rattle.bound_text.specs.WorkedLimits.{LimitsOfTextsAreMet}

-- copies of an input have no base, and a tower has bases of 2 alone
copies_short : (n : ℕ) → HaveShortBases (copies n)
copies_short zero = tt
copies_short (suc n) = (tt, copies_short n)

tower_short : (n : ℕ) → HasShortBases (tower n)
tower_short zero = tt
tower_short (suc n) = (omega arith, tower_short n)

-- the nodes of sums of copies at the limit and one over it
copies_nodes : (node_count (SumOf (copies 4095)) ≡ 4096) × (node_count (SumOf (copies 4096)) ≡ 4097)
copies_nodes = (refl, refl)

copies_levels : depth_of (SumOf (copies 4095)) ≡ 2
copies_levels = refl

tower_levels : (depth_of (tower 199) ≡ 200) × (depth_of (tower 200) ≡ 201)
tower_levels = (refl, refl)

tower_nodes : node_count (tower 199) ≡ 200
tower_nodes = refl

-- a number isn't at most a lesser one
beyond : (m n k : ℕ) → n ≡ k → m < k → n ≤ m → ⊥
beyond m n k e l h = omega (arith, e, l, h)

within : (m n k : ℕ) → n ≡ k → k ≤ m → n ≤ m
within m n k e l = omega (arith, e, l)

pub limits_of_texts_met : LimitsOfTextsAreMet
limits_of_texts_met = record {
  nodes_at_most = record {
    levels = within 200 (depth_of (SumOf (copies 4095))) 2 copies_levels (omega arith);
    nodes = within 4096 (node_count (SumOf (copies 4095))) 4096 copies_nodes.0 (omega arith);
    bases = copies_short 4095;
  };
  nodes_beyond = λ h. beyond 4096 (node_count (SumOf (copies 4096))) 4097 copies_nodes.1 (omega arith) h.nodes;
  levels_at_most = record {
    levels = within 200 (depth_of (tower 199)) 200 tower_levels.0 (omega arith);
    nodes = within 4096 (node_count (tower 199)) 200 tower_nodes (omega arith);
    bases = tower_short 199;
  };
  levels_beyond = λ h. beyond 200 (depth_of (tower 200)) 201 tower_levels.1 (omega arith) h.levels;
  base_at_most = record { levels = omega arith; nodes = omega arith; bases = (omega arith, tt) };
  base_beyond = λ h. let low = h.bases.0 in omega (arith, low);
}
