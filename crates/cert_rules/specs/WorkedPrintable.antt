-- Facts that can be printed and facts that can't, worked out by hand.
use Rattle.std.specs.Prelude.{◌+◌, ◌-◌, [], ◌∷◌, pos, negsuc}
use Rattle.run_counting.specs.model.Bounds.{Constant, Input, SumOf, PowerOf}
use Rattle.run_counting.specs.model.Facts.{Time, Size, Cost}
use Rattle.bound_expr.specs.Limits.{constant_limit}
use Rattle.cert_rules.specs.Nodes.{Cite, Start, Never, Weaken, AndProof}
use Rattle.cert_rules.specs.Composed.{both_parts}
use Rattle.cert_rules.specs.Printable.{HasSmallCoefficients, IsTidying, HasTidyFactNumbers, IsPrintableFact}
use Rattle.cert_rules.specs.Printable.{WritesTidyBounds}
use Rattle.cert_rules.specs.WorkedSettings.{counting}
use Rattle.cert_rules.specs.Worked.{one_part, only, once, down_alone}

-- A + 7 over one start argument can be printed, over none it can't, the second of two can, and so can a cost; a sum of
-- one part can't, though its numbers are tidy; a base of 1 and a constant past the limit aren't tidy, a base of 2 and a
-- constant at the limit are. A lemma writes the bounds of its Weaken nodes, at any depth and also among premises, and
-- no other bound. A coefficient is small up to the limit, with either sign. A rewriting that leaves a sum of one part
-- makes no tidy bounds
pub record PrintingIsJudged : Type 0 where
  pub sum : IsPrintableFact 1 (Time 1 (SumOf (both_parts (Input 0) (Constant 7))))
  pub no_argument : ¬ (IsPrintableFact 0 (Size 1 1 (Input 0)))
  pub last_argument : IsPrintableFact 2 (Size 1 1 (Input 1))
  pub cost : IsPrintableFact 1 (Cost 1 (Input 0))
  pub cost_of_none : ¬ (IsPrintableFact 1 (Cost 1 (Input 1)))
  pub one_part_alone : ¬ (IsPrintableFact 1 (Time 1 (SumOf (one_part (Input 0)))))
  pub tidy_numbers : HasTidyFactNumbers 1 (Time 1 (SumOf (one_part (Input 0))))
  pub base_of_1 : ¬ (HasTidyFactNumbers 1 (Time 1 (PowerOf 1 (Input 0))))
  pub base_of_2 : HasTidyFactNumbers 1 (Time 1 (PowerOf 2 (Input 0)))
  pub past_the_limit : ¬ (HasTidyFactNumbers 1 (Time 1 (Constant (constant_limit + 1))))
  pub at_the_constant_limit : HasTidyFactNumbers 1 (Time 1 (Constant constant_limit))
  pub writes_none : WritesTidyBounds once
  pub writes_tidy : WritesTidyBounds (Never (Weaken (Cite 1) (Input 0)))
  pub writes_one_part : ¬ (WritesTidyBounds (Never (Weaken (Cite 1) (SumOf (one_part (Input 0))))))
  pub writes_in_a_use :
      ¬ (WritesTidyBounds (down_alone (AndProof Start (only (Weaken (Cite 1) (SumOf (one_part (Input 0))))))))
  pub at_the_limit : HasSmallCoefficients (record { coef = pos constant_limit; vars = [] } ∷ [])
  pub large_coefficient : ¬ (HasSmallCoefficients (record { coef = pos (constant_limit + 1); vars = [] } ∷ []))
  pub negative_at_the_limit : HasSmallCoefficients (record { coef = negsuc (constant_limit - 1); vars = [] } ∷ [])
  pub large_negative : ¬ (HasSmallCoefficients (record { coef = negsuc constant_limit; vars = [] } ∷ []))
  pub not_tidying : ¬ (IsTidying counting)
