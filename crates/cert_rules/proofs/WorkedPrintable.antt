-- The worked facts that can be printed, and those that can't.
use Rattle.std.proofs.Common.{◌+◌, ◌≤◌, ◌<◌, arith}
use Rattle.std.proofs.lemmas.List.Elements.{All-from_recursion, recursion_from_All}
use Rattle.run_counting.specs.model.Bounds.{Input, SumOf}
use Rattle.bound_expr.specs.Limits.{constant_limit}
use Rattle.cert_rules.specs.Nodes.{Cite, Start, Never, Weaken, AndProof}
use Rattle.cert_rules.specs.Numbering.{nodes_of}
use Rattle.cert_rules.specs.Printable.{WritesTidy}
use Rattle.cert_rules.specs.Worked.{one_part, only, once, down_alone}
use Rattle.cert_rules.specs.WorkedPrintable.{PrintingIsJudged}

-- 1 isn't at least 2, and the limit plus one is over the limit
one_is_few : ¬ (2 ≤ 1)
one_is_few h = omega (arith, h)

past_limit : ¬ (constant_limit + 1 ≤ constant_limit)
past_limit h = omega (arith, h)

pub printing_judged : PrintingIsJudged
printing_judged = record {
  sum = (((omega arith, (tt, (tt, tt))), (tt, (omega arith, tt))), (tt, (omega arith, (tt, tt))));
  no_argument = λ h. let low : 0 < 0 = h.1 in omega (arith, low);
  last_argument = (tt, omega arith);
  cost = (tt, omega arith);
  cost_of_none = λ h. let low : 1 < 1 = h.1 in omega (arith, low);
  one_part_alone = λ h. one_is_few h.0.0.0;
  tidy_numbers = ((tt, (tt, tt)), (tt, (omega arith, tt)));
  base_of_1 = λ h. one_is_few h.0.0;
  base_of_2 = ((omega arith, tt), (tt, omega arith));
  past_the_limit = λ h. past_limit h.0;
  at_the_constant_limit = (omega arith, tt);
  writes_none = All-from_recursion WritesTidy (nodes_of once) (tt, (tt, tt));
  writes_tidy =
      All-from_recursion WritesTidy (nodes_of (Never (Weaken (Cite 1) (Input 0)))) (tt, (tt, (tt, tt)));
  writes_one_part = λ h.
      let each = recursion_from_All WritesTidy (nodes_of (Never (Weaken (Cite 1) (SumOf (one_part (Input 0)))))) h in
      one_is_few each.1.0.0.0;
  writes_in_a_use = λ h.
      let each =
      recursion_from_All WritesTidy
      (nodes_of (down_alone (AndProof Start (only (Weaken (Cite 1) (SumOf (one_part (Input 0)))))))) h in
      one_is_few each.1.1.0.0.0;
  at_the_limit = (omega arith, tt);
  large_coefficient = λ h. past_limit h.0;
  negative_at_the_limit = (omega arith, tt);
  large_negative = λ h. past_limit h.0;
  not_tidying = λ h.
      let tidy = h.tidy (SumOf (one_part (Input 0))) (tt, (tt, tt)) in one_is_few tidy.0.0;
}
