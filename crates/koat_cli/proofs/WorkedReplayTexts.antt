-- The worked values of texts of replays, and of tallies within bounds, hold.
use Rattle.std.proofs.Common.{ℕ, ◌≤◌, [], ◌∷◌, refl, arith}
use Rattle.std.specs.Fmt.{digits}
use Rattle.koat_cli.specs.WithinBounds.{IsWithinBounds}
use Rattle.koat_cli.specs.WorkedReplayTexts.{costly_report, paid_steps, ReplaysAreTexts, TalliesAreBounded}

-- the worked texts of replays hold, by computation
pub replays_texts : ReplaysAreTexts
unfolding digits
replays_texts = record {
  whole = refl;
  other_input = refl;
  unknown = refl;
  paid = refl;
  unknown_cost = refl;
  much_spent = refl;
  no_cost = refl;
  below_the_cap = refl;
  at_the_cap = refl;
  power = refl;
  large_power = refl;
  large_time = refl;
  large_cost = refl;
  large_size = refl;
  wrong_rule = refl;
  atom = refl;
  second_atom = refl;
  range = refl;
  refusal = refl;
  syntax = refl;
  large_number = refl;
  other_arity = refl;
  limit = refl;
  most_bytes = refl;
}

-- if the second rule's steps cost at most 9 together, and all steps at most 10, the tally is within the bounds
paid_within : (cost spent : ℕ) → cost ≤ 9 → spent ≤ 10
    → IsWithinBounds (3 ∷ []) (record paid_steps { costs = 1 ∷ cost ∷ []; spent = spent }) costly_report
paid_within cost spent c s = record {
  counts = (omega arith, (omega arith, tt));
  costs = (tt, (c, tt));
  total = s;
  greatest = ((omega arith, tt), ((omega arith, tt), tt));
}

-- the worked values of which tallies are within the bounds of a report hold
pub tallies_bounded : TalliesAreBounded
tallies_bounded = record {
  whole = record {
    counts = (omega arith, (omega arith, tt));
    costs = (tt, (tt, tt));
    total = omega arith;
    greatest = ((omega arith, tt), ((omega arith, tt), tt));
  };
  count = λ h. let most = h.counts.1.0 in omega (arith, most);
  greatest = record {
    counts = (omega arith, (omega arith, tt));
    costs = (tt, (tt, tt));
    total = omega arith;
    greatest = ((omega arith, tt), ((omega arith, tt), tt));
  };
  greater = λ h. let most = h.greatest.1.0.0 in omega (arith, most);
  total = λ h. let most = h.total in omega (arith, most);
  paid = paid_within 6 7 (omega arith) (omega arith);
  most_paid = paid_within 9 10 (omega arith) (omega arith);
  overpaid = λ h. let most = h.costs.1.0 in omega (arith, most);
  total_overpaid = λ h. let most = h.total in omega (arith, most);
  paid_for_nothing = λ h. let most = h.costs.1.0 in omega (arith, most);
  nothing_paid = record {
    counts = (omega arith, (omega arith, tt));
    costs = (tt, (omega arith, tt));
    total = omega arith;
    greatest = ((omega arith, tt), ((omega arith, tt), tt));
  };
  cost_unknown = record {
    counts = (omega arith, (omega arith, tt));
    costs = (tt, (tt, tt));
    total = tt;
    greatest = ((omega arith, tt), ((omega arith, tt), tt));
  };
  unknown = record {
    counts = (omega arith, (tt, tt));
    costs = (tt, (tt, tt));
    total = tt;
    greatest = ((omega arith, tt), ((tt, tt), tt));
  };
  first = λ h. let most = h.greatest.0.0 in omega (arith, most);
  no_times = λ h. h.counts;
  no_costs = λ h. h.costs;
  no_spent = λ h. h.costs;
  no_places = λ h. h.greatest.0;
  no_counts = λ h. h.counts;
  no_greatest = λ h. h.greatest;
}
