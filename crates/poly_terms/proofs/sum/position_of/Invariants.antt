use Rattle.std.proofs.Common.{◌-◌, ◌<◌, ◌≤◌, length}
use Rattle.poly_terms.specs.Views.{monomials_of}
use Rattle.poly_terms.specs.Positions.{position_in}
use Rattle.poly_terms.proofs.sum.position_of.Given as goal

-- the position is between `low` and `high`, and so is the middle
abbrev pub invariant-loop-low : goal.invariant-loop-low
invariant-loop-low l = record {
  from : l.low ≤ position_in l.vars.items (monomials_of l.terms);
  upto : position_in l.vars.items (monomials_of l.terms) ≤ l.high;
  within : l.high ≤ length l.terms;
  at_least : l.low ≤ l.middle;
  less : l.low < l.high → l.middle < l.high;
}

abbrev pub decreases-loop-low : goal.decreases-loop-low
decreases-loop-low l = l.high - l.low
