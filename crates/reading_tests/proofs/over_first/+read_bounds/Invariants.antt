use Rattle.std.proofs.Common.{ℕ, drop}
use Rattle.bound_expr.specs.Numbers.{AllReadBelow}
use Rattle.bound_expr.specs.Views.{bounds_of, parts_of}
use Rattle.reading_tests.proofs.over_first.+read_bounds.Given as goal

-- if the remaining parts are below n, all are
abbrev pub invariant-all_read_below-loop-part : goal.invariant-all_read_below-loop-part
invariant-all_read_below-loop-part l =
    AllReadBelow l.n (parts_of (bounds_of (drop l.part-index l.parts))) → AllReadBelow l.n (parts_of (bounds_of l.parts))
