use Rattle.std.proofs.Common.{◌≤◌, length, map, drop}
use Rattle.text_core.specs.Names.{name_of}
use Rattle.bound_expr.specs.Views.{bounds_of, parts_of}
use Rattle.bound_expr.specs.Substitution.{AllReadBelow}
use Rattle.bound_text.specs.Writing as writing
use Rattle.bound_text.specs.Writing.{joined_then, more_then, factors_then, count_of}
use Rattle.bound_text.specs.Printing.{separator_of, before_of, IsListedRun, Writes}
use Rattle.bound_text.proofs.printing.+write.Given as goal

-- the factors still to be written, after what was written, are all the factors
abbrev pub invariant-write_factors-loop-factor : goal.invariant-write_factors-loop-factor
invariant-write_factors-loop-factor l =
    Writes (map name_of l.names) l.fn.text.items l.text.items (factors_then writing.Nothing (parts_of (bounds_of l.factors))) (factors_then (before_of l.before) (parts_of (bounds_of (drop l.factor-index l.factors))))
    × IsListedRun (length l.names) l.before
    × (count_of (before_of l.before) ≤ l.factor-index)
    × AllReadBelow (length l.names) (parts_of (bounds_of (drop l.factor-index l.factors)))

-- the parts still to be written, after what was written, are all the parts
abbrev pub invariant-write_joined-loop-part : goal.invariant-write_joined-loop-part
invariant-write_joined-loop-part l =
    Writes (map name_of l.names) l.fn.text.items l.text.items (joined_then (separator_of l.join) (parts_of (bounds_of l.parts))) (more_then (separator_of l.join) (parts_of (bounds_of (drop l.part-index l.others))))
    × AllReadBelow (length l.names) (parts_of (bounds_of (drop l.part-index l.others)))
