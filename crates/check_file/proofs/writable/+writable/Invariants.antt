use Rattle.std.proofs.Common.{take}
use Rattle.bound_expr.specs.Views.{bounds_of, parts_of}
use Rattle.check_file.specs.Writables.{AreWritable}
use Rattle.check_file.proofs.writable.+writable.Given as goal

-- the parts before this one may be written
abbrev pub invariant-are_writable-loop-part : goal.invariant-are_writable-loop-part
invariant-are_writable-loop-part l = AreWritable l.inputs (parts_of (bounds_of (take l.part-index l.parts)))
