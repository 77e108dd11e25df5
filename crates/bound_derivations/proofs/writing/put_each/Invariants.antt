use Rattle.std.proofs.Common.{map, take}
use Rattle.bound_expr.specs.Views.{bound_of}
use Rattle.cert_types.specs.Views.{result_variable_of}
use Rattle.bound_derivations.specs.ByKey.{IsWritten}
use Rattle.bound_derivations.proofs.writing.put_each.Given as goal

-- the bound is written at the keys so far
abbrev pub invariant-loop-key : goal.invariant-loop-key
invariant-loop-key l =
    IsWritten l.initial.table (map result_variable_of (take l.key-index l.keys)) (bound_of l.bound) l.lemma l.table
