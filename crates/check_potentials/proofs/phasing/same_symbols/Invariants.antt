use Rattle.std.proofs.Common.{◌≡◌, drop, map}
use Rattle.potential_nodes.specs.Facts.{same_variables}
use Rattle.potential_nodes.specs.Tables.{symbol_of}
use Rattle.potential_types.specs.Views.{function_of}
use Rattle.check_potentials.proofs.phasing.same_symbols.Given as goal

-- what is left of both decides
abbrev pub invariant-loop-first : goal.invariant-loop-first
invariant-loop-first l =
    same_variables (map symbol_of (map function_of (drop l.first-index l.firsts)))
    (map symbol_of (map function_of l.left))
    ≡ same_variables (map symbol_of (map function_of l.firsts)) (map symbol_of (map function_of l.seconds))
