use Rattle.std.proofs.Common.{◌≡◌, ◌++◌, map}
use Rattle.rank_search.specs.Coefficients.{coefficient_of}
use Rattle.rank_search.specs.ShutPlaces.{is_listed}
use Rattle.rank_search.proofs.OpenPlaces.{block_upto}
use Rattle.rank_search.proofs.coefficients.push_symbol.Given as goal

-- the coefficients are those of the places so far
abbrev pub invariant-loop-before : goal.invariant-loop-before
invariant-loop-before l =
    map coefficient_of l.found.items ≡ map coefficient_of l.initial.found.items ++ block_upto
    (is_listed l.closed) l.symbol l.before
