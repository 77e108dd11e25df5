use Rattle.std.proofs.Common.{◌≡◌, ◌++◌, map, drop}
use Rattle.cert_types.specs.Views.{result_variable_of}
use Rattle.size_bounds.specs.Tables.{number_at}
use Rattle.size_bounds.proofs.uses.numbers_of.Given as goal

-- the numbers so far and those of the remaining premises are all
abbrev pub invariant-loop-need : goal.invariant-loop-need
invariant-loop-need l =
    l.numbers.items ++ map (λ k. number_at l.t k.rule k.place) (map result_variable_of (drop l.need-index l.premises))
    ≡ map (λ k. number_at l.t k.rule k.place) (map result_variable_of l.premises)
