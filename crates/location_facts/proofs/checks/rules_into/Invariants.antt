use Rattle.std.proofs.Common.{◌≡◌, filter, Some}
use Rattle.std.specs.List.{range_with_len}
use Rattle.its_model.specs.Views.{program_of}
use Rattle.poly_terms.specs.model.Paths.{target_of, same_symbol}
use Rattle.location_facts.proofs.checks.rules_into.Given as goal

-- the rules are those so far that lead to the symbol
abbrev pub invariant-loop-before : goal.invariant-loop-before
invariant-loop-before l =
    l.found.items ≡ filter (λ t. same_symbol (target_of (program_of l.p) t) (Some l.symbol)) (range_with_len 1 l.before)
