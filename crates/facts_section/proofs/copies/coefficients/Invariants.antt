use Rattle.std.proofs.Common.{◌≡◌, map}
use Rattle.std.specs.List.{range_with_len}
use Rattle.facts_section.specs.Copies.{coefficient}
use Rattle.facts_section.proofs.copies.coefficients.Given as goal

-- the coefficients are those of the places passed
abbrev pub invariant-loop-before : goal.invariant-loop-before
invariant-loop-before l = l.coefs.items ≡ map (coefficient l.fact) (range_with_len 1 l.before)
