use Rattle.std.proofs.Common.{◌≡◌, ◌++◌, drop, map}
use Rattle.poly_terms.specs.Keys.{opposite_at}
use Rattle.poly_terms.proofs.key_form.opposites.Given as goal

-- the negated monomials so far and those of the remaining ones are all
abbrev pub invariant-loop-e : goal.invariant-loop-e
invariant-loop-e l = l.opposites.items ++ map opposite_at (drop l.e-index l.es) ≡ map opposite_at l.es
