use Rattle.std.proofs.Common.{◌≡◌, drop, map}
use Rattle.std.specs.List.{list_any}
use Rattle.poly_terms.specs.model.Entries.{is_in}
use Rattle.poly_terms.specs.Views.{monomial_of}
use Rattle.cert_types.proofs.reading.is_among.Given as goal

-- the place is read exactly if it is in a remaining monomial
abbrev pub invariant-loop-monomial : goal.invariant-loop-monomial
invariant-loop-monomial l =
    list_any (λ m. is_in l.variable m.vars) (map monomial_of (drop l.monomial-index l.monomials))
    ≡ list_any (λ m. is_in l.variable m.vars) (map monomial_of l.monomials)
