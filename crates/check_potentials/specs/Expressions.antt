-- What expressions of polynomials are built over: the variables of a rule, or new values in their place.
use Rattle.std.specs.Prelude.{ℕ}
use Rattle.poly_terms.specs.model.Terms.{Term, Variable}
use Rattle.potential_nodes.specs.PolynomialTerms.{term_at}
use Rattle.check_potentials.specs.declared.expressions.Unknowns.{Unknowns}
use Rattle.check_potentials.specs.declared.expressions.Unknowns.TheVariants.{Own, New}
use Rattle.check_potentials.specs.Grounds.{row_terms_of}

-- the expression that stands for a variable
abbrev pub put_of : Unknowns → ℕ → Term
put_of Own i = Variable i
put_of (New rows) i = term_at (row_terms_of rows.now) i
