-- The polynomial that is being read.
use Rattle.std.specs.Prelude.{ℕ, List, [], ◌∷◌, ◌++◌, ℤ}
use Rattle.poly_terms.specs.model.Polynomials.{Polynomial}

-- the factors of the monomial that is being read, and the monomials before it
pub record Terms : Type 0 where
  pub vars : List ℕ
  pub monomials : Polynomial

abbrev pub no_terms : Terms
no_terms = record { vars = []; monomials = [] }

-- one factor more
abbrev pub with_factor : ℕ → Terms → Terms
with_factor i t = record t { vars = t.vars ++ i ∷ [] }

-- the monomial ends, with this coefficient
abbrev pub with_monomial : ℤ → Terms → Terms
with_monomial z t = record { vars = []; monomials = t.monomials ++ record { coef = z; vars = t.vars } ∷ [] }

-- the next polynomial begins
abbrev pub without_monomials : Terms → Terms
without_monomials t = record t { monomials = [] }
