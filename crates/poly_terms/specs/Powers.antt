-- The faults among the powers of a polynomial.
use Rattle.std.specs.Prelude.{◌≡◌, ℕ, zero, suc, Option}
use Rattle.model.specs.Polynomials.{Polynomial}
use Rattle.poly_terms.specs.Expanding.{power_of}
use Rattle.poly_terms.specs.Faults.{Fault, fault_in, or_else}

-- the first fault among the powers of a polynomial from the exponent 0 on
abbrev pub faults_of_powers : Polynomial → ℕ → Option Fault
faults_of_powers p zero = fault_in (power_of p 0) 0
faults_of_powers p (suc n) = or_else (faults_of_powers p n) (fault_in (power_of p (suc n)) (suc n))

-- a polynomial is a power, and no lower one has a fault
pub record IsPowerWithout (p : Polynomial) (n : ℕ) (q : Polynomial) : Type 0 where
  pub power : q ≡ power_of p n
  pub faults : faults_of_powers p n ≡ fault_in q n
