-- The form of an expanded polynomial: its monomials are in order, distinct, and not 0.
use Rattle.std.specs.Prelude.{◌≡◌, ◌≢◌, ℕ, ◌≤◌, List, [], ◌∷◌, length, pos, nat_abs, ⊤}
use Rattle.std.specs.declared.cmp.Ordering.TheVariants.{Less}
use Rattle.model.specs.Limits.{coefficient_limit, monomial_limit, degree_limit}
use Rattle.model.specs.Polynomials.{Polynomial, degree_of}
use Rattle.poly_terms.specs.Expanding.{order}

-- a list of variables comes before those of all monomials
abbrev pub IsBefore : List ℕ → Polynomial → Type 0
IsBefore vs [] = ⊤
IsBefore vs (m ∷ ms) = (order vs m.vars ≡ Less) × IsBefore vs ms

-- each list of variables comes before those of the later monomials; so no two are the same
abbrev pub IsAscending : Polynomial → Type 0
IsAscending [] = ⊤
IsAscending (m ∷ ms) = IsBefore m.vars ms × IsAscending ms

-- each number is at least n
abbrev pub AreFrom : ℕ → List ℕ → Type 0
AreFrom n [] = ⊤
AreFrom n (v ∷ vs) = (n ≤ v) × AreFrom n vs

-- the variables of a monomial ascend, each as often as it is a factor
abbrev pub AscendWeakly : List ℕ → Type 0
AscendWeakly [] = ⊤
AscendWeakly (v ∷ vs) = AreFrom v vs × AscendWeakly vs

-- no coefficient is 0
abbrev pub HasNoZero : Polynomial → Type 0
HasNoZero [] = ⊤
HasNoZero (m ∷ ms) = (m.coef ≢ pos 0) × HasNoZero ms

-- the variables of each monomial ascend
abbrev pub HasFactorsInOrder : Polynomial → Type 0
HasFactorsInOrder [] = ⊤
HasFactorsInOrder (m ∷ ms) = AscendWeakly m.vars × HasFactorsInOrder ms

-- the absolute value of each coefficient is at most n
abbrev pub IsBounded : ℕ → Polynomial → Type 0
IsBounded n [] = ⊤
IsBounded n (m ∷ ms) = (nat_abs m.coef ≤ n) × IsBounded n ms

-- the monomials ascend by their lists of variables, which ascend themselves, and no coefficient is 0
pub record IsOrdered (p : Polynomial) : Type 0 where
  pub ascending : IsAscending p
  pub factors : HasFactorsInOrder p
  pub nonzero : HasNoZero p

-- at most 64 monomials of degree at most 8, with coefficients of at most 2^63 - 1 in absolute value
pub record IsSmall (p : Polynomial) : Type 0 where
  pub coefficients : IsBounded coefficient_limit p
  pub terms : length p ≤ monomial_limit
  pub degree : degree_of p ≤ degree_limit
