-- The limits of programs; a text whose program exceeds one of them is refused.
use Rattle.std.specs.Prelude.{ℕ, ◌-◌, ◌^◌}

-- the maximum number of rules of a program
abbrev pub rule_limit : ℕ
rule_limit = 1000

-- the maximum number of places of a symbol, and so of arguments of a term
abbrev pub place_limit : ℕ
place_limit = 32

-- the maximum number of variables of a rule, including the free ones
abbrev pub variable_limit : ℕ
variable_limit = 64

-- the maximum number of atoms of a rule: those of its guard, and one more for a cost
abbrev pub atom_limit : ℕ
atom_limit = 64

-- the maximum number of bytes of a name
abbrev pub name_limit : ℕ
name_limit = 256

-- the maximum number of tokens of an argument, of a cost, or of a side of an atom
abbrev pub token_limit : ℕ
token_limit = 1024

-- the maximum number of monomials of an expanded expression
abbrev pub monomial_limit : ℕ
monomial_limit = 64

-- the maximum degree of an expanded expression
abbrev pub degree_limit : ℕ
degree_limit = 8

-- the maximum absolute value of a literal, and of a coefficient of an expanded expression
abbrev pub coefficient_limit : ℕ
coefficient_limit = 2 ^ 63 - 1
