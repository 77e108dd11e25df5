-- An upper bound on the number of bases of a linear program: the number of sets of as many unknowns as there are rows.
use Rattle.std.specs.Prelude.{ℕ, zero, suc, ◌+◌, ◌^◌, nat_lt, Option, Some, None, if◌then◌else◌}
use Rattle.linear_forms.specs.LinearProgram.{LinearProgram}

-- how many sets of k things can be chosen from n things, by Pascal's rule: each set contains the last thing or not
abbrev pub choose : ℕ → ℕ → ℕ
choose n zero = 1
choose zero (suc k) = 0
choose (suc n) (suc k) = choose n k + choose n (suc k)

-- how many sets of as many unknowns as there are rows there are, artificial unknowns included: a program has at most
-- this many bases, as each basis is such a set
abbrev pub bases_of : LinearProgram → ℕ
bases_of p = choose (p.columns + p.rows) p.rows

-- a number, if it is below 2^32
abbrev pub below_limit : ℕ → Option ℕ
below_limit n = if nat_lt n (2 ^ 32) then Some n else None
