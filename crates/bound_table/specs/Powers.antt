-- The cases that evaluate powers, take constants out of exponents and merge powers of one base.
use Rattle.std.specs.Prelude.{ℕ, ◌^◌, ◌==◌, nat_le, cond, Bool, false, List, [], ◌∷◌, ◌++◌, Option, Some, None}
use Rattle.bound_expr.specs.model.Bounds.{Bound, Constant, SumOf, PowerOf}
use Rattle.bound_expr.specs.Views.{list_of}
use Rattle.bound_expr.specs.Limits.{constant_limit}
use Rattle.bound_table.specs.declared.kinds.Kind.{Kind}
use Rattle.bound_table.specs.declared.kinds.Kind.TheVariants.{AsSum, AsProd}
use Rattle.bound_table.specs.Kinds.{whole}
use Rattle.bound_table.specs.Folding.{parts_of_kind}
use Rattle.bound_table.specs.Runs.{runs_of, all_runs_joined}

-- c^n, where it is at most 2^127 - 1
abbrev pub small_power : ℕ → ℕ → Option ℕ
small_power c n = cond (nat_le (c ^ n) constant_limit) (Some (c ^ n)) None

-- the number that a power of base c is, where its exponent is a constant and the number is at most 2^127 - 1
abbrev pub number_of_power : ℕ → Bound → Option ℕ
number_of_power c (Constant n) = small_power c n
number_of_power c _ = None

-- a power as its number, where there is one
abbrev pub number_or_power : ℕ → Bound → Option ℕ → Bound
number_or_power c e (Some v) = Constant v
number_or_power c e None = PowerOf c e

-- a power of a constant n becomes the constant c^n, where that is at most 2^127 - 1
abbrev pub evaluated : ℕ → Bound → Bound
evaluated c e = number_or_power c e (number_of_power c e)

-- c to the power of the first constant among the parts, where that is at most 2^127 - 1
abbrev pub first_power : ℕ → List Bound → Option ℕ
first_power c [] = None
first_power c (Constant n ∷ ps) = small_power c n
first_power c (p ∷ ps) = first_power c ps

-- the parts but the first constant
abbrev pub but_first_constant : List Bound → List Bound
but_first_constant [] = []
but_first_constant (Constant n ∷ ps) = ps
but_first_constant (p ∷ ps) = p ∷ but_first_constant ps

-- parts as a sum, a single one by itself
abbrev pub sum_or_single : List Bound → Bound
sum_or_single (p ∷ []) = p
sum_or_single ps = whole AsSum ps

-- the number that is taken out of a power of base c: c to the power of the first constant of a sum
abbrev pub number_taken : ℕ → Bound → Option ℕ
number_taken c (SumOf ps) = first_power c (list_of ps)
number_taken c _ = None

-- the exponent that is left: the other parts, a single one by itself
abbrev pub exponent_left : Bound → Bound
exponent_left (SumOf ps) = sum_or_single (but_first_constant (list_of ps))
exponent_left e = e

-- a power as a number times the remaining power, if a number is taken out
abbrev pub times_power_left : ℕ → Bound → Option ℕ → Bound
times_power_left c e (Some v) = whole AsProd (Constant v ∷ PowerOf c (exponent_left e) ∷ [])
times_power_left c e None = PowerOf c e

-- a power of a sum with a first constant n, where c^n is at most 2^127 - 1, becomes the product of c^n and the power of
-- the other parts, a single one by itself
abbrev pub shifted : ℕ → Bound → Bound
shifted c e = times_power_left c e (number_taken c e)

-- two powers of one base
abbrev pub have_one_base : Bound → Bound → Bool
have_one_base (PowerOf c e) (PowerOf d f) = c == d
have_one_base _ _ = false

-- the base of a power
abbrev pub base_of : Bound → Option ℕ
base_of (PowerOf c e) = Some c
base_of _ = None

-- the exponent of a power, the parts of a sum in its place
abbrev pub exponent_of : Bound → List Bound
exponent_of (PowerOf c e) = parts_of_kind AsSum e
exponent_of _ = []

-- the exponents of powers, sums spliced
abbrev pub exponents_of : List Bound → List Bound
exponents_of [] = []
exponents_of (p ∷ ps) = exponent_of p ++ exponents_of ps

-- the base of a run of two or more powers
abbrev pub base_of_run : List Bound → Option ℕ
base_of_run (p ∷ q ∷ qs) = base_of p
base_of_run _ = None

-- powers as one power of a base, whose exponent is the sum of theirs, sums spliced
abbrev pub as_one_power : List Bound → Option ℕ → List Bound
as_one_power ps (Some c) = PowerOf c (whole AsSum (exponents_of ps)) ∷ []
as_one_power ps None = ps

-- two or more powers of a run become one
abbrev pub powers_list : List Bound → List Bound
powers_list ps = as_one_power ps (base_of_run ps)

-- neighbouring powers of one base in a product merged
abbrev pub powers_merged : Kind → List Bound → List Bound
powers_merged AsProd ps = all_runs_joined powers_list (runs_of have_one_base ps)
powers_merged k ps = ps
