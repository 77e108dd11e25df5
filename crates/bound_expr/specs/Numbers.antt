-- Properties of the numbers in a bound, node by node: of bases, of constants and of inputs.
use Rattle.std.specs.Prelude.{ℕ, ◌<◌, ◌≤◌, ⊤}
use Rattle.model.specs.Bounds.{Bound, Constant, Input, PowerOf, Parts, EachNode, EachNodeOfAll, IsBasedFrom}
use Rattle.bound_expr.specs.Limits.{constant_limit}

-- every base of a power in the bound is at least n
abbrev pub HasBasesFrom : ℕ → Bound → Type 0
HasBasesFrom n b = EachNode (IsBasedFrom n) b

-- every base in each of the parts is at least n
abbrev pub HaveBasesFrom : ℕ → Parts → Type 0
HaveBasesFrom n bs = EachNodeOfAll (IsBasedFrom n) bs

-- a bound that is a constant is at most 2^127 - 1
abbrev pub IsSmallConstant : Bound → Type 0
IsSmallConstant (Constant c) = c ≤ constant_limit
IsSmallConstant _ = ⊤

-- every constant of the bound is at most 2^127 - 1
abbrev pub HasSmallConstants : Bound → Type 0
HasSmallConstants b = EachNode IsSmallConstant b

-- every constant in each of the parts is small
abbrev pub HaveSmallConstants : Parts → Type 0
HaveSmallConstants bs = EachNodeOfAll IsSmallConstant bs

-- a bound that is a constant is at most 2^127 - 1, and one that is a power has a base of at least 2
abbrev pub IsTidyNumber : Bound → Type 0
IsTidyNumber (Constant c) = c ≤ constant_limit
IsTidyNumber (PowerOf c e) = 2 ≤ c
IsTidyNumber _ = ⊤

-- the bases of the bound are at least 2 and its constants at most 2^127 - 1
abbrev pub HasTidyNumbers : Bound → Type 0
HasTidyNumbers b = EachNode IsTidyNumber b

-- every number in each of the parts is tidy
abbrev pub HaveTidyNumbers : Parts → Type 0
HaveTidyNumbers bs = EachNodeOfAll IsTidyNumber bs

-- a bound that is an input is one of the first n
abbrev pub IsInputBelow : ℕ → Bound → Type 0
IsInputBelow n (Input i) = i < n
IsInputBelow n _ = ⊤

-- every input of the bound is one of the first n
abbrev pub ReadsBelow : ℕ → Bound → Type 0
ReadsBelow n b = EachNode (IsInputBelow n) b

-- every input in each of the parts is one of the first n
abbrev pub AllReadBelow : ℕ → Parts → Type 0
AllReadBelow n bs = EachNodeOfAll (IsInputBelow n) bs
