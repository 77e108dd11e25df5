-- The result of `solve_whole`: the end of the sequence of tableaux, or why it isn't reached.
use Rattle.std.specs.Prelude.{◌≡◌, ◌^◌, ◌<◌, ◌≤◌, Result, Ok, Err, MatchResult, ◌⊎◌}
use Rattle.linear_forms.specs.LinearProgram.{LinearProgram}
use Rattle.simplex_core.specs.declared.problem.Solved.{Solved}
use Rattle.simplex_core.specs.Problem.{table_size, widest}
use Rattle.simplex_core.specs.Outcome.{IsEnd, ExceedsNumberRange}
use Rattle.simplex_core.specs.Agreement.{IsSameEnd}
use Rattle.bland_end.specs.declared.whole.WholeError.{WholeError}
use Rattle.bland_end.specs.declared.whole.WholeError.TheVariants.{Range, Wide, TooMany, Memory}
use Rattle.bland_end.specs.Counting.{bases_of}

-- why the end isn't reached: there are too many bases; or there aren't, and the table would be too wide, or a number is
-- out of range after k pivots; memory may run out at any time
abbrev pub IsWholeStop : LinearProgram → WholeError → Type 0
IsWholeStop p (Range k) = (bases_of p < 2 ^ 32) × (table_size p ≤ widest) × ExceedsNumberRange p (bases_of p) k
IsWholeStop p (Wide n) = (bases_of p < 2 ^ 32) × (widest < table_size p) × (n ≡ table_size p)
IsWholeStop p TooMany = 2 ^ 32 ≤ bases_of p
IsWholeStop p Memory = Unit {0}

-- the end of the sequence, within as many pivots as there are bases, or why it isn't reached
abbrev pub IsWholeEnd : LinearProgram → Result Solved WholeError → Type 0
IsWholeEnd p result =
    MatchResult result (λ s. (bases_of p < 2 ^ 32) × (table_size p ≤ widest) × IsEnd p (bases_of p) s) (IsWholeStop p)

-- memory ran out
abbrev pub IsWantOfMemory : WholeError → Type 0
IsWantOfMemory (Range k) = ⊥
IsWantOfMemory (Wide n) = ⊥
IsWantOfMemory TooMany = ⊥
IsWantOfMemory Memory = Unit {0}

-- two results are the same end or the same reason, or one of them is that memory ran out
abbrev pub IsSameWholeEnd : Result Solved WholeError → Result Solved WholeError → Type 0
IsSameWholeEnd (Ok s) (Ok t) = IsSameEnd s t
IsSameWholeEnd (Ok s) (Err e) = IsWantOfMemory e
IsSameWholeEnd (Err d) (Ok t) = IsWantOfMemory d
IsSameWholeEnd (Err d) (Err e) = (d ≡ e) ⊎ (IsWantOfMemory d ⊎ IsWantOfMemory e)
