-- The lists of start values at which bounds are compared.
use Rattle.std.specs.Prelude.{ℕ, zero, suc, List, [], ◌∷◌, ◌++◌, map, replicate, slice_set, ℤ, pos, negsuc}
use Rattle.std.specs.declared.alloc.Global.{Global}
use Rattle.std.specs.declared.vec.Vec.{Vec}

-- a value for one argument, and 10 for all others; the arguments are numbered from 0
abbrev pub start_with_value : ℕ → ℕ → ℤ → List ℤ
start_with_value arguments argument value = slice_set (replicate arguments (pos 10)) argument value

-- 40 for one argument, and -20 for it, with 10 for all others
abbrev pub starts_of_argument : ℕ → ℕ → List (List ℤ)
starts_of_argument arguments argument =
    start_with_value arguments argument (pos 40) ∷ start_with_value arguments argument (negsuc 19) ∷ []

-- 40 and -20 for each of the first n arguments in turn, with 10 for all others
abbrev pub starts_of_arguments : ℕ → ℕ → List (List ℤ)
starts_of_arguments arguments zero = []
starts_of_arguments arguments (suc n) = starts_of_arguments arguments n ++ starts_of_argument arguments n

-- 20 for each argument, 1 for each, and 40 and -20 for each argument in turn, with 10 for all others
abbrev pub comparison_starts : ℕ → List (List ℤ)
comparison_starts arguments =
    replicate arguments (pos 20) ∷ replicate arguments (pos 1) ∷ starts_of_arguments arguments arguments

-- lists of start values as plain data
abbrev pub starts_of : List (Vec ℤ Global) → List (List ℤ)
starts_of starts = map (λ (start : Vec ℤ Global). start.items) starts
