use Rattle.std.proofs.Common.{◌≡◌, ◌∷◌}
use Rattle.std.specs.Prelude.{replicate, pos}
use Rattle.signed_values.specs.Starts.{starts_of_arguments, starts_of}
use Rattle.signed_values.proofs.starts.comparison_starts.Given as goal

-- so far: the start with 20 everywhere, the one with 1 everywhere, and those of the arguments before this one
abbrev pub invariant-loop-argument : goal.invariant-loop-argument
invariant-loop-argument l =
    starts_of l.starts.items
    ≡ replicate l.arguments (pos 20) ∷ replicate l.arguments (pos 1) ∷ starts_of_arguments l.arguments l.argument
