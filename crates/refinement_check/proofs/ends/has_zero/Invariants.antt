use Rattle.std.proofs.Common.{◌≡◌, drop}
use Rattle.std.specs.Prelude.{nat_eq}
use Rattle.std.specs.List.{list_any}
use Rattle.refinement_check.proofs.ends.has_zero.Given as goal

-- whether some number is 0 depends on the numbers left
abbrev pub invariant-loop-number : goal.invariant-loop-number
invariant-loop-number l =
    list_any (λ n. nat_eq n 0) (drop l.number-index l.numbers) ≡ list_any (λ n. nat_eq n 0) l.numbers
