use Rattle.std.proofs.Common.{◌≡◌, ◌++◌, map, drop}
use Rattle.claims_check.specs.Views.{stated_of}
use Rattle.best_bounds.proofs.merging.push_all.Given as goal

-- the statements that are left, behind what is there, are what was there and all
abbrev pub invariant-loop-statement : goal.invariant-loop-statement
invariant-loop-statement l =
    map stated_of l.merged.items ++ map stated_of (drop l.statement-index l.statements)
    ≡ map stated_of l.initial.merged.items ++ map stated_of l.statements
