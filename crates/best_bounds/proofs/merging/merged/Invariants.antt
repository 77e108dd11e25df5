use Rattle.std.proofs.Common.{◌++◌, map, drop}
use Rattle.claims_check.specs.Views.{stated_of}
use Rattle.best_bounds.specs.Subjects.{KeepsSubjects}
use Rattle.best_bounds.proofs.merging.merged.Given as goal

-- what is there, with what is left of both lists, keeps the subjects of all
abbrev pub invariant-loop-statement : goal.invariant-loop-statement
invariant-loop-statement l =
    KeepsSubjects (map stated_of l.known ++ map stated_of l.found)
    (map stated_of l.merged.items ++ (map stated_of (drop l.statement-index l.known) ++ map stated_of l.left))
