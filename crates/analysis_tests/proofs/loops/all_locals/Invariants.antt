use Rattle.std.proofs.Common.{◌≡◌, length, map, take}
use Rattle.analysis_tests.proofs.loops.all_locals.Given as goal

-- there are as many answers for each rule so far as its rows have new values
abbrev pub invariant-loop-position : goal.invariant-loop-position
invariant-loop-position l = map (λ v. length v.items) l.locals.items
    ≡ map (λ m. length m.new_values.items) (take l.position l.prepared_rules)
