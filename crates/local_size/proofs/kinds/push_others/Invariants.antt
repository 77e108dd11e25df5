use Rattle.std.proofs.Common.{◌≡◌, ◌++◌, map}
use Rattle.cert_types.specs.rule_forms.Kinds.{arguments}
use Rattle.local_size.specs.Asking.{kind_of, other_places}
use Rattle.local_size.proofs.kinds.push_others.Given as goal

-- the arguments of the places so far are pushed
abbrev pub invariant-loop-before : goal.invariant-loop-before
invariant-loop-before l =
    map kind_of l.kinds.items ≡ map kind_of l.initial.kinds.items ++ arguments (other_places l.before l.place)
