use Rattle.std.proofs.Common.{◌≡◌, map}
use Rattle.while_model.specs.Translation.{rule_of as rule_of_move}
use Rattle.its_model.specs.Views.{name_of, rule_of}
use Rattle.while_front.specs.Views.{move_of}
use Rattle.while_front.proofs.translation.rules_of.Given as goal

-- The list has the rules of the moves passed.
abbrev pub invariant-loop-taken : goal.invariant-loop-taken
invariant-loop-taken l =
    map rule_of l.rules.items ≡ map (rule_of_move (map name_of l.inputs) l.points) (map move_of l.yielded)
