use Rattle.std.proofs.Common.{◌≡◌, map}
use Rattle.while_model.specs.Translation.{apart_from, free_name}
use Rattle.its_model.specs.Views.{name_of}
use Rattle.while_front.proofs.free_name.free_name.Given as goal

-- The name so far leads to the same name of the free variable.
abbrev pub invariant-loop-left : goal.invariant-loop-left
invariant-loop-left l =
    apart_from (map name_of l.inputs) l.left l.bytes.items ≡ free_name (map name_of l.inputs)

abbrev pub decreases-loop-left : goal.decreases-loop-left
decreases-loop-left l = l.left
