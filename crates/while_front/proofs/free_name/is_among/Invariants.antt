use Rattle.std.proofs.Common.{◌≡◌, map, drop}
use Rattle.std.specs.Prelude.{nat_eq}
use Rattle.std.specs.List.{list_any}
use Rattle.std.specs.Cmp.Lexicographic.{pointwise}
use Rattle.its_model.specs.Views.{name_of}
use Rattle.while_front.proofs.free_name.is_among.Given as goal

-- The names left decide the answer.
abbrev pub invariant-loop-name : goal.invariant-loop-name
invariant-loop-name l =
    list_any (pointwise nat_eq l.bytes) (map name_of (drop l.name-index l.names))
    ≡ list_any (pointwise nat_eq l.bytes) (map name_of l.names)
