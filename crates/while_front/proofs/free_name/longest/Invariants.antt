use Rattle.std.proofs.Common.{◌≡◌, max, map, drop}
use Rattle.while_model.specs.Translation.{longest}
use Rattle.its_model.specs.Views.{name_of}
use Rattle.while_front.proofs.free_name.longest.Given as goal

-- The longest of the names passed and of those left is the longest of all.
abbrev pub invariant-loop-name : goal.invariant-loop-name
invariant-loop-name l =
    max l.most (longest (map name_of (drop l.name-index l.names))) ≡ longest (map name_of l.names)
