use Rattle.std.proofs.Common.{◌≡◌, take}
use Rattle.std.specs.Prelude.{map}
use Rattle.its_model.specs.Views.{name_of}
use Rattle.location_facts.proofs.copies.copied_names.Given as goal

-- the names so far are copied
abbrev pub invariant-loop-name : goal.invariant-loop-name
invariant-loop-name l = map name_of l.copies.items ≡ map name_of (take l.name-index l.names)
