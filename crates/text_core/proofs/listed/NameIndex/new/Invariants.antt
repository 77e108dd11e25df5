use Rattle.std.proofs.Common.{◌≡◌, ◌++◌, map, drop}
use Rattle.text_core.specs.Names.{name_of}
use Rattle.text_core.proofs.listed.NameIndex.new.Given as goal

-- the names in the set and the remaining names are all the names
abbrev pub invariant-loop-name : goal.invariant-loop-name
invariant-loop-name l = map (λ k. k.now) l.set.keys ++ map name_of (drop l.name-index l.names) ≡ map name_of l.names
