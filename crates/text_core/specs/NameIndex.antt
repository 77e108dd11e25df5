-- The names of a table, in order.
use Rattle.std.specs.Prelude.{List, map}
use Rattle.model.specs.Programs.{Name}
use Rattle.text_core.specs.declared.listed.NameIndex.{NameIndex}

-- the names of a table, in order
abbrev pub names_in : NameIndex → List Name
names_in l = map (λ k. k.now) l.names.keys
