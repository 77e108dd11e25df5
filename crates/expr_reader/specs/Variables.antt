-- The variables of a table, in order.
use Rattle.std.specs.Prelude.{List, map}
use Rattle.model.specs.Programs.{Name}
use Rattle.expr_reader.specs.declared.variables.Variables.{Variables}

-- the names of a table, in order
abbrev pub names_in : Variables → List Name
names_in v = map (λ k. k.now) v.names.keys
