-- The names of copies, in their order.
use Rattle.std.specs.Prelude.{List, map}
use Rattle.its_model.specs.model.Programs.{Name}
use Rattle.section_text.specs.declared.names.CopyNames.{CopyNames}

-- the names of copies, in their order
abbrev pub names_in : CopyNames → List Name
names_in l = map (λ k. k.now) l.names.keys
