-- Programs, configurations and steps of the code as plain data.
use Rattle.std.specs.Prelude.{map, option_map}
use Rattle.poly_terms.specs.Views.{term_of}
use Rattle.poly_terms.specs.model.Programs as plain
pub use Rattle.text_core.specs.Names.{name_of}
use Rattle.poly_terms.specs.model.Programs.{AtLeast, MoreThan, AtMost, LessThan, EqualTo}
use Rattle.poly_terms.specs.model.Runs as runs
use Rattle.its_model.specs.declared.guard.Rel.{Rel}
use Rattle.its_model.specs.declared.guard.Rel.TheVariants.{Ge, Gt, Le, Lt, Eq}
use Rattle.its_model.specs.declared.guard.Atom.{Atom}
use Rattle.its_model.specs.declared.guard.Atom.TheVariants.{Always, Compare}
use Rattle.its_model.specs.declared.program.Symbol.{Symbol}
use Rattle.its_model.specs.declared.program.Rule.{Rule}
use Rattle.its_model.specs.declared.program.Program.{Program}
use Rattle.its_model.specs.declared.run.Config.{Config}
use Rattle.its_model.specs.declared.run.Step.{Step}

-- A relation as plain data.
abbrev pub relation_of : Rel → plain.Relation
relation_of Ge = AtLeast
relation_of Gt = MoreThan
relation_of Le = AtMost
relation_of Lt = LessThan
relation_of Eq = EqualTo

-- An atom as plain data.
abbrev pub atom_of : Atom → plain.Atom
atom_of Always = plain.Always
atom_of (Compare l r q) = plain.Compare (term_of l) (relation_of r) (term_of q)

-- A symbol as plain data.
abbrev pub symbol_of : Symbol → plain.Symbol
symbol_of s = record { name = name_of s.name; arity = s.arity }

-- A rule as plain data.
abbrev pub rule_of : Rule → plain.Rule
rule_of r = record {
  source = r.source;
  target = r.target;
  left = r.left;
  free = r.free;
  names = map name_of r.names.items;
  updates = map term_of r.updates.items;
  guard = map atom_of r.guard.items;
  cost = option_map term_of r.cost;
}

-- A program as plain data.
abbrev pub program_of : Program → plain.Program
program_of p = record {
  symbols = map symbol_of p.symbols.items;
  start = p.start;
  start_names = map name_of p.start_names.items;
  rules = map rule_of p.rules.items;
}

-- A configuration as plain data.
abbrev pub config_of : Config → runs.Config
config_of c = record { at = c.at; values = c.values.items }

-- A step as plain data.
abbrev pub step_of : Step → runs.Step
step_of s = record { rule = s.rule; free = s.free.items }
