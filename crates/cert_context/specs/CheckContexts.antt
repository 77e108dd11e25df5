-- The context in which nodes are checked: a valid program, the rows of its rules and of their cost rules, and its
-- graph.
use Rattle.its_model.specs.Valid.{IsValid}
use Rattle.its_model.specs.Views.{program_of}
use Rattle.its_graph.specs.Graphs.{IsGraphOf}
use Rattle.model.specs.Programs.{Program}
use Rattle.cert_types.specs.Composing.{AreRowsOf}
use Rattle.cert_types.specs.cert_rules.Setting.{Setting}
use Rattle.cert_types.specs.cert_program.Setting.{setting_of}
use Rattle.cert_context.specs.CostRows.{ArePreparedCostRules}
use Rattle.cert_context.specs.declared.context.CheckContext.{CheckContext}

-- the program of a check context, as plain data
abbrev pub program : CheckContext → Program
program g = program_of g.program.now

-- the setting of that program
abbrev pub setting : CheckContext → Setting
setting g = setting_of (program g)

-- a check context is well-formed: its program is valid, and its rows, cost rows and graph are those of the program
pub record IsCheckContext (g : CheckContext) : Type 0 where
  pub valid : IsValid (program g)
  pub rows : AreRowsOf g.prepared_rules.items (program g)
  pub costs : ArePreparedCostRules (program g) g.costs.items
  pub graph : IsGraphOf g.graph (program g)
