-- Members of a program, with right shapes and accepted side bounds.
use Rattle.std.specs.Prelude.{List}
use Rattle.std.specs.List.{All}
use Rattle.model.specs.Programs.{Program}
use Rattle.guard_prep.specs.its_model.Valid.{IsValid}
use Rattle.guard_prep.specs.declared.rule_rows.RuleRows.{RuleRows}
use Rattle.its_graph.specs.Graphs.{IsGraphOf}
use Rattle.its_graph.specs.declared.graph.Graph.{Graph}
use Rattle.cert_types.specs.Composing.{AreRowsOf}
use Rattle.cert_types.specs.cert_rules.AcceptsSizes.{HasMemberShape, HasCycleShape, AcceptsUp, AcceptsLow}
use Rattle.cert_types.specs.cert_rules.Nodes.{Member}
use Rattle.cert_types.specs.cert_program.Setting.{setting_of}
use Rattle.size_nodes.specs.declared.transitions.Transitions.{Transitions}

-- the graph and the rows are those of a program, and the side bounds of a member are accepted
pub record IsMemberOfProgram (p : Program) (g : Graph) (prepared_rules : List RuleRows) (m : Member) : Type 0 where
  pub valid : IsValid p
  pub graph : IsGraphOf g p
  pub rows : AreRowsOf prepared_rules p
  pub shape : HasMemberShape (setting_of p) m
  pub up : AcceptsUp (setting_of p) m
  pub low : AcceptsLow (setting_of p) m

-- the members belong to the graph and the rows of the program, and ascend
pub record AreMembersOfProgram (p : Program) (g : Graph) (prepared_rules : List RuleRows) (members : List Member) : Type 0 where
  pub valid : IsValid p
  pub graph : IsGraphOf g p
  pub rows : AreRowsOf prepared_rules p
  pub shape : HasCycleShape (setting_of p) members
  pub up : All (AcceptsUp (setting_of p)) members
  pub low : All (AcceptsLow (setting_of p)) members

-- the member belongs to the graph and the rows of a program's transitions
abbrev pub IsMemberIn : Program → Transitions → Member → Type 0
IsMemberIn p s m = IsMemberOfProgram p s.graph.now s.rows.now m

-- the members belong to the graph and the rows of a program's transitions
abbrev pub AreMembersIn : Program → Transitions → List Member → Type 0
AreMembersIn p s members = AreMembersOfProgram p s.graph.now s.rows.now members
