-- The components of the graph of places, in their order.
use Rattle.std.specs.Prelude.{◌≡◌, ℕ, zero, suc, ◌<◌, Bool, true, false, List, [], map, length, Option, Some, None}
use Rattle.std.specs.Prelude.{slice_index_or, slice_get}
use Rattle.model.specs.Programs.{Program, Rule, rule_at, arity_of}
use Rattle.cert_types.specs.cert_rules.Nodes.{ResultVariable}
use Rattle.cert_types.specs.cert_rules.Setting.{Setting}
use Rattle.cert_types.specs.cert_rules.AcceptsSizes.{Up}
use Rattle.local_size.specs.LocalAnswers.{Local, IsUnboundedOn, local_answer_of}
use Rattle.local_size.specs.declared.answer.LocalAnswer.{LocalAnswer}
use Rattle.std.specs.Prelude.{Vec}
use Rattle.std.specs.declared.alloc.Global.{Global}
use Rattle.guard_prep.specs.its_model.Valid.{IsValid}
use Rattle.its_graph.specs.Graphs.{IsGraphOf}
use Rattle.its_graph.specs.declared.graph.Graph.{Graph}
use Rattle.guard_prep.specs.declared.rule_rows.RuleRows.{RuleRows}
use Rattle.cert_types.specs.Composing.{AreRowsOf}
use Rattle.its_graph.specs.Components.{IsListing}
use Rattle.cert_types.specs.Views.{result_variable_of}
use Rattle.rvg_components.specs.declared.component.Component.{Component}
use Rattle.rvg_components.specs.Flows.{Locals, value_flows, live_result_variables, loops}

-- the result variable at a position
abbrev pub result_variable_at : List ResultVariable → ℕ → ResultVariable
result_variable_at result_variables i = slice_index_or result_variables i (record { rule = 0; place = 0 })

-- a value flows from the place at one position of a list into that at another
pub record HasFlow (s : Setting) (local : Locals) (result_variables : List ResultVariable) (a b : ℕ) : Type 0 where
  pub from : a < length result_variables
  pub to : b < length result_variables
  pub flow : value_flows s local (result_variable_at result_variables a) (result_variable_at result_variables b) ≡ true

-- the strongly connected components of the places of live rules, by their positions among all these in order: each
-- comes after all those from which values flow into it; of several that may come next, the one with the least rule and
-- place comes first; and the members of each ascend
pub record AreComponents (s : Setting) (is_live : ℕ → Bool) (local : Locals) (components : List (List ResultVariable))
    : Type 0 where
  pub positions : List (List ℕ)
  pub listing : IsListing (HasFlow s local (live_result_variables s.program is_live)) (length (live_result_variables s.program is_live))
      positions
  pub result_variables : components ≡ map (map (result_variable_at (live_result_variables s.program is_live))) positions

-- the members of a component as plain data
abbrev pub members_of : Component → List ResultVariable
members_of c = map result_variable_of c.members.items

-- the flag of a component is true exactly if it loops
abbrev pub SaysWhetherItLoops : Setting → Locals → Component → Type 0
SaysWhetherItLoops s local c = c.looping ≡ loops s local (members_of c)

-- the answer at a position of a list, as plain data; past its end, an answer without side bounds
abbrev pub local_in : Option LocalAnswer → Local
local_in None = IsUnboundedOn Up [] (record { parts = []; den = 0 })
local_in (Some a) = local_answer_of a

-- the answers for the places of a rule; the answer for its place with a number, counted from 1
abbrev pub answers_for : List (List LocalAnswer) → ℕ → List LocalAnswer
answers_for locals zero = []
answers_for locals (suc t) = slice_index_or locals t []

abbrev pub local_from : List (List LocalAnswer) → Locals
local_from locals t zero = local_in None
local_from locals t (suc i) = local_in (slice_get (answers_for locals t) i)

-- the flag of a rule
abbrev pub is_flagged : List Bool → ℕ → Bool
is_flagged live zero = false
is_flagged live (suc t) = slice_index_or live t false

-- there is a list of answers and a flag for each rule, and for each place of a live one an answer
pub record AreLocalsFor (p : Program) (locals : List (List LocalAnswer)) (live : List Bool) : Type 0 where
  pub lists : length locals ≡ length p.rules
  pub flags : length live ≡ length p.rules
  pub places : (t : ℕ) (r : Rule) → rule_at p t ≡ Some r → is_flagged live t ≡ true
      → length (answers_for locals t) ≡ arity_of p r.target

-- the arguments of the search: the graph and the rows of a valid program, with answers and flags for its rules
pub record AreAnswersOfProgram (p : Program) (g : Graph) (prepared_rules : List RuleRows) (locals : List (List LocalAnswer))
    (live : List Bool) : Type 0 where
  pub valid : IsValid p
  pub graph : IsGraphOf g p
  pub rows : AreRowsOf prepared_rules p
  pub locals_for : AreLocalsFor p locals live

-- lists of answers as plain lists
abbrev pub answer_lists : List (Vec LocalAnswer Global) → List (List LocalAnswer)
answer_lists lists = map (λ l. l.items) lists
