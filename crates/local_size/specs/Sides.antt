-- One side of a place: its questions, which are asked in order until a form is found.
use Rattle.std.specs.Prelude.{◌≡◌, ◌⊎◌, ℕ, List, [], ◌∷◌, ℤ, pos, ⊤}
use Rattle.simplex_core.specs.linear_forms.Forms.{Form, at}
use Rattle.simplex_core.specs.linear_forms.Causes.{Cause}
use Rattle.simplex_core.specs.linear_forms.LinearProgram.{LinearProgram}
use Rattle.simplex_core.specs.linear_forms.Questions.{listed, program_of_question}
use Rattle.simplex_core.specs.linear_forms.RuleQuestions.{RuleForms}
use Rattle.cert_types.specs.rule_forms.Kinds.{Kind}
use Rattle.cert_types.specs.rule_forms.Questions.{question_of}
use Rattle.cert_types.specs.rule_forms.Laws.{solved_form, solved_multipliers}
use Rattle.simplex_core.specs.HitsLimit.{HitsLimit, IsScaledSolution, IsScaledDual}
use Rattle.cert_types.specs.cert_rules.Nodes.{SideBound, Linear}

-- the result of the questions for one side: a side bound; no form of any kind, as the dual of the last question shows;
-- or a limit that a linear program hits
pub data SideOutcome : Type 0 where
  SideBoundFound : SideBound → SideOutcome
  NoneFound : List ℤ → SideOutcome
  LimitPassed : Cause → SideOutcome

-- the linear program that asks which form of a kind is at least w
abbrev pub kind_program : RuleForms → Form → Kind → LinearProgram
kind_program r w kind = program_of_question (question_of r w kind)

-- the side bound of a solution: the form of its parameters, over its denominator, with its multipliers of the rows
abbrev pub solved_side_bound : RuleForms → Form → Kind → List ℤ → ℕ → SideBound
solved_side_bound r w kind numbers den =
    Linear den (solved_form r kind (at numbers) (pos den)) (solved_multipliers r w kind (at numbers))

-- the result of the question for one kind within a number of pivots: a side bound, by the solution at which its linear
-- program's sequence of tableaux ends; none, with a number of the dual for each unknown; or a limit hit
abbrev pub HasResult : RuleForms → Form → ℕ → Kind → SideOutcome → Type 0
HasResult r w pivots kind (SideBoundFound side_bound) = (numbers : List ℤ)
    × ((den : ℕ) × IsScaledSolution (kind_program r w kind) pivots numbers den
    × (side_bound ≡ solved_side_bound r w kind numbers den))
HasResult r w pivots kind (NoneFound ray) = (numbers : List ℤ)
    × ((den : ℕ) × IsScaledDual (kind_program r w kind) pivots numbers den × (ray ≡ listed r.unknowns (at numbers)))
HasResult r w pivots kind (LimitPassed cause) = HitsLimit (kind_program r w kind) pivots cause

-- the search ends with this result: a side bound, or a limit hit
abbrev pub IsEnd : SideOutcome → Type 0
IsEnd (SideBoundFound side_bound) = ⊤
IsEnd (NoneFound ray) = ⊥
IsEnd (LimitPassed cause) = ⊤

-- the kinds are tried in order: the first one that gives a side bound or hits a limit decides, and if none does, the
-- last one
abbrev pub SearchHasResult : RuleForms → Form → ℕ → List Kind → SideOutcome → Type 0
SearchHasResult r w pivots [] x = ⊥
SearchHasResult r w pivots (kind ∷ []) x = HasResult r w pivots kind x
SearchHasResult r w pivots (kind ∷ next ∷ kinds) x = (IsEnd x × HasResult r w pivots kind x)
    ⊎ (((ray : List ℤ) × HasResult r w pivots kind (NoneFound ray)) × SearchHasResult r w pivots (next ∷ kinds) x)
