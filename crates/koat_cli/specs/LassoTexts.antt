-- Lasso files of both forms as the second file of a request: their limit, and the answers if one is refused; and the
-- texts of answers on a turn.
use Rattle.std.specs.Prelude.{ℕ, List, [], ◌∷◌, ◌++◌, ℤ, codes, decimal}
use Rattle.model.specs.Programs.{Program}
use Rattle.lasso_forms.specs.lasso_check.Checks.{Turn}
use Rattle.lasso_forms.specs.moving_check.affine_turns.Turns.{Stop, AtomStops, NonlinearPlace}
use Rattle.lasso_forms.specs.moving_check.Findings.{Moving, Finding, Moves, LeavesSymbol, PassesAt, StopsAt, ChangesAt}
use Rattle.lasso_forms.specs.Files.{LassoFile}
use Rattle.lasso_forms.specs.Texts.{IsFileText, IsFirstFault}
use Rattle.lasso_forms.specs.Turns.{EndlessTurn, Back, On, Obstacle, StepIsBad, TurnIsOpen, TurnStops}
use Rattle.report_text.specs.Pieces.{parts_text}
use Rattle.call_plans.specs.declared.status.Status.TheVariants.{RunRefused}
use Rattle.call_plans.specs.Kinds.{TextKind}
use Rattle.koat_cli.specs.Statements.{StatesOne}
use Rattle.koat_cli.specs.ReplayTexts.{value_text}
use Rattle.koat_cli.specs.RunTexts.{run_limit, run_too_long_text, run_refusal_text, bad_step_text}

-- the bytes have a fault as the text of a lasso file of the program, and the text states the first, as that of a run
abbrev pub IsLassoRefusedAs : Program → List ℕ → List ℕ → Type 0
IsLassoRefusedAs program bytes text = StatesOne (IsFirstFault program bytes) run_refusal_text text

-- texts of lasso files of a program, within the limits, of as many bytes as texts of runs
abbrev pub lassos : Program → TextKind LassoFile
lassos program = record {
  limit = run_limit;
  refused = RunRefused;
  too_long = run_too_long_text;
  StandsFor = IsFileText program;
  IsRefusedAs = IsLassoRefusedAs program;
}

-- a rule that occurs without end, and a line for each such rule
abbrev pub rule_line : ℕ → List ℕ
rule_line rule = codes "rule " ++ (decimal rule ++ codes "\n")

abbrev pub rule_lines : List ℕ → List ℕ
rule_lines [] = []
rule_lines (rule ∷ rules) = rule_line rule ++ rule_lines rules

-- what a turn costs, up to 2^127
abbrev pub cost_line : ℕ → List ℕ
cost_line cost = codes "turn cost " ++ (value_text cost ++ codes "\n")

-- by how much the values at the places change in each turn
abbrev pub moves_line : List ℤ → List ℕ
moves_line differences = codes "moves " ++ (parts_text differences ++ codes "\n")

-- the text of a turn that leads back: its rules, and what it costs
abbrev pub back_text : Turn → List ℕ
back_text turn = codes "endless\n" ++ (rule_lines turn.rules ++ cost_line turn.cost)

-- the text of a turn that moves on: its differences, its rules, and what the first turn costs
abbrev pub on_text : Moving → List ℕ
on_text turn = codes "endless\n" ++ (moves_line turn.differences ++ (rule_lines turn.rules ++ cost_line turn.cost))

-- the text of a turn that can be repeated
abbrev pub turn_text : EndlessTurn → List ℕ
turn_text (Back turn) = back_text turn
turn_text (On turn) = on_text turn

-- the text if a turn leads elsewhere: the first place with another value, or 0 if the symbol is another one
abbrev pub open_text : ℕ → List ℕ
open_text place = codes "not a run: open at place " ++ (decimal place ++ codes "\n")

-- the text if it isn't shown that a step can be repeated: its number, and the atom or the place
abbrev pub stop_line : ℕ → List ℕ → ℕ → List ℕ
stop_line step what number =
    codes "not seen to move on at step " ++ (decimal step ++ (codes ": " ++ (what ++ (decimal number ++ codes "\n"))))

abbrev pub stop_text : ℕ → Stop → List ℕ
stop_text step (AtomStops atom) = stop_line step (codes "atom ") atom
stop_text step (NonlinearPlace place) = stop_line step (codes "place ") place

-- the text if the difference at a place isn't the same for each turn: it passes 128 bits, or is another one after the
-- turn
abbrev pub difference_text : ℕ → List ℕ → List ℕ
difference_text place what = codes "not seen to move on: difference at place " ++ (decimal place ++ (what ++ codes "\n"))

-- the text of the answer on a turn that is to move on
abbrev pub finding_text : Finding → List ℕ
finding_text (Moves turn) = on_text turn
finding_text LeavesSymbol = codes "not seen to move on: other symbol\n"
finding_text (PassesAt place) = difference_text place (codes " passes 128 bits")
finding_text (StopsAt stop) = stop_text stop.number stop.stop
finding_text (ChangesAt place) = difference_text place (codes " changes")

-- the text of what prevents that a turn is repeated, or is shown to be
abbrev pub obstacle_text : Obstacle → List ℕ
obstacle_text (StepIsBad bad) = bad_step_text bad
obstacle_text (TurnIsOpen place) = open_text place
obstacle_text (TurnStops found) = finding_text found
