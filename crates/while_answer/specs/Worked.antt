-- Worked values of the texts of answers to while programs, and of the bounds of small programs, on both sides.
use Rattle.std.specs.Prelude.{◌≡◌, [], ◌∷◌, codes}
use Rattle.while_text.specs.model.Bounds.{Constant}
use Rattle.while_text.specs.while_model.Statements.{Skip, Nothing, Simple}
use Rattle.while_text.specs.while_model.Worked.{one_input, counting}
use Rattle.while_text.specs.declared.kind.Kind.TheVariants.{NotAscii, Syntax, UnknownName, Limit}
use Rattle.while_text.specs.declared.kind.WhileKind.TheVariants.{Rules}
use Rattle.while_text.specs.Reading.{Source}
use Rattle.while_answer.specs.Texts.{point_lines, refusal_text}
use Rattle.while_answer.specs.Spelled.{IsFirstFault}
use Rattle.while_answer.specs.Executed.{HasStepsWithin}

-- Worked texts of positions and refusals; the first fault of an empty text is its end.
pub record TextsAreWorkedOut : Type 0 where
  pub none : point_lines 0 [] ≡ []
  pub points : point_lines 0 (9 ∷ 26 ∷ []) ≡ codes "point 0 at 9\npoint 1 at 26\n"
  pub later : point_lines 10 (107 ∷ []) ≡ codes "point 10 at 107\n"
  pub unknown : refusal_text (record { kind = UnknownName; at = 9 }) ≡ codes "program refused at 9: UnknownName\n"
  pub strange : refusal_text (record { kind = NotAscii; at = 0 }) ≡ codes "program refused at 0: NotAscii\n"
  pub limit : refusal_text (record { kind = Limit Rules; at = 12 }) ≡ codes "program refused at 12: Limit Rules\n"
  pub nothing : IsFirstFault [] (record { kind = Syntax; at = 0 })

-- The program `input A; skip;`.
abbrev pub skipping : Source
skipping = record { names = one_input; program = Simple Skip Nothing; at = 9 ∷ [] }

-- The program `input A; while (A >= 1) { A := A - 1; }`.
abbrev pub counting_down : Source
counting_down = record { names = one_input; program = counting; at = 9 ∷ 26 ∷ [] }

-- A program with one statement that does nothing has at most one step, and not always none; from 1 the counting loop
-- has three steps, and so not always at most two.
pub record StepsAreWorkedOut : Type 0 where
  pub one_step : HasStepsWithin skipping (Constant 1)
  pub some_step : ¬ (HasStepsWithin skipping (Constant 0))
  pub three_steps : ¬ (HasStepsWithin counting_down (Constant 2))
