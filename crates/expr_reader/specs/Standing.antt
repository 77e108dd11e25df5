-- Which written state the code's state within an expression represents, over the variables so far.
use Rattle.std.specs.Prelude.{◌≡◌, ◌-◌, ◌<◌, ◌≤◌, ◌^◌, List, [], length, Some, IsTrue, ⊤}
use Rattle.std.specs.List.{list_all}
use Rattle.std.specs.Char.{is_ascii_digit}
use Rattle.model.specs.Programs.{Name}
use Rattle.model.specs.Terms.{Term}
use Rattle.model.specs.Limits.{coefficient_limit}
use Rattle.expr_text.specs.Pieces.{Piece, Digits}
use Rattle.expr_text.specs.Trees.{Sum}
use Rattle.expr_text.specs.Terms.{number_of, sum_term}
use Rattle.expr_text.specs.GrammarStates.{GrammarState}
use Rattle.expr_text.specs.Steps.{step, finish}
use Rattle.expr_text.specs.StateNames.{names_with_state, token_count}
use Rattle.expr_text.specs.TermGrammarStates as terms
use Rattle.expr_text.specs.TermGrammarStates.{terms_of_state, limited}
use Rattle.expr_reader.specs.declared.expression.Expression.{Expression}
use Rattle.expr_reader.specs.Views.{grammar_state_of}

-- the code's state represents a written state that was read after the variables `before`; `names` are the variables now
pub record RepresentsExpression (before : List Name) (f : GrammarState) (names : List Name) (e : Expression) : Type 0 where
  pub names_are : names ≡ names_with_state before f
  pub state_is_represented : grammar_state_of e ≡ terms_of_state names f
  pub tokens_are : e.tokens ≡ token_count f

-- nothing has been read
pub record IsFresh (e : Expression) : Type 0 where
  pub state_is_represented : grammar_state_of e ≡ record { outer = []; level = terms.empty_level; operand = terms.Wanted }
  pub tokens_are : e.tokens ≡ 0

-- if the piece is a row of bytes as a number, they are digits, which write a number within the limit on coefficients
abbrev pub IsModest : Piece → Type 0
IsModest (Digits digits) = IsTrue (list_all is_ascii_digit digits) × (number_of digits ≤ coefficient_limit)
IsModest _ = ⊤

-- one more token can be counted, and one more variable can be numbered
pub record HasRoom (names : List Name) (e : Expression) : Type 0 where
  pub minuses : e.level.minuses < 2 ^ 32 - 1
  pub tokens : e.tokens < 2 ^ 64 - 1
  pub variables : length names < 2 ^ 32

-- the code's state after a piece represents the written state after it
pub record Leads (old : List Name) (e : Expression) (p : Piece) (new : List Name) (d : Expression) : Type 0 where
  pub each : (before : List Name) (f g : GrammarState) → RepresentsExpression before f old e → step f p ≡ Some g → IsModest p
      → RepresentsExpression before g new d

-- the term is that of the written expression that ends here
pub record Ends (e : Expression) (t : Term) : Type 0 where
  pub each : (before names : List Name) (f : GrammarState) (s : Sum) → RepresentsExpression before f names e → finish f ≡ Some s
      → t ≡ limited (sum_term names s)

-- after an expression has ended, nothing of another one has been read
pub record Clears (e d : Expression) : Type 0 where
  pub each : (before names : List Name) (f : GrammarState) (s : Sum) → RepresentsExpression before f names e → finish f ≡ Some s → IsFresh d
