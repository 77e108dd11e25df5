-- The parser state of a while program without what has been built, by the tokens before it.
use Rattle.std.specs.Prelude.{ℕ, ◌+◌, ◌-◌, ◌^◌, min, Bool, true, false, ◌==◌, ◌&&◌, not, if◌then◌else◌}
use Rattle.while_text.specs.declared.piece.Sort.{Sort}
use Rattle.while_text.specs.declared.piece.Sort.TheVariants as sorts
use Rattle.while_text.specs.declared.piece.Follower.{Follower}
use Rattle.while_text.specs.declared.piece.Follower.TheVariants as followers
use Rattle.while_text.specs.declared.piece.Piece.{Piece}
use Rattle.while_text.specs.declared.phase.Phase.{Phase}
use Rattle.while_text.specs.declared.phase.Phase.TheVariants as phases
use Rattle.while_text.specs.model.Programs.{Relation, AtLeast, MoreThan, AtMost, LessThan, EqualTo}

-- The part of the text that is being read; for the expression that is being read, the number of tokens, the number of
-- open brackets, and whether the last token was `^`; the relation of the atom; the number of rules so far; and the
-- position of the last statement.
pub record Course : Type 0 where
  pub phase : Phase
  pub tokens : ℕ
  pub depth : ℕ
  pub raised : Bool
  pub relation : Relation
  pub rules : ℕ
  pub at : ℕ

-- The state before the first token.
abbrev pub begun_course : Course
begun_course = record {
  phase = phases.Inputs;
  tokens = 0;
  depth = 0;
  raised = false;
  relation = EqualTo;
  rules = 0;
  at = 0;
}

-- The sum in 64 bits, or the greatest number of 64 bits if it is greater.
abbrev pub plus : ℕ → ℕ → ℕ
plus m n = min (m + n) (2 ^ 64 - 1)

-- Whether a token of this sort is `^`.
abbrev pub is_caret : Sort → Bool
is_caret sorts.Caret = true
is_caret _ = false

-- Whether an expression can end with a token of this sort.
abbrev pub ends_operand : Sort → Bool
ends_operand sorts.Name = true
ends_operand (sorts.Number n) = true
ends_operand sorts.Close = true
ends_operand _ = false

-- Whether the follower of an operand continues its expression; after an exponent no `^` does.
abbrev pub goes_on : Bool → Follower → Bool
goes_on raised followers.Operator = true
goes_on true followers.Caret = false
goes_on false followers.Caret = true
goes_on raised followers.Other = false

-- The number of open brackets of an expression after a token.
abbrev pub depth_after : Sort → ℕ → ℕ
depth_after sorts.Open depth = plus depth 1
depth_after sorts.Close depth = depth - 1
depth_after _ depth = depth

-- Whether an expression ends with the token: its brackets are closed then, and the follower doesn't continue it.
abbrev pub is_last : Piece → Course → Bool
is_last p c =
    ends_operand p.sort && ((depth_after p.sort c.depth == 0) && not (goes_on c.raised p.follower))

-- The relation of a token of this sort, or another one if it is none.
abbrev pub relation_of : Sort → Relation → Relation
relation_of sorts.AtLeast other = AtLeast
relation_of sorts.MoreThan other = MoreThan
relation_of sorts.AtMost other = AtMost
relation_of sorts.LessThan other = LessThan
relation_of sorts.Equal other = EqualTo
relation_of _ other = other

-- Whether a token of this sort is a relation.
abbrev pub is_relation : Sort → Bool
is_relation sorts.AtLeast = true
is_relation sorts.MoreThan = true
is_relation sorts.AtMost = true
is_relation sorts.LessThan = true
is_relation sorts.Equal = true
is_relation _ = false

-- The number of negations of a comparison: those of an equation are `<`, and then `>`.
abbrev pub negation_count : Relation → ℕ
negation_count AtLeast = 1
negation_count MoreThan = 1
negation_count AtMost = 1
negation_count LessThan = 1
negation_count EqualTo = 2

-- The state before the first token of an expression.
abbrev pub expression_begins : Phase → Course → Course
expression_begins phase c = record c { phase = phase; tokens = 0; depth = 0; raised = false }

-- The state after a token of an expression.
abbrev pub with_token : Sort → Course → Course
with_token sort c = record c {
  tokens = plus c.tokens 1;
  depth = depth_after sort c.depth;
  raised = is_caret sort;
}

-- The state after the first token of a statement, which adds its first rule.
abbrev pub statement_begins : Phase → ℕ → Course → Course
statement_begins phase at c = record c { phase = phase; rules = plus c.rules 1; at = at }

-- The state after a token among the inputs.
abbrev pub after_input : Sort → Course → Course
after_input sorts.Semicolon c = record c { phase = phases.Statements }
after_input _ c = c

-- The state after a token outside of the parts of statements.
abbrev pub after_statement : Sort → ℕ → Course → Course
after_statement sorts.Name at c = statement_begins phases.Assignment at c
after_statement sorts.Skip at c = statement_begins phases.Statements at c
after_statement sorts.While at c = statement_begins phases.Test at c
after_statement sorts.If at c = statement_begins phases.Test at c
after_statement _ at c = c

-- The state after a token that follows the variable of an assignment.
abbrev pub after_variable : Sort → Course → Course
after_variable sorts.Becomes c = expression_begins phases.Value c
after_variable _ c = c

-- The state after a token in the value of an assignment.
abbrev pub after_value : Sort → Course → Course
after_value sorts.Semicolon c = record c { phase = phases.Statements }
after_value sorts.Question c = c
after_value sort c = with_token sort c

-- The state after a token in a test outside of its atoms.
abbrev pub after_test : Sort → Course → Course
after_test sorts.Open c = expression_begins phases.Left c
after_test sorts.Joint c = expression_begins phases.Left c
after_test _ c = c

-- The state after a token in an atom up to its relation; `TRUE` is an atom by itself.
abbrev pub after_left_side : Sort → Course → Course
after_left_side sort c =
    if is_relation sort
    then record (expression_begins phases.Right c) { relation = relation_of sort c.relation }
    else with_token sort c

abbrev pub after_left : Sort → Course → Course
after_left sorts.Truth c = record c { phase = phases.Test }
after_left sort c = after_left_side sort c

-- The state after a token on the right side of an atom. The atom ends with the last such token, and its negations are
-- rules.
abbrev pub after_right : Piece → Course → Course
after_right p c =
    if is_last p c
    then record (with_token p.sort c) { phase = phases.Test; rules = plus c.rules (negation_count c.relation) }
    else with_token p.sort c

-- The state after a token, by the part that is being read.
abbrev pub after_phase : Phase → Piece → Course → Course
after_phase phases.Inputs p c = after_input p.sort c
after_phase phases.Statements p c = after_statement p.sort p.at c
after_phase phases.Assignment p c = after_variable p.sort c
after_phase phases.Value p c = after_value p.sort c
after_phase phases.Test p c = after_test p.sort c
after_phase phases.Left p c = after_left p.sort c
after_phase phases.Right p c = after_right p c

-- Whether a token of this sort opens a block.
abbrev pub opens_block : Sort → Bool
opens_block sorts.BlockOpen = true
opens_block _ = false

-- The state after a token; after `{`, statements follow.
abbrev pub course_after : Piece → Course → Course
course_after p c = if opens_block p.sort then record c { phase = phases.Statements } else after_phase c.phase p c

-- Whether a test is being read.
abbrev pub is_in_test : Phase → Bool
is_in_test phases.Test = true
is_in_test phases.Left = true
is_in_test phases.Right = true
is_in_test _ = false

-- Whether an expression is being read.
abbrev pub is_in_expression : Phase → Bool
is_in_expression phases.Value = true
is_in_expression phases.Left = true
is_in_expression phases.Right = true
is_in_expression _ = false
