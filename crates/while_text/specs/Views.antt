-- The parser state of the code as plain data.
use Rattle.std.specs.Prelude.{◌≡◌, List, map, Option, Some, None}
use Rattle.text_grammar.specs.text_core.Readers.{Fault}
use Rattle.expr_reader.specs.Views.{grammar_state_of}
use Rattle.while_text.specs.its_model.Views.{name_of, relation_of, atom_of}
use Rattle.while_text.specs.poly_terms.Views.{term_of}
use Rattle.while_text.specs.while_tree.Views.{stmt_of, statements_of}
use Rattle.while_text.specs.while_tree.declared.stmt.Whole as whole
use Rattle.while_text.specs.declared.course.Course as course
use Rattle.while_text.specs.declared.block.Block as block
use Rattle.while_text.specs.declared.block.Block.TheVariants as blocks
use Rattle.while_text.specs.declared.draft.Draft as draft
use Rattle.while_text.specs.declared.text.WhileReading as reading
use Rattle.while_text.specs.declared.kind.Kind.{Kind}
use Rattle.while_text.specs.declared.kind.Kind.TheVariants as kinds
use Rattle.while_text.specs.declared.error.WhileError.{WhileError}
use Rattle.while_text.specs.declared.error.WhileError.TheVariants.{NotAscii, Syntax, NumberTooLarge, UnknownName}
use Rattle.while_text.specs.declared.error.WhileError.TheVariants.{RepeatedName, Limit, Memory}
use Rattle.while_text.specs.Courses.{Course}
use Rattle.while_text.specs.Drafts.{Block, InLoop, InFirst, InSecond, Draft}
use Rattle.while_text.specs.Reading.{State, Source}

-- The part of the parser state without what has been built.
abbrev pub course_of : course.Course → Course
course_of c = record {
  phase = c.phase;
  tokens = c.tokens;
  depth = c.depth;
  raised = c.raised;
  relation = relation_of c.relation;
  rules = c.rules;
  at = c.at;
}

-- An open block.
abbrev pub block_of : block.Block → Block
block_of (blocks.InLoop test before) = InLoop (map atom_of test.items) (map stmt_of before.items)
block_of (blocks.InFirst test before) = InFirst (map atom_of test.items) (map stmt_of before.items)
block_of (blocks.InSecond test first before) =
    InSecond (map atom_of test.items) (statements_of first.items) (map stmt_of before.items)

-- The draft.
abbrev pub draft_of : draft.Draft → Draft
draft_of d = record {
  names = map name_of d.names.items;
  variable = d.variable;
  chosen = d.chosen;
  grammar_state = grammar_state_of d.grammar_state;
  value = term_of d.value;
  left = term_of d.left;
  test = map atom_of d.test.items;
  opener = d.opener;
  blocks = map block_of d.blocks.items;
  body = map stmt_of d.body.items;
  positions = d.positions.items;
}

-- The whole parser state.
abbrev pub state_of : reading.WhileReading → State
state_of s = record { course = course_of s.course; draft = draft_of s.draft; standing = s.standing }

-- A program as it was written.
abbrev pub source_of : whole.Whole → Source
source_of w =
    record { names = map name_of w.names.items; program = statements_of w.body.items; at = w.at.items }

-- The refusal of an error; want of memory has none.
abbrev pub refusal_in : WhileError → Option (Fault Kind)
refusal_in (NotAscii at) = Some (record { kind = kinds.NotAscii; at = at })
refusal_in (Syntax at) = Some (record { kind = kinds.Syntax; at = at })
refusal_in (NumberTooLarge at) = Some (record { kind = kinds.NumberTooLarge; at = at })
refusal_in (UnknownName at) = Some (record { kind = kinds.UnknownName; at = at })
refusal_in (RepeatedName at) = Some (record { kind = kinds.RepeatedName; at = at })
refusal_in (Limit kind at) = Some (record { kind = kinds.Limit kind; at = at })
refusal_in Memory = None
