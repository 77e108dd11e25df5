-- While programs as texts of their grammar, read token by token.
use Rattle.std.specs.Prelude.{◌≡◌, ℕ, ◌-◌, Bool, true, false, ◌||◌, if◌then◌else◌, is_some, List, [], ◌∷◌}
use Rattle.std.specs.Prelude.{◌++◌, Option, Some, None}
use Rattle.text_grammar.specs.text_core.Tokens.{Token}
use Rattle.text_grammar.specs.text_core.Readers.{Fault, onto}
use Rattle.text_grammar.specs.Grammars.{Event, Read, Did}
use Rattle.text_grammar.specs.Texts.{Text}
use Rattle.text_grammar.specs.Folds.{refusals}
use Rattle.while_text.specs.model.Programs.{Name}
use Rattle.while_text.specs.while_model.Statements.{Statements}
use Rattle.while_text.specs.while_tree.Views.{joined}
use Rattle.while_text.specs.declared.kind.Kind.{Kind}
use Rattle.while_text.specs.declared.kind.Kind.TheVariants.{NotAscii, Syntax}
use Rattle.while_text.specs.declared.piece.Sort.{Sort}
use Rattle.while_text.specs.declared.piece.Sort.TheVariants as sorts
use Rattle.while_text.specs.declared.piece.Piece.{Piece}
use Rattle.while_text.specs.declared.phase.Standing.{Standing}
use Rattle.while_text.specs.declared.phase.Standing.TheVariants.{Sound, Faulty, Settled}
use Rattle.while_text.specs.Grammar.{while_grammar}
use Rattle.while_text.specs.Courses.{Course, begun_course, course_after, is_in_test}
use Rattle.while_text.specs.Drafts.{Draft, begun_draft, draft_after}
use Rattle.while_text.specs.Faults.{fault_of_first, fault_of_last, fault_of_rules, number_of}

-- A while program as it is written: the names of its inputs, its statements, and the position of each statement.
pub record Source : Type 0 where
  pub names : List Name
  pub program : Statements
  pub at : List ℕ

-- The parser state: the parts being read, the draft, and whether there has been a fault.
pub record State : Type 0 where
  pub course : Course
  pub draft : Draft
  pub standing : Standing

-- The state before the first token.
abbrev pub begun : State
begun = record { course = begun_course; draft = begun_draft; standing = Sound }

-- Whether the token has a fault.
abbrev pub has_fault : List ℕ → Piece → State → Bool
has_fault text p s =
    is_some (fault_of_first text p s.course s.draft)
    || (is_some (fault_of_last text p s.course s.draft) || is_some (fault_of_rules p s.course))

-- Whether the text has had a fault, after a token that has one or not, within a test or not: in a test a later fault
-- can be reported at the first byte of the statement.
abbrev pub standing_after : Standing → Bool → Bool → Standing
standing_after Sound false in_test = Sound
standing_after Sound true true = Faulty
standing_after Sound true false = Settled
standing_after Faulty fault true = Faulty
standing_after Faulty fault false = Settled
standing_after Settled fault in_test = Settled

-- The draft after a token; it stays as it is once there has been a fault.
abbrev pub draft_made : Standing → List ℕ → Piece → Course → Draft → Draft
draft_made Sound text p c d = draft_after text p c d
draft_made Faulty text p c d = d
draft_made Settled text p c d = d

-- The state after a token of a text.
abbrev pub read : List ℕ → Piece → State → State
read text p s = record {
  course = course_after p s.course;
  draft = draft_made s.standing text p s.course s.draft;
  standing = standing_after s.standing (has_fault text p s) (is_in_test (course_after p s.course).phase);
}

-- The state after events, of which the last one is first.
abbrev pub state : List ℕ → List (Event Piece) → State
state text [] = begun
state text (Read p ∷ es) = read text p (state text es)
state text (Did m ∷ es) = state text es

-- The faults of a token: after a fault in a test, only that of too many rules counts.
abbrev pub faults_of : Standing → List ℕ → State → Token Piece → List (Fault Kind)
faults_of Sound text s t =
    refusals (fault_of_first text t.piece s.course s.draft) t.at
    ++ (refusals (fault_of_last text t.piece s.course s.draft) (t.upto - 1)
    ++ refusals (fault_of_rules t.piece s.course) s.course.at)
faults_of Faulty text s t = refusals (fault_of_rules t.piece s.course) s.course.at
faults_of Settled text s t = []

-- The least position of a later fault: that of the next token once there has been a fault outside of a test.
abbrev pub floor_of : Standing → ℕ → ℕ
floor_of Sound at = 0
floor_of Faulty at = 0
floor_of Settled at = at

-- The program that was read.
abbrev pub source_in : Draft → Source
source_in d = record { names = d.names; program = joined d.body; at = d.positions }

-- The kind of refusal for a token that can't follow, or for a text that ends too early.
abbrev pub off_sort : Sort → Kind
off_sort sorts.Strange = NotAscii
off_sort _ = Syntax

abbrev pub stop_kind : Option Piece → Kind
stop_kind None = Syntax
stop_kind (Some p) = off_sort p.sort

-- The text as one of a while program.
abbrev pub while_text : List ℕ → Text Piece Source Kind
while_text text = record {
  grammar = while_grammar;
  value = λ es. source_in (state text (onto es [])).draft;
  faults = λ es t. faults_of (state text es).standing text (state text es) t;
  floor = λ es at. floor_of (state text es).standing at;
  number = number_of;
  stop_kind = stop_kind;
}
