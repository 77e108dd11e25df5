-- Worked values: which small grammars can be parsed, and the answers to texts of one of them.
use Rattle.std.specs.Prelude.{◌≡◌, ℕ, ◌+◌, ◌==◌, ◌&&◌, if◌then◌else◌, true, false, List, [], ◌∷◌, length, Option}
use Rattle.std.specs.Prelude.{Some, None}
use Rattle.text_core.specs.Laws.{Laws, AnswersAll, OneTree, OneFirst}
use Rattle.text_core.specs.Tokens.{Token}
use Rattle.text_core.specs.Readers.{Fault, IsBeginning, IsWhole}
use Rattle.text_core.specs.Reading.{Answer, Parsed, Refused, answer}
use Rattle.text_grammar.specs.declared.symbol.Symbol.{Symbol}
use Rattle.text_grammar.specs.declared.symbol.Symbol.TheVariants.{Piece, Made, Mark}
use Rattle.text_grammar.specs.declared.symbol.Item.TheVariants.{APiece, AMade, AMark, Or, End}
use Rattle.text_grammar.specs.Grammars.{Grammar, Event, Read, rules_of}
use Rattle.text_grammar.specs.Sounding.{is_readable}
use Rattle.text_grammar.specs.Texts.{Text, Writes, reader}
use Rattle.text_grammar.specs.Silence.{ParsedWhereSilent, ShownWhereDerived}
use Rattle.text_grammar.specs.ByteTexts.{tokens}
use Rattle.text_grammar.specs.SmallRows.{RowsAreRead}
use Rattle.text_grammar.specs.WorkedRows.{NumeralsAreWorkedOut, PartsAreWorked, ByteTextsAreWorkedOut}
use Rattle.text_grammar.specs.WorkedSigns.{SignsAreWorkedOut}
use Rattle.text_grammar.specs.WorkedValues.{ValuesAreWorkedOut}

-- the classes of a grammar with three: piece 0, piece 1, and all others
abbrev pub class_of : ℕ → ℕ
class_of p = if p == 0 then 0 else if p == 1 then 1 else 2

-- the grammar with these rules
abbrev pub grammar_with : List (List (List Symbol)) → Grammar ℕ
grammar_with rules = record { rules = rules; classes = 3; class_of = class_of; sample = λ c. c; rounds = 5 }

-- brackets: a text is empty, or 0, a text, and 1
abbrev pub brackets : Grammar ℕ
brackets = grammar_with (((Piece 0 ∷ Made 0 ∷ Piece 1 ∷ []) ∷ [] ∷ []) ∷ [])

-- the grammar with these rules can be parsed; it can't be parsed
abbrev pub Can : List (List (List Symbol)) → Type 0
Can rules = is_readable (grammar_with rules) ≡ true

abbrev pub Cannot : List (List (List Symbol)) → Type 0
Cannot rules = is_readable (grammar_with rules) ≡ false

-- the grammar of text = more; more = last; last = 0, with a table computed in this many rounds
abbrev pub chain : ℕ → Grammar ℕ
chain rounds = record (grammar_with (((Made 1 ∷ []) ∷ []) ∷ ((Made 2 ∷ []) ∷ []) ∷ ((Piece 0 ∷ []) ∷ []) ∷ [])) {
  rounds = rounds;
}

-- which grammars can be parsed
pub record GrammarsAreWorkedOut : Type 0 where
  pub brackets_can : is_readable brackets ≡ true
  -- a row of 0 with 1 between each two can be parsed: text = 0 more; more = 1 0 more | nothing
  pub row : Can (((Piece 0 ∷ Made 1 ∷ []) ∷ []) ∷ ((Piece 1 ∷ Piece 0 ∷ Made 1 ∷ []) ∷ [] ∷ []) ∷ [])
  -- marks can be anywhere: text = a mark, 0, a mark, text | a mark, 1
  pub marks : Can (((Mark 0 ∷ Piece 0 ∷ Mark 1 ∷ Made 0 ∷ []) ∷ (Mark 2 ∷ Piece 1 ∷ []) ∷ []) ∷ [])
  -- left recursion can't be parsed: text = text 0 | 0
  pub left_recursion : Cannot (((Made 0 ∷ Piece 0 ∷ []) ∷ (Piece 0 ∷ []) ∷ []) ∷ [])
  -- nor can two alternatives that begin with the same piece: text = 0 1 | 0 2
  pub alike : Cannot (((Piece 0 ∷ Piece 1 ∷ []) ∷ (Piece 0 ∷ Piece 2 ∷ []) ∷ []) ∷ [])
  -- two alternatives that differ only in their marks can't be parsed
  pub marks_alone : Cannot (((Mark 0 ∷ []) ∷ (Mark 1 ∷ []) ∷ []) ∷ [])
  -- the dangling else can't be parsed: text = 0 text more | 2; more = 1 text | nothing
  pub dangling_else : Cannot (((Piece 0 ∷ Made 0 ∷ Made 1 ∷ []) ∷ (Piece 2 ∷ []) ∷ [])
      ∷ ((Piece 1 ∷ Made 0 ∷ []) ∷ [] ∷ []) ∷ [])
  -- an else that is closed can be parsed: text = 0 text more 2 | nothing; more = 1 text | nothing
  pub closed_else : Can (((Piece 0 ∷ Made 0 ∷ Made 1 ∷ Piece 2 ∷ []) ∷ [] ∷ [])
      ∷ ((Piece 1 ∷ Made 0 ∷ []) ∷ [] ∷ []) ∷ [])
  -- left recursion after a nonterminal that derives nothing can't be parsed: text = more text 0 | 1; more = nothing
  pub hidden_recursion : Cannot (((Made 1 ∷ Made 0 ∷ Piece 0 ∷ []) ∷ (Piece 1 ∷ []) ∷ []) ∷ ([] ∷ []) ∷ [])
  -- left recursion through another nonterminal can't be parsed: text = more 0 | 1; more = text
  pub indirect_recursion : Cannot (((Made 1 ∷ Piece 0 ∷ []) ∷ (Piece 1 ∷ []) ∷ []) ∷ ((Made 0 ∷ []) ∷ []) ∷ [])
  -- alternatives whose nonterminals begin with the same piece can't be parsed: text = more 1 | last; more = 0; last = 0
  pub alike_behind : Cannot (((Made 1 ∷ Piece 1 ∷ []) ∷ (Made 2 ∷ []) ∷ [])
      ∷ ((Piece 0 ∷ []) ∷ []) ∷ ((Piece 0 ∷ []) ∷ []) ∷ [])
  -- a table of two rounds is incomplete for the chain, one of three is complete
  pub too_few_rounds : is_readable (chain 2) ≡ false
  pub enough_rounds : is_readable (chain 3) ≡ true
  -- a sample piece must belong to its class; and there must be a rule
  pub other_sample : is_readable (record brackets { sample = λ c. 0 }) ≡ false
  pub nothing_at_all : Cannot []
  -- the text must derive something, unlike text = 0 text; and each nonterminal and each class must exist
  pub endless : Cannot (((Piece 0 ∷ Made 0 ∷ []) ∷ []) ∷ [])
  pub no_rule : Cannot (((Piece 0 ∷ Made 1 ∷ []) ∷ []) ∷ [])
  pub no_class : Cannot (((Piece 3 ∷ []) ∷ []) ∷ [])
  -- a nullable nonterminal that begins with a class that can follow it can't be parsed: text = more 0; more = 0 |
  -- nothing
  pub passed_before : Cannot (((Made 1 ∷ Piece 0 ∷ []) ∷ []) ∷ ((Piece 0 ∷ []) ∷ [] ∷ []) ∷ [])

-- which rules items spell
pub record RulesAreSpelled : Type 0 where
  -- `0 text 1 | nothing` spells the rule of brackets
  pub brackets_spelled : rules_of (APiece 0 ∷ AMade 0 ∷ APiece 1 ∷ Or ∷ End ∷ []) ≡ brackets.rules
  -- no items denote no rule, `End` by itself denotes one rule with one empty alternative, and items without an `End`
  -- denote no rule
  pub none : rules_of [] ≡ []
  pub one : rules_of (End ∷ []) ≡ ([] ∷ []) ∷ []
  pub open_end : rules_of (APiece 0 ∷ Or ∷ AMark 1 ∷ []) ≡ []
  pub two : rules_of (AMark 1 ∷ End ∷ APiece 0 ∷ End ∷ []) ≡ ((Mark 1 ∷ []) ∷ []) ∷ ((Piece 0 ∷ []) ∷ []) ∷ []

-- a refusal of a kind at a position
abbrev pub fault : ℕ → ℕ → Fault ℕ
fault kind at = record { kind = kind; at = at }

-- a 0 after two pieces has faults of kinds 2 and 1 at its own position; a 1 after three pieces has kind 1 after its
-- byte, and kind 2 at it
abbrev pub reported_fault : List (Event ℕ) → Token ℕ → List (Fault ℕ)
reported_fault es t =
    if (length es == 2) && (t.piece == 0) then fault 2 t.at ∷ fault 1 t.at ∷ []
    else if (length es == 3) && (t.piece == 1) then fault 1 (t.at + 1) ∷ fault 2 t.at ∷ []
    else []

-- a text that ends too early is refused with kind 3, and a piece that can't follow with kind 4
abbrev pub stop_kind : Option ℕ → ℕ
stop_kind None = 3
stop_kind (Some p) = 4

-- texts of brackets, which denote their events
abbrev pub bracket_text : Text ℕ (List (Event ℕ)) ℕ
bracket_text = record {
  grammar = brackets;
  value = λ es. es;
  faults = reported_fault;
  floor = λ es at. at;
  number = λ kind. kind;
  stop_kind = stop_kind;
}

-- the answer to pieces of one byte each; the answer that is a refusal of a kind at a position
abbrev pub bracket_answer : List ℕ → Answer (List (Event ℕ)) ℕ
bracket_answer ps = answer (reader bracket_text) (length ps) (tokens ps)

abbrev pub bracket_refused : ℕ → ℕ → Answer (List (Event ℕ)) ℕ
bracket_refused kind at = Refused (fault kind at)

-- which brackets are derived: 0 0 1 1 and the empty text, but neither 0 nor 1 0; pieces that have been read have the
-- last one first
pub record BracketsAreWorkedOut : Type 0 where
  pub two : Writes bracket_text (Read 0 ∷ Read 0 ∷ Read 1 ∷ Read 1 ∷ []) (0 ∷ 0 ∷ 1 ∷ 1 ∷ [])
  pub nothing_at_all : Writes bracket_text [] []
  pub open_begins : IsBeginning (reader bracket_text) (0 ∷ [])
  pub open_is_none : ¬ IsWhole (reader bracket_text) (0 ∷ [])
  pub closed_first : ¬ IsBeginning (reader bracket_text) (1 ∷ [])
  pub other : ¬ IsBeginning (reader bracket_text) (2 ∷ [])

-- the answers to brackets
pub record BracketsAreAnswered : Type 0 where
  pub none : bracket_answer [] ≡ Parsed []
  pub one : bracket_answer (0 ∷ 1 ∷ []) ≡ Parsed (Read 0 ∷ Read 1 ∷ [])
  -- a text that ends too early is refused with another kind than a piece that can't follow
  pub too_early : bracket_answer (0 ∷ []) ≡ bracket_refused 3 1
  pub other_piece : bracket_answer (0 ∷ 2 ∷ []) ≡ bracket_refused 4 1
  pub closed_first : bracket_answer (1 ∷ []) ≡ bracket_refused 4 0
  -- of two refusals at one byte the one with the lesser kind is reported, even if it is found later and the text breaks
  -- off
  pub lesser : bracket_answer (0 ∷ 0 ∷ 0 ∷ 1 ∷ 1 ∷ 1 ∷ []) ≡ bracket_refused 1 2
  pub before_end : bracket_answer (0 ∷ 0 ∷ 0 ∷ []) ≡ bracket_refused 1 2
  -- of two refusals the one at the lesser position is reported, whatever their kinds
  pub nearer : bracket_answer (0 ∷ 0 ∷ 1 ∷ 1 ∷ []) ≡ bracket_refused 2 3
  -- for a piece that can't follow nothing else is reported
  pub not_shown : bracket_answer (0 ∷ 1 ∷ 0 ∷ []) ≡ bracket_refused 4 2

-- a lawful text is read according to the laws of readers; a tree is accepted exactly if it is derived without faults;
-- and a refusal is shown exactly if it is a fault of a piece that is derived after others
pub record TextsAreRead {P T K : Type 0} (x : Text P T K) : Type 0 where
  pub laws : Laws (reader x)
  pub answers : AnswersAll (reader x)
  pub one_tree : OneTree (reader x)
  pub one_first : OneFirst (reader x)
  pub silence : ParsedWhereSilent x
  pub shown : ShownWhereDerived x

-- all worked values of grammars, with those of a small text in single bytes; and the laws hold of each lawful text
pub record WorkedGrammars : Type 0 where
  pub grammars : GrammarsAreWorkedOut
  pub spelled : RulesAreSpelled
  pub brackets_worked : BracketsAreWorkedOut
  pub brackets_answered : BracketsAreAnswered
  pub brackets_read : TextsAreRead bracket_text
  pub rows_read : RowsAreRead
  pub numerals : NumeralsAreWorkedOut
  pub parts : PartsAreWorked
  pub byte_texts : ByteTextsAreWorkedOut
  pub signs : SignsAreWorkedOut
  pub values : ValuesAreWorkedOut
