-- The worked values of grammars hold.
use Rattle.text_grammar.proofs.SmallRowLaws.{rows_read}
use Rattle.text_grammar.proofs.WorkedRowLaws.{numerals_worked, parts_worked, byte_texts_worked}
use Rattle.text_grammar.proofs.WorkedSignLaws.{signs_worked_out}
use Rattle.text_grammar.proofs.WorkedValueLaws.{values_worked}
use Rattle.std.proofs.Common.{ℕ, ◌≡◌, ◌<◌, Bool, true, false, cond, [], ◌∷◌, refl, ap, arith, lit<, inl, inr}
use Rattle.std.specs.Prelude.{◌==◌, ◌+◌, ◌≤◌, ◌&&◌, List, length}
use Rattle.text_core.specs.Tokens.{Token}
use Rattle.text_core.specs.Readers.{Fault}
use Rattle.text_core.specs.Faults.{Among}
use Rattle.text_core.proofs.FirstFaults.{nowhere_begins, whole_ends, answers_all, one_tree_each, one_first_each}
use Rattle.text_grammar.specs.Grammars.{Event, Read, nothing, piece, made}
use Rattle.text_grammar.specs.Texts.{Text, reader, IsLawful}
use Rattle.text_grammar.specs.Worked.{class_of, fault, reported_fault, bracket_text, GrammarsAreWorkedOut, RulesAreSpelled}
use Rattle.text_grammar.specs.Worked.{BracketsAreWorkedOut, BracketsAreAnswered, TextsAreRead, WorkedGrammars}
use Rattle.text_grammar.proofs.ReaderLaws.{reader_laws}
use Rattle.text_grammar.proofs.SilenceLaws.{parsed_where_silent}
use Rattle.text_grammar.proofs.ShownLaws.{shown_where_derived}

grammars : GrammarsAreWorkedOut
grammars = record {
  brackets_can = refl;
  row = refl;
  marks = refl;
  left_recursion = refl;
  alike = refl;
  marks_alone = refl;
  dangling_else = refl;
  closed_else = refl;
  hidden_recursion = refl;
  indirect_recursion = refl;
  alike_behind = refl;
  too_few_rounds = refl;
  enough_rounds = refl;
  other_sample = refl;
  nothing_at_all = refl;
  endless = refl;
  no_rule = refl;
  no_class = refl;
  passed_before = refl;
}

spelled : RulesAreSpelled
spelled = record { brackets_spelled = refl; none = refl; one = refl; open_end = refl; two = refl }

-- each piece has one of three classes
classed : (p : ℕ) → class_of p < 3
classed p = go (p == 0) (p == 1)
  where
    go : (a b : Bool) → cond a 0 (cond b 1 2) < 3
    go true b = lit< tt
    go false true = lit< tt
    go false false = lit< tt

-- a fault of a piece is at its position or after it
behind_it : (es : List (Event ℕ)) (t : Token ℕ) (y : Fault ℕ) → Among y (reported_fault es t) → t.at ≤ y.at
behind_it es t y a = go ((length es == 2) && (t.piece == 0)) ((length es == 3) && (t.piece == 1)) a
  where
    at_one : (kind at : ℕ) → t.at ≤ at → y ≡ fault kind at → t.at ≤ y.at
    at_one kind at l e = let k : y.at ≡ at = ap (λ (z : Fault ℕ). z.at) e in omega (arith, k, l)

    go : (a b : Bool) → Among y (cond a (fault 2 t.at ∷ fault 1 t.at ∷ []) (cond b (fault 1 (t.at + 1) ∷ fault 2 t.at ∷ []) [])) → t.at ≤ y.at
    go true b (inl e) = at_one 2 t.at (omega arith) e
    go true b (inr (inl e)) = at_one 1 t.at (omega arith) e
    go true b (inr (inr n)) = absurd n
    go false true (inl e) = at_one 1 (t.at + 1) (omega arith) e
    go false true (inr (inl e)) = at_one 2 t.at (omega arith) e
    go false true (inr (inr n)) = absurd n
    go false false n = absurd n

-- texts of brackets are lawful
lawful : IsLawful bracket_text
lawful = record {
  readable = refl;
  classed = classed;
  differ = λ a b e. e;
  floor_next = λ es at. omega arith;
  floor_shown = behind_it;
  floor_did = λ es m at. omega arith;
  floor_read = λ es t at some behind. omega (arith, some, behind);
}

brackets : BracketsAreWorkedOut
brackets = record {
  two = (Read 0 ∷ Read 0 ∷ Read 1 ∷ Read 1 ∷ [], made 0 _ (inl refl) (piece 0 (made 0 _ (inl refl) (piece 0 (made 0 _ (inr (inl refl)) (piece 1 (piece 1 nothing)))))), refl);
  nothing_at_all = ([], made 0 _ (inr (inl refl)) nothing, refl);
  open_begins = (reader_laws bracket_text lawful).goes_on (0 ∷ []) _ refl;
  open_is_none = whole_ends (reader bracket_text) (reader_laws bracket_text lawful) (0 ∷ []) _ refl refl;
  closed_first = nowhere_begins (reader bracket_text) (reader_laws bracket_text lawful) (1 ∷ []) refl;
  other = nowhere_begins (reader bracket_text) (reader_laws bracket_text lawful) (2 ∷ []) refl;
}

answered : BracketsAreAnswered
answered = record {
  none = refl;
  one = refl;
  too_early = refl;
  other_piece = refl;
  closed_first = refl;
  lesser = refl;
  before_end = refl;
  nearer = refl;
  not_shown = refl;
}

-- a lawful text is read
pub texts_read : {P T K : Type 0} (x : Text P T K) → IsLawful x → TextsAreRead x
texts_read x h = record {
  laws = reader_laws x h;
  answers = answers_all (reader x) (reader_laws x h);
  one_tree = one_tree_each (reader x) (reader_laws x h);
  one_first = one_first_each (reader x) (reader_laws x h);
  silence = parsed_where_silent x h;
  shown = shown_where_derived x h;
}

pub worked_grammars : WorkedGrammars
worked_grammars = record {
  grammars = grammars;
  spelled = spelled;
  brackets_worked = brackets;
  brackets_answered = answered;
  brackets_read = texts_read bracket_text lawful;
  rows_read = rows_read;
  numerals = numerals_worked;
  parts = parts_worked;
  byte_texts = byte_texts_worked;
  signs = signs_worked_out;
  values = values_worked;
}
