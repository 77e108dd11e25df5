-- The variables among the pieces read so far, and the number of these pieces.
use Rattle.std.specs.Prelude.{ℕ, Bool, true, false, ◌||◌, codes, List, [], ◌∷◌, length, Option, Some, None}
use Rattle.its_model.specs.model.Programs.{Name}
use Rattle.its_model.specs.text_core.Names.{is_same}
use Rattle.expr_text.specs.Pieces.{Piece, Word, Digits, Open, Plus, Minus, Times, Caret, Related}
use Rattle.expr_text.specs.Terms.{with_sum, with_product, with_base}
use Rattle.expr_text.specs.GrammarStates.{Summed, NoSum, PlusAfter, MinusAfter, Factored, NoProduct, TimesAfter, Level}
use Rattle.expr_text.specs.GrammarStates.{Operand, Wanted, BaseRead, CaretRead, ExponentRead, GrammarState, behind_state}
use Rattle.expr_text.specs.Steps as inner
use Rattle.expr_text.specs.Guards.{with_atoms}
use Rattle.expr_text.specs.GuardGrammarStates.{Conjoined, NoAtoms, JointAfter, GuardGrammarState, LeftSide, RightSide, expression_in}

-- the variables known once each part of a state is read, in order of first occurrence
abbrev pub with_summed : List Name → Summed → List Name
with_summed names NoSum = names
with_summed names (PlusAfter s) = with_sum names s
with_summed names (MinusAfter s) = with_sum names s

abbrev pub with_factored : List Name → Factored → List Name
with_factored names NoProduct = names
with_factored names (TimesAfter p) = with_product names p

abbrev pub with_level : List Name → Level → List Name
with_level names l = with_factored (with_summed names l.sum) l.product

abbrev pub with_outer : List Name → List Level → List Name
with_outer names [] = names
with_outer names (l ∷ outer) = with_level (with_outer names outer) l

abbrev pub with_operand : List Name → Operand → List Name
with_operand names Wanted = names
with_operand names (BaseRead b) = with_base names b
with_operand names (CaretRead b) = with_base names b
with_operand names (ExponentRead b digits) = with_base names b

abbrev pub names_with_state : List Name → GrammarState → List Name
names_with_state names f = with_operand (with_level (with_outer names f.outer) f.level) f.operand

abbrev pub with_conjoined : List Name → Conjoined → List Name
with_conjoined names NoAtoms = names
with_conjoined names (JointAfter atoms joint) = with_atoms names atoms

-- the variables known before the expression that is being read
abbrev pub before_expression : List Name → GuardGrammarState → List Name
before_expression names (LeftSide c e) = with_conjoined names c
before_expression names (RightSide c l sign e) = with_sum (with_conjoined names c) l

abbrev pub names_with_guard_state : List Name → GuardGrammarState → List Name
names_with_guard_state names g = names_with_state (before_expression names g) (expression_in g)

-- a word is that of the atom that always holds
abbrev pub truth_worded : Name → Bool
truth_worded name = is_same name (codes "TRUE") || is_same name (codes "true")

-- how many pieces of an expression have been read
abbrev pub token_count : GrammarState → ℕ
token_count f = length (behind_state (λ p. p) f [])

-- a state is given
abbrev pub is_state : Option GrammarState → Bool
is_state None = false
is_state (Some f) = true

-- a piece continues an expression
abbrev pub goes_on_with : GrammarState → Piece → Bool
goes_on_with f p = is_state (inner.step f p)

-- a piece is an operator or a relation, so that the word before it is a name
abbrev pub operates : Piece → Bool
operates Plus = true
operates Minus = true
operates Times = true
operates Caret = true
operates (Related sign) = true
operates _ = false

-- an expression can begin with this piece
abbrev pub begins_expression : Piece → Bool
begins_expression (Word name) = true
begins_expression (Digits digits) = true
begins_expression Open = true
begins_expression Minus = true
begins_expression _ = false
