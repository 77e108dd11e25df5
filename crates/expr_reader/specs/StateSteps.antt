-- The steps of parsing, in terms.
use Rattle.std.specs.Prelude.{◌≡◌, ◌+◌, List, [], ◌∷◌, ◌++◌, IsTrue, IsFalse}
use Rattle.std.specs.List.{list_all}
use Rattle.std.specs.Char.{is_ascii_digit}
use Rattle.model.specs.Programs.{Name}
use Rattle.model.specs.Terms.{Variable}
use Rattle.text_core.specs.Names.{position_of}
use Rattle.expr_text.specs.Pieces.{Piece, Word, Digits, Open, Close, Plus, Minus, Times, Caret, Related, Joining}
use Rattle.expr_text.specs.Terms.{with_name}
use Rattle.expr_text.specs.TermGrammarStates.{Level, Operand, Wanted, BaseRead, CaretRead, ExponentRead, GrammarState, PlusAfter}
use Rattle.expr_text.specs.TermGrammarStates.{MinusAfter, NoProduct, TimesAfter, empty_level, product_made, sum_made}
use Rattle.expr_text.specs.TermGrammarStates.{with_digits, with_caret, is_empty}

-- the variables known once a piece is read
abbrev pub with_piece : List Name → Piece → List Name
with_piece names (Word name) = with_name names name
with_piece names _ = names

-- the state has these parts
pub record HasParts (f : GrammarState) (outer : List Level) (level : Level) (operand : Operand) : Type 0 where
  pub outer_is : f.outer ≡ outer
  pub level_is : f.level ≡ level
  pub operand_is : f.operand ≡ operand

-- the parts before the operand after a `+`, and after a `*`
abbrev pub behind_plus : Level → Operand → Level
behind_plus l o = record { sum = PlusAfter (sum_made l o); product = NoProduct; minuses = 0 }

abbrev pub behind_times : Level → Operand → Level
behind_times l o = record { sum = l.sum; product = TimesAfter (product_made l o); minuses = 0 }

-- the parts before the operand after a `-` that negates it, and after one that follows a sum
abbrev pub behind_minus : Level → Operand → Level
behind_minus l Wanted = record { sum = l.sum; product = l.product; minuses = l.minuses + 1 }
behind_minus l (BaseRead t) = record { sum = MinusAfter (sum_made l (BaseRead t)); product = NoProduct; minuses = 0 }
behind_minus l (CaretRead t) = record { sum = MinusAfter (sum_made l (CaretRead t)); product = NoProduct; minuses = 0 }
behind_minus l (ExponentRead t n) =
    record { sum = MinusAfter (sum_made l (ExponentRead t n)); product = NoProduct; minuses = 0 }

-- the innermost bracket closes, if one is open
pub record Closes (f g : GrammarState) : Type 0 where
  pub outer_is : f.outer ≡ g.outer ++ g.level ∷ []
  pub operand_is : g.operand ≡ BaseRead (sum_made f.level f.operand)

-- the state that a piece leads to
abbrev pub StepsTo : List Name → GrammarState → Piece → GrammarState → Type 0
StepsTo names f (Word name) g = HasParts g f.outer f.level (BaseRead (Variable (position_of name names)))
StepsTo names f (Digits digits) g =
    IsTrue (list_all is_ascii_digit digits) → HasParts g f.outer f.level (with_digits f.operand digits)
StepsTo names f Open g = HasParts g (f.outer ++ f.level ∷ []) empty_level f.operand
StepsTo names f Close g = IsFalse (is_empty f.outer) → Closes f g
StepsTo names f Plus g = HasParts g f.outer (behind_plus f.level f.operand) Wanted
StepsTo names f Minus g = HasParts g f.outer (behind_minus f.level f.operand) Wanted
StepsTo names f Times g = HasParts g f.outer (behind_times f.level f.operand) Wanted
StepsTo names f Caret g = HasParts g f.outer f.level (with_caret f.operand)
StepsTo names f (Related sign) g = HasParts g f.outer f.level f.operand
StepsTo names f (Joining joint) g = HasParts g f.outer f.level f.operand
