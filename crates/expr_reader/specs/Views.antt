-- The code's state within an expression as plain data.
use Rattle.std.specs.Prelude.{map}
use Rattle.model.specs.Terms.{Term}
use Rattle.poly_terms.specs.Views.{term_of}
use Rattle.expr_text.specs.TermGrammarStates as terms
use Rattle.expr_text.specs.Pieces as plain
use Rattle.expr_reader.specs.declared.piece.Piece.{Piece}
use Rattle.expr_reader.specs.declared.piece.Piece.TheVariants as pieces
use Rattle.expr_reader.specs.declared.piece.Sign.{Sign}
use Rattle.expr_reader.specs.declared.piece.Sign.TheVariants as signs
use Rattle.expr_reader.specs.declared.piece.Joint.{Joint}
use Rattle.expr_reader.specs.declared.piece.Joint.TheVariants as joints
use Rattle.expr_reader.specs.declared.expression.Summed.{Summed}
use Rattle.expr_reader.specs.declared.expression.Summed.TheVariants.{NoSum, PlusAfter, MinusAfter}
use Rattle.expr_reader.specs.declared.expression.Factored.{Factored}
use Rattle.expr_reader.specs.declared.expression.Factored.TheVariants.{NoProduct, TimesAfter}
use Rattle.expr_reader.specs.declared.expression.Level.{Level}
use Rattle.expr_reader.specs.declared.expression.Operand.{Operand}
use Rattle.expr_reader.specs.declared.expression.Operand.TheVariants.{Wanted, BaseRead, CaretRead, ExponentRead}
use Rattle.expr_reader.specs.declared.expression.Expression.{Expression}

-- the plain parts before a product, and before a factor
abbrev pub summed_of : Summed → terms.Summed
summed_of NoSum = terms.NoSum
summed_of (PlusAfter e) = terms.PlusAfter (term_of e)
summed_of (MinusAfter e) = terms.MinusAfter (term_of e)

abbrev pub factored_of : Factored → terms.Factored
factored_of NoProduct = terms.NoProduct
factored_of (TimesAfter e) = terms.TimesAfter (term_of e)

-- the plain parts before an operand
abbrev pub level_of : Level → terms.Level
level_of l = record { sum = summed_of l.sum; product = factored_of l.product; minuses = l.minuses }

-- the plain part of the operand that was read last
abbrev pub operand_of : Operand → terms.Operand
operand_of Wanted = terms.Wanted
operand_of (BaseRead e) = terms.BaseRead (term_of e)
operand_of (CaretRead e) = terms.CaretRead (term_of e)
operand_of (ExponentRead e n) = terms.ExponentRead (term_of e) n

-- the part that has been read, as plain data
abbrev pub grammar_state_of : Expression → terms.GrammarState
grammar_state_of e = record { outer = map level_of e.outer.items; level = level_of e.level; operand = operand_of e.operand }

-- the term of an expression that ends here
abbrev pub term_in : Expression → Term
term_in e = terms.sum_made (level_of e.level) (operand_of e.operand)

-- the plain piece of a piece of the code
abbrev pub sign_of : Sign → plain.Sign
sign_of signs.AtLeast = plain.AtLeastSign
sign_of signs.MoreThan = plain.MoreThanSign
sign_of signs.AtMost = plain.AtMostSign
sign_of signs.LessThan = plain.LessThanSign
sign_of signs.Equal = plain.EqualSign
sign_of signs.DoubleEqual = plain.DoubleEqualSign

abbrev pub joint_of : Joint → plain.Joint
joint_of joints.Ampersands = plain.Ampersands
joint_of joints.Wedge = plain.Wedge

abbrev pub piece_of : Piece → plain.Piece
piece_of (pieces.Word name) = plain.Word name.now
piece_of (pieces.Digits digits) = plain.Digits digits.now
piece_of pieces.Open = plain.Open
piece_of pieces.Close = plain.Close
piece_of pieces.Plus = plain.Plus
piece_of pieces.Minus = plain.Minus
piece_of pieces.Times = plain.Times
piece_of pieces.Caret = plain.Caret
piece_of (pieces.Related sign) = plain.Related (sign_of sign)
piece_of (pieces.Joining joint) = plain.Joining (joint_of joint)
