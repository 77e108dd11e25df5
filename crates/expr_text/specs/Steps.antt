-- The steps of parsing an expression.
use Rattle.std.specs.Prelude.{suc, List, [], ◌∷◌, Option, Some, None}
use Rattle.expr_text.specs.Pieces.{Piece, Word, Digits, Open, Close, Plus, Minus, Times, Caret}
use Rattle.expr_text.specs.Trees.{Sum, Factor, Plain, Raised, Base, Number, Named, Bracketed}
use Rattle.expr_text.specs.GrammarStates.{Summed, PlusAfter, MinusAfter, Factored, NoProduct, TimesAfter, Level, Operand}
use Rattle.expr_text.specs.GrammarStates.{Wanted, BaseRead, CaretRead, ExponentRead, GrammarState, empty_level, product_made}
use Rattle.expr_text.specs.GrammarStates.{sum_made}

-- the state that expects an operand, after a sum and a product
abbrev pub wanted : List Level → Summed → Factored → GrammarState
wanted outer sum product =
    record { outer = outer; level = record { sum = sum; product = product; minuses = 0 }; operand = Wanted }

-- the state after a base
abbrev pub read : List Level → Level → Base → GrammarState
read outer level b = record { outer = outer; level = level; operand = BaseRead b }

-- the state after the innermost bracket closes on an expression
abbrev pub closed : List Level → Sum → Option GrammarState
closed [] s = None
closed (level ∷ outer) s = Some (read outer level (Bracketed s))

-- the state after a piece that follows a factor
abbrev pub step_behind : List Level → Level → Factor → Piece → Option GrammarState
step_behind outer level f Times = Some (wanted outer level.sum (TimesAfter (product_made level f)))
step_behind outer level f Plus = Some (wanted outer (PlusAfter (sum_made level f)) NoProduct)
step_behind outer level f Minus = Some (wanted outer (MinusAfter (sum_made level f)) NoProduct)
step_behind outer level f Close = closed outer (sum_made level f)
step_behind outer level f _ = None

-- the state after a piece, depending on the part of the operand that was read last
abbrev pub step_from : List Level → Level → Operand → Piece → Option GrammarState
step_from outer level Wanted (Digits digits) = Some (read outer level (Number digits))
step_from outer level Wanted (Word name) = Some (read outer level (Named name))
step_from outer level Wanted Open = Some (record { outer = level ∷ outer; level = empty_level; operand = Wanted })
step_from outer level Wanted Minus =
    Some (record {
      outer = outer;
      level = record {
        sum = level.sum;
        product = level.product;
        minuses = suc level.minuses;
      };
      operand = Wanted;
    })
step_from outer level Wanted _ = None
step_from outer level (BaseRead b) Caret = Some (record { outer = outer; level = level; operand = CaretRead b })
step_from outer level (BaseRead b) p = step_behind outer level (Plain b) p
step_from outer level (CaretRead b) (Digits digits) =
    Some (record { outer = outer; level = level; operand = ExponentRead b digits })
step_from outer level (CaretRead b) _ = None
step_from outer level (ExponentRead b digits) p = step_behind outer level (Raised b digits) p

-- the state after a piece
abbrev pub step : GrammarState → Piece → Option GrammarState
step f p = step_from f.outer f.level f.operand p

-- the expression that ends here, if it can: no bracket is open, and an operand has been read
abbrev pub finish_from : List Level → Level → Operand → Option Sum
finish_from [] level (BaseRead b) = Some (sum_made level (Plain b))
finish_from [] level (ExponentRead b digits) = Some (sum_made level (Raised b digits))
finish_from [] level Wanted = None
finish_from [] level (CaretRead b) = None
finish_from (l ∷ outer) level operand = None

abbrev pub finish : GrammarState → Option Sum
finish f = finish_from f.outer f.level f.operand
