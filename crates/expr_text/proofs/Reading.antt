-- Each expression can be read: its pieces lead from state to state, within any larger text that contains it.
use Rattle.std.specs.Prelude.{◌≡◌, ℕ, suc, List, [], ◌∷◌, Option, Some, refl}
use Rattle.expr_text.specs.Pieces.{Piece, Word, Digits, Open, Close, Plus, Minus, Times, Caret}
use Rattle.expr_text.specs.Trees.{Sum, Alone, Added, Subtracted, Product, Single, Multiplied, Factor, Plain, Raised}
use Rattle.expr_text.specs.Trees.{Negated, Base, Number, Named, Bracketed, sum_behind, product_behind, factor_behind}
use Rattle.expr_text.specs.Trees.{base_behind}
use Rattle.expr_text.specs.GrammarStates.{Summed, NoSum, PlusAfter, MinusAfter, Factored, NoProduct, TimesAfter, Level, Wanted}
use Rattle.expr_text.specs.GrammarStates.{BaseRead, CaretRead, ExponentRead, GrammarState, beginning, negated, product_with, sum_with}
use Rattle.expr_text.specs.Steps.{wanted, read, step_behind, step, finish}

-- a level with this many `-` signs before its operand
abbrev pub at_level : Summed → Factored → ℕ → Level
at_level sum product n = record { sum = sum; product = product; minuses = n }

-- the state after a factor with this many `-` signs before it
abbrev pub behind_factor : List Level → Summed → Factored → ℕ → Factor → GrammarState
behind_factor outer sum product n (Plain b) = record { outer = outer; level = at_level sum product n; operand = BaseRead b }
behind_factor outer sum product n (Raised b digits) = record { outer = outer; level = at_level sum product n; operand = ExponentRead b digits }
behind_factor outer sum product n (Negated f) = behind_factor outer sum product (suc n) f

-- the state after a product and after a sum
abbrev pub behind_product : List Level → Summed → Product → GrammarState
behind_product outer sum (Single f) = behind_factor outer sum NoProduct 0 f
behind_product outer sum (Multiplied p f) = behind_factor outer sum (TimesAfter p) 0 f

abbrev pub behind_sum : List Level → Sum → GrammarState
behind_sum outer (Alone p) = behind_product outer NoSum p
behind_sum outer (Added s p) = behind_product outer (PlusAfter s) p
behind_sum outer (Subtracted s p) = behind_product outer (MinusAfter s) p

-- the step from after a factor doesn't depend on the factor's exponent
abbrev pub goes_behind : List Level → Summed → Factored → ℕ → Factor → Piece → Option GrammarState
goes_behind outer sum product n f p = step_behind outer (at_level sum product n) f p

times_behind : (outer : List Level) (sum : Summed) (product : Factored) (n : ℕ) (f : Factor) →
    step (behind_factor outer sum product n f) Times ≡ Some (wanted outer sum (TimesAfter (product_with product (negated n f))))
times_behind outer sum product n (Plain b) = refl
times_behind outer sum product n (Raised b digits) = refl
times_behind outer sum product n (Negated f) = times_behind outer sum product (suc n) f

plus_behind : (outer : List Level) (sum : Summed) (product : Factored) (n : ℕ) (f : Factor) →
    step (behind_factor outer sum product n f) Plus ≡ Some (wanted outer (PlusAfter (sum_with sum (product_with product (negated n f)))) NoProduct)
plus_behind outer sum product n (Plain b) = refl
plus_behind outer sum product n (Raised b digits) = refl
plus_behind outer sum product n (Negated f) = plus_behind outer sum product (suc n) f

minus_behind : (outer : List Level) (sum : Summed) (product : Factored) (n : ℕ) (f : Factor) →
    step (behind_factor outer sum product n f) Minus ≡ Some (wanted outer (MinusAfter (sum_with sum (product_with product (negated n f)))) NoProduct)
minus_behind outer sum product n (Plain b) = refl
minus_behind outer sum product n (Raised b digits) = refl
minus_behind outer sum product n (Negated f) = minus_behind outer sum product (suc n) f

close_behind : (level : Level) (outer : List Level) (sum : Summed) (product : Factored) (n : ℕ) (f : Factor) →
    step (behind_factor (level ∷ outer) sum product n f) Close ≡ Some (read outer level (Bracketed (sum_with sum (product_with product (negated n f)))))
close_behind level outer sum product n (Plain b) = refl
close_behind level outer sum product n (Raised b digits) = refl
close_behind level outer sum product n (Negated f) = close_behind level outer sum product (suc n) f

finish_behind : (sum : Summed) (product : Factored) (n : ℕ) (f : Factor) →
    finish (behind_factor [] sum product n f) ≡ Some (sum_with sum (product_with product (negated n f)))
finish_behind sum product n (Plain b) = refl
finish_behind sum product n (Raised b digits) = refl
finish_behind sum product n (Negated f) = finish_behind sum product (suc n) f

-- a `*` after a product, or after a sum, leads to the same state as after the last factor
product_times : (outer : List Level) (sum : Summed) (p : Product) → step (behind_product outer sum p) Times ≡ Some (wanted outer sum (TimesAfter p))
product_times outer sum (Single f) = times_behind outer sum NoProduct 0 f
product_times outer sum (Multiplied p f) = times_behind outer sum (TimesAfter p) 0 f

product_plus : (outer : List Level) (sum : Summed) (p : Product) → step (behind_product outer sum p) Plus ≡ Some (wanted outer (PlusAfter (sum_with sum p)) NoProduct)
product_plus outer sum (Single f) = plus_behind outer sum NoProduct 0 f
product_plus outer sum (Multiplied p f) = plus_behind outer sum (TimesAfter p) 0 f

product_minus : (outer : List Level) (sum : Summed) (p : Product) → step (behind_product outer sum p) Minus ≡ Some (wanted outer (MinusAfter (sum_with sum p)) NoProduct)
product_minus outer sum (Single f) = minus_behind outer sum NoProduct 0 f
product_minus outer sum (Multiplied p f) = minus_behind outer sum (TimesAfter p) 0 f

product_close : (level : Level) (outer : List Level) (sum : Summed) (p : Product) → step (behind_product (level ∷ outer) sum p) Close ≡ Some (read outer level (Bracketed (sum_with sum p)))
product_close level outer sum (Single f) = close_behind level outer sum NoProduct 0 f
product_close level outer sum (Multiplied p f) = close_behind level outer sum (TimesAfter p) 0 f

product_finish : (sum : Summed) (p : Product) → finish (behind_product [] sum p) ≡ Some (sum_with sum p)
product_finish sum (Single f) = finish_behind sum NoProduct 0 f
product_finish sum (Multiplied p f) = finish_behind sum (TimesAfter p) 0 f

sum_plus : (outer : List Level) (s : Sum) → step (behind_sum outer s) Plus ≡ Some (wanted outer (PlusAfter s) NoProduct)
sum_plus outer (Alone p) = product_plus outer NoSum p
sum_plus outer (Added s p) = product_plus outer (PlusAfter s) p
sum_plus outer (Subtracted s p) = product_plus outer (MinusAfter s) p

sum_minus : (outer : List Level) (s : Sum) → step (behind_sum outer s) Minus ≡ Some (wanted outer (MinusAfter s) NoProduct)
sum_minus outer (Alone p) = product_minus outer NoSum p
sum_minus outer (Added s p) = product_minus outer (PlusAfter s) p
sum_minus outer (Subtracted s p) = product_minus outer (MinusAfter s) p

sum_close : (level : Level) (outer : List Level) (s : Sum) → step (behind_sum (level ∷ outer) s) Close ≡ Some (read outer level (Bracketed s))
sum_close level outer (Alone p) = product_close level outer NoSum p
sum_close level outer (Added s p) = product_close level outer (PlusAfter s) p
sum_close level outer (Subtracted s p) = product_close level outer (MinusAfter s) p

-- the expression can end after a sum
pub sum_finish : (s : Sum) → finish (behind_sum [] s) ≡ Some s
sum_finish (Alone p) = product_finish NoSum p
sum_finish (Added s p) = product_finish (PlusAfter s) p
sum_finish (Subtracted s p) = product_finish (MinusAfter s) p

-- pieces of a larger text lead to an expression's state, and each piece that continues the expression leads to its next
-- state
module _ {P : Type 0} (into : Piece → P) (At : List P → GrammarState → Type 0)
    (steps : (done : List P) (e g : GrammarState) (p : Piece) → At done e → step e p ≡ Some g → At (into p ∷ done) g) where
  mutual
    -- the pieces of a sum lead from where an operand is expected to the state after the sum
    sum_from : (s : Sum) (outer : List Level) (done : List P) → At done (wanted outer NoSum NoProduct) → At (sum_behind into s done) (behind_sum outer s)
    sum_from (Alone p) outer done h = product_from p outer NoSum done h
    sum_from (Added s p) outer done h =
        product_from p outer (PlusAfter s) (into Plus ∷ sum_behind into s done)
        (steps (sum_behind into s done) (behind_sum outer s) (wanted outer (PlusAfter s) NoProduct) Plus (sum_from s outer done h) (sum_plus outer s))
    sum_from (Subtracted s p) outer done h =
        product_from p outer (MinusAfter s) (into Minus ∷ sum_behind into s done)
        (steps (sum_behind into s done) (behind_sum outer s) (wanted outer (MinusAfter s) NoProduct) Minus (sum_from s outer done h) (sum_minus outer s))

    product_from : (p : Product) (outer : List Level) (sum : Summed) (done : List P) → At done (wanted outer sum NoProduct) → At (product_behind into p done) (behind_product outer sum p)
    product_from (Single f) outer sum done h = factor_from f outer sum NoProduct 0 done h
    product_from (Multiplied p f) outer sum done h =
        factor_from f outer sum (TimesAfter p) 0 (into Times ∷ product_behind into p done)
        (steps (product_behind into p done) (behind_product outer sum p) (wanted outer sum (TimesAfter p)) Times (product_from p outer sum done h) (product_times outer sum p))

    factor_from : (f : Factor) (outer : List Level) (sum : Summed) (product : Factored) (n : ℕ) (done : List P)
        → At done (record { outer = outer; level = at_level sum product n; operand = Wanted }) → At (factor_behind into f done) (behind_factor outer sum product n f)
    factor_from (Plain b) outer sum product n done h = base_from b outer (at_level sum product n) done h
    factor_from (Raised b digits) outer sum product n done h =
        steps (into Caret ∷ base_behind into b done) (record { outer = outer; level = at_level sum product n; operand = CaretRead b }) _ (Digits digits)
        (steps (base_behind into b done) (read outer (at_level sum product n) b) _ Caret (base_from b outer (at_level sum product n) done h) refl) refl
    factor_from (Negated f) outer sum product n done h =
        factor_from f outer sum product (suc n) (into Minus ∷ done)
        (steps done (record { outer = outer; level = at_level sum product n; operand = Wanted }) (record { outer = outer; level = at_level sum product (suc n); operand = Wanted }) Minus h refl)

    base_from : (b : Base) (outer : List Level) (level : Level) (done : List P) → At done (record { outer = outer; level = level; operand = Wanted }) → At (base_behind into b done) (read outer level b)
    base_from (Number digits) outer level done h = steps done (record { outer = outer; level = level; operand = Wanted }) (read outer level (Number digits)) (Digits digits) h refl
    base_from (Named name) outer level done h = steps done (record { outer = outer; level = level; operand = Wanted }) (read outer level (Named name)) (Word name) h refl
    base_from (Bracketed s) outer level done h =
        steps (sum_behind into s (into Open ∷ done)) (behind_sum (level ∷ outer) s) (read outer level (Bracketed s)) Close
        (sum_from s (level ∷ outer) (into Open ∷ done)
        (steps done (record { outer = outer; level = level; operand = Wanted }) (wanted (level ∷ outer) NoSum NoProduct) Open h refl))
        (sum_close level outer s)

  -- the pieces of an expression lead from its beginning to a state in which it can end
  pub expression_is_read : (s : Sum) (done : List P) → At done beginning → At (sum_behind into s done) (behind_sum [] s)
  expression_is_read s done h = sum_from s [] done h
