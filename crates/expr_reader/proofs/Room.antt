-- The counters of an expression are at most its number of pieces.
use Rattle.std.proofs.Common.{◌≡◌, ℕ, zero, suc, ◌-◌, ◌<◌, ◌≤◌, ◌^◌, List, [], ◌∷◌, ap, length, arith}
use Rattle.model.specs.Programs.{Name}
use Rattle.expr_text.specs.Pieces.{Piece, Open, Plus, Minus, Times}
use Rattle.expr_text.specs.Trees.{Sum, Alone, Added, Subtracted, Product, Single, Multiplied, Factor, Plain, Raised}
use Rattle.expr_text.specs.Trees.{Negated, Base, Number, Named, Bracketed, sum_behind, product_behind, factor_behind}
use Rattle.expr_text.specs.Trees.{base_behind}
use Rattle.expr_text.specs.GrammarStates.{Operand, Wanted, BaseRead, CaretRead, ExponentRead, GrammarState, summed_behind}
use Rattle.expr_text.specs.GrammarStates.{factored_behind, minuses_behind, level_behind, outer_behind, operand_behind}
use Rattle.expr_text.specs.StateNames.{token_count}
use Rattle.expr_reader.specs.declared.expression.Expression.{Expression}
use Rattle.expr_reader.specs.Standing.{RepresentsExpression, IsFresh, HasRoom}

mutual
  -- appending the pieces of an expression makes a list no shorter
  sum_longer : (s : Sum) (before : List Piece) → length before ≤ length (sum_behind (λ p. p) s before)
  sum_longer (Alone p) before = product_longer p before
  sum_longer (Added s p) before = let a = sum_longer s before in let b = product_longer p (Plus ∷ sum_behind (λ p. p) s before) in omega (arith, a, b)
  sum_longer (Subtracted s p) before = let a = sum_longer s before in let b = product_longer p (Minus ∷ sum_behind (λ p. p) s before) in omega (arith, a, b)

  product_longer : (p : Product) (before : List Piece) → length before ≤ length (product_behind (λ p. p) p before)
  product_longer (Single f) before = factor_longer f before
  product_longer (Multiplied p f) before = let a = product_longer p before in let b = factor_longer f (Times ∷ product_behind (λ p. p) p before) in omega (arith, a, b)

  factor_longer : (f : Factor) (before : List Piece) → length before ≤ length (factor_behind (λ p. p) f before)
  factor_longer (Plain b) before = base_longer b before
  factor_longer (Raised b ds) before = let a = base_longer b before in omega (arith, a)
  factor_longer (Negated f) before = let a = factor_longer f (Minus ∷ before) in omega (arith, a)

  base_longer : (b : Base) (before : List Piece) → length before ≤ length (base_behind (λ p. p) b before)
  base_longer (Number ds) before = omega arith
  base_longer (Named n) before = omega arith
  base_longer (Bracketed s) before = let a = sum_longer s (Open ∷ before) in omega (arith, a)

operand_longer : (p : Operand) (before : List Piece) → length before ≤ length (operand_behind (λ p. p) p before)
operand_longer Wanted before = omega arith
operand_longer (BaseRead b) before = base_longer b before
operand_longer (CaretRead b) before = let a = base_longer b before in omega (arith, a)
operand_longer (ExponentRead b ds) before = let a = base_longer b before in omega (arith, a)

minuses_longer : (n : ℕ) (before : List Piece) → n ≤ length (minuses_behind (λ p. p) n before)
minuses_longer zero before = omega arith
minuses_longer (suc n) before = let a = minuses_longer n before in omega (arith, a)

-- there are at most as many `-` signs before an operand as pieces have been read
pub minuses_counted : (f : GrammarState) → f.level.minuses ≤ token_count f
minuses_counted f =
    let a = operand_longer f.operand (level_behind (λ p. p) f.level (outer_behind (λ p. p) f.outer [])) in
    let b = minuses_longer f.level.minuses (factored_behind (λ p. p) f.level.product (summed_behind (λ p. p) f.level.sum (outer_behind (λ p. p) f.outer []))) in
    omega (arith, a, b)

-- an expression of fewer than 2^32 - 1 pieces has room, if there are fewer than 2^32 variables
pub room : (before : List Name) (f : GrammarState) (names : List Name) (e : Expression) → RepresentsExpression before f names e → token_count f < 2 ^ 32 - 1 → length names < 2 ^ 32 → HasRoom names e
room before f names e stands few variables =
    let counted = minuses_counted f in
    let same : e.level.minuses ≡ f.level.minuses = ap (λ t. t.level.minuses) stands.state_is_represented in
    let tokens = stands.tokens_are in
    record { minuses = omega (arith, counted, same, few); tokens = omega (arith, tokens, few); variables = variables }

-- an expression of which nothing has been read has room
pub fresh_room : (names : List Name) (e : Expression) → IsFresh e → length names < 2 ^ 32 → HasRoom names e
fresh_room names e fresh variables =
    let same : e.level.minuses ≡ 0 = ap (λ t. t.level.minuses) fresh.state_is_represented in
    let tokens = fresh.tokens_are in
    record { minuses = omega (arith, same); tokens = omega (arith, tokens); variables = variables }
