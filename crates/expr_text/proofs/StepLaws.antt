-- The pieces of the new state of an expression are those of the old one and the piece just read.
use Rattle.std.specs.Prelude.{◌≡◌, ℕ, zero, suc, List, [], ◌∷◌, Option, Some, None, ⊤, refl}
use Rattle.std.proofs.Common.{ap}
use Rattle.expr_text.specs.Pieces.{Piece, Word, Digits, Open, Close, Plus, Minus, Times, Caret, Related, Joining}
use Rattle.expr_text.specs.Trees.{Sum, Factor, Plain, Raised, Negated, sum_behind, product_behind, factor_behind}
use Rattle.expr_text.specs.GrammarStates.{Summed, NoSum, PlusAfter, MinusAfter, Factored, NoProduct, TimesAfter, Level}
use Rattle.expr_text.specs.GrammarStates.{Operand, Wanted, BaseRead, CaretRead, ExponentRead, GrammarState, summed_behind}
use Rattle.expr_text.specs.GrammarStates.{factored_behind, minuses_behind, level_behind, outer_behind, behind_state, negated}
use Rattle.expr_text.specs.GrammarStates.{product_with, sum_made}
use Rattle.expr_text.specs.Steps.{closed, step_behind, step_from, step, finish_from, finish}

module _ {P : Type 0} (into : Piece → P) where
  -- the pieces of a factor after this many `-` signs are those signs, and the factor's own
  pub negated_pieces : (n : ℕ) (f : Factor) (before : List P) → factor_behind into (negated n f) before ≡ factor_behind into f (minuses_behind into n before)
  negated_pieces zero f before = refl
  negated_pieces (suc n) f before = negated_pieces n (Negated f) before

  -- the pieces of a product with one more factor are those of the product, and the factor's own
  pub product_pieces : (product : Factored) (n : ℕ) (f : Factor) (before : List P) →
      product_behind into (product_with product (negated n f)) before ≡ factor_behind into f (minuses_behind into n (factored_behind into product before))
  product_pieces NoProduct n f before = negated_pieces n f before
  product_pieces (TimesAfter p) n f before = negated_pieces n f (into Times ∷ product_behind into p before)

  -- the pieces of a sum whose last factor is this one are those of the parts before it, and its own
  pub sum_pieces : (sum : Summed) (product : Factored) (n : ℕ) (f : Factor) (before : List P) →
      sum_behind into (sum_made (record { sum = sum; product = product; minuses = n }) f) before
      ≡ factor_behind into f (level_behind into (record { sum = sum; product = product; minuses = n }) before)
  sum_pieces NoSum product n f before = product_pieces product n f before
  sum_pieces (PlusAfter s) product n f before = product_pieces product n f (into Plus ∷ sum_behind into s before)
  sum_pieces (MinusAfter s) product n f before = product_pieces product n f (into Minus ∷ sum_behind into s before)

  -- The pieces of the state after a piece are those before it and this one.
  abbrev pub Adds : List P → GrammarState → Piece → Option GrammarState → Type 0
  Adds before f p None = ⊤
  Adds before f p (Some g) = behind_state into g before ≡ into p ∷ behind_state into f before

  -- the expression that ends here consists of the pieces of the state
  abbrev pub IsWritten : List P → GrammarState → Option Sum → Type 0
  IsWritten before f None = ⊤
  IsWritten before f (Some s) = sum_behind into s before ≡ behind_state into f before

  -- the pieces of a state whose operand is a factor
  abbrev pub factor_pieces : List Level → Level → Factor → List P → List P
  factor_pieces outer level f before = factor_behind into f (level_behind into level (outer_behind into outer before))

  abbrev pub AddsTo : List P → List P → Piece → Option GrammarState → Type 0
  AddsTo before written p None = ⊤
  AddsTo before written p (Some g) = behind_state into g before ≡ into p ∷ written

  closes : (outer : List Level) (level : Level) (f : Factor) (before : List P) → AddsTo before (factor_pieces outer level f before) Close (closed outer (sum_made level f))
  closes [] level f before = tt
  closes (l ∷ outer) level f before = ap (λ written. into Close ∷ written) (sum_pieces level.sum level.product level.minuses f (outer_behind into (l ∷ outer) before))

  step_behind_adds : (outer : List Level) (level : Level) (f : Factor) (p : Piece) (before : List P) → AddsTo before (factor_pieces outer level f before) p (step_behind outer level f p)
  step_behind_adds outer level f Times before = ap (λ written. into Times ∷ written) (product_pieces level.product level.minuses f (summed_behind into level.sum (outer_behind into outer before)))
  step_behind_adds outer level f Plus before = ap (λ written. into Plus ∷ written) (sum_pieces level.sum level.product level.minuses f (outer_behind into outer before))
  step_behind_adds outer level f Minus before = ap (λ written. into Minus ∷ written) (sum_pieces level.sum level.product level.minuses f (outer_behind into outer before))
  step_behind_adds outer level f Close before = closes outer level f before
  step_behind_adds outer level f (Word name) before = tt
  step_behind_adds outer level f (Digits ds) before = tt
  step_behind_adds outer level f Open before = tt
  step_behind_adds outer level f Caret before = tt
  step_behind_adds outer level f (Related sign) before = tt
  step_behind_adds outer level f (Joining joint) before = tt

  -- the pieces of the state after a piece are those before it and this one, for each part of an operand
  step_from_adds : (outer : List Level) (level : Level) (operand : Operand) (p : Piece) (before : List P) →
      Adds before (record { outer = outer; level = level; operand = operand }) p (step_from outer level operand p)
  step_from_adds outer level Wanted (Digits ds) before = refl
  step_from_adds outer level Wanted (Word name) before = refl
  step_from_adds outer level Wanted Open before = refl
  step_from_adds outer level Wanted Minus before = refl
  step_from_adds outer level Wanted Close before = tt
  step_from_adds outer level Wanted Plus before = tt
  step_from_adds outer level Wanted Times before = tt
  step_from_adds outer level Wanted Caret before = tt
  step_from_adds outer level Wanted (Related sign) before = tt
  step_from_adds outer level Wanted (Joining joint) before = tt
  step_from_adds outer level (BaseRead b) Caret before = refl
  step_from_adds outer level (BaseRead b) (Word name) before = tt
  step_from_adds outer level (BaseRead b) (Digits ds) before = tt
  step_from_adds outer level (BaseRead b) Open before = tt
  step_from_adds outer level (BaseRead b) Close before = step_behind_adds outer level (Plain b) Close before
  step_from_adds outer level (BaseRead b) Plus before = step_behind_adds outer level (Plain b) Plus before
  step_from_adds outer level (BaseRead b) Minus before = step_behind_adds outer level (Plain b) Minus before
  step_from_adds outer level (BaseRead b) Times before = step_behind_adds outer level (Plain b) Times before
  step_from_adds outer level (BaseRead b) (Related sign) before = tt
  step_from_adds outer level (BaseRead b) (Joining joint) before = tt
  step_from_adds outer level (CaretRead b) (Digits ds) before = refl
  step_from_adds outer level (CaretRead b) (Word name) before = tt
  step_from_adds outer level (CaretRead b) Open before = tt
  step_from_adds outer level (CaretRead b) Close before = tt
  step_from_adds outer level (CaretRead b) Plus before = tt
  step_from_adds outer level (CaretRead b) Minus before = tt
  step_from_adds outer level (CaretRead b) Times before = tt
  step_from_adds outer level (CaretRead b) Caret before = tt
  step_from_adds outer level (CaretRead b) (Related sign) before = tt
  step_from_adds outer level (CaretRead b) (Joining joint) before = tt
  step_from_adds outer level (ExponentRead b ds) p before = step_behind_adds outer level (Raised b ds) p before

  -- The pieces of the state after a piece are those before it and this one.
  pub step_adds : (f : GrammarState) (p : Piece) (before : List P) → Adds before f p (step f p)
  step_adds f p before = step_from_adds f.outer f.level f.operand p before

  finish_from_written : (outer : List Level) (level : Level) (operand : Operand) (before : List P) →
      IsWritten before (record { outer = outer; level = level; operand = operand }) (finish_from outer level operand)
  finish_from_written [] level Wanted before = tt
  finish_from_written [] level (BaseRead b) before = sum_pieces level.sum level.product level.minuses (Plain b) before
  finish_from_written [] level (CaretRead b) before = tt
  finish_from_written [] level (ExponentRead b ds) before = sum_pieces level.sum level.product level.minuses (Raised b ds) before
  finish_from_written (l ∷ outer) level operand before = tt

  -- an expression that ends consists of the pieces read
  pub finish_written : (f : GrammarState) (before : List P) → IsWritten before f (finish f)
  finish_written f before = finish_from_written f.outer f.level f.operand before
