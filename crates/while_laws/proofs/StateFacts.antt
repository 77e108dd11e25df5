-- The effect of a token on the state of parsing an expression: whether an operand has been read, and how many brackets
-- are open.
use Rattle.std.proofs.Common.{◌≡◌, ℕ, zero, suc, ◌+◌, ◌-◌, ◌≤◌, Bool, true, false, not, ◌&&◌, List, [], ◌∷◌, length}
use Rattle.std.proofs.Common.{Option, Some, None, refl, sym, ap, subst, ◌∙◌, arith}
use Rattle.std.specs.Prelude.{◌==◌, ⊤}
use Rattle.std.proofs.lemmas.Bool.Decides.{nat_tests}
use Rattle.expr_text.specs.Pieces.{Piece, Word, Digits, Open, Close, Plus, Minus, Times, Caret, Related, Joining}
use Rattle.expr_text.specs.Trees.{Sum, Alone, Added, Subtracted, Product, Single, Multiplied, Factor, Plain, Raised}
use Rattle.expr_text.specs.Trees.{Negated, Base, Number, Named, Bracketed, sum_behind, product_behind, factor_behind}
use Rattle.expr_text.specs.Trees.{base_behind}
use Rattle.expr_text.specs.GrammarStates.{Summed, NoSum, PlusAfter, MinusAfter, Factored, NoProduct, TimesAfter, Level, Operand}
use Rattle.expr_text.specs.GrammarStates.{Wanted, BaseRead, CaretRead, ExponentRead, GrammarState, sum_made, summed_behind}
use Rattle.expr_text.specs.GrammarStates.{factored_behind, minuses_behind, level_behind, outer_behind, operand_behind}
use Rattle.expr_text.specs.Steps.{closed, step_behind, step_from, step, finish_from, finish}
use Rattle.expr_text.specs.StateNames.{token_count}
use Rattle.while_text.specs.declared.piece.Follower.{Follower}
use Rattle.while_text.specs.declared.piece.Follower.TheVariants as followers
use Rattle.while_text.specs.Courses.{goes_on}

-- Whether an operand ends with a token, and whether the token is `^`.
abbrev pub ends : Piece → Bool
ends (Word name) = true
ends (Digits digits) = true
ends Close = true
ends _ = false

abbrev pub is_power : Piece → Bool
is_power Caret = true
is_power _ = false

-- How a token continues the expression before it.
abbrev pub follower_in : Piece → Follower
follower_in Plus = followers.Operator
follower_in Minus = followers.Operator
follower_in Times = followers.Operator
follower_in Caret = followers.Caret
follower_in _ = followers.Other

-- Whether an operand has been read, whether its exponent comes next, and whether it has one.
abbrev pub is_read : Operand → Bool
is_read Wanted = false
is_read (BaseRead b) = true
is_read (CaretRead b) = false
is_read (ExponentRead b digits) = true

abbrev pub is_raised : Operand → Bool
is_raised Wanted = false
is_raised (BaseRead b) = false
is_raised (CaretRead b) = true
is_raised (ExponentRead b digits) = false

abbrev pub has_exponent : Operand → Bool
has_exponent Wanted = false
has_exponent (BaseRead b) = false
has_exponent (CaretRead b) = false
has_exponent (ExponentRead b digits) = true

-- The number of open brackets after a token.
abbrev pub open_after : Piece → ℕ → ℕ
open_after Open n = suc n
open_after Close n = n - 1
open_after _ n = n

-- The state after a token, by the operand and the number of open brackets before it.
pub record Follows (o : Operand) (n : ℕ) (q : Piece) (g : GrammarState) : Type 0 where
  pub operand : is_read g.operand ≡ ends q
  pub depth : length g.outer ≡ open_after q n
  pub raised : is_raised g.operand ≡ is_power q
  pub exponent : has_exponent g.operand ≡ is_raised o

abbrev FollowsAt : Operand → ℕ → Piece → Option GrammarState → Type 0
FollowsAt o n q None = ⊤
FollowsAt o n q (Some g) = Follows o n q g

-- The state after a closing bracket.
follows_closed : (outer : List Level) (s : Sum) (o : Operand) → is_raised o ≡ false
    → FollowsAt o (length outer) Close (closed outer s)
follows_closed [] s o e = tt
follows_closed (level ∷ outer) s o e =
    record { operand = refl; depth = omega arith; raised = refl; exponent = sym e }

-- The state after a token that follows a factor.
follows_behind : (outer : List Level) (level : Level) (f : Factor) (o : Operand) (q : Piece) → is_raised o ≡ false
    → FollowsAt o (length outer) q (step_behind outer level f q)
follows_behind outer level f o Times e = record { operand = refl; depth = refl; raised = refl; exponent = sym e }
follows_behind outer level f o Plus e = record { operand = refl; depth = refl; raised = refl; exponent = sym e }
follows_behind outer level f o Minus e = record { operand = refl; depth = refl; raised = refl; exponent = sym e }
follows_behind outer level f o Close e = follows_closed outer (sum_made level f) o e
follows_behind outer level f o (Word name) e = tt
follows_behind outer level f o (Digits digits) e = tt
follows_behind outer level f o Open e = tt
follows_behind outer level f o Caret e = tt
follows_behind outer level f o (Related sign) e = tt
follows_behind outer level f o (Joining joint) e = tt

-- The state after a token, from any state.
follows_from : (outer : List Level) (level : Level) (o : Operand) (q : Piece)
    → FollowsAt o (length outer) q (step_from outer level o q)
follows_from outer level Wanted (Digits digits) =
    record { operand = refl; depth = refl; raised = refl; exponent = refl }
follows_from outer level Wanted (Word name) = record { operand = refl; depth = refl; raised = refl; exponent = refl }
follows_from outer level Wanted Open = record { operand = refl; depth = refl; raised = refl; exponent = refl }
follows_from outer level Wanted Minus = record { operand = refl; depth = refl; raised = refl; exponent = refl }
follows_from outer level Wanted Close = tt
follows_from outer level Wanted Plus = tt
follows_from outer level Wanted Times = tt
follows_from outer level Wanted Caret = tt
follows_from outer level Wanted (Related sign) = tt
follows_from outer level Wanted (Joining joint) = tt
follows_from outer level (BaseRead b) Caret = record { operand = refl; depth = refl; raised = refl; exponent = refl }
follows_from outer level (BaseRead b) Times = follows_behind outer level (Plain b) (BaseRead b) Times refl
follows_from outer level (BaseRead b) Plus = follows_behind outer level (Plain b) (BaseRead b) Plus refl
follows_from outer level (BaseRead b) Minus = follows_behind outer level (Plain b) (BaseRead b) Minus refl
follows_from outer level (BaseRead b) Close = follows_behind outer level (Plain b) (BaseRead b) Close refl
follows_from outer level (BaseRead b) (Word name) = tt
follows_from outer level (BaseRead b) (Digits digits) = tt
follows_from outer level (BaseRead b) Open = tt
follows_from outer level (BaseRead b) (Related sign) = tt
follows_from outer level (BaseRead b) (Joining joint) = tt
follows_from outer level (CaretRead b) (Digits digits) =
    record { operand = refl; depth = refl; raised = refl; exponent = refl }
follows_from outer level (CaretRead b) (Word name) = tt
follows_from outer level (CaretRead b) Open = tt
follows_from outer level (CaretRead b) Close = tt
follows_from outer level (CaretRead b) Plus = tt
follows_from outer level (CaretRead b) Minus = tt
follows_from outer level (CaretRead b) Times = tt
follows_from outer level (CaretRead b) Caret = tt
follows_from outer level (CaretRead b) (Related sign) = tt
follows_from outer level (CaretRead b) (Joining joint) = tt
follows_from outer level (ExponentRead b digits) q =
    follows_behind outer level (Raised b digits) (ExponentRead b digits) q refl

-- The state after a token that continues an expression.
pub follows : (e g : GrammarState) (q : Piece) → step e q ≡ Some g → Follows e.operand (length e.outer) q g
follows e g q h = subst (FollowsAt e.operand (length e.outer) q) h (follows_from e.outer e.level e.operand q)

-- If no bracket is open and an operand has been read, only an operator continues the expression, or `^` if there is no
-- exponent yet.
operator_behind : (level : Level) (f : Factor) (q : Piece) (raised : Bool) (g : GrammarState)
    → step_behind [] level f q ≡ Some g → goes_on raised (follower_in q) ≡ true
operator_behind level f Times raised g h = refl
operator_behind level f Plus raised g h = refl
operator_behind level f Minus raised g h = refl
operator_behind level f Close raised g h = cc
operator_behind level f (Word name) raised g h = cc
operator_behind level f (Digits digits) raised g h = cc
operator_behind level f Open raised g h = cc
operator_behind level f Caret raised g h = cc
operator_behind level f (Related sign) raised g h = cc
operator_behind level f (Joining joint) raised g h = cc

operator_after : (level : Level) (o : Operand) (q : Piece) (g : GrammarState) → step_from [] level o q ≡ Some g
    → is_read o ≡ true → goes_on (has_exponent o) (follower_in q) ≡ true
operator_after level Wanted q g h r = cc
operator_after level (CaretRead b) q g h r = cc
operator_after level (BaseRead b) Caret g h r = refl
operator_after level (BaseRead b) Times g h r = refl
operator_after level (BaseRead b) Plus g h r = refl
operator_after level (BaseRead b) Minus g h r = refl
operator_after level (BaseRead b) Close g h r = cc
operator_after level (BaseRead b) (Word name) g h r = cc
operator_after level (BaseRead b) (Digits digits) g h r = cc
operator_after level (BaseRead b) Open g h r = cc
operator_after level (BaseRead b) (Related sign) g h r = cc
operator_after level (BaseRead b) (Joining joint) g h r = cc
operator_after level (ExponentRead b digits) q g h r = operator_behind level (Raised b digits) q true g h

-- Whether an expression can end in a state before this follower.
abbrev pub stops : GrammarState → Follower → Bool
stops g next = is_read g.operand && ((length g.outer == 0) && not (goes_on (has_exponent g.operand) next))

more_than_none : (n : ℕ) → (suc n == 0) ≡ false
more_than_none n = grind (arith, nat_tests)

none_is_none : (0 == 0) ≡ true
none_is_none = grind (arith, nat_tests)

no_stop : (v w : Bool) → v && (false && w) ≡ false
no_stop true w = refl
no_stop false w = refl

-- An expression can't end before a token that continues it.
pub stops_not : (g h : GrammarState) (q : Piece) → step g q ≡ Some h → stops g (follower_in q) ≡ false
stops_not g h q e = go g.outer e (is_read g.operand) refl
  where
    go : (outer : List Level) → step_from outer g.level g.operand q ≡ Some h → (v : Bool) → is_read g.operand ≡ v
        → v && ((length outer == 0) && not (goes_on (has_exponent g.operand) (follower_in q))) ≡ false
    go (l ∷ outer) s v r =
        ap (λ (b : Bool). v && (b && not (goes_on (has_exponent g.operand) (follower_in q)))) (more_than_none (length outer))
        ∙ no_stop v (not (goes_on (has_exponent g.operand) (follower_in q)))
    go [] s false r = refl
    go [] s true r =
        ap (λ (b : Bool). true && ((0 == 0) && not b)) (operator_after g.level g.operand q h s r)
        ∙ ap (λ (b : Bool). true && (b && false)) none_is_none

-- An expression ends where it is complete and nothing continues it.
pub stops_there : (g : GrammarState) (s : Sum) → finish g ≡ Some s → stops g followers.Other ≡ true
stops_there g s e = go g.outer g.operand e
  where
    go : (outer : List Level) (o : Operand) → finish_from outer g.level o ≡ Some s
        → is_read o && ((length outer == 0) && not (goes_on (has_exponent o) followers.Other)) ≡ true
    go (l ∷ outer) o d = cc
    go [] Wanted d = cc
    go [] (CaretRead b) d = cc
    go [] (BaseRead b) d = ap (λ (v : Bool). true && (v && true)) none_is_none
    go [] (ExponentRead b digits) d = ap (λ (v : Bool). true && (v && true)) none_is_none

mutual
  -- The list of an expression's tokens before others is at least as long as the others.
  sum_adds : (s : Sum) (before : List Piece) → length before ≤ length (sum_behind (λ p. p) s before)
  sum_adds (Alone p) before = product_adds p before
  sum_adds (Added s p) before =
      let h = sum_adds s before in
      let k = product_adds p (Plus ∷ sum_behind (λ p. p) s before) in omega (arith, h, k)
  sum_adds (Subtracted s p) before =
      let h = sum_adds s before in
      let k = product_adds p (Minus ∷ sum_behind (λ p. p) s before) in omega (arith, h, k)

  product_adds : (p : Product) (before : List Piece) → length before ≤ length (product_behind (λ p. p) p before)
  product_adds (Single f) before = factor_adds f before
  product_adds (Multiplied p f) before =
      let h = product_adds p before in
      let k = factor_adds f (Times ∷ product_behind (λ p. p) p before) in omega (arith, h, k)

  factor_adds : (f : Factor) (before : List Piece) → length before ≤ length (factor_behind (λ p. p) f before)
  factor_adds (Plain b) before = base_adds b before
  factor_adds (Raised b digits) before = let h = base_adds b before in omega (arith, h)
  factor_adds (Negated f) before = let h = factor_adds f (Minus ∷ before) in omega (arith, h)

  base_adds : (b : Base) (before : List Piece) → length before ≤ length (base_behind (λ p. p) b before)
  base_adds (Number digits) before = omega arith
  base_adds (Named name) before = omega arith
  base_adds (Bracketed s) before = let h = sum_adds s (Open ∷ before) in omega (arith, h)

-- The list of the parts before an operand, before other tokens, is at least as long as these.
summed_adds : (x : Summed) (before : List Piece) → length before ≤ length (summed_behind (λ p. p) x before)
summed_adds NoSum before = omega arith
summed_adds (PlusAfter s) before = let h = sum_adds s before in omega (arith, h)
summed_adds (MinusAfter s) before = let h = sum_adds s before in omega (arith, h)

factored_adds : (x : Factored) (before : List Piece) → length before ≤ length (factored_behind (λ p. p) x before)
factored_adds NoProduct before = omega arith
factored_adds (TimesAfter p) before = let h = product_adds p before in omega (arith, h)

minuses_add : (n : ℕ) (before : List Piece) → n + length before ≤ length (minuses_behind (λ p. p) n before)
minuses_add zero before = omega arith
minuses_add (suc n) before = let h = minuses_add n before in omega (arith, h)

level_adds : (l : Level) (before : List Piece) → l.minuses + length before ≤ length (level_behind (λ p. p) l before)
level_adds l before =
    let h = summed_adds l.sum before in
    let k = factored_adds l.product (summed_behind (λ p. p) l.sum before) in
    let m = minuses_add l.minuses (factored_behind (λ p. p) l.product (summed_behind (λ p. p) l.sum before)) in
    omega (arith, h, k, m)

outer_adds : (outer : List Level) → length outer ≤ length (outer_behind (λ p. p) outer [])
outer_adds [] = omega arith
outer_adds (l ∷ outer) =
    let h = outer_adds outer in let k = level_adds l (outer_behind (λ p. p) outer []) in omega (arith, h, k)

operand_adds : (o : Operand) (before : List Piece) → length before ≤ length (operand_behind (λ p. p) o before)
operand_adds Wanted before = omega arith
operand_adds (BaseRead b) before = base_adds b before
operand_adds (CaretRead b) before = let h = base_adds b before in omega (arith, h)
operand_adds (ExponentRead b digits) before = let h = base_adds b before in omega (arith, h)

-- There are at least as many tokens as `-` before the operand and open brackets together.
pub tokens_bound : (e : GrammarState) → e.level.minuses + length e.outer ≤ token_count e
tokens_bound e =
    let h = outer_adds e.outer in
    let k = level_adds e.level (outer_behind (λ p. p) e.outer []) in
    let m = operand_adds e.operand (level_behind (λ p. p) e.level (outer_behind (λ p. p) e.outer [])) in
    omega (arith, h, k, m)
