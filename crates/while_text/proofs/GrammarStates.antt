-- The last element of a list, and the front after a closing bracket.
use Rattle.std.proofs.Common.{◌≡◌, true, false, List, [], ◌∷◌, ◌++◌, Option, Some, refl, ap, ◌∙◌, sym}
use Rattle.expr_text.specs.TermGrammarStates.{Level, GrammarState, BaseRead, is_empty}
use Rattle.expr_reader.specs.StateSteps.{Closes}
use Rattle.while_text.specs.Drafts.{last_of, before_last, closed_by, term_of}

-- The last element of a list with one appended is that one, and those before it are the list.
pub last_append : {X : Type 0} (xs : List X) (x : X) → last_of (xs ++ x ∷ []) ≡ Some x
last_append [] x = refl
last_append (y ∷ []) x = refl
last_append (y ∷ z ∷ xs) x = last_append (z ∷ xs) x

pub before_append : {X : Type 0} (xs : List X) (x : X) → before_last (xs ++ x ∷ []) ≡ xs
before_append [] x = refl
before_append (y ∷ []) x = refl
before_append (y ∷ z ∷ xs) x = ap (λ ys. y ∷ ys) (before_append (z ∷ xs) x)

pub last_back : {X : Type 0} (xs : List X) (x : X) → last_of xs ≡ Some x → before_last xs ++ x ∷ [] ≡ xs
last_back [] x e = cc
last_back (y ∷ []) x e = ap (λ z. z ∷ []) (same e)
  where
    same : Some y ≡ Some x → x ≡ y
    same d = cc
last_back (y ∷ z ∷ xs) x e = ap (λ ys. y ∷ ys) (last_back (z ∷ xs) x e)

-- The front after a closing bracket is the one of the specification.
pub closes_is : (f g : GrammarState) → Closes f g → g ≡ closed_by (last_of f.outer) f
closes_is f g h =
    sym (ap (λ (o : Option Level). closed_by o f) (ap last_of h.outer_is ∙ last_append g.outer g.level)
    ∙ same (before_last f.outer) (ap before_last h.outer_is ∙ before_append g.outer g.level))
  where
    same : (outer : List Level) → outer ≡ g.outer
        → record { outer = outer; level = g.level; operand = BaseRead (term_of f) } ≡ g
    same outer e = ap (λ (o : List Level). record { outer = o; level = g.level; operand = BaseRead (term_of f) }) e
        ∙ sym (ap (λ o. record { outer = g.outer; level = g.level; operand = o }) h.operand_is)

-- If no bracket is open, a closing bracket leaves the front as it is.
pub stays_is : (f : GrammarState) → is_empty f.outer ≡ true → closed_by (last_of f.outer) f ≡ f
stays_is f h = go f.outer h
  where
    go : (outer : List Level) → is_empty outer ≡ true → closed_by (last_of outer) f ≡ f
    go [] e = refl
    go (l ∷ ls) e = cc
