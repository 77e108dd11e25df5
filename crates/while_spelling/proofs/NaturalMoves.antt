-- The moves of statements without a literal below 0 have none in their actions and guards.
use Rattle.std.proofs.Common.{◌⊎◌, inl, inr, ℕ, suc, ◌+◌, List, [], ◌∷◌, sym, subst}
use Rattle.std.specs.List.{AllByRecursion}
use Rattle.while_model.specs.model.Programs.{AtLeast, MoreThan, AtMost, LessThan, EqualTo, Atom, Always, Compare}
use Rattle.while_model.specs.Statements.{Statements, Nothing, Simple, While, If, size}
use Rattle.while_model.specs.Moves.{Move, first, negations_of, negations}
use Rattle.while_model.proofs.Members.{IsIn, is_in-append}
use Rattle.while_model.proofs.Sources.{IsBranchMove, IsMoveOf}
use Rattle.while_spelling.specs.Natural.{IsNaturalAtom, IsNaturalAction, AreNatural}

-- No literal of the action or of the guard of a move is below 0.
pub record IsNaturalMove (m : Move) : Type 0 where
  pub action : IsNaturalAction m.action
  pub guard : AllByRecursion IsNaturalAtom m.guard

-- The negations of an atom have its literals.
negations_natural : (atom negated : Atom) → IsNaturalAtom atom → IsIn negated (negations_of atom)
    → IsNaturalAtom negated
negations_natural Always negated h i = absurd i
negations_natural (Compare d AtLeast e) negated h (inl same) = subst IsNaturalAtom (sym same) h
negations_natural (Compare d AtLeast e) negated h (inr i) = absurd i
negations_natural (Compare d MoreThan e) negated h (inl same) = subst IsNaturalAtom (sym same) h
negations_natural (Compare d MoreThan e) negated h (inr i) = absurd i
negations_natural (Compare d AtMost e) negated h (inl same) = subst IsNaturalAtom (sym same) h
negations_natural (Compare d AtMost e) negated h (inr i) = absurd i
negations_natural (Compare d LessThan e) negated h (inl same) = subst IsNaturalAtom (sym same) h
negations_natural (Compare d LessThan e) negated h (inr i) = absurd i
negations_natural (Compare d EqualTo e) negated h (inl same) = subst IsNaturalAtom (sym same) h
negations_natural (Compare d EqualTo e) negated h (inr (inl same)) = subst IsNaturalAtom (sym same) h
negations_natural (Compare d EqualTo e) negated h (inr (inr i)) = absurd i

negated_natural : (test : List Atom) (negated : Atom) → AllByRecursion IsNaturalAtom test → IsIn negated (negations test)
    → IsNaturalAtom negated
negated_natural [] negated h i = absurd i
negated_natural (atom ∷ test) negated (a, h) i =
    go (negated_natural test negated h) (is_in-append negated (negations_of atom) (negations test) i)
  where
    go : (IsIn negated (negations test) → IsNaturalAtom negated)
        → IsIn negated (negations_of atom) ⊎ IsIn negated (negations test) → IsNaturalAtom negated
    go later (inl here) = negations_natural atom negated a here
    go later (inr there) = later there

-- The moves from a test have its literals.
branch_natural : (m : Move) (at : ℕ) (test : List Atom) (one other : ℕ) → AllByRecursion IsNaturalAtom test
    → IsBranchMove m at test one other → IsNaturalMove m
branch_natural m at test one other t (inl e) =
    subst (λ (x : Move). IsNaturalMove x) (sym e) (record { action = tt; guard = t })
branch_natural m at test one other t (inr (atom, there, e)) =
    subst (λ (x : Move). IsNaturalMove x) (sym e)
    (record { action = tt; guard = (negated_natural test atom t there, tt) })

pub moves_natural : (m : Move) (here : Statements) (at after : ℕ) → AreNatural here → IsMoveOf m at after here
    → IsNaturalMove m
moves_natural m Nothing at after f h = absurd h
moves_natural m (Simple action rest) at after (a, r) (inl e) =
    subst (λ (x : Move). IsNaturalMove x) (sym e) (record { action = a; guard = tt })
moves_natural m (Simple action rest) at after (a, r) (inr i) = moves_natural m rest (suc at) after r i
moves_natural m (While test block rest) at after (t, b, r) (inl i) = branch_natural m at test _ _ t i
moves_natural m (While test block rest) at after (t, b, r) (inr (inl i)) = moves_natural m block (suc at) at b i
moves_natural m (While test block rest) at after (t, b, r) (inr (inr i)) =
    moves_natural m rest (suc at + size block) after r i
moves_natural m (If test block other rest) at after (t, b, o, r) (inl i) = branch_natural m at test _ _ t i
moves_natural m (If test block other rest) at after (t, b, o, r) (inr (inl i)) =
    moves_natural m block (suc at) (first (suc at + size block + size other) after rest) b i
moves_natural m (If test block other rest) at after (t, b, o, r) (inr (inr (inl i))) =
    moves_natural m other (suc at + size block) (first (suc at + size block + size other) after rest) o i
moves_natural m (If test block other rest) at after (t, b, o, r) (inr (inr (inr i))) =
    moves_natural m rest (suc at + size block + size other) after r i
