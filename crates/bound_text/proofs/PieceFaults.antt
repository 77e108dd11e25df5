-- Taking a piece gives the first of its faults.
use Rattle.std.proofs.Common.{◌≡◌, ℕ, ◌≤◌, nat_lt, Bool, true, false, cond, ◌&&◌, List, Option, Some, None, refl, ap}
use Rattle.std.proofs.Common.{sym, subst, ◌∙◌, inl, inr, arith}
use Rattle.std.specs.Prelude.{◌⊎◌}
use Rattle.std.proofs.lemmas.Bool.{ltb-true, ltb-false, lt-ltb as past, le-ltb as within}
use Rattle.bound_text.specs.Pieces.{Piece}
use Rattle.bound_text.specs.Kinds.{Kind, Syntax, NumberTooLarge, UnknownName, TooDeep, TooLarge, number_of}
use Rattle.bound_text.specs.ParserStates.{ParserState, IsWellFormed, nodes_of, inner_levels, levels_of}
use Rattle.bound_text.specs.Steps.{step}
use Rattle.bound_text.specs.Checks.{PieceResult, Refused, Reached, fault_of, begins, has_large_base, fault_or_state}
use Rattle.bound_text.specs.Checks.{piece_result, caret_next}
use Rattle.bound_text.specs.Reading.{is_deep, has_many, stands}
use Rattle.bound_text.proofs.StepCases.{step_leads}
use Rattle.bound_text.proofs.TreeSizes.{grows}
use Rattle.bound_expr.specs.Limits.{depth_limit, node_limit}

module _ (n : ℕ) (f : ParserState) (piece : Piece) (behind : List Piece) where
  -- a kind is a fault of the piece, or it is `Syntax` and the piece can't follow
  pub record IsRefused (kind : Kind) : Type 0 where
    pub is : (stands n f piece behind kind ≡ true) ⊎ ((step f piece ≡ None) × (kind ≡ Syntax))
    pub nowhere : step f piece ≡ None → kind ≡ Syntax
    pub least : (other : Kind) → stands n f piece behind other ≡ true → number_of kind ≤ number_of other

  -- the piece is accepted, leads to this state, and has no fault
  pub record IsTaken (g : ParserState) : Type 0 where
    pub leads : step f piece ≡ Some g
    pub none : (other : Kind) → stands n f piece behind other ≡ false
    pub levels : levels_of g ≤ depth_limit
    pub nodes : nodes_of g ≤ node_limit

  -- the piece is taken or refused, as this result says
  abbrev pub IsJudged : PieceResult → Type 0
  IsJudged (Refused kind) = IsRefused kind
  IsJudged (Reached g) = IsTaken g

  -- a step that is accepted isn't rejected
  somewhere : {X : Type 0} (g : ParserState) → step f piece ≡ Some g → step f piece ≡ None → X
  somewhere g e none = cc

  -- the number of each kind is at least 1
  one_least : (other : Kind) → 1 ≤ number_of other
  one_least Syntax = omega arith
  one_least NumberTooLarge = omega arith
  one_least UnknownName = omega arith
  one_least TooDeep = omega arith
  one_least TooLarge = omega arith

  -- if the levels of the innermost bound are within the limit after a piece, so are all levels of the tree
  shallow_after : IsWellFormed f → levels_of f ≤ depth_limit → (g : ParserState) → step f piece ≡ Some g → inner_levels g ≤ depth_limit → levels_of g ≤ depth_limit
  shallow_after is shallow g e h = let r = (grows f g piece (step_leads f g piece is e)).round in omega (arith, r, shallow, h)

  -- if the piece has no other fault, the limits decide the result
  judge_size : IsWellFormed f → levels_of f ≤ depth_limit → (g : ParserState) → step f piece ≡ Some g → stands n f piece behind Syntax ≡ false → stands n f piece behind NumberTooLarge ≡ false → stands n f piece behind UnknownName ≡ false
      → (d m : Bool) → nat_lt depth_limit (inner_levels g) ≡ d → nat_lt node_limit (nodes_of g) ≡ m → IsJudged (cond d (Refused TooDeep) (cond m (Refused TooLarge) (Reached g)))
  judge_size is shallow g e s l u true m deep big = record { is = inl (ap is_deep e ∙ past depth_limit (levels_of g) (let d = ltb-true depth_limit (inner_levels g) deep in omega (arith, d))); nowhere = somewhere g e; least = least }
    where
      least : (other : Kind) → stands n f piece behind other ≡ true → 4 ≤ number_of other
      least Syntax t = cc
      least NumberTooLarge t = cc
      least UnknownName t = cc
      least TooDeep t = omega arith
      least TooLarge t = omega arith
  judge_size is shallow g e s l u false true deep big = record { is = inl (ap has_many e ∙ big); nowhere = somewhere g e; least = least }
    where
      few : stands n f piece behind TooDeep ≡ false
      few = ap is_deep e ∙ within depth_limit (levels_of g) (shallow_after is shallow g e (ltb-false depth_limit (inner_levels g) deep))

      least : (other : Kind) → stands n f piece behind other ≡ true → 5 ≤ number_of other
      least Syntax t = cc
      least NumberTooLarge t = cc
      least UnknownName t = cc
      least TooDeep t = let k = few in cc
      least TooLarge t = omega arith
  judge_size is shallow g e s l u false false deep big = record { leads = e; none = none; levels = few; nodes = ltb-false node_limit (nodes_of g) big }
    where
      few : levels_of g ≤ depth_limit
      few = shallow_after is shallow g e (ltb-false depth_limit (inner_levels g) deep)

      none : (other : Kind) → stands n f piece behind other ≡ false
      none Syntax = s
      none NumberTooLarge = l
      none UnknownName = u
      none TooDeep = ap is_deep e ∙ within depth_limit (levels_of g) few
      none TooLarge = ap has_many e ∙ big

  -- the faults of the piece by itself decide the result before the limits do
  judge : IsWellFormed f → levels_of f ≤ depth_limit → (o : Option ParserState) → step f piece ≡ o → (s l u : Bool) → stands n f piece behind Syntax ≡ s → stands n f piece behind NumberTooLarge ≡ l → stands n f piece behind UnknownName ≡ u
      → IsJudged (fault_or_state (cond s (Some Syntax) (cond l (Some NumberTooLarge) (cond u (Some UnknownName) None))) o)
  judge is shallow None e s l u se le ue = record { is = inr (e, refl); nowhere = λ h. refl; least = λ other t. one_least other }
  judge is shallow (Some g) e true l u se le ue = record { is = inl se; nowhere = somewhere g e; least = λ other t. one_least other }
  judge is shallow (Some g) e false true u se le ue = record { is = inl le; nowhere = somewhere g e; least = least }
    where
      least : (other : Kind) → stands n f piece behind other ≡ true → 2 ≤ number_of other
      least Syntax t = cc
      least NumberTooLarge t = omega arith
      least UnknownName t = omega arith
      least TooDeep t = omega arith
      least TooLarge t = omega arith
  judge is shallow (Some g) e false false true se le ue = record { is = inl ue; nowhere = somewhere g e; least = least }
    where
      least : (other : Kind) → stands n f piece behind other ≡ true → 3 ≤ number_of other
      least Syntax t = cc
      least NumberTooLarge t = cc
      least UnknownName t = omega arith
      least TooDeep t = omega arith
      least TooLarge t = omega arith
  judge is shallow (Some g) e false false false se le ue = judge_size is shallow g e se le ue (nat_lt depth_limit (inner_levels g)) (nat_lt node_limit (nodes_of g)) refl refl

  -- the result of taking a piece is its first fault, or the next state
  pub piece_judged : IsWellFormed f → levels_of f ≤ depth_limit → has_large_base f piece ≡ false → IsJudged (piece_result n (caret_next behind) f piece)
  piece_judged is shallow h =
      subst (λ (v : Bool). IsJudged (cond v (Refused NumberTooLarge) (fault_or_state (fault_of n (begins f.position && caret_next behind) piece) (step f piece)))) (sym h)
      (judge is shallow (step f piece) refl _ _ _ refl refl refl)
