-- The pieces read so far can be completed: a text begins with them.
use Rattle.std.proofs.Common.{◌≡◌, Bool, true, not, ◌&&◌, List, [], ◌∷◌, Option, Some, None, refl, ap, ◌∙◌}
use Rattle.std.specs.Prelude.{IsTrue}
use Rattle.text_core.specs.model.Bounds.{Bound, Constant, SumOf, PowerOf, Parts, NoParts, Part}
use Rattle.bound_text.specs.Shapes.{is_sum, is_maximum, is_leaf, with_part}
use Rattle.bound_text.specs.Pieces.{Piece, Number, Close, Times, Plus, Blank, Comma}
use Rattle.bound_text.specs.ParserStates.{Bracket, Arguments, Exponent, Factor, Outer, Whole, Inside, Position, ParserState, Begins}
use Rattle.bound_text.specs.ParserStates.{RunCaret, PowerCaret, ItemRead, BlankRead, PlusRead, CommaRead, IsWellFormed, IsPosition}
use Rattle.bound_text.specs.ParserStates.{term_of, bound_of_parts, can_end, can_be_argument}
use Rattle.bound_text.specs.Steps.{with_copies, state_at_position, behind_factor, can_close, item_of, walk, finish}
use Rattle.bound_text.proofs.PartLaws.{is_empty-with_part}
use Rattle.bound_text.proofs.CompletenessLaws.{starts, stands, walk-when}

-- the bound of a text that ends in the state that was reached, if it was
abbrev pub finished : Option ParserState → Option Bound
finished None = None
finished (Some f) = finish f

-- some further pieces make a whole text of a bound
pub record Completes (reached : Option ParserState) : Type 0 where
  pub pieces : List Piece
  pub bound : Bound
  pub ends : finished (walk reached pieces) ≡ Some bound

-- after `0` as one more factor a term can end
can_end_more : (fs : Parts) → can_end (with_part fs (Constant 0)) ≡ true
can_end_more NoParts = refl
can_end_more (Part b NoParts) = refl
can_end_more (Part b (Part c cs)) = refl

-- terms with one more term after them make a sum
two_terms : (ts : Parts) (t : Bound) → bound_of_parts (with_part ts t) (Part (Constant 0) NoParts) ≡ SumOf (with_part (with_part ts t) (Constant 0))
two_terms NoParts t = refl
two_terms (Part c NoParts) t = refl
two_terms (Part c (Part d ds)) t = refl

-- `*0 + 0` makes the innermost bound a sum, and that can be completed
more : (outer : Outer) (ts fs : Parts) → Completes (stands outer (with_part ts (term_of (with_part fs (Constant 0)))) (Part (Constant 0) NoParts)) → Completes (stands outer ts fs)
more outer ts fs c = record {
  pieces = Times ∷ Number 0 ∷ Blank ∷ Plus ∷ Blank ∷ Number 0 ∷ c.pieces;
  bound = c.bound;
  ends = ap finished (walk-when (can_end (with_part fs (Constant 0))) (state_at_position outer ts (with_part fs (Constant 0)) BlankRead) (Plus ∷ Blank ∷ Number 0 ∷ c.pieces) (can_end_more fs)) ∙ c.ends;
}

-- a bracket that closes after a sum can be completed
closes : (bracket : Bracket) (ts' fs' : Parts) (outer : Outer) (ts : Parts) (t : Bound) → can_close bracket (bound_of_parts (with_part ts t) (Part (Constant 0) NoParts)) ≡ true
    → Completes (stands outer ts' (with_part fs' (item_of bracket (bound_of_parts (with_part ts t) (Part (Constant 0) NoParts)))))
    → Completes (stands (Inside bracket ts' fs' outer) (with_part ts t) (Part (Constant 0) NoParts))
closes bracket ts' fs' outer ts t h c = record {
  pieces = Close ∷ c.pieces;
  bound = c.bound;
  ends = ap finished (walk-when (can_close bracket (bound_of_parts (with_part ts t) (Part (Constant 0) NoParts))) (behind_factor outer ts' fs' (item_of bracket (bound_of_parts (with_part ts t) (Part (Constant 0) NoParts)))) c.pieces h) ∙ c.ends;
}

-- an open maximum with one more argument can be completed
one_more : (bs ts' fs' : Parts) (outer : Outer) (ts : Parts) (t : Bound)
    → Completes (stands outer ts' (with_part fs' (item_of (Arguments (with_part bs (bound_of_parts (with_part ts t) (Part (Constant 0) NoParts)))) (Constant 0))))
    → Completes (stands (Inside (Arguments bs) ts' fs' outer) (with_part ts t) (Part (Constant 0) NoParts))
one_more bs ts' fs' outer ts t c = record {
  pieces = Comma ∷ Blank ∷ Number 0 ∷ Close ∷ c.pieces;
  bound = c.bound;
  ends =
      ap finished (walk-when (not (is_maximum B)) (state_at_position (Inside (Arguments bs) ts' fs' outer) (with_part ts t) (Part (Constant 0) NoParts) CommaRead) (Blank ∷ Number 0 ∷ Close ∷ c.pieces) (ap (λ (b : Bound). not (is_maximum b)) (two_terms ts t))
      ∙ walk-when (can_close (Arguments (with_part bs B)) (Constant 0)) (behind_factor outer ts' fs' (item_of (Arguments (with_part bs B)) (Constant 0))) c.pieces (ap (λ (v : Bool). not v && true) (is_empty-with_part bs B)))
      ∙ c.ends;
}
  where
    B : Bound
    B = bound_of_parts (with_part ts t) (Part (Constant 0) NoParts)

-- all brackets close after a sum
close_all : (outer : Outer) (ts : Parts) (t : Bound) → Completes (stands outer (with_part ts t) (Part (Constant 0) NoParts))
close_all Whole ts t = record { pieces = []; bound = bound_of_parts (with_part ts t) (Part (Constant 0) NoParts); ends = refl }
close_all (Inside (Arguments bs) ts' fs' outer) ts t = one_more bs ts' fs' outer ts t (more outer ts' _ (close_all outer ts' _))
close_all (Inside (Exponent c) ts' fs' outer) ts t = closes (Exponent c) ts' fs' outer ts t (ap (λ (b : Bound). not (is_leaf b)) (two_terms ts t)) (more outer ts' _ (close_all outer ts' _))
close_all (Inside Factor ts' fs' outer) ts t = closes Factor ts' fs' outer ts t (ap is_sum (two_terms ts t)) (more outer ts' _ (close_all outer ts' _))

-- the state after an item can be completed
item_completes : (outer : Outer) (ts fs : Parts) → Completes (stands outer ts fs)
item_completes outer ts fs = more outer ts fs (close_all outer ts (term_of (with_part fs (Constant 0))))

-- the state where an item begins can be completed
begin_completes : (outer : Outer) (ts fs : Parts) → Completes (starts outer ts fs)
begin_completes outer ts fs = let c = item_completes outer ts (with_part fs (Constant 0)) in record { pieces = Number 0 ∷ c.pieces; bound = c.bound; ends = c.ends }

-- every state that pieces lead to can be completed
pub completes : (f : ParserState) → IsWellFormed f → Completes (Some f)
completes f is = go f.position is.position
  where
    go : (position : Position) → IsPosition position f.outer f.terms f.factors → Completes (Some (state_at_position f.outer f.terms f.factors position))
    go Begins p = begin_completes f.outer f.terms f.factors
    go (RunCaret i) p = let c = item_completes f.outer f.terms (with_copies 2 i f.factors) in record { pieces = Number 2 ∷ c.pieces; bound = c.bound; ends = c.ends }
    go (PowerCaret b) p = let c = item_completes f.outer f.terms (with_part f.factors (PowerOf b (Constant 0))) in record { pieces = Number 0 ∷ c.pieces; bound = c.bound; ends = c.ends }
    go ItemRead p = item_completes f.outer f.terms f.factors
    go BlankRead p = let c = begin_completes f.outer (with_part f.terms (term_of f.factors)) NoParts in record { pieces = Plus ∷ Blank ∷ c.pieces; bound = c.bound; ends = c.ends }
    go PlusRead p = let c = begin_completes f.outer (with_part f.terms (term_of f.factors)) NoParts in record { pieces = Blank ∷ c.pieces; bound = c.bound; ends = c.ends }
    go CommaRead p = argument f.outer p
      where
        argument : (outer : Outer) → IsTrue (can_be_argument outer f.terms f.factors) → Completes (Some (state_at_position outer f.terms f.factors CommaRead))
        argument (Inside (Arguments bs) ts fs outer) p =
            let c = begin_completes (Inside (Arguments (with_part bs (bound_of_parts f.terms f.factors))) ts fs outer) NoParts NoParts in record { pieces = Blank ∷ c.pieces; bound = c.bound; ends = c.ends }
        argument (Inside (Exponent b) ts fs outer) p = absurd (cc)
        argument (Inside Factor ts fs outer) p = absurd (cc)
        argument Whole p = absurd (cc)
