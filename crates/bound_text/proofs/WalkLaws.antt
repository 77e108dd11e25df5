-- A text of some bound begins with pieces exactly if they lead to a state, and they are the whole text exactly if it
-- can end there.
use Rattle.std.proofs.Common.{◌≡◌, List, [], ◌∷◌, ◌++◌, Option, Some, None, refl, ap, sym, subst, ◌∙◌, append-nil}
use Rattle.text_core.specs.model.Bounds.{Bound}
use Rattle.bound_text.specs.Shapes.{IsShaped}
use Rattle.bound_text.specs.Pieces.{Piece}
use Rattle.bound_text.specs.Writing.{pieces_of}
use Rattle.bound_text.specs.ParserStates.{ParserState, ItemRead, Whole, IsWellFormed, state_then}
use Rattle.bound_text.specs.Steps.{state_at_position, step, walk, beginning, finish}
use Rattle.text_core.proofs.Walks.{walk-none, walk-append}
use Rattle.bound_text.proofs.BoundParts.{terms_in, factors_in}
use Rattle.bound_text.proofs.CompletenessLaws.{stands, walk-bound, finish-bound}
use Rattle.bound_text.proofs.SoundnessLaws.{step_sound, beginning_is_state, finish_sound}
use Rattle.bound_text.proofs.StateReading.{state_read}
use Rattle.bound_text.proofs.Completions.{finished, Completes, completes}

-- the pieces are all those that the state describes
pub record Reads (pieces : List Piece) (f : ParserState) : Type 0 where
  pub is : IsWellFormed f
  pub text : state_then f [] ≡ pieces

-- the second state is well-formed and describes the pieces of the first and then these
pub record Read (f g : ParserState) (pieces : List Piece) : Type 0 where
  pub is_state : IsWellFormed g
  pub text : (rest : List Piece) → state_then g rest ≡ state_then f (pieces ++ rest)

-- the state that pieces lead to describes them
walk_sound : (pieces : List Piece) (f g : ParserState) → IsWellFormed f → walk (Some f) pieces ≡ Some g → Read f g pieces
walk_sound [] f g is h = let e : f ≡ g = cc in subst (λ (k : ParserState). Read f k []) e (record { is_state = is; text = λ rest. refl })
walk_sound (piece ∷ pieces) f g is h = go (step f piece) refl h (λ k is on. walk_sound pieces k g is on)
  where
    go : (reached : Option ParserState) → step f piece ≡ reached → walk reached pieces ≡ Some g → ((k : ParserState) → IsWellFormed k → walk (Some k) pieces ≡ Some g → Read k g pieces) → Read f g (piece ∷ pieces)
    go None e k ih = let none = walk-none step pieces in cc
    go (Some k) e on ih =
        let x = step_sound f k piece is e in
        let r = ih k x.is_state on in
        record { is_state = r.is_state; text = λ rest. r.text rest ∙ x.text (pieces ++ rest) }

-- the state that pieces lead to from the beginning describes them
pub walk_read : (pieces : List Piece) (f : ParserState) → walk (Some beginning) pieces ≡ Some f → Read beginning f pieces
walk_read pieces f h = walk_sound pieces beginning f beginning_is_state h

-- the pieces that a state describes lead to it
pub read_walk : (pieces : List Piece) (f : ParserState) → Reads pieces f → walk (Some beginning) pieces ≡ Some f
read_walk pieces f r = ap (walk (Some beginning)) (sym r.text) ∙ state_read f r.is []

-- the state that pieces lead to from the beginning describes exactly these
pub walk_reads : (pieces : List Piece) (f : ParserState) → walk (Some beginning) pieces ≡ Some f → Reads pieces f
walk_reads pieces f h = let r = walk_read pieces f h in record { is = r.is_state; text = r.text [] ∙ append-nil pieces }

-- if a text can end in the state that pieces lead to, they are the text of its bound
pub walk_whole : (pieces : List Piece) (f : ParserState) (b : Bound) → walk (Some beginning) pieces ≡ Some f → finish f ≡ Some b → IsShaped b × (pieces_of b ≡ pieces)
walk_whole pieces f b h e =
    let r = walk_read pieces f h in
    let s = finish_sound f b r.is_state e in
    (s.0, s.1 [] ∙ r.text [] ∙ append-nil pieces)

-- the pieces of a whole text lead to a state in which it can end
pub whole_walk : (pieces : List Piece) (b : Bound) → IsShaped b → pieces_of b ≡ pieces → (walk (Some beginning) pieces ≡ stands Whole (terms_in b) (factors_in b)) × (finish (state_at_position Whole (terms_in b) (factors_in b) ItemRead) ≡ Some b)
whole_walk pieces b shaped e = (ap (walk (Some beginning)) (sym e) ∙ walk-bound b shaped [], finish-bound b shaped)

-- a text can be completed from each state that pieces lead to
pub walk_begins : (pieces : List Piece) (f : ParserState) → walk (Some beginning) pieces ≡ Some f → (b : Bound) × (rest : List Piece) × IsShaped b × (pieces_of b ≡ pieces ++ rest)
walk_begins pieces f h = go (walk (Some f) c.pieces) refl c.ends
  where
    c : Completes (Some f)
    c = completes f (walk_read pieces f h).is_state

    go : (reached : Option ParserState) → walk (Some f) c.pieces ≡ reached → finished reached ≡ Some c.bound → (b : Bound) × (rest : List Piece) × IsShaped b × (pieces_of b ≡ pieces ++ rest)
    go None e k = cc
    go (Some g) e k =
        let w = walk_whole (pieces ++ c.pieces) g c.bound (walk-append step (Some beginning) pieces c.pieces ∙ ap (λ (o : Option ParserState). walk o c.pieces) h ∙ e) k in
        (c.bound, c.pieces, w.0, w.1)
