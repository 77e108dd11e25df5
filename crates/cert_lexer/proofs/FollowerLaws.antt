-- The code's outline and levels represent the parser state.
use Rattle.std.proofs.Common.{◌≡◌, ℕ, suc, Bool, true, false, List, [], ◌∷◌, length, Option, Some, None, refl, ap, sym}
use Rattle.std.proofs.Common.{subst, ◌∙◌}
use Rattle.bound_text.specs.Pieces.{Piece}
use Rattle.bound_text.specs.ParserStates.{ParserState}
use Rattle.bound_text.specs.Steps.{step}
use Rattle.bound_text.specs.Inside.{Marks, marks_of_state}
use Rattle.bound_text.specs.Printing.{piece_of}
use Rattle.cert_lexer.specs.declared.follower.Follower.{Follower}
use Rattle.cert_lexer.specs.declared.inner.Inner.{Inner}
use Rattle.cert_lexer.specs.declared.levels.OpenPart.{OpenPart}
use Rattle.cert_lexer.specs.declared.levels.Levels.{Levels}
use Rattle.cert_lexer.specs.declared.outline.Outline.{Outline}
use Rattle.cert_lexer.specs.declared.outline.Frame.{Frame}
use Rattle.cert_lexer.specs.declared.outline.Innermost.{Innermost}
use Rattle.cert_lexer.specs.declared.outline.OutlineStep.{OutlineStep}
use Rattle.cert_lexer.specs.Bounds.{deep_part, last_state, pieces_in, stops_in}
use Rattle.cert_lexer.specs.Following.{Follows, FollowsWhere}
use Rattle.cert_lexer.specs.Levels.{open_parts_of, marks_taken, open_parts_after}
use Rattle.cert_lexer.specs.Outlines.{frames_of, frames_behind, innermost_of, innermost_frame, lead}
use Rattle.cert_lexer.specs.Representation.{Accepted, Representation, ShowsLevels, frames_in}
use Rattle.cert_lexer.proofs.OutlineStepLaws.{outlines_agree}
use Rattle.cert_lexer.proofs.LevelsLaws.{open_parts_length}

-- if the outline accepts a piece, so does the parser state; and if it rejects it, so does that
state_accepted : (f : ParserState) (piece : Piece) (reached : Option ParserState) (l : Option OutlineStep) (k : OutlineStep) → Some k ≡ l → FollowsWhere f piece reached l
    → (g : ParserState) × (reached ≡ Some g) × Follows f piece g k
state_accepted f piece None (Some l) k e h = absurd h
state_accepted f piece None None k e h = cc
state_accepted f piece (Some g) None k e h = cc
state_accepted f piece (Some g) (Some l) k e h = let same : l ≡ k = cc in (g, refl, subst (Follows f piece g) same h)

state_rejected : (f : ParserState) (piece : Piece) (reached : Option ParserState) (l : Option OutlineStep) → None ≡ l → FollowsWhere f piece reached l → reached ≡ None
state_rejected f piece None l e h = refl
state_rejected f piece (Some g) None e h = absurd h
state_rejected f piece (Some g) (Some l) e h = cc

-- the step of the code's outline is that of the state's outline
same_lead : (f : ParserState) (piece : Piece) (s : Follower) → Representation f s
    → lead (innermost_frame (frames_in s.outline)) s.outline.innermost piece ≡ lead (innermost_frame (frames_of f.outer)) (innermost_of f) piece
same_lead f piece s h =
    ap (λ (fs : List Frame). lead (innermost_frame fs) s.outline.innermost piece) h.frames
    ∙ ap (λ (i : Innermost). lead (innermost_frame (frames_of f.outer)) i piece) h.innermost

-- after an accepted piece, outline and levels represent the new state
pub represents_after_piece : (f : ParserState) (piece : Piece) (s : Follower) (outline : Outline) (levels : Levels) (round : Option Frame) (k : OutlineStep) → Representation f s
    → round ≡ innermost_frame (frames_in s.outline) → Some k ≡ lead round s.outline.innermost piece
    → frames_in outline ≡ frames_behind k.change (frames_in s.outline) → outline.innermost ≡ k.innermost
    → ((marks : Marks) (bs : List OpenPart) → length bs ≡ suc (length s.outline.frames.items) → ShowsLevels s.levels marks bs
    → ShowsLevels levels (marks_taken bs round s.outline.innermost piece marks)
    (open_parts_after k.change (length (marks_taken bs round s.outline.innermost piece marks)) round s.outline.innermost bs))
    → Accepted f piece (record { outline = outline; levels = levels }) true
represents_after_piece f piece s outline levels round k h r e frames inner taken =
    let t = state_accepted f piece (step f piece) (lead (innermost_frame (frames_of f.outer)) (innermost_of f) piece) k
    (e ∙ ap (λ (o : Option Frame). lead o s.outline.innermost piece) r ∙ same_lead f piece s h)
    (outlines_agree.each f piece h.standing) in (
      t.0,
      t.1,
      record {
        frames = frames ∙ ap (frames_behind k.change) h.frames ∙ sym t.2.frames;
        innermost = inner ∙ sym t.2.innermost;
        levels = shown t.0 t.2;
        standing = t.2.standing;
      },
    )
  where
    round_of : round ≡ innermost_frame (frames_of f.outer)
    round_of = r ∙ ap innermost_frame h.frames

    shown : (g : ParserState) → Follows f piece g k → ShowsLevels levels (marks_of_state g) (open_parts_of g)
    shown g l =
        let a = taken (marks_of_state f) (open_parts_of f) (open_parts_length f s.outline h.frames) h.levels in
        let b = subst (λ (o : Option Frame). ShowsLevels levels (marks_taken (open_parts_of f) o s.outline.innermost piece (marks_of_state f))
        (open_parts_after k.change (length (marks_taken (open_parts_of f) o s.outline.innermost piece (marks_of_state f))) o s.outline.innermost (open_parts_of f))) round_of a in
        let c = subst (λ (i : Innermost). ShowsLevels levels (marks_taken (open_parts_of f) (innermost_frame (frames_of f.outer)) i piece (marks_of_state f))
        (open_parts_after k.change (length (marks_taken (open_parts_of f) (innermost_frame (frames_of f.outer)) i piece (marks_of_state f)))
        (innermost_frame (frames_of f.outer)) i (open_parts_of f))) h.innermost b in
        let d = subst (λ (ms : Marks). ShowsLevels levels ms
        (open_parts_after k.change (length ms) (innermost_frame (frames_of f.outer)) (innermost_of f) (open_parts_of f))) (sym l.marks) c in
        subst (ShowsLevels levels (marks_of_state g)) (sym l.begun) d

-- a rejected piece leaves the code's state as it is
pub state_kept_at_rejection : (f : ParserState) (piece : Piece) (s : Follower) (round : Option Frame) → Representation f s
    → round ≡ innermost_frame (frames_in s.outline) → None ≡ lead round s.outline.innermost piece → step f piece ≡ None
state_kept_at_rejection f piece s round h r e =
    state_rejected f piece (step f piece) (lead (innermost_frame (frames_of f.outer)) (innermost_of f) piece)
    (e ∙ ap (λ (o : Option Frame). lead o s.outline.innermost piece) r ∙ same_lead f piece s h)
    (outlines_agree.each f piece h.standing)

-- the code has come to a state in all these pieces, and reading the pieces that are left comes to the last one
pub record Reaches (all left : List Inner) (s : Follower) : Type 0 where
  pub state : ParserState
  pub represents : Representation state s
  pub stops : last_state state (Some state) (pieces_in left) ≡ stops_in (pieces_in all)

-- it comes to the same last state, whichever state was reached before
same_stop : (f g : ParserState) (ps : List Piece) → last_state f (Some g) ps ≡ last_state g (Some g) ps
same_stop f g [] = refl
same_stop f g (p ∷ ps) = refl

-- after one more accepted piece it has come to the next state
pub reaches_on : (all left behind : List Inner) (x : Inner) (s t : Follower) (led : Bool) → Reaches all left s → left ≡ x ∷ behind
    → led ≡ true → ((f : ParserState) → Representation f s → Accepted f (piece_of x.piece) t led) → Reaches all behind t
reaches_on all left behind x s t led r is ok takes =
    let a = subst (λ (v : Bool). Accepted r.state (piece_of x.piece) t v) ok (takes r.state r.represents) in
    record {
      state = a.0;
      represents = a.2;
      stops =
          sym (same_stop r.state a.0 (pieces_in behind))
          ∙ ap (λ (o : Option ParserState). last_state r.state o (pieces_in behind)) (sym a.1)
          ∙ ap (λ (xs : List Inner). last_state r.state (Some r.state) (pieces_in xs)) (sym is) ∙ r.stops;
    }

-- where a piece can't follow, reading stops
pub reaches_off : (all left behind : List Inner) (x : Inner) (s t : Follower) (led : Bool) (deep : Option ℕ) → Reaches all left s
    → left ≡ x ∷ behind → led ≡ false → ((f : ParserState) → Representation f s → Accepted f (piece_of x.piece) t led)
    → ((f : ParserState) → Representation f t → deep ≡ deep_part f) → deep ≡ deep_part (stops_in (pieces_in all))
reaches_off all left behind x s t led deep r is ok takes finds =
    let a = subst (λ (v : Bool). Accepted r.state (piece_of x.piece) t v) ok (takes r.state r.represents) in
    finds r.state a.1
    ∙ ap deep_part (ap (λ (o : Option ParserState). last_state r.state o (pieces_in behind)) (sym a.0)
    ∙ ap (λ (xs : List Inner). last_state r.state (Some r.state) (pieces_in xs)) (sym is) ∙ r.stops)

-- at the end, too
pub reaches_end : (all left : List Inner) (s : Follower) (deep : Option ℕ) → Reaches all left s → length left ≡ 0
    → ((f : ParserState) → Representation f s → deep ≡ deep_part f) → deep ≡ deep_part (stops_in (pieces_in all))
reaches_end all left s deep r none finds = finds r.state r.represents ∙ ap deep_part (go left none r.stops)
  where
    go : (xs : List Inner) → length xs ≡ 0 → last_state r.state (Some r.state) (pieces_in xs) ≡ stops_in (pieces_in all)
        → r.state ≡ stops_in (pieces_in all)
    go [] e h = h
    go (y ∷ ys) e h = cc
