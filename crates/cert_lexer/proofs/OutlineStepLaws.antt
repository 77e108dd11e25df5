-- Outlines and levels represent the state, at each position.
use Rattle.std.proofs.Common.{◌≡◌, ℕ, suc, Bool, true, not, [], ◌∷◌}
use Rattle.std.proofs.Common.{◌++◌, Some, None, refl, ap, ◌∙◌, arith}
use Rattle.std.specs.Prelude.{is_some}
use Rattle.its_model.specs.model.Bounds.{Bound, Parts, NoParts}
use Rattle.its_model.specs.model.Bounds.{Part}
use Rattle.bound_text.specs.Shapes.{is_empty, with_part}
use Rattle.bound_text.specs.Pieces.{Piece, Plus, Blank}
use Rattle.bound_text.specs.Writing.{Nothing, plus_between, comma_between}
use Rattle.bound_text.specs.ParserStates.{Arguments, Exponent, Factor, Outer, Whole, Inside, Position, Begins, RunCaret}
use Rattle.bound_text.specs.ParserStates.{PowerCaret, ItemRead, BlankRead, PlusRead, CommaRead}
use Rattle.bound_text.specs.ParserStates.{can_end, term_of, bound_of_parts, levels_above}
use Rattle.bound_text.specs.ParserStates.{sum_node, sum_at, product_node, node_of_any}
use Rattle.bound_text.specs.Steps.{step_at, state_at_position, inside}
use Rattle.bound_text.specs.Inside.{Marks, factors_marks, star_marks, each_marks, outer_marks, bracket_marks}
use Rattle.bound_text.specs.Inside.{level_behind, marks_of_state}
use Rattle.bound_text.proofs.PartLaws.{is_empty-with_part}
use Rattle.cert_lexer.specs.declared.outline.Opening.TheVariants as opening
use Rattle.cert_lexer.specs.declared.outline.Stage.TheVariants as stage
use Rattle.cert_lexer.specs.Outlines.{last_of, innermost_of}
use Rattle.cert_lexer.specs.Outlines.{stage_of, frames_of, innermost_frame, lead_at}
use Rattle.cert_lexer.specs.Following.{MayFollow, FollowsWhere, OutlinesAgree}
use Rattle.cert_lexer.proofs.MarkMoves.{factors_behind, each_behind}
use Rattle.cert_lexer.proofs.MarkMoves.{bracket_behind}
use Rattle.cert_lexer.proofs.BracketMarks.{each-with_part, term_marks, inside_marks, bound_made_marks}
use Rattle.cert_lexer.proofs.FollowLaws.{factors_add, star_add, begin_follows, run_follows, power_follows}
use Rattle.cert_lexer.proofs.ItemLaws.{item_follows}

-- after a piece that follows the blank of ` + `, or its `+`, outline and levels represent the state
blank_follows : (o : Outer) (ts fs : Parts) (piece : Piece) → can_end fs ≡ true
    → FollowsWhere (state_at_position o ts fs BlankRead) piece (step_at BlankRead o ts fs piece)
    (lead_at stage.Blank (innermost_frame (frames_of o)) (innermost_of (state_at_position o ts fs BlankRead)) piece)
blank_follows o ts fs Plus h = record {
  innermost = refl;
  frames = refl;
  marks = factors_add o (level_behind (levels_above o) (sum_at BlankRead o ts) 0)
      (level_behind (levels_above o) (sum_at BlankRead o ts) (product_node fs)) ts fs (None ∷ []) (None ∷ []);
  begun = refl;
  standing = h;
}
blank_follows o ts fs piece h = tt

-- after a term the sum's node counts as it did after the `+`
sum_more : (o : Outer) (ts : Parts) (b : Bound) → sum_node o (with_part ts b) ≡ sum_at PlusRead o ts
sum_more o NoParts b = refl
sum_more o (Part c cs) b = refl

plus_follows : (o : Outer) (ts fs : Parts) (piece : Piece) → can_end fs ≡ true
    → FollowsWhere (state_at_position o ts fs PlusRead) piece (step_at PlusRead o ts fs piece)
    (lead_at stage.Plus (innermost_frame (frames_of o)) (innermost_of (state_at_position o ts fs PlusRead)) piece)
plus_follows o ts fs Blank h =
    let sum = sum_at PlusRead o ts in
    let high = level_behind (levels_above o) sum 0 in
    let low = level_behind (levels_above o) sum (product_node fs) in
    record {
      innermost = ap (λ (v : Bool). record { terms = not v; before = None; last = None; stage = stage.Begins })
          (is_empty-with_part ts (term_of fs));
      frames = refl;
      marks =
          ap (λ (s : ℕ). outer_marks o (each_marks plus_between (level_behind (levels_above o) s 0) (with_part ts (term_of fs)) []))
          (sum_more o ts (term_of fs))
          ∙ ap (outer_marks o) (each-with_part plus_between high ts (term_of fs) []
          ∙ ap (each_marks plus_between high ts) (term_marks (levels_above o) sum fs (None ∷ None ∷ None ∷ []) h))
          ∙ factors_add o high low ts fs (None ∷ None ∷ []) (None ∷ []);
      begun = refl;
      standing = tt;
    }
plus_follows o ts fs piece h = tt

-- the marks after the end of an argument
argument_marks : (o : Outer) (bs ts' fs' ts fs : Parts) → can_end fs ≡ true
    → marks_of_state (inside (Arguments (with_part bs (bound_of_parts ts fs))) o ts' fs')
    ≡ marks_of_state (state_at_position (Inside (Arguments bs) ts' fs' o) ts fs CommaRead) ++ None ∷ []
argument_marks o bs ts' fs' ts fs h =
    ap (λ (ms : Marks). outer_marks o (each_marks plus_between high ts' (factors_marks low Nothing fs' (star_marks fs' (Some low ∷ ms)))))
    (each-with_part comma_between (suc low) bs (bound_of_parts ts fs) []
    ∙ ap (each_marks comma_between (suc low) bs)
    (bound_made_marks low ts fs (None ∷ None ∷ []) h
    ∙ ap (each_marks plus_between (level_behind low (node_of_any ts) 0) ts)
    (factors_behind (None ∷ []) (level_behind low (node_of_any ts) (product_node fs)) fs (None ∷ []))
    ∙ each_behind (None ∷ []) (level_behind low (node_of_any ts) 0) ts
    (factors_marks (level_behind low (node_of_any ts) (product_node fs)) Nothing fs (None ∷ []))))
    ∙ ap (λ (ms : Marks). outer_marks o (each_marks plus_between high ts' (factors_marks low Nothing fs' (star_marks fs' ms))))
    (bracket_behind (None ∷ []) low (Arguments bs) (inside_marks low (node_of_any ts) ts fs (None ∷ [])))
    ∙ star_add o high low ts' fs' (bracket_marks low (Arguments bs) (inside_marks low (node_of_any ts) ts fs (None ∷ []))) (None ∷ [])
    ∙ ap (λ (k : ℕ). outer_marks o (each_marks plus_between high ts' (factors_marks low Nothing fs' (star_marks fs'
    (bracket_marks low (Arguments bs) (inside_marks k (node_of_any ts) ts fs (None ∷ [])))))) ++ None ∷ [])
    (let e : low ≡ levels_above (Inside (Arguments bs) ts' fs' o) = omega arith in e)
  where
    high : ℕ
    high = level_behind (levels_above o) (sum_node o ts') 0

    low : ℕ
    low = level_behind (levels_above o) (sum_node o ts') (node_of_any fs')

comma_follows : (o : Outer) (ts fs : Parts) (piece : Piece) → can_end fs ≡ true
    → FollowsWhere (state_at_position o ts fs CommaRead) piece (step_at CommaRead o ts fs piece)
    (lead_at stage.Comma (innermost_frame (frames_of o)) (innermost_of (state_at_position o ts fs CommaRead)) piece)
comma_follows Whole ts fs Blank h = tt
comma_follows (Inside (Exponent c) ts' fs' o) ts fs Blank h = tt
comma_follows (Inside Factor ts' fs' o) ts fs Blank h = tt
comma_follows (Inside (Arguments bs) ts' fs' o) ts fs Blank h = record {
  innermost = refl;
  frames = ap (λ (v : Bool). record { opening = opening.Maximum (not v); terms = not (is_empty ts'); factors = is_some (last_of fs') } ∷ frames_of o)
      (is_empty-with_part bs (bound_of_parts ts fs));
  marks = argument_marks o bs ts' fs' ts fs h;
  begun = refl;
  standing = tt;
}
comma_follows o ts fs piece h = tt

-- after an accepted piece at any position, outline and levels represent the state
follows_at : (position : Position) (o : Outer) (ts fs : Parts) (piece : Piece) → MayFollow position fs
    → FollowsWhere (state_at_position o ts fs position) piece (step_at position o ts fs piece)
    (lead_at (stage_of position) (innermost_frame (frames_of o)) (innermost_of (state_at_position o ts fs position)) piece)
follows_at Begins o ts fs piece h = begin_follows o ts fs piece
follows_at (RunCaret i) o ts fs piece h = run_follows o ts fs i piece h
follows_at (PowerCaret c) o ts fs piece h = power_follows o ts fs c piece
follows_at ItemRead o ts fs piece h = item_follows o ts fs piece h
follows_at BlankRead o ts fs piece h = blank_follows o ts fs piece h
follows_at PlusRead o ts fs piece h = plus_follows o ts fs piece h
follows_at CommaRead o ts fs piece h = comma_follows o ts fs piece h

-- the state accepts exactly the pieces that its outline accepts, and outline and levels represent the next
-- state
pub outlines_agree : OutlinesAgree
outlines_agree = record { each = λ f piece h. follows_at f.position f.outer f.terms f.factors piece h }
