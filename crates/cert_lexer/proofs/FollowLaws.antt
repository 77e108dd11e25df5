-- Outlines and levels represent the state, piece by piece.
use Rattle.std.proofs.Common.{◌≡◌, ℕ, zero, suc, ◌≤◌, Bool, true, false, cond, not, nat_lt, [], ◌∷◌}
use Rattle.std.proofs.Common.{◌++◌, length, Option, Some, None, refl, ap, sym, ◌∙◌, arith}
use Rattle.std.specs.Prelude.{is_some}
use Rattle.std.specs.Option.{option_map}
use Rattle.std.proofs.lemmas.Bool.Decides.{nat_tests}
use Rattle.its_model.specs.model.Bounds.{Bound, Constant, Input, PowerOf, Parts, NoParts}
use Rattle.its_model.specs.model.Bounds.{Part}
use Rattle.bound_text.specs.Shapes.{is_empty, with_part}
use Rattle.bound_text.specs.Pieces.{Piece, Variable, Number, Maximum, Open}
use Rattle.bound_text.specs.Writing.{Nothing, plus_between}
use Rattle.bound_text.specs.ParserStates.{Arguments, Exponent, Factor, Outer, Inside, Position, Begins, RunCaret}
use Rattle.bound_text.specs.ParserStates.{PowerCaret, ItemRead, ParserState, last, is_input}
use Rattle.bound_text.specs.ParserStates.{levels_above}
use Rattle.bound_text.specs.ParserStates.{sum_node, product_node, node_of_any}
use Rattle.bound_text.specs.Steps.{when, step_at, with_copies, state_at_position, behind_factor, inside}
use Rattle.bound_text.specs.Inside.{Marks, factors_marks, star_marks, each_marks, outer_marks}
use Rattle.bound_text.specs.Inside.{bound_marks, level_behind, marks_of_state}
use Rattle.bound_text.proofs.PartLaws.{last-with_part, product_node-with_part, is_empty-with_part}
use Rattle.bound_text.proofs.RunLaws.{product_two}
use Rattle.bound_text.proofs.MarkLaws.{constant_behind, input_behind, copies_behind, ends_nothing}
use Rattle.cert_lexer.specs.declared.outline.Shape.TheVariants as shape
use Rattle.cert_lexer.specs.declared.outline.Stage.TheVariants as stage
use Rattle.cert_lexer.specs.declared.outline.Change.TheVariants as change
use Rattle.cert_lexer.specs.declared.outline.OutlineStep.{OutlineStep}
use Rattle.cert_lexer.specs.Outlines.{shape_of, last_of, is_last_input, innermost_of}
use Rattle.cert_lexer.specs.Outlines.{frames_of, innermost_frame, lead_at}
use Rattle.cert_lexer.specs.Levels.{raised_from, before_term, open_parts_of, factor_level, item_level, node_if}
use Rattle.cert_lexer.specs.Following.{Follows, FollowsWhere}
use Rattle.cert_lexer.proofs.MarkMoves.{factors_behind, star_behind, term_behind, term_raised}
use Rattle.cert_lexer.proofs.OutlineLaws.{item_outlined, input_shown, any_shown}
use Rattle.cert_lexer.proofs.OutlineLaws.{any_node, sum_shows}
use Rattle.cert_lexer.proofs.BracketMarks.{other_behind, level_more}

-- a step that a test permits follows the state, if the outline's test is the same
pub when_follows : (f : ParserState) (p : Piece) (v w : Bool) (g : ParserState) (l : OutlineStep) → v ≡ w → (v ≡ true → Follows f p g l)
    → FollowsWhere f p (when v g) (when w l)
when_follows f p true true g l e h = h refl
when_follows f p true false g l e h = cc
when_follows f p false true g l e h = cc
when_follows f p false false g l e h = tt

-- the marks of factors, and of a `*` after them, when others follow
pub factors_add : (o : Outer) (high low : ℕ) (ts fs : Parts) (rest ys : Marks)
    → outer_marks o (each_marks plus_between high ts (factors_marks low Nothing fs (rest ++ ys)))
    ≡ outer_marks o (each_marks plus_between high ts (factors_marks low Nothing fs rest)) ++ ys
factors_add o high low ts fs rest ys =
    ap (λ (ms : Marks). outer_marks o (each_marks plus_between high ts ms)) (factors_behind ys low fs rest)
    ∙ term_behind o high ts (factors_marks low Nothing fs rest) ys

pub star_add : (o : Outer) (high low : ℕ) (ts fs : Parts) (rest ys : Marks)
    → outer_marks o (each_marks plus_between high ts (factors_marks low Nothing fs (star_marks fs (rest ++ ys))))
    ≡ outer_marks o (each_marks plus_between high ts (factors_marks low Nothing fs (star_marks fs rest))) ++ ys
star_add o high low ts fs rest ys =
    ap (λ (ms : Marks). outer_marks o (each_marks plus_between high ts (factors_marks low Nothing fs ms)))
    (star_behind ys fs rest)
    ∙ factors_add o high low ts fs (star_marks fs rest) ys

-- the level of the next item is that computed by the outline
pub level_shown : (o : Outer) (ts fs : Parts) (position : Position) (product : Bool)
    → level_behind (levels_above o) (sum_node o ts) (node_if product)
    ≡ factor_level (levels_above o) (innermost_frame (frames_of o)) (innermost_of (state_at_position o ts fs position)) product
level_shown o ts fs position product = ap (λ (s : ℕ). level_behind (levels_above o) s (node_if product)) (sum_shows o ts)

pub item_shown : (o : Outer) (ts fs : Parts) (position : Position)
    → level_behind (levels_above o) (sum_node o ts) (node_of_any fs)
    ≡ item_level (levels_above o) (innermost_frame (frames_of o)) (innermost_of (state_at_position o ts fs position))
item_shown o ts fs position =
    ap (level_behind (levels_above o) (sum_node o ts)) (any_node fs ∙ ap node_if (sym (any_shown fs)))
    ∙ level_shown o ts fs position (is_some (last_of fs))

-- after a leaf where an item begins, outline and levels represent the state
leaf_follows : (o : Outer) (ts fs : Parts) (b : Bound) → product_node (with_part fs b) ≡ node_of_any fs
    → ((level : ℕ) → factors_marks level Nothing (with_part fs b) [] ≡ factors_marks level Nothing fs (star_marks fs (Some level ∷ [])))
    → marks_of_state (behind_factor o ts fs b)
    ≡ marks_of_state (state_at_position o ts fs Begins)
    ++ Some (item_level (levels_above o) (innermost_frame (frames_of o)) (innermost_of (state_at_position o ts fs Begins))) ∷ []
leaf_follows o ts fs b e h =
    let high = level_behind (levels_above o) (sum_node o ts) 0 in
    let low = level_behind (levels_above o) (sum_node o ts) (node_of_any fs) in
    ap (λ (p : ℕ). outer_marks o (each_marks plus_between high ts
    (factors_marks (level_behind (levels_above o) (sum_node o ts) p) Nothing (with_part fs b) []))) e
    ∙ ap (λ (ms : Marks). outer_marks o (each_marks plus_between high ts ms)) (h low)
    ∙ star_add o high low ts fs [] (Some low ∷ [])
    ∙ ap (λ (k : ℕ). marks_of_state (state_at_position o ts fs Begins) ++ Some k ∷ []) (item_shown o ts fs Begins)

-- after a piece with which an item begins, outline and levels represent the state
pub begin_follows : (o : Outer) (ts fs : Parts) (piece : Piece)
    → FollowsWhere (state_at_position o ts fs Begins) piece (step_at Begins o ts fs piece)
    (lead_at stage.Begins (innermost_frame (frames_of o)) (innermost_of (state_at_position o ts fs Begins)) piece)
begin_follows o ts fs (Variable v) =
    when_follows (state_at_position o ts fs Begins) (Variable v) (not (is_input v (last fs))) (not (is_last_input v (last_of fs))) _ _
    (ap not (input_shown v (last fs)))
    (λ e. record {
      innermost = item_outlined o ts fs (Input v) (innermost_of (state_at_position o ts fs Begins)) refl refl;
      frames = refl;
      marks = leaf_follows o ts fs (Input v) (product_node-with_part fs (Input v) refl)
          (λ level. input_behind level v fs [] (ends_nothing fs v e));
      begun = refl;
      standing = is_empty-with_part fs (Input v);
    })
begin_follows o ts fs (Number c) = record {
  innermost = item_outlined o ts fs (Constant c) (innermost_of (state_at_position o ts fs Begins)) refl refl;
  frames = refl;
  marks = leaf_follows o ts fs (Constant c) (product_node-with_part fs (Constant c) refl)
      (λ level. constant_behind level c fs []);
  begun = refl;
  standing = is_empty-with_part fs (Constant c);
}
begin_follows o ts fs Maximum =
    let high = level_behind (levels_above o) (sum_node o ts) 0 in
    let low = level_behind (levels_above o) (sum_node o ts) (node_of_any fs) in
    let e : levels_above (Inside (Arguments NoParts) ts fs o) ≡ low = omega arith in
    record {
      innermost = refl;
      frames = refl;
      marks = star_add o high low ts fs [] (Some low ∷ [])
          ∙ ap (λ (k : ℕ). marks_of_state (state_at_position o ts fs Begins) ++ Some k ∷ []) (item_shown o ts fs Begins);
      begun = ap (λ (k : ℕ). record { above = k; start = length (marks_of_state (inside (Arguments NoParts) o ts fs)) }
          ∷ open_parts_of (state_at_position o ts fs Begins)) (e ∙ item_shown o ts fs Begins);
      standing = tt;
    }
begin_follows o ts fs Open =
    let low = level_behind (levels_above o) (sum_node o ts) 1 in
    let e : levels_above (Inside Factor ts fs o) ≡ low = omega arith in
    record {
      innermost = refl;
      frames = refl;
      marks = sum_begins fs
          ∙ ap (λ (k : ℕ). marks_of_state (state_at_position o ts fs Begins) ++ Some k ∷ []) (level_shown o ts fs Begins true);
      begun = ap (λ (k : ℕ). record { above = k; start = length (marks_of_state (inside Factor o ts fs)) }
          ∷ open_parts_of (state_at_position o ts fs Begins)) (e ∙ level_shown o ts fs Begins true);
      standing = tt;
    }
  where
    -- the bracket of a sum counts as the first factor of a product
    sum_begins : (fs : Parts)
        → marks_of_state (inside Factor o ts fs)
        ≡ marks_of_state (state_at_position o ts fs Begins) ++ Some (level_behind (levels_above o) (sum_node o ts) 1) ∷ []
    sum_begins NoParts =
        term_behind o (level_behind (levels_above o) (sum_node o ts) 0) ts []
        (Some (level_behind (levels_above o) (sum_node o ts) 1) ∷ [])
    sum_begins (Part b bs) =
        star_add o (level_behind (levels_above o) (sum_node o ts) 0) (level_behind (levels_above o) (sum_node o ts) 1)
        ts (Part b bs) [] (Some (level_behind (levels_above o) (sum_node o ts) 1) ∷ [])
begin_follows o ts fs piece = tt

-- two or more copies pass the test of a run
is_several : (n : ℕ) → 2 ≤ n → nat_lt 1 n ≡ true
is_several n h = grind (arith, nat_tests)

-- the number of a run that begins a term raises the marks of the term
run_marks : (o : Outer) (ts fs : Parts) (i m : ℕ) → is_input i (last fs) ≡ false
    → marks_of_state (state_at_position o ts (with_copies (suc (suc m)) i fs) ItemRead)
    ≡ cond (not (is_some (last_of fs)))
    (raised_from (length (before_term o (sum_node o ts) ts)) (marks_of_state (state_at_position o ts fs (RunCaret i))))
    (marks_of_state (state_at_position o ts fs (RunCaret i))) ++ None ∷ []
run_marks o ts fs i m h =
    ap (λ (p : ℕ). outer_marks o (each_marks plus_between high ts
    (factors_marks (level_behind (levels_above o) (sum_node o ts) p) Nothing (with_copies (suc (suc m)) i fs) [])))
    (product_two (with_copies m i fs) (Input i) (Input i))
    ∙ ap (λ (ms : Marks). outer_marks o (each_marks plus_between high ts ms))
    (copies_behind low (suc m) i fs [] (ends_nothing fs i (ap not h))
    ∙ ap (λ (v : Bool). factors_marks low Nothing fs (star_marks fs (Some low ∷ cond v (None ∷ None ∷ []) [])))
    (is_several (suc (suc m)) (omega arith)))
    ∙ go fs
  where
    high : ℕ
    high = level_behind (levels_above o) (sum_node o ts) 0

    low : ℕ
    low = level_behind (levels_above o) (sum_node o ts) 1

    go : (fs : Parts)
        → outer_marks o (each_marks plus_between high ts (factors_marks low Nothing fs (star_marks fs (Some low ∷ None ∷ None ∷ []))))
        ≡ cond (not (is_some (last_of fs)))
        (raised_from (length (before_term o (sum_node o ts) ts)) (marks_of_state (state_at_position o ts fs (RunCaret i))))
        (marks_of_state (state_at_position o ts fs (RunCaret i))) ++ None ∷ []
    go NoParts =
        term_behind o high ts (Some low ∷ None ∷ []) (None ∷ [])
        ∙ ap (λ (k : ℕ). outer_marks o (each_marks plus_between high ts (Some k ∷ None ∷ [])) ++ None ∷ [])
        (level_more (levels_above o) (sum_node o ts))
        ∙ ap (λ (ms : Marks). ms ++ None ∷ []) (sym (term_raised o high ts (Some high ∷ None ∷ [])))
    go (Part b bs) =
        star_add o high low ts (Part b bs) (Some low ∷ None ∷ []) (None ∷ [])
        ∙ ap (λ (v : Bool). cond (not v)
        (raised_from (length (before_term o (sum_node o ts) ts)) (marks_of_state (state_at_position o ts (Part b bs) (RunCaret i))))
        (marks_of_state (state_at_position o ts (Part b bs) (RunCaret i))) ++ None ∷ []) (sym (any_shown (Part b bs)))

-- after a run of two or more copies, outline and levels represent the state
copies_follow : (o : Outer) (ts fs : Parts) (i n k : ℕ) → is_input i (last fs) ≡ false → 2 ≤ k
    → Follows (state_at_position o ts fs (RunCaret i)) (Number n) (state_at_position o ts (with_copies k i fs) ItemRead)
    (record {
      innermost = record (innermost_of (state_at_position o ts fs (RunCaret i))) {
        before = Some (shape.Input i);
        last = Some (shape.Input i);
        stage = stage.Item;
      };
      change = change.Keep;
    })
copies_follow o ts fs i n zero h more = absurd (omega (arith, more))
copies_follow o ts fs i n (suc zero) h more = absurd (omega (arith, more))
copies_follow o ts fs i n (suc (suc m)) h more = record {
  innermost =
      item_outlined o ts (with_copies (suc m) i fs) (Input i)
      (innermost_of (state_at_position o ts (with_copies (suc m) i fs) Begins)) refl refl
      ∙ ap (λ (b : Option Bound). record {
        terms = not (is_empty ts);
        before = option_map shape_of b;
        last = Some (shape.Input i);
        stage = stage.Item;
      }) (last-with_part (with_copies m i fs) (Input i));
  frames = refl;
  marks = run_marks o ts fs i m h;
  begun = refl;
  standing = is_empty-with_part (with_copies (suc m) i fs) (Input i);
}

-- after the number of a run, outline and levels represent the state
pub run_follows : (o : Outer) (ts fs : Parts) (i : ℕ) (piece : Piece) → is_input i (last fs) ≡ false
    → FollowsWhere (state_at_position o ts fs (RunCaret i)) piece (step_at (RunCaret i) o ts fs piece)
    (lead_at (stage.Run i) (innermost_frame (frames_of o)) (innermost_of (state_at_position o ts fs (RunCaret i))) piece)
run_follows o ts fs i (Number n) h =
    when_follows (state_at_position o ts fs (RunCaret i)) (Number n) (nat_lt 1 n) (nat_lt 1 n) _ _ refl
    (λ e. copies_follow o ts fs i n n h (let k : 2 ≤ n = grind (arith, nat_tests) in k))
run_follows o ts fs i piece h = tt

-- after an exponent that is a leaf, outline and levels represent the state
power_marks : (o : Outer) (ts fs : Parts) (c : ℕ) (e : Bound)
    → ((level : ℕ) → bound_marks level (PowerOf c e) [] ≡ Some level ∷ None ∷ Some (suc level) ∷ [])
    → marks_of_state (behind_factor o ts fs (PowerOf c e))
    ≡ marks_of_state (state_at_position o ts fs (PowerCaret c))
    ++ Some (suc (item_level (levels_above o) (innermost_frame (frames_of o)) (innermost_of (state_at_position o ts fs (PowerCaret c))))) ∷ []
power_marks o ts fs c e h =
    let high = level_behind (levels_above o) (sum_node o ts) 0 in
    let low = level_behind (levels_above o) (sum_node o ts) (node_of_any fs) in
    ap (λ (p : ℕ). outer_marks o (each_marks plus_between high ts
    (factors_marks (level_behind (levels_above o) (sum_node o ts) p) Nothing (with_part fs (PowerOf c e)) [])))
    (product_node-with_part fs (PowerOf c e) refl)
    ∙ ap (λ (ms : Marks). outer_marks o (each_marks plus_between high ts ms))
    (other_behind low (PowerOf c e) fs [] refl
    ∙ ap (λ (ms : Marks). factors_marks low Nothing fs (star_marks fs ms)) (h low))
    ∙ star_add o high low ts fs (Some low ∷ None ∷ []) (Some (suc low) ∷ [])
    ∙ ap (λ (k : ℕ). marks_of_state (state_at_position o ts fs (PowerCaret c)) ++ Some (suc k) ∷ [])
    (item_shown o ts fs (PowerCaret c))

pub power_follows : (o : Outer) (ts fs : Parts) (c : ℕ) (piece : Piece)
    → FollowsWhere (state_at_position o ts fs (PowerCaret c)) piece (step_at (PowerCaret c) o ts fs piece)
    (lead_at stage.Power (innermost_frame (frames_of o)) (innermost_of (state_at_position o ts fs (PowerCaret c))) piece)
power_follows o ts fs c (Number n) = record {
  innermost = item_outlined o ts fs (PowerOf c (Constant n)) (innermost_of (state_at_position o ts fs (PowerCaret c))) refl refl;
  frames = refl;
  marks = power_marks o ts fs c (Constant n) (λ level. refl);
  begun = refl;
  standing = is_empty-with_part fs (PowerOf c (Constant n));
}
power_follows o ts fs c (Variable v) = record {
  innermost = item_outlined o ts fs (PowerOf c (Input v)) (innermost_of (state_at_position o ts fs (PowerCaret c))) refl refl;
  frames = refl;
  marks = power_marks o ts fs c (Input v) (λ level. refl);
  begun = refl;
  standing = is_empty-with_part fs (PowerOf c (Input v));
}
power_follows o ts fs c Open =
    let high = level_behind (levels_above o) (sum_node o ts) 0 in
    let low = level_behind (levels_above o) (sum_node o ts) (node_of_any fs) in
    let e : levels_above (Inside (Exponent c) ts fs o) ≡ low = omega arith in
    record {
      innermost = refl;
      frames = refl;
      marks = star_add o high low ts fs (Some low ∷ None ∷ []) (None ∷ []);
      begun = ap (λ (k : ℕ). record { above = k; start = length (marks_of_state (inside (Exponent c) o ts fs)) }
          ∷ open_parts_of (state_at_position o ts fs (PowerCaret c))) (e ∙ item_shown o ts fs (PowerCaret c));
      standing = tt;
    }
power_follows o ts fs c piece = tt
