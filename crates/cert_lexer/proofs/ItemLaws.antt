-- Outlines and levels represent the state after a piece that follows an item.
use Rattle.std.proofs.Common.{◌≡◌, ℕ, suc, Bool, true, false, cond, not, nat_lt, [], ◌∷◌}
use Rattle.std.proofs.Common.{◌++◌, length, Option, Some, None, refl, ap, sym, subst, ◌∙◌, arith}
use Rattle.std.specs.Prelude.{◌&&◌, is_some}
use Rattle.std.specs.Option.{option_map}
use Rattle.std.proofs.lemmas.Bool.{and_parts, not-true}
use Rattle.its_model.specs.model.Bounds.{Bound, Constant, Input, SumOf, ProductOf, MaximumOf, PowerOf, Parts, NoParts}
use Rattle.its_model.specs.model.Bounds.{Part}
use Rattle.bound_text.specs.Shapes.{is_empty, is_sum, is_maximum, with_part}
use Rattle.bound_text.specs.Pieces.{Piece, Close, Times, Caret, Blank, Comma}
use Rattle.bound_text.specs.Writing.{Nothing, plus_between}
use Rattle.bound_text.specs.ParserStates.{Bracket, Arguments, Exponent, Factor, Outer, Whole, Inside, Begins}
use Rattle.bound_text.specs.ParserStates.{ItemRead, BlankRead, last, init, is_input}
use Rattle.bound_text.specs.ParserStates.{can_end, bound_of_parts, can_be_argument, in_factor, in_arguments, levels_above}
use Rattle.bound_text.specs.ParserStates.{sum_node, sum_at, product_node, product_node_round, node_of_any}
use Rattle.bound_text.specs.Steps.{step_at, state_at_position, behind_factor, item_of, can_close, caret_behind}
use Rattle.bound_text.specs.Inside.{Marks, factors_marks, star_marks, each_marks, outer_marks, bracket_marks}
use Rattle.bound_text.specs.Inside.{level_behind, marks_of_state}
use Rattle.bound_text.proofs.PartLaws.{last-with_part, init-with_part, product_node-with_part, is_empty-with_part}
use Rattle.bound_text.proofs.MarkLaws.{constant_behind, input_behind, ends_nothing}
use Rattle.bound_text.proofs.SoundnessLaws.{unsnoc}
use Rattle.cert_lexer.specs.declared.outline.Shape.{Shape}
use Rattle.cert_lexer.specs.declared.outline.Shape.TheVariants as shape
use Rattle.cert_lexer.specs.declared.outline.Stage.TheVariants as stage
use Rattle.cert_lexer.specs.Outlines.{shape_of, last_of, is_last_input, any_factor, before_last, innermost_of, with_item}
use Rattle.cert_lexer.specs.Outlines.{opening_of, frames_of, innermost_frame, lead_at, takes_back, ends_term}
use Rattle.cert_lexer.specs.Outlines.{bound_shape, closes_behind, item_shape, behind_bracket, is_maximum_shape, in_maximum}
use Rattle.cert_lexer.specs.Levels.{raised_from, raised, before_term, node_if}
use Rattle.cert_lexer.specs.Levels.{is_factor_frame, is_product}
use Rattle.cert_lexer.specs.Following.{FollowsWhere}
use Rattle.cert_lexer.proofs.MarkMoves.{factors_behind, each_behind, term_raised, moved_factors}
use Rattle.cert_lexer.proofs.MarkMoves.{deeper, bracket_behind}
use Rattle.cert_lexer.proofs.OutlineLaws.{item_outlined, input_shown, end_shown, product_shown, bound_shown}
use Rattle.cert_lexer.proofs.OutlineLaws.{maximum_shown, close_shown, arguments_shown, factor_shown}
use Rattle.cert_lexer.proofs.BracketMarks.{other_behind, level_more, inside_marks}
use Rattle.cert_lexer.proofs.BracketMarks.{sum_in, item_marks, item_other, item_node}
use Rattle.cert_lexer.specs.Levels.{open_parts_around}
use Rattle.cert_lexer.proofs.FollowLaws.{when_follows, factors_add, star_add}

-- the first `*` of a term raises the marks of its factor by one level
times_marks : (o : Outer) (ts fs : Parts) → is_empty fs ≡ false
    → marks_of_state (state_at_position o ts fs Begins)
    ≡ cond (not (is_product (before_last (last_of fs) (last_of (init fs))) (last_of fs)))
    (raised_from (length (before_term o (sum_node o ts) ts)) (marks_of_state (state_at_position o ts fs ItemRead)))
    (marks_of_state (state_at_position o ts fs ItemRead)) ++ None ∷ []
times_marks o ts fs some =
    starred fs some ∙ go (is_product (before_last (last_of fs) (last_of (init fs))) (last_of fs)) (product_shown fs)
  where
    high : ℕ
    high = level_behind (levels_above o) (sum_node o ts) 0

    low : ℕ
    low = level_behind (levels_above o) (sum_node o ts) 1

    starred : (fs : Parts) → is_empty fs ≡ false → marks_of_state (state_at_position o ts fs Begins)
        ≡ outer_marks o (each_marks plus_between high ts (factors_marks low Nothing fs [])) ++ None ∷ []
    starred NoParts e = cc
    starred (Part b bs) e = factors_add o high low ts (Part b bs) [] (None ∷ [])

    go : (v : Bool) → product_node fs ≡ node_if v
        → outer_marks o (each_marks plus_between high ts (factors_marks low Nothing fs [])) ++ None ∷ []
        ≡ cond (not v)
        (raised_from (length (before_term o (sum_node o ts) ts)) (marks_of_state (state_at_position o ts fs ItemRead)))
        (marks_of_state (state_at_position o ts fs ItemRead)) ++ None ∷ []
    go true e =
        ap (λ (p : ℕ). outer_marks o (each_marks plus_between high ts
        (factors_marks (level_behind (levels_above o) (sum_node o ts) p) Nothing fs [])) ++ None ∷ []) (sym e)
    go false e =
        ap (λ (k : ℕ). outer_marks o (each_marks plus_between high ts (factors_marks k Nothing fs [])) ++ None ∷ [])
        (level_more (levels_above o) (sum_node o ts))
        ∙ ap (λ (ms : Marks). outer_marks o (each_marks plus_between high ts ms) ++ None ∷ [])
        (moved_factors suc raised deeper high Nothing fs [])
        ∙ ap (λ (ms : Marks). ms ++ None ∷ []) (sym (term_raised o high ts (factors_marks high Nothing fs [])))
        ∙ ap (λ (p : ℕ). raised_from (length (before_term o (sum_node o ts) ts)) (outer_marks o (each_marks plus_between high ts
        (factors_marks (level_behind (levels_above o) (sum_node o ts) p) Nothing fs []))) ++ None ∷ []) (sym e)

-- the first ` + ` of a bound raises the marks of its term by one level
blank_marks : (o : Outer) (ts fs : Parts)
    → marks_of_state (state_at_position o ts fs BlankRead)
    ≡ cond (not (is_factor_frame (innermost_frame (frames_of o))) && not (not (is_empty ts)))
    (raised_from (length (before_term o (sum_node o ts) ts)) (marks_of_state (state_at_position o ts fs ItemRead)))
    (marks_of_state (state_at_position o ts fs ItemRead)) ++ None ∷ []
blank_marks o ts fs = go (in_factor o) (is_factor_frame (innermost_frame (frames_of o))) ts (factor_shown o)
  where
    -- the marks of terms and factors, where this many nodes of a sum count
    whole : ℕ → Parts → Marks → Marks
    whole sum ts rest =
        outer_marks o (each_marks plus_between (level_behind (levels_above o) sum 0) ts
        (factors_marks (level_behind (levels_above o) sum (product_node fs)) Nothing fs rest))

    go : (v w : Bool) (ts : Parts) → v ≡ w
        → whole (cond v 0 1) ts (None ∷ [])
        ≡ cond (not w && not (not (is_empty ts)))
        (raised_from (length (before_term o (cond v 0 (node_of_any ts)) ts)) (whole (cond v 0 (node_of_any ts)) ts []))
        (whole (cond v 0 (node_of_any ts)) ts []) ++ None ∷ []
    go true true ts e =
        factors_add o (level_behind (levels_above o) 0 0) (level_behind (levels_above o) 0 (product_node fs)) ts fs []
        (None ∷ [])
    go true false ts e = cc
    go false true ts e = cc
    go false false (Part b bs) e =
        factors_add o (level_behind (levels_above o) 1 0) (level_behind (levels_above o) 1 (product_node fs)) (Part b bs)
        fs [] (None ∷ [])
    go false false NoParts e =
        let level = level_behind (levels_above o) 0 (product_node fs) in
        let more : level_behind (levels_above o) 1 (product_node fs) ≡ suc level = omega arith in
        factors_add o (level_behind (levels_above o) 1 0) (level_behind (levels_above o) 1 (product_node fs)) NoParts fs
        [] (None ∷ [])
        ∙ ap (λ (k : ℕ). outer_marks o (factors_marks k Nothing fs []) ++ None ∷ []) more
        ∙ ap (λ (ms : Marks). outer_marks o ms ++ None ∷ []) (moved_factors suc raised deeper level Nothing fs [])
        ∙ ap (λ (ms : Marks). ms ++ None ∷ [])
        (sym (term_raised o (level_behind (levels_above o) 0 0) NoParts (factors_marks level Nothing fs [])))

-- the place where a term begins doesn't depend on whether the sum's node counts
same_start : (o : Outer) (ts : Parts) → length (before_term o (sum_at BlankRead o ts) ts) ≡ length (before_term o (sum_node o ts) ts)
same_start o NoParts = refl
same_start o (Part b bs) = refl

-- after a `^`, which takes back the last item, outline and levels represent the state
caret_follows : (o : Outer) (ts gs : Parts) (b : Bound)
    → FollowsWhere (state_at_position o ts (with_part gs b) ItemRead) Caret
    (caret_behind o ts gs (Some b))
    (takes_back (Some (shape_of b)) (innermost_of (state_at_position o ts (with_part gs b) ItemRead)))
caret_follows o ts gs (Constant c) =
    when_follows (state_at_position o ts fs ItemRead) Caret (nat_lt 1 c) (nat_lt 1 c) _ _ refl
    (λ e. record {
      innermost =
          ap (λ (end : Option Shape). record { terms = not (is_empty ts); before = None; last = end; stage = stage.Power })
          (sym (ap (λ (x : Option Bound). before_last (option_map shape_of x) (last_of (init fs))) (last-with_part gs (Constant c))
          ∙ ap last_of (init-with_part gs (Constant c))));
      frames = refl;
      marks = star_add o high low ts gs (Some low ∷ []) (None ∷ [])
          ∙ ap (λ (ms : Marks). ms ++ None ∷ []) (sym (
          ap (λ (p : ℕ). outer_marks o (each_marks plus_between high ts
          (factors_marks (level_behind (levels_above o) (sum_node o ts) p) Nothing fs []))) (product_node-with_part gs (Constant c) refl)
          ∙ ap (λ (ms : Marks). outer_marks o (each_marks plus_between high ts ms)) (constant_behind low c gs [])));
      begun = refl;
      standing = tt;
    })
  where
    fs : Parts
    fs = with_part gs (Constant c)

    high : ℕ
    high = level_behind (levels_above o) (sum_node o ts) 0

    low : ℕ
    low = level_behind (levels_above o) (sum_node o ts) (node_of_any gs)
caret_follows o ts gs (Input v) =
    when_follows (state_at_position o ts fs ItemRead) Caret (not (is_input v (last gs)))
    (not (is_last_input v (innermost_of (state_at_position o ts fs ItemRead)).before)) _ _
    (ap not (input_shown v (last gs) ∙ ap (is_last_input v) (sym before)))
    (λ e. record {
      innermost =
          ap (λ (end : Option Shape). record { terms = not (is_empty ts); before = None; last = end; stage = stage.Run v })
          (sym before);
      frames = refl;
      marks = star_add o high low ts gs (Some low ∷ []) (None ∷ [])
          ∙ ap (λ (ms : Marks). ms ++ None ∷ []) (sym (
          ap (λ (p : ℕ). outer_marks o (each_marks plus_between high ts
          (factors_marks (level_behind (levels_above o) (sum_node o ts) p) Nothing fs []))) (product_node-with_part gs (Input v) refl)
          ∙ ap (λ (ms : Marks). outer_marks o (each_marks plus_between high ts ms))
          (input_behind low v gs [] (ends_nothing gs v e))));
      begun = refl;
      standing = not-true (is_input v (last gs)) e;
    })
  where
    fs : Parts
    fs = with_part gs (Input v)

    high : ℕ
    high = level_behind (levels_above o) (sum_node o ts) 0

    low : ℕ
    low = level_behind (levels_above o) (sum_node o ts) (node_of_any gs)

    before : (innermost_of (state_at_position o ts fs ItemRead)).before ≡ last_of gs
    before =
        ap (λ (x : Option Bound). before_last (option_map shape_of x) (last_of (init fs))) (last-with_part gs (Input v))
        ∙ ap last_of (init-with_part gs (Input v))
caret_follows o ts gs (SumOf bs) = tt
caret_follows o ts gs (ProductOf bs) = tt
caret_follows o ts gs (MaximumOf bs) = tt
caret_follows o ts gs (PowerOf c e) = tt

-- the marks after a closing bracket are those of the bracket's item
closed_marks : (bracket : Bracket) (o : Outer) (ts' fs' ts fs : Parts) → can_end fs ≡ true
    → can_close bracket (bound_of_parts ts fs) ≡ true
    → marks_of_state (behind_factor o ts' fs' (item_of bracket (bound_of_parts ts fs)))
    ≡ marks_of_state (state_at_position (Inside bracket ts' fs' o) ts fs ItemRead) ++ None ∷ []
closed_marks bracket o ts' fs' ts fs h k =
    ap (λ (p : ℕ). outer_marks o (each_marks plus_between high ts'
    (factors_marks (level_behind (levels_above o) (sum_node o ts') p) Nothing (with_part fs' item) []))) (item_node bracket fs' b k)
    ∙ ap (λ (ms : Marks). outer_marks o (each_marks plus_between high ts' ms))
    (other_behind low item fs' [] (item_other bracket b k)
    ∙ ap (λ (ms : Marks). factors_marks low Nothing fs' (star_marks fs' ms))
    (item_marks low bracket ts fs h k
    ∙ ap (bracket_marks low bracket)
    (ap (each_marks plus_between (level_behind low (sum_in bracket ts) 0) ts)
    (factors_behind (None ∷ []) (level_behind low (sum_in bracket ts) (product_node fs)) fs [])
    ∙ each_behind (None ∷ []) (level_behind low (sum_in bracket ts) 0) ts
    (factors_marks (level_behind low (sum_in bracket ts) (product_node fs)) Nothing fs []))
    ∙ bracket_behind (None ∷ []) low bracket (inside_marks low (sum_in bracket ts) ts fs [])))
    ∙ star_add o high low ts' fs' (bracket_marks low bracket (inside_marks low (sum_in bracket ts) ts fs [])) (None ∷ [])
    ∙ ap (λ (k : ℕ). outer_marks o (each_marks plus_between high ts' (factors_marks low Nothing fs' (star_marks fs'
    (bracket_marks low bracket (inside_marks k (sum_in bracket ts) ts fs []))))) ++ None ∷ [])
    (let e : low ≡ levels_above (Inside bracket ts' fs' o) = omega arith in e)
    ∙ ap (λ (s : ℕ). outer_marks o (each_marks plus_between high ts' (factors_marks low Nothing fs' (star_marks fs'
    (bracket_marks low bracket (inside_marks (levels_above (Inside bracket ts' fs' o)) s ts fs []))))) ++ None ∷ [])
    (sum_inside bracket)
  where
    b : Bound
    b = bound_of_parts ts fs

    item : Bound
    item = item_of bracket b

    high : ℕ
    high = level_behind (levels_above o) (sum_node o ts') 0

    low : ℕ
    low = level_behind (levels_above o) (sum_node o ts') (product_node_round bracket fs')

    sum_inside : (bracket : Bracket) → sum_in bracket ts ≡ sum_node (Inside bracket ts' fs' o) ts
    sum_inside (Arguments bs) = refl
    sum_inside (Exponent c) = refl
    sum_inside Factor = refl

-- the shape of a sum is `Sum`
sum_behind : (b : Bound) → is_sum b ≡ true → shape_of b ≡ shape.Sum
sum_behind (SumOf bs) e = refl
sum_behind (Constant c) e = cc
sum_behind (Input i) e = cc
sum_behind (ProductOf bs) e = cc
sum_behind (MaximumOf bs) e = cc
sum_behind (PowerOf c d) e = cc

-- the shape of the item of a closing bracket is that of the bracket
closed_shape : (bracket : Bracket) (b : Bound) → can_close bracket b ≡ true
    → shape_of (item_of bracket b) ≡ item_shape (opening_of bracket)
closed_shape (Arguments bs) b e = refl
closed_shape (Exponent c) b e = refl
closed_shape Factor b e = sum_behind b e

-- after the item of a bracket, the outline stores of the factors before only whether there are any
coarse_item : (bracket : Bracket) (before : Option Shape)
    → before_last (Some (item_shape (opening_of bracket))) before ≡ any_factor (is_some before)
coarse_item (Arguments bs) before = refl
coarse_item (Exponent c) before = refl
coarse_item Factor before = refl

-- the innermost bound after a closing bracket is that of the state
closed_item : (bracket : Bracket) (o : Outer) (ts fs : Parts) (b : Bound) → can_close bracket b ≡ true
    → innermost_of (behind_factor o ts fs (item_of bracket b))
    ≡ behind_bracket (record { opening = opening_of bracket; terms = not (is_empty ts); factors = is_some (last_of fs) })
closed_item bracket o ts fs b e =
    item_outlined o ts fs (item_of bracket b) (innermost_of (state_at_position o ts fs Begins)) refl refl
    ∙ ap (λ (s : Shape). with_item s (innermost_of (state_at_position o ts fs Begins))) (closed_shape bracket b e)
    ∙ ap (λ (before : Option Shape). record {
      terms = not (is_empty ts);
      before = before;
      last = Some (item_shape (opening_of bracket));
      stage = stage.Item;
    }) (coarse_item bracket (last_of fs))

close_follows : (o : Outer) (ts fs : Parts)
    → FollowsWhere (state_at_position o ts fs ItemRead) Close (step_at ItemRead o ts fs Close)
    (lead_at stage.Item (innermost_frame (frames_of o)) (innermost_of (state_at_position o ts fs ItemRead)) Close)
close_follows Whole ts fs = tt
close_follows (Inside bracket ts' fs' o) ts fs =
    let b = bound_of_parts ts fs in
    let whole = Inside bracket ts' fs' o in
    let i = innermost_of (state_at_position whole ts fs ItemRead) in
    when_follows (state_at_position whole ts fs ItemRead) Close (can_end fs && can_close bracket b)
    (ends_term i.before i.last && closes_behind (opening_of bracket) (bound_shape i)) _ _
    (ap (λ (v : Bool). v && can_close bracket b) (end_shown fs)
    ∙ ap (λ (v : Bool). ends_term i.before i.last && v)
    (close_shown bracket b ∙ ap (closes_behind (opening_of bracket)) (bound_shown whole ts fs)))
    (λ e. let t = and_parts (can_end fs) (can_close bracket b) e in
    record {
      innermost = closed_item bracket o ts' fs' b t.1;
      frames = refl;
      marks = closed_marks bracket o ts' fs' ts fs t.0 t.1;
      begun = refl;
      standing = is_empty-with_part fs' (item_of bracket b);
    })

-- after a piece that follows an item, outline and levels represent the state
pub item_follows : (o : Outer) (ts fs : Parts) (piece : Piece) → is_empty fs ≡ false
    → FollowsWhere (state_at_position o ts fs ItemRead) piece
    (step_at ItemRead o ts fs piece)
    (lead_at stage.Item (innermost_frame (frames_of o)) (innermost_of (state_at_position o ts fs ItemRead)) piece)
item_follows o ts fs Times h = record {
  innermost = refl;
  frames = refl;
  marks = times_marks o ts fs h;
  begun = refl;
  standing = tt;
}
item_follows o ts fs Caret h =
    let t = unsnoc fs h in
    subst (λ (ps : Parts). FollowsWhere (state_at_position o ts ps ItemRead) Caret (caret_behind o ts (init ps) (last ps))
    (takes_back (last_of ps) (innermost_of (state_at_position o ts ps ItemRead)))) (sym t.2)
    (subst (λ (x : Option Bound). FollowsWhere (state_at_position o ts (with_part t.0 t.1) ItemRead) Caret
    (caret_behind o ts (init (with_part t.0 t.1)) x)
    (takes_back (option_map shape_of x) (innermost_of (state_at_position o ts (with_part t.0 t.1) ItemRead)))) (sym (last-with_part t.0 t.1))
    (subst (λ (gs : Parts). FollowsWhere (state_at_position o ts (with_part t.0 t.1) ItemRead) Caret
    (caret_behind o ts gs (Some t.1))
    (takes_back (Some (shape_of t.1)) (innermost_of (state_at_position o ts (with_part t.0 t.1) ItemRead)))) (sym (init-with_part t.0 t.1))
    (caret_follows o ts t.0 t.1)))
item_follows o ts fs Blank h =
    when_follows (state_at_position o ts fs ItemRead) Blank (can_end fs) _ _ _ (end_shown fs)
    (λ e. record {
      innermost = refl;
      frames = refl;
      marks = blank_marks o ts fs;
      begun = ap (λ (k : ℕ). record { above = levels_above o; start = k } ∷ open_parts_around o) (same_start o ts);
      standing = e;
    })
item_follows o ts fs Comma h =
    let i = innermost_of (state_at_position o ts fs ItemRead) in
    let in_one = in_maximum (innermost_frame (frames_of o)) in
    when_follows (state_at_position o ts fs ItemRead) Comma (can_be_argument o ts fs)
    (in_one && (ends_term i.before i.last && not (is_maximum_shape (bound_shape i)))) _ _
    (ap (λ (v : Bool). v && (can_end fs && not (is_maximum (bound_of_parts ts fs)))) (arguments_shown o)
    ∙ ap (λ (v : Bool). in_one && (v && not (is_maximum (bound_of_parts ts fs)))) (end_shown fs)
    ∙ ap (λ (v : Bool). in_one && (ends_term i.before i.last && not v))
    (maximum_shown (bound_of_parts ts fs) ∙ ap is_maximum_shape (bound_shown o ts fs)))
    (λ e. record {
      innermost = refl;
      frames = refl;
      marks = factors_add o (level_behind (levels_above o) (sum_node o ts) 0)
          (level_behind (levels_above o) (sum_node o ts) (product_node fs)) ts fs [] (None ∷ []);
      begun = refl;
      standing = (and_parts (can_end fs) (not (is_maximum (bound_of_parts ts fs)))
          (and_parts (in_arguments o) (can_end fs && not (is_maximum (bound_of_parts ts fs))) e).1).0;
    })
item_follows o ts fs Close h = close_follows o ts fs
item_follows o ts fs piece h = tt
