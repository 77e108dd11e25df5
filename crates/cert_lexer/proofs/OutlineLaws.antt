-- Outlines determine the results of the tests that steps make of a state.
use Rattle.std.proofs.Common.{◌≡◌, ℕ, Bool, true, false, not, cond, Option, Some, None, refl, ap}
use Rattle.std.proofs.Common.{sym, ◌∙◌}
use Rattle.std.specs.Prelude.{◌&&◌, is_some}
use Rattle.std.specs.Option.{option_map}
use Rattle.its_model.specs.model.Bounds.{Bound, Constant, Input, SumOf, ProductOf, MaximumOf, PowerOf, Parts, NoParts}
use Rattle.its_model.specs.model.Bounds.{Part}
use Rattle.bound_text.specs.Shapes.{is_empty, is_sum, is_maximum, is_leaf, with_part}
use Rattle.bound_text.specs.ParserStates.{Bracket, Arguments, Exponent, Factor, Outer, Whole, Inside, ItemRead, last, init}
use Rattle.bound_text.specs.ParserStates.{is_input, can_end, term_of, bound_of_parts, in_arguments, in_factor, product_node}
use Rattle.bound_text.specs.ParserStates.{node_of_any, sum_node}
use Rattle.bound_text.specs.Steps.{behind_factor, state_at_position, can_close}
use Rattle.bound_text.proofs.PartLaws.{last-with_part, init-with_part}
use Rattle.cert_lexer.specs.declared.outline.Shape.{Shape}
use Rattle.cert_lexer.specs.declared.outline.Shape.TheVariants as shape
use Rattle.cert_lexer.specs.declared.outline.Innermost.{Innermost}
use Rattle.cert_lexer.specs.declared.outline.Stage.TheVariants as stage
use Rattle.cert_lexer.specs.Outlines.{shape_of, last_of, is_last_input, any_factor, before_last, innermost_of, with_item}
use Rattle.cert_lexer.specs.Outlines.{ends_term, term_shape, bound_shape, is_leaf_shape, is_maximum_shape, is_sum_shape}
use Rattle.cert_lexer.specs.Outlines.{closes_behind, opening_of, in_maximum, innermost_frame, frames_of}
use Rattle.cert_lexer.specs.Levels.{is_product, is_factor_frame, node_if}

-- after an item, the outline has it as the last factor, and the factor that was last before it
pub item_outlined : (outer : Outer) (ts fs : Parts) (b : Bound) (i : Innermost) → i.terms ≡ not (is_empty ts)
    → i.last ≡ last_of fs → innermost_of (behind_factor outer ts fs b) ≡ with_item (shape_of b) i
item_outlined outer ts fs b i terms end =
    ap (λ (o : Option Bound). at (option_map shape_of o) (before_last (option_map shape_of o) (last_of (init (with_part fs b)))))
    (last-with_part fs b)
    ∙ ap (λ (gs : Parts). at (Some (shape_of b)) (before_last (Some (shape_of b)) (last_of gs))) (init-with_part fs b)
    ∙ ap (λ (o : Option Shape). at (Some (shape_of b)) (before_last (Some (shape_of b)) o)) (sym end)
    ∙ ap (λ (v : Bool). record { terms = v; before = before_last (Some (shape_of b)) i.last; last = Some (shape_of b); stage = stage.Item }) (sym terms)
  where
    at : Option Shape → Option Shape → Innermost
    at end before = record { terms = not (is_empty ts); before = before; last = end; stage = stage.Item }

-- whether the last factor is a given variable is determined by its shape
pub input_shown : (i : ℕ) (b : Option Bound) → is_input i b ≡ is_last_input i (option_map shape_of b)
input_shown i None = refl
input_shown i (Some (Constant c)) = refl
input_shown i (Some (Input j)) = refl
input_shown i (Some (SumOf bs)) = refl
input_shown i (Some (ProductOf bs)) = refl
input_shown i (Some (MaximumOf bs)) = refl
input_shown i (Some (PowerOf c e)) = refl

-- factors that are not empty have a last one
pub some_last : (b : Bound) (bs : Parts) → (c : Bound) × (last (Part b bs) ≡ Some c)
some_last b NoParts = (b, refl)
some_last b (Part c bs) = some_last c bs

-- the outline shows whether there are factors
pub any_shown : (fs : Parts) → is_some (last_of fs) ≡ not (is_empty fs)
any_shown NoParts = refl
any_shown (Part b bs) = let t = some_last b bs in ap (λ (o : Option Bound). is_some (option_map shape_of o)) t.1

-- before the last of at least two factors there is one in the outline
more_before : (end some : Option Shape) → is_some end ≡ true → is_some some ≡ true → is_some (before_last end some) ≡ true
more_before None some e k = cc
more_before (Some (shape.Constant c)) some e k = k
more_before (Some (shape.Input i)) some e k = k
more_before (Some shape.Sum) some e k = ap (λ (v : Bool). is_some (any_factor v)) k
more_before (Some shape.Maximum) some e k = ap (λ (v : Bool). is_some (any_factor v)) k
more_before (Some shape.Other) some e k = ap (λ (v : Bool). is_some (any_factor v)) k

-- the outline's factor before the last one
abbrev pub before_of : Parts → Option Shape
before_of fs = before_last (last_of fs) (last_of (init fs))

-- with a factor before the last one, a term can end after the factors, and they count as a product
ends_behind : (before : Option Shape) (item : Shape) → is_some before ≡ true → ends_term before (Some item) ≡ true
ends_behind None item e = cc
ends_behind (Some s) (shape.Constant c) e = refl
ends_behind (Some s) (shape.Input i) e = refl
ends_behind (Some s) shape.Sum e = refl
ends_behind (Some s) shape.Maximum e = refl
ends_behind (Some s) shape.Other e = refl

shape_behind : (before end : Option Shape) → is_some before ≡ true → term_shape before end ≡ shape.Other
shape_behind None end e = cc
shape_behind (Some s) None e = refl
shape_behind (Some s) (Some t) e = refl

product_behind : (before end : Option Shape) → is_some before ≡ true → is_product before end ≡ true
product_behind None end e = cc
product_behind (Some s) end e = refl

-- of at least two factors there is one before the last
before_more : (b c : Bound) (bs : Parts) → is_some (before_of (Part b (Part c bs))) ≡ true
before_more b c bs =
    more_before (last_of (Part c bs)) (last_of (Part b (init (Part c bs)))) (any_shown (Part c bs))
    (any_shown (Part b (init (Part c bs))))

-- the outline determines whether a term can end
pub end_shown : (fs : Parts) → can_end fs ≡ ends_term (before_of fs) (last_of fs)
end_shown NoParts = refl
end_shown (Part (Constant c) NoParts) = refl
end_shown (Part (Input i) NoParts) = refl
end_shown (Part (SumOf bs) NoParts) = refl
end_shown (Part (ProductOf bs) NoParts) = refl
end_shown (Part (MaximumOf bs) NoParts) = refl
end_shown (Part (PowerOf c e) NoParts) = refl
end_shown (Part b (Part c bs)) =
    let t = some_last c bs in
    sym (ap (λ (o : Option Bound). ends_term (before_of (Part b (Part c bs))) (option_map shape_of o)) t.1
    ∙ ends_behind (before_of (Part b (Part c bs))) (shape_of t.0) (before_more b c bs))

-- the outline determines whether the factors count as a product
pub product_shown : (fs : Parts) → product_node fs ≡ node_if (is_product (before_of fs) (last_of fs))
product_shown NoParts = refl
product_shown (Part (Constant c) NoParts) = refl
product_shown (Part (Input i) NoParts) = refl
product_shown (Part (SumOf bs) NoParts) = refl
product_shown (Part (ProductOf bs) NoParts) = refl
product_shown (Part (MaximumOf bs) NoParts) = refl
product_shown (Part (PowerOf c e) NoParts) = refl
product_shown (Part b (Part c bs)) =
    sym (ap node_if (product_behind (before_of (Part b (Part c bs))) (last_of (Part c bs)) (before_more b c bs)))

-- the outline determines the shape of the term, and that of the bound
term_shown : (fs : Parts) → shape_of (term_of fs) ≡ term_shape (before_of fs) (last_of fs)
term_shown NoParts = refl
term_shown (Part (Constant c) NoParts) = refl
term_shown (Part (Input i) NoParts) = refl
term_shown (Part (SumOf bs) NoParts) = refl
term_shown (Part (ProductOf bs) NoParts) = refl
term_shown (Part (MaximumOf bs) NoParts) = refl
term_shown (Part (PowerOf c e) NoParts) = refl
term_shown (Part b (Part c bs)) =
    sym (shape_behind (before_of (Part b (Part c bs))) (last_of (Part c bs)) (before_more b c bs))

pub bound_shown : (outer : Outer) (ts fs : Parts)
    → shape_of (bound_of_parts ts fs) ≡ bound_shape (innermost_of (state_at_position outer ts fs ItemRead))
bound_shown outer NoParts fs = term_shown fs
bound_shown outer (Part b NoParts) fs = refl
bound_shown outer (Part b (Part c bs)) fs = refl

-- the shape of a bound determines the results of tests
pub maximum_shown : (b : Bound) → is_maximum b ≡ is_maximum_shape (shape_of b)
maximum_shown (Constant c) = refl
maximum_shown (Input i) = refl
maximum_shown (SumOf bs) = refl
maximum_shown (ProductOf bs) = refl
maximum_shown (MaximumOf bs) = refl
maximum_shown (PowerOf c e) = refl

leaf_shown : (b : Bound) → is_leaf b ≡ is_leaf_shape (shape_of b)
leaf_shown (Constant c) = refl
leaf_shown (Input i) = refl
leaf_shown (SumOf bs) = refl
leaf_shown (ProductOf bs) = refl
leaf_shown (MaximumOf bs) = refl
leaf_shown (PowerOf c e) = refl

pub sum_shown : (b : Bound) → is_sum b ≡ is_sum_shape (shape_of b)
sum_shown (Constant c) = refl
sum_shown (Input i) = refl
sum_shown (SumOf bs) = refl
sum_shown (ProductOf bs) = refl
sum_shown (MaximumOf bs) = refl
sum_shown (PowerOf c e) = refl

-- the outline determines whether a bracket can close
pub close_shown : (bracket : Bracket) (b : Bound) → can_close bracket b ≡ closes_behind (opening_of bracket) (shape_of b)
close_shown (Arguments bs) b = ap (λ (v : Bool). not (is_empty bs) && not v) (maximum_shown b)
close_shown (Exponent c) b = ap not (leaf_shown b)
close_shown Factor b = sum_shown b

-- the outline determines whether a bound is in the brackets of a maximum, and whether it is in those of a sum as a
-- factor
pub arguments_shown : (outer : Outer) → in_arguments outer ≡ in_maximum (innermost_frame (frames_of outer))
arguments_shown Whole = refl
arguments_shown (Inside (Arguments bs) ts fs outer) = refl
arguments_shown (Inside (Exponent c) ts fs outer) = refl
arguments_shown (Inside Factor ts fs outer) = refl

pub factor_shown : (outer : Outer) → in_factor outer ≡ is_factor_frame (innermost_frame (frames_of outer))
factor_shown Whole = refl
factor_shown (Inside (Arguments bs) ts fs outer) = refl
factor_shown (Inside (Exponent c) ts fs outer) = refl
factor_shown (Inside Factor ts fs outer) = refl

-- parts count as one node exactly if they are not empty
pub any_node : (fs : Parts) → node_of_any fs ≡ node_if (not (is_empty fs))
any_node NoParts = refl
any_node (Part b bs) = refl

-- the outline determines whether the sum's node counts
pub sum_shows : (outer : Outer) (ts : Parts)
    → sum_node outer ts ≡ node_if (not (is_factor_frame (innermost_frame (frames_of outer))) && not (is_empty ts))
sum_shows outer ts = go (in_factor outer) (is_factor_frame (innermost_frame (frames_of outer))) (factor_shown outer)
  where
    go : (v w : Bool) → v ≡ w → cond v 0 (node_of_any ts) ≡ node_if (not w && not (is_empty ts))
    go true true e = refl
    go true false e = cc
    go false true e = cc
    go false false e = any_node ts
