-- The state of parsing a bound, as the tree so far.
use Rattle.std.specs.Prelude.{ℕ, ◌+◌, ◌≤◌, max, Bool, true, false, if◌then◌else◌, not, ◌&&◌, ◌==◌, List, ◌∷◌, ◌++◌}
use Rattle.std.specs.Prelude.{Option, Some, None, IsTrue, IsFalse, ⊤}
use Rattle.text_core.specs.model.Bounds.{Bound, Input, SumOf, ProductOf, Parts, NoParts, Part}
use Rattle.bound_expr.specs.Measure.{node_count_of_all, maximum_depth}
use Rattle.bound_expr.specs.Tidy.{IsNoSum, IsNoProduct, IsNoMaximum, EachPart}
use Rattle.bound_text.specs.Shapes.{is_sum, is_maximum, is_empty, with_part, AreShaped}
use Rattle.bound_text.specs.Pieces.{Piece, Variable, Number, Maximum, Open, Times, Caret, Plus, Blank, Comma}
use Rattle.bound_text.specs.Writing.{Nothing, plus_between, comma_between, text_then, factors_then}

-- the node that an open bracket belongs to: a maximum with the arguments so far, a power with this base, or a sum as a
-- factor
pub data Bracket : Type 0 where
  Arguments : Parts → Bracket
  Exponent : ℕ → Bracket
  Factor : Bracket

-- the surroundings of the innermost bound: nothing, or a bracket after these terms of a sum and these factors of the
-- product that is the next term
pub data Outer : Type 0 where
  Whole : Outer
  Inside : Bracket → Parts → Parts → Outer → Outer

-- the part that was read last in the innermost bound: none, so that an item can follow; the `^` of a run or of a
-- power; an item; or a part of ` + ` or of `, `
pub data Position : Type 0 where
  Begins : Position
  RunCaret : ℕ → Position
  PowerCaret : ℕ → Position
  ItemRead : Position
  BlankRead : Position
  PlusRead : Position
  CommaRead : Position

-- the parser's state: what surrounds the innermost bound, the bound's terms and the factors of its last term so far,
-- and the position
pub record ParserState : Type 0 where
  pub outer : Outer
  pub terms : Parts
  pub factors : Parts
  pub position : Position

-- `*` after factors, and then the rest
abbrev pub star_then : Parts → List Piece → List Piece
star_then NoParts rest = rest
star_then (Part b bs) rest = Times ∷ rest

-- parts with the separator after each, and then the rest
abbrev pub each_then : List Piece → Parts → List Piece → List Piece
each_then separator NoParts rest = rest
each_then separator (Part b bs) rest = text_then b (separator ++ each_then separator bs rest)

-- an open bracket, and then the rest
abbrev pub bracket_then : Bracket → List Piece → List Piece
bracket_then (Arguments bs) rest = Maximum ∷ each_then comma_between bs rest
bracket_then (Exponent c) rest = Number c ∷ Caret ∷ Open ∷ rest
bracket_then Factor rest = Open ∷ rest

-- the pieces before the innermost bound, and then the rest
abbrev pub outer_then : Outer → List Piece → List Piece
outer_then Whole rest = rest
outer_then (Inside bracket ts fs outer) rest =
    outer_then outer (each_then plus_between ts (factors_then Nothing fs (star_then fs (bracket_then bracket rest))))

-- the piece or item that was read last, and then the rest
abbrev pub position_then : Position → Parts → List Piece → List Piece
position_then Begins fs rest = star_then fs rest
position_then (RunCaret i) fs rest = star_then fs (Variable i ∷ Caret ∷ rest)
position_then (PowerCaret c) fs rest = star_then fs (Number c ∷ Caret ∷ rest)
position_then ItemRead fs rest = rest
position_then BlankRead fs rest = Blank ∷ rest
position_then PlusRead fs rest = Blank ∷ Plus ∷ rest
position_then CommaRead fs rest = Comma ∷ rest

-- all pieces read so far, and then the rest
abbrev pub state_then : ParserState → List Piece → List Piece
state_then f rest =
    outer_then f.outer (each_then plus_between f.terms
    (factors_then Nothing f.factors (position_then f.position f.factors rest)))

-- whether the innermost bracket is that of a sum as a factor
abbrev pub in_factor : Outer → Bool
in_factor Whole = false
in_factor (Inside (Arguments bs) ts fs outer) = false
in_factor (Inside (Exponent c) ts fs outer) = false
in_factor (Inside Factor ts fs outer) = true

-- 1 if there are parts, else 0
abbrev pub node_of_any : Parts → ℕ
node_of_any NoParts = 0
node_of_any (Part b bs) = 1

-- 1 if the innermost bound counts as a sum: from its first ` + ` on, unless it is a sum in brackets, whose bracket
-- counts it
abbrev pub sum_node : Outer → Parts → ℕ
sum_node outer ts = if in_factor outer then 0 else node_of_any ts

-- 1 if factors count as a product: once a `*` or the number of a run was read, or the bracket of a sum, which is always
-- a factor
abbrev pub product_node : Parts → ℕ
product_node NoParts = 0
product_node (Part b NoParts) = if is_sum b then 1 else 0
product_node (Part b (Part c bs)) = 1

-- 1 if the bracket is in a product; a sum in brackets always is
abbrev pub product_node_round : Bracket → Parts → ℕ
product_node_round (Arguments bs) fs = node_of_any fs
product_node_round (Exponent c) fs = node_of_any fs
product_node_round Factor fs = 1

-- the number of nodes of the node that a bracket belongs to
abbrev pub bracket_nodes : Bracket → ℕ
bracket_nodes (Arguments bs) = 1 + node_count_of_all bs
bracket_nodes (Exponent c) = 1
bracket_nodes Factor = 1

-- the levels of a maximum's arguments before the open one
abbrev pub bracket_depth : Bracket → ℕ
bracket_depth (Arguments bs) = maximum_depth bs
bracket_depth (Exponent c) = 0
bracket_depth Factor = 0

-- the nodes around the innermost bound
abbrev pub nodes_round : Outer → ℕ
nodes_round Whole = 0
nodes_round (Inside bracket ts fs outer) =
    nodes_round outer + sum_node outer ts + node_count_of_all ts + product_node_round bracket fs + node_count_of_all fs
    + bracket_nodes bracket

-- the levels above the innermost bound
abbrev pub levels_above : Outer → ℕ
levels_above Whole = 0
levels_above (Inside bracket ts fs outer) = levels_above outer + sum_node outer ts + product_node_round bracket fs + 1

-- the levels of the tree around the innermost bound
abbrev pub levels_round : Outer → ℕ
levels_round Whole = 0
levels_round (Inside bracket ts fs outer) =
    max (levels_round outer) (max (levels_above outer + sum_node outer ts + maximum_depth ts)
    (max (levels_above outer + sum_node outer ts + product_node_round bracket fs + maximum_depth fs)
    (levels_above outer + sum_node outer ts + product_node_round bracket fs + 1 + bracket_depth bracket)))

-- the nodes of the sum, of the product, and of an item that has begun but is no factor yet, by the position
abbrev pub sum_at : Position → Outer → Parts → ℕ
sum_at BlankRead outer ts = if in_factor outer then 0 else 1
sum_at PlusRead outer ts = if in_factor outer then 0 else 1
sum_at _ outer ts = sum_node outer ts

abbrev pub product_at : Position → Parts → ℕ
product_at ItemRead fs = product_node fs
product_at BlankRead fs = product_node fs
product_at PlusRead fs = product_node fs
product_at CommaRead fs = product_node fs
product_at _ fs = node_of_any fs

abbrev pub item_at : Position → ℕ
item_at (RunCaret i) = 1
item_at (PowerCaret c) = 1
item_at _ = 0

-- the nodes of the tree so far
abbrev pub nodes_of : ParserState → ℕ
nodes_of f =
    nodes_round f.outer + sum_at f.position f.outer f.terms + node_count_of_all f.terms
    + product_at f.position f.factors + node_count_of_all f.factors + item_at f.position

-- the levels of the innermost bound so far, with those above it
abbrev pub inner_levels : ParserState → ℕ
inner_levels f =
    max (levels_above f.outer + sum_at f.position f.outer f.terms + maximum_depth f.terms)
    (levels_above f.outer + sum_at f.position f.outer f.terms + product_at f.position f.factors
    + max (maximum_depth f.factors) (item_at f.position))

-- the levels of the tree so far
abbrev pub levels_of : ParserState → ℕ
levels_of f = max (levels_round f.outer) (inner_levels f)

-- the last part
abbrev pub last : Parts → Option Bound
last NoParts = None
last (Part b NoParts) = Some b
last (Part b (Part c bs)) = last (Part c bs)

-- the parts but the last
abbrev pub init : Parts → Parts
init NoParts = NoParts
init (Part b NoParts) = NoParts
init (Part b (Part c bs)) = Part b (init (Part c bs))

-- whether it is variable i
abbrev pub is_input : ℕ → Option Bound → Bool
is_input i (Some (Input j)) = j == i
is_input i _ = false

-- a single part by itself, or the node of all the parts
abbrev pub as_one : (Parts → Bound) → Parts → Bound
as_one whole NoParts = whole NoParts
as_one whole (Part b NoParts) = b
as_one whole (Part b (Part c bs)) = whole (Part b (Part c bs))

-- the term that factors make
abbrev pub term_of : Parts → Bound
term_of fs = as_one ProductOf fs

-- the bound that terms and the factors of the last one make
abbrev pub bound_of_parts : Parts → Parts → Bound
bound_of_parts ts fs = as_one SumOf (with_part ts (term_of fs))

-- the only part, if there is one alone
abbrev pub lone : Parts → Option Bound
lone NoParts = None
lone (Part b NoParts) = Some b
lone (Part b (Part c bs)) = None

-- whether there is a bound, and it passes a test
abbrev pub passes : (Bound → Bool) → Option Bound → Bool
passes test None = false
passes test (Some b) = test b

-- whether the factors can be all of a term: a lone sum in brackets can't
abbrev pub can_end : Parts → Bool
can_end fs = not (is_empty fs) && not (passes is_sum (lone fs))

-- conditions on the terms of a sum, the factors of a product, and the arguments of a maximum that have been read
pub record AreTerms (ts : Parts) : Type 0 where
  pub no_sums : EachPart IsNoSum ts
  pub shaped : AreShaped ts

pub record AreFactors (fs : Parts) : Type 0 where
  pub no_products : EachPart IsNoProduct fs
  pub shaped : AreShaped fs

pub record AreArguments (bs : Parts) : Type 0 where
  pub no_maximums : EachPart IsNoMaximum bs
  pub shaped : AreShaped bs

-- the node of a bracket can become a bound that has a text
abbrev pub IsBracket : Bracket → Type 0
IsBracket (Arguments bs) = AreArguments bs
IsBracket (Exponent c) = 2 ≤ c
IsBracket Factor = ⊤

abbrev pub IsOuter : Outer → Type 0
IsOuter Whole = ⊤
IsOuter (Inside bracket ts fs outer) = IsBracket bracket × AreTerms ts × AreFactors fs × IsOuter outer

-- whether a bound is in the brackets of a maximum
abbrev pub in_arguments : Outer → Bool
in_arguments (Inside (Arguments bs) ts fs outer) = true
in_arguments (Inside (Exponent c) ts fs outer) = false
in_arguments (Inside Factor ts fs outer) = false
in_arguments Whole = false

-- whether an argument can end here: it is no maximum, and is in the brackets of one
abbrev pub can_be_argument : Outer → Parts → Parts → Bool
can_be_argument outer ts fs = in_arguments outer && (can_end fs && not (is_maximum (bound_of_parts ts fs)))

-- the position can be after these terms and factors
abbrev pub IsPosition : Position → Outer → Parts → Parts → Type 0
IsPosition Begins outer ts fs = ⊤
IsPosition (RunCaret i) outer ts fs = IsFalse (is_input i (last fs))
IsPosition (PowerCaret c) outer ts fs = 2 ≤ c
IsPosition ItemRead outer ts fs = IsFalse (is_empty fs)
IsPosition BlankRead outer ts fs = IsTrue (can_end fs)
IsPosition PlusRead outer ts fs = IsTrue (can_end fs)
IsPosition CommaRead outer ts fs = IsTrue (can_be_argument outer ts fs)

-- the pieces read so far are the beginning of the text of some bound
pub record IsWellFormed (f : ParserState) : Type 0 where
  pub outer : IsOuter f.outer
  pub terms : AreTerms f.terms
  pub factors : AreFactors f.factors
  pub position : IsPosition f.position f.outer f.terms f.factors
