-- Bounds inside another text: a part that is one level too deep is refused at its own first byte, though what makes it
-- too deep may come later, as the `*` after it does.
use Rattle.std.specs.Prelude.{ℕ, suc, ◌+◌, Bool, true, false, if◌then◌else◌, nat_lt, List, [], ◌∷◌, ◌++◌, Option, Some}
use Rattle.std.specs.Prelude.{None}
use Rattle.text_core.specs.model.Bounds.{Bound, Constant, Input, SumOf, ProductOf, MaximumOf, PowerOf, Parts, NoParts}
use Rattle.text_core.specs.model.Bounds.{Part}
use Rattle.text_core.specs.Tokens.{Token, pieces}
use Rattle.text_core.specs.Readers.{Fault, Reader, onto}
use Rattle.text_core.specs.Faults.{faults_at}
use Rattle.bound_text.specs.Shapes.{is_sum, is_leaf}
use Rattle.bound_text.specs.Pieces.{Piece}
use Rattle.bound_text.specs.Writing.{Before, Nothing, Run, Other, goes_on, run_with, plus_between, comma_between}
use Rattle.bound_text.specs.Kinds.{Kind, Syntax, NumberTooLarge, UnknownName, TooDeep, TooLarge}
use Rattle.bound_text.specs.ParserStates.{Bracket, Arguments, Exponent, Factor, Outer, Whole, Inside, Position, Begins}
use Rattle.bound_text.specs.ParserStates.{RunCaret, PowerCaret, ItemRead, BlankRead, PlusRead, CommaRead, ParserState, sum_node}
use Rattle.bound_text.specs.ParserStates.{product_node_round, levels_above, sum_at, product_at}
use Rattle.bound_text.specs.Reading.{stands, bounds}

-- a mark for each piece: the level of the part that begins with it, where one does. A sum and a product begin with
-- their first part, but a sum in brackets with its bracket; an exponent begins after its bracket
abbrev pub Marks : Type 0
Marks = List (Option ℕ)

-- no part begins with any of these pieces
abbrev pub unmarked : List Piece → Marks → Marks
unmarked [] rest = rest
unmarked (piece ∷ separator) rest = None ∷ unmarked separator rest

-- a run of equal variables: the variable is marked, and not the `^` and the number of copies
abbrev pub ended_marks : ℕ → Before → Marks → Marks
ended_marks level Nothing rest = rest
ended_marks level (Run i n) rest = Some level ∷ (if nat_lt 1 n then None ∷ None ∷ rest else rest)
ended_marks level Other rest = rest

-- the marks of the `*` after factors, if there are any
abbrev pub times_marks : Before → Marks → Marks
times_marks Nothing rest = rest
times_marks (Run i n) rest = None ∷ rest
times_marks Other rest = None ∷ rest

-- the marks of brackets round a factor that is a sum, and round an exponent that is no leaf
abbrev pub factor_marks : Bool → ℕ → (Marks → Marks) → Marks → Marks
factor_marks true level marks rest = Some level ∷ marks (None ∷ rest)
factor_marks false level marks rest = marks rest

abbrev pub exponent_marks : Bool → (Marks → Marks) → Marks → Marks
exponent_marks true marks rest = marks rest
exponent_marks false marks rest = None ∷ marks (None ∷ rest)

abbrev mutual
  -- the marks of a bound at a level, and then the rest
  pub bound_marks : ℕ → Bound → Marks → Marks
  bound_marks level (Constant c) rest = Some level ∷ rest
  bound_marks level (Input i) rest = Some level ∷ rest
  bound_marks level (SumOf bs) rest = joined_marks plus_between (suc level) bs rest
  bound_marks level (ProductOf bs) rest = factors_marks (suc level) Nothing bs rest
  bound_marks level (MaximumOf bs) rest = Some level ∷ joined_marks comma_between (suc level) bs (None ∷ rest)
  bound_marks level (PowerOf c e) rest = Some level ∷ None ∷ exponent_marks (is_leaf e) (bound_marks (suc level) e) rest

  -- the marks of parts at a level with a separator between each two
  pub joined_marks : List Piece → ℕ → Parts → Marks → Marks
  joined_marks separator level NoParts rest = rest
  joined_marks separator level (Part b bs) rest = bound_marks level b (more_marks separator level bs rest)

  -- the marks of parts with the separator before each
  pub more_marks : List Piece → ℕ → Parts → Marks → Marks
  more_marks separator level NoParts rest = rest
  more_marks separator level (Part b bs) rest =
      unmarked separator (bound_marks level b (more_marks separator level bs rest))

  -- the marks of factors at a level
  pub factors_marks : ℕ → Before → Parts → Marks → Marks
  factors_marks level before NoParts rest = ended_marks level before rest
  factors_marks level before (Part (Input i) bs) rest =
      if goes_on before i then factors_marks level (run_with before i) bs rest
      else ended_marks level before (times_marks before (factors_marks level (Run i 1) bs rest))
  factors_marks level before (Part b bs) rest =
      ended_marks level before (times_marks before (factor_marks (is_sum b) level (bound_marks level b)
      (factors_marks level Other bs rest)))

-- the marks of parts with the separator after each
abbrev pub each_marks : List Piece → ℕ → Parts → Marks → Marks
each_marks separator level NoParts rest = rest
each_marks separator level (Part b bs) rest =
    bound_marks level b (unmarked separator (each_marks separator level bs rest))

-- the mark of the `*` after factors after which no item has begun
abbrev pub star_marks : Parts → Marks → Marks
star_marks NoParts rest = rest
star_marks (Part b bs) rest = None ∷ rest

-- the marks of an open bracket, where its node is at this level
abbrev pub bracket_marks : ℕ → Bracket → Marks → Marks
bracket_marks level (Arguments bs) rest = Some level ∷ each_marks comma_between (suc level) bs rest
bracket_marks level (Exponent c) rest = Some level ∷ None ∷ None ∷ rest
bracket_marks level Factor rest = Some level ∷ rest

-- the level of the parts of the innermost bound: the levels above it, and one each for a sum's node and a product's
abbrev pub level_behind : ℕ → ℕ → ℕ → ℕ
level_behind above sum product = suc (above + sum + product)

-- the marks of the pieces before the innermost bound
abbrev pub outer_marks : Outer → Marks → Marks
outer_marks Whole rest = rest
outer_marks (Inside bracket ts fs outer) rest =
    outer_marks outer
    (each_marks plus_between (level_behind (levels_above outer) (sum_node outer ts) 0) ts
    (factors_marks (level_behind (levels_above outer) (sum_node outer ts) (product_node_round bracket fs)) Nothing fs
    (star_marks fs (bracket_marks (level_behind (levels_above outer) (sum_node outer ts)
    (product_node_round bracket fs)) bracket rest))))

-- the marks of the piece or item that was read last, with the item at this level if one has begun
abbrev pub position_marks : ℕ → Position → Parts → Marks
position_marks level Begins fs = star_marks fs []
position_marks level (RunCaret i) fs = star_marks fs (Some level ∷ None ∷ [])
position_marks level (PowerCaret c) fs = star_marks fs (Some level ∷ None ∷ [])
position_marks level ItemRead fs = []
position_marks level BlankRead fs = None ∷ []
position_marks level PlusRead fs = None ∷ None ∷ []
position_marks level CommaRead fs = None ∷ []

-- the marks of all pieces read so far
abbrev pub marks_of_state : ParserState → Marks
marks_of_state f =
    outer_marks f.outer
    (each_marks plus_between (level_behind (levels_above f.outer) (sum_at f.position f.outer f.terms) 0) f.terms
    (factors_marks (level_behind (levels_above f.outer) (sum_at f.position f.outer f.terms)
    (product_at f.position f.factors)) Nothing f.factors
    (position_marks (level_behind (levels_above f.outer) (sum_at f.position f.outer f.terms)
    (product_at f.position f.factors)) f.position f.factors)))

-- the faults with `TooDeep` first, at the token with which the first part begins that is deeper than this many levels
abbrev pub deep_at : ℕ → Option ℕ → ℕ → List (Fault Kind) → List (Fault Kind)
deep_at most None at others = others
deep_at most (Some level) at others = if nat_lt most level then record { kind = TooDeep; at = at } ∷ [] else others

abbrev pub deep_among : ℕ → Marks → List (Token Piece) → List (Fault Kind)
deep_among most [] ts = []
deep_among most (mark ∷ marks) [] = []
deep_among most (mark ∷ marks) (t ∷ ts) = deep_at most mark t.at (deep_among most marks ts)

-- every other kind is reported where it is in the text of a bound alone
abbrev pub other_kinds : List Kind
other_kinds = Syntax ∷ NumberTooLarge ∷ UnknownName ∷ TooLarge ∷ []

abbrev pub shown_next : ℕ → ParserState → List (Token Piece) → List (Fault Kind)
shown_next n f [] = []
shown_next n f (t ∷ rest) = faults_at t.at (stands n f t.piece (pieces rest)) other_kinds

-- the reader of bounds inside another text, which may have this many levels
abbrev pub inner_bounds : ℕ → ℕ → Reader Piece Bound ParserState Kind
inner_bounds most n =
    record (bounds n) {
      shown = λ len done f rest. deep_among most (marks_of_state f) (onto done [])
          ++ shown_next n f rest;
    }
