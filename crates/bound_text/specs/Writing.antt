-- The pieces of a bound, in one spelling.
use Rattle.std.specs.Prelude.{ℕ, suc, Bool, true, false, List, [], ◌∷◌, ◌++◌, if◌then◌else◌, not, ◌==◌, nat_lt}
use Rattle.text_core.specs.model.Bounds.{Bound, Constant, Input, SumOf, ProductOf, MaximumOf, PowerOf, Parts, NoParts}
use Rattle.text_core.specs.model.Bounds.{Part}
use Rattle.bound_text.specs.Shapes.{is_sum, is_leaf}
use Rattle.bound_text.specs.Pieces.{Piece, Variable, Number, Maximum, Open, Close, Times, Caret, Plus, Blank, Comma}

-- the part before the next factor of a product: nothing, a run of this many times one variable, or another factor
pub data Before : Type 0 where
  Nothing : Before
  Run : ℕ → ℕ → Before
  Other : Before

-- variable i is the one that the run is of
abbrev pub goes_on : Before → ℕ → Bool
goes_on Nothing i = false
goes_on (Run j n) i = j == i
goes_on Other i = false

-- the run continued by variable i, or a new run of it if it doesn't continue the run
abbrev pub run_with : Before → ℕ → Before
run_with Nothing i = Run i 1
run_with (Run j n) i = if j == i then Run j (suc n) else Run i 1
run_with Other i = Run i 1

-- how often the run has its variable
abbrev pub count_of : Before → ℕ
count_of Nothing = 0
count_of (Run i n) = n
count_of Other = 0

-- a run of n times variable i: the name, and from two on the number after `^`; then the rest
abbrev pub run_then : ℕ → ℕ → List Piece → List Piece
run_then i n rest = Variable i ∷ (if nat_lt 1 n then Caret ∷ Number n ∷ rest else rest)

-- the run that ends here, and then the rest
abbrev pub ended_then : Before → List Piece → List Piece
ended_then Nothing rest = rest
ended_then (Run i n) rest = run_then i n rest
ended_then Other rest = rest

-- `*` if a factor comes before, and then the rest
abbrev pub times_then : Before → List Piece → List Piece
times_then Nothing rest = rest
times_then (Run i n) rest = Times ∷ rest
times_then Other rest = Times ∷ rest

-- a text, in brackets where the test says so, and then the rest
abbrev pub bracketed_then : Bool → (List Piece → List Piece) → List Piece → List Piece
bracketed_then true text rest = Open ∷ text (Close ∷ rest)
bracketed_then false text rest = text rest

-- the separator of a sum's parts: ` + `
abbrev pub plus_between : List Piece
plus_between = Blank ∷ Plus ∷ Blank ∷ []

-- the separator of a maximum's arguments: `, `
abbrev pub comma_between : List Piece
comma_between = Comma ∷ Blank ∷ []

abbrev mutual
  -- the pieces of a bound, and then the rest: the parts of a sum are joined by ` + `, those of a maximum by `, `, the
  -- factors of a product by `*`; an exponent is in brackets unless it is a constant or a variable
  pub text_then : Bound → List Piece → List Piece
  text_then (Constant c) rest = Number c ∷ rest
  text_then (Input i) rest = Variable i ∷ rest
  text_then (SumOf bs) rest = joined_then plus_between bs rest
  text_then (ProductOf bs) rest = factors_then Nothing bs rest
  text_then (MaximumOf bs) rest = Maximum ∷ joined_then comma_between bs (Close ∷ rest)
  text_then (PowerOf c e) rest = Number c ∷ Caret ∷ bracketed_then (not (is_leaf e)) (text_then e) rest

  -- parts joined by a separator
  pub joined_then : List Piece → Parts → List Piece → List Piece
  joined_then separator NoParts rest = rest
  joined_then separator (Part b bs) rest = text_then b (more_then separator bs rest)

  -- parts with the separator before each
  pub more_then : List Piece → Parts → List Piece → List Piece
  more_then separator NoParts rest = rest
  more_then separator (Part b bs) rest = separator ++ text_then b (more_then separator bs rest)

  -- the factors after what comes before: equal neighbouring variables are one run, and a sum is in brackets
  pub factors_then : Before → Parts → List Piece → List Piece
  factors_then before NoParts rest = ended_then before rest
  factors_then before (Part (Input i) bs) rest =
      if goes_on before i then factors_then (run_with before i) bs rest
      else ended_then before (times_then before (factors_then (Run i 1) bs rest))
  factors_then before (Part b bs) rest =
      ended_then before (times_then before (bracketed_then (is_sum b) (text_then b) (factors_then Other bs rest)))

-- the pieces of a bound
abbrev pub pieces_of : Bound → List Piece
pieces_of b = text_then b []
