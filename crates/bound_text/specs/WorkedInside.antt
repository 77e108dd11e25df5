-- Worked values of bounds inside another text, over `A` and `B`, with a limit of few levels.
use Rattle.std.specs.Prelude.{ℕ, List, [], ◌∷◌, length, codes}
use Rattle.text_core.specs.model.Programs.{Name}
use Rattle.text_core.specs.model.Bounds.{Bound, Constant, Input, ProductOf, MaximumOf, PowerOf, NoParts, Part}
use Rattle.text_core.specs.Faults as first
use Rattle.text_core.specs.Reading.{IsTree}
use Rattle.text_core.specs.Laws.{Laws, AnswersAll, OneFirst}
use Rattle.bound_text.specs.Lexing.{tokens}
use Rattle.bound_text.specs.Kinds.{Kind, Syntax, NumberTooLarge, TooDeep}
use Rattle.bound_text.specs.Inside.{inner_bounds}

-- `A` and `B`
abbrev pub two_names : List Name
two_names = codes "A" ∷ codes "B" ∷ []

-- the first fault of a bound that may have this many levels
abbrev pub HasFirst : ℕ → List ℕ → Kind → ℕ → Type 0
HasFirst most bytes kind at = first.IsFirst (inner_bounds most 2) (length bytes) (tokens two_names bytes)
    (record { kind = kind; at = at })

-- the text, read with this limit on levels, denotes this bound
abbrev pub StandsFor : ℕ → List ℕ → Bound → Type 0
StandsFor most bytes b = IsTree (inner_bounds most 2) (length bytes) (tokens two_names bytes) b

-- the worked positions at which a part is too deep
pub record DepthsAreWorkedOut : Type 0 where
  -- at one level `A*B`, `A + B` and `A^2` are refused at their first factor, term and variable, and so is a bound of
  -- which the blank after a term shows that it is a sum; `A^` isn't a product yet
  pub product : HasFirst 1 (codes "A*B") TooDeep 0
  pub sum : HasFirst 1 (codes "A + B") TooDeep 0
  pub begun_sum : HasFirst 1 (codes "A ") TooDeep 0
  pub run : HasFirst 1 (codes "A^2") TooDeep 0
  pub begun_run : HasFirst 1 (codes "A^") Syntax 2
  -- at two levels `A*B`, `A + B` and `A^2` denote bounds
  pub two_levels : StandsFor 2 (codes "A*B") (ProductOf (Part (Input 0) (Part (Input 1) NoParts)))
  -- at two levels an exponent's factor is too deep, which the `*` after it shows; at three it isn't
  pub exponent : HasFirst 2 (codes "2^(A*B)") TooDeep 3
  pub exponent_within : StandsFor 3 (codes "2^(A*B)") (PowerOf 2 (ProductOf (Part (Input 0) (Part (Input 1) NoParts))))
  -- of parts nested in each other that a later `*` pushes down, the one that gets too deep is refused, and not the
  -- bound around it
  pub pushed : HasFirst 3 (codes "max(1, 2^A)*B") TooDeep 9
  pub pushed_within : StandsFor 4 (codes "max(1, 2^A)*B")
      (ProductOf (Part (MaximumOf (Part (Constant 1) (Part (PowerOf 2 (Input 0)) NoParts))) (Part (Input 1) NoParts)))
  -- a part can turn out to be too deep after a later part was found to be so, and is then reported first
  pub behind_one : HasFirst 3 (codes "max(1, 2^(2^A))*B") TooDeep 10
  pub one_alone : HasFirst 3 (codes "max(1, 2^(2^A))") TooDeep 12
  -- a sum as a factor begins with its bracket, but an exponent after its bracket
  pub bracket : HasFirst 1 (codes "(A + B)*A") TooDeep 0
  pub in_bracket : HasFirst 2 (codes "(A + B)*A") TooDeep 1
  pub bare_bracket : HasFirst 1 (codes "2^(") Syntax 3
  pub behind_bracket : HasFirst 1 (codes "2^(A") TooDeep 3
  -- a part that turns out to be too deep is reported before a fault that was found further on, here a number over
  -- 2^127-1
  pub before_number : HasFirst 2 (codes "max(A, 170141183460469231731687303715884105728)*B") TooDeep 4
  pub number_alone : HasFirst 3 (codes "max(A, 170141183460469231731687303715884105728)*B") NumberTooLarge 7

-- the reader of bounds inside another text satisfies the laws of a reader, whatever its limit on levels
pub record InnerBoundsAreRead : Type 0 where
  pub laws : (most n : ℕ) → Laws (inner_bounds most n)
  pub answers : (most n : ℕ) → AnswersAll (inner_bounds most n)
  pub one_first : (most n : ℕ) → OneFirst (inner_bounds most n)
  pub worked : DepthsAreWorkedOut
