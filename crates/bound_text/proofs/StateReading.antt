-- The pieces of a state lead the reader to that state, and can be completed.
use Rattle.std.proofs.Common.{◌≡◌, Bool, true, false, not, ◌&&◌, List, ◌∷◌, ◌++◌, Some, refl, ap, ◌∙◌}
use Rattle.text_core.specs.model.Bounds.{Parts, NoParts, Part}
use Rattle.bound_expr.specs.Tidy.{IsNoSum, IsNoMaximum, EachPart}
use Rattle.bound_text.specs.Shapes.{is_maximum, is_empty, with_part, AreShaped}
use Rattle.bound_text.specs.Pieces.{Piece, Variable, Number, Open, Times, Caret, Plus, Blank, Comma}
use Rattle.bound_text.specs.Writing.{Nothing, factors_then, plus_between, comma_between}
use Rattle.bound_text.specs.ParserStates.{Bracket, Arguments, Exponent, Factor, Outer, Whole, Inside, Position, ParserState, Begins}
use Rattle.bound_text.specs.ParserStates.{RunCaret, PowerCaret, ItemRead, BlankRead, PlusRead, CommaRead, IsWellFormed, IsOuter}
use Rattle.bound_text.specs.ParserStates.{IsBracket, AreFactors, state_then, outer_then, position_then, star_then, each_then}
use Rattle.bound_text.specs.ParserStates.{bracket_then, bound_of_parts, can_end, can_be_argument, in_arguments}
use Rattle.bound_text.specs.Steps.{state_at_position, walk, beginning}
use Rattle.bound_text.proofs.BoundParts.{appended, appended-none}
use Rattle.bound_text.proofs.CompletenessLaws.{starts, stands, walk-when, read_input, read_run_caret, read_base}
use Rattle.bound_text.proofs.CompletenessLaws.{AllRead, term_read, read_plus, argument_read, product_read, all_read}

-- terms with ` + ` after each are read
terms_before_read : (ts : Parts) → AllRead ts → EachPart IsNoSum ts → AreShaped ts → (outer : Outer) (acc : Parts) (rest : List Piece)
    → walk (starts outer acc NoParts) (each_then plus_between ts rest) ≡ walk (starts outer (appended acc ts) NoParts) rest
terms_before_read NoParts rs none shaped outer acc rest = refl
terms_before_read (Part b bs) rs none shaped outer acc rest =
    term_read b rs.0 none.0 outer acc (plus_between ++ each_then plus_between bs rest)
    ∙ read_plus b shaped.0 none.0 outer acc (each_then plus_between bs rest)
    ∙ terms_before_read bs rs.1 none.1 shaped.1 outer (with_part acc b) rest

-- arguments with `, ` after each are read
arguments_before_read : (bs : Parts) → AllRead bs → EachPart IsNoMaximum bs → AreShaped bs → (outer : Outer) (acc ts fs : Parts) (rest : List Piece)
    → walk (starts (Inside (Arguments acc) ts fs outer) NoParts NoParts) (each_then comma_between bs rest) ≡ walk (starts (Inside (Arguments (appended acc bs)) ts fs outer) NoParts NoParts) rest
arguments_before_read NoParts rs none shaped outer acc ts fs rest = refl
arguments_before_read (Part b bs) rs none shaped outer acc ts fs rest =
    argument_read b rs.0 shaped.0 none.0 acc ts fs outer (each_then comma_between bs rest)
    ∙ arguments_before_read bs rs.1 none.1 shaped.1 outer (with_part acc b) ts fs rest

-- factors after which the text can end are read
factors_at : (fs : Parts) → AreFactors fs → is_empty fs ≡ false → (outer : Outer) (ts : Parts) (rest : List Piece) → walk (starts outer ts NoParts) (factors_then Nothing fs rest) ≡ walk (stands outer ts fs) rest
factors_at NoParts all h outer ts rest = cc
factors_at (Part b bs) all h outer ts rest = product_read b bs (all_read (Part b bs) all.shaped) all.no_products all.shaped outer ts rest

-- factors with `*` after each, after which an item can begin, are read
factors_before : (fs : Parts) → AreFactors fs → (outer : Outer) (ts : Parts) (rest : List Piece) → walk (starts outer ts NoParts) (factors_then Nothing fs (star_then fs rest)) ≡ walk (starts outer ts fs) rest
factors_before NoParts all outer ts rest = refl
factors_before (Part b bs) all outer ts rest = factors_at (Part b bs) all refl outer ts (Times ∷ rest)

-- an open bracket is read
bracket_read : (bracket : Bracket) → IsBracket bracket → (outer : Outer) (ts fs : Parts) (rest : List Piece) → walk (starts outer ts fs) (bracket_then bracket rest) ≡ walk (starts (Inside bracket ts fs outer) NoParts NoParts) rest
bracket_read (Arguments bs) is outer ts fs rest =
    arguments_before_read bs (all_read bs is.shaped) is.no_maximums is.shaped outer NoParts ts fs rest
    ∙ ap (λ (cs : Parts). walk (starts (Inside (Arguments cs) ts fs outer) NoParts NoParts) rest) (appended-none bs)
bracket_read (Exponent c) is outer ts fs rest = read_base outer ts fs c (Open ∷ rest) is
bracket_read Factor is outer ts fs rest = refl

-- the pieces before the innermost bound are read
outer_read : (outer : Outer) → IsOuter outer → (rest : List Piece) → walk (Some beginning) (outer_then outer rest) ≡ walk (starts outer NoParts NoParts) rest
outer_read Whole is rest = refl
outer_read (Inside bracket ts fs outer) is rest =
    outer_read outer is.3 (each_then plus_between ts (factors_then Nothing fs (star_then fs (bracket_then bracket rest))))
    ∙ terms_before_read ts (all_read ts is.1.shaped) is.1.no_sums is.1.shaped outer NoParts (factors_then Nothing fs (star_then fs (bracket_then bracket rest)))
    ∙ ap (λ (us : Parts). walk (starts outer us NoParts) (factors_then Nothing fs (star_then fs (bracket_then bracket rest)))) (appended-none ts)
    ∙ factors_before fs is.2 outer ts (bracket_then bracket rest)
    ∙ bracket_read bracket is.0 outer ts fs rest

-- a term that can end has at least one factor
some_end : (fs : Parts) → can_end fs ≡ true → is_empty fs ≡ false
some_end NoParts h = cc
some_end (Part b bs) h = refl

-- the pieces of a state lead to that state
pub state_read : (f : ParserState) → IsWellFormed f → (rest : List Piece) → walk (Some beginning) (state_then f rest) ≡ walk (Some f) rest
state_read f is rest =
    outer_read f.outer is.outer (each_then plus_between f.terms (factors_then Nothing f.factors (position_then f.position f.factors rest)))
    ∙ terms_before_read f.terms (all_read f.terms is.terms.shaped) is.terms.no_sums is.terms.shaped f.outer NoParts (factors_then Nothing f.factors (position_then f.position f.factors rest))
    ∙ ap (λ (us : Parts). walk (starts f.outer us NoParts) (factors_then Nothing f.factors (position_then f.position f.factors rest))) (appended-none f.terms)
    ∙ go f.position (record { outer = is.outer; terms = is.terms; factors = is.factors; position = is.position })
  where
    go : (position : Position) → IsWellFormed (state_at_position f.outer f.terms f.factors position)
        → walk (starts f.outer f.terms NoParts) (factors_then Nothing f.factors (position_then position f.factors rest)) ≡ walk (Some (state_at_position f.outer f.terms f.factors position)) rest
    go Begins is = factors_before f.factors is.factors f.outer f.terms rest
    go (RunCaret i) is =
        factors_before f.factors is.factors f.outer f.terms (Variable i ∷ Caret ∷ rest)
        ∙ read_input f.outer f.terms f.factors i (Caret ∷ rest) is.position
        ∙ read_run_caret f.outer f.terms f.factors i rest is.position
    go (PowerCaret c) is =
        factors_before f.factors is.factors f.outer f.terms (Number c ∷ Caret ∷ rest)
        ∙ read_base f.outer f.terms f.factors c rest is.position
    go ItemRead is = factors_at f.factors is.factors is.position f.outer f.terms rest
    go BlankRead is =
        factors_at f.factors is.factors (some_end f.factors is.position) f.outer f.terms (Blank ∷ rest)
        ∙ walk-when (can_end f.factors) (state_at_position f.outer f.terms f.factors BlankRead) rest is.position
    go PlusRead is =
        factors_at f.factors is.factors (some_end f.factors is.position) f.outer f.terms (Blank ∷ Plus ∷ rest)
        ∙ walk-when (can_end f.factors) (state_at_position f.outer f.terms f.factors BlankRead) (Plus ∷ rest) is.position
    go CommaRead is =
        factors_at f.factors is.factors (some_argument f.outer is.position) f.outer f.terms (Comma ∷ rest)
        ∙ walk-when (can_be_argument f.outer f.terms f.factors) (state_at_position f.outer f.terms f.factors CommaRead) rest is.position
      where
        some_argument : (outer : Outer) → can_be_argument outer f.terms f.factors ≡ true → is_empty f.factors ≡ false
        some_argument outer h = some (in_arguments outer) (can_end f.factors) (not (is_maximum (bound_of_parts f.terms f.factors))) h (some_end f.factors)
          where
            some : (a b c : Bool) → a && (b && c) ≡ true → (b ≡ true → is_empty f.factors ≡ false) → is_empty f.factors ≡ false
            some true true c h k = k refl
            some true false c h k = cc
            some false b c h k = cc
