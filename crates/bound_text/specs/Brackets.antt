-- The code's open brackets as plain data, and the counts around a bound in them.
use Rattle.std.specs.Prelude.{◌≡◌, ◌^◌, ◌-◌, min, List, [], ◌∷◌, ⊤}
use Rattle.std.proofs.Props.{props}
use Rattle.text_core.specs.model.Bounds.{Parts}
use Rattle.bound_expr.specs.Views.{bounds_of, parts_of}
use Rattle.bound_text.specs.ParserStates as parser_states
use Rattle.bound_text.specs.ParserStates.{Outer, Whole, Inside}
use Rattle.bound_text.specs.declared.measured.Measured.{Measured}
use Rattle.bound_text.specs.declared.state.Bracket.{Bracket}
use Rattle.bound_text.specs.declared.state.Bracket.TheVariants as brackets
use Rattle.bound_text.specs.declared.state.Opened.{Opened}
use Rattle.bound_text.specs.declared.size.Round.{Round}

-- measured bounds as parts
abbrev pub parts_in : Measured → Parts
parts_in m = parts_of (bounds_of m.bounds.items)

-- the node that an open bracket belongs to
abbrev pub bracket_of : Bracket → parser_states.Bracket
bracket_of (brackets.Arguments bs) = parser_states.Arguments (parts_in bs)
bracket_of (brackets.Exponent c) = parser_states.Exponent c
bracket_of brackets.Factor = parser_states.Factor

-- open brackets, the outermost first, inside what surrounds them
abbrev pub outer_from : Outer → List Opened → Outer
outer_from outer [] = outer
outer_from outer (x ∷ xs) = outer_from (Inside (bracket_of x.bracket) (parts_in x.terms) (parts_in x.factors) outer) xs

-- the brackets around the innermost bound
abbrev pub outer_of : List Opened → Outer
outer_of xs = outer_from Whole xs

-- the levels and nodes counted around the innermost bound, each up to 2^64-1
pub record IsRound (outer : Outer) (round : Round) : Type 0 where
  pub nodes : round.nodes ≡ min (parser_states.nodes_round outer) (2 ^ 64 - 1)
  pub levels : round.levels ≡ min (parser_states.levels_above outer) (2 ^ 64 - 1)
  pub in_factor : round.in_factor ≡ parser_states.in_factor outer

-- each open bracket stores the counts around a bound in it, where all of the brackets are inside these surroundings
abbrev pub AreRoundsFrom : Outer → List Opened → Type 0
AreRoundsFrom outer [] = ⊤
AreRoundsFrom outer (x ∷ xs) =
    IsRound (Inside (bracket_of x.bracket) (parts_in x.terms) (parts_in x.factors) outer) x.within
    × AreRoundsFrom (Inside (bracket_of x.bracket) (parts_in x.terms) (parts_in x.factors) outer) xs

-- the property has at most one proof
AreRoundsFrom-prop : (outer : Outer) (xs : List Opened) → IsProp (AreRoundsFrom outer xs)
AreRoundsFrom-prop outer [] = hlevel props
AreRoundsFrom-prop outer (x ∷ xs) =
    let rest = AreRoundsFrom-prop (Inside (bracket_of x.bracket) (parts_in x.terms) (parts_in x.factors) outer) xs in
    hlevel (props, rest)

-- each open bracket of a whole text stores the counts around a bound in it
abbrev pub AreRounds : List Opened → Type 0
AreRounds xs = AreRoundsFrom Whole xs

-- the property has at most one proof
pub AreRounds-prop : (xs : List Opened) → IsProp (AreRounds xs)
AreRounds-prop xs = AreRoundsFrom-prop Whole xs
