-- The code's open brackets and their view as plain data.
use Rattle.std.proofs.Common.{◌≡◌, nat_eq, ℕ, suc, Bool, true, false, sym, Option, None, ◌-◌, List, [], ◌∷◌, ◌++◌}
use Rattle.std.proofs.Common.{length, arith, Some, refl, ap, ◌∙◌, subst}
use Rattle.bound_text.specs.ParserStates.{Bracket, Arguments, Exponent, Factor, Outer, Whole, Inside}
use Rattle.std.specs.Prelude.{slice_get, if◌then◌else◌, MatchOption, ⊤}
use Rattle.std.specs.Option.{option_to_list}
use Rattle.std.proofs.lemmas.List.{append-nil}
use Rattle.bound_text.specs.ParserStates.{in_arguments}
use Rattle.std.proofs.lemmas.Bool.Decides.{nat_tests}
use Rattle.bound_text.specs.Steps.{is_whole, can_close, innermost_can_close}
use Rattle.bound_text.specs.Views.{is_arguments}
use Rattle.bound_text.specs.Brackets.{parts_in, bracket_of, outer_from, outer_of, IsRound, AreRoundsFrom, AreRounds}
use Rattle.text_core.specs.model.Bounds.{Bound, Parts}
use Rattle.bound_text.specs.declared.state.Opened.{Opened}

-- one more open bracket is inside the others
outer_from-push : (outer : Outer) (xs : List Opened) (x : Opened) → outer_from outer (xs ++ x ∷ []) ≡ Inside (bracket_of x.bracket) (parts_in x.terms) (parts_in x.factors) (outer_from outer xs)
outer_from-push outer [] x = refl
outer_from-push outer (y ∷ ys) x = outer_from-push (Inside (bracket_of y.bracket) (parts_in y.terms) (parts_in y.factors) outer) ys x

-- pushing a bracket makes it the innermost one
pub outer_of_push : (xs : List Opened) (x : Opened) → outer_of (xs ++ x ∷ []) ≡ Inside (bracket_of x.bracket) (parts_in x.terms) (parts_in x.factors) (outer_of xs)
outer_of_push xs x = outer_from-push Whole xs x

-- whether the innermost bound is in a maximum's brackets depends on the last bracket
in_arguments_from : (outer : Outer) (xs : List Opened) (x : Opened) → slice_get xs (length xs - 1) ≡ Some x → in_arguments (outer_from outer xs) ≡ is_arguments (bracket_of x.bracket)
in_arguments_from outer [] x h = cc
in_arguments_from outer (y ∷ []) x h = of_bracket (bracket_of y.bracket) (parts_in y.terms) (parts_in y.factors) outer ∙ ap (λ (o : Opened). is_arguments (bracket_of o.bracket)) (let e : y ≡ x = cc in e)
  where
    of_bracket : (b : Bracket) (ts fs : Parts) (o : Outer) → in_arguments (Inside b ts fs o) ≡ is_arguments b
    of_bracket (Arguments bs) ts fs o = refl
    of_bracket (Exponent c) ts fs o = refl
    of_bracket Factor ts fs o = refl
in_arguments_from outer (y ∷ z ∷ xs) x h =
    in_arguments_from (Inside (bracket_of y.bracket) (parts_in y.terms) (parts_in y.factors) outer) (z ∷ xs) x
    (ap (λ (k : ℕ). slice_get (y ∷ z ∷ xs) k) (let e : suc (length (z ∷ xs) - 1) ≡ length (y ∷ z ∷ xs) - 1 = omega arith in e) ∙ h)

-- whether the innermost bound is in a maximum's brackets depends on the last bracket that the code stores
pub in_arguments_last : (xs : List Opened) (x : Opened) → slice_get xs (length xs - 1) ≡ Some x → in_arguments (outer_of xs) ≡ is_arguments (bracket_of x.bracket)
in_arguments_last xs x h = in_arguments_from Whole xs x h

-- whether the innermost bracket can close depends on the last bracket
can_close_from : (outer : Outer) (xs : List Opened) (x : Opened) (b : Bound) → slice_get xs (length xs - 1) ≡ Some x → innermost_can_close (outer_from outer xs) b ≡ can_close (bracket_of x.bracket) b
can_close_from outer [] x b h = cc
can_close_from outer (y ∷ []) x b h = ap (λ (o : Opened). can_close (bracket_of o.bracket) b) (let e : y ≡ x = cc in e)
can_close_from outer (y ∷ z ∷ xs) x b h =
    can_close_from (Inside (bracket_of y.bracket) (parts_in y.terms) (parts_in y.factors) outer) (z ∷ xs) x b
    (ap (λ (k : ℕ). slice_get (y ∷ z ∷ xs) k) (let e : suc (length (z ∷ xs) - 1) ≡ length (y ∷ z ∷ xs) - 1 = omega arith in e) ∙ h)

-- whether the innermost bracket can close depends on the last bracket that the code stores
pub can_close_last : (xs : List Opened) (x : Opened) (b : Bound) → slice_get xs (length xs - 1) ≡ Some x → innermost_can_close (outer_of xs) b ≡ can_close (bracket_of x.bracket) b
can_close_last xs x b h = can_close_from Whole xs x b h

-- if no bracket is open, none can close
pub can_close_none : (xs : List Opened) (b : Bound) → length xs ≡ 0 → innermost_can_close (outer_of xs) b ≡ false
can_close_none [] b h = refl
can_close_none (x ∷ xs) b h = absurd (omega (arith, h))

-- inside at least one bracket a bound is not the whole
is_whole_from : (bracket : Bracket) (ts fs : Parts) (outer : Outer) (xs : List Opened) → is_whole (outer_from (Inside bracket ts fs outer) xs) ≡ false
is_whole_from bracket ts fs outer [] = refl
is_whole_from bracket ts fs outer (x ∷ xs) = is_whole_from (bracket_of x.bracket) (parts_in x.terms) (parts_in x.factors) (Inside bracket ts fs outer) xs

-- a bound is the whole exactly if no bracket is open
pub is_whole_empty : (xs : List Opened) → is_whole (outer_of xs) ≡ nat_eq (length xs) 0
is_whole_empty [] = refl
is_whole_empty (x ∷ xs) = is_whole_from (bracket_of x.bracket) (parts_in x.terms) (parts_in x.factors) Whole xs ∙ (let e : false ≡ nat_eq (suc (length xs)) 0 = grind (arith, nat_tests) in e)

-- if the brackets store their counts, and one more does, so do all with it
rounds_from_push : (outer : Outer) (xs : List Opened) (x : Opened) → AreRoundsFrom outer xs
    → IsRound (Inside (bracket_of x.bracket) (parts_in x.terms) (parts_in x.factors) (outer_from outer xs)) x.within → AreRoundsFrom outer (xs ++ x ∷ [])
rounds_from_push outer [] x rounds round = (round, tt)
rounds_from_push outer (y ∷ ys) x rounds round = (rounds.0, rounds_from_push (Inside (bracket_of y.bracket) (parts_in y.terms) (parts_in y.factors) outer) ys x rounds.1 round)

-- if the brackets of a whole text store their counts, and one more does, so do all with it
pub rounds_push : (xs : List Opened) (x : Opened) → AreRounds xs → IsRound (Inside (bracket_of x.bracket) (parts_in x.terms) (parts_in x.factors) (outer_of xs)) x.within → AreRounds (xs ++ x ∷ [])
rounds_push xs x rounds round = rounds_from_push Whole xs x rounds round

-- if brackets with one more store their counts, so do the brackets before it
rounds_from_without_last : (outer : Outer) (xs : List Opened) (x : Opened) → AreRoundsFrom outer (xs ++ x ∷ []) → AreRoundsFrom outer xs
rounds_from_without_last outer [] x rounds = tt
rounds_from_without_last outer (y ∷ ys) x rounds = (rounds.0, rounds_from_without_last (Inside (bracket_of y.bracket) (parts_in y.terms) (parts_in y.factors) outer) ys x rounds.1)

-- if the brackets of a whole text with one more store their counts, so do those before it
pub rounds_without_last : (xs : List Opened) (x : Opened) → AreRounds (xs ++ x ∷ []) → AreRounds xs
rounds_without_last xs x rounds = rounds_from_without_last Whole xs x rounds

-- the last bracket stores the counts around the innermost bound
rounds_from_last : (outer : Outer) (xs : List Opened) (x : Opened) → slice_get xs (length xs - 1) ≡ Some x → AreRoundsFrom outer xs → IsRound (outer_from outer xs) x.within
rounds_from_last outer [] x h rounds = cc
rounds_from_last outer (y ∷ []) x h rounds =
    let e : y ≡ x = cc in
    subst (λ (o : Opened). IsRound (Inside (bracket_of y.bracket) (parts_in y.terms) (parts_in y.factors) outer) o.within) e rounds.0
rounds_from_last outer (y ∷ z ∷ xs) x h rounds =
    rounds_from_last (Inside (bracket_of y.bracket) (parts_in y.terms) (parts_in y.factors) outer) (z ∷ xs) x
    (ap (λ (k : ℕ). slice_get (y ∷ z ∷ xs) k) (let e : suc (length (z ∷ xs) - 1) ≡ length (y ∷ z ∷ xs) - 1 = omega arith in e) ∙ h) rounds.1

-- the last bracket of a whole text stores the counts around the innermost bound
pub rounds_last : (xs : List Opened) (x : Opened) → slice_get xs (length xs - 1) ≡ Some x → AreRounds xs → IsRound (outer_of xs) x.within
rounds_last xs x h rounds = rounds_from_last Whole xs x h rounds

-- after an attempt to open a bracket all brackets store their counts
pub rounds_pushed : (opens : Bool) (xs ys : List Opened) (x : Opened) → ys ≡ (if opens then xs ++ x ∷ [] else xs) → AreRounds xs
    → IsRound (Inside (bracket_of x.bracket) (parts_in x.terms) (parts_in x.factors) (outer_of xs)) x.within → AreRounds ys
rounds_pushed true xs ys x e rounds round = subst AreRounds (sym e) (rounds_push xs x rounds round)
rounds_pushed false xs ys x e rounds round = subst AreRounds (sym e) rounds

-- after the innermost bracket is closed, the brackets left store their counts
pub rounds_popped : (r : Option Opened) (xs ys : List Opened) → xs ≡ ys ++ option_to_list r → AreRounds xs → AreRounds ys
rounds_popped None xs ys e rounds = subst AreRounds (e ∙ append-nil ys) rounds
rounds_popped (Some x) xs ys e rounds = rounds_without_last ys x (subst AreRounds e rounds)

-- after the innermost bracket is closed, its surroundings are around the innermost bound
pub outer_popped : (r : Option Opened) (xs ys : List Opened) → xs ≡ ys ++ option_to_list r → MatchOption r (length xs ≡ 0) (λ _. ⊤)
    → MatchOption r (outer_of xs ≡ Whole) (λ x. outer_of xs ≡ Inside (bracket_of x.bracket) (parts_in x.terms) (parts_in x.factors) (outer_of ys))
outer_popped None [] ys e none = refl
outer_popped None (x ∷ xs) ys e none = cc
outer_popped (Some x) xs ys e some = ap outer_of e ∙ outer_of_push ys x
