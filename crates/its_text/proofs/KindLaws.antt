-- Kinds of refusals with the same number are the same.
use Rattle.std.proofs.Common.{◌≡◌, ℕ, if◌then◌else◌, ◌==◌, refl, ap, sym, ◌∙◌}
use Rattle.its_text.specs.Kinds.{TooManyRules, TooManyArguments, TooManyVariables, TooManyAtoms, LongName}
use Rattle.its_text.specs.Kinds.{TooManyTokens, TooManyTerms, HighDegree, Kind, NotAscii, Syntax, MissingSection}
use Rattle.its_text.specs.Kinds.{RepeatedSection, ManyTargets, LeftNotVariable, LeftRepeated, ArityDiffers}
use Rattle.its_text.specs.Kinds.{NumberTooLarge, Limit, StartUnknown, Disjunction, kind_number}

-- the kind with a number
abbrev kind_at : ℕ → Kind
kind_at n =
    if n == 1 then NotAscii
    else if n == 2 then Syntax
    else if n == 3 then MissingSection
    else if n == 4 then RepeatedSection
    else if n == 5 then ManyTargets
    else if n == 6 then LeftNotVariable
    else if n == 7 then LeftRepeated
    else if n == 8 then ArityDiffers
    else if n == 9 then NumberTooLarge
    else if n == 10 then Limit TooManyRules
    else if n == 11 then Limit TooManyArguments
    else if n == 12 then Limit TooManyVariables
    else if n == 13 then Limit TooManyAtoms
    else if n == 14 then Limit LongName
    else if n == 15 then Limit TooManyTokens
    else if n == 16 then Limit TooManyTerms
    else if n == 17 then Limit HighDegree
    else if n == 18 then StartUnknown
    else Disjunction

-- each kind is the kind at its number
number_back : (k : Kind) → kind_at (kind_number k) ≡ k
number_back NotAscii = refl
number_back Syntax = refl
number_back MissingSection = refl
number_back RepeatedSection = refl
number_back ManyTargets = refl
number_back LeftNotVariable = refl
number_back LeftRepeated = refl
number_back ArityDiffers = refl
number_back NumberTooLarge = refl
number_back (Limit TooManyRules) = refl
number_back (Limit TooManyArguments) = refl
number_back (Limit TooManyVariables) = refl
number_back (Limit TooManyAtoms) = refl
number_back (Limit LongName) = refl
number_back (Limit TooManyTokens) = refl
number_back (Limit TooManyTerms) = refl
number_back (Limit HighDegree) = refl
number_back StartUnknown = refl
number_back Disjunction = refl

-- Kinds with the same number are the same.
pub kinds_differ : (a b : Kind) → kind_number a ≡ kind_number b → a ≡ b
kinds_differ a b h = sym (number_back a) ∙ ap kind_at h ∙ number_back b
