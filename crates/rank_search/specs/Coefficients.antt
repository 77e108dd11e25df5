-- The unknown coefficients of the function that is searched for, as plain data.
use Rattle.std.specs.Prelude.{◌≡◌, ℕ, not, Bool, List, [], ◌∷◌, ◌++◌, filter, map}
use Rattle.std.specs.List.{range_with_len}
use Rattle.simplex_core.specs.linear_forms.RuleQuestions.{RankedSet, Coefficient, symbols_of_set, coefficients}
use Rattle.poly_terms.specs.model.Programs.{Program}
use Rattle.cert_types.specs.cert_rules.Gaps.{SymbolPlace}
use Rattle.rank_search.specs.declared.coefficients.Coefficient.{Coefficient as Sought}
use Rattle.rule_questions.specs.ProgramQuestions.{ranked_set}

-- the plain coefficient of one of the code
abbrev pub coefficient_of : Sought → Coefficient
coefficient_of c = record { symbol = c.symbol; place = c.place }

-- the coefficients at a symbol with this many places: those of the places that aren't shut, and then the constant's
abbrev pub open_block : (ℕ → ℕ → Bool) → ℕ → ℕ → List Coefficient
open_block shut s arity =
    map (λ i. record { symbol = s; place = i })
    (filter (λ i. not (shut s i)) (range_with_len 1 arity) ++ (0 ∷ []))

-- a set without rules, of a program with these shut places: the coefficients of symbols depend only on these
abbrev pub open_set : Program → List SymbolPlace → RankedSet
open_set p shut = ranked_set p [] 0 shut

-- these are the coefficients of the functions that are searched for
pub record AreCoefficients (b : RankedSet) (cs : List Sought) : Type 0 where
  pub each : map coefficient_of cs ≡ coefficients b (symbols_of_set b)
