-- The first rule of a program, room for the places of its symbols, and the variables of an expanded expression.
use Rattle.std.proofs.Common.{◌≡◌, ℕ, ◌<◌, ◌≤◌, List, [], ◌∷◌, length, false, refl, ap, sym, subst, get_or, option_map}
use Rattle.std.proofs.Common.{◌∙◌, arith}
use Rattle.std.specs.Prelude.{Option, Some, vec_len, ◌==◌}
use Rattle.std.specs.List.{AllByRecursion}
use Rattle.std.proofs.lemmas.Bool.{eqb-false}
use Rattle.std.proofs.lemmas.Option.{slice_get_read, slice_get-map}
use Rattle.model.specs.Terms.{Term}
use Rattle.model.specs.Polynomials.{Polynomial}
use Rattle.model.specs.Programs.{Symbol, Program, rule_at}
use Rattle.poly_terms.specs.Checked.{ReadsBelow}
use Rattle.poly_terms.specs.Expanding.{expanded}
use Rattle.poly_terms.specs.AffineForms.{HasVariablesBelow}
use Rattle.poly_terms.proofs.VariableLaws.{variables-expanded}
use Rattle.its_model.specs.Steps.{maximum_arity}
use Rattle.its_model.specs.Valid.{IsValid, IsValidSymbol}
use Rattle.its_model.specs.declared.program.Program as code
use Rattle.its_model.specs.declared.program.Rule.{Rule}
use Rattle.its_model.specs.Views.{rule_of, program_of}

-- no symbol of a valid program has more than 32 places
pub room_for : (p : Program) (n : ℕ) → IsValid p → 32 ≤ n → maximum_arity p.symbols ≤ n
room_for p n h l = each p.symbols h.symbols
  where
    each : (ss : List Symbol) → AllByRecursion IsValidSymbol ss → maximum_arity ss ≤ n
    each [] h = omega arith
    each (s ∷ ss) h = let few = h.0.arity in omega (arith, few, each ss h.1)

-- a list of rules that isn't empty has a first one
pub some : (p : code.Program) → (vec_len p.rules == 0) ≡ false → 0 < length p.rules.items
some p full =
    let no : vec_len p.rules ≡ 0 → ⊥ = eqb-false (vec_len p.rules) 0 full in
    omega (arith, no, p.rules.ok.0)

-- the first rule has the number 1
pub first_rule : (p : code.Program) (r : Rule) → 0 < length p.rules.items → r ≡ get_or p.rules.items 0 r
    → rule_at (program_of p) 1 ≡ Some (rule_of r)
first_rule p r some is =
    slice_get-map rule_of p.rules.items 0
    ∙ ap (λ (o : Option Rule). option_map rule_of o)
    (slice_get_read p.rules.items (length p.rules.items) 0 r refl some is)

-- the variables of an expanded expression are those of the expression
pub below_of : (n : ℕ) (t : Term) (p : Polynomial) → ReadsBelow n t → p ≡ expanded t → HasVariablesBelow n p
below_of n t p h e = subst (HasVariablesBelow n) (sym e) (variables-expanded n t h)
