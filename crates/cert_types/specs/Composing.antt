-- Preconditions of composing sizes: polynomials that may be absent, and side bounds that can be read as bounds.
use Rattle.std.specs.Prelude.{◌≡◌, ℕ, ◌<◌, ◌≤◌, ◌^◌, List, length, map, All, Option, option_map, IfSome}
use denote.Ref.{Bor}
use Rattle.poly_terms.specs.model.Bounds.{Bound, MaximumOf}
use Rattle.poly_terms.specs.model.Programs.{Program}
use Rattle.poly_terms.specs.model.Polynomials.{Polynomial}
use Rattle.poly_terms.specs.declared.poly.Monomial.{Monomial}
use Rattle.poly_terms.specs.declared.poly.Poly.{Poly}
use Rattle.poly_terms.specs.Views.{poly_of}
use Rattle.guard_prep.specs.declared.rule_rows.RuleRows.{RuleRows}
use Rattle.guard_prep.specs.Views.{prepared_of}
use Rattle.guard_prep.specs.Prepared.{prepared}
use Rattle.cert_program.specs.cert_rules.Nodes as nodes
use Rattle.cert_program.specs.cert_rules.Composed.{both_parts, parts_for, sizes_after}
use Rattle.cert_program.specs.cert_rules.ComposedSizes.{composed_side_bound}
use Rattle.cert_types.specs.declared.side_bound.SideBound.{SideBound}
use Rattle.cert_types.specs.declared.side_bound.SideBound.TheVariants as side_bounds

-- a polynomial that may be there, as plain data
abbrev pub optional_poly : Option (Bor Poly) → Option Polynomial
optional_poly o = option_map (λ q. poly_of q.now) o

-- each variable of the monomial is below 2^31, as places are
abbrev pub HasFewVariables : Monomial → Type 0
HasFewVariables m = All (λ v. v < 2 ^ 31) m.vars.items

abbrev pub HasFewPlaces : Option (Bor Poly) → Type 0
HasFewPlaces o = IfSome o (λ q. All HasFewVariables q.now.terms.items)

-- a linear side bound has a denominator of at least 1, and fewer coefficients than there can be places
abbrev pub IsReadable : SideBound → Type 0
IsReadable (side_bounds.Linear den coefs constant multipliers) = (1 ≤ den) × (length coefs.items < 2 ^ 31)
IsReadable side_bounds.Poly = Unit {0}

-- both side bounds of a member at the sizes after rule e
abbrev pub both_side_bounds : Option Polynomial → nodes.LocalBound → (ℕ → ℕ → Option Bound) → ℕ → Bound
both_side_bounds q local size e =
    MaximumOf (both_parts (composed_side_bound q local.up (sizes_after size e)) (composed_side_bound q local.low (sizes_after size e)))

-- the maximum, over these rules, of both side bounds at the sizes after the rule
abbrev pub spread_over : Option Polynomial → nodes.LocalBound → (ℕ → ℕ → Option Bound) → List ℕ → Bound
spread_over q local size es = MaximumOf (parts_for (both_side_bounds q local size) es)

-- the rows are those of the program's rules, in order
abbrev pub AreRowsOf : List RuleRows → Program → Type 0
AreRowsOf prepared_rules p = map prepared_of prepared_rules ≡ map prepared p.rules
