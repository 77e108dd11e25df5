-- The forms of a ranking function whose shape is right, and the rows and new values of a rule.
use Rattle.std.proofs.Common.{◌≡◌, ℕ, ◌≤◌, ◌==◌, Bool, true, false, cond, List, [], ◌∷◌, length, All, Option, Some, None}
use Rattle.std.proofs.Common.{refl, ap, arith}
use Rattle.std.specs.Prelude.{ℤ, pos, nat_abs}
use Rattle.std.proofs.lemmas.List.Elements.{All-nil, All-head, All-tail}
use Rattle.model.specs.Programs.{Program, arity_of}
use Rattle.model.proofs.Membership.{same_number-sound}
use Rattle.poly_terms.specs.linear_forms.RuleQuestions.{constant_form}
use Rattle.cert_types.specs.cert_rules.AcceptsRank.{HasFormShape}
use Rattle.cert_types.specs.cert_rules.Composed.{rank_form}
use Rattle.cert_types.specs.cert_rules.Limits.{IsFormInLimit, IsInLimit}
use Rattle.cert_types.specs.cert_rules.Nodes.{SymbolForm}

-- the form 0 is within the limit
none-limited : IsFormInLimit (constant_form (pos 0))
none-limited = record { coefs = All-nil (λ (c : ℤ). IsInLimit (nat_abs c)); constant = omega arith }

module _ (p : Program) where
  -- the form at a symbol is within the limit
  pub form-limited : (forms : List SymbolForm) → All (HasFormShape p) forms → (o : Option ℕ)
      → IsFormInLimit (rank_form forms o)
  form-limited forms h None = none-limited
  form-limited [] h (Some a) = none-limited
  form-limited (f ∷ forms) h (Some a) =
      go (f.symbol == a) (form-limited forms (All-tail (HasFormShape p) f forms h) (Some a))
    where
      go : (v : Bool) → IsFormInLimit (rank_form forms (Some a)) → IsFormInLimit (cond v f.form (rank_form forms (Some a)))
      go true later = (All-head (HasFormShape p) f forms h).limit
      go false later = later

  -- the form at a symbol has at most as many coefficients as the symbol has places
  pub form-width : (forms : List SymbolForm) → All (HasFormShape p) forms → (a : ℕ)
      → length (rank_form forms (Some a)).coefs ≤ arity_of p a
  form-width [] h a = omega arith
  form-width (f ∷ forms) h a =
      go (f.symbol == a) refl (form-width forms (All-tail (HasFormShape p) f forms h) a)
    where
      go : (v : Bool) → (f.symbol == a) ≡ v → length (rank_form forms (Some a)).coefs ≤ arity_of p a
          → length (cond v f.form (rank_form forms (Some a))).coefs ≤ arity_of p a
      go true e later =
          let same = ap (arity_of p) (same_number-sound f.symbol a e) in
          omega (arith, (All-head (HasFormShape p) f forms h).long, same)
      go false e later = later
