-- The rules of a program and their prepared rows.
use Rattle.std.proofs.Common.{◌≡◌, ℕ, zero, suc, ◌-◌, ◌<◌, ◌≤◌, List, length, map, get_or, slice_get, Some}
use Rattle.std.proofs.Common.{option_map, sym, ap, ◌∙◌, subst, arith, refl}
use Rattle.std.proofs.lemmas.Option.{slice_get_read, slice_get_within, slice_get-map}
use Rattle.std.proofs.lemmas.List.{length-map}
use Rattle.farkas_cert.specs.Sizes.{AreSmall}
use Rattle.guard_prep.specs.declared.rule_rows.RuleRows.{RuleRows}
use Rattle.guard_prep.specs.Prepared.{Prepared, prepared, rows_of}
use Rattle.guard_prep.specs.Views.{prepared_of}
use Rattle.guard_prep.proofs.SizeLaws.{rows-are-small}
use Rattle.farkas_cert.proofs.Sums.{rows_of_a_rule}
use Rattle.farkas_cert.specs.Sizes.{AreRowNumbers, HasRowNumbers, row_limit}
use Rattle.guard_prep.specs.Laws.{IsSmallForm}
use Rattle.guard_prep.specs.Prepared.{unknowns_of}
use Rattle.model.specs.Limits.{coefficient_limit, place_limit}
use Rattle.std.proofs.Common.{[], ◌∷◌, All}
use Rattle.std.specs.List.{AllByRecursion}
use Rattle.std.specs.Prelude.{ℤ, nat_abs}
use Rattle.std.proofs.lemmas.List.Elements.{All-nil, All-cons}
use Rattle.guard_prep.proofs.StepLaws.{preparable}
use Rattle.its_model.specs.Valid.{IsValid, IsValidSymbol}
use Rattle.its_model.specs.Views.{rule_of, program_of}
use Rattle.its_model.specs.declared.program.Program as code
use Rattle.its_model.specs.declared.program.Rule as code_rule
use Rattle.model.specs.Programs.{Program, Rule, Symbol, rule_at, arity_in, arity_of}
use Rattle.model.proofs.Cases.{some_same as some-same}
use Rattle.poly_terms.specs.Views.{form_of}
use Rattle.poly_terms.specs.linear_forms.Forms.{Form}
use Rattle.cert_types.specs.Composing.{AreRowsOf}
use Rattle.cert_types.specs.cert_rules.AcceptsPlain.{IsRule}
use Rattle.cert_types.specs.cert_program.Setting.{rows_in, new_values_in, setting_of}
use Rattle.cert_types.proofs.Rules.{rule_here}

-- a symbol of a valid program has few places
few-in : (ss : List Symbol) (a : ℕ) → AllByRecursion IsValidSymbol ss → arity_in (slice_get ss a) ≤ place_limit
few-in [] a v = omega arith
few-in (s ∷ ss) zero v = v.0.arity
few-in (s ∷ ss) (suc a) v = few-in ss a v.1

pub few-places : (p : Program) (a : ℕ) → IsValid p → arity_of p a ≤ place_limit
few-places p a v = few-in p.symbols a v.symbols

-- a small form has numbers below 2^63
small-numbers : (n : ℕ) (f : Form) → IsSmallForm n f → HasRowNumbers f
small-numbers n f h = record { coefs = each f.coefs h.coefs; constant = omega (arith, h.constant) }
  where
    each : (xs : List ℤ) → AllByRecursion (λ a. nat_abs a ≤ coefficient_limit) xs → AreRowNumbers xs
    each [] k = All-nil (λ (x : ℤ). nat_abs x < row_limit)
    each (x ∷ xs) k = All-cons (λ (a : ℤ). nat_abs a < row_limit) x xs (omega (arith, k.0)) (each xs k.1)

-- the same for all small forms of a list
pub all-numbers : (n : ℕ) (rows : List Form) → AllByRecursion (IsSmallForm n) rows → All HasRowNumbers rows
all-numbers n [] h = All-nil HasRowNumbers
all-numbers n (f ∷ rows) h = All-cons HasRowNumbers f rows (small-numbers n f h.0) (all-numbers n rows h.1)

module _ (p : Program) (prepared_rules : List RuleRows) (rows : AreRowsOf prepared_rules p) where
  -- there are as many prepared rules as rules
  same-length : length prepared_rules ≡ length p.rules
  same-length = sym (length-map prepared_rules prepared_of) ∙ (ap length rows ∙ length-map p.rules prepared)

  -- the number of a rule is that of a prepared rule
  pub row-within : (t : ℕ) → IsRule p t → (0 < t) × (t ≤ length prepared_rules)
  row-within t is = go t is.rule is.numbered
    where
      go : (u : ℕ) (r : Rule) → rule_at p u ≡ Some r → (0 < u) × (u ≤ length prepared_rules)
      go zero r e = absurd (let no : ⊥ = cc in no)
      go (suc u) r e = let l = slice_get_within p.rules u r e in (omega arith, omega (arith, l, same-length))

  -- the prepared rows at a rule's position are those of the rule
  pub row-is : (t : ℕ) (r : Rule) (prepared_rule : RuleRows) → rule_at p t ≡ Some r → prepared_rule ≡ get_or prepared_rules (t - 1) prepared_rule
      → prepared_of prepared_rule ≡ prepared r
  row-is zero r prepared_rule e h = absurd (let no : ⊥ = cc in no)
  row-is (suc t) r prepared_rule e h =
      some-same (prepared_of prepared_rule) (prepared r)
      (sym (slice_get-map prepared_of prepared_rules t ∙ ap (option_map prepared_of) here)
      ∙ (ap (λ (xs : List Prepared). slice_get xs t) rows
      ∙ (slice_get-map prepared p.rules t ∙ ap (option_map prepared) e)))
    where
      low : t < length prepared_rules
      low = let l = slice_get_within p.rules t r e in omega (arith, l, same-length)

      here : slice_get prepared_rules t ≡ Some prepared_rule
      here = slice_get_read prepared_rules (length prepared_rules) t prepared_rule refl low
          (h ∙ ap (λ (i : ℕ). get_or prepared_rules i prepared_rule) (let k : suc t - 1 ≡ t = omega arith in k))

  module _ (t : ℕ) (is : IsRule p t) (prepared_rule : RuleRows) (e : prepared_rule ≡ get_or prepared_rules (t - 1) prepared_rule) where
    -- the prepared rows of a rule are the rows of the setting
    pub prepared_rule-rows : map form_of prepared_rule.rows.items ≡ (setting_of p).rows t
    prepared_rule-rows =
        ap (λ (m : Prepared). m.rows) (row-is t is.rule prepared_rule is.numbered e) ∙ ap rows_in (sym is.numbered)

    -- the prepared new values of a rule are the new values of the setting
    pub prepared_rule-new_values : map form_of prepared_rule.new_values.items ≡ (setting_of p).new_values t
    prepared_rule-new_values =
        ap (λ (m : Prepared). m.new_values) (row-is t is.rule prepared_rule is.numbered e) ∙ ap new_values_in (sym is.numbered)

    -- the prepared rows of a rule of a valid program are small
    pub prepared_rule-small : IsValid p → AreSmall (map form_of prepared_rule.rows.items)
    prepared_rule-small v =
        subst AreSmall (sym (ap (λ (m : Prepared). m.rows) (row-is t is.rule prepared_rule is.numbered e)))
        (let q = preparable p t is.rule v is.numbered in
        rows_of_a_rule (rows_of is.rule) (rows-are-small.few_rows is.rule q)
        (all-numbers (unknowns_of is.rule) (rows_of is.rule) (rows-are-small.rows is.rule q)))

-- the rule that is read at the number of a rule
pub rule-numbered : (p : code.Program) (t : ℕ) (r : code_rule.Rule) → IsRule (program_of p) t
    → r ≡ get_or p.rules.items (t - 1) r → rule_at (program_of p) t ≡ Some (rule_of r)
rule-numbered p zero r is e = absurd (let n = is.numbered in let no : ⊥ = cc in no)
rule-numbered p (suc t) r is e =
    let l = slice_get_within (map rule_of p.rules.items) t is.rule is.numbered in
    rule_here p (suc t) r (omega arith) (omega (arith, l, length-map p.rules.items rule_of)) e
