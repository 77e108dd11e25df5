-- The prepared rows of a rule are small enough for the checks of ranking functions and side bounds over it.
use Rattle.std.proofs.Common.{◌≡◌, ℕ, suc, ◌+◌, ◌-◌, ◌≤◌, Bool, true, false, List, [], ◌∷◌, length, map, get_or, All, Option, Some}
use Rattle.std.proofs.Common.{refl, sym, ap, ◌∙◌, subst, arith}
use Rattle.std.specs.Prelude.{if◌then◌else◌}
use Rattle.std.specs.List.{AllByRecursion}
use Rattle.std.proofs.lemmas.List.{length-map}
use Rattle.std.proofs.lemmas.List.Elements.{All-nil, All-cons}
use Rattle.farkas_cert.specs.Sizes.{AreSmall, HasRowNumbers}
use Rattle.guard_prep.specs.declared.rule_rows.RuleRows.{RuleRows}
use Rattle.guard_prep.specs.Prepared.{Prepared, prepared, rows_of, new_values_of, new_values_from, polys_of, is_nonlinear, unknowns_of}
use Rattle.guard_prep.specs.Laws.{IsPreparable, IsSmallForm}
use Rattle.guard_prep.specs.Views.{prepared_of}
use Rattle.farkas_cert.proofs.Sums.{rows_of_a_rule}
use Rattle.guard_prep.proofs.SizeLaws.{rows-are-small}
use Rattle.guard_prep.proofs.StepLaws.{preparable, valid-at}
use Rattle.its_model.specs.Valid.{IsValid}
use Rattle.model.specs.Paths.{source_of, source_in}
use Rattle.model.specs.Polynomials.{Polynomial}
use Rattle.model.specs.Programs.{Program, Rule, rule_at, arity_of}
use Rattle.model.proofs.Cases.{some_same as some-same}
use Rattle.poly_terms.specs.Expanding.{expanded, variable_form}
use Rattle.poly_terms.specs.AffineForms.{linear_form}
use Rattle.poly_terms.specs.Views.{form_of}
use Rattle.poly_terms.specs.linear_forms.Forms.{Form}
use Rattle.cert_types.specs.Composing.{AreRowsOf}
use Rattle.cert_types.specs.cert_rules.AcceptsPlain.{IsRule}
use Rattle.cert_types.specs.cert_rules.AcceptsSizes.{left_in}
use Rattle.cert_types.specs.cert_program.Setting.{nonlinear_at, polys_in, setting_of}
use Rattle.cert_types.proofs.cert_program.Faithful.{settings-faithful}
use Rattle.cert_context.specs.SuitedRows.{SuitsSideBounds, SuitsGoals, IsPreparedRuleOf, HasPlaces}
use Rattle.cert_context.proofs.Rows.{all-numbers, row-is, prepared_rule-rows, prepared_rule-new_values}

-- small forms have a coefficient for each unknown, and no more
widths : (n : ℕ) (fs : List Form) → AllByRecursion (IsSmallForm n) fs → All (λ f. length f.coefs ≤ n) fs
widths n [] h = All-nil (λ (f : Form). length f.coefs ≤ n)
widths n (f ∷ fs) h = All-cons (λ (g : Form). length g.coefs ≤ n) f fs (omega (arith, h.0.width)) (widths n fs h.1)

-- as many new values as updates
new_values-count : (w k : ℕ) (ps : List Polynomial) → length (new_values_from w k ps) ≡ length ps
new_values-count w k [] = refl
new_values-count w k (q ∷ ps) = go (is_nonlinear q) (new_values-count w (suc k) ps) (new_values-count w k ps)
  where
    go : (v : Bool) → length (new_values_from w (suc k) ps) ≡ length ps → length (new_values_from w k ps) ≡ length ps
        → length (if v then linear_form w (variable_form k) ∷ new_values_from w (suc k) ps else linear_form w q ∷ new_values_from w k ps)
        ≡ suc (length ps)
    go true h m = ap suc h
    go false h m = ap suc m

-- the prepared rows of a preparable rule suit side bounds
pub suits-side_bounds : (r : Rule) (m : RuleRows) → IsPreparable r → prepared_of m ≡ prepared r → SuitsSideBounds m
suits-side_bounds r m q same = record {
  small = subst AreSmall (sym (ap (λ (x : Prepared). x.rows) same))
      (rows_of_a_rule (rows_of r) (rows-are-small.few_rows r q) (all-numbers (unknowns_of r) (rows_of r) (rows-are-small.rows r q)));
  new_values = subst (All HasRowNumbers) (sym (ap (λ (x : Prepared). x.new_values) same))
      (all-numbers (unknowns_of r) (new_values_of r) (rows-are-small.new_values r q));
  width = subst (λ (n : ℕ). All (λ (f : Form). length f.coefs ≤ n) (map form_of m.new_values.items)) (sym (ap (λ (x : Prepared). x.unknowns) same))
      (subst (All (λ (f : Form). length f.coefs ≤ unknowns_of r)) (sym (ap (λ (x : Prepared). x.new_values) same))
      (widths (unknowns_of r) (new_values_of r) (rows-are-small.new_values r q)));
  left = omega (arith, ap (λ (x : Prepared). x.left) same, ap (λ (x : Prepared). x.unknowns) same);
}

module _ (p : Program) (prepared_rules : List RuleRows) (rows : AreRowsOf prepared_rules p) (v : IsValid p) (t : ℕ) (is : IsRule p t)
    (prepared_rule : RuleRows) (e : prepared_rule ≡ get_or prepared_rules (t - 1) prepared_rule) where
  -- the prepared rows of a rule suit the goals of ranking functions
  pub prepared_rule-suits : SuitsGoals p t prepared_rule
  prepared_rule-suits =
      let q = preparable p t is.rule v is.numbered in
      let same = row-is p prepared_rules rows t is.rule prepared_rule is.numbered e in
      let unknowns = ap (λ (m : Prepared). m.unknowns) same in
      record {
        new_values = subst (All HasRowNumbers) (sym (ap (λ (m : Prepared). m.new_values) same))
            (all-numbers (unknowns_of is.rule) (new_values_of is.rule) (rows-are-small.new_values is.rule q));
        few = omega (
          arith,
          ap (λ (m : Prepared). length m.new_values) same,
          length-map prepared_rule.new_values.items form_of,
          new_values-count (unknowns_of is.rule) (is.rule.left + is.rule.free) (polys_of is.rule),
          length-map is.rule.updates expanded,
          q.few_updates,
        );
        width = subst (λ (n : ℕ). All (λ (f : Form). length f.coefs ≤ n) (map form_of prepared_rule.new_values.items)) (sym unknowns)
            (subst (All (λ (f : Form). length f.coefs ≤ unknowns_of is.rule)) (sym (ap (λ (m : Prepared). m.new_values) same))
            (widths (unknowns_of is.rule) (new_values_of is.rule) (rows-are-small.new_values is.rule q)));
        left = λ a s. omega (
          arith,
          (settings-faithful.each p v).places t is.rule is.numbered,
          unknowns,
          ap (arity_of p) (source-same t is.rule is.numbered a s),
        );
      }
    where
      source-same : (u : ℕ) (r : Rule) → rule_at p u ≡ Some r → (a : ℕ) → source_of p u ≡ Some a → a ≡ r.source
      source-same u r n a s = some-same a r.source (sym s ∙ ap source_in n)

  -- the prepared rows of a rule of a valid program suit side bounds
  pub prepared_rule-side_bounds : SuitsSideBounds prepared_rule
  prepared_rule-side_bounds = suits-side_bounds is.rule prepared_rule (preparable p t is.rule v is.numbered) (row-is p prepared_rules rows t is.rule prepared_rule is.numbered e)

  -- the prepared rows of a rule are those that the setting has for it
  pub prepared_rule-own : IsPreparedRuleOf (setting_of p) t prepared_rule
  prepared_rule-own =
      let same = row-is p prepared_rules rows t is.rule prepared_rule is.numbered e in
      record {
        rows = prepared_rule-rows p prepared_rules rows t is prepared_rule e;
        new_values = prepared_rule-new_values p prepared_rules rows t is prepared_rule e;
        polys = λ i. ap (λ (m : Prepared). nonlinear_at m.polys i) same ∙ ap (λ (o : Option Rule). nonlinear_at (polys_in o) i) (sym is.numbered);
        left = ap (λ (m : Prepared). m.left) same ∙ ap left_in (sym is.numbered);
      }

  -- the prepared rows of a rule have a new value for each place of its target
  pub prepared_rule-places : HasPlaces p t prepared_rule
  prepared_rule-places = record {
    each = λ r n. omega (
      arith,
      ap (λ (m : Prepared). length m.new_values) (row-is p prepared_rules rows t r prepared_rule n e),
      length-map prepared_rule.new_values.items form_of,
      new_values-count (unknowns_of r) (r.left + r.free) (polys_of r),
      length-map r.updates expanded,
      (valid-at p t r v n).places,
    );
  }
