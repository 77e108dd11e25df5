-- Points and rays of the rows of rules: the values of facts there, and which facts they refute.
use Rattle.std.proofs.Common.{◌≡◌, inl, inr, ℕ, zero, suc, ◌-◌, ◌<◌, ◌≤◌, ap, arith, refl, sym, ◌∙◌, subst, List, map}
use Rattle.std.proofs.Common.{[], true, false, if◌then◌else◌, length, get_or, Option, Some, None}
use Rattle.std.specs.Prelude.{Bool, ℤ, pos, ◌-ℤ◌, ◌+ℤ◌, ◌*ℤ◌, ◌<ℤ◌, nat_abs, unsigned_abs, slice_get}
use Rattle.std.specs.List.{All}
use Rattle.std.proofs.lemmas.Int.{ints}
use Rattle.std.proofs.lemmas.List.Elements.{All-nil, All-weaker}
use Rattle.std.proofs.lemmas.Option.{slice_get_within, get_or_from_slice_get}
use Rattle.poly_terms.proofs.int_laws.RingLaws.{mul_comm_ℤ}
use Rattle.poly_terms.specs.linear_forms.Forms.{Form, form_value}
use Rattle.poly_terms.specs.model.Limits.{coefficient_limit}
use Rattle.poly_terms.specs.model.Programs as plain
use Rattle.poly_terms.specs.declared.poly.Row.{Row}
use Rattle.poly_terms.specs.Views.{form_of}
use Rattle.its_model.specs.declared.program.Program.{Program}
use Rattle.its_model.specs.declared.program.Rule.{Rule}
use Rattle.its_model.specs.Valid.{IsValid}
use Rattle.its_model.specs.Views.{rule_of, program_of}
use Rattle.poly_terms.specs.linear_forms.Points.{Meets}
use Rattle.farkas_cert.specs.declared.scaled.Scaled.{Scaled}
use Rattle.farkas_cert.specs.Scales.{numerators_of}
use Rattle.farkas_cert.specs.Sizes.{HasRowNumbers, row_limit}
use Rattle.cert_types.specs.Composing.{AreRowsOf}
use Rattle.cert_types.specs.guard_prep.declared.rule_rows.RuleRows.{RuleRows}
use Rattle.rule_questions.specs.EmptyAnswers.{IsPrepared}
use Rattle.rule_questions.specs.ProgramQuestions.{forms_at}
use Rattle.rule_questions.specs.SmallForms.{IsSmall}
use Rattle.rule_questions.proofs.EmptyProblems.{few-unknowns}
use Rattle.rule_questions.proofs.NewValues.{new_values-small}
use Rattle.poly_terms.specs.linear_forms.RuleQuestions.{constant_form}
use Rattle.location_facts.specs.declared.fact.LocFact.{LocFact}
use Rattle.location_facts.specs.declared.elements.Element.{Element}
use Rattle.location_facts.specs.declared.implied.Answered.TheVariants.{Refuted}
use Rattle.location_facts.specs.declared.implied.RuleUnderFacts.{RuleUnderFacts}
use Rattle.location_facts.specs.Elements.{IsMeasured, IsElement, AreElements}
use Rattle.location_facts.specs.Implied.{DecidesGoal}
use Rattle.location_facts.specs.Kept.{IsImplied, IsImpliedByAll}
use Rattle.location_facts.specs.Due.{IsUnderIfDue, RefutesQueried}
use Rattle.location_facts.specs.Rows.{value_after, row_after, combined}
use Rattle.location_facts.proofs.GoalAnswers.{against-excludes}
use Rattle.location_facts.proofs.GoalProblems.{rows-fit}
use Rattle.location_facts.proofs.RowForms.{after_none, after_found, after_missing}
use Rattle.location_facts.proofs.RowValues.{margin-value}
use Rattle.location_facts.proofs.ShownRules.{read, rule-count}
use Rattle.location_facts.proofs.UnderRules.{forms-read, prepared_rule-read, rule-here}
use Rattle.location_facts.proofs.Writable.{goal-fits-after}

-- a property of all elements holds of those that remain when a symbol begins
pub begun-all : (P : Element → Type 0) (b : Bool) (es : List Element) → All P es → All P (if b then es else [])
begun-all P true es h = h
begun-all P false es h = All-nil P

-- the value at a place after a rule: 0 for place 0, else the new value
pub value_none : (v : ℤ) (new_values : List Form) (i : ℕ) (z : ℕ → ℤ) (d : ℤ) → i ≡ 0 → v ≡ pos 0
    → v ≡ form_value (value_after new_values i) z d
value_none v new_values i z d e h =
    h ∙ (nothing d ∙ ap (λ (f : Form). form_value f z d) (after_none (constant_form (pos 0)) new_values i e refl))
  where
    nothing : (d : ℤ) → pos 0 ≡ pos 0 +ℤ pos 0 *ℤ d
    nothing d = omega (arith, ints)

pub value_found : (v : ℤ) (rows : List Row) (i : ℕ) (r : Row) (z : ℕ → ℤ) (d : ℤ) → (i ≡ 0 → ⊥)
    → slice_get rows (i - 1) ≡ Some r → v ≡ form_value (form_of r) z d
    → v ≡ form_value (value_after (map form_of rows) i) z d
value_found v rows i r z d n e h = h ∙ ap (λ (f : Form). form_value f z d) (after_found (form_of r) rows i r n e refl)

pub value_missing : (v : ℤ) (rows : List Row) (i : ℕ) (z : ℕ → ℤ) (d : ℤ) → (i ≡ 0 → ⊥) → length rows ≤ i - 1
    → v ≡ pos 0 → v ≡ form_value (value_after (map form_of rows) i) z d
value_missing v rows i z d n l h =
    h ∙ (nothing d
    ∙ ap (λ (f : Form). form_value f z d) (after_missing (constant_form (pos 0)) rows i n l refl))
  where
    nothing : (d : ℤ) → pos 0 ≡ pos 0 +ℤ pos 0 *ℤ d
    nothing d = omega (arith, ints)

-- the numbers of a new value are within the limits on rows
pub new_numbers : (rows : List Row) (k : ℕ) (r : Row) → All (λ x. IsSmall (form_of x)) rows → slice_get rows k ≡ Some r
    → HasRowNumbers (form_of r)
new_numbers rows k r h e =
    subst (λ (x : Row). HasRowNumbers (form_of x)) (get_or_from_slice_get rows k r r e)
    (numbers (form_of (get_or rows k r)) (h k r (slice_get_within rows k r e)))
  where
    below : (n : ℕ) → n ≤ coefficient_limit → n < row_limit
    below n l = omega (arith, l)

    numbers : (f : Form) → IsSmall f → HasRowNumbers f
    numbers f s = record {
      coefs = All-weaker (λ (a : ℤ). nat_abs a ≤ coefficient_limit) (λ (a : ℤ). unsigned_abs a < row_limit)
          (λ a l. below (nat_abs a) l) f.coefs s.coefs;
      constant = below (nat_abs f.constant) s.constant;
    }

-- the new values of a rule have small numbers
pub new_values_ready : (m : RuleRows) (rs : List Row) → IsPrepared m → rs ≡ m.new_values.items
    → All (λ r. IsSmall (form_of r)) rs
new_values_ready m rs is e = subst (All (λ (r : Row). IsSmall (form_of r))) (sym e) (new_values-small m is)

-- an element that is read has numbers within the limit
pub measured-at : (p : plain.Program) (es : List Element) (k : ℕ) (e : Element) → All (IsMeasured p) es → k < length es
    → e ≡ get_or es k e → IsMeasured p e
measured-at p es k e h l same = subst (IsMeasured p) (sym same) (h k e l)

-- an element that is read is an element of its rule
pub element-at : (p : plain.Program) (pivots : ℕ) (kept : List LocFact) (es : List Element) (k : ℕ) (e : Element)
    → AreElements p pivots kept es → k < length es → e ≡ get_or es k e → IsElement p pivots kept e
element-at p pivots kept es k e h l same = subst (IsElement p pivots kept) (sym same) (h k e l)

-- the value of a fact after a rule is that at its plus, less that at its minus, less its least
pub fact-value : (new_values : List Form) (f : LocFact) (z : ℕ → ℤ) (d plus minus least : ℤ)
    → plus ≡ form_value (value_after new_values f.plus) z d → minus ≡ form_value (value_after new_values f.minus) z d
    → least ≡ d *ℤ f.least → form_value (row_after new_values f) z d ≡ (plus -ℤ minus) -ℤ least
fact-value new_values f z d plus minus least e g h =
    margin-value (value_after new_values f.plus) (value_after new_values f.minus) f.least z d
    ∙ (ap (λ (x : ℤ). (x -ℤ form_value (value_after new_values f.minus) z d) -ℤ f.least *ℤ d) (sym e)
    ∙ (ap (λ (x : ℤ). (plus -ℤ x) -ℤ f.least *ℤ d) (sym g)
    ∙ ap (λ (x : ℤ). (plus -ℤ minus) -ℤ x) (mul_comm_ℤ f.least d ∙ sym h)))

-- the rule of the code with a number is the program's
pub rule-numbered : (p : Program) (t : ℕ) (r : Rule) → (1 ≤ t) × (t ≤ length (program_of p).rules)
    → r ≡ get_or p.rules.items (t - 1) r → plain.rule_at (program_of p) t ≡ Some (rule_of r)
rule-numbered p zero r (l, h) e = absurd (omega (arith, l))
rule-numbered p (suc i) r (l, h) e =
    let less : suc i - 1 ≡ i = omega arith in
    rule-here p i r (read p.rules.items i r (let n = rule-count p in omega (arith, h, n))
    (e ∙ ap (λ (k : ℕ). get_or p.rules.items k r) less))

-- if a fact is below 0 after a rule into its symbol, at an element of the rule, the rule doesn't imply it
pub refuted : (p : plain.Program) (prepared_rules : List RuleRows) (e : Element) (m : RuleRows) (f : LocFact)
    (r : plain.Rule)
    → IsValid p → AreRowsOf prepared_rules p → (1 ≤ e.rule) × (e.rule ≤ length p.rules)
    → m ≡ get_or prepared_rules (e.rule - 1) m
    → plain.rule_at p e.rule ≡ Some r → r.target ≡ f.symbol
    → form_value (row_after (map form_of m.new_values.items) f) (numerators_of e.at) (pos e.at.den) <ℤ pos 0
    → (pivots : ℕ) (kept : List LocFact) → IsElement p pivots kept e → ¬ IsImpliedByAll p pivots kept f
refuted p prepared_rules e m f r valid rows within at-m there same below pivots kept is all =
    go (all.each e.rule r there same)
  where
    forms : (m.unknowns ≡ (forms_at p e.rule).unknowns)
        × (map form_of m.new_values.items ≡ (forms_at p e.rule).new_values)
    forms = forms-read p prepared_rules e.rule m rows within at-m

    fits : length (row_after (forms_at p e.rule).new_values f).coefs ≤ (forms_at p e.rule).unknowns
    fits =
        subst (λ (n : ℕ). length (row_after (forms_at p e.rule).new_values f).coefs ≤ n) forms.0
        (subst (λ (fs : List Form). length (row_after fs f).coefs ≤ m.unknowns) forms.1
        (goal-fits-after m (prepared_rule-read p prepared_rules e.rule m valid rows within at-m) f))

    go : IsImplied pivots (forms_at p e.rule) kept f → ⊥
    go (inl s) = is.not_empty s
    go (inr s) =
        against-excludes (forms_at p e.rule).unknowns (combined (forms_at p e.rule) kept)
        (row_after (forms_at p e.rule).new_values f) is.fit fits (numerators_of e.at) (pos e.at.den)
        (omega (arith, ints)) is.meets
        (subst (λ (fs : List Form). form_value (row_after fs f) (numerators_of e.at) (pos e.at.den) <ℤ pos 0) forms.1
        below) s.solution

-- a point or ray was found that refutes a goal over the rows of a rule
module _ (p : plain.Program) (prepared_rules : List RuleRows) (pivots t : ℕ) (m : RuleRows) (f : LocFact)
    (o : Option RuleUnderFacts)
    (z : Scaled) (within : (1 ≤ t) × (t ≤ length p.rules))
    (stands : RefutesQueried m.unknowns (row_after (map form_of m.new_values.items) f) o (Refuted z)) where
  -- the numbers of this element are within the limit
  pub element-measured : IsPrepared m → IsMeasured p (record { rule = t; at = z })
  element-measured is = go o stands
    where
      go : (w : Option RuleUnderFacts) → RefutesQueried m.unknowns (row_after (map form_of m.new_values.items) f) w
          (Refuted z)
          → IsMeasured p (record { rule = t; at = z })
      go None never = absurd never
      go (Some u) h = record {
        rule = within;
        few = let l = few-unknowns m is in let e = h.long in omega (arith, e, l);
        parts = h.parts_limit;
        den = h.den_limit;
      }

  -- this is an element of the rule, which doesn't imply the fact
  pub element-found : (due : Option Bool) (kept : List LocFact) → IsUnderIfDue pivots (forms_at p t) due kept o
      → DecidesGoal pivots (forms_at p t).unknowns (combined (forms_at p t) kept)
      (row_after (forms_at p t).new_values f) None
      → IsElement p pivots kept (record { rule = t; at = z })
  element-found due kept is not = go o stands is
    where
      go : (w : Option RuleUnderFacts) → RefutesQueried m.unknowns (row_after (map form_of m.new_values.items) f) w
          (Refuted z)
          → IsUnderIfDue pivots (forms_at p t) due kept w → IsElement p pivots kept (record { rule = t; at = z })
      go None never l = absurd never
      go (Some u) h l = record {
        fit = subst (λ (fs : List Form). All (λ r. length r.coefs ≤ (forms_at p t).unknowns) fs) l.rows
            (rows-fit (forms_at p t).unknowns u.rows.items l.writable);
        meets = subst (λ (fs : List Form). Meets fs (numerators_of z) (pos z.den)) l.rows h.meets;
        not_empty = λ s. not (inl s);
      }
