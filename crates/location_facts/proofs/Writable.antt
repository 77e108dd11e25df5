-- Combined rows and goals of facts can be written.
use Rattle.std.proofs.Common.{◌≡◌, ℕ, zero, suc, ◌^◌, ◌<◌, ◌≤◌, min, ◌⊎◌, inl, inr, ap, arith, sym, ◌∙◌}
use Rattle.std.proofs.Common.{subst}
use Rattle.std.proofs.Common.{List, [], ◌∷◌, ◌++◌, length, map, length-append, replicate, get_or, Some}
use Rattle.std.specs.Prelude.{ℤ, pos, negsuc, ◌*ℤ◌, ◌≤ℤ◌, nat_abs, unsigned_abs, nat_eq, slice_index_or}
use Rattle.std.specs.List.{All}
use Rattle.std.proofs.lemmas.Bool.{eqb-true, cases_lt}
use Rattle.std.proofs.lemmas.List.{length-map, length-replicate, get_or_past}
use Rattle.std.proofs.lemmas.List.Elements.{All-append, All-map, All-filter, All-weaker, All-from_get_or}
use Rattle.std.proofs.lemmas.List.Elements.{All-from_recursion}
use Rattle.std.proofs.lemmas.List.Elements.{filter_passes}
use Rattle.poly_terms.specs.linear_forms.Combinations.{zero_form}
use Rattle.poly_terms.specs.linear_forms.Forms.{Form, at}
use Rattle.poly_terms.specs.linear_forms.RuleQuestions.{opposite}
use Rattle.poly_terms.proofs.linear_forms.CombinationLaws.{length-sum}
use Rattle.poly_terms.specs.model.Programs.{Program, Rule, arity_of, rule_at}
use Rattle.poly_terms.specs.Views.{form_of}
use Rattle.its_model.specs.Valid.{IsValid}
use Rattle.lp_builder.specs.Descriptions.{IsWritable}
use Rattle.cert_types.specs.guard_prep.declared.rule_rows.RuleRows.{RuleRows}
use Rattle.cert_types.specs.guard_prep.Laws.{IsSmallForm}
use Rattle.cert_types.specs.guard_prep.Prepared.{Prepared, new_values_of, unknowns_of}
use Rattle.cert_types.proofs.guard_prep.SizeLaws.{rows-are-small}
use Rattle.cert_types.proofs.guard_prep.its_model.ValidLaws.{arities_agree}
use Rattle.rule_questions.specs.EmptyAnswers.{IsPrepared}
use Rattle.rule_questions.proofs.EmptyProblems.{rows-writable}
use Rattle.location_facts.specs.declared.fact.LocFact.{LocFact}
use Rattle.location_facts.specs.Candidates.{IsCandidate}
use Rattle.location_facts.specs.CombinedRows.{IsGoalSmall}
use Rattle.location_facts.specs.Rows.{value_before, value_after, row_before, row_after, facts_at}
use Rattle.location_facts.proofs.FactSizes.{fact-coef, fact-constant}

-- the value at a place has no coefficient past the places
place-width : (i n : ℕ) → i ≤ n → length (value_before i).coefs ≤ n
place-width zero n l = omega arith
place-width (suc i) n l =
    let e = length-append (replicate i (pos 0)) (pos 1 ∷ []) in
    let f = length-replicate i (pos 0) in omega (arith, l, e, f)

-- a negated form has as many coefficients
opposite-width : (f : Form) (n : ℕ) → length f.coefs ≤ n → length (opposite f).coefs ≤ n
opposite-width f n l = let e = length-map f.coefs (λ (a : ℤ). negsuc 0 *ℤ a) in omega (arith, l, e)

-- a fact about places up to n can be written as a row over at least n unknowns
fact-writable : (f : LocFact) (n : ℕ) → f.plus ≤ n → f.minus ≤ n → (negsuc 0 ≤ℤ f.least) × (f.least ≤ℤ pos 1)
    → IsWritable n (row_before f)
fact-writable f n l m leasts = record {
  fits = length-sum (value_before f.plus).coefs (opposite (value_before f.minus)).coefs n (place-width f.plus n l)
      (opposite-width (value_before f.minus) n (place-width f.minus n m));
  coefs = All-from_get_or (λ (a : ℤ). unsigned_abs a < 2 ^ 127) (row_before f).coefs (pos 0)
      (λ i k. narrow (unsigned_abs (at (row_before f).coefs i)) (fact-coef f i));
  constant = narrow (unsigned_abs (row_before f).constant) (fact-constant f leasts);
}
  where
    narrow : (k : ℕ) → k ≤ 2 → k < 2 ^ 127
    narrow k l = omega (arith, l)

-- a rule has at least as many unknowns as left variables
left-unknowns : (r : Rule) → r.left ≤ unknowns_of r
left-unknowns r = omega arith

-- the combined rows of a rule under candidate facts can be written
pub combined-writable : (p : Program) (t : ℕ) (r : Rule) (m : RuleRows) (is : IsPrepared m) (kept : List LocFact)
    → IsValid p → rule_at p t ≡ Some r → r ≡ is.rule → All (IsCandidate p) kept
    → All (IsWritable m.unknowns) (map form_of m.rows.items ++ map row_before (facts_at r.source kept))
combined-writable p t r m is kept valid there same tried =
    All-append (IsWritable m.unknowns) (map form_of m.rows.items) (map row_before (facts_at r.source kept)) own
    (All-map (IsWritable m.unknowns) row_before (facts_at r.source kept) facts)
  where
    left-here : r.left ≡ arity_of p r.source
    left-here = (arities_agree p valid).left t r there

    unknowns-are : m.unknowns ≡ unknowns_of r
    unknowns-are = ap (λ (q : Prepared). q.unknowns) is.same ∙ ap unknowns_of (sym same)

    within : (i s : ℕ) → s ≡ r.source → i ≤ min (arity_of p s) 8 → i ≤ m.unknowns
    within i s e l =
        let a = ap (arity_of p) e in
        omega (arith, l, a, left-here, left-unknowns r, unknowns-are)

    own : All (IsWritable m.unknowns) (map form_of m.rows.items)
    own = All-map (IsWritable m.unknowns) form_of m.rows.items (rows-writable m is)

    facts : All (λ f. IsWritable m.unknowns (row_before f)) (facts_at r.source kept)
    facts k d l =
        let c = All-filter (λ f. nat_eq f.symbol r.source) (IsCandidate p) kept tried k d l in
        let s = eqb-true _ r.source (filter_passes (λ f. nat_eq f.symbol r.source) kept k d l) in
        fact-writable (get_or (facts_at r.source kept) k d) m.unknowns (within _ _ s c.plus) (within _ _ s c.minus)
        (c.low, c.high)

module _ (m : RuleRows) (is : IsPrepared m) where
  widths : All (λ (h : Form). length h.coefs ≤ m.unknowns) (map form_of m.new_values.items)
  widths =
      subst (λ (fs : List Form). All (λ (h : Form). length h.coefs ≤ m.unknowns) fs)
      (sym (ap (λ (q : Prepared). q.new_values) is.same))
      (All-weaker (IsSmallForm (unknowns_of is.rule)) (λ (h : Form). length h.coefs ≤ m.unknowns)
      (λ h s. let w = s.width in let u = ap (λ (q : Prepared). q.unknowns) is.same in omega (arith, w, u))
      (new_values_of is.rule) (All-from_recursion (IsSmallForm (unknowns_of is.rule)) (new_values_of is.rule)
      (rows-are-small.new_values is.rule is.preparable)))

  in-list : (fs : List Form) (i : ℕ) → All (λ (h : Form). length h.coefs ≤ m.unknowns) fs
      → length (slice_index_or fs i zero_form).coefs ≤ m.unknowns
  in-list fs i h = go (cases_lt i (length fs))
    where
      go : (i < length fs) ⊎ (length fs ≤ i) → length (slice_index_or fs i zero_form).coefs ≤ m.unknowns
      go (inl l) = h i zero_form l
      go (inr l) =
          subst (λ (x : Form). length x.coefs ≤ m.unknowns) (sym (get_or_past fs i zero_form l)) (omega arith)

  new-width : (i : ℕ) → length (value_after (map form_of m.new_values.items) i).coefs ≤ m.unknowns
  new-width zero = omega arith
  new-width (suc i) = in-list (map form_of m.new_values.items) i widths

  -- the goal of a fact has no coefficient past the unknowns
  pub goal-fits-after : (f : LocFact) → length (row_after (map form_of m.new_values.items) f).coefs ≤ m.unknowns
  goal-fits-after f =
      length-sum (value_after (map form_of m.new_values.items) f.plus).coefs
      (opposite (value_after (map form_of m.new_values.items) f.minus)).coefs m.unknowns (new-width f.plus)
      (opposite-width (value_after (map form_of m.new_values.items) f.minus) m.unknowns (new-width f.minus))

  -- the goal of a fact can be written
  pub goal-writable-after : (f : LocFact) (g : Form) → g ≡ row_after (map form_of m.new_values.items) f → IsGoalSmall g
      → IsWritable m.unknowns g
  goal-writable-after f g e small = record {
    fits = subst (λ (h : Form). length h.coefs ≤ m.unknowns) (sym e) (goal-fits-after f);
    coefs = All-weaker (λ (a : ℤ). nat_abs a ≤ 2 ^ 65) (λ (a : ℤ). unsigned_abs a < 2 ^ 127)
        (λ a l. narrow (nat_abs a) l) g.coefs small.coefs;
    constant = narrow (nat_abs g.constant) small.constant;
  }
    where
      narrow : (k : ℕ) → k ≤ 2 ^ 65 → k < 2 ^ 127
      narrow k l = omega (arith, l)
