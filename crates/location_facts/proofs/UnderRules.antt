-- Rules under a list of facts, as they are read for a program.
use Rattle.std.proofs.Common.{◌≡◌, ℕ, zero, suc, ◌+◌, ◌-◌, ◌≤◌, ap, arith, refl, sym, ◌∙◌, subst}
use Rattle.std.proofs.Common.{List, ◌++◌, length, length-append, map, get_or, Option, Some, option_map}
use Rattle.std.specs.Prelude.{slice_get}
use Rattle.std.specs.List.{All}
use Rattle.std.proofs.lemmas.List.{length-map}
use Rattle.std.proofs.lemmas.Option.{slice_get-map}
use Rattle.poly_terms.specs.linear_forms.Forms.{Form}
use Rattle.poly_terms.specs.model.Programs as plain
use Rattle.poly_terms.specs.declared.poly.Row.{Row}
use Rattle.poly_terms.specs.Views.{form_of}
use Rattle.poly_terms.proofs.model.Cases.{slice_get-there}
use Rattle.its_model.specs.declared.program.Rule.{Rule}
use Rattle.its_model.specs.declared.program.Program.{Program}
use Rattle.its_model.specs.Valid.{IsValid}
use Rattle.its_model.specs.Views.{rule_of, program_of}
use Rattle.lp_builder.specs.Descriptions.{IsWritable}
use Rattle.cert_types.specs.Composing.{AreRowsOf}
use Rattle.cert_types.specs.guard_prep.declared.rule_rows.RuleRows.{RuleRows}
use Rattle.cert_types.specs.guard_prep.Prepared.{Prepared, prepared}
use Rattle.cert_types.specs.guard_prep.Views.{prepared_of}
use Rattle.cert_types.proofs.guard_prep.SizeLaws.{rows-are-small}
use Rattle.cert_types.proofs.guard_prep.StepLaws.{preparable}
use Rattle.rule_questions.specs.EmptyAnswers.{IsPrepared}
use Rattle.rule_questions.specs.ProgramQuestions.{forms_in, forms_at}
use Rattle.location_facts.specs.declared.fact.LocFact.{LocFact}
use Rattle.location_facts.specs.declared.implied.RuleUnderFacts.{RuleUnderFacts}
use Rattle.location_facts.specs.Implied.{DecidesEmpty, IsUnder, AreInOrder}
use Rattle.location_facts.specs.Rows.{row_before, facts_at, combined}
use Rattle.location_facts.proofs.CombinedLists.{prepared-at, prepared-many, is-prepared}
use Rattle.location_facts.proofs.Counting.{few-from}
use Rattle.location_facts.proofs.RoundSteps.{ascend-tried}
use Rattle.location_facts.proofs.ShownRules.{read}
use Rattle.location_facts.proofs.Writable.{combined-writable}

-- the combined rows of a rule under facts in order are at most 371
pub under-few : (p : plain.Program) (m : RuleRows) → IsPrepared m → (s : ℕ) (kept : List LocFact) → AreInOrder p kept
    → length (map form_of m.rows.items ++ map row_before (facts_at s kept)) ≤ 371
under-few p m is s kept ordered =
    sums (length (map form_of m.rows.items)) (length (map row_before (facts_at s kept)))
    (length (map form_of m.rows.items ++ map row_before (facts_at s kept)))
    (length-append (map form_of m.rows.items) (map row_before (facts_at s kept))) own facts
  where
    own : length (map form_of m.rows.items) ≤ 128
    own =
        subst (λ (fs : List Form). length fs ≤ 128) (sym (ap (λ (q : Prepared). q.rows) is.same))
        (rows-are-small.few_rows is.rule is.preparable)

    facts : length (map row_before (facts_at s kept)) ≤ 243
    facts =
        let n = length-map (facts_at s kept) row_before in
        let l = (few-from p s 0 kept ordered).0 in omega (arith, n, l)

    sums : (a b whole : ℕ) → whole ≡ a + b → a ≤ 128 → b ≤ 243 → whole ≤ 371
    sums a b whole e l h = omega (arith, e, l, h)

-- a rule whose rows were queried is under the list
pub is-under : (pivots : ℕ) (kept : List LocFact) (m : RuleRows) (r : plain.Rule) (u : RuleUnderFacts)
    → prepared_of m ≡ prepared r
    → map form_of u.rows.items ≡ map form_of m.rows.items ++ map row_before (facts_at r.source kept)
    → All (λ w. IsWritable m.unknowns (form_of w)) u.rows.items
    → length (map form_of m.rows.items ++ map row_before (facts_at r.source kept)) ≤ 371
    → DecidesEmpty pivots m.unknowns (map form_of u.rows.items) u.empty → IsUnder pivots (forms_in (Some r)) kept u
is-under pivots kept m r u same made writable few empty = record {
  rows = rows-are;
  writable = subst (λ (n : ℕ). All (λ (w : Row). IsWritable n (form_of w)) u.rows.items) unknowns-are writable;
  few =
      let n = length-map u.rows.items form_of in
      let k = ap (λ (fs : List Form). length fs) made in omega (arith, n, k, few);
  empty = subst (λ (fs : List Form). DecidesEmpty pivots (forms_in (Some r)).unknowns fs u.empty) rows-are
      (subst (λ (n : ℕ). DecidesEmpty pivots n (map form_of u.rows.items) u.empty) unknowns-are empty);
}
  where
    unknowns-are : m.unknowns ≡ (forms_in (Some r)).unknowns
    unknowns-are = ap (λ (q : Prepared). q.unknowns) same

    rows-are : map form_of u.rows.items ≡ combined (forms_in (Some r)) kept
    rows-are =
        made
        ∙ ap (λ (fs : List Form). fs ++ map row_before (facts_at r.source kept)) (ap (λ (q : Prepared). q.rows) same)

-- the prepared rule that is read
module _ (p : plain.Program) (prepared_rules : List RuleRows) (t : ℕ) (m : RuleRows) (valid : IsValid p)
    (are : AreRowsOf prepared_rules p)
    (within : (1 ≤ t) × (t ≤ length p.rules)) (at-m : m ≡ get_or prepared_rules (t - 1) m) where
  pub prepared_rule-read : IsPrepared m
  prepared_rule-read =
      is-prepared p prepared_rules (t - 1) m valid are
      (read prepared_rules (t - 1) m
      (let n = prepared-many p prepared_rules are in let l = within.0 in let h = within.1 in
      omega (arith, l, h, n)) at-m)

-- its unknowns and new values are those of the rule
pub forms-read : (p : plain.Program) (prepared_rules : List RuleRows) (t : ℕ) (m : RuleRows)
    → AreRowsOf prepared_rules p
    → (1 ≤ t) × (t ≤ length p.rules) → m ≡ get_or prepared_rules (t - 1) m
    → (m.unknowns ≡ (forms_at p t).unknowns) × (map form_of m.new_values.items ≡ (forms_at p t).new_values)
forms-read p prepared_rules zero m are (l, h) e = absurd (omega (arith, l))
forms-read p prepared_rules (suc i) m are (l, h) e =
    let (r, there) = slice_get-there p.rules i (omega (arith, h)) in
    let less : suc i - 1 ≡ i = omega arith in
    let at-m : slice_get prepared_rules i ≡ Some m = read prepared_rules i m
    (let n = prepared-many p prepared_rules are in omega (arith, h, n))
    (e ∙ ap (λ (k : ℕ). get_or prepared_rules k m) less) in
    let same = prepared-at p prepared_rules i m r are at-m there in (
      ap (λ (q : Prepared). q.unknowns) same ∙ ap (λ (o : Option plain.Rule). (forms_in o).unknowns) (sym there),
      ap (λ (q : Prepared). q.new_values) same ∙ ap (λ (o : Option plain.Rule). (forms_in o).new_values) (sym there),
    )

-- the rule of the code at a position is the program's
pub rule-here : (p : Program) (i : ℕ) (r : Rule) → slice_get p.rules.items i ≡ Some r
    → slice_get (program_of p).rules i ≡ Some (rule_of r)
rule-here p i r e = slice_get-map rule_of p.rules.items i ∙ ap (λ (o : Option Rule). option_map rule_of o) e

-- the prepared rule at a position is that of the rule there
pub prepared-here : (p : plain.Program) (prepared_rules : List RuleRows) (i : ℕ) (m : RuleRows) (r : plain.Rule)
    → IsValid p
    → AreRowsOf prepared_rules p → slice_get prepared_rules i ≡ Some m → slice_get p.rules i ≡ Some r → IsPrepared m
prepared-here p prepared_rules i m r valid rows e there = record {
  rule = r;
  preparable = preparable p (suc i) r valid there;
  same = prepared-at p prepared_rules i m r rows e there;
}

-- its combined rows under facts in order can be written
pub writable-here : (p : plain.Program) (prepared_rules : List RuleRows) (i : ℕ) (m : RuleRows) (r : plain.Rule)
    (kept : List LocFact) → IsValid p → AreRowsOf prepared_rules p → slice_get prepared_rules i ≡ Some m
    → slice_get p.rules i ≡ Some r
    → AreInOrder p kept
    → All (IsWritable m.unknowns) (map form_of m.rows.items ++ map row_before (facts_at r.source kept))
unfolding prepared-here
writable-here p prepared_rules i m r kept valid rows e there ordered =
    combined-writable p (suc i) r m (prepared-here p prepared_rules i m r valid rows e there) kept valid there refl
    (ascend-tried p 0 kept ordered)
