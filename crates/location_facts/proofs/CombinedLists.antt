-- The combined rows of all rules, one after the other; they are small.
use Rattle.std.proofs.Common.{◌≡◌, ℕ, suc, ◌+◌, ◌<◌, ◌≤◌, ap, arith, sym, ◌∙◌, subst, List, [], ◌∷◌, ◌++◌}
use Rattle.std.proofs.Common.{map, take, length, get_or, Option, Some, option_map}
use Rattle.std.specs.Prelude.{ℤ, slice_get, Vec, negsuc, pos, ◌≤ℤ◌, nat_abs, unsigned_abs}
use Rattle.std.specs.declared.alloc.Global.{Global}
use Rattle.std.specs.List.{All}
use Rattle.std.proofs.lemmas.List.{take_more, length-map, map-append}
use Rattle.std.proofs.lemmas.List.Elements.{All-weaker, All-from_recursion}
use Rattle.std.proofs.lemmas.Option.{slice_get-map, slice_get_within, get_or_from_slice_get, slice_get-get_or}
use Rattle.poly_terms.specs.linear_forms.Forms.{Form}
use Rattle.poly_terms.specs.model.Limits.{coefficient_limit}
use Rattle.poly_terms.specs.model.Programs as plain
use Rattle.poly_terms.specs.declared.poly.Row.{Row}
use Rattle.poly_terms.specs.Views.{form_of}
use Rattle.poly_terms.proofs.model.Cases.{some_same, slice_get-there}
use Rattle.its_model.specs.declared.program.Rule.{Rule}
use Rattle.its_model.specs.declared.program.Program.{Program}
use Rattle.its_model.specs.Valid.{IsValid}
use Rattle.its_model.specs.Views.{rule_of, program_of}
use Rattle.farkas_cert.specs.Sizes.{AreSmall, HasRowNumbers, row_limit}
use Rattle.cert_types.specs.Composing.{AreRowsOf}
use Rattle.cert_types.specs.guard_prep.declared.rule_rows.RuleRows.{RuleRows}
use Rattle.cert_types.specs.guard_prep.Laws.{IsSmallForm}
use Rattle.cert_types.specs.guard_prep.Prepared.{Prepared, prepared, rows_of, unknowns_of}
use Rattle.cert_types.specs.guard_prep.Views.{prepared_of}
use Rattle.cert_types.proofs.guard_prep.SizeLaws.{rows-are-small}
use Rattle.cert_types.proofs.guard_prep.StepLaws.{preparable}
use Rattle.rule_questions.specs.EmptyAnswers.{IsPrepared}
use Rattle.rule_questions.specs.ProgramQuestions.{forms_in}
use Rattle.location_facts.specs.declared.fact.LocFact.{LocFact}
use Rattle.location_facts.specs.declared.fact.FactProof.{FactProof}
use Rattle.location_facts.specs.CombinedRows.{forms_of_rows, AreCombined}
use Rattle.location_facts.specs.Faults.{AreRight}
use Rattle.location_facts.specs.Rows.{row_before, facts_at, combined}
use Rattle.location_facts.proofs.Counting.{few-facts}
use Rattle.location_facts.proofs.FactSizes.{combined-small}

-- the prepared rule at a position is that of the rule there
pub prepared-at : (p : plain.Program) (prepared_rules : List RuleRows) (i : ℕ) (m : RuleRows) (r : plain.Rule)
    → AreRowsOf prepared_rules p
    → slice_get prepared_rules i ≡ Some m → slice_get p.rules i ≡ Some r → prepared_of m ≡ prepared r
prepared-at p prepared_rules i m r rows e f =
    some_same (prepared_of m) (prepared r)
    (sym (slice_get-map prepared_of prepared_rules i ∙ ap (λ (o : Option RuleRows). option_map prepared_of o) e)
    ∙ (ap (λ (ms : List Prepared). slice_get ms i) rows
    ∙ (slice_get-map prepared p.rules i ∙ ap (λ (o : Option plain.Rule). option_map prepared o) f)))

-- there are as many prepared rules as rules
pub prepared-many : (p : plain.Program) (prepared_rules : List RuleRows) → AreRowsOf prepared_rules p
    → length prepared_rules ≡ length p.rules
prepared-many p prepared_rules rows =
    sym (length-map prepared_rules prepared_of)
    ∙ (ap (λ (ms : List Prepared). length ms) rows ∙ length-map p.rules prepared)

-- each prepared rule is that of a preparable rule
pub is-prepared : (p : plain.Program) (prepared_rules : List RuleRows) (i : ℕ) (m : RuleRows) → IsValid p
    → AreRowsOf prepared_rules p
    → slice_get prepared_rules i ≡ Some m → IsPrepared m
is-prepared p prepared_rules i m valid rows e =
    let (r, there) = slice_get-there p.rules i
    (let l = slice_get_within prepared_rules i m e in let n = prepared-many p prepared_rules rows in
    omega (arith, l, n)) in
    record {
      rule = r;
      preparable = preparable p (suc i) r valid there;
      same = prepared-at p prepared_rules i m r rows e there;
    }

-- the combined rows of a rule
abbrev rows_by : List LocFact → plain.Rule → List Form
rows_by kept q = combined (forms_in (Some q)) kept

-- after the combined rows of one more rule
pub combined-pushed : (p : Program) (prepared_rules : List RuleRows) (kept : List LocFact) (i : ℕ) (m : RuleRows)
    (r : Rule)
    (old new : List (Vec Row Global)) (v : Vec Row Global) → AreRowsOf prepared_rules (program_of p)
    → slice_get prepared_rules i ≡ Some m → slice_get p.rules.items i ≡ Some r
    → map forms_of_rows old ≡ map (λ q. combined (forms_in (Some q)) kept) (take i (program_of p).rules)
    → new ≡ old ++ v ∷ []
    → map form_of v.items ≡ map form_of m.rows.items ++ map row_before (facts_at r.source kept)
    → map forms_of_rows new ≡ map (λ q. combined (forms_in (Some q)) kept) (take (i + 1) (program_of p).rules)
combined-pushed p prepared_rules kept i m r old new v rows e f g h made =
    ap (map forms_of_rows) h
    ∙ (map-append forms_of_rows old (v ∷ [])
    ∙ (ap (λ (xs : List (List Form)). xs ++ forms_of_rows v ∷ []) g
    ∙ (ap (λ (x : List Form). map (rows_by kept) (take i (program_of p).rules) ++ x ∷ []) last
    ∙ (sym (map-append (rows_by kept) (take i (program_of p).rules) (rule_of r ∷ []))
    ∙ ap (map (rows_by kept)) (ap (λ (x : plain.Rule). take i (program_of p).rules ++ x ∷ []) (sym here)
    ∙ sym (take_more (program_of p).rules i (rule_of r)
    (slice_get_within (program_of p).rules i (rule_of r) there)))))))
  where
    there : slice_get (program_of p).rules i ≡ Some (rule_of r)
    there = slice_get-map rule_of p.rules.items i ∙ ap (λ (o : Option Rule). option_map rule_of o) f

    here : get_or (program_of p).rules i (rule_of r) ≡ rule_of r
    here = get_or_from_slice_get (program_of p).rules i (rule_of r) (rule_of r) there

    last : forms_of_rows v ≡ rows_by kept (rule_of r)
    last =
        made
        ∙ ap (λ (fs : List Form). fs ++ map row_before (facts_at r.source kept))
        (ap (λ (q : Prepared). q.rows) (prepared-at (program_of p) prepared_rules i m (rule_of r) rows e there))

-- the rows at a position are the combined rows of the rule there
pub combined-at : (p : plain.Program) (kept : List LocFact) (rows : List (Vec Row Global)) (i : ℕ) (v : Vec Row Global)
    (r : plain.Rule) → AreCombined p kept rows → slice_get rows i ≡ Some v → slice_get p.rules i ≡ Some r
    → map form_of v.items ≡ combined (forms_in (Some r)) kept
combined-at p kept rows i v r are e f =
    some_same (forms_of_rows v) (combined (forms_in (Some r)) kept)
    (sym (slice_get-map forms_of_rows rows i
    ∙ ap (λ (o : Option (Vec Row Global)). option_map forms_of_rows o) e)
    ∙ (ap (λ (fs : List (List Form)). slice_get fs i) are
    ∙ (slice_get-map (λ (q : plain.Rule). combined (forms_in (Some q)) kept) p.rules i
    ∙ ap (λ (o : Option plain.Rule). option_map (λ (q : plain.Rule). combined (forms_in (Some q)) kept) o) f)))

-- there are as many lists of rows as rules
pub combined-many : (p : plain.Program) (kept : List LocFact) (rows : List (Vec Row Global)) → AreCombined p kept rows
    → length rows ≡ length p.rules
combined-many p kept rows are =
    sym (length-map rows forms_of_rows)
    ∙ (ap (λ (fs : List (List Form)). length fs) are
    ∙ length-map p.rules (λ (q : plain.Rule). combined (forms_in (Some q)) kept))

-- a row of a rule has numbers below 2^63
row-numbers : (n : ℕ) (f : Form) → IsSmallForm n f → HasRowNumbers f
row-numbers n f s = record {
  coefs = All-weaker (λ (a : ℤ). nat_abs a ≤ coefficient_limit) (λ (a : ℤ). unsigned_abs a < row_limit)
      (λ a l. narrow (nat_abs a) l) f.coefs
      (All-from_recursion (λ (a : ℤ). nat_abs a ≤ coefficient_limit) f.coefs s.coefs);
  constant = narrow (nat_abs f.constant) s.constant;
}
  where
    narrow : (k : ℕ) → k ≤ coefficient_limit → k < row_limit
    narrow k l = omega (arith, l)

-- under right facts, the combined rows of all rules are small
module _ (p : plain.Program) (valid : IsValid p) (kept : List LocFact) (proofs : List (List FactProof))
    (one_each : length proofs ≡ length kept) (right : AreRight p kept proofs (length kept)) where
  -- the least of each fact is from -1 to 1
  leasts-small : All (λ f. (negsuc 0 ≤ℤ f.least) × (f.least ≤ℤ pos 1)) kept
  leasts-small k d l =
      let (ps, there) = slice_get-there proofs k (omega (arith, l, one_each)) in
      let c = (right k (get_or kept k d) ps l
      (record { fact = slice_get-get_or kept k d l; listed = there })).candidate in
      (c.low, c.high)

  pub rows-small : (rows : List (Vec Row Global)) → AreCombined p kept rows
      → All (λ v. AreSmall (map form_of v.items)) rows
  rows-small rows are k d l =
      let (r, there) = slice_get-there p.rules k (let n = combined-many p kept rows are in omega (arith, l, n)) in
      let able = preparable p (suc k) r valid there in
      subst AreSmall (sym (combined-at p kept rows k (get_or rows k d) r are (slice_get-get_or rows k d l) there))
      (combined-small (rows_of r) r.source kept (rows-are-small.few_rows r able)
      (All-weaker (IsSmallForm (unknowns_of r)) HasRowNumbers (λ f s. row-numbers (unknowns_of r) f s) (rows_of r)
      (All-from_recursion (IsSmallForm (unknowns_of r)) (rows_of r) (rows-are-small.rows r able)))
      leasts-small (few-facts p kept proofs one_each right r.source))
