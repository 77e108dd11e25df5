-- What the code prepares for a rule, its rows and new values, is what the definition of its proofs speaks of.
use Rattle.std.proofs.Common.{◌≡◌, ℕ, zero, suc, ◌-◌, ◌<◌, ◌≤◌, ap, arith, refl, sym, ◌∙◌, subst, List, length, map}
use Rattle.std.proofs.Common.{get_or, Option, Some}
use Rattle.std.specs.Prelude.{slice_get, Vec}
use Rattle.std.specs.declared.alloc.Global.{Global}
use Rattle.std.specs.List.{All, range_with_len}
use Rattle.std.proofs.lemmas.Grind.{get_or_default_zero}
use Rattle.std.proofs.lemmas.List.{length-map}
use Rattle.std.proofs.lemmas.List.Elements.{All-filter}
use Rattle.std.proofs.lemmas.List.FromFn.{get_or-range_with_len, length-range_with_len}
use Rattle.std.proofs.lemmas.Option.{slice_get_read}
use Rattle.poly_terms.specs.linear_forms.Forms.{Form}
use Rattle.poly_terms.specs.model.Programs as plain
use Rattle.poly_terms.specs.model.Paths.{target_of, same_symbol}
use Rattle.poly_terms.specs.declared.poly.Row.{Row}
use Rattle.poly_terms.specs.Views.{form_of}
use Rattle.poly_terms.proofs.model.Cases.{slice_get-there}
use Rattle.its_model.specs.declared.program.Program.{Program}
use Rattle.its_model.specs.Valid.{IsValid}
use Rattle.its_model.specs.Views.{rule_of, program_of}
use Rattle.farkas_cert.specs.Sizes.{AreSmall}
use Rattle.cert_types.specs.Composing.{AreRowsOf}
use Rattle.cert_types.specs.guard_prep.declared.rule_rows.RuleRows.{RuleRows}
use Rattle.cert_types.specs.guard_prep.Prepared.{Prepared}
use Rattle.rule_questions.specs.ProgramQuestions.{forms_in, forms_at}
use Rattle.rule_questions.specs.SmallForms.{IsSmall}
use Rattle.rule_questions.proofs.NewValues.{new_values-small}
use Rattle.location_facts.specs.declared.fact.LocFact.{LocFact}
use Rattle.location_facts.specs.declared.fact.FactProof.{FactProof}
use Rattle.location_facts.specs.Certificates.{Shows}
use Rattle.location_facts.specs.CombinedRows.{AreCombined}
use Rattle.location_facts.specs.Faults.{rules_into, IsProofFor, ShowsFact}
use Rattle.location_facts.specs.Rows.{row_after, combined}
use Rattle.location_facts.proofs.CombinedLists.{prepared-at, prepared-many, is-prepared, combined-at}

-- there are as many rules as in the code
pub rule-count : (p : Program) → length (program_of p).rules ≡ length p.rules.items
rule-count p = length-map p.rules.items rule_of

-- an element that is read is in the list
pub read : {X : Type 0} (xs : List X) (i : ℕ) (x : X) → i < length xs → x ≡ get_or xs i x → slice_get xs i ≡ Some x
read xs i x l e = slice_get_read xs (length xs) i x refl l e

-- a number that is read is in the list
pub number-read : (xs : List ℕ) (i : ℕ) → i < length xs → get_or xs i 0 ≡ get_or xs i (get_or xs i 0)
number-read xs i l = sym (get_or_default_zero xs i (get_or xs i 0) l)

-- the rules into a symbol are rules of the program
into-rules : (p : plain.Program) (s : ℕ) → All (λ t. (1 ≤ t) × (t ≤ length p.rules)) (rules_into p s)
into-rules p s =
    All-filter (λ t. same_symbol (target_of p t) (Some s)) (λ t. (1 ≤ t) × (t ≤ length p.rules))
    (range_with_len 1 (length p.rules)) all
  where
    size : length (range_with_len 1 (length p.rules)) ≡ length p.rules
    size = length-range_with_len 1 (length p.rules)

    all : All (λ t. (1 ≤ t) × (t ≤ length p.rules)) (range_with_len 1 (length p.rules))
    all k d l =
        let e = get_or-range_with_len 1 (length p.rules) k d (omega (arith, l, size)) in
        (omega (arith, e), omega (arith, e, l, size))

-- a rule into a symbol that is read is a rule of the program
pub into-rule : (p : plain.Program) (s k t : ℕ) (into : List ℕ) → into ≡ rules_into p s → k < length into
    → t ≡ get_or into k t → (1 ≤ t) × (t ≤ length p.rules)
into-rule p s k t into e l g =
    subst (λ (u : ℕ). (1 ≤ u) × (u ≤ length p.rules)) (sym g)
    (subst (All (λ (u : ℕ). (1 ≤ u) × (u ≤ length p.rules))) (sym e) (into-rules p s) k t l)

-- the prepared rule has small new values
pub new_values-read : (p : plain.Program) (prepared_rules : List RuleRows) (t : ℕ) (m : RuleRows)
    (new_values : List Row) → IsValid p
    → AreRowsOf prepared_rules p → (1 ≤ t) × (t ≤ length p.rules) → m ≡ get_or prepared_rules (t - 1) m
    → new_values ≡ m.new_values.items
    → All (λ r. IsSmall (form_of r)) new_values
new_values-read p prepared_rules t m new_values valid rows (l, h) e g =
    subst (All (λ (r : Row). IsSmall (form_of r))) (sym g)
    (new_values-small m (is-prepared p prepared_rules (t - 1) m valid rows
    (read prepared_rules (t - 1) m (let n = prepared-many p prepared_rules rows in omega (arith, l, h, n)) e)))

-- the rows and the goal that are read for a rule are its combined rows and the fact at its new values
rows-read : (p : plain.Program) (prepared_rules : List RuleRows) (kept : List LocFact) (rows : List (Vec Row Global))
    (t : ℕ)
    (m : RuleRows) (v : Vec Row Global) → (1 ≤ t) × (t ≤ length p.rules) → length rows ≡ length p.rules
    → AreRowsOf prepared_rules p → AreCombined p kept rows → m ≡ get_or prepared_rules (t - 1) m
    → v ≡ get_or rows (t - 1) v
    → (map form_of v.items ≡ combined (forms_at p t) kept)
    × (map form_of m.new_values.items ≡ (forms_at p t).new_values)
rows-read p prepared_rules kept rows zero m v (l, h) many are combine e g = absurd (omega (arith, l))
rows-read p prepared_rules kept rows (suc i) m v (l, h) many are combine e g =
    let (r, there) = slice_get-there p.rules i (omega (arith, h)) in
    let less : suc i - 1 ≡ i = omega arith in
    let at-m : slice_get prepared_rules i ≡ Some m = read prepared_rules i m
    (let n = prepared-many p prepared_rules are in omega (arith, h, n))
    (e ∙ ap (λ (k : ℕ). get_or prepared_rules k m) less) in
    let at-v : slice_get rows i ≡ Some v = read rows i v (omega (arith, h, many))
    (g ∙ ap (λ (k : ℕ). get_or rows k v) less) in (
      combined-at p kept rows i v r combine at-v there
          ∙ ap (λ (o : Option plain.Rule). combined (forms_in o) kept) (sym there),
      ap (λ (q : Prepared). q.new_values) (prepared-at p prepared_rules i m r are at-m there)
          ∙ ap (λ (o : Option plain.Rule). (forms_in o).new_values) (sym there),
    )

-- what a proof shows over these rows it shows for the rule, and conversely
module _ (p : plain.Program) (prepared_rules : List RuleRows) (kept : List LocFact) (rows : List (Vec Row Global))
    (t : ℕ)
    (m : RuleRows) (v : Vec Row Global) (fact : LocFact) (proof : FactProof) (own new_values : List Row) (goal : Form)
    (within : (1 ≤ t) × (t ≤ length p.rules)) (many : length rows ≡ length p.rules) (are : AreRowsOf prepared_rules p)
    (combine : AreCombined p kept rows) (at-m : m ≡ get_or prepared_rules (t - 1) m) (at-v : v ≡ get_or rows (t - 1) v)
    (own-is : own ≡ v.items) (new_values-is : new_values ≡ m.new_values.items)
    (goal-is : goal ≡ row_after (map form_of new_values) fact) where
  both : (map form_of v.items ≡ combined (forms_at p t) kept)
      × (map form_of m.new_values.items ≡ (forms_at p t).new_values)
  both = rows-read p prepared_rules kept rows t m v within many are combine at-m at-v

  own-rows : map form_of own ≡ combined (forms_at p t) kept
  own-rows = ap (λ (rs : List Row). map form_of rs) own-is ∙ both.0

  own-goal : goal ≡ row_after (forms_at p t).new_values fact
  own-goal =
      goal-is
      ∙ ap (λ (fs : List Form). row_after fs fact) (ap (λ (rs : List Row). map form_of rs) new_values-is ∙ both.1)

  pub shown-there : Shows (map form_of own) goal proof → ShowsFact p kept fact t proof
  shown-there s =
      subst (λ (fs : List Form). Shows fs (row_after (forms_at p t).new_values fact) proof) own-rows
      (subst (λ (g : Form). Shows (map form_of own) g proof) own-goal s)

  pub shown-here : ShowsFact p kept fact t proof → Shows (map form_of own) goal proof
  shown-here s =
      subst (λ (g : Form). Shows (map form_of own) g proof) (sym own-goal)
      (subst (λ (fs : List Form). Shows fs (row_after (forms_at p t).new_values fact) proof) (sym own-rows) s)

-- a proof that is read is the one of the rule that is read
pub proof-read : (p : plain.Program) (fact : LocFact) (ps : List FactProof) (k t : ℕ) (proof : FactProof)
    (into : List ℕ) → into ≡ rules_into p fact.symbol → length ps ≡ length (rules_into p fact.symbol)
    → k < length into → t ≡ get_or into k t → proof ≡ get_or ps k proof → IsProofFor p fact ps k t proof
proof-read p fact ps k t proof into e one_each l g h = record {
  rule = subst (λ (ts : List ℕ). slice_get ts k ≡ Some t) e (read into k t l g);
  listed = read ps k proof (omega (arith, l, one_each, ap (λ (ts : List ℕ). length ts) e)) h;
}

-- rows that are read are small
pub small-read : (rows : List (Vec Row Global)) (k : ℕ) (v : Vec Row Global) (own : List Row) → k < length rows
    → All (λ w. AreSmall (map form_of w.items)) rows → v ≡ get_or rows k v → own ≡ v.items
    → AreSmall (map form_of own)
small-read rows k v own l small e g =
    subst (λ (rs : List Row). AreSmall (map form_of rs)) (sym g)
    (subst (λ (w : Vec Row Global). AreSmall (map form_of w.items)) (sym e) (small k v l))
