-- A set of rules of a valid program is a set as questions need it, and its symbols are those of acceptance.
use Rattle.std.proofs.Common.{◌≡◌, ℕ, zero, suc, ◌+◌, ◌<◌, ◌≤◌, ap, arith, refl, sym, ◌∙◌, subst, Bool, true, false, ◌||◌}
use Rattle.std.proofs.Common.{◌≢◌, ◌⊎◌, inl, inr, List, [], ◌∷◌, length, if◌then◌else◌, Option, Some, None, nat_eq}
use Rattle.std.specs.Prelude.{◌==◌, slice_index_or}
use Rattle.std.specs.List.{All, AllByRecursion, list_any, range_with_len}
use Rattle.std.proofs.lemmas.Bool.{eqb-true, true≢false}
use Rattle.std.proofs.lemmas.Bool.Decides.{eqb_tells}
use Rattle.std.proofs.lemmas.List.Elements.{All-weaker, All-head, All-tail, All-from_recursion, filter_agree}
use Rattle.guard_prep.specs.model.Polynomials.{Polynomial}
use Rattle.guard_prep.specs.model.Programs.{Program, Rule, rule_at}
use Rattle.guard_prep.specs.model.Paths.{source_in, source_of, target_in, target_of, same_symbol}
use Rattle.guard_prep.specs.model.Entries.{is_in}
use Rattle.guard_prep.specs.linear_forms.Forms.{Form}
use Rattle.guard_prep.specs.linear_forms.RuleQuestions.{has_symbol, symbols_of_set}
use Rattle.guard_prep.specs.linear_forms.RuleQuestionLaws.{IsRuleShaped}
use Rattle.guard_prep.specs.poly_terms.Expanding.{expanded, variable_form}
use Rattle.guard_prep.specs.poly_terms.AffineForms.{linear_form}
use Rattle.guard_prep.specs.its_model.Valid.{IsValid}
use Rattle.guard_prep.specs.Prepared.{is_nonlinear, new_values_from, unknowns_of, prepared, polys_of, rows_of, new_values_of}
use Rattle.guard_prep.specs.Laws.{IsPreparable, IsSmallForm}
use Rattle.guard_prep.proofs.SizeLaws.{rows-are-small}
use Rattle.guard_prep.proofs.StepLaws.{valid-at, preparable}
use Rattle.cert_rules.specs.rule_forms.RankLaws.{IsRuleOf, IsSetOf}
use Rattle.cert_rules.proofs.rule_forms.linear_forms.SolutionLaws.{length-map}
use Rattle.cert_rules.specs.AcceptsPlain.{IsRule}
use Rattle.cert_rules.specs.GapChecks.{GapHolds}
use Rattle.cert_rules.specs.Gaps.{SymbolPlace, Gap}
use Rattle.cert_rules.specs.Graph.{touches, symbols_of}
use Rattle.cert_rules.specs.rule_forms.Ranking.{NoRank}
use Rattle.cert_rules.proofs.CheckLists.{in-each}
use Rattle.cert_rules.proofs.GapExclusion.{gap-excludes}
use Rattle.cert_program.specs.RankedSets.{forms_of, forms_in, forms_at, ranked_set}

-- the forms of a rule have no coefficients past its unknowns
pub prepared-shaped : (a b : ℕ) (r : Rule) → IsPreparable r → IsRuleShaped (forms_of a b (prepared r))
prepared-shaped a b r h = record {
  left_fits = (let e : r.left ≤ unknowns_of r = omega arith in e);
  rows_fit = fits (rows_of r) (rows-are-small.rows r h);
  new_values_fit = fits (new_values_of r) (rows-are-small.new_values r h);
}
  where
    fits : (fs : List Form) → AllByRecursion (IsSmallForm (unknowns_of r)) fs → All
        (λ f. length f.coefs ≤ unknowns_of r) fs
    fits fs s =
        All-weaker (IsSmallForm (unknowns_of r)) (λ f. length f.coefs ≤ unknowns_of r)
        (λ f i. let e = i.width in omega (arith, e)) fs (All-from_recursion (IsSmallForm (unknowns_of r)) fs s)

-- there are as many new values as updates
length-new_values : (width k : ℕ) (ps : List Polynomial) → length (new_values_from width k ps) ≡ length ps
length-new_values width k [] = refl
length-new_values width k (p ∷ ps) = go (is_nonlinear p) (length-new_values width (suc k) ps) (length-new_values width k ps)
  where
    go : (b : Bool) → length (new_values_from width (suc k) ps) ≡ length ps → length (new_values_from width k ps) ≡ length ps
        → length (if b then linear_form width (variable_form k) ∷ new_values_from width (suc k) ps
        else linear_form width p ∷ new_values_from width k ps) ≡ suc (length ps)
    go true e f = ap (λ (n : ℕ). suc n) e
    go false e f = ap (λ (n : ℕ). suc n) f

-- a number in a list is at some index of it
pub standing : (x : ℕ) (xs : List ℕ) → is_in x xs ≡ true → (i : ℕ) × (i < length xs) × (slice_index_or xs i 0 ≡ x)
standing x [] h = absurd (true≢false (sym h))
standing x (y ∷ ys) h = go (x == y) refl h (λ g. standing x ys g)
  where
    go : (b : Bool) → (x == y) ≡ b → (b || is_in x ys) ≡ true
        → (is_in x ys ≡ true → (i : ℕ) × (i < length ys) × (slice_index_or ys i 0 ≡ x))
        → (i : ℕ) × (i < length (y ∷ ys)) × (slice_index_or (y ∷ ys) i 0 ≡ x)
    go true e g later = (0, omega arith, sym (eqb-true x y e))
    go false e g later = let r = later g in (suc r.0, omega (arith, r.1), r.2)

-- a property of each number of a list is one of a member
pub in-all : (P : ℕ → Type 0) (x : ℕ) (xs : List ℕ) → All P xs → is_in x xs ≡ true → P x
in-all P x xs h i = let r = standing x xs i in subst P r.2 (h r.0 0 r.1)

module _ (p : Program) (set : List ℕ) (strict : ℕ) (shut : List SymbolPlace) where
  -- a rule of a valid program has the properties that questions need of a rule
  pub rule-of : (t : ℕ) (r : Rule) → IsValid p → rule_at p t ≡ Some r
      → IsRuleOf (ranked_set p set strict shut) (forms_of r.source r.target (prepared r))
  rule-of t r v e =
      let h = valid-at p t r v e in
      let s = prepared-shaped r.source r.target r (preparable p t r v e) in record {
        source = h.source;
        target = h.target;
        left = h.left;
        unknowns = s.left_fits;
        values = length-new_values (unknowns_of r) (r.left + r.free) (polys_of r) ∙
            (length-map expanded r.updates ∙ h.places);
        rows_fit = s.rows_fit;
        new_values_fit = s.new_values_fit;
      }

  -- a rule of a valid program leads between symbols, and has forms that fit their places
  pub rule-in : (t : ℕ) → IsValid p → IsRule p t
      → IsRuleOf (ranked_set p set strict shut) (forms_in (rule_at p t))
  rule-in t v i =
      subst (λ (o : Option Rule). IsRuleOf (ranked_set p set strict shut) (forms_in o)) (sym i.numbered)
      (rule-of t i.rule v i.numbered)

  -- a ranked set of rules has the properties that questions need of a set
  pub set-is : IsValid p → All (IsRule p) set → is_in strict set ≡ true → IsSetOf (ranked_set p set strict shut)
  set-is v rules inside =
      let at = standing strict set inside in record {
        rules = All-weaker (IsRule p) (λ t. IsRuleOf (ranked_set p set strict shut) (forms_in (rule_at p t)))
            (λ t i. rule-in t v i) set rules;
        inside = at.0;
        at_inside = at.1;
        strict = at.2;
      }

  -- a symbol is a source or target of the set's rules if a rule of the set leaves it or leads to it
  has-touches : (xs : List ℕ) → All (IsRule p) xs → (a : ℕ)
      → list_any (λ t. nat_eq (forms_in (rule_at p t)).source a || nat_eq (forms_in (rule_at p t)).target a) xs
      ≡ touches p xs a
  has-touches [] h a = refl
  has-touches (t ∷ xs) h a =
      both _ _ _ _ (one t (All-head (IsRule p) t xs h)) (has-touches xs (All-tail (IsRule p) t xs h) a)
    where
      both : (x y z w : Bool) → x ≡ y → z ≡ w → (x || z) ≡ (y || w)
      both x y z w e f = ap (λ (b : Bool). b || z) e ∙ ap (λ (b : Bool). y || b) f

      swapped : (x y : ℕ) → nat_eq x y ≡ nat_eq y x
      swapped x y = go (eqb_tells x y) (eqb_tells y x)
        where
          go : ((nat_eq x y ≡ true) × (x ≡ y)) ⊎ ((nat_eq x y ≡ false) × (x ≢ y))
              → ((nat_eq y x ≡ true) × (y ≡ x)) ⊎ ((nat_eq y x ≡ false) × (y ≢ x)) → nat_eq x y ≡ nat_eq y x
          go (inl e) (inl f) = e.0 ∙ sym f.0
          go (inl e) (inr f) = absurd (f.1 (sym e.1))
          go (inr e) (inl f) = absurd (e.1 (sym f.1))
          go (inr e) (inr f) = e.0 ∙ sym f.0

      led : (u : ℕ) → IsRule p u → target_of p u ≡ target_in (rule_at p u)
      led zero i = absurd (none i.numbered)
        where
          none : {r : Rule} → None ≡ Some r → ⊥
          none e = cc
      led (suc u) i = refl

      one : (u : ℕ) → IsRule p u
          → (nat_eq (forms_in (rule_at p u)).source a || nat_eq (forms_in (rule_at p u)).target a)
          ≡ (same_symbol (Some a) (source_of p u) || same_symbol (Some a) (target_of p u))
      one u i =
          subst (λ (o : Option ℕ).
          (nat_eq (forms_in (rule_at p u)).source a || nat_eq (forms_in (rule_at p u)).target a)
          ≡ (same_symbol (Some a) (source_of p u) || same_symbol (Some a) o)) (sym (led u i))
          (subst (λ (o : Option Rule). (nat_eq (forms_in o).source a || nat_eq (forms_in o).target a)
          ≡ (same_symbol (Some a) (source_in o) || same_symbol (Some a) (target_in o))) (sym i.numbered)
          (both _ _ _ _ (swapped i.rule.source a) (swapped i.rule.target a)))

  -- the symbols of the set are those of acceptance
  pub symbols-same : All (IsRule p) set → symbols_of_set (ranked_set p set strict shut) ≡ symbols_of p set
  symbols-same h =
      filter_agree (has_symbol (ranked_set p set strict shut)) (touches p set) (has-touches set h)
      (range_with_len 0 (length p.symbols))

-- a gap that holds for a valid program excludes every function for its own set, strict rule and shut places
pub gap-excludes_all : (p : Program) → IsValid p → (g : Gap) → GapHolds p (forms_at p) g
    → NoRank (ranked_set p g.set g.rule g.shut)
gap-excludes_all p v g h =
    gap-excludes p (ranked_set p g.set g.rule g.shut) g
    (set-is p g.set g.rule g.shut v rules h.shape.inside)
    (record {
      same_set = refl;
      same_rule = refl;
      same_shut = λ s i. refl;
      places = λ s. refl;
      symbols = symbols-same p g.set g.rule g.shut rules;
    })
    h
  where
    rules : All (IsRule p) g.set
    rules = All-from_recursion (IsRule p) g.set (in-each (IsRule p) g.set h.shape.rules)
