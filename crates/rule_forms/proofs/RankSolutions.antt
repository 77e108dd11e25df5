-- A solution of a rank question's program gives a function, and multipliers that show that it ranks the rule.
use Rattle.std.proofs.Common.{◌≡◌, ℕ, zero, suc, ◌<◌, ◌≤◌, ap, arith, refl, sym, ◌∙◌, subst, Bool, true, false, List}
use Rattle.std.proofs.Common.{[], ◌∷◌, ◌++◌, length, map, get_or, if◌then◌else◌, nat_eq}
use Rattle.std.specs.Prelude.{ℤ, pos, negsuc, ◌+ℤ◌, ◌*ℤ◌, neg_ℤ, ◌≤ℤ◌, ◌<ℤ◌}
use Rattle.std.specs.List.{All}
use Rattle.std.proofs.lemmas.Int.{ints}
use Rattle.std.proofs.lemmas.Bool.{eqb-true, eq-eqb}
use Rattle.std.proofs.lemmas.List.Elements.{All-nil, All-cons, All-append, All-map, All-weaker, All-head, All-tail}
use Rattle.std.proofs.lemmas.List.Elements.{All-get_or, All-from_get_or}
use Rattle.linear_forms.proofs.int_laws.OrderLaws.{mul-nonneg_ℤ}
use Rattle.linear_forms.specs.Forms.{Form, form_value}
use Rattle.linear_forms.specs.Points.{IsPoint}
use Rattle.linear_forms.specs.Certificates.{Implies, minus_one}
use Rattle.linear_forms.specs.Combinations.{form_sum, zero_form, less}
use Rattle.linear_forms.specs.LinearProgram.{IsSolution}
use Rattle.linear_forms.specs.Questions.{IsShaped, IsGroupShaped, program_of_question}
use Rattle.linear_forms.specs.QuestionLaws.{parameters_of, multipliers_by_group, Follows}
use Rattle.linear_forms.specs.RuleQuestions.{RuleForms, RankedSet, Coefficient, constant_form, opposite, before_rule}
use Rattle.linear_forms.specs.RuleQuestions.{after_rule, at_source, at_target, symbols_of_set, rank_question}
use Rattle.linear_forms.specs.RuleQuestions.{move_group, floor_group}
use Rattle.linear_forms.proofs.SolutionLaws.{length-map, solution-solves}
use Rattle.linear_forms.proofs.CombinationLaws.{form_value-sum, form_value-times}
use Rattle.linear_forms.proofs.CertificateLaws.{implied_on_points}
use Rattle.rule_forms.specs.Ranking.{Function, over_new_values, Loses, Ranks}
use Rattle.rule_forms.specs.RankLaws.{IsRuleOf, IsSetOf, function_of, lost_by, AreImplied, rank_multipliers}
use Rattle.rule_forms.proofs.Forms.{implies-same}
use Rattle.rule_forms.proofs.Shapes.{argument_length, sum_length}
use Rattle.rule_forms.proofs.RankGoals.{coefficients_of, IsPlaced, are-placed, move-same, floor-same}

-- the goal form at the source of a rule has no coefficient past its unknowns
source-length : (b : RankedSet) (r : RuleForms) (c : Coefficient) → IsRuleOf b r → IsPlaced b c
    → length (at_source r c).coefs ≤ r.unknowns
source-length b r c is l = go (nat_eq c.symbol r.source) refl
  where
    go : (t : Bool) → nat_eq c.symbol r.source ≡ t → length
        (if nat_eq c.symbol r.source then before_rule c.place else zero_form).coefs ≤ r.unknowns
    go true e = subst (λ (s : Bool). length (if s then before_rule c.place else zero_form).coefs ≤ r.unknowns) (sym e)
        (argument_length c.place r.left r.unknowns (within _ _ _ l
        (ap b.arity (eqb-true c.symbol r.source e)) is.left) is.unknowns)
      where
        within : (a m n : ℕ) → c.place ≤ a → a ≡ m → n ≡ m → c.place ≤ n
        within a m n k f g = omega (arith, k, f, g)
    go false e =
        subst (λ (s : Bool). length (if s then before_rule c.place else zero_form).coefs ≤ r.unknowns) (sym e)
        (omega arith)

-- the goal form at the target of a rule has no coefficient past its unknowns
target-length : (b : RankedSet) (r : RuleForms) (c : Coefficient) → IsRuleOf b r
    → length (at_target r c).coefs ≤ r.unknowns
target-length b r c is = go (nat_eq c.symbol r.target)
  where
    value : (fs : List Form) (k : ℕ) → All (λ f. length f.coefs ≤ r.unknowns) fs
        → length (get_or fs k zero_form).coefs ≤ r.unknowns
    value [] k h = omega arith
    value (f ∷ fs) zero h = All-head (λ (g : Form). length g.coefs ≤ r.unknowns) f fs h
    value (f ∷ fs) (suc k) h = value fs k (All-tail (λ (g : Form). length g.coefs ≤ r.unknowns) f fs h)

    place : (i : ℕ) → length (after_rule r i).coefs ≤ r.unknowns
    place zero = omega arith
    place (suc k) = value r.new_values k is.new_values_fit

    go : (t : Bool) → length (if t then after_rule r c.place else zero_form).coefs ≤ r.unknowns
    go true = place c.place
    go false = omega arith

-- the group of a rule has its shape
move-shaped : (b : RankedSet) (t : ℕ) → IsRuleOf b (b.rule t)
    → IsGroupShaped (length (coefficients_of b)) (move_group b (coefficients_of b) t)
move-shaped b t is = record {
  goals_are = length-map _ (coefficients_of b);
  rows_fit = is.rows_fit;
  goals_fit = All-map (λ (f : Form). length f.coefs ≤ (b.rule t).unknowns) _ (coefficients_of b)
      (All-weaker (IsPlaced b) (λ c. length (form_sum (at_source (b.rule t) c)
      (opposite (at_target (b.rule t) c))).coefs ≤ (b.rule t).unknowns)
      (λ c l. sum_length _ _ (b.rule t).unknowns (source-length b (b.rule t) c is l)
      (at_most _ _ (length-map (λ a. negsuc 0 *ℤ a) (at_target (b.rule t) c).coefs) (target-length b (b.rule t) c is)))
      (coefficients_of b) (are-placed b (symbols_of_set b)));
  fixed_fits = fixed (nat_eq t b.strict);
}
  where
    at_most : (m n : ℕ) → m ≡ n → n ≤ (b.rule t).unknowns → m ≤ (b.rule t).unknowns
    at_most m n e l = omega (arith, e, l)

    fixed : (s : Bool) → length (if s then minus_one else zero_form).coefs ≤ (b.rule t).unknowns
    fixed true = omega arith
    fixed false = omega arith

-- the group of the floor has its shape
floor-shaped : (b : RankedSet) → IsRuleOf b (b.rule b.strict)
    → IsGroupShaped (length (coefficients_of b)) (floor_group b (coefficients_of b))
floor-shaped b is = record {
  goals_are = length-map _ (coefficients_of b);
  rows_fit = is.rows_fit;
  goals_fit = All-map (λ (f : Form). length f.coefs ≤ (b.rule b.strict).unknowns) _ (coefficients_of b)
      (All-weaker (IsPlaced b) (λ c. length (at_source (b.rule b.strict) c).coefs ≤ (b.rule b.strict).unknowns)
      (λ c l. source-length b (b.rule b.strict) c is l) (coefficients_of b) (are-placed b (symbols_of_set b)));
  fixed_fits = omega arith;
}

-- a property of each rule of the set holds of the rule that has to decrease
pub strict-rule : (P : ℕ → Type 0) (b : RankedSet) → IsSetOf b → All P b.set → P b.strict
strict-rule P b is h = subst P is.strict (All-get_or P b.set is.inside 0 is.at_inside h)

-- the question has its shape
pub rank-shaped : (b : RankedSet) → IsSetOf b → IsShaped (rank_question b)
rank-shaped b is = record {
  groups_are =
      All-append (IsGroupShaped (length (coefficients_of b))) (map (move_group b (coefficients_of b)) b.set)
      (floor_group b (coefficients_of b) ∷ [])
      (All-map (IsGroupShaped (length (coefficients_of b))) (move_group b (coefficients_of b)) b.set
      (All-weaker (λ t. IsRuleOf b (b.rule t)) (λ t. IsGroupShaped (length (coefficients_of b))
      (move_group b (coefficients_of b) t))
      (λ t r. move-shaped b t r) b.set is.rules))
      (All-cons (IsGroupShaped (length (coefficients_of b))) (floor_group b (coefficients_of b)) []
      (floor-shaped b (strict-rule (λ t. IsRuleOf b (b.rule t)) b is is.rules))
      (All-nil (IsGroupShaped (length (coefficients_of b)))));
  sizes_are = length-map _ (coefficients_of b);
  heights_are = length-map _ (coefficients_of b);
}

-- multipliers that show the goal of each group show that the function ranks the rule
shown-from : (b : RankedSet) (set : List ℕ) (x v : ℕ → ℤ) (d : ℤ) → All (λ t. IsRuleOf b (b.rule t)) set
    → Follows (map (move_group b (coefficients_of b)) set ++ (floor_group b (coefficients_of b) ∷ []))
    (multipliers_by_group x (map (move_group b (coefficients_of b)) set
    ++ (floor_group b (coefficients_of b) ∷ []))) v d
    → AreImplied b (function_of b v) d set (multipliers_by_group x
    (map (move_group b (coefficients_of b)) set ++ (floor_group b (coefficients_of b) ∷ [])))
shown-from b [] x v d are h = implies-same (b.rule b.strict).rows _ _ _ (floor-same b v d) h.0
shown-from b (t ∷ set) x v d are h = (
  implies-same (b.rule t).rows _ _ _ (move-same b t v d (All-head (λ s. IsRuleOf b (b.rule s)) t set are).values) h.0,
  shown-from b set _ v d (All-tail (λ s. IsRuleOf b (b.rule s)) t set are) h.1,
)

-- the multipliers of a solution show that its function ranks the rule
pub rank-shown : (b : RankedSet) (x : ℕ → ℤ) (d : ℤ) → IsSetOf b
    → IsSolution (program_of_question (rank_question b)) x d
    → AreImplied b (function_of b (parameters_of x)) d b.set (rank_multipliers b x)
rank-shown b x d is solution =
    shown-from b b.set _ (parameters_of x) d is.rules
    (solution-solves (rank_question b) x d (rank-shaped b is) solution)

-- the value of a form less another is the difference of the values
less-value : (f g : Form) (z : ℕ → ℤ) (d : ℤ) → form_value (less f g) z d ≡ form_value f z d +ℤ neg_ℤ (form_value g z d)
less-value f g z d =
    form_value-sum f (opposite g) z d ∙ ap (λ (y : ℤ). form_value f z d +ℤ y)
    (form_value-times (negsuc 0) g z d ∙ negated _)
  where
    negated : (v : ℤ) → negsuc 0 *ℤ v ≡ neg_ℤ v
    negated v = omega (arith, ints)

-- the value of a constant form
pub number-value : (k : ℤ) (z : ℕ → ℤ) (d : ℤ) → form_value (constant_form k) z d ≡ k *ℤ d
number-value k z d = plus _
  where
    plus : (v : ℤ) → pos 0 +ℤ v ≡ v
    plus v = omega (arith, ints)

-- the goals of the rules of the list, and of the floor, each with its multipliers
shown-at : (b : RankedSet) (f : Function) (d : ℤ) (set : List ℕ) (ms : List (List ℕ)) → AreImplied b f d set ms → (i : ℕ)
    → i < length set
    → (m : List ℕ) × Implies (b.rule (get_or set i 0)).rows m
    (lost_by f (b.rule (get_or set i 0)) (if nat_eq (get_or set i 0) b.strict then d else pos 0))
shown-at b f d [] ms h i l = absurd (omega (arith, l))
shown-at b f d (t ∷ set) [] h i l = absurd h
shown-at b f d (t ∷ set) (m ∷ ms) h zero l = (m, h.0)
shown-at b f d (t ∷ set) (m ∷ ms) h (suc i) l = shown-at b f d set ms h.1 i (omega (arith, l))

shown-floor : (b : RankedSet) (f : Function) (d : ℤ) (set : List ℕ) (ms : List (List ℕ)) → AreImplied b f d set ms
    → (m : List ℕ) × Implies (b.rule b.strict).rows m (less (f (b.rule b.strict).source) (constant_form d))
shown-floor b f d [] [] h = absurd h
shown-floor b f d [] (m ∷ []) h = (m, h)
shown-floor b f d [] (m ∷ n ∷ ms) h = absurd h
shown-floor b f d (t ∷ set) [] h = absurd h
shown-floor b f d (t ∷ set) (m ∷ ms) h = shown-floor b f d set ms h.1

-- a loss that multipliers show holds on the points
loses-by : (b : RankedSet) (f : Function) (t k : ℕ) (m : List ℕ) → Implies (b.rule t).rows m (lost_by f (b.rule t) (pos k))
    → Loses b f t k
loses-by b f t k m implies = record {
  each = λ z d point. below _ _ _ _ _
      (less-value (less (f (b.rule t).source) (over_new_values (b.rule t) (f (b.rule t).target))) (constant_form (pos k)) z d)
      (less-value (f (b.rule t).source) (over_new_values (b.rule t) (f (b.rule t).target)) z d) (number-value (pos k) z d)
      (implied_on_points (b.rule t).rows m (lost_by f (b.rule t) (pos k)) implies z d point);
}
  where
    below : (s a b n p : ℤ) → {m : ℤ} → s ≡ p +ℤ neg_ℤ m → p ≡ a +ℤ neg_ℤ b → m ≡ n → pos 0 ≤ℤ s → (b +ℤ n) ≤ℤ a
    below s a b n p {m} e f g l = omega (arith, ints, e, f, g, l)

-- a function that decreases by at least k doesn't increase
loses-less : (b : RankedSet) (f : Function) (t k : ℕ) → Loses b f t k → Loses b f t 0
loses-less b f t k h = record {
  each =
      λ z d point. below _ _ d (h.each z d point) (mul-nonneg_ℤ (pos k) d (omega (arith, ints))
      (weak d point.denominator));
}
  where
    weak : (d : ℤ) → pos 0 <ℤ d → pos 0 ≤ℤ d
    weak d l = omega (arith, ints, l)

    below : (a b d : ℤ) → (a +ℤ pos k *ℤ d) ≤ℤ b → pos 0 ≤ℤ (pos k *ℤ d) → (a +ℤ pos 0 *ℤ d) ≤ℤ b
    below a b d l m = omega (arith, ints, l, m, none d)
      where
        none : (d : ℤ) → pos 0 *ℤ d ≡ pos 0
        none d = omega (arith, ints)

-- if multipliers show that a function ranks the rule, it does
pub shown-ranks : (b : RankedSet) (f : Function) (q : ℕ) (ms : List (List ℕ)) → IsSetOf b → 1 ≤ q
    → AreImplied b f (pos q) b.set ms → Ranks b f q
shown-ranks b f q ms is l shown = record {
  positive = l;
  rises =
      All-from_get_or (λ t. Loses b f t 0) b.set 0 (λ i k. rises (get_or b.set i 0)
      (shown-at b f (pos q) b.set ms shown i k));
  falls = falls (shown-at b f (pos q) b.set ms shown is.inside is.at_inside);
  floor = λ z d point. floor z d point (shown-floor b f (pos q) b.set ms shown);
}
  where
    rises : (t : ℕ) → ((m : List ℕ) × Implies (b.rule t).rows m
        (lost_by f (b.rule t) (if nat_eq t b.strict then pos q else pos 0))) → Loses b f t 0
    rises t h = go (nat_eq t b.strict) h.1
      where
        go : (s : Bool) → Implies (b.rule t).rows h.0 (lost_by f (b.rule t) (if s then pos q else pos 0)) → Loses b f t 0
        go true i = loses-less b f t q (loses-by b f t q h.0 i)
        go false i = loses-by b f t 0 h.0 i

    falls : ((m : List ℕ) × Implies (b.rule (get_or b.set is.inside 0)).rows m
        (lost_by f (b.rule (get_or b.set is.inside 0))
        (if nat_eq (get_or b.set is.inside 0) b.strict then pos q else pos 0)))
        → Loses b f b.strict q
    falls h = subst (λ (t : ℕ). Loses b f t q) is.strict (loses-by b f (get_or b.set is.inside 0) q h.0
        (subst (λ (s : Bool). Implies (b.rule (get_or b.set is.inside 0)).rows h.0
        (lost_by f (b.rule (get_or b.set is.inside 0)) (if s then pos q else pos 0)))
        (eq-eqb (get_or b.set is.inside 0) b.strict is.strict) h.1))

    floor : (z : ℕ → ℤ) (d : ℤ) → IsPoint (b.rule b.strict).rows z d
        → ((m : List ℕ) × Implies (b.rule b.strict).rows m (less (f (b.rule b.strict).source) (constant_form (pos q))))
        → (pos q *ℤ d) ≤ℤ form_value (f (b.rule b.strict).source) z d
    floor z d point h =
        below _ _ _ (less-value (f (b.rule b.strict).source) (constant_form (pos q)) z d) (number-value (pos q) z d)
        (implied_on_points (b.rule b.strict).rows h.0
        (less (f (b.rule b.strict).source) (constant_form (pos q))) h.1 z d point)
      where
        below : (s a n : ℤ) → {m : ℤ} → s ≡ a +ℤ neg_ℤ m → m ≡ n → pos 0 ≤ℤ s → n ≤ℤ a
        below s a n {m} e f l = omega (arith, ints, e, f, l)
