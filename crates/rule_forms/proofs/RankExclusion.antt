-- A dual of a rank question's program shows that no function ranks the rule.
use Rattle.std.proofs.Common.{◌≡◌, ℕ, zero, suc, ◌<◌, ◌≤◌, ap, arith, refl, sym, ◌∙◌, subst, Bool, true, false, List}
use Rattle.std.proofs.Common.{[], ◌∷◌, length, map, get_or, ◌⊎◌, inl, inr, if◌then◌else◌, nat_eq, ◌||◌}
use Rattle.std.specs.Prelude.{ℤ, pos, negsuc, ◌+ℤ◌, ◌*ℤ◌, neg_ℤ, slice_index_or, ◌≤ℤ◌}
use Rattle.std.specs.List.{All, list_any}
use Rattle.std.proofs.lemmas.Int.{ints}
use Rattle.std.proofs.lemmas.Bool.{eqb-true, eq-eqb, cases_lt}
use Rattle.std.proofs.lemmas.List.Elements.{All-nil, All-cons, All-append, All-map, All-get_or, All-from_get_or}
use Rattle.linear_forms.proofs.int_laws.RingLaws.{mul-zero_ℤ, zero-mul_ℤ, mul_comm_ℤ, neg-mul_ℤ}
use Rattle.linear_forms.proofs.int_laws.SumLaws.{sum_to-same}
use Rattle.linear_forms.specs.Forms.{Form, at, list_dot, form_value}
use Rattle.linear_forms.specs.Points.{IsPoint}
use Rattle.linear_forms.specs.Certificates.{minus_one}
use Rattle.linear_forms.specs.Combinations.{form_sum, zero_form, combination}
use Rattle.linear_forms.specs.LinearProgram.{IsDual}
use Rattle.linear_forms.specs.Questions.{Group, goal_at, listed, program_of_question}
use Rattle.linear_forms.specs.QuestionLaws.{HoldOnPoints, HavePoints, elements_of}
use Rattle.linear_forms.specs.RuleQuestions.{RuleForms, RankedSet, Coefficient, constant_form, opposite, before_rule}
use Rattle.linear_forms.specs.RuleQuestions.{after_rule, at_source, at_target, has_symbol, rank_question, move_group}
use Rattle.linear_forms.specs.RuleQuestions.{floor_group}
use Rattle.linear_forms.proofs.ListLaws.{list_dot-sum, list_dot-listed}
use Rattle.linear_forms.proofs.SolutionLaws.{length-map}
use Rattle.linear_forms.proofs.CombinationLaws.{form_value-sum, form_value-times, form_value-combination}
use Rattle.linear_forms.proofs.ElementLaws.{dual-refutes}
use Rattle.linear_forms.proofs.RefutationLaws.{refuted-has_none}
use Rattle.rule_forms.specs.Ranking.{Function, over_new_values, Loses, Ranks, Fits, NoRank}
use Rattle.rule_forms.specs.Laws.{HasPoint}
use Rattle.rule_forms.specs.RankLaws.{IsRuleOf, IsSetOf, HavePointsOf}
use Rattle.rule_forms.proofs.Forms.{at-listed, at-past, dot-same}
use Rattle.rule_forms.proofs.Totals.{total-same, dot-total}
use Rattle.rule_forms.proofs.Rays.{unknown_form-value}
use Rattle.rule_forms.proofs.Losses.{read-at}
use Rattle.rule_forms.proofs.RankGoals.{IsLinear, differences, coefficients_of}
use Rattle.rule_forms.proofs.RankSolutions.{rank-shaped, strict-rule}
use Rattle.rule_forms.proofs.RankValues.{number_of, place_sum, symbol-total}

-- the value at a point is a linear reading
value-linear : (z : ℕ → ℤ) (d : ℤ) → IsLinear (λ f. form_value f z d)
value-linear z d = record {
  zero = none d;
  sum = λ f g. form_value-sum f g z d;
  times = λ c f. form_value-times c f z d;
  combined = λ fs v. form_value-combination fs v z d;
  number = λ k. swap k;
}
  where
    none : (d : ℤ) → pos 0 +ℤ pos 0 *ℤ d ≡ pos 0
    none d = omega (arith, ints)

    swap : (k : ℤ) → pos 0 +ℤ k *ℤ d ≡ (pos 0 +ℤ pos 1 *ℤ d) *ℤ k
    swap k = plus _ ∙ (mul_comm_ℤ k d ∙ ap (λ (y : ℤ). y *ℤ k) (one d))
      where
        plus : (v : ℤ) → pos 0 +ℤ v ≡ v
        plus v = omega (arith, ints)

        one : (d : ℤ) → d ≡ pos 0 +ℤ pos 1 *ℤ d
        one d = omega (arith, ints)

-- the numbers of a function, as parameters of the coefficients
abbrev pub numbers_of : RankedSet → Function → ℕ → ℤ
numbers_of b f = at (map (number_of f) (coefficients_of b))

-- the combination of goal forms at a symbol with the numbers of a function
weighed : (h : Form → ℤ) → IsLinear h → (b : RankedSet) (f : Function) (s : ℕ) (places : ℕ → Form) → Fits b f
    → has_symbol b s ≡ true → s < b.symbols
    → list_dot (map (λ c. h (if nat_eq c.symbol s then places c.place else zero_form)) (coefficients_of b))
    (numbers_of b f)
    ≡ place_sum b f (λ i x. h (places i) *ℤ x) s
weighed h linear b f s places fits has l =
    dot-total (λ c. h (if nat_eq c.symbol s then places c.place else zero_form)) (number_of f) (coefficients_of b)
    ∙ (total-same _ _ (coefficients_of b) (λ c. term c (nat_eq c.symbol s))
    ∙ symbol-total b f s (λ i x. h (places i) *ℤ x) fits (λ i. mul-zero_ℤ (h (places i)) (pos 0) refl) has l)
  where
    term : (c : Coefficient) (t : Bool) → h (if t then places c.place else zero_form) *ℤ number_of f c
        ≡ (if t then h (places c.place) *ℤ number_of f c else pos 0)
    term c true = refl
    term c false = zero-mul_ℤ _ (number_of f c) linear.zero

-- the value of a function before a rule, at a point
before-value : (b : RankedSet) (f : Function) (r : RuleForms) (z : ℕ → ℤ) (d : ℤ) → Fits b f
    → has_symbol b r.source ≡ true → r.source < b.symbols
    → list_dot (map (λ c. form_value (at_source r c) z d) (coefficients_of b)) (numbers_of b f)
    ≡ form_value (f r.source) z d
before-value b f r z d fits has l =
    weighed (λ g. form_value g z d) (value-linear z d) b f r.source before_rule fits has l
    ∙ sums _ _ _ _
    (sum_to-same (b.arity r.source) _ _ (λ j k. ap (λ (y : ℤ). y *ℤ at (f r.source).coefs j)
    (unknown_form-value j z d) ∙ mul_comm_ℤ (z j) (at (f r.source).coefs j))
    ∙ (sym (list_dot-listed (b.arity r.source) (at (f r.source).coefs) z) ∙ dot-same
    (listed (b.arity r.source) (at (f r.source).coefs)) (f r.source).coefs z
    (λ u. listed-same u (cases_lt u (b.arity r.source)))))
    (swap (f r.source).constant)
  where
    sums : (a b c d : ℤ) → a ≡ c → b ≡ d → a +ℤ b ≡ c +ℤ d
    sums a b c d e f = omega (arith, ints, e, f)

    listed-same : (u : ℕ) → (u < b.arity r.source) ⊎ (b.arity r.source ≤ u)
        → at (listed (b.arity r.source) (at (f r.source).coefs)) u ≡ at (f r.source).coefs u
    listed-same u (inl k) = at-listed (b.arity r.source) (at (f r.source).coefs) u k
    listed-same u (inr k) = at-past (b.arity r.source) (at (f r.source).coefs) u k ∙ sym (fits.places r.source u k)

    swap : (c : ℤ) → (pos 0 +ℤ pos 1 *ℤ d) *ℤ c ≡ c *ℤ d
    swap c = ap (λ (y : ℤ). y *ℤ c) (one d) ∙ mul_comm_ℤ d c
      where
        one : (d : ℤ) → pos 0 +ℤ pos 1 *ℤ d ≡ d
        one d = omega (arith, ints)

-- the value of a function after a rule, at a point
after-value : (b : RankedSet) (f : Function) (r : RuleForms) (z : ℕ → ℤ) (d : ℤ) → Fits b f → IsRuleOf b r
    → has_symbol b r.target ≡ true
    → list_dot (map (λ c. form_value (at_target r c) z d) (coefficients_of b)) (numbers_of b f)
    ≡ form_value (over_new_values r (f r.target)) z d
after-value b f r z d fits is has =
    weighed (λ g. form_value g z d) (value-linear z d) b f r.target (after_rule r) fits has is.target
    ∙ (sums _ _ _ _
    (sum_to-same (b.arity r.target) _ _ (λ j k. ap (λ (y : ℤ). y *ℤ at (f r.target).coefs j) (sym (reading j)))
    ∙ (list_dot-sum (map (λ g. form_value g z d) r.new_values) (b.arity r.target) (at (f r.target).coefs)
    (omega (arith, is.values, length-map (λ g. form_value g z d) r.new_values))
    ∙ sym (form_value-combination r.new_values (at (f r.target).coefs) z d)))
    (swap (f r.target).constant)
    ∙ sym (form_value-sum (combination r.new_values (at (f r.target).coefs)) (constant_form (f r.target).constant) z d))
  where
    sums : (a b c d : ℤ) → a ≡ c → b ≡ d → a +ℤ b ≡ c +ℤ d
    sums a b c d e f = omega (arith, ints, e, f)

    reading : (j : ℕ) → at (map (λ g. form_value g z d) r.new_values) j ≡ form_value (slice_index_or r.new_values j zero_form) z d
    reading j =
        ap (λ (y : ℤ). slice_index_or (map (λ g. form_value g z d) r.new_values) j y) (sym (none d)) ∙ read-at
        (λ g. form_value g z d) r.new_values j zero_form
      where
        none : (d : ℤ) → pos 0 +ℤ pos 0 *ℤ d ≡ pos 0
        none d = omega (arith, ints)

    swap : (c : ℤ) → (pos 0 +ℤ pos 1 *ℤ d) *ℤ c ≡ pos 0 +ℤ c *ℤ d
    swap c = ap (λ (y : ℤ). y *ℤ c) (one d) ∙ (mul_comm_ℤ d c ∙ plus _)
      where
        one : (d : ℤ) → pos 0 +ℤ pos 1 *ℤ d ≡ d
        one d = omega (arith, ints)

        plus : (v : ℤ) → v ≡ pos 0 +ℤ v
        plus v = omega (arith, ints)

-- the symbols of a rule of the set are symbols of the set
has-symbols : (b : RankedSet) (set : List ℕ) (i : ℕ) (s : ℕ) → i < length set
    → (nat_eq (b.rule (get_or set i 0)).source s || nat_eq (b.rule (get_or set i 0)).target s) ≡ true
    → list_any (λ t. nat_eq (b.rule t).source s || nat_eq (b.rule t).target s) set ≡ true
has-symbols b [] i s l h = absurd (omega (arith, l))
has-symbols b (t ∷ set) zero s l h =
    ap (λ v. v || list_any (λ u. nat_eq (b.rule u).source s || nat_eq (b.rule u).target s) set) h
has-symbols b (t ∷ set) (suc i) s l h =
    ap (λ v. (nat_eq (b.rule t).source s || nat_eq (b.rule t).target s) || v)
    (has-symbols b set i s (omega (arith, l)) h) ∙ or-true _
  where
    or-true : (v : Bool) → (v || true) ≡ true
    or-true true = refl
    or-true false = refl

source-has : (b : RankedSet) (i : ℕ) → i < length b.set → has_symbol b (b.rule (get_or b.set i 0)).source ≡ true
source-has b i l =
    has-symbols b b.set i (b.rule (get_or b.set i 0)).source l
    (ap (λ v. v || nat_eq (b.rule (get_or b.set i 0)).target (b.rule (get_or b.set i 0)).source)
    (eq-eqb _ (b.rule (get_or b.set i 0)).source refl))

target-has : (b : RankedSet) (i : ℕ) → i < length b.set → has_symbol b (b.rule (get_or b.set i 0)).target ≡ true
target-has b i l = has-symbols b b.set i (b.rule (get_or b.set i 0)).target l
    (ap (λ v. nat_eq (b.rule (get_or b.set i 0)).source (b.rule (get_or b.set i 0)).target || v)
    (eq-eqb _ (b.rule (get_or b.set i 0)).target refl) ∙ or-true _)
  where
    or-true : (v : Bool) → (v || true) ≡ true
    or-true true = refl
    or-true false = refl

-- a property of the groups of each rule of the set and of the floor holds of each group
of-rank_groups : (P : Group → Type 0) (b : RankedSet)
    → ((i : ℕ) → i < length b.set → P (move_group b (coefficients_of b) (get_or b.set i 0)))
    → P (floor_group b (coefficients_of b)) → All P (rank_question b).groups
of-rank_groups P b moves floor =
    All-append P (map (move_group b (coefficients_of b)) b.set) (floor_group b (coefficients_of b) ∷ [])
    (All-map P (move_group b (coefficients_of b)) b.set
    (All-from_get_or (λ t. P (move_group b (coefficients_of b) t)) b.set 0 moves))
    (All-cons P (floor_group b (coefficients_of b)) [] floor (All-nil P))

-- each group has a point
pub rank-points : (b : RankedSet) → IsSetOf b → HavePointsOf b → HavePoints (rank_question b)
rank-points b is points = record {
  each = of-rank_groups (λ g. (z : ℕ → ℤ) × (d : ℤ) × IsPoint g.rows z d) b
      (λ i l. from (All-get_or (λ t. HasPoint (b.rule t).rows) b.set i 0 l points.each))
      (from (strict-rule (λ t. HasPoint (b.rule t).rows) b is points.each));
}
  where
    from : {rows : List Form} → HasPoint rows → (z : ℕ → ℤ) × (d : ℤ) × IsPoint rows z d
    from point = (point.z, point.d, point.point)

-- the value of the fixed form of a rule's group
fixed-value : (q : ℕ) (s : Bool) (z : ℕ → ℤ) (d : ℤ)
    → pos q *ℤ form_value (if s then minus_one else zero_form) z d ≡ neg_ℤ (pos (if s then q else 0) *ℤ d)
fixed-value q true z d = ap (λ (y : ℤ). pos q *ℤ y) (opposite_of d) ∙ times_neg (pos q) d
  where
    opposite_of : (d : ℤ) → pos 0 +ℤ negsuc 0 *ℤ d ≡ neg_ℤ d
    opposite_of d = omega (arith, ints)

    times_neg : (a b : ℤ) → a *ℤ neg_ℤ b ≡ neg_ℤ (a *ℤ b)
    times_neg a b = mul_comm_ℤ a (neg_ℤ b) ∙ (neg-mul_ℤ b a ∙ ap neg_ℤ (mul_comm_ℤ b a))
fixed-value q false z d = ap (λ (y : ℤ). pos q *ℤ y) (none d) ∙ (mul-zero_ℤ (pos q) (pos 0) refl ∙ nothing d)
  where
    none : (d : ℤ) → pos 0 +ℤ pos 0 *ℤ d ≡ pos 0
    none d = omega (arith, ints)

    nothing : (d : ℤ) → pos 0 ≡ neg_ℤ (pos 0 *ℤ d)
    nothing d = omega (arith, ints)

-- a function that ranks the rule makes the goals at least 0 on all points
pub ranks-hold : (b : RankedSet) (f : Function) (q : ℕ) → IsSetOf b → Ranks b f q → Fits b f
    → HoldOnPoints (rank_question b) (numbers_of b f) (pos q)
ranks-hold b f q is ranks fits = record {
  denominator = omega (arith, ints, ranks.positive);
  each =
      of-rank_groups (λ g. (z : ℕ → ℤ) (d : ℤ) → IsPoint g.rows z d
      → pos 0 ≤ℤ form_value (goal_at g (numbers_of b f) (pos q)) z d) b
      (λ i l z d point. move i l z d point)
      (λ z d point. floor z d point);
}
  where
    v : ℕ → ℤ
    v = numbers_of b f

    whole : (i : ℕ) → i < length b.set → (z : ℕ → ℤ) (d : ℤ) → (r : IsRuleOf b (b.rule (get_or b.set i 0)))
        → form_value (goal_at (move_group b (coefficients_of b) (get_or b.set i 0)) (numbers_of b f) (pos q)) z d
        ≡ (form_value (f (b.rule (get_or b.set i 0)).source) z d
        +ℤ neg_ℤ (form_value (over_new_values (b.rule (get_or b.set i 0)) (f (b.rule (get_or b.set i 0)).target)) z d))
        +ℤ neg_ℤ (pos (if nat_eq (get_or b.set i 0) b.strict then q else 0) *ℤ d)
    whole i l z d r =
        form_value-sum _ _ z d
        ∙ sums _ _ _ _
        (form_value-combination (map (λ c. form_sum (at_source (b.rule (get_or b.set i 0)) c)
        (opposite (at_target (b.rule (get_or b.set i 0)) c))) (coefficients_of b)) (numbers_of b f) z d
        ∙ (differences (λ g. form_value g z d) (value-linear z d) (at_source (b.rule (get_or b.set i 0)))
        (at_target (b.rule (get_or b.set i 0))) (coefficients_of b) (numbers_of b f)
        ∙ less_of _ _ _ _ (before-value b f (b.rule (get_or b.set i 0)) z d fits (source-has b i l) r.source)
        (after-value b f (b.rule (get_or b.set i 0)) z d fits r (target-has b i l))))
        (form_value-times (pos q) _ z d ∙ fixed-value q (nat_eq (get_or b.set i 0) b.strict) z d)
      where
        sums : (a b c d : ℤ) → a ≡ c → b ≡ d → a +ℤ b ≡ c +ℤ d
        sums a b c d e f = omega (arith, ints, e, f)

        less_of : (x y p q : ℤ) → x ≡ p → y ≡ q → x +ℤ neg_ℤ y ≡ p +ℤ neg_ℤ q
        less_of x y p q e f = omega (arith, ints, e, f)

    at_least : (s a n k : ℤ) → s ≡ (a +ℤ neg_ℤ n) +ℤ neg_ℤ k → (n +ℤ k) ≤ℤ a → pos 0 ≤ℤ s
    at_least s a n k e l = omega (arith, ints, e, l)

    move : (i : ℕ) → i < length b.set → (z : ℕ → ℤ) (d : ℤ) → IsPoint (b.rule (get_or b.set i 0)).rows z d
        → pos 0 ≤ℤ form_value (goal_at (move_group b (coefficients_of b) (get_or b.set i 0)) (numbers_of b f)
        (pos q)) z d
    move i l z d point =
        at_least _ _ _ _ (whole i l z d (All-get_or (λ t. IsRuleOf b (b.rule t)) b.set i 0 l is.rules))
        (falls (nat_eq (get_or b.set i 0) b.strict) refl)
      where
        falls : (s : Bool) → nat_eq (get_or b.set i 0) b.strict ≡ s
            → (form_value (over_new_values (b.rule (get_or b.set i 0)) (f (b.rule (get_or b.set i 0)).target)) z d
            +ℤ pos (if s then q else 0) *ℤ d)
            ≤ℤ form_value (f (b.rule (get_or b.set i 0)).source) z d
        falls true e =
            (subst (λ (t : ℕ). Loses b f t q) (sym (eqb-true (get_or b.set i 0) b.strict e)) ranks.falls).each z d point
        falls false e = (All-get_or (λ t. Loses b f t 0) b.set i 0 l ranks.rises).each z d point

    whole_floor : (z : ℕ → ℤ) (d : ℤ) → form_value (goal_at (floor_group b (coefficients_of b)) (numbers_of b f)
        (pos q)) z d
        ≡ form_value (f (b.rule b.strict).source) z d +ℤ neg_ℤ (pos q *ℤ d)
    whole_floor z d =
        form_value-sum _ _ z d
        ∙ sums _ _ _ _
        (form_value-combination (map (at_source (b.rule b.strict)) (coefficients_of b)) (numbers_of b f) z d
        ∙ (mapped (coefficients_of b) (numbers_of b f)
        ∙ before-value b f (b.rule b.strict) z d fits
        (subst (λ (t : ℕ). has_symbol b (b.rule t).source ≡ true) is.strict (source-has b is.inside is.at_inside))
        (strict-rule (λ t. IsRuleOf b (b.rule t)) b is is.rules).source))
        (form_value-times (pos q) minus_one z d ∙ fixed-value q true z d)
      where
        sums : (a b c d : ℤ) → a ≡ c → b ≡ d → a +ℤ b ≡ c +ℤ d
        sums a b c d e f = omega (arith, ints, e, f)

        mapped : (cs : List Coefficient) (v : ℕ → ℤ)
            → list_dot (map (λ g. form_value g z d) (map (at_source (b.rule b.strict)) cs)) v
            ≡ list_dot (map (λ c. form_value (at_source (b.rule b.strict) c) z d) cs) v
        mapped [] v = refl
        mapped (c ∷ cs) v =
            ap (λ (y : ℤ). form_value (at_source (b.rule b.strict) c) z d *ℤ v 0 +ℤ y) (mapped cs (λ p. v (suc p)))

    floor : (z : ℕ → ℤ) (d : ℤ) → IsPoint (b.rule b.strict).rows z d
        → pos 0 ≤ℤ form_value (goal_at (floor_group b (coefficients_of b)) (numbers_of b f) (pos q)) z d
    floor z d point = least _ _ _ (whole_floor z d) (ranks.floor z d point)
      where
        least : (s a n : ℤ) → s ≡ a +ℤ neg_ℤ n → n ≤ℤ a → pos 0 ≤ℤ s
        least s a n e l = omega (arith, ints, e, l)

-- if the program has a dual, no function ranks the rule
pub dual-excludes_ranks : (b : RankedSet) (y : ℕ → ℤ) → IsSetOf b → HavePointsOf b
    → IsDual (program_of_question (rank_question b)) y → NoRank b
dual-excludes_ranks b y is points dual = record {
  each = λ f q ranks fits.
      refuted-has_none (rank_question b) (elements_of y (rank_question b).groups) (rank-shaped b is)
      (dual-refutes (rank_question b) y (rank-shaped b is) dual) (rank-points b is points)
      (numbers_of b f) (pos q) (ranks-hold b f q is ranks fits);
}
