-- At parameters, the goals of a rank question are the losses of the function that they represent by a rule.
use Rattle.std.proofs.Common.{◌≡◌, ℕ, suc, ◌<◌, ◌≤◌, ap, arith, refl, sym, ◌∙◌, Bool, true, false, List, [], ◌∷◌}
use Rattle.std.proofs.Common.{length, map, ◌⊎◌, inl, inr, if◌then◌else◌, nat_eq}
use Rattle.std.specs.Prelude.{ℤ, pos, negsuc, ◌+ℤ◌, ◌*ℤ◌, neg_ℤ}
use Rattle.std.specs.List.{All}
use Rattle.std.proofs.lemmas.List.Elements.{All-head, All-tail}
use Rattle.std.proofs.lemmas.Int.{ints}
use Rattle.std.proofs.lemmas.Bool.{cases_lt, eqb-true}
use Rattle.linear_forms.specs.int_laws.Polynomial.{variable, constant, ◌⊕◌, ◌⊗◌, negated}
use Rattle.linear_forms.proofs.int_laws.Identities.{identity}
use Rattle.linear_forms.specs.Forms.{Form, at, list_dot}
use Rattle.linear_forms.specs.Certificates.{minus_one}
use Rattle.linear_forms.specs.Combinations.{form_sum, form_times, zero_form, combination, less}
use Rattle.linear_forms.specs.Questions.{goal_at, listed}
use Rattle.linear_forms.specs.RuleQuestions.{RuleForms, RankedSet, Coefficient, constant_form, opposite, at_source}
use Rattle.linear_forms.specs.RuleQuestions.{at_target, symbols_of_set, coefficients, move_group, floor_group}
use Rattle.linear_forms.proofs.CombinationLaws.{at-sum, at-times}
use Rattle.linear_forms.proofs.SolutionLaws.{length-map}
use Rattle.rule_forms.specs.Kinds.{AreSame}
use Rattle.rule_forms.specs.Ranking.{over_new_values}
use Rattle.rule_forms.specs.RankLaws.{coefficient, function_of, lost_by}
use Rattle.rule_forms.proofs.Forms.{at-listed, at-past}
use Rattle.rule_forms.proofs.Combined.{at-combination, constant-combination}
use Rattle.rule_forms.proofs.Totals.{dot-agree}
use Rattle.rule_forms.proofs.Losses.{target-sum, source-sum, source-constants, share, share-elsewhere, share-other}
pub use Rattle.linear_forms.proofs.RuleShapes.{coefficients-placed as are-placed}

-- a linear reading of forms: it maps sums to sums and multiples to multiples
pub record IsLinear (h : Form → ℤ) : Type 0 where
  pub zero : h zero_form ≡ pos 0
  pub sum : (f g : Form) → h (form_sum f g) ≡ h f +ℤ h g
  pub times : (c : ℤ) (f : Form) → h (form_times c f) ≡ c *ℤ h f
  pub combined : (fs : List Form) (v : ℕ → ℤ) → h (combination fs v) ≡ list_dot (map h fs) v
  pub number : (k : ℤ) → h (constant_form k) ≡ h (constant_form (pos 1)) *ℤ k

-- the coefficient of an unknown is a linear reading, and so is the constant
pub unknown-linear : (u : ℕ) → IsLinear (λ f. at f.coefs u)
unknown-linear u = record {
  zero = refl;
  sum = λ f g. at-sum f.coefs g.coefs u;
  times = λ c f. at-times c f.coefs u;
  combined = λ fs v. at-combination fs v u;
  number = λ k. none k;
}
  where
    none : (k : ℤ) → pos 0 ≡ pos 0 *ℤ k
    none k = omega (arith, ints)

-- the constant is a linear reading
pub constant-linear : IsLinear (λ f. f.constant)
constant-linear = record {
  zero = refl;
  sum = λ f g. refl;
  times = λ c f. refl;
  combined = λ fs v. constant-combination fs v;
  number = λ k. one k;
}
  where
    one : (k : ℤ) → k ≡ pos 1 *ℤ k
    one k = omega (arith, ints)

-- a combination of differences of forms is the difference of the combinations
pub differences : {A : Type 0} (h : Form → ℤ) → IsLinear h → (f g : A → Form) (xs : List A) (v : ℕ → ℤ)
    → list_dot (map h (map (λ x. form_sum (f x) (opposite (g x))) xs)) v
    ≡ list_dot (map (λ x. h (f x)) xs) v +ℤ neg_ℤ (list_dot (map (λ x. h (g x)) xs) v)
differences h linear f g [] v = refl
differences h linear f g (x ∷ xs) v =
    split _ (h (f x)) (h (g x)) (v 0) _ (list_dot (map (λ y. h (f y)) xs) (λ p. v (suc p)))
    (list_dot (map (λ y. h (g y)) xs) (λ p. v (suc p)))
    (linear.sum (f x) (opposite (g x)) ∙ ap (λ (y : ℤ). h (f x) +ℤ y) (linear.times (negsuc 0) (g x)))
    (differences h linear f g xs (λ p. v (suc p)))
  where
    split : (s a b x t c d : ℤ) → s ≡ a +ℤ negsuc 0 *ℤ b → t ≡ c +ℤ neg_ℤ d
        → s *ℤ x +ℤ t ≡ (a *ℤ x +ℤ c) +ℤ neg_ℤ (b *ℤ x +ℤ d)
    split s a b x t c d e f =
        ap (λ (y : ℤ). y *ℤ x +ℤ t) e ∙ (ap (λ (y : ℤ). (a +ℤ negsuc 0 *ℤ b) *ℤ x +ℤ y) f ∙ identity
        (a ∷ b ∷ x ∷ c ∷ d ∷ [])
        ((variable 0 ⊕ constant (negsuc 0) ⊗ variable 1) ⊗ variable 2 ⊕ (variable 3 ⊕ negated (variable 4)))
        ((variable 0 ⊗ variable 2 ⊕ variable 3) ⊕ negated (variable 1 ⊗ variable 2 ⊕ variable 4)) refl)

-- the coefficients of a set
abbrev pub coefficients_of : RankedSet → List Coefficient
coefficients_of b = coefficients b (symbols_of_set b)

-- a linear reading of the function after a rule
pub target-is : (h : Form → ℤ) → IsLinear h → (b : RankedSet) (r : RuleForms) (v : ℕ → ℤ)
    → length r.new_values ≡ b.arity r.target
    → h (over_new_values r (function_of b v r.target)) ≡ list_dot (map (λ c. h (at_target r c)) (coefficients_of b)) v
target-is h linear b r v long =
    linear.sum (combination r.new_values (at f.coefs)) (constant_form f.constant)
    ∙ (sums _ _ _ _
    (linear.combined r.new_values (at f.coefs) ∙ dot-agree (map h r.new_values) _ _
    (λ j l. at-listed (b.arity r.target) _ j (omega (arith, l, long, length-map h r.new_values))))
    (linear.number f.constant)
    ∙ target-sum h (record { zero = linear.zero }) r (coefficients_of b) v)
  where
    f : Form
    f = function_of b v r.target

    sums : (a b c d : ℤ) → a ≡ c → b ≡ d → a +ℤ b ≡ c +ℤ d
    sums a b c d e f = omega (arith, ints, e, f)

-- a coefficient belongs to a place of its symbol, or to its constant
abbrev pub IsPlaced : RankedSet → Coefficient → Type 0
IsPlaced b c = c.place ≤ b.arity c.symbol

-- no parameter belongs to a place past the arity of its symbol
pub past-none : (b : RankedSet) (cs : List Coefficient) (v : ℕ → ℤ) (s u : ℕ) → All (IsPlaced b) cs → b.arity s ≤ u
    → coefficient cs v s (suc u) ≡ pos 0
past-none b [] v s u h l = refl
past-none b (c ∷ cs) v s u h l =
    both _ _ (own (nat_eq c.symbol s) refl) (past-none b cs (λ p. v (suc p)) s u (All-tail (IsPlaced b) c cs h) l)
  where
    both : (a b : ℤ) → a ≡ pos 0 → b ≡ pos 0 → a +ℤ b ≡ pos 0
    both a b e f = omega (arith, ints, e, f)

    own : (t : Bool) → nat_eq c.symbol s ≡ t → share c (v 0) s (suc u) ≡ pos 0
    own true e =
        share-other c (v 0) s (suc u) (λ f. past c.place (b.arity c.symbol) (b.arity s) (All-head (IsPlaced b) c cs h)
        (ap b.arity (eqb-true c.symbol s e)) l f)
      where
        past : (p m n : ℕ) → p ≤ m → m ≡ n → n ≤ u → p ≡ suc u → ⊥
        past p m n k e j f = omega (arith, k, e, j, f)
    own false e = share-elsewhere c (v 0) s (suc u) e

-- the function before a rule: the coefficient of an unknown, and the constant
pub source-is : (b : RankedSet) (r : RuleForms) (v : ℕ → ℤ) (u : ℕ)
    → at (function_of b v r.source).coefs u ≡ list_dot (map (λ c. at (at_source r c).coefs u) (coefficients_of b)) v
source-is b r v u = go (cases_lt u (b.arity r.source))
  where
    own : ℕ → ℤ
    own j = coefficient (coefficients_of b) v r.source (suc j)

    go : (u < b.arity r.source) ⊎ (b.arity r.source ≤ u)
        → at (listed (b.arity r.source) own) u ≡ list_dot (map (λ c. at (at_source r c).coefs u) (coefficients_of b)) v
    go (inl l) = at-listed (b.arity r.source) own u l ∙ source-sum r (coefficients_of b) v u
    go (inr l) = at-past (b.arity r.source) own u l
        ∙ (sym (past-none b (coefficients_of b) v r.source u (are-placed b (symbols_of_set b)) l) ∙ source-sum r
        (coefficients_of b) v u)

-- a linear reading of a goal is that of the loss
move-reading : (h : Form → ℤ) → IsLinear h → (b : RankedSet) (t : ℕ) (v : ℕ → ℤ) (d : ℤ)
    → length (b.rule t).new_values ≡ b.arity (b.rule t).target
    → h (function_of b v (b.rule t).source) ≡ list_dot (map (λ c. h (at_source (b.rule t) c)) (coefficients_of b)) v
    → h (goal_at (move_group b (coefficients_of b) t) v d)
    ≡ h (lost_by (function_of b v) (b.rule t) (if nat_eq t b.strict then d else pos 0))
move-reading h linear b t v d long source =
    linear.sum _ _ ∙ (sums _ _ _ _
    (linear.combined (map (λ c. form_sum (at_source (b.rule t) c) (opposite (at_target (b.rule t) c)))
    (coefficients_of b)) v
    ∙ (differences h linear (at_source (b.rule t)) (at_target (b.rule t)) (coefficients_of b) v
    ∙ less_of _ _ _ _ source (target-is h linear b (b.rule t) v long)))
    (linear.times d _ ∙ fixed (nat_eq t b.strict))
    ∙ sym (linear.sum (less f g) _ ∙ sums _ _ _ _ (linear.sum f _ ∙ ap (λ (y : ℤ). h f +ℤ y)
    (linear.times (negsuc 0) g)) (linear.times (negsuc 0) _)))
  where
    f : Form
    f = function_of b v (b.rule t).source

    g : Form
    g = over_new_values (b.rule t) (function_of b v (b.rule t).target)

    sums : (a b c d : ℤ) → a ≡ c → b ≡ d → a +ℤ b ≡ c +ℤ d
    sums a b c d e f = omega (arith, ints, e, f)

    less_of : (x y p q : ℤ) → p ≡ x → q ≡ y → x +ℤ neg_ℤ y ≡ p +ℤ negsuc 0 *ℤ q
    less_of x y p q e f = omega (arith, ints, e, f)

    fixed : (s : Bool) → d *ℤ h (if s then minus_one else zero_form)
        ≡ negsuc 0 *ℤ h (constant_form (if s then d else pos 0))
    fixed true = one (h (constant_form (pos 1))) _ _ (linear.number (negsuc 0)) (linear.number d)
      where
        one : (k m n : ℤ) → m ≡ k *ℤ negsuc 0 → n ≡ k *ℤ d → d *ℤ m ≡ negsuc 0 *ℤ n
        one k m n e f =
            ap (λ (y : ℤ). d *ℤ y) e ∙ (identity (d ∷ k ∷ []) (variable 0 ⊗ (variable 1 ⊗ constant (negsuc 0)))
            (constant (negsuc 0) ⊗ (variable 1 ⊗ variable 0)) refl
            ∙ ap (λ (y : ℤ). negsuc 0 *ℤ y) (sym f))
    fixed false = none _ _ linear.zero (linear.number (pos 0))
      where
        none : (m n : ℤ) → m ≡ pos 0 → n ≡ h (constant_form (pos 1)) *ℤ pos 0 → d *ℤ m ≡ negsuc 0 *ℤ n
        none m n e f =
            ap (λ (y : ℤ). d *ℤ y) e ∙ (identity (d ∷ h (constant_form (pos 1)) ∷ []) (variable 0 ⊗ constant (pos 0))
            (constant (negsuc 0) ⊗ (variable 1 ⊗ constant (pos 0))) refl
            ∙ ap (λ (y : ℤ). negsuc 0 *ℤ y) (sym f))

-- the goal of a rule is the loss of the function by it
pub move-same : (b : RankedSet) (t : ℕ) (v : ℕ → ℤ) (d : ℤ) → length (b.rule t).new_values ≡ b.arity (b.rule t).target
    → AreSame (goal_at (move_group b (coefficients_of b) t) v d)
    (lost_by (function_of b v) (b.rule t) (if nat_eq t b.strict then d else pos 0))
move-same b t v d long = record {
  coefs = λ u. move-reading (λ f. at f.coefs u) (unknown-linear u) b t v d long (source-is b (b.rule t) v u);
  constant =
      move-reading (λ f. f.constant) constant-linear b t v d long (source-constants (b.rule t) (coefficients_of b) v);
}

-- a linear reading of the floor's goal is that of the function before the rule, less d
floor-reading : (h : Form → ℤ) → IsLinear h → (b : RankedSet) (v : ℕ → ℤ) (d : ℤ)
    → h (function_of b v (b.rule b.strict).source) ≡ list_dot
    (map (λ c. h (at_source (b.rule b.strict) c)) (coefficients_of b)) v
    → h (goal_at (floor_group b (coefficients_of b)) v d)
    ≡ h (less (function_of b v (b.rule b.strict).source) (constant_form d))
floor-reading h linear b v d source =
    linear.sum _ _ ∙ (sums _ _ _ _ (linear.combined (map (at_source (b.rule b.strict)) (coefficients_of b)) v ∙
    (mapped (coefficients_of b) v ∙ sym source))
    (linear.times d _ ∙ one (h (constant_form (pos 1))) _ _ (linear.number (negsuc 0)) (linear.number d))
    ∙ sym (linear.sum _ _ ∙ ap (λ (y : ℤ). h (function_of b v (b.rule b.strict).source) +ℤ y)
    (linear.times (negsuc 0) _)))
  where
    sums : (a b c d : ℤ) → a ≡ c → b ≡ d → a +ℤ b ≡ c +ℤ d
    sums a b c d e f = omega (arith, ints, e, f)

    mapped : (cs : List Coefficient) (v : ℕ → ℤ) → list_dot (map h (map (at_source (b.rule b.strict)) cs)) v
        ≡ list_dot (map (λ c. h (at_source (b.rule b.strict) c)) cs) v
    mapped [] v = refl
    mapped (c ∷ cs) v = ap (λ (y : ℤ). h (at_source (b.rule b.strict) c) *ℤ v 0 +ℤ y) (mapped cs (λ p. v (suc p)))

    one : (k m n : ℤ) → m ≡ k *ℤ negsuc 0 → n ≡ k *ℤ d → d *ℤ m ≡ negsuc 0 *ℤ n
    one k m n e f =
        ap (λ (y : ℤ). d *ℤ y) e ∙ (identity (d ∷ k ∷ []) (variable 0 ⊗ (variable 1 ⊗ constant (negsuc 0)))
        (constant (negsuc 0) ⊗ (variable 1 ⊗ variable 0)) refl
        ∙ ap (λ (y : ℤ). negsuc 0 *ℤ y) (sym f))

-- the goal of the floor is the function before the rule, less d
pub floor-same : (b : RankedSet) (v : ℕ → ℤ) (d : ℤ)
    → AreSame (goal_at (floor_group b (coefficients_of b)) v d)
    (less (function_of b v (b.rule b.strict).source) (constant_form d))
floor-same b v d = record {
  coefs = λ u. floor-reading (λ f. at f.coefs u) (unknown-linear u) b v d (source-is b (b.rule b.strict) v u);
  constant =
      floor-reading (λ f. f.constant) constant-linear b v d (source-constants (b.rule b.strict) (coefficients_of b) v);
}
