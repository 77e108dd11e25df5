-- The values of parameters' goals, at least 0 on all points, at the elements of a dual or of prices.
use Rattle.std.proofs.Common.{◌≡◌, ℕ, zero, suc, ◌*◌, ◌≤◌, ap, arith, refl, sym, subst, ◌∙◌, List, [], ◌∷◌, length, map}
use Rattle.std.proofs.Common.{get_or}
use Rattle.std.specs.Prelude.{ℤ, pos, negsuc, ◌+ℤ◌, ◌*ℤ◌, neg_ℤ, ◌≤ℤ◌, ◌<ℤ◌, nat_abs}
use Rattle.std.specs.List.{All}
use Rattle.std.proofs.lemmas.Int.{ints}
use Rattle.std.proofs.lemmas.List.Elements.{All-head, All-tail, All-from_get_or, All-get_or}
use Rattle.int_laws.specs.Sums.{sum_to}
use Rattle.int_laws.specs.Polynomial.{variable, ◌⊕◌, ◌⊗◌, negated}
use Rattle.int_laws.proofs.Identities.{identity}
use Rattle.int_laws.proofs.RingLaws.{mul-add_ℤ, add-mul_ℤ, zero-mul_ℤ, mul-zero_ℤ}
use Rattle.int_laws.proofs.OrderLaws.{mul-nonneg_ℤ, mul-positive_ℤ}
use Rattle.int_laws.proofs.SumLaws.{sum_to-same, sum_to-zero, sum_to-add}
use Rattle.linear_forms.specs.Forms.{Form, list_dot, form_value}
use Rattle.linear_forms.specs.Points.{Meets, IsPoint}
use Rattle.linear_forms.specs.Combinations.{zero_form}
use Rattle.linear_forms.specs.Questions.{Group, Question, IsShaped, IsGroupShaped, goal_at}
use Rattle.linear_forms.specs.QuestionLaws.{Element, AreElements, total_of, fixed_total, Refutes, HoldOnPoints}
use Rattle.linear_forms.specs.QuestionLaws.{HavePoints}
use Rattle.linear_forms.proofs.ListLaws.{list_dot-sum}
use Rattle.linear_forms.proofs.CombinationLaws.{form_value-goal}
use Rattle.linear_forms.proofs.SolutionLaws.{length-map}
use Rattle.linear_forms.proofs.ColumnLaws.{get_or-map}

-- a point moved n times along a ray
abbrev moved : (ℕ → ℤ) → ℤ → (ℕ → ℤ) → ℕ → ℤ
moved z n r = λ u. z u +ℤ n *ℤ r u

-- the dot product at a moved point
list_dot-moved : (xs : List ℤ) (z r : ℕ → ℤ) (n : ℤ) → list_dot xs (moved z n r) ≡ list_dot xs z +ℤ n *ℤ list_dot xs r
list_dot-moved [] z r n = nothing n
  where
    nothing : (n : ℤ) → pos 0 ≡ pos 0 +ℤ n *ℤ pos 0
    nothing n = omega (arith, ints)
list_dot-moved (a ∷ xs) z r n =
    ap (λ (s : ℤ). a *ℤ (z 0 +ℤ n *ℤ r 0) +ℤ s) (list_dot-moved xs (λ i. z (suc i)) (λ i. r (suc i)) n)
    ∙ identity (a ∷ z 0 ∷ n ∷ r 0 ∷ list_dot xs (λ i. z (suc i)) ∷ list_dot xs (λ i. r (suc i)) ∷ [])
    (variable 0 ⊗ (variable 1 ⊕ variable 2 ⊗ variable 3) ⊕ (variable 4 ⊕ variable 2 ⊗ variable 5))
    ((variable 0 ⊗ variable 1 ⊕ variable 4) ⊕ variable 2 ⊗ (variable 0 ⊗ variable 3 ⊕ variable 5)) refl

-- the value of a form at a moved point
form_value-moved : (f : Form) (z r : ℕ → ℤ) (n d : ℤ) → form_value f (moved z n r) d ≡ form_value f z d +ℤ n *ℤ form_value f r (pos 0)
form_value-moved f z r n d =
    ap (λ (s : ℤ). s +ℤ f.constant *ℤ d) (list_dot-moved f.coefs z r n)
    ∙ regroup _ _ _ _ (mul-zero_ℤ f.constant (pos 0) refl)
  where
    regroup : (a b c k : ℤ) → k ≡ pos 0 → (a +ℤ n *ℤ b) +ℤ c ≡ (a +ℤ c) +ℤ n *ℤ (b +ℤ k)
    regroup a b c k e = swap a c (n *ℤ b) ∙ ap (λ (s : ℤ). (a +ℤ c) +ℤ n *ℤ s) (plus b k e)
      where
        plus : (b k : ℤ) → k ≡ pos 0 → b ≡ b +ℤ k
        plus b k e = omega (arith, ints)

        swap : (a c m : ℤ) → (a +ℤ m) +ℤ c ≡ (a +ℤ c) +ℤ m
        swap a c m = omega (arith, ints)

-- if a number is at least 0 however often another one is added, the other is at least 0
never-below : (a b : ℤ) → ((n : ℕ) → pos 0 ≤ℤ (a +ℤ pos n *ℤ b)) → pos 0 ≤ℤ b
never-below a (pos b) h = omega (arith, ints)
never-below a (negsuc b) h = absurd (clash a (nat_abs a) (under a) (h (suc (nat_abs a))))
  where
    under : (a : ℤ) → a ≤ℤ pos (nat_abs a)
    under (pos n) = omega (arith, ints)
    under (negsuc n) = omega (arith, ints)

    split : (m : ℕ) → pos (suc m) *ℤ negsuc b ≡ neg_ℤ (pos (suc m * suc b))
    split m = omega (arith, ints)

    more : (m : ℕ) → suc m ≤ suc m * suc b
    more m = omega (arith, ints)

    clash : (a : ℤ) (m : ℕ) → a ≤ℤ pos m → pos 0 ≤ℤ (a +ℤ pos (suc m) *ℤ negsuc b) → ⊥
    clash a m l k = omega (arith, ints, l, k, split m, more m)

-- a point of the rows moved along a ray of the rows is a point of the rows
moved-point : (rows : List Form) (z r : ℕ → ℤ) (d : ℤ) (n : ℕ) → IsPoint rows z d → Meets rows r (pos 0) → IsPoint rows (moved z (pos n) r) d
moved-point rows z r d n point ray = record {
  denominator = point.denominator;
  meets = record {
    each = All-from_get_or (λ f. pos 0 ≤ℤ form_value f (moved z (pos n) r) d) rows zero_form (λ i l.
        above _ _ _ (form_value-moved (get_or rows i zero_form) z r (pos n) d)
        (All-get_or (λ f. pos 0 ≤ℤ form_value f z d) rows i zero_form l point.meets.each)
        (mul-nonneg_ℤ (pos n) _ (omega (arith, ints)) (All-get_or (λ f. pos 0 ≤ℤ form_value f r (pos 0)) rows i zero_form l ray.each)));
  };
}
  where
    above : (s a b : ℤ) → s ≡ a +ℤ b → pos 0 ≤ℤ a → pos 0 ≤ℤ b → pos 0 ≤ℤ s
    above s a b e l m = omega (arith, ints)

-- if a form is at least 0 on all points of rows that have a point, it is at least 0 at each point and along each ray
pub element-value : (rows : List Form) (f : Form) (r : ℕ → ℤ) (s : ℤ)
    → ((z : ℕ → ℤ) (d : ℤ) → IsPoint rows z d → pos 0 ≤ℤ form_value f z d)
    → ((z : ℕ → ℤ) × (d : ℤ) × IsPoint rows z d)
    → pos 0 ≤ℤ s → Meets rows r s → pos 0 ≤ℤ form_value f r s
element-value rows f r (pos zero) h kept l meets =
    never-below (form_value f kept.0 kept.1) (form_value f r (pos 0))
    (λ n. subst (λ (v : ℤ). pos 0 ≤ℤ v) (form_value-moved f kept.0 r (pos n) kept.1) (h (moved kept.0 (pos n) r) kept.1 (moved-point rows kept.0 r kept.1 n kept.2 meets)))
element-value rows f r (pos (suc n)) h kept l meets = h r (pos (suc n)) (record { denominator = omega (arith, ints); meets = meets })
element-value rows f r (negsuc n) h kept l meets = absurd (omega (arith, ints, l))

-- the sum of the values of the goals, at the parameters, at the elements
abbrev pub goals_total : List Group → List Element → (ℕ → ℤ) → ℤ → ℤ
goals_total [] ss v e = pos 0
goals_total (g ∷ gs) [] v e = pos 0
goals_total (g ∷ gs) (s ∷ ss) v e = form_value (goal_at g v e) s.parts s.den +ℤ goals_total gs ss v e

-- the values of goals that are at least 0 on all points add up to at least 0 at elements
pub goals-nonneg : (gs : List Group) (ss : List Element) (v : ℕ → ℤ) (e : ℤ)
    → All (λ g. (z : ℕ → ℤ) (d : ℤ) → IsPoint g.rows z d → pos 0 ≤ℤ form_value (goal_at g v e) z d) gs
    → All (λ g. (z : ℕ → ℤ) × (d : ℤ) × IsPoint g.rows z d) gs
    → AreElements gs ss → pos 0 ≤ℤ goals_total gs ss v e
goals-nonneg [] ss v e h kept elements = omega (arith, ints)
goals-nonneg (g ∷ gs) [] v e h kept elements = omega (arith, ints)
goals-nonneg (g ∷ gs) (s ∷ ss) v e h kept elements =
    both _ _
    (element-value g.rows (goal_at g v e) s.parts s.den (All-head Hold g gs h) (All-head Kept g gs kept) elements.0.0 elements.0.1)
    (goals-nonneg gs ss v e (All-tail Hold g gs h) (All-tail Kept g gs kept) elements.1)
  where
    Hold : Group → Type 0
    Hold g = (z : ℕ → ℤ) (d : ℤ) → IsPoint g.rows z d → pos 0 ≤ℤ form_value (goal_at g v e) z d

    Kept : Group → Type 0
    Kept g = (z : ℕ → ℤ) × (d : ℤ) × IsPoint g.rows z d

    both : (a b : ℤ) → pos 0 ≤ℤ a → pos 0 ≤ℤ b → pos 0 ≤ℤ (a +ℤ b)
    both a b l m = omega (arith, ints)

-- the sum of the goal forms' values times the parameters, by positions
positions : (parameters : ℕ) (fs : List Form) (v z : ℕ → ℤ) (d : ℤ) → length fs ≡ parameters
    → list_dot (map (λ f. form_value f z d) fs) v ≡ sum_to parameters (λ p. form_value (get_or fs p zero_form) z d *ℤ v p)
positions parameters fs v z d e =
    sym (list_dot-sum (map (λ f. form_value f z d) fs) parameters v (omega (arith, e, length-map (λ f. form_value f z d) fs)))
    ∙ sum_to-same parameters (λ p. get_or (map (λ f. form_value f z d) fs) p (pos 0) *ℤ v p) (λ p. form_value (get_or fs p zero_form) z d *ℤ v p)
    (λ p l. ap (λ (a : ℤ). a *ℤ v p) (get_or-map (λ f. form_value f z d) fs p (pos 0) zero_form (omega (arith, l, e))))

-- without groups all totals are 0
no-totals : (parameters : ℕ) (v : ℕ → ℤ) (e : ℤ) → pos 0 ≡ sum_to parameters (λ p. pos 0 *ℤ v p) +ℤ e *ℤ pos 0
no-totals parameters v e =
    nothing _ _ (sum_to-zero parameters (λ p. pos 0 *ℤ v p) (λ p _. zero-mul_ℤ (pos 0) (v p) refl)) (mul-zero_ℤ e (pos 0) refl)
  where
    nothing : (s a : ℤ) → s ≡ pos 0 → a ≡ pos 0 → pos 0 ≡ s +ℤ a
    nothing s a e f = omega (arith, ints)

-- the goals' values are the totals times the parameters, plus the fixed forms' total times the denominator
pub goals-by_totals : (parameters : ℕ) (gs : List Group) (ss : List Element) (v : ℕ → ℤ) (e : ℤ) → All (IsGroupShaped parameters) gs
    → goals_total gs ss v e ≡ sum_to parameters (λ p. total_of p gs ss *ℤ v p) +ℤ e *ℤ fixed_total gs ss
goals-by_totals parameters [] ss v e shape = no-totals parameters v e
goals-by_totals parameters (g ∷ gs) [] v e shape = no-totals parameters v e
goals-by_totals parameters (g ∷ gs) (s ∷ ss) v e shape =
    regroup _ _ _ (e *ℤ form_value g.fixed s.parts s.den) _ _ (e *ℤ fixed_total gs ss) _ _
    (form_value-goal g v e s.parts s.den)
    (positions parameters g.goals v s.parts s.den (All-head (IsGroupShaped parameters) g gs shape).goals_are)
    (goals-by_totals parameters gs ss v e (All-tail (IsGroupShaped parameters) g gs shape))
    (sum_to-same parameters (λ p. (here p +ℤ total_of p gs ss) *ℤ v p) (λ p. here p *ℤ v p +ℤ total_of p gs ss *ℤ v p) (λ p _. add-mul_ℤ (here p) (total_of p gs ss) (v p))
    ∙ sum_to-add parameters (λ p. here p *ℤ v p) (λ p. total_of p gs ss *ℤ v p))
    (mul-add_ℤ e (form_value g.fixed s.parts s.den) (fixed_total gs ss))
  where
    here : ℕ → ℤ
    here p = form_value (get_or g.goals p zero_form) s.parts s.den

    regroup : (a b c m t s f n r : ℤ) → a ≡ b +ℤ m → b ≡ c → t ≡ s +ℤ f → n ≡ c +ℤ s → r ≡ m +ℤ f → a +ℤ t ≡ n +ℤ r
    regroup a b c m t s f n r i j l o p = omega (arith, ints, i, j, l, o, p)

-- if elements refute a question whose groups have points, no parameters make its goals at least 0 on all points
pub refuted-has_none : (q : Question) (ss : List Element) → IsShaped q → Refutes q ss → HavePoints q → (v : ℕ → ℤ) (e : ℤ) → ¬ HoldOnPoints q v e
refuted-has_none q ss shape refutes kept v e hold =
    clash _ _ _
    (goals-nonneg q.groups ss v e hold.each kept.each refutes.elements)
    (goals-by_totals q.parameters q.groups ss v e shape.groups_are)
    (sum_to-zero q.parameters (λ p. total_of p q.groups ss *ℤ v p) (λ p l. zero-mul_ℤ (total_of p q.groups ss) (v p) (refutes.balanced p l)))
    (under _ refutes.below)
  where
    clash : (t s f : ℤ) → pos 0 ≤ℤ t → t ≡ s +ℤ f → s ≡ pos 0 → f <ℤ pos 0 → ⊥
    clash t s f l i j m = omega (arith, ints)

    from_negated : (a b : ℤ) → a ≡ neg_ℤ b → pos 0 <ℤ a → b <ℤ pos 0
    from_negated a b i l = omega (arith, ints)

    under : (f : ℤ) → f <ℤ pos 0 → (e *ℤ f) <ℤ pos 0
    under f l = from_negated (e *ℤ neg_ℤ f) (e *ℤ f) (identity (e ∷ f ∷ []) (variable 0 ⊗ negated (variable 1)) (negated (variable 0 ⊗ variable 1)) refl)
        (mul-positive_ℤ e (neg_ℤ f) hold.denominator (opposite f l))
      where
        opposite : (f : ℤ) → f <ℤ pos 0 → pos 0 <ℤ neg_ℤ f
        opposite f l = omega (arith, ints)
