-- Prices of a question's program bound the weights of all parameters.
use Rattle.std.proofs.Common.{◌≡◌, ℕ, zero, suc, ◌+◌, ◌<◌, ap, arith, refl, sym, subst, ◌∙◌, List, [], ◌∷◌, length}
use Rattle.std.proofs.Common.{get_or}
use Rattle.std.specs.Prelude.{ℤ, pos, negsuc, ◌+ℤ◌, ◌-ℤ◌, ◌*ℤ◌, neg_ℤ, ◌≤ℤ◌, ◌<ℤ◌, nat_abs}
use Rattle.std.proofs.lemmas.Int.{ints}
use Rattle.int_laws.specs.Sums.{sum_to, dot}
use Rattle.int_laws.specs.Polynomial.{variable, constant, ◌⊕◌, ◌⊗◌, negated}
use Rattle.int_laws.proofs.Identities.{identity, identity_by_one}
use Rattle.int_laws.proofs.RingLaws.{zero-mul_ℤ, mul_comm_ℤ}
use Rattle.int_laws.proofs.OrderLaws.{mul-nonneg_ℤ, mul-le-mul_ℤ, le-of-mul_ℤ}
use Rattle.int_laws.proofs.DotLaws.{combined-times}
use Rattle.int_laws.proofs.SumLaws.{sum_to-same, sum_to-zero, sum_to-add, sum_to-scale, sum_to-le, sum_to-split}
use Rattle.linear_forms.specs.Forms.{at}
use Rattle.linear_forms.specs.LinearProgram.{IsSolution, HasPrices, IsLeast}
use Rattle.linear_forms.specs.Questions.{Question, IsShaped, double, group_columns, on_both, on_plus}
use Rattle.linear_forms.specs.Questions.{program_of_question}
use Rattle.linear_forms.specs.QuestionLaws.{Element, parameters_of, elements_of, total_of, fixed_total, HoldOnPoints}
use Rattle.linear_forms.specs.QuestionLaws.{HavePoints, positive_part, negative_part, pair_weight, size_weight}
use Rattle.linear_forms.specs.QuestionLaws.{height_weight, IsOnParameters}
use Rattle.linear_forms.proofs.ElementLaws.{plus-column, minus-column, double-below, program-column, program-right}
use Rattle.linear_forms.proofs.ElementLaws.{program-columns, program-elements}
use Rattle.linear_forms.proofs.RefutationLaws.{goals-nonneg, goals-by_totals}

-- a sum over pairs is the sum of those over each pair
sum_to-pairs : (n : ℕ) (f : ℕ → ℤ) → sum_to (double n) f ≡ sum_to n (λ p. f (double p) +ℤ f (suc (double p)))
sum_to-pairs zero f = refl
sum_to-pairs (suc n) f = regroup _ _ (f (double n)) (f (suc (double n))) (sum_to-pairs n f)
  where
    regroup : (s v a b : ℤ) → s ≡ v → (s +ℤ a) +ℤ b ≡ v +ℤ (a +ℤ b)
    regroup s v a b e = omega (arith, ints)

-- the cost of a point is the cost of its pairs
cost-pairs : (q : Question) (cost x : ℕ → ℤ) → IsOnParameters q cost
    → dot (program_of_question q).columns cost x ≡ sum_to q.parameters (λ p. cost (double p) *ℤ x (double p) +ℤ cost (suc (double p)) *ℤ x (suc (double p)))
cost-pairs q cost x on =
    ap (λ (n : ℕ). dot n cost x) (program-columns q)
    ∙ (sum_to-split (double q.parameters) (group_columns q.groups) (λ j. cost j *ℤ x j)
    ∙ alone _ _ _ (sum_to-pairs q.parameters (λ j. cost j *ℤ x j))
    (sum_to-zero (group_columns q.groups) (λ k. cost (double q.parameters + k) *ℤ x (double q.parameters + k)) (λ k _. zero-mul_ℤ _ (x (double q.parameters + k)) (on.each k))))
  where
    alone : (a b c : ℤ) → a ≡ c → b ≡ pos 0 → a +ℤ b ≡ c
    alone a b c e f = omega (arith, ints)

-- the positive part of a difference is at most the first number, if the other is at least 0
positive-part-below : (a b : ℤ) → pos 0 ≤ℤ a → pos 0 ≤ℤ b → positive_part (a -ℤ b) ≤ℤ a
positive-part-below a b l m = go (a -ℤ b) refl
  where
    go : (z : ℤ) → a -ℤ b ≡ z → positive_part z ≤ℤ a
    go (pos n) e = omega (arith, ints)
    go (negsuc n) e = l

-- the negative part of a difference is at most the second number, if the other is at least 0
negative-part-below : (a b : ℤ) → pos 0 ≤ℤ a → pos 0 ≤ℤ b → negative_part (a -ℤ b) ≤ℤ b
negative-part-below a b l m = go (a -ℤ b) refl
  where
    go : (z : ℤ) → a -ℤ b ≡ z → negative_part z ≤ℤ b
    go (pos n) e = m
    go (negsuc n) e = omega (arith, ints)

-- the parameters of a point weigh at most what the point costs
pub own-weight : (q : Question) (cost x : ℕ → ℤ) → IsOnParameters q cost
    → ((j : ℕ) → j < (program_of_question q).columns → (pos 0 ≤ℤ cost j) × (pos 0 ≤ℤ x j))
    → pair_weight q cost (parameters_of x) ≤ℤ dot (program_of_question q).columns cost x
own-weight q cost x on h =
    subst (λ (z : ℤ). pair_weight q cost (parameters_of x) ≤ℤ z) (sym (cost-pairs q cost x on))
    (sum_to-le q.parameters (λ p. cost (double p) *ℤ positive_part (parameters_of x p) +ℤ cost (suc (double p)) *ℤ negative_part (parameters_of x p))
    (λ p. cost (double p) *ℤ x (double p) +ℤ cost (suc (double p)) *ℤ x (suc (double p)))
    (λ p l. both _ _ _ _
    (mul-le-mul_ℤ (cost (double p)) _ _ (plus p l).0 (positive-part-below (x (double p)) (x (suc (double p))) (plus p l).1 (minus p l).1))
    (mul-le-mul_ℤ (cost (suc (double p))) _ _ (minus p l).0 (negative-part-below (x (double p)) (x (suc (double p))) (plus p l).1 (minus p l).1))))
  where
    both : (a b c d : ℤ) → a ≤ℤ c → b ≤ℤ d → (a +ℤ b) ≤ℤ (c +ℤ d)
    both a b c d l m = omega (arith, ints)

    inside : (j : ℕ) → j < double q.parameters → j < (program_of_question q).columns
    inside j l = subst (λ (n : ℕ). j < n) (sym (program-columns q)) (omega arith)

    plus : (p : ℕ) → p < q.parameters → (pos 0 ≤ℤ cost (double p)) × (pos 0 ≤ℤ x (double p))
    plus p l = h (double p) (inside (double p) (omega (arith, double-below p q.parameters l)))

    minus : (p : ℕ) → p < q.parameters → (pos 0 ≤ℤ cost (suc (double p))) × (pos 0 ≤ℤ x (suc (double p)))
    minus p l = h (suc (double p)) (inside (suc (double p)) (double-below p q.parameters l))

-- a number between bounds times a parameter is at most the bounds times the parameter's positive and negative parts
bounded-term : (t a b z : ℤ) → t ≤ℤ a → neg_ℤ t ≤ℤ b → (t *ℤ z) ≤ℤ (a *ℤ positive_part z +ℤ b *ℤ negative_part z)
bounded-term t a b (pos n) l m =
    at_most _ _ _ _ _
    (identity (t ∷ pos n ∷ []) (variable 0 ⊗ variable 1) (variable 1 ⊗ variable 0) refl) (identity (a ∷ pos n ∷ []) (variable 0 ⊗ variable 1) (variable 1 ⊗ variable 0) refl) (nothing b)
    (mul-le-mul_ℤ (pos n) t a (omega (arith, ints)) l)
  where
    nothing : (b : ℤ) → b *ℤ pos 0 ≡ pos 0
    nothing b = omega (arith, ints)

    at_most : (s m r k w : ℤ) → s ≡ m → r ≡ k → w ≡ pos 0 → m ≤ℤ k → s ≤ℤ (r +ℤ w)
    at_most s m r k w e f g l = omega (arith, ints)
bounded-term t a b (negsuc n) l m =
    at_most _ _ _ _ _
    (identity (t ∷ pos (suc n) ∷ []) (variable 0 ⊗ negated (variable 1)) (variable 1 ⊗ negated (variable 0)) refl)
    (identity (b ∷ pos (suc n) ∷ []) (variable 0 ⊗ variable 1) (variable 1 ⊗ variable 0) refl) (nothing a)
    (mul-le-mul_ℤ (pos (suc n)) (neg_ℤ t) b (omega (arith, ints)) m)
  where
    nothing : (b : ℤ) → b *ℤ pos 0 ≡ pos 0
    nothing b = omega (arith, ints)

    at_most : (s m r k w : ℤ) → s ≡ m → r ≡ k → w ≡ pos 0 → m ≤ℤ k → s ≤ℤ (w +ℤ r)
    at_most s m r k w e f g l = omega (arith, ints)

-- a scale can be taken out of the costs of the two parts
scaled-parts : (s a b v w : ℤ) → (s *ℤ a) *ℤ v +ℤ (s *ℤ b) *ℤ w ≡ s *ℤ (a *ℤ v +ℤ b *ℤ w)
scaled-parts s a b v w = identity (s ∷ a ∷ b ∷ v ∷ w ∷ [])
    ((variable 0 ⊗ variable 1) ⊗ variable 3 ⊕ (variable 0 ⊗ variable 2) ⊗ variable 4)
    (variable 0 ⊗ (variable 1 ⊗ variable 3 ⊕ variable 2 ⊗ variable 4)) refl

-- the product of prices with the right sides, times the denominator, is at most the weight of the parameters, times the
-- scale
priced-right : (q : Question) (cost : ℕ → ℤ) (scale : ℤ) (price : ℕ → ℤ) → IsShaped q → HavePoints q → IsOnParameters q cost
    → ((j : ℕ) → j < (program_of_question q).columns → dot (program_of_question q).rows price (λ i. (program_of_question q).entry i j) ≤ℤ (scale *ℤ cost j))
    → (v : ℕ → ℤ) (e : ℤ) → HoldOnPoints q v e
    → (e *ℤ dot (program_of_question q).rows price (program_of_question q).right) ≤ℤ (scale *ℤ pair_weight q cost v)
priced-right q cost scale price shape kept on h v e hold =
    joined _ _ _ _ _ _
    (goals-nonneg q.groups elements v e hold.each kept.each
    (program-elements q price shape (λ k l. subst (λ (z : ℤ). dot (program_of_question q).rows price (λ i. (program_of_question q).entry i (double q.parameters + k)) ≤ℤ z) (ap (λ (z : ℤ). scale *ℤ z) (on.each k) ∙ nothing scale)
    (h (double q.parameters + k) (subst (λ (n : ℕ). double q.parameters + k < n) (sym (program-columns q)) (omega arith))))))
    (goals-by_totals q.parameters q.groups elements v e shape.groups_are)
    (ap (λ (z : ℤ). e *ℤ z) (program-right q price shape) ∙ identity (e ∷ fixed_total q.groups elements ∷ []) (variable 0 ⊗ negated (variable 1)) (negated (variable 0 ⊗ variable 1)) refl)
    (sum_to-le q.parameters (λ p. total_of p q.groups elements *ℤ v p) (λ p. (scale *ℤ cost (double p)) *ℤ positive_part (v p) +ℤ (scale *ℤ cost (suc (double p))) *ℤ negative_part (v p))
    (λ p l. bounded-term (total_of p q.groups elements) _ _ (v p)
    (subst (λ (z : ℤ). z ≤ℤ (scale *ℤ cost (double p))) (program-column q price (double p) ∙ plus-column q.parameters 0 q.groups price p shape.groups_are l)
    (h (double p) (inside (double p) (omega (arith, double-below p q.parameters l)))))
    (subst (λ (z : ℤ). z ≤ℤ (scale *ℤ cost (suc (double p)))) (program-column q price (suc (double p)) ∙ minus-column q.parameters 0 q.groups price p shape.groups_are l)
    (h (suc (double p)) (inside (suc (double p)) (double-below p q.parameters l))))))
    (sum_to-same q.parameters (λ p. (scale *ℤ cost (double p)) *ℤ positive_part (v p) +ℤ (scale *ℤ cost (suc (double p))) *ℤ negative_part (v p))
    (λ p. scale *ℤ (cost (double p) *ℤ positive_part (v p) +ℤ cost (suc (double p)) *ℤ negative_part (v p)))
    (λ p _. scaled-parts scale (cost (double p)) (cost (suc (double p))) (positive_part (v p)) (negative_part (v p)))
    ∙ sum_to-scale q.parameters scale (λ p. cost (double p) *ℤ positive_part (v p) +ℤ cost (suc (double p)) *ℤ negative_part (v p)))
  where
    elements : List Element
    elements = elements_of price q.groups

    nothing : (b : ℤ) → b *ℤ pos 0 ≡ pos 0
    nothing b = omega (arith, ints)

    inside : (j : ℕ) → j < double q.parameters → j < (program_of_question q).columns
    inside j l = subst (λ (n : ℕ). j < n) (sym (program-columns q)) (omega arith)

    joined : (t s f r b w : ℤ) → pos 0 ≤ℤ t → t ≡ s +ℤ f → r ≡ neg_ℤ f → s ≤ℤ b → b ≡ w → r ≤ℤ w
    joined t s f r b w l i j m k = omega (arith, ints)

-- a solution with prices costs at most what any parameters weigh, by cross products
pub priced-weight : (q : Question) (cost x : ℕ → ℤ) (d : ℤ) → IsShaped q → HavePoints q → IsOnParameters q cost → pos 0 <ℤ d
    → HasPrices (program_of_question q) cost x d → (v : ℕ → ℤ) (e : ℤ) → HoldOnPoints q v e
    → (dot (program_of_question q).columns cost x *ℤ e) ≤ℤ (pair_weight q cost v *ℤ d)
priced-weight q cost x d shape kept on over prices v e hold =
    crossed prices.q (dot (program_of_question q).rows prices.price (program_of_question q).right) (dot (program_of_question q).columns cost x) (pair_weight q cost v)
    prices.are_prices.denominator prices.are_prices.exact (priced-right q cost prices.q prices.price shape kept on prices.are_prices.columns v e hold)
  where
    weak : (z : ℤ) → pos 0 <ℤ z → pos 0 ≤ℤ z
    weak z l = omega (arith, ints)

    swapped : (v w a b : ℤ) → v ≡ a → w ≡ b → a ≤ℤ b → v ≤ℤ w
    swapped v w a b f g l = omega (arith, ints)

    crossed : (s r a b : ℤ) → pos 0 <ℤ s → r *ℤ d ≡ s *ℤ a → (e *ℤ r) ≤ℤ (s *ℤ b) → (a *ℤ e) ≤ℤ (b *ℤ d)
    crossed s r a b positive exact below =
        le-of-mul_ℤ s (a *ℤ e) (b *ℤ d) positive
        (swapped _ _ _ _
        (identity_by_one (s ∷ r ∷ a ∷ d ∷ e ∷ []) (variable 0 ⊗ (variable 2 ⊗ variable 4)) (variable 3 ⊗ (variable 4 ⊗ variable 1))
        (variable 4) (variable 0 ⊗ variable 2) (variable 1 ⊗ variable 3) (sym exact) refl)
        (identity (s ∷ b ∷ d ∷ []) (variable 0 ⊗ (variable 1 ⊗ variable 2)) (variable 2 ⊗ (variable 0 ⊗ variable 1)) refl)
        (mul-le-mul_ℤ d (e *ℤ r) (s *ℤ b) (weak d over) below))

-- the plus columns have the sizes as costs
sizes-plus : (cs : List ℕ) (p : ℕ) → at (on_both cs) (double p) ≡ pos (get_or cs p 0)
sizes-plus [] p = refl
sizes-plus (c ∷ cs) zero = refl
sizes-plus (c ∷ cs) (suc p) = sizes-plus cs p

-- the minus columns have the sizes as costs
sizes-minus : (cs : List ℕ) (p : ℕ) → at (on_both cs) (suc (double p)) ≡ pos (get_or cs p 0)
sizes-minus [] p = refl
sizes-minus (c ∷ cs) zero = refl
sizes-minus (c ∷ cs) (suc p) = sizes-minus cs p

-- the plus columns have the heights as costs
heights-plus : (cs : List ℕ) (p : ℕ) → at (on_plus cs) (double p) ≡ pos (get_or cs p 0)
heights-plus [] p = refl
heights-plus (c ∷ cs) zero = refl
heights-plus (c ∷ cs) (suc p) = heights-plus cs p

-- the minus columns have no heights as costs
heights-minus : (cs : List ℕ) (p : ℕ) → at (on_plus cs) (suc (double p)) ≡ pos 0
heights-minus [] p = refl
heights-minus (c ∷ cs) zero = refl
heights-minus (c ∷ cs) (suc p) = heights-minus cs p

-- the columns after the parameters have no sizes as costs
sizes-past : (cs : List ℕ) (n k : ℕ) → length cs ≡ n → at (on_both cs) (double n + k) ≡ pos 0
sizes-past [] n k e = refl
sizes-past (c ∷ cs) zero k e = absurd (omega arith)
sizes-past (c ∷ cs) (suc n) k e = ap (λ (j : ℕ). at (on_both (c ∷ cs)) j) (shift (double n)) ∙ sizes-past cs n k (omega arith)
  where
    shift : (m : ℕ) → suc (suc m) + k ≡ suc (suc (m + k))
    shift m = omega arith

-- the columns after the parameters have no heights as costs
heights-past : (cs : List ℕ) (n k : ℕ) → length cs ≡ n → at (on_plus cs) (double n + k) ≡ pos 0
heights-past [] n k e = refl
heights-past (c ∷ cs) zero k e = absurd (omega arith)
heights-past (c ∷ cs) (suc n) k e = ap (λ (j : ℕ). at (on_plus (c ∷ cs)) j) (shift (double n)) ∙ heights-past cs n k (omega arith)
  where
    shift : (m : ℕ) → suc (suc m) + k ≡ suc (suc (m + k))
    shift m = omega arith

-- no size is negative
pub sizes-nonneg : (cs : List ℕ) (j : ℕ) → pos 0 ≤ℤ at (on_both cs) j
sizes-nonneg [] j = omega (arith, ints)
sizes-nonneg (c ∷ cs) zero = omega (arith, ints)
sizes-nonneg (c ∷ cs) (suc zero) = omega (arith, ints)
sizes-nonneg (c ∷ cs) (suc (suc j)) = sizes-nonneg cs j

-- no height is negative
pub heights-nonneg : (cs : List ℕ) (j : ℕ) → pos 0 ≤ℤ at (on_plus cs) j
heights-nonneg [] j = omega (arith, ints)
heights-nonneg (c ∷ cs) zero = omega (arith, ints)
heights-nonneg (c ∷ cs) (suc zero) = omega (arith, ints)
heights-nonneg (c ∷ cs) (suc (suc j)) = heights-nonneg cs j

-- the second costs plus a multiple of the first
abbrev lifted : Question → ℕ → ℕ → ℤ
lifted q m j = at (on_plus q.heights) j +ℤ pos m *ℤ at (on_both q.sizes) j

-- the sizes are costs of the parameters' columns only
sizes-on : (q : Question) → IsShaped q → IsOnParameters q (at (on_both q.sizes))
sizes-on q shape = record { each = λ k. sizes-past q.sizes q.parameters k shape.sizes_are }

-- the second costs plus a multiple of the first are costs of the parameters' columns only
lifted-on : (q : Question) (m : ℕ) → IsShaped q → IsOnParameters q (lifted q m)
lifted-on q m shape = record { each = λ k. nothing _ _ (heights-past q.heights q.parameters k shape.heights_are) (sizes-past q.sizes q.parameters k shape.sizes_are) }
  where
    nothing : (a b : ℤ) → a ≡ pos 0 → b ≡ pos 0 → a +ℤ pos m *ℤ b ≡ pos 0
    nothing a b e f = omega (arith, ints, e, ap (λ (z : ℤ). pos m *ℤ z) f)

-- the second costs plus a multiple of the first aren't negative
lifted-nonneg : (q : Question) (m j : ℕ) → pos 0 ≤ℤ lifted q m j
lifted-nonneg q m j = both _ _ (heights-nonneg q.heights j) (mul-nonneg_ℤ (pos m) _ (omega (arith, ints)) (sizes-nonneg q.sizes j))
  where
    both : (a b : ℤ) → pos 0 ≤ℤ a → pos 0 ≤ℤ b → pos 0 ≤ℤ (a +ℤ b)
    both a b l k = omega (arith, ints)

-- the same size on both parts is that size on the absolute value
size-term : (c : ℤ) (z : ℤ) → c *ℤ positive_part z +ℤ c *ℤ negative_part z ≡ c *ℤ pos (nat_abs z)
size-term c (pos n) = omega (arith, ints)
size-term c (negsuc n) = omega (arith, ints)

-- the weight by the first costs is the weight by the sizes
sizes-weigh : (q : Question) (v : ℕ → ℤ) → pair_weight q (at (on_both q.sizes)) v ≡ size_weight q v
sizes-weigh q v =
    sum_to-same q.parameters (λ p. at (on_both q.sizes) (double p) *ℤ positive_part (v p) +ℤ at (on_both q.sizes) (suc (double p)) *ℤ negative_part (v p))
    (λ p. pos (get_or q.sizes p 0) *ℤ pos (nat_abs (v p)))
    (λ p _. ap (λ (c : ℤ). c *ℤ positive_part (v p) +ℤ at (on_both q.sizes) (suc (double p)) *ℤ negative_part (v p)) (sizes-plus q.sizes p)
    ∙ (ap (λ (c : ℤ). pos (get_or q.sizes p 0) *ℤ positive_part (v p) +ℤ c *ℤ negative_part (v p)) (sizes-minus q.sizes p)
    ∙ size-term (pos (get_or q.sizes p 0)) (v p)))

-- the weight by the second costs plus a multiple of the first is that by the heights plus the multiple of that by the
-- sizes
lifted-weigh : (q : Question) (m : ℕ) (v : ℕ → ℤ) → pair_weight q (lifted q m) v ≡ height_weight q v +ℤ pos m *ℤ size_weight q v
lifted-weigh q m v =
    sum_to-same q.parameters (λ p. lifted q m (double p) *ℤ positive_part (v p) +ℤ lifted q m (suc (double p)) *ℤ negative_part (v p))
    (λ p. high p +ℤ pos m *ℤ wide p)
    (λ p _. term p (heights-plus q.heights p) (heights-minus q.heights p) (sizes-plus q.sizes p) (sizes-minus q.sizes p))
    ∙ (sum_to-add q.parameters high (λ p. pos m *ℤ wide p) ∙ ap (λ (z : ℤ). height_weight q v +ℤ z) (sum_to-scale q.parameters (pos m) wide))
  where
    high : ℕ → ℤ
    high p = pos (get_or q.heights p 0) *ℤ positive_part (v p)

    wide : ℕ → ℤ
    wide p = pos (get_or q.sizes p 0) *ℤ pos (nat_abs (v p))

    regroup : (h m s a b w : ℤ) → s *ℤ a +ℤ s *ℤ b ≡ w → (h +ℤ m *ℤ s) *ℤ a +ℤ (pos 0 +ℤ m *ℤ s) *ℤ b ≡ h *ℤ a +ℤ m *ℤ w
    regroup h m s a b w e =
        identity (h ∷ m ∷ s ∷ a ∷ b ∷ [])
        ((variable 0 ⊕ variable 1 ⊗ variable 2) ⊗ variable 3 ⊕ (constant (pos 0) ⊕ variable 1 ⊗ variable 2) ⊗ variable 4)
        (variable 0 ⊗ variable 3 ⊕ variable 1 ⊗ (variable 2 ⊗ variable 3 ⊕ variable 2 ⊗ variable 4)) refl
        ∙ ap (λ (z : ℤ). h *ℤ a +ℤ m *ℤ z) e

    term : (p : ℕ) {a b c d : ℤ} → a ≡ pos (get_or q.heights p 0) → b ≡ pos 0 → c ≡ pos (get_or q.sizes p 0) → d ≡ pos (get_or q.sizes p 0)
        → (a +ℤ pos m *ℤ c) *ℤ positive_part (v p) +ℤ (b +ℤ pos m *ℤ d) *ℤ negative_part (v p) ≡ high p +ℤ pos m *ℤ wide p
    term p {b = b} {c = c} {d = d} i j k l =
        ap (λ (z : ℤ). (z +ℤ pos m *ℤ c) *ℤ positive_part (v p) +ℤ (b +ℤ pos m *ℤ d) *ℤ negative_part (v p)) i
        ∙ (ap (λ (z : ℤ). (pos (get_or q.heights p 0) +ℤ pos m *ℤ c) *ℤ positive_part (v p) +ℤ (z +ℤ pos m *ℤ d) *ℤ negative_part (v p)) j
        ∙ (ap (λ (z : ℤ). (pos (get_or q.heights p 0) +ℤ pos m *ℤ z) *ℤ positive_part (v p) +ℤ (pos 0 +ℤ pos m *ℤ d) *ℤ negative_part (v p)) k
        ∙ (ap (λ (z : ℤ). (pos (get_or q.heights p 0) +ℤ pos m *ℤ pos (get_or q.sizes p 0)) *ℤ positive_part (v p) +ℤ (pos 0 +ℤ pos m *ℤ z) *ℤ negative_part (v p)) l
        ∙ regroup (pos (get_or q.heights p 0)) (pos m) (pos (get_or q.sizes p 0)) (positive_part (v p)) (negative_part (v p)) _
        (size-term (pos (get_or q.sizes p 0)) (v p)))))

-- a solution with prices, for costs of the parameters' columns, has parameters that weigh at most what any others weigh
weighs-least : (q : Question) (cost x : ℕ → ℤ) (d : ℤ) → IsShaped q → HavePoints q → IsOnParameters q cost → ((j : ℕ) → pos 0 ≤ℤ cost j)
    → IsSolution (program_of_question q) x d → HasPrices (program_of_question q) cost x d → (v : ℕ → ℤ) (e : ℤ) → HoldOnPoints q v e
    → (pair_weight q cost (parameters_of x) *ℤ e) ≤ℤ (pair_weight q cost v *ℤ d)
weighs-least q cost x d shape kept on nonneg s prices v e hold =
    through _ _ _ (own-weight q cost x on (λ j l. (nonneg j, s.nonnegative j l)))
    (priced-weight q cost x d shape kept on s.denominator prices v e hold)
  where
    at_most : (a b c d f : ℤ) → a ≡ c → b ≡ d → c ≤ℤ d → b ≤ℤ f → a ≤ℤ f
    at_most a b c d f i j l m = omega (arith, ints)

    weak : (z : ℤ) → pos 0 <ℤ z → pos 0 ≤ℤ z
    weak z l = omega (arith, ints)

    through : (a b f : ℤ) → a ≤ℤ b → (b *ℤ e) ≤ℤ f → (a *ℤ e) ≤ℤ f
    through a b f l m = at_most _ _ _ _ _ (mul_comm_ℤ a e) (mul_comm_ℤ b e) (mul-le-mul_ℤ e a b (weak e hold.denominator) l) m

-- the parameters of a solution of least cost weigh least by the sizes
pub least-sizes : (q : Question) (x : ℕ → ℤ) (d : ℤ) → IsShaped q → HavePoints q → IsSolution (program_of_question q) x d
    → IsLeast (program_of_question q) x d → (v : ℕ → ℤ) (e : ℤ) → HoldOnPoints q v e
    → (size_weight q (parameters_of x) *ℤ e) ≤ℤ (size_weight q v *ℤ d)
unfolding program_of_question
least-sizes q x d shape kept s least v e hold =
    subst (λ (z : ℤ). (z *ℤ e) ≤ℤ (size_weight q v *ℤ d)) (sizes-weigh q (parameters_of x))
    (subst (λ (z : ℤ). (pair_weight q (at (on_both q.sizes)) (parameters_of x) *ℤ e) ≤ℤ (z *ℤ d)) (sizes-weigh q v)
    (weighs-least q (at (on_both q.sizes)) x d shape kept (sizes-on q shape) (sizes-nonneg q.sizes) s least.first v e hold))

-- the parameters of a solution of least cost weigh least by the heights, among those of the same weight by the sizes
pub least-heights : (q : Question) (x : ℕ → ℤ) (d : ℤ) → IsShaped q → HavePoints q → IsSolution (program_of_question q) x d
    → IsLeast (program_of_question q) x d → (v : ℕ → ℤ) (e : ℤ) → HoldOnPoints q v e
    → size_weight q (parameters_of x) *ℤ e ≡ size_weight q v *ℤ d
    → (height_weight q (parameters_of x) *ℤ e) ≤ℤ (height_weight q v *ℤ d)
unfolding program_of_question
least-heights q x d shape kept s least v e hold same =
    left_out (pos least.multiple) _ _ (height_weight q (parameters_of x)) (height_weight q v) (size_weight q (parameters_of x)) (size_weight q v)
    (lifted-weigh q least.multiple (parameters_of x)) (lifted-weigh q least.multiple v) same
    (weighs-least q (lifted q least.multiple) x d shape kept (lifted-on q least.multiple shape) (lifted-nonneg q least.multiple) s least.second v e hold)
  where
    difference : (a b v w g k : ℤ) → v ≡ a +ℤ g → w ≡ b +ℤ k → g ≡ k → v ≤ℤ w → a ≤ℤ b
    difference a b v w g k f i l m = omega (arith, ints)

    left_out : (m u w a b f g : ℤ) → u ≡ a +ℤ m *ℤ f → w ≡ b +ℤ m *ℤ g → f *ℤ e ≡ g *ℤ d → (u *ℤ e) ≤ℤ (w *ℤ d) → (a *ℤ e) ≤ℤ (b *ℤ d)
    left_out m u w a b f g left right equal below =
        difference (a *ℤ e) (b *ℤ d) (u *ℤ e) (w *ℤ d) (m *ℤ (f *ℤ e)) (m *ℤ (g *ℤ d))
        (ap (λ (z : ℤ). z *ℤ e) left ∙ combined-times a m f e) (ap (λ (z : ℤ). z *ℤ d) right ∙ combined-times b m g d) (ap (λ (z : ℤ). m *ℤ z) equal) below
