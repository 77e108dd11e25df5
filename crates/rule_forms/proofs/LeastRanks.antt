-- A function that parameters represent weighs at most what the parameters weigh; so a solution of least cost gives a
-- function of least weight.
use Rattle.std.proofs.Common.{◌≡◌, ℕ, zero, suc, ◌+◌, ◌*◌, ◌<◌, ◌≤◌, ap, arith, refl, sym, ◌∙◌, subst, Bool, true}
use Rattle.std.proofs.Common.{false, cond, List, [], ◌∷◌, length, map, filter, ◌⊎◌, inl, inr, if◌then◌else◌, nat_eq}
use Rattle.std.specs.Prelude.{ℤ, pos, negsuc, ◌+ℤ◌, ◌*ℤ◌, nat_abs, slice_index_or, ◌≤ℤ◌}
use Rattle.std.specs.List.{range_with_len}
use Rattle.std.proofs.Math.Dec.{eqb-suc-zero}
use Rattle.std.proofs.lemmas.Int.{ints}
use Rattle.std.proofs.lemmas.Bool.{eqb-true, ne_eqb}
use Rattle.linear_forms.specs.int_laws.Sums.{sum_to}
use Rattle.linear_forms.proofs.int_laws.RingLaws.{mul_comm_ℤ}
use Rattle.linear_forms.proofs.int_laws.OrderLaws.{mul-le-mul_ℤ}
use Rattle.linear_forms.specs.Sizes.{total_size}
use Rattle.linear_forms.specs.LinearProgram.{IsSolution, IsLeast}
use Rattle.linear_forms.specs.Questions.{listed, program_of_question}
use Rattle.linear_forms.specs.QuestionLaws.{positive_part, size_weight, height_weight, parameters_of}
use Rattle.linear_forms.specs.RuleQuestions.{RankedSet, Coefficient, has_symbol, size_at, height_at}
use Rattle.linear_forms.specs.RuleQuestions.{rank_question}
use Rattle.linear_forms.proofs.ListLaws.{sum_to-first}
use Rattle.linear_forms.proofs.WeightLaws.{least-sizes, least-heights}
use Rattle.rule_forms.specs.Bounds.{height}
use Rattle.rule_forms.specs.Ranking.{Function, Ranks, Fits, over_entered, size_of, height_of, WeighsNoMore, IsLeastRank}
use Rattle.rule_forms.specs.RankLaws.{IsSetOf, HavePointsOf, coefficient, function_of}
use Rattle.rule_forms.proofs.Weights.{height-is, from-products, to-products}
use Rattle.rule_forms.proofs.Losses.{share, share-elsewhere, share-other, share-own}
use Rattle.rule_forms.proofs.RankGoals.{coefficients_of}
use Rattle.rule_forms.proofs.RankSolutions.{rank-shaped}
use Rattle.rule_forms.proofs.RankExclusion.{numbers_of, rank-points, ranks-hold}
use Rattle.rule_forms.proofs.RankWeights.{numbers-size, numbers-height}

-- a measure of the numbers at a symbol, given by place, together with bounds by the weights of the single coefficients
record Gauge (b : RankedSet) (gauge : (ℕ → ℤ) → ℕ → ℕ) (k : ℕ → ℕ) (m : ℤ → ℕ) : Type 0 where
  pub none : (y : ℕ → ℤ) (s : ℕ) → ((i : ℕ) → y i ≡ pos 0) → gauge y s ≡ 0
  pub sum : (y z : ℕ → ℤ) (s : ℕ) → gauge (λ i. y i +ℤ z i) s ≤ gauge y s + gauge z s
  pub single : (c : Coefficient) (x : ℤ) (s : ℕ) → nat_eq c.symbol s ≡ true
      → gauge (λ i. share c x s i) s ≤ k c.place * m x

-- the weight of the coefficients of a list at the parameters v
abbrev weight_of : (Coefficient → ℕ) → (ℤ → ℕ) → List Coefficient → (ℕ → ℤ) → ℕ
weight_of k m [] v = 0
weight_of k m (c ∷ cs) v = k c * m (v 0) + weight_of k m cs (λ p. v (suc p))

-- at entered symbols, a sum weighs at most as much as its parts together
over-sum : (b : RankedSet) (gauge : (ℕ → ℤ) → ℕ → ℕ) (k : ℕ → ℕ) (m : ℤ → ℕ) → Gauge b gauge k m
    → (y z : ℕ → ℕ → ℤ) (ss : List ℕ)
    → over_entered b.entered (λ s. gauge (λ i. y s i +ℤ z s i) s) ss
    ≤ over_entered b.entered (λ s. gauge (y s) s) ss + over_entered b.entered (λ s. gauge (z s) s) ss
over-sum b gauge k m is y z [] = omega arith
over-sum b gauge k m is y z (s ∷ ss) = go (b.entered s) (over-sum b gauge k m is y z ss)
  where
    go : (t : Bool) → over_entered b.entered (λ r. gauge (λ i. y r i +ℤ z r i) r) ss
        ≤ over_entered b.entered (λ r. gauge (y r) r) ss + over_entered b.entered (λ r. gauge (z r) r) ss
        → cond t (gauge (λ i. y s i +ℤ z s i) s) 0 + over_entered b.entered (λ r. gauge (λ i. y r i +ℤ z r i) r) ss
        ≤ cond t (gauge (y s) s) 0 + over_entered b.entered (λ r. gauge (y r) r) ss
        + (cond t (gauge (z s) s) 0 + over_entered b.entered (λ r. gauge (z r) r) ss)
    go true l = omega (arith, l, is.sum (y s) (z s) s)
    go false l = omega (arith, l)

-- a share weighs nothing at symbols that come after its own
share-behind : (b : RankedSet) (gauge : (ℕ → ℤ) → ℕ → ℕ) (k : ℕ → ℕ) (m : ℤ → ℕ) → Gauge b gauge k m
    → (c : Coefficient) (x : ℤ) (test : ℕ → Bool) (a n : ℕ)
    → c.symbol < a → over_entered b.entered (λ s. gauge (λ i. share c x s i) s) (filter test (range_with_len a n)) ≡ 0
share-behind b gauge k m is c x test a zero l = refl
share-behind b gauge k m is c x test a (suc n) l =
    go (test a) (b.entered a) (share-behind b gauge k m is c x test (a + 1) n (omega (arith, l)))
  where
    nothing : gauge (λ i. share c x a i) a ≡ 0
    nothing = is.none _ a (λ i. share-elsewhere c x a i (ne_eqb c.symbol a (λ e. omega (arith, e, l))))

    go : (t e : Bool) → over_entered b.entered (λ s. gauge (λ i. share c x s i) s)
        (filter test (range_with_len (a + 1) n)) ≡ 0
        → over_entered b.entered (λ s. gauge (λ i. share c x s i) s)
        (cond t (a ∷ filter test (range_with_len (a + 1) n)) (filter test (range_with_len (a + 1) n))) ≡ 0
    go false e h = h
    go true e h = inside (b.entered a)
      where
        inside : (e : Bool) → cond e (gauge (λ i. share c x a i) a) 0
            + over_entered b.entered (λ s. gauge (λ i. share c x s i) s) (filter test (range_with_len (a + 1) n)) ≡ 0
        inside true = omega (arith, h, nothing)
        inside false = omega (arith, h)

-- a share weighs at most its parameter's weight
share-weighs : (b : RankedSet) (gauge : (ℕ → ℤ) → ℕ → ℕ) (k : ℕ → ℕ) (m : ℤ → ℕ) → Gauge b gauge k m
    → (c : Coefficient) (x : ℤ) (test : ℕ → Bool) (a n : ℕ)
    → over_entered b.entered (λ s. gauge (λ i. share c x s i) s) (filter test (range_with_len a n))
    ≤ (if b.entered c.symbol then k c.place else 0) * m x
share-weighs b gauge k m is c x test a zero = omega arith
share-weighs b gauge k m is c x test a (suc n) = go (test a) (share-weighs b gauge k m is c x test (a + 1) n)
  where
    own : ℕ
    own = (if b.entered c.symbol then k c.place else 0) * m x

    which : (nat_eq c.symbol a ≡ true) ⊎ (nat_eq c.symbol a ≡ false)
        → over_entered b.entered (λ s. gauge (λ i. share c x s i) s) (filter test (range_with_len (a + 1) n))
        ≤ (if b.entered c.symbol then k c.place else 0) * m x
        → cond (b.entered a) (gauge (λ i. share c x a i) a) 0
        + over_entered b.entered (λ s. gauge (λ i. share c x s i) s) (filter test (range_with_len (a + 1) n))
        ≤ (if b.entered c.symbol then k c.place else 0) * m x
    which (inl e) h =
        here (b.entered a) (ap b.entered (eqb-true c.symbol a e))
        (share-behind b gauge k m is c x test (a + 1) n (omega (arith, eqb-true c.symbol a e)))
      where
        here : (t : Bool) → b.entered c.symbol ≡ t
            → over_entered b.entered (λ s. gauge (λ i. share c x s i) s) (filter test (range_with_len (a + 1) n)) ≡ 0
            → cond t (gauge (λ i. share c x a i) a) 0
            + over_entered b.entered (λ s. gauge (λ i. share c x s i) s) (filter test (range_with_len (a + 1) n))
            ≤ (if b.entered c.symbol then k c.place else 0) * m x
        here true f g =
            subst (λ (s : Bool). gauge (λ i. share c x a i) a
            + over_entered b.entered (λ s. gauge (λ i. share c x s i) s) (filter test (range_with_len (a + 1) n))
            ≤ (if s then k c.place else 0) * m x) (sym f) (omega (arith, g, is.single c x a e))
        here false f g = omega (arith, g)
    which (inr e) h = there (b.entered a)
      where
        there : (t : Bool) → cond t (gauge (λ i. share c x a i) a) 0
            + over_entered b.entered (λ s. gauge (λ i. share c x s i) s) (filter test (range_with_len (a + 1) n))
            ≤ (if b.entered c.symbol then k c.place else 0) * m x
        there true = omega (arith, h, is.none (λ i. share c x a i) a (λ i. share-elsewhere c x a i e))
        there false = omega (arith, h)

    decided : (t : Bool) → nat_eq c.symbol a ≡ t → (nat_eq c.symbol a ≡ true) ⊎ (nat_eq c.symbol a ≡ false)
    decided true e = inl e
    decided false e = inr e

    go : (t : Bool) → over_entered b.entered (λ s. gauge (λ i. share c x s i) s)
        (filter test (range_with_len (a + 1) n)) ≤ (if b.entered c.symbol then k c.place else 0) * m x
        → over_entered b.entered (λ s. gauge (λ i. share c x s i) s)
        (cond t (a ∷ filter test (range_with_len (a + 1) n)) (filter test (range_with_len (a + 1) n)))
        ≤ (if b.entered c.symbol then k c.place else 0) * m x
    go false h = h
    go true h = which (decided (nat_eq c.symbol a) refl) h

-- the function that parameters represent weighs at most what the parameters weigh
function-weighs : (b : RankedSet) (gauge : (ℕ → ℤ) → ℕ → ℕ) (k : ℕ → ℕ) (m : ℤ → ℕ) → Gauge b gauge k m
    → (cs : List Coefficient) (v : ℕ → ℤ) (test : ℕ → Bool) (a n : ℕ)
    → over_entered b.entered (λ s. gauge (λ i. coefficient cs v s i) s) (filter test (range_with_len a n))
    ≤ weight_of (λ c. if b.entered c.symbol then k c.place else 0) m cs v
function-weighs b gauge k m is [] v test a n = none (filter test (range_with_len a n))
  where
    none : (ss : List ℕ) → over_entered b.entered (λ s. gauge (λ i. pos 0) s) ss ≤ 0
    none [] = omega arith
    none (s ∷ ss) = go (b.entered s) (none ss)
      where
        go : (t : Bool) → over_entered b.entered (λ r. gauge (λ i. pos 0) r) ss ≤ 0
            → cond t (gauge (λ i. pos 0) s) 0 + over_entered b.entered (λ r. gauge (λ i. pos 0) r) ss ≤ 0
        go true h = omega (arith, h, is.none (λ i. pos 0) s (λ i. refl))
        go false h = omega (arith, h)
function-weighs b gauge k m is (c ∷ cs) v test a n =
    omega (
      arith,
      over-sum b gauge k m is (λ s i. share c (v 0) s i) (λ s i. coefficient cs (λ p. v (suc p)) s i)
          (filter test (range_with_len a n)),
      share-weighs b gauge k m is c (v 0) test a n,
      function-weighs b gauge k m is cs (λ p. v (suc p)) test a n,
    )

-- the absolute values of sums add up to at most those of their parts
triangle : (n : ℕ) (f g : ℕ → ℤ) → total_size (listed n (λ j. f j +ℤ g j)) ≤ total_size (listed n f)
    + total_size (listed n g)
triangle zero f g = omega arith
triangle (suc n) f g = omega (arith, absolute (f 0) (g 0), triangle n (λ j. f (suc j)) (λ j. g (suc j)))
  where
    absolute : (a b : ℤ) → nat_abs (a +ℤ b) ≤ nat_abs a + nat_abs b
    absolute a b = omega (arith, ints)

-- the absolute values of zeros add up to 0
listed-none : (n : ℕ) (f : ℕ → ℤ) → ((j : ℕ) → f j ≡ pos 0) → total_size (listed n f) ≡ 0
listed-none zero f h = refl
listed-none (suc n) f h = omega (arith, ap nat_abs (h 0), listed-none n (λ j. f (suc j)) (λ j. h (suc j)))

-- the absolute values of numbers that are all 0 but one add up to that of this one
listed-single : (n k : ℕ) (f : ℕ → ℤ) (most : ℕ) → ((j : ℕ) → (j ≡ k → ⊥) → f j ≡ pos 0) → nat_abs (f k) ≤ most
    → total_size (listed n f) ≤ most
listed-single zero k f most h l = omega arith
listed-single (suc n) zero f most h l =
    omega (arith, l, listed-none n (λ j. f (suc j)) (λ j. h (suc j) (λ e. omega (arith, e))))
listed-single (suc n) (suc k) f most h l =
    omega (
      arith,
      ap nat_abs (h 0 (λ e. omega (arith, e))),
      listed-single n k (λ j. f (suc j)) most
          (λ j d. h (suc j) (λ e. d (omega (arith, e)))) l,
    )

-- the sum of absolute values at the places is such a measure
sizes-gauge : (b : RankedSet) → Gauge b (λ y s. total_size (listed (b.arity s) (λ j. y (suc j))))
    (λ i. if nat_eq i 0 then 0 else 1) nat_abs
sizes-gauge b = record {
  none = λ y s h. listed-none (b.arity s) (λ j. y (suc j)) (λ j. h (suc j));
  sum = λ y z s. triangle (b.arity s) (λ j. y (suc j)) (λ j. z (suc j));
  single = λ c x s e. single c x s e c.place refl;
}
  where
    single : (c : Coefficient) (x : ℤ) (s : ℕ) → nat_eq c.symbol s ≡ true → (i : ℕ) → c.place ≡ i
        → total_size (listed (b.arity s) (λ j. share c x s (suc j))) ≤ (if nat_eq c.place 0 then 0 else 1) * nat_abs x
    single c x s e zero f =
        at_most _ _ (listed-none (b.arity s) (λ j. share c x s (suc j))
        (λ j. share-other c x s (suc j) (λ g. omega (arith, f, g))))
      where
        at_most : (m n : ℕ) → m ≡ 0 → m ≤ n
        at_most m n g = omega (arith, g)
    single c x s e (suc k) f = once (if nat_eq c.place 0 then 0 else 1) (nat_abs x) _
        (ap (λ (p : ℕ). if nat_eq p 0 then 0 else 1) f ∙ ap (λ t. if t then 0 else 1) (eqb-suc-zero k))
        (listed-single (b.arity s) k (λ j. share c x s (suc j)) (nat_abs x)
        (λ j d. share-other c x s (suc j) (λ g. d (omega (arith, f, g))))
        (equal _ _ (ap nat_abs (share-own c x s (suc k) e f))))
      where
        equal : (m n : ℕ) → m ≡ n → m ≤ n
        equal m n g = omega (arith, g)

        once : (u m n : ℕ) → u ≡ 1 → n ≤ m → n ≤ u * m
        once u m n g l = omega (arith, l, ap (λ (w : ℕ). w * m) g)

-- the positive part of the constant is such a measure
heights-gauge : (b : RankedSet) → Gauge b (λ y s. height (y 0)) (λ i. if nat_eq i 0 then 1 else 0) height
heights-gauge b = record {
  none = λ y s h. ap height (h 0);
  sum = λ y z s. positive (y 0) (z 0);
  single = λ c x s e. single c x s e c.place refl;
}
  where
    positive : (a b : ℤ) → height (a +ℤ b) ≤ height a + height b
    positive a b = whole (a +ℤ b) refl
      where
        under : (c : ℤ) → c ≤ℤ pos (height c)
        under (pos n) = omega (arith, ints)
        under (negsuc n) = omega (arith, ints)

        whole : (s : ℤ) → s ≡ a +ℤ b → height s ≤ height a + height b
        whole (pos n) e = omega (arith, ints, e, under a, under b)
        whole (negsuc n) e = omega arith

    single : (c : Coefficient) (x : ℤ) (s : ℕ) → nat_eq c.symbol s ≡ true → (i : ℕ) → c.place ≡ i
        → height (share c x s 0) ≤ (if nat_eq c.place 0 then 1 else 0) * height x
    single c x s e zero f =
        once (if nat_eq c.place 0 then 1 else 0) (height x) _ (ap (λ (p : ℕ). if nat_eq p 0 then 1 else 0) f)
        (ap height (share-own c x s 0 e f))
      where
        once : (u m n : ℕ) → u ≡ 1 → n ≡ m → n ≤ u * m
        once u m n g h = omega (arith, h, ap (λ (w : ℕ). w * m) g)
    single c x s e (suc k) f = at_most _ _ (ap height (share-other c x s 0 (λ g. omega (arith, f, g))))
      where
        at_most : (m n : ℕ) → m ≡ 0 → m ≤ n
        at_most m n g = omega (arith, g)

-- the weight of parameters, as a sum over the coefficients
weight-sum : (k : Coefficient → ℕ) (m : ℤ → ℕ) (n : ℤ → ℤ) (cs : List Coefficient) (v : ℕ → ℤ)
    → ((x : ℤ) → n x ≡ pos (m x))
    → sum_to (length cs) (λ p. pos (slice_index_or (map k cs) p 0) *ℤ n (v p)) ≡ pos (weight_of k m cs v)
weight-sum k m n [] v h = refl
weight-sum k m n (c ∷ cs) v h =
    sum_to-first (length cs) _ ∙ both (k c) (m (v 0)) _ _ _ (h (v 0)) (weight-sum k m n cs (λ p. v (suc p)) h)
  where
    both : (a b : ℕ) (x s : ℤ) (t : ℕ) → x ≡ pos b → s ≡ pos t → pos a *ℤ x +ℤ s ≡ pos (a * b + t)
    both a b x s t e f = ap (λ (y : ℤ). pos a *ℤ y +ℤ s) e ∙ plain a b s t f
      where
        plain : (a b : ℕ) (s : ℤ) (t : ℕ) → s ≡ pos t → pos a *ℤ pos b +ℤ s ≡ pos (a * b + t)
        plain a b s t f = omega (arith, ints, f)

-- the size of the function of parameters is at most the weight of the parameters
function-size : (b : RankedSet) (v : ℕ → ℤ) → pos (size_of b (function_of b v)) ≤ℤ size_weight (rank_question b) v
function-size b v =
    below _ _ _ (weight-sum (size_at b) nat_abs (λ x. pos (nat_abs x)) (coefficients_of b) v (λ x. refl))
    (function-weighs b _ _ nat_abs (sizes-gauge b) (coefficients_of b) v (has_symbol b) 0 b.symbols)
  where
    below : (n w : ℕ) (s : ℤ) → s ≡ pos w → n ≤ w → pos n ≤ℤ s
    below n w s e l = omega (arith, ints, e, l)

function-height : (b : RankedSet) (v : ℕ → ℤ) → pos (height_of b (function_of b v)) ≤ℤ height_weight (rank_question b) v
function-height b v = below _ _ _ (weight-sum (height_at b) height positive_part (coefficients_of b) v height-is)
    (function-weighs b _ _ height (heights-gauge b) (coefficients_of b) v (has_symbol b) 0 b.symbols)
  where
    below : (n w : ℕ) (s : ℤ) → s ≡ pos w → n ≤ w → pos n ≤ℤ s
    below n w s e l = omega (arith, ints, e, l)

-- a solution of least cost gives a function of least weight
pub least-rank : (b : RankedSet) (x : ℕ → ℤ) (d : ℤ) → IsSetOf b → HavePointsOf b
    → IsSolution (program_of_question (rank_question b)) x d
    → IsLeast (program_of_question (rank_question b)) x d → IsLeastRank b (function_of b (parameters_of x)) (nat_abs d)
least-rank b x (negsuc n) is points solution least = absurd (omega (arith, ints, solution.denominator))
least-rank b x (pos q) is points solution least = record {
  each = λ g e ranks fits. weighs g e ranks fits
      (least-sizes (rank_question b) x (pos q) (rank-shaped b is) (rank-points b is points) solution least
      (numbers_of b g) (pos e) (ranks-hold b g e is ranks fits))
      (least-heights (rank_question b) x (pos q) (rank-shaped b is) (rank-points b is points) solution least
      (numbers_of b g) (pos e) (ranks-hold b g e is ranks fits));
}
  where
    f : Function
    f = function_of b (parameters_of x)

    times : (x y : ℤ) (e : ℕ) → x ≡ y → x *ℤ pos e ≡ y *ℤ pos e
    times x y e h = ap (λ (z : ℤ). z *ℤ pos e) h

    raised : (a b : ℤ) (e : ℕ) → a ≤ℤ b → (a *ℤ pos e) ≤ℤ (b *ℤ pos e)
    raised a b e l =
        swapped _ _ _ _ (mul_comm_ℤ a (pos e)) (mul_comm_ℤ b (pos e)) (mul-le-mul_ℤ (pos e) a b (omega (arith, ints)) l)
      where
        swapped : (u v w z : ℤ) → u ≡ w → v ≡ z → w ≤ℤ z → u ≤ℤ v
        swapped u v w z g h l = omega (arith, ints, g, h, l)

    through : (a b c d : ℤ) → a ≤ℤ b → b ≤ℤ c → c ≡ d → a ≤ℤ d
    through a b c d l m h = omega (arith, ints, l, m, h)

    squeezed : (a b c d : ℤ) → a ≤ℤ b → b ≤ℤ c → c ≡ d → a ≡ d → b ≡ c
    squeezed a b c d l m h k = omega (arith, ints, l, m, h, k)

    weighs : (g : Function) (e : ℕ) → Ranks b g e → Fits b g
        → (size_weight (rank_question b) (parameters_of x) *ℤ pos e)
        ≤ℤ (size_weight (rank_question b) (numbers_of b g) *ℤ pos q)
        → (size_weight (rank_question b) (parameters_of x) *ℤ pos e
        ≡ size_weight (rank_question b) (numbers_of b g) *ℤ pos q
        → (height_weight (rank_question b) (parameters_of x) *ℤ pos e)
        ≤ℤ (height_weight (rank_question b) (numbers_of b g) *ℤ pos q))
        → WeighsNoMore b (function_of b (parameters_of x)) q g e
    weighs g e ranks fits sizes heights = record {
      sizes = from-products (size_of b (function_of b (parameters_of x))) e (size_of b g) q
          (through _ _ _ _ (raised _ _ e (function-size b (parameters_of x))) sizes
          (times _ _ q (numbers-size b g fits)));
      heights = λ same. from-products (height_of b (function_of b (parameters_of x))) e (height_of b g) q
          (through _ _ _ _ (raised _ _ e (function-height b (parameters_of x)))
          (heights (squeezed _ _ _ _ (raised _ _ e (function-size b (parameters_of x))) sizes
          (times _ _ q (numbers-size b g fits))
          (to-products (size_of b (function_of b (parameters_of x))) e (size_of b g) q same)))
          (times _ _ q (numbers-height b g fits)));
    }
