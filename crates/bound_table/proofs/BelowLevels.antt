-- The test `below` satisfies its own recursive equation: one level of it asks only about bounds that together have
-- fewer nodes.
use Rattle.std.proofs.Common.{◌≡◌, ℕ, zero, suc, ◌+◌, ◌*◌, ◌<◌, ◌≤◌, max, nat_le, Bool, true, false, cond, not, ◌&&◌}
use Rattle.std.proofs.Common.{◌||◌, List, [], ◌∷◌, refl, ap, ◌∙◌, arith}
use Rattle.std.specs.List.{list_any, list_all}
use Rattle.bound_expr.specs.model.Bounds.{Bound, Constant, Input, SumOf, ProductOf, MaximumOf, PowerOf, Parts, NoParts}
use Rattle.bound_expr.specs.model.Bounds.{Part}
use Rattle.bound_expr.specs.Views.{list_of}
use Rattle.bound_expr.specs.Measure.{node_count, node_count_of_all}
use Rattle.bound_expr.specs.Tidy.{IsNoMaximum}
use Rattle.bound_expr.specs.Kinds.{is_constant}
use Rattle.bound_table.specs.Kinds.{is_nest}
use Rattle.bound_table.specs.Terms.{constant_of, factors_of, after_constant}
use Rattle.bound_table.specs.Below.{match_in_order, matched, leftovers, may_be_leftover, factor_below, term_below, terms_of}
use Rattle.bound_table.specs.Below.{below_one, below_step, below_within, below}

-- the weight of a bound that is compared as a bound
abbrev pub bound_weight : Bound → ℕ
bound_weight b = 3 * node_count b + 1

-- the weight of a bound that is compared as a factor: a sum or a maximum weighs more than it does as a bound, any other
-- bound less
abbrev pub factor_weight : Bound → ℕ
factor_weight (SumOf ps) = 3 * node_count (SumOf ps) + 3
factor_weight (MaximumOf ps) = 3 * node_count (MaximumOf ps) + 3
factor_weight b = 3 * node_count b

-- the maximum weight of the factors
abbrev pub factors_weight : List Bound → ℕ
factors_weight [] = 0
factors_weight (b ∷ bs) = max (factor_weight b) (factors_weight bs)

-- the maximum weight of bounds
abbrev pub bounds_weight : List Bound → ℕ
bounds_weight [] = 0
bounds_weight (b ∷ bs) = max (bound_weight b) (bounds_weight bs)

-- every bound has at least one node
pub node_count-pos : (b : Bound) → 1 ≤ node_count b
node_count-pos (Constant c) = omega arith
node_count-pos (Input i) = omega arith
node_count-pos (SumOf ps) = omega arith
node_count-pos (ProductOf ps) = omega arith
node_count-pos (MaximumOf ps) = omega arith
node_count-pos (PowerOf c e) = omega arith

-- an upper bound on the weight of a bound as a factor
pub factor_weight-le : (b : Bound) → factor_weight b ≤ 3 * node_count b + 3
factor_weight-le (Constant c) = omega arith
factor_weight-le (Input i) = omega arith
factor_weight-le (SumOf ps) = omega arith
factor_weight-le (ProductOf ps) = omega arith
factor_weight-le (MaximumOf ps) = omega arith
factor_weight-le (PowerOf c e) = omega arith

-- a lower bound on the weight of a bound as a factor
pub factor_weight-ge : (b : Bound) → 3 * node_count b ≤ factor_weight b
factor_weight-ge (Constant c) = omega arith
factor_weight-ge (Input i) = omega arith
factor_weight-ge (SumOf ps) = omega arith
factor_weight-ge (ProductOf ps) = omega arith
factor_weight-ge (MaximumOf ps) = omega arith
factor_weight-ge (PowerOf c e) = omega arith

-- the factors of a product weigh less than its parts have nodes
pub factors_weight-list_of : (ps : Parts) → factors_weight (list_of ps) ≤ 3 * node_count_of_all ps + 3
factors_weight-list_of NoParts = omega arith
factors_weight-list_of (Part p ps) = omega (arith, factor_weight-le p, factors_weight-list_of ps)

-- without a leading constant factors weigh no more
after_constant-weight : (ps : List Bound) → factors_weight (after_constant ps) ≤ factors_weight ps
after_constant-weight [] = omega arith
after_constant-weight (Constant c ∷ ps) = omega arith
after_constant-weight (Input i ∷ ps) = omega arith
after_constant-weight (SumOf qs ∷ ps) = omega arith
after_constant-weight (ProductOf qs ∷ ps) = omega arith
after_constant-weight (MaximumOf qs ∷ ps) = omega arith
after_constant-weight (PowerOf c e ∷ ps) = omega arith

-- the bounds of a list of parts weigh at most three times their nodes
pub bounds_weight-list_of : (ps : Parts) → bounds_weight (list_of ps) ≤ 3 * node_count_of_all ps + 1
bounds_weight-list_of NoParts = omega arith
bounds_weight-list_of (Part p ps) = omega (arith, bounds_weight-list_of ps)

-- the factors of a part weigh no more than the part as a factor
pub factors_of-weight : (p : Bound) → factors_weight (factors_of p) ≤ factor_weight p
factors_of-weight (Constant c) = omega arith
factors_of-weight (Input i) = omega arith
factors_of-weight (SumOf ps) = omega arith
factors_of-weight (ProductOf ps) = omega (arith, after_constant-weight (list_of ps), factors_weight-list_of ps)
factors_of-weight (MaximumOf ps) = omega arith
factors_of-weight (PowerOf c e) = omega arith

-- the parts of a bound that is no maximum weigh less than it
pub terms_of-weight : (b : Bound) → IsNoMaximum b → factors_weight (terms_of b) < bound_weight b
terms_of-weight (Constant c) one = omega arith
terms_of-weight (Input i) one = omega arith
terms_of-weight (SumOf ps) one = omega (arith, factors_weight-list_of ps)
terms_of-weight (ProductOf ps) one = omega arith
terms_of-weight (MaximumOf ps) one = absurd one
terms_of-weight (PowerOf c e) one = omega arith

-- two tests agree on bounds that together weigh less than n
abbrev Agree : ℕ → (Bound → Bound → Bool) → (Bound → Bound → Bool) → Type 0
Agree n f g = (p q : Bound) → bound_weight p + bound_weight q < n → f p q ≡ g p q

-- the tests agree on factors that weigh at most n
abbrev AgreeOnFactors : ℕ → (Bound → Bound → Bool) → (Bound → Bound → Bool) → Type 0
AgreeOnFactors n f g = (p q : Bound) → factor_weight p + factor_weight q ≤ n → f p q ≡ g p q

-- equal tests between equal alternatives choose equal results
same-cond : {X : Type 0} (a b : Bool) (x y v w : X) → a ≡ b → x ≡ y → v ≡ w → cond a x v ≡ cond b y w
same-cond a b x y v w ab xy vw = ap (λ c. cond c x v) ab ∙ ap (λ z. cond b z v) xy ∙ ap (λ z. cond b y z) vw

-- if two tests agree, each element takes one by one test exactly if it does by the other
match_in_order-agree : (n : ℕ) (f g : Bound → Bound → Bool) (ps qs : List Bound) → AgreeOnFactors n f g
    → factors_weight ps + factors_weight qs ≤ n
    → match_in_order f ps qs ≡ match_in_order g ps qs
match_in_order-agree n f g [] qs same h = refl
match_in_order-agree n f g (p ∷ ps) [] same h = refl
match_in_order-agree n f g (p ∷ ps) (q ∷ qs) same h =
    same-cond (f p q) (g p q) (match_in_order f ps qs) (match_in_order g ps qs) (match_in_order f (p ∷ ps) qs)
    (match_in_order g (p ∷ ps) qs)
    (same p q (omega arith)) (match_in_order-agree n f g ps qs same (omega arith))
    (match_in_order-agree n f g (p ∷ ps) qs same (omega arith))

-- if two tests agree, the same elements are taken by both
taken-agree : (n : ℕ) (f g : Bound → Bound → Bool) (ps qs : List Bound) → AgreeOnFactors n f g
    → factors_weight ps + factors_weight qs ≤ n
    → matched f ps qs ≡ matched g ps qs
taken-agree n f g [] qs same h = refl
taken-agree n f g (p ∷ ps) [] same h = refl
taken-agree n f g (p ∷ ps) (q ∷ qs) same h =
    same-cond (f p q) (g p q) (q ∷ matched f ps qs) (q ∷ matched g ps qs) (matched f (p ∷ ps) qs) (matched g (p ∷ ps) qs)
    (same p q (omega arith)) (ap (λ (ts : List Bound). q ∷ ts) (taken-agree n f g ps qs same (omega arith)))
    (taken-agree n f g (p ∷ ps) qs same (omega arith))

-- if two tests agree, the same elements are left over by both
spare-agree : (n : ℕ) (f g : Bound → Bound → Bool) (ps qs : List Bound) → AgreeOnFactors n f g
    → factors_weight ps + factors_weight qs ≤ n
    → leftovers f ps qs ≡ leftovers g ps qs
spare-agree n f g [] qs same h = refl
spare-agree n f g (p ∷ ps) [] same h = refl
spare-agree n f g (p ∷ ps) (q ∷ qs) same h =
    same-cond (f p q) (g p q) (leftovers f ps qs) (leftovers g ps qs) (q ∷ leftovers f (p ∷ ps) qs) (q ∷ leftovers g (p ∷ ps) qs)
    (same p q (omega arith)) (spare-agree n f g ps qs same (omega arith))
    (ap (λ (ts : List Bound). q ∷ ts) (spare-agree n f g (p ∷ ps) qs same (omega arith)))

-- if one of two factors is a sum or a maximum, the two weigh less as bounds, so the tests agree on them
nest-agree : (n : ℕ) (f g : Bound → Bound → Bool) (p q : Bound) → Agree n f g
    → (is_nest p || is_nest q ≡ true → bound_weight p + bound_weight q < n)
    → ((is_nest p || is_nest q) && f p q) ≡ ((is_nest p || is_nest q) && g p q)
nest-agree n f g p q same light = go (is_nest p || is_nest q) refl
  where
    go : (nest : Bool) → is_nest p || is_nest q ≡ nest → (nest && f p q) ≡ (nest && g p q)
    go true is = same p q (light is)
    go false is = refl

-- tests that agree on bounds give the same comparison of factors
factor_below-agree : (n : ℕ) (f g : Bound → Bound → Bool) → Agree n f g
    → AgreeOnFactors n (factor_below f) (factor_below g)
factor_below-agree n f g same (Input i) (Input j) h = refl
factor_below-agree n f g same (PowerOf c e) (PowerOf d k) h = ap (λ v. nat_le c d && v) (same e k (omega arith))
factor_below-agree n f g same (SumOf ps) q h =
    nest-agree n f g (SumOf ps) q same (λ _. omega (arith, factor_weight-ge q))
factor_below-agree n f g same (MaximumOf ps) q h =
    nest-agree n f g (MaximumOf ps) q same (λ _. omega (arith, factor_weight-ge q))
factor_below-agree n f g same p (SumOf qs) h =
    nest-agree n f g p (SumOf qs) same (λ _. omega (arith, factor_weight-ge p))
factor_below-agree n f g same p (MaximumOf qs) h =
    nest-agree n f g p (MaximumOf qs) same (λ _. omega (arith, factor_weight-ge p))
factor_below-agree n f g same p q h = refl

-- the tests agree on a part
term_below-agree : (n : ℕ) (f g : Bound → Bound → Bool) → Agree n f g → AgreeOnFactors n (term_below f) (term_below g)
term_below-agree n f g same p q h =
    let fs = factors_of p in
    let gs = factors_of q in
    let within : factors_weight fs + factors_weight gs ≤ n = omega (arith, factors_of-weight p, factors_of-weight q) in
    let on_factors = factor_below-agree n f g same in
    let before =
    not (list_any is_constant fs) && not (list_any is_constant gs) && nat_le (constant_of p) (constant_of q) in
    ap (λ v. before && v && list_all (may_be_leftover (matched (factor_below f) fs gs)) (leftovers (factor_below f) fs gs))
    (match_in_order-agree n (factor_below f) (factor_below g) fs gs on_factors within)
    ∙ ap
    (λ ts. before && match_in_order (factor_below g) fs gs && list_all (may_be_leftover ts) (leftovers (factor_below f) fs gs))
    (taken-agree n (factor_below f) (factor_below g) fs gs on_factors within)
    ∙ ap
    (λ ss. before && match_in_order (factor_below g) fs gs && list_all (may_be_leftover (matched (factor_below g) fs gs)) ss)
    (spare-agree n (factor_below f) (factor_below g) fs gs on_factors within)

-- tests that agree give the same answer whether a bound is below a part of a maximum
any-agree : (n : ℕ) (f g : Bound → Bound → Bool) (a : Bound) (qs : Parts) → Agree n f g
    → bound_weight a + (3 * node_count_of_all qs + 1) < n
    → list_any (λ q. f a q) (list_of qs) ≡ list_any (λ q. g a q) (list_of qs)
any-agree n f g a NoParts same h = refl
any-agree n f g a (Part q qs) same h =
    ap (λ v. v || list_any (λ q. f a q) (list_of qs)) (same a q (omega arith))
    ∙ ap (λ v. g a q || v) (any-agree n f g a qs same (omega arith))

-- tests that agree give the same answer whether all parts of a maximum are below a bound
all-agree : (n : ℕ) (f g : Bound → Bound → Bool) (ps : Parts) (b : Bound) → Agree n f g
    → (3 * node_count_of_all ps + 1) + bound_weight b < n
    → list_all (λ p. f p b) (list_of ps) ≡ list_all (λ p. g p b) (list_of ps)
all-agree n f g NoParts b same h = refl
all-agree n f g (Part p ps) b same h =
    ap (λ v. v && list_all (λ p. f p b) (list_of ps)) (same p b (omega arith))
    ∙ ap (λ v. g p b && v) (all-agree n f g ps b same (omega arith))

-- tests that agree give the same answer whether the parts of a sum take parts of another
terms-agree : (f g : Bound → Bound → Bool) (a b : Bound) → IsNoMaximum a → IsNoMaximum b
    → Agree (bound_weight a + bound_weight b) f g
    → match_in_order (term_below f) (terms_of a) (terms_of b) ≡ match_in_order (term_below g) (terms_of a) (terms_of b)
terms-agree f g a b one one' same =
    match_in_order-agree (bound_weight a + bound_weight b) (term_below f) (term_below g) (terms_of a) (terms_of b)
    (term_below-agree (bound_weight a + bound_weight b) f g same) (omega (arith, terms_of-weight a one, terms_of-weight b one'))

-- tests that agree give the same answer of `below_one`
below_one-agree : (f g : Bound → Bound → Bool) (a b : Bound) → IsNoMaximum a
    → Agree (bound_weight a + bound_weight b) f g → below_one f a b ≡ below_one g a b
below_one-agree f g a (MaximumOf qs) one same = any-agree _ f g a qs same (omega arith)
below_one-agree f g a (Constant c) one same = terms-agree f g a (Constant c) one tt same
below_one-agree f g a (Input i) one same = terms-agree f g a (Input i) one tt same
below_one-agree f g a (SumOf ps) one same = terms-agree f g a (SumOf ps) one tt same
below_one-agree f g a (ProductOf ps) one same = terms-agree f g a (ProductOf ps) one tt same
below_one-agree f g a (PowerOf c e) one same = terms-agree f g a (PowerOf c e) one tt same

-- one level over tests that agree gives tests that agree
below_step-agree : (f g : Bound → Bound → Bool) (a b : Bound) → Agree (bound_weight a + bound_weight b) f g
    → below_step f a b ≡ below_step g a b
below_step-agree f g (Constant zero) b same = refl
below_step-agree f g (Constant (suc c)) b same = below_one-agree f g (Constant (suc c)) b tt same
below_step-agree f g (MaximumOf ps) b same = all-agree _ f g ps b same (omega arith)
below_step-agree f g (Input i) b same = below_one-agree f g (Input i) b tt same
below_step-agree f g (SumOf ps) b same = below_one-agree f g (SumOf ps) b tt same
below_step-agree f g (ProductOf ps) b same = below_one-agree f g (ProductOf ps) b tt same
below_step-agree f g (PowerOf c e) b same = below_one-agree f g (PowerOf c e) b tt same

-- two numbers of levels of at least the number of nodes give the same answer
below_within-enough : (k l : ℕ) (a b : Bound) → node_count a + node_count b ≤ k → node_count a + node_count b ≤ l
    → below_within k a b ≡ below_within l a b
below_within-enough zero l a b h h' = absurd (omega (arith, node_count-pos a))
below_within-enough (suc k) zero a b h h' = absurd (omega (arith, node_count-pos a))
below_within-enough (suc k) (suc l) a b h h' =
    below_step-agree (λ p q. below_within k p q) (λ p q. below_within l p q) a b
    (λ p q less. below_within-enough k l p q (omega arith) (omega arith))

-- the test of two bounds with n nodes together is the same with n levels and with one more
below-levels : (n : ℕ) (a b : Bound) → node_count a + node_count b ≡ n
    → below_within n a b ≡ below_step (λ p q. below p q) a b
unfolding below
below-levels zero a b is = absurd (omega (arith, node_count-pos a))
below-levels (suc n) a b is =
    below_step-agree (λ p q. below_within n p q) (λ p q. below p q) a b
    (λ p q less. below_within-enough n (node_count p + node_count q) p q (omega arith) (omega arith))

-- the recursive equation: `below` is one level of the test over `below`
pub below_is : (a b : Bound) → below a b ≡ below_step (λ p q. below p q) a b
unfolding below
below_is a b = below-levels (node_count a + node_count b) a b refl
