-- How many rules, symbols and coefficients there are.
use Rattle.std.proofs.Common.{◌≡◌, ℕ, zero, suc, ◌+◌, ◌*◌, ◌<◌, ◌≤◌, ◌≢◌, ◌⊎◌, inl, inr, ◌||◌, refl, sym, ap, ◌∙◌}
use Rattle.std.proofs.Common.{subst, arith, Bool, true, false, cond, not, nat_eq, List, [], ◌∷◌, ◌++◌, length, map}
use Rattle.std.proofs.Common.{filter, length-append, Some, None}
use Rattle.std.specs.Prelude.{slice_get, slice_index_or}
use Rattle.std.specs.List.{All, list_any, range_with_len}
use Rattle.std.proofs.lemmas.Bool.Decides.{eqb_tells}
use Rattle.std.proofs.lemmas.List.Elements.{All-nil, All-cons, All-head, All-tail, All-weaker, All-append, All-filter}
use Rattle.std.proofs.lemmas.List.Elements.{All-map}
use Rattle.simplex_core.specs.linear_forms.RuleQuestions.{RankedSet, Coefficient, has_symbol, symbols_of_set}
use Rattle.simplex_core.specs.linear_forms.RuleQuestions.{open_places}
use Rattle.simplex_core.specs.linear_forms.RuleQuestions.{coefficients}
use Rattle.simplex_core.proofs.linear_forms.ColumnLaws.{get_or-map}
use Rattle.simplex_core.proofs.linear_forms.SolutionLaws.{length-map}
use Rattle.poly_terms.specs.model.Limits.{rule_limit}
use Rattle.poly_terms.specs.model.Programs.{Program, Rule}
use Rattle.its_model.specs.Valid.{IsValid}
use Rattle.cert_types.specs.cert_rules.AcceptsPlain.{IsRule}
use Rattle.cert_types.specs.cert_rules.Gaps.{SymbolPlace}
use Rattle.cert_types.specs.cert_rules.Numbers.{IsAscending}
use Rattle.rank_search.specs.declared.coefficients.Coefficient.{Coefficient as Sought}
use Rattle.rank_search.specs.Coefficients.{coefficient_of, AreCoefficients}
use Rattle.rule_questions.specs.ProgramQuestions.{ranked_set}
use Rattle.rank_search.specs.RankAnswers.{IsRuleSet}
pub use Rattle.guard_prep.proofs.StepLaws.{few-places}

-- an ascending list is at most as long as the range of its elements
ascending-short : (x : ℕ) (xs : List ℕ) (m : ℕ) → IsAscending (x ∷ xs) → All (λ y. y ≤ m) (x ∷ xs) → x + length (x ∷ xs)
    ≤ m + 1
ascending-short x [] m a h = let l = All-head (λ y. y ≤ m) x [] h in omega (arith, l)
ascending-short x (y ∷ xs) m a h =
    let l = ascending-short y xs m a.1 (All-tail (λ z. z ≤ m) x (y ∷ xs) h) in
    let k = a.0 in omega (arith, l, k)

-- the number of an existing rule is at most the number of rules
read-inside : (rs : List Rule) (k : ℕ) (r : Rule) → slice_get rs k ≡ Some r → k < length rs
read-inside [] k r e = absurd (none e)
  where
    none : None ≡ Some r → ⊥
    none f = cc
read-inside (q ∷ rs) zero r e = omega arith
read-inside (q ∷ rs) (suc k) r e = let l = read-inside rs k r e in omega (arith, l)

-- the number of a rule is from 1 to the number of rules
pub rule-inside : (p : Program) (t : ℕ) → IsRule p t → (0 < t) × (t ≤ length p.rules)
rule-inside p zero i = absurd (none i.numbered)
  where
    none : {r : Rule} → None ≡ Some r → ⊥
    none f = cc
rule-inside p (suc t) i = (omega arith, let l = read-inside p.rules t i.rule i.numbered in omega (arith, l))

-- a set has at most 1,000 rules
pub few-rules : (p : Program) (set : List ℕ) (strict : ℕ) → IsValid p → IsRuleSet p set strict → length set ≤ rule_limit
few-rules p [] strict v s = omega arith
few-rules p (t ∷ set) strict v s =
    let l = ascending-short t set (length p.rules) s.ascending
    (All-weaker (IsRule p) (λ y. y ≤ length p.rules) (λ y i. (rule-inside p y i).1) (t ∷ set) s.rules) in
    let k = v.few_rules in
    let n = (rule-inside p t (All-head (IsRule p) t set s.rules)).0 in omega (arith, l, k, n)

-- at most as many numbers pass one of two tests as pass the first and as pass the second
either-many : (f g : ℕ → Bool) (xs : List ℕ) → length (filter (λ x. f x || g x) xs) ≤ length (filter f xs) + length
    (filter g xs)
either-many f g [] = omega arith
either-many f g (x ∷ xs) = go (f x) (g x) (either-many f g xs)
  where
    go : (a b : Bool) → length (filter (λ x. f x || g x) xs) ≤ length (filter f xs) + length (filter g xs)
        → length (cond (a || b) (x ∷ filter (λ x. f x || g x) xs) (filter (λ x. f x || g x) xs))
        ≤ length (cond a (x ∷ filter f xs) (filter f xs)) + length (cond b (x ∷ filter g xs) (filter g xs))
    go true true l = omega (arith, l)
    go true false l = omega (arith, l)
    go false true l = omega (arith, l)
    go false false l = l

-- a range has no number below its first
none-before : (x a n : ℕ) → x < a → length (filter (λ s. nat_eq x s) (range_with_len a n)) ≤ 0
none-before x a zero l = omega arith
none-before x a (suc n) l = go (eqb_tells x a) (none-before x (a + 1) n (omega (arith, l)))
  where
    go : ((nat_eq x a ≡ true) × (x ≡ a)) ⊎ ((nat_eq x a ≡ false) × (x ≢ a))
        → length (filter (λ s. nat_eq x s) (range_with_len (a + 1) n)) ≤ 0
        → length (cond (nat_eq x a) (a ∷ filter (λ s. nat_eq x s) (range_with_len (a + 1) n))
        (filter (λ s. nat_eq x s) (range_with_len (a + 1) n))) ≤ 0
    go (inl e) h = absurd (let f = e.1 in omega (arith, f, l))
    go (inr e) h = subst (λ (b : Bool). length
        (cond b (a ∷ filter (λ s. nat_eq x s) (range_with_len (a + 1) n))
        (filter (λ s. nat_eq x s) (range_with_len (a + 1) n))) ≤ 0) (sym e.0) h

only-one : (x a n : ℕ) → length (filter (λ s. nat_eq x s) (range_with_len a n)) ≤ 1
only-one x a zero = omega arith
only-one x a (suc n) = go (eqb_tells x a) (only-one x (a + 1) n)
  where
    go : ((nat_eq x a ≡ true) × (x ≡ a)) ⊎ ((nat_eq x a ≡ false) × (x ≢ a))
        → length (filter (λ s. nat_eq x s) (range_with_len (a + 1) n)) ≤ 1
        → length (cond (nat_eq x a) (a ∷ filter (λ s. nat_eq x s) (range_with_len (a + 1) n))
        (filter (λ s. nat_eq x s) (range_with_len (a + 1) n))) ≤ 1
    go (inl e) h =
        subst (λ (b : Bool). length
        (cond b (a ∷ filter (λ s. nat_eq x s) (range_with_len (a + 1) n))
        (filter (λ s. nat_eq x s) (range_with_len (a + 1) n))) ≤ 1) (sym e.0)
        (let l = none-before x (a + 1) n (let f = e.1 in omega (arith, f)) in omega (arith, l))
    go (inr e) h = subst (λ (b : Bool). length
        (cond b (a ∷ filter (λ s. nat_eq x s) (range_with_len (a + 1) n))
        (filter (λ s. nat_eq x s) (range_with_len (a + 1) n))) ≤ 1) (sym e.0) h

no-test : (xs : List ℕ) → length (filter (λ s. false) xs) ≤ 0
no-test [] = omega arith
no-test (x ∷ xs) = no-test xs

-- each rule has at most two symbols
pub few-marked : (f g : ℕ → ℕ) (set : List ℕ) (n : ℕ)
    → length (filter (λ s. list_any (λ t. nat_eq (f t) s || nat_eq (g t) s) set) (range_with_len 0 n)) ≤ 2 * length set
few-marked f g [] n = no-test (range_with_len 0 n)
few-marked f g (t ∷ set) n =
    let a = either-many (λ s. nat_eq (f t) s || nat_eq (g t) s)
    (λ s. list_any (λ t. nat_eq (f t) s || nat_eq (g t) s) set) (range_with_len 0 n) in
    let b = either-many (λ s. nat_eq (f t) s) (λ s. nat_eq (g t) s) (range_with_len 0 n) in
    let c = only-one (f t) 0 n in
    let d = only-one (g t) 0 n in
    let e = few-marked f g set n in omega (arith, a, b, c, d, e)

-- at most as many elements pass a test as the list has
pub filter-short : (test : ℕ → Bool) (xs : List ℕ) → length (filter test xs) ≤ length xs
filter-short test [] = omega arith
filter-short test (x ∷ xs) = go (test x) (filter-short test xs)
  where
    go : (b : Bool) → length (filter test xs) ≤ length xs → length (cond b (x ∷ filter test xs) (filter test xs)) ≤ suc
        (length xs)
    go true l = omega (arith, l)
    go false l = omega (arith, l)

-- a range has as many numbers as its length says
pub range-length : (a n : ℕ) → length (range_with_len a n) ≡ n
range-length a zero = refl
range-length a (suc n) = ap (λ (m : ℕ). suc m) (range-length (a + 1) n)

-- each symbol has at most 33 coefficients
few-coefficients : (b : RankedSet) (ss : List ℕ) → ((s : ℕ) → b.arity s ≤ 32) → length (coefficients b ss)
    ≤ 33 * length ss
few-coefficients b [] h = omega arith
few-coefficients b (s ∷ ss) h =
    let a = length-append (map (λ i. record { symbol = s; place = i }) (open_places b s ++ 0 ∷ []))
    (coefficients b ss) in
    let c = length-map {B = Coefficient} (λ i. record { symbol = s; place = i }) (open_places b s ++ 0 ∷ []) in
    let d = length-append (open_places b s) (0 ∷ []) in
    let e = filter-short (λ i. not (b.shut s i)) (range_with_len 1 (b.arity s)) in
    let f = range-length 1 (b.arity s) in
    let g = few-coefficients b ss h in
    let k = h s in omega (arith, a, c, d, e, f, g, k)

-- a set of rules of a valid program has at most 66,000 coefficients
pub few-in-all : (p : Program) (set : List ℕ) (strict : ℕ) (shut : List SymbolPlace) → IsValid p
    → IsRuleSet p set strict
    → length (coefficients (ranked_set p set strict shut) (symbols_of_set (ranked_set p set strict shut))) ≤ 66000
few-in-all p set strict shut v s =
    let b = ranked_set p set strict shut in
    let l = few-coefficients b (symbols_of_set b) (λ a. few-places p.symbols a v.symbols) in
    let k = few-marked (λ t. (b.rule t).source) (λ t. (b.rule t).target) set (length p.symbols) in
    let m = few-rules p set strict v s in omega (arith, l, k, m)

-- a property of all numbers below a limit holds of each number of a range
ranged : (P : ℕ → Type 0) (a n m : ℕ) → a + n ≤ m → ((s : ℕ) → s < m → P s) → All P (range_with_len a n)
ranged P a zero m l h = All-nil P
ranged P a (suc n) m l h = All-cons P a (range_with_len (a + 1) n) (h a (omega (arith, l)))
    (ranged P (a + 1) n m (omega (arith, l)) h)

-- a property of each symbol holds of the symbol of each coefficient
symbols-held : (P : ℕ → Type 0) (b : RankedSet) (ss : List ℕ) → All P ss → All (λ c. P c.symbol) (coefficients b ss)
symbols-held P b [] h = All-nil (λ c. P c.symbol)
symbols-held P b (s ∷ ss) h =
    All-append (λ c. P c.symbol) (map (λ i. record { symbol = s; place = i }) (open_places b s ++ 0 ∷ []))
    (coefficients b ss)
    (All-map (λ (c : Coefficient). P c.symbol) (λ i. record { symbol = s; place = i }) (open_places b s ++ 0 ∷ [])
    (λ k d l. All-head P s ss h))
    (symbols-held P b ss (All-tail P s ss h))

-- a property of all symbols of a program holds of the symbol of each coefficient of a set
pub coefficients-held : (P : ℕ → Type 0) (b : RankedSet) → ((s : ℕ) → s < b.symbols → P s)
    → All (λ c. P c.symbol) (coefficients b (symbols_of_set b))
coefficients-held P b h =
    symbols-held P b (symbols_of_set b)
    (All-filter (has_symbol b) P (range_with_len 0 b.symbols) (ranged P 0 b.symbols b.symbols (omega arith) h))

-- the symbol of each coefficient that is searched for is one of the program
pub sought-inside : (p : Program) (set : List ℕ) (strict : ℕ) (shut : List SymbolPlace) (coefs : List Sought)
    → AreCoefficients (ranked_set p set strict shut) coefs → (n : ℕ) → length p.symbols ≡ n
    → All (λ (c : Sought). c.symbol < n) coefs
sought-inside p set strict shut coefs are n e k d l =
    subst (λ (c : Coefficient). c.symbol < n) (get_or-map coefficient_of coefs k (coefficient_of d) d l)
    (subst (λ (cs : List Coefficient). All (λ (c : Coefficient). c.symbol < n) cs) (sym are.each)
    (coefficients-held (λ s. s < n) (ranked_set p set strict shut) (λ s m. omega (arith, m, e))) k (coefficient_of d)
    (let f = length-map coefficient_of coefs in omega (arith, l, f)))

-- the value of a mapped range at an index
pub value-at : {A : Type 0} (f : ℕ → A) (a n i : ℕ) (d : A) → i < n → slice_index_or (map f (range_with_len a n)) i d
    ≡ f (a + i)
value-at f a zero i d l = absurd (omega (arith, l))
value-at f a (suc n) zero d l = ap f (let e : a ≡ a + 0 = omega arith in e)
value-at f a (suc n) (suc i) d l =
    value-at f (a + 1) n i d (omega (arith, l)) ∙ ap f (let e : a + 1 + i ≡ a + suc i = omega arith in e)

-- at most as many places are open as there are
pub open-few : (shut : ℕ → Bool) (a n : ℕ) → length (filter (λ i. not (shut i)) (range_with_len a n)) ≤ n
open-few shut a n =
    let l = filter-short (λ i. not (shut i)) (range_with_len a n) in
    let e = range-length a n in omega (arith, l, e)

-- a set has at most 2,000 symbols
pub few-symbols : (p : Program) (set : List ℕ) (strict : ℕ) (shut : List SymbolPlace) → IsValid p
    → IsRuleSet p set strict
    → length (symbols_of_set (ranked_set p set strict shut)) ≤ 2000
few-symbols p set strict shut v s =
    let k = few-marked (λ t. ((ranked_set p set strict shut).rule t).source)
    (λ t. ((ranked_set p set strict shut).rule t).target) set (length p.symbols) in
    let m = few-rules p set strict v s in omega (arith, k, m)

-- a set has few coefficients
pub few-sought : (p : Program) (set : List ℕ) (strict : ℕ) (shut : List SymbolPlace) → IsValid p
    → IsRuleSet p set strict
    → (coefs : List Sought) → AreCoefficients (ranked_set p set strict shut) coefs → length coefs ≤ 66000
few-sought p set strict shut v s coefs are =
    let l = few-in-all p set strict shut v s in
    let e = ap (λ (cs : List Coefficient). length cs) are.each in
    let m = length-map coefficient_of coefs in omega (arith, l, e, m)
