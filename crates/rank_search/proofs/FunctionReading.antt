-- Reading the parameters in order gives the function with these parameters.
use Rattle.std.proofs.Common.{◌≡◌, ℕ, zero, suc, ◌+◌, ◌-◌, ◌<◌, ◌≤◌, ap, arith, refl, sym, ◌∙◌, Bool, true, false, not}
use Rattle.std.proofs.Common.{cond, if◌then◌else◌, List, [], ◌∷◌, ◌++◌, length, map, filter, get_or, drop, append_assoc}
use Rattle.std.proofs.Common.{length-append}
use Rattle.std.specs.Prelude.{ℤ, pos, ◌+ℤ◌}
use Rattle.std.specs.List.{All, range_with_len}
use Rattle.std.proofs.lemmas.Int.{ints}
use Rattle.std.proofs.lemmas.Bool.{eq-eqb}
use Rattle.std.proofs.lemmas.List.{drop_more, drop_all}
use Rattle.std.proofs.lemmas.List.Elements.{All-nil, All-cons, All-head, All-tail, All-filter}
use Rattle.simplex_core.specs.linear_forms.Questions.{listed}
use Rattle.simplex_core.specs.linear_forms.RuleQuestions.{RankedSet, Coefficient, coefficients, has_symbol}
use Rattle.simplex_core.specs.linear_forms.RuleQuestions.{symbols_of_set}
use Rattle.simplex_core.proofs.linear_forms.SolutionLaws.{length-map}
use Rattle.cert_types.specs.rule_forms.RankLaws.{coefficient, function_of}
use Rattle.cert_types.proofs.rule_forms.Losses.{share, share-other, share-own}
use Rattle.poly_terms.specs.model.Programs.{Program, arity_of}
use Rattle.cert_types.specs.cert_rules.Gaps.{SymbolPlace, is_shut}
use Rattle.cert_types.specs.cert_rules.Nodes.{SymbolForm}
use Rattle.rule_questions.specs.ProgramQuestions.{ranked_set}
use Rattle.rank_search.specs.RankAnswers.{part_at}
use Rattle.rank_search.specs.Reading.{open_count, read_coefs, read_form, read_forms}
use Rattle.rule_questions.proofs.Lists.{listed-agree}
use Rattle.rank_search.proofs.Numbers.{block, coefficient-append, block-elsewhere, block-before, symbols-before}

-- equal parameters give equal coefficients
pub coefficient-same : (cs : List Coefficient) (v w : ℕ → ℤ) (s i : ℕ) → ((k : ℕ) → v k ≡ w k) → coefficient cs v s i
    ≡ coefficient cs w s i
coefficient-same [] v w s i h = refl
coefficient-same (c ∷ cs) v w s i h =
    ap (λ (x : ℤ). share c x s i +ℤ coefficient cs (λ p. v (suc p)) s i) (h 0)
    ∙ ap (λ (y : ℤ). share c (w 0) s i +ℤ y)
    (coefficient-same cs (λ p. v (suc p)) (λ p. w (suc p)) s i (λ k. h (suc k)))

-- a sum whose second part is 0, and one whose first part is 0
sum-zero-right : (x y z : ℤ) → x ≡ z → y ≡ pos 0 → x +ℤ y ≡ z
sum-zero-right x y z e f = omega (arith, ints, e, f)

sum-zero-left : (x y z : ℤ) → x ≡ pos 0 → y ≡ z → x +ℤ y ≡ z
sum-zero-left x y z e f = omega (arith, ints, e, f)

-- the coefficients of the places of a symbol from a on, and of its constant
abbrev rest : (ℕ → Bool) → ℕ → ℕ → ℕ → List Coefficient
rest shut s a n = block s (filter (λ i. not (shut i)) (range_with_len a n) ++ 0 ∷ [])

module _ (shut : ℕ → Bool) (v : ℕ → ℤ) (s : ℕ) where
  -- the coefficient of the constant in these coefficients
  constant-read : (k a n : ℕ) → 1 ≤ a → coefficient (rest shut s a n) (λ i. v (k + i)) s 0 ≡ v (k + open_count shut a n)
  constant-read k a zero l =
      sum-zero-right _ _ _ (share-own (record { symbol = s; place = 0 }) (v (k + 0)) s 0 (eq-eqb s s refl) refl) refl
  constant-read k a (suc n) l =
      go (shut a) (constant-read k (a + 1) n (omega (arith, l))) (constant-read (k + 1) (a + 1) n (omega (arith, l)))
    where
      go : (b : Bool)
          → coefficient (rest shut s (a + 1) n) (λ i. v (k + i)) s 0 ≡ v (k + open_count shut (a + 1) n)
          → coefficient (rest shut s (a + 1) n) (λ i. v (k + 1 + i)) s 0 ≡ v (k + 1 + open_count shut (a + 1) n)
          → coefficient (block s
          (cond (not b) (a ∷ filter (λ i. not (shut i)) (range_with_len (a + 1) n))
          (filter (λ i. not (shut i)) (range_with_len (a + 1) n)) ++ 0 ∷ [])) (λ i. v (k + i)) s 0
          ≡ v (k + length (cond (not b) (a ∷ filter (λ i. not (shut i)) (range_with_len (a + 1) n))
          (filter (λ i. not (shut i)) (range_with_len (a + 1) n))))
      go true same onward = same
      go false same onward =
          sum-zero-left _ _ _ (share-other (record { symbol = s; place = a }) (v (k + 0)) s 0
          (λ e. omega (arith, e, l)))
          (coefficient-same (rest shut s (a + 1) n) (λ i. v (k + suc i)) (λ i. v (k + 1 + i)) s 0
          (λ i. ap v (let e : k + suc i ≡ k + 1 + i = omega arith in e))
          ∙ (onward
          ∙ ap v (let e : k + 1 + open_count shut (a + 1) n ≡ k + suc (open_count shut (a + 1) n) = omega arith in e)))

  -- the coefficients of the places in these coefficients
  coefs-read : (k a n : ℕ) → 1 ≤ a → read_coefs shut v k a n ≡ listed n
      (λ j. coefficient (rest shut s a n) (λ i. v (k + i)) s (a + j))
  coefs-read k a zero l = refl
  coefs-read k a (suc n) l = go (shut a) (coefs-read k (a + 1) n (omega (arith, l)))
      (coefs-read (k + 1) (a + 1) n (omega (arith, l)))
    where
      go : (b : Bool)
          → read_coefs shut v k (a + 1) n ≡ listed n
          (λ j. coefficient (rest shut s (a + 1) n) (λ i. v (k + i)) s (a + 1 + j))
          → read_coefs shut v (k + 1) (a + 1) n ≡ listed n
          (λ j. coefficient (rest shut s (a + 1) n) (λ i. v (k + 1 + i)) s (a + 1 + j))
          → (if b then pos 0 ∷ read_coefs shut v k (a + 1) n else v k ∷ read_coefs shut v (k + 1) (a + 1) n)
          ≡ listed (suc n) (λ j. coefficient
          (block s (cond (not b) (a ∷ filter (λ i. not (shut i)) (range_with_len (a + 1) n))
          (filter (λ i. not (shut i)) (range_with_len (a + 1) n)) ++ 0 ∷ [])) (λ i. v (k + i)) s (a + j))
      go true same onward =
          ap (λ (x : ℤ). x ∷ read_coefs shut v k (a + 1) n)
          (sym (block-before s (λ i. not (shut i)) (a + 1) n (λ i. v (k + i)) (a + 0) (omega (arith, l)) (omega arith)))
          ∙ ap (λ (xs : List ℤ). coefficient (rest shut s (a + 1) n) (λ i. v (k + i)) s (a + 0) ∷ xs)
          (same
          ∙ listed-agree n _ _ (λ j. ap (λ (i : ℕ). coefficient (rest shut s (a + 1) n) (λ i. v (k + i)) s i)
          (let e : a + 1 + j ≡ a + suc j = omega arith in e)))
      go false same onward =
          ap (λ (x : ℤ). x ∷ read_coefs shut v (k + 1) (a + 1) n)
          (sym (sum-zero-right _ _ _
          (share-own (record { symbol = s; place = a }) (v (k + 0)) s (a + 0) (eq-eqb s s refl)
          (let e : a ≡ a + 0 = omega arith in e) ∙ ap v (let e : k + 0 ≡ k = omega arith in e))
          (block-before s (λ i. not (shut i)) (a + 1) n (λ i. v (k + suc i)) (a + 0) (omega (arith, l)) (omega arith))))
          ∙ ap (λ (xs : List ℤ).
          (share (record { symbol = s; place = a }) (v (k + 0)) s (a + 0) +ℤ coefficient (rest shut s (a + 1) n)
          (λ i. v (k + suc i)) s (a + 0)) ∷ xs)
          (onward ∙ listed-agree n _ _ (λ j. one j))
        where
          one : (j : ℕ) → coefficient (rest shut s (a + 1) n) (λ i. v (k + 1 + i)) s (a + 1 + j)
              ≡ share (record { symbol = s; place = a }) (v (k + 0)) s (a + suc j) +ℤ coefficient
              (rest shut s (a + 1) n) (λ i. v (k + suc i)) s (a + suc j)
          one j =
              sym (sum-zero-left _ _ _ (share-other (record { symbol = s; place = a }) (v (k + 0)) s (a + suc j)
              (λ e. omega (arith, e)))
              (coefficient-same (rest shut s (a + 1) n) (λ i. v (k + suc i)) (λ i. v (k + 1 + i)) s (a + suc j)
              (λ i. ap v (let e : k + suc i ≡ k + 1 + i = omega arith in e))
              ∙ ap (λ (i : ℕ). coefficient (rest shut s (a + 1) n) (λ i. v (k + 1 + i)) s i)
              (let e : a + suc j ≡ a + 1 + j = omega arith in e)))

module _ (p : Program) (set : List ℕ) (strict : ℕ) (shut : List SymbolPlace) (v : ℕ → ℤ) where
  abbrev b : RankedSet
  b = ranked_set p set strict shut

  -- the form at a symbol that coefficients give, from parameter k on
  abbrev form-of-coefficients : List Coefficient → ℕ → ℕ → SymbolForm
  form-of-coefficients cs k s = record {
    symbol = s;
    form = record {
      coefs = listed (arity_of p s) (λ j. coefficient cs (λ i. v (k + i)) s (suc j));
      constant = coefficient cs (λ i. v (k + i)) s 0;
    };
  }

  -- the form at a symbol with these coefficients and this constant
  abbrev form-with : ℕ → List ℤ → ℤ → SymbolForm
  form-with s xs z = record { symbol = s; form = record { coefs = xs; constant = z } }

  -- the coefficients of other symbols don't change the form
  form-of-coefficients-same : (cs ds : List Coefficient) (k l s : ℕ) →
      ((i : ℕ) → coefficient cs (λ j. v (k + j)) s i ≡ coefficient ds (λ j. v (l + j)) s i)
      → form-of-coefficients cs k s ≡ form-of-coefficients ds l s
  form-of-coefficients-same cs ds k l s h =
      ap (λ (xs : List ℤ). form-with s xs (coefficient cs (λ j. v (k + j)) s 0))
      (listed-agree (arity_of p s) _ _ (λ j. h (suc j)))
      ∙ ap (λ (z : ℤ). form-with s (listed (arity_of p s) (λ j. coefficient ds (λ i. v (l + i)) s (suc j))) z) (h 0)

  read-form-of-coefficients : (k s : ℕ) → read_form p shut v k s
      ≡ form-of-coefficients (rest (is_shut shut s) s 1 (arity_of p s)) k s
  read-form-of-coefficients k s =
      ap (λ (xs : List ℤ). form-with s xs (v (k + open_count (is_shut shut s) 1 (arity_of p s))))
      (coefs-read (is_shut shut s) v s k 1 (arity_of p s) (omega arith)
      ∙ listed-agree (arity_of p s) _ _
      (λ j. ap (λ (i : ℕ). coefficient (rest (is_shut shut s) s 1 (arity_of p s)) (λ i. v (k + i)) s i)
      (let e : 1 + j ≡ suc j = omega arith in e)))
      ∙ ap (λ (z : ℤ). form-with s
      (listed (arity_of p s)
      (λ j. coefficient (rest (is_shut shut s) s 1 (arity_of p s)) (λ i. v (k + i)) s (suc j))) z)
      (sym (constant-read (is_shut shut s) v s k 1 (arity_of p s) (omega arith)))

  -- how many coefficients a symbol has: one for each open place, and one for its constant
  length-rest : (s : ℕ) → length (rest (is_shut shut s) s 1 (arity_of p s))
      ≡ open_count (is_shut shut s) 1 (arity_of p s) + 1
  length-rest s =
      length-map {B = Coefficient} (λ i. record { symbol = s; place = i })
      (filter (λ i. not (is_shut shut s i)) (range_with_len 1 (arity_of p s)) ++ 0 ∷ [])
      ∙ length-append (filter (λ i. not (is_shut shut s i)) (range_with_len 1 (arity_of p s))) (0 ∷ [])

  module _ (test : ℕ → Bool) where
    -- no symbol of a range is below its first one
    symbols-not-below : (a n : ℕ) (c : ℕ) → c ≤ a → All (λ s. c ≤ s) (filter test (range_with_len a n))
    symbols-not-below a n c l = All-filter test (λ s. c ≤ s) (range_with_len a n) (all a n l)
      where
        all : (a n : ℕ) → c ≤ a → All (λ s. c ≤ s) (range_with_len a n)
        all a zero l = All-nil (λ s. c ≤ s)
        all a (suc n) l = All-cons (λ s. c ≤ s) a (range_with_len (a + 1) n) l (all (a + 1) n (omega (arith, l)))

    -- the forms are read symbol by symbol
    pub forms-read : (a n k : ℕ) → read_forms p shut v k (filter test (range_with_len a n))
        ≡ map (form-of-coefficients (coefficients b (filter test (range_with_len a n))) k)
        (filter test (range_with_len a n))
    forms-read a zero k = refl
    forms-read a (suc n) k = go (test a) (λ m. forms-read (a + 1) n m)
      where
        later : List ℕ
        later = filter test (range_with_len (a + 1) n)

        own : List Coefficient
        own = rest (is_shut shut a) a 1 (arity_of p a)

        next : ℕ
        next = k + open_count (is_shut shut a) 1 (arity_of p a) + 1

        first : form-of-coefficients own k a ≡ form-of-coefficients
            (own ++ coefficients b (filter test (range_with_len (a + 1) n))) k a
        first = form-of-coefficients-same own (own ++ coefficients b (filter test (range_with_len (a + 1) n))) k k a
            (λ i. sym (coefficient-append own (coefficients b (filter test (range_with_len (a + 1) n)))
            (λ j. v (k + j)) a i
            ∙ sum-zero-right _ _ _ refl
            (symbols-before 0 b test (a + 1) n (λ j. v (k + (length own + j))) a i (omega arith))))

        other : (s : ℕ) → a + 1 ≤ s → form-of-coefficients (coefficients b (filter test (range_with_len (a + 1) n)))
            next s
            ≡ form-of-coefficients (own ++ coefficients b (filter test (range_with_len (a + 1) n))) k s
        other s l = form-of-coefficients-same (coefficients b (filter test (range_with_len (a + 1) n)))
            (own ++ coefficients b (filter test (range_with_len (a + 1) n))) next k s
            (λ i. sym (coefficient-append own (coefficients b (filter test (range_with_len (a + 1) n)))
            (λ j. v (k + j)) s i
            ∙ sum-zero-left _ _ _ (block-elsewhere a
            (filter (λ i. not (is_shut shut a i)) (range_with_len 1 (arity_of p a)) ++ 0 ∷ []) (λ j. v (k + j)) s i
            (λ e. omega (arith, e, l)))
            (coefficient-same (coefficients b (filter test (range_with_len (a + 1) n))) (λ j. v (k + (length own + j)))
            (λ j. v (next + j)) s i
            (λ j. ap v (let m = length-rest a in let e : k + (length own + j) ≡ next + j = omega (arith, m) in e)))))

        others : (ss : List ℕ) → All (λ s. a + 1 ≤ s) ss
            → map (form-of-coefficients (coefficients b (filter test (range_with_len (a + 1) n))) next) ss
            ≡ map (form-of-coefficients (own ++ coefficients b (filter test (range_with_len (a + 1) n))) k) ss
        others [] h = refl
        others (s ∷ ss) h =
            ap (λ (x : SymbolForm). x ∷ map
            (form-of-coefficients (coefficients b (filter test (range_with_len (a + 1) n))) next) ss)
            (other s (All-head (λ s. a + 1 ≤ s) s ss h))
            ∙ ap (λ (xs : List SymbolForm). form-of-coefficients
            (own ++ coefficients b (filter test (range_with_len (a + 1) n))) k s ∷ xs)
            (others ss (All-tail (λ s. a + 1 ≤ s) s ss h))

        go : (t : Bool)
            → ((m : ℕ) → read_forms p shut v m (filter test (range_with_len (a + 1) n))
            ≡ map (form-of-coefficients (coefficients b (filter test (range_with_len (a + 1) n))) m)
            (filter test (range_with_len (a + 1) n)))
            → read_forms p shut v k
            (cond t (a ∷ filter test (range_with_len (a + 1) n)) (filter test (range_with_len (a + 1) n)))
            ≡ map (form-of-coefficients (coefficients b
            (cond t (a ∷ filter test (range_with_len (a + 1) n)) (filter test (range_with_len (a + 1) n)))) k)
            (cond t (a ∷ filter test (range_with_len (a + 1) n)) (filter test (range_with_len (a + 1) n)))
        go false ih = ih k
        go true ih =
            ap (λ (x : SymbolForm). x ∷ read_forms p shut v next (filter test (range_with_len (a + 1) n)))
            (read-form-of-coefficients k a ∙ first)
            ∙ ap (λ (xs : List SymbolForm). form-of-coefficients
            (own ++ coefficients b (filter test (range_with_len (a + 1) n))) k a ∷ xs)
            (ih next ∙ others (filter test (range_with_len (a + 1) n))
            (symbols-not-below (a + 1) n (a + 1) (omega arith)))

  -- the forms that are read are those of the function with these parameters
  pub function-read : read_forms p shut v 0 (symbols_of_set b) ≡ map (part_at (function_of b v)) (symbols_of_set b)
  function-read = forms-read (has_symbol b) 0 (length p.symbols) 0 ∙ all (symbols_of_set b)
    where
      all : (ss : List ℕ) → map (form-of-coefficients (coefficients b (symbols_of_set b)) 0) ss
          ≡ map (part_at (function_of b v)) ss
      all [] = refl
      all (s ∷ ss) =
          ap (λ (x : SymbolForm). x ∷ map (form-of-coefficients (coefficients b (symbols_of_set b)) 0) ss) (one s)
          ∙ ap (λ (xs : List SymbolForm). part_at (function_of b v) s ∷ xs) (all ss)
        where
          none : (k : ℕ) → v (0 + k) ≡ v k
          none k = ap v (let e : 0 + k ≡ k = omega arith in e)

          one : (s : ℕ) → form-of-coefficients (coefficients b (symbols_of_set b)) 0 s ≡ part_at (function_of b v) s
          one s =
              ap (λ (xs : List ℤ). form-with s xs
              (coefficient (coefficients b (symbols_of_set b)) (λ k. v (0 + k)) s 0))
              (listed-agree (arity_of p s) _ _
              (λ j. coefficient-same (coefficients b (symbols_of_set b)) (λ k. v (0 + k)) v s (suc j) none))
              ∙ ap (λ (z : ℤ). form-with s
              (listed (arity_of p s) (λ j. coefficient (coefficients b (symbols_of_set b)) v s (suc j))) z)
              (coefficient-same (coefficients b (symbols_of_set b)) (λ k. v (0 + k)) v s 0 none)

-- the coefficients of a form so far, and the remaining places
module _ (shut : ℕ → Bool) (v : ℕ → ℤ) where
  left-places : (before n : ℕ) → before < n → n - before ≡ suc (n - (before + 1))
  left-places before n l = omega (arith, l)

  -- a place that isn't shut takes the next parameter, and the remaining places complete the form
  pub place-read : (k before n : ℕ) (old new all : List ℤ) (x : ℤ) → before < n → old ++ read_coefs shut v k
      (before + 1) (n - before) ≡ all
      → new ≡ old ++ x ∷ [] → shut (before + 1) ≡ false → x ≡ v k
      → new ++ read_coefs shut v (k + 1) (before + 1 + 1) (n - (before + 1)) ≡ all
  place-read k before n old new all x l kept e opened is =
      ap (λ (xs : List ℤ). xs ++ read_coefs shut v (k + 1) (before + 1 + 1) (n - (before + 1))) e
      ∙ (append_assoc old (x ∷ []) (read_coefs shut v (k + 1) (before + 1 + 1) (n - (before + 1)))
      ∙ (ap (λ (y : ℤ). old ++ y ∷ read_coefs shut v (k + 1) (before + 1 + 1) (n - (before + 1))) is
      ∙ (sym (ap (λ (m : ℕ). old ++ read_coefs shut v k (before + 1) m) (left-places before n l)
      ∙ ap (λ (c : Bool). old ++
      (if c then pos 0 ∷ read_coefs shut v k (before + 1 + 1) (n - (before + 1)) else v k ∷ read_coefs shut v
      (k + 1) (before + 1 + 1) (n - (before + 1)))) opened) ∙ kept)))

  -- a shut place takes 0 and no parameter, and the remaining places complete the form
  pub place-left : (k before n : ℕ) (old new all : List ℤ) (x : ℤ) → before < n → old ++ read_coefs shut v k
      (before + 1) (n - before) ≡ all
      → new ≡ old ++ x ∷ [] → shut (before + 1) ≡ true → x ≡ pos 0
      → new ++ read_coefs shut v k (before + 1 + 1) (n - (before + 1)) ≡ all
  place-left k before n old new all x l kept e closed is =
      ap (λ (xs : List ℤ). xs ++ read_coefs shut v k (before + 1 + 1) (n - (before + 1))) e
      ∙ (append_assoc old (x ∷ []) (read_coefs shut v k (before + 1 + 1) (n - (before + 1)))
      ∙ (ap (λ (y : ℤ). old ++ y ∷ read_coefs shut v k (before + 1 + 1) (n - (before + 1))) is
      ∙ (sym (ap (λ (m : ℕ). old ++ read_coefs shut v k (before + 1) m) (left-places before n l)
      ∙ ap (λ (c : Bool). old ++
      (if c then pos 0 ∷ read_coefs shut v k (before + 1 + 1) (n - (before + 1)) else v k ∷ read_coefs shut v
      (k + 1) (before + 1 + 1) (n - (before + 1)))) closed) ∙ kept)))

  -- after a place that isn't shut, one more parameter has been read
  pub count-read : (k before n all : ℕ) → before < n → k + open_count shut (before + 1) (n - before) ≡ all → shut
      (before + 1) ≡ false
      → k + 1 + open_count shut (before + 1 + 1) (n - (before + 1)) ≡ all
  count-read k before n all l kept opened =
      let e : open_count shut (before + 1) (n - before) ≡ suc (open_count shut (before + 1 + 1) (n - (before + 1))) =
      ap (λ (m : ℕ). open_count shut (before + 1) m) (left-places before n l)
      ∙ ap (λ (c : Bool). length
      (cond (not c) ((before + 1) ∷ filter (λ i. not (shut i)) (range_with_len (before + 1 + 1) (n - (before + 1))))
      (filter (λ i. not (shut i)) (range_with_len (before + 1 + 1) (n - (before + 1)))))) opened in
      omega (arith, kept, e)

  -- after a shut place, no more parameters have been read
  pub count-left : (k before n all : ℕ) → before < n → k + open_count shut (before + 1) (n - before) ≡ all → shut
      (before + 1) ≡ true
      → k + open_count shut (before + 1 + 1) (n - (before + 1)) ≡ all
  count-left k before n all l kept closed =
      let e : open_count shut (before + 1) (n - before) ≡ open_count shut (before + 1 + 1) (n - (before + 1)) =
      ap (λ (m : ℕ). open_count shut (before + 1) m) (left-places before n l)
      ∙ ap (λ (c : Bool). length
      (cond (not c) ((before + 1) ∷ filter (λ i. not (shut i)) (range_with_len (before + 1 + 1) (n - (before + 1))))
      (filter (λ i. not (shut i)) (range_with_len (before + 1 + 1) (n - (before + 1)))))) closed in
      omega (arith, kept, e)

-- the forms so far, and those of the remaining symbols
module _ (p : Program) (shut : List SymbolPlace) (v : ℕ → ℤ) (symbols : List ℕ) where
  -- with the form at the next symbol pushed, the forms so far and those of the remaining symbols are the function
  pub forms-push : (i s k onward : ℕ) (old new all : List SymbolForm) (f : SymbolForm) → i < length symbols → s
      ≡ get_or symbols i s
      → old ++ read_forms p shut v k (drop i symbols) ≡ all → f ≡ read_form p shut v k s → new ≡ old ++ f ∷ []
      → onward ≡ k + open_count (is_shut shut s) 1 (arity_of p s) + 1
      → new ++ read_forms p shut v onward (drop (i + 1) symbols) ≡ all
  forms-push i s k onward old new all f l is kept e g h =
      ap (λ (xs : List SymbolForm). xs ++ read_forms p shut v onward (drop (i + 1) symbols)) g
      ∙ (append_assoc old (f ∷ []) (read_forms p shut v onward (drop (i + 1) symbols))
      ∙ (ap (λ (x : SymbolForm). old ++ x ∷ read_forms p shut v onward (drop (i + 1) symbols)) e
      ∙ (ap (λ (n : ℕ). old ++ read_form p shut v k s ∷ read_forms p shut v n (drop (i + 1) symbols)) h
      ∙ (sym (ap (λ (ss : List ℕ). old ++ read_forms p shut v k ss)
      (drop_more symbols i s l ∙ ap (λ (t : ℕ). t ∷ drop (i + 1) symbols) (sym is))) ∙ kept))))

  -- if no symbol is left, the forms so far are the function's
  pub forms-complete : (i k : ℕ) (old all : List SymbolForm) → length symbols ≤ i
      → old ++ read_forms p shut v k (drop i symbols) ≡ all → old ≡ all
  forms-complete i k old all l kept =
      sym (nothing old) ∙ (sym (ap (λ (ss : List ℕ). old ++ read_forms p shut v k ss) (drop_all i symbols l)) ∙ kept)
    where
      nothing : (xs : List SymbolForm) → xs ++ [] ≡ xs
      nothing [] = refl
      nothing (y ∷ ys) = ap (λ (zs : List SymbolForm). y ∷ zs) (nothing ys)
