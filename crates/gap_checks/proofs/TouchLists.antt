-- The touches of a set, rule by rule and in order.
use Rattle.std.proofs.Common.{◌≡◌, ◌⊎◌, inl, inr, ℕ, zero, suc, ◌+◌, ◌*◌, ◌<◌, ◌≤◌, ◌==◌, ◌||◌, Bool, true, false, List, [], ◌∷◌, ◌++◌}
use Rattle.std.proofs.Common.{length, take, drop, get_or, All, Option, Some, refl, sym, ap, ◌∙◌, subst, arith}
use Rattle.std.specs.List.{AllWithin, list_any}
use Rattle.std.specs.List.Sorted.{IsNonDecreasingBy}
use Rattle.std.proofs.Math.ListN.{set as put}
use Rattle.std.proofs.lemmas.Bool.{cases_lt, or_right}
use Rattle.std.proofs.lemmas.List.{drop_more, drop_all, get_or_default, take_all, take_more_set, length-set, append_assoc}
use Rattle.std.proofs.lemmas.List.Elements.{All-nil, All-cons, All-get_or}
use Rattle.std.proofs.lemmas.List.Sorted.{All-permutation, length_permutation, list_any-IsPermutation}
use Rattle.farkas_cert.specs.linear_forms.RuleQuestions.{RuleForms}
use Rattle.farkas_cert.specs.model.Paths.{source_in, source_of, same_symbol}
use Rattle.farkas_cert.specs.model.Programs.{Program, Rule}
use Rattle.cert_types.specs.cert_program.RankedSets.{forms_in, forms_at}
use Rattle.cert_types.specs.cert_rules.AcceptsPlain.{IsRule}
use Rattle.cert_types.specs.cert_rules.Graph.{touches}
use Rattle.gap_checks.specs.declared.touching.Way.{Way}
use Rattle.gap_checks.specs.declared.touching.Way.TheVariants.{Leaves, Arrives}
use Rattle.gap_checks.specs.declared.touching.Touch.{Touch}
use Rattle.gap_checks.specs.Touches.{AreRules, AreTouches, IsGroup, rule_in, leaving_touch, arriving_touch, touches_from}
use Rattle.gap_checks.proofs.Balances.{target-is}
use Rattle.gap_checks.proofs.GapFaults.{in-list}

-- the source and the target of a rule of the program
pub source-is : (p : Program) (t : ℕ) (is : IsRule p t) → source_of p t ≡ Some (forms_at p t).source
source-is p t is = subst (λ (o : Option Rule). source_in o ≡ Some (forms_in o).source) (sym is.numbered) refl

-- the symbol of a touch: the rule's source, or its target
abbrev pub symbol_by : Way → RuleForms → ℕ
symbol_by Leaves r = r.source
symbol_by Arrives r = r.target

-- a touch is of a rule of this set, and its symbol is the rule's source or target
abbrev pub IsTouchOf : (ℕ → RuleForms) → List ℕ → Touch → Type 0
IsTouchOf rule set t = (t.position < length set) × (t.symbol ≡ symbol_by t.way (rule (rule_in set t.position)))

module _ (rule : ℕ → RuleForms) (set : List ℕ) where
  -- the touches of n + 1 rules are those of n rules and those of the last one
  touches-more : (n a : ℕ) → touches_from rule set a (suc n)
      ≡ touches_from rule set a n ++ leaving_touch rule set (a + n) ∷ arriving_touch rule set (a + n) ∷ []
  touches-more zero a =
      ap (λ (i : ℕ). leaving_touch rule set i ∷ arriving_touch rule set i ∷ []) (let e : a ≡ a + 0 = omega arith in e)
  touches-more (suc n) a =
      ap (λ (ts : List Touch). leaving_touch rule set a ∷ arriving_touch rule set a ∷ ts)
      (touches-more n (a + 1)
      ∙ ap (λ (i : ℕ). touches_from rule set (a + 1) n ++ leaving_touch rule set i ∷ arriving_touch rule set i ∷ [])
      (let e : (a + 1) + n ≡ a + suc n = omega arith in e))

  -- the touches of a rule are written after those of the rules before it
  put-more : (ts : List Touch) (i : ℕ) → 2 * i + 1 < length ts → take (2 * i) ts ≡ touches_from rule set 0 i
      → take (2 * (i + 1)) (put (put ts (2 * i) (leaving_touch rule set i)) (2 * i + 1) (arriving_touch rule set i)) ≡ touches_from rule set 0 (i + 1)
  put-more ts i l h =
      ap (λ (n : ℕ). take n (put (put ts (2 * i) (leaving_touch rule set i)) (2 * i + 1) (arriving_touch rule set i))) (let e : 2 * (i + 1) ≡ (2 * i + 1) + 1 = omega arith in e)
      ∙ (take_more_set (put ts (2 * i) (leaving_touch rule set i)) (2 * i + 1) (arriving_touch rule set i)
      (omega (arith, l, length-set ts (2 * i) (leaving_touch rule set i)))
      ∙ (ap (λ (xs : List Touch). xs ++ arriving_touch rule set i ∷ [])
      (take_more_set ts (2 * i) (leaving_touch rule set i) (omega (arith, l)))
      ∙ (append_assoc (take (2 * i) ts) (leaving_touch rule set i ∷ []) (arriving_touch rule set i ∷ [])
      ∙ (ap (λ (xs : List Touch). xs ++ leaving_touch rule set i ∷ arriving_touch rule set i ∷ []) h
      ∙ (sym (touches-more i 0 ∙ ap (λ (j : ℕ). touches_from rule set 0 i ++ leaving_touch rule set j ∷ arriving_touch rule set j ∷ [])
      (let e : 0 + i ≡ i = omega arith in e))
      ∙ ap (touches_from rule set 0) (let e : suc i ≡ i + 1 = omega arith in e))))))

  -- with its source and target, the touches of the next rule are written
  pub put-next : (ts : List Touch) (i s t : ℕ) → s ≡ (rule (rule_in set i)).source → t ≡ (rule (rule_in set i)).target
      → 2 * i + 1 < length ts → take (2 * i) ts ≡ touches_from rule set 0 i
      → take (2 * (i + 1)) (put (put ts (2 * i) (record { symbol = s; position = i; way = Leaves })) (2 * i + 1)
      (record { symbol = t; position = i; way = Arrives }))
      ≡ touches_from rule set 0 (i + 1)
  put-next ts i s t e f l h =
      ap (λ (n : ℕ). take (2 * (i + 1)) (put (put ts (2 * i) (record { symbol = n; position = i; way = Leaves })) (2 * i + 1)
      (record { symbol = t; position = i; way = Arrives }))) e
      ∙ (ap (λ (n : ℕ). take (2 * (i + 1)) (put (put ts (2 * i) (leaving_touch rule set i)) (2 * i + 1)
      (record { symbol = n; position = i; way = Arrives }))) f
      ∙ put-more ts i l h)

  -- after the last rule all touches are written
  pub put-all : (ts : List Touch) (i : ℕ) → i ≡ length set → length ts ≡ 2 * length set
      → take (2 * i) ts ≡ touches_from rule set 0 i → ts ≡ touches_from rule set 0 (length set)
  put-all ts i e l h =
      sym (take_all (2 * i) ts (omega (arith, e, l))) ∙ (h ∙ ap (touches_from rule set 0) e)

  -- each touch is of a rule of the set
  touches-real : (n i : ℕ) → i + n ≡ length set → All (IsTouchOf rule set) (touches_from rule set i n)
  touches-real zero i l = All-nil (IsTouchOf rule set)
  touches-real (suc n) i l =
      All-cons (IsTouchOf rule set) (leaving_touch rule set i) (arriving_touch rule set i ∷ touches_from rule set (i + 1) n)
      (omega (arith, l), refl)
      (All-cons (IsTouchOf rule set) (arriving_touch rule set i) (touches_from rule set (i + 1) n) (omega (arith, l), refl)
      (touches-real n (i + 1) (omega (arith, l))))

  -- each rule has two touches
  touches-count : (n i : ℕ) → length (touches_from rule set i n) ≡ 2 * n
  touches-count zero i = refl
  touches-count (suc n) i = omega (arith, touches-count n (i + 1))

  module _ (ts : List Touch) (h : AreTouches rule set ts) where
    -- each touch in order is of a rule of the set
    pub touch-real : (k : ℕ) (d : Touch) → k < length ts → IsTouchOf rule set (get_or ts k d)
    touch-real k d l =
        All-get_or (IsTouchOf rule set) ts k d l
        (All-permutation (IsTouchOf rule set) (touches_from rule set 0 (length set)) ts h.all
        (touches-real (length set) 0 (omega arith)))

    pub touch-count : length ts ≡ 2 * length set
    touch-count =
        length_permutation (touches_from rule set 0 (length set)) ts h.all ∙ touches-count (length set) 0

-- a touch is of a symbol
abbrev pub is_of : ℕ → Touch → Bool
is_of s t = s == t.symbol

or-assoc : (a b c : Bool) → (a || (b || c)) ≡ ((a || b) || c)
or-assoc true b c = refl
or-assoc false b c = refl

module _ (p : Program) (set : List ℕ) (rules : AreRules p set) (s : ℕ) where
  -- a set touches a symbol exactly if one of its touches is of that symbol
  touched-from : (n i : ℕ) → i + n ≡ length set
      → list_any (is_of s) (touches_from (forms_at p) set i n) ≡ touches p (drop i set) s
  touched-from zero i l = ap (λ (ts : List ℕ). touches p ts s) (sym (drop_all i set (omega (arith, l))))
  touched-from (suc n) i l =
      or-assoc (s == (forms_at p t).source) (s == (forms_at p t).target) (list_any (is_of s) (touches_from (forms_at p) set (i + 1) n))
      ∙ (ap (λ (v : Bool). ((s == (forms_at p t).source) || (s == (forms_at p t).target)) || v)
      (touched-from n (i + 1) (omega (arith, l)))
      ∙ (ap (λ (o : Option ℕ). (same_symbol (Some s) o || (s == (forms_at p t).target)) || touches p (drop (i + 1) set) s)
      (sym (source-is p t is))
      ∙ (ap (λ (o : Option ℕ). (same_symbol (Some s) (source_of p t) || same_symbol (Some s) o) || touches p (drop (i + 1) set) s)
      (sym (target-is p t is))
      ∙ sym (ap (λ (ts : List ℕ). touches p ts s) (drop_more set i 0 (omega (arith, l)))))))
    where
      t : ℕ
      t = rule_in set i

      is : IsRule p t
      is = rules t (in-list set i 0 (omega (arith, l)))

  -- a set touches a symbol exactly if one of its touches in order is of that symbol
  pub touched-any : (ts : List Touch) → AreTouches (forms_at p) set ts → list_any (is_of s) ts ≡ touches p set s
  touched-any ts h =
      sym (list_any-IsPermutation (is_of s) (touches_from (forms_at p) set 0 (length set)) ts h.all)
      ∙ touched-from (length set) 0 (omega arith)

-- if some element of a list passes a test, the element at some position passes it
pub any-at : {A : Type 0} (test : A → Bool) (d : A) (xs : List A) → list_any test xs ≡ true
    → (k : ℕ) × (k < length xs) × (test (get_or xs k d) ≡ true)
any-at test d [] h = absurd (let no : ⊥ = cc in no)
any-at {A} test d (x ∷ xs) h = go (test x) refl h (any-at test d xs)
  where
    go : (v : Bool) → test x ≡ v → (v || list_any test xs) ≡ true
        → (list_any test xs ≡ true → (k : ℕ) × (k < length xs) × (test (get_or xs k d) ≡ true))
        → (k : ℕ) × (k < length (x ∷ xs)) × (test (get_or (x ∷ xs) k d) ≡ true)
    go true e m later = (0, omega arith, e)
    go false e m later = one-more (later m)
      where
        one-more : ((k : ℕ) × (k < length xs) × (test (get_or xs k d) ≡ true))
            → (k : ℕ) × (k < length (x ∷ xs)) × (test (get_or (x ∷ xs) k d) ≡ true)
        one-more found = (suc found.0, omega (arith, found.1), found.2)

-- if the element at a position passes a test, some element of the list passes it
pub at-any : {A : Type 0} (test : A → Bool) (d : A) (xs : List A) (k : ℕ) → k < length xs
    → test (get_or xs k d) ≡ true → list_any test xs ≡ true
at-any test d [] k l h = absurd (omega (arith, l))
at-any test d (x ∷ xs) zero l h = ap (λ (v : Bool). v || list_any test xs) h
at-any test d (x ∷ xs) (suc k) l h = or_right (test x) (list_any test xs) (at-any test d xs k (omega (arith, l)) h)

-- the touches of a symbol end where those of the next symbol begin
pub group-found : (ts : List Touch) (start end from : ℕ) (d : Touch) → IsNonDecreasingBy (λ t. t.symbol) ts
    → start < length ts
    → ((k : ℕ) (e f : Touch) → k < start → (get_or ts k e).symbol < (get_or ts start f).symbol)
    → end ≤ length ts → from ≡ (get_or ts start d).symbol + 1 → AllWithin (λ t. t.symbol < from) ts 0 end
    → AllWithin (λ t. from ≤ t.symbol) ts end (length ts)
    → IsGroup ts (record { symbol = (get_or ts start d).symbol; start = start; end = end })
group-found ts start end from d o l first m e low high = record {
  some = go (cases_lt start end);
  bound = m;
  before = λ k f a b. first k f d b;
  within = λ k f a b.
      omega (arith, e, low k f (omega arith) b, o start k f a (omega (arith, b, m)), ap (λ (t : Touch). t.symbol) (here f));
  behind = λ k f a b. omega (arith, e, high k f a b);
}
  where
    here : (f : Touch) → get_or ts start d ≡ get_or ts start f
    here f = get_or_default ts start d f l

    go : (start < end) ⊎ (end ≤ start) → start < end
    go (inl a) = a
    go (inr a) = absurd (omega (arith, e, high start d a l))
