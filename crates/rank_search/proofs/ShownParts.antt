-- The forms of a function at symbols, and the multipliers of each rule, which are within the limit.
use Rattle.std.proofs.Common.{◌≡◌, ℕ, zero, suc, ◌+◌, ◌<◌, ◌≤◌, ◌≢◌, ap, arith, refl, sym, ◌∙◌, subst, Bool, true}
use Rattle.std.proofs.Common.{false, cond, ◌||◌, ◌⊎◌, inl, inr, List, [], ◌∷◌, ◌++◌, length, map, filter, nat_eq}
use Rattle.std.proofs.Common.{if◌then◌else◌, Some}
use Rattle.std.specs.Prelude.{ℤ, pos, nat_abs, ◌==◌}
use Rattle.std.specs.List.{All, list_any, range_with_len}
use Rattle.std.proofs.lemmas.Bool.{cases_lt, eq-eqb, ne_eqb, true≢false}
use Rattle.std.proofs.lemmas.Bool.Decides.{eqb_tells}
use Rattle.std.proofs.lemmas.List.Elements.{All-nil, All-cons, All-head, All-tail}
use Rattle.simplex_core.specs.linear_forms.Forms.{Form, at}
use Rattle.simplex_core.specs.linear_forms.Certificates.{Implies}
use Rattle.simplex_core.specs.linear_forms.Limits.{certificate_limit}
use Rattle.simplex_core.specs.linear_forms.Questions.{Group}
use Rattle.simplex_core.specs.linear_forms.QuestionLaws.{after, multipliers_of, multipliers_by_group}
use Rattle.simplex_core.specs.linear_forms.RuleQuestions.{RankedSet, constant_form}
use Rattle.simplex_core.proofs.linear_forms.ListLaws.{after-is}
use Rattle.cert_types.specs.rule_forms.Ranking.{Function}
use Rattle.cert_types.specs.rule_forms.RankLaws.{AreImplied, lost_by}
use Rattle.cert_types.specs.cert_rules.AcceptsRank.{moves_of}
use Rattle.simplex_core.specs.linear_forms.Combinations.{less}
use Rattle.cert_types.specs.cert_rules.Composed.{rank_form}
use Rattle.cert_types.specs.cert_rules.Limits.{IsInLimit, AreInLimit}
use Rattle.poly_terms.specs.model.Entries.{is_in}
use Rattle.rank_search.specs.RankAnswers.{part_at}

-- the form at a symbol that passes the test
pub part-of : (f : Function) (test : ℕ → Bool) (a n s : ℕ) → test s ≡ true → a ≤ s → s < a + n
    → rank_form (map (part_at f) (filter test (range_with_len a n))) (Some s) ≡ f s
part-of f test a zero s h l m = absurd (omega (arith, l, m))
part-of f test a (suc n) s h l m = which (eqb_tells a s) (λ k. part-of f test (a + 1) n s h k (omega (arith, m)))
  where
    here : (t : Bool) → test a ≡ t → a ≡ s
        → rank_form (map (part_at f)
        (cond t (a ∷ filter test (range_with_len (a + 1) n)) (filter test (range_with_len (a + 1) n)))) (Some s)
        ≡ f s
    here true e g =
        ap (λ (b : Bool). cond b (f a) (rank_form (map (part_at f) (filter test (range_with_len (a + 1) n))) (Some s)))
        (eq-eqb a s g)
        ∙ ap f g
    here false e g = absurd (true≢false (sym h ∙ (ap test (sym g) ∙ e)))

    there : (t : Bool) → a ≢ s
        → rank_form (map (part_at f) (filter test (range_with_len (a + 1) n))) (Some s) ≡ f s
        → rank_form (map (part_at f)
        (cond t (a ∷ filter test (range_with_len (a + 1) n)) (filter test (range_with_len (a + 1) n)))) (Some s)
        ≡ f s
    there true d k =
        ap (λ (b : Bool). cond b (f a) (rank_form (map (part_at f) (filter test (range_with_len (a + 1) n))) (Some s)))
        (ne_eqb a s d) ∙ k
    there false d k = k

    which : ((nat_eq a s ≡ true) × (a ≡ s)) ⊎ ((nat_eq a s ≡ false) × (a ≢ s))
        → (a + 1 ≤ s → rank_form (map (part_at f) (filter test (range_with_len (a + 1) n))) (Some s) ≡ f s)
        → rank_form (map (part_at f)
        (cond (test a) (a ∷ filter test (range_with_len (a + 1) n)) (filter test (range_with_len (a + 1) n))))
        (Some s) ≡ f s
    which (inl e) later = here (test a) refl e.1
    which (inr e) later = there (test a) e.1 (later (beyond a s l e.1))
      where
        beyond : (a s : ℕ) → a ≤ s → a ≢ s → a + 1 ≤ s
        beyond a s l d = go (cases_lt a s)
          where
            go : (a < s) ⊎ (s ≤ a) → a + 1 ≤ s
            go (inl k) = omega (arith, k)
            go (inr k) = absurd (d (omega (arith, k, l)))

-- if an element of a list passes a test, some element does
pub any-of : (test : ℕ → Bool) (x : ℕ) (xs : List ℕ) → is_in x xs ≡ true → test x ≡ true → list_any test xs ≡ true
any-of test x [] h e = absurd (true≢false (sym h))
any-of test x (y ∷ ys) h e = which (eqb_tells x y) (λ g. any-of test x ys g e)
  where
    or-true : (v : Bool) → (v || true) ≡ true
    or-true true = refl
    or-true false = refl

    which : ((nat_eq x y ≡ true) × (x ≡ y)) ⊎ ((nat_eq x y ≡ false) × (x ≢ y)) →
        (is_in x ys ≡ true → list_any test ys ≡ true)
        → (test y || list_any test ys) ≡ true
    which (inl g) later = ap (λ (b : Bool). b || list_any test ys) (ap test (sym g.1) ∙ e)
    which (inr g) later =
        ap (λ (b : Bool). test y || b) (later (sym (ap (λ (b : Bool). b || is_in x ys) g.0) ∙ h)) ∙ or-true (test y)

-- the multipliers of a group are within the limit if the columns are
limits-of : (rows : List Form) (x : ℕ → ℤ) → ((j : ℕ) → nat_abs (x j) ≤ certificate_limit) → AreInLimit
    (multipliers_of x rows)
limits-of [] x h = All-nil IsInLimit
limits-of (r ∷ rows) x h =
    All-cons IsInLimit (nat_abs (x 0)) (multipliers_of (λ j. x (suc j)) rows) (h 0)
    (limits-of rows (λ j. x (suc j)) (λ j. h (suc j)))

-- the multipliers of all groups are within the limit if the columns are
pub limits-by_group : (gs : List Group) (x : ℕ → ℤ) → ((j : ℕ) → nat_abs (x j) ≤ certificate_limit) → All AreInLimit
    (multipliers_by_group x gs)
limits-by_group [] x h = All-nil AreInLimit
limits-by_group (g ∷ gs) x h =
    All-cons AreInLimit (multipliers_of x g.rows) (multipliers_by_group (after (suc (length g.rows)) x) gs)
    (limits-of g.rows x h)
    (limits-by_group gs (after (suc (length g.rows)) x)
    (λ j. subst (λ (z : ℤ). nat_abs z ≤ certificate_limit) (sym (after-is (suc (length g.rows)) x j))
    (h (suc (length g.rows) + j))))

-- the multipliers of a rule are among these
pub moves-limit : (set : List ℕ) (moves : List (List ℕ)) (t : ℕ) → All AreInLimit moves
    → AreInLimit (moves_of set moves t)
moves-limit [] moves t h = All-nil IsInLimit
moves-limit (u ∷ set) [] t h = All-nil IsInLimit
moves-limit (u ∷ set) (m ∷ moves) t h =
    go (u == t) (All-head AreInLimit m moves h) (moves-limit set moves t (All-tail AreInLimit m moves h))
  where
    go : (b : Bool) → AreInLimit m → AreInLimit (moves_of set moves t) → AreInLimit (cond b m (moves_of set moves t))
    go true k l = k
    go false k l = l

-- what multipliers show of a rule; what they show of the floor
abbrev IsShownAt : RankedSet → Function → ℤ → ℕ → List ℕ → Type 0
IsShownAt b f d t m = Implies (b.rule t).rows m (lost_by f (b.rule t) (if nat_eq t b.strict then d else pos 0))

abbrev IsShownFloor : RankedSet → Function → ℤ → List ℕ → Type 0
IsShownFloor b f d m = Implies (b.rule b.strict).rows m (less (f (b.rule b.strict).source) (constant_form d))

-- what is shown of each rule, and of the floor
pub record Split (b : RankedSet) (f : Function) (d : ℤ) (set : List ℕ) (moves : List (List ℕ))
    (floor : List ℕ) : Type 0 where
  pub long : length moves ≡ length set
  pub each : (t : ℕ) → is_in t set ≡ true → IsShownAt b f d t (moves_of set moves t)
  pub last : IsShownFloor b f d floor

module _ (b : RankedSet) (f : Function) (d : ℤ) where
  -- what moves and floor together show is shown of each move and of the floor
  pub split : (set : List ℕ) (moves : List (List ℕ)) (floor : List ℕ) → AreImplied b f d set (moves ++ floor ∷ [])
      → Split b f d set moves floor
  split [] [] floor h = record { long = refl; each = λ t e. absurd (true≢false (sym e)); last = h }
  split [] (m ∷ []) floor h = absurd h
  split [] (m ∷ n ∷ ms) floor h = absurd h
  split (t ∷ []) [] floor h = absurd h.1
  split (t ∷ u ∷ set) [] floor h = absurd h.1
  split (t ∷ set) (m ∷ moves) floor h =
      let rest = split set moves floor h.1 in record {
        long = ap (λ (n : ℕ). suc n) rest.long;
        each = λ u e. which u e rest.each (eqb_tells t u);
        last = rest.last;
      }
    where
      which : (u : ℕ) → is_in u (t ∷ set) ≡ true →
          ((v : ℕ) → is_in v set ≡ true → IsShownAt b f d v (moves_of set moves v))
          → ((nat_eq t u ≡ true) × (t ≡ u)) ⊎ ((nat_eq t u ≡ false) × (t ≢ u)) → IsShownAt b f d u
          (cond (t == u) m (moves_of set moves u))
      which u e rest (inl g) =
          subst (λ (v : Bool). IsShownAt b f d u (cond v m (moves_of set moves u))) (sym g.0)
          (subst (λ (v : ℕ). IsShownAt b f d v m) g.1 h.0)
      which u e rest (inr g) =
          subst (λ (v : Bool). IsShownAt b f d u (cond v m (moves_of set moves u))) (sym g.0)
          (rest u (sym (ap (λ (v : Bool). v || is_in u set) (ne_eqb u t (λ k. g.1 (sym k)))) ∙ e))
