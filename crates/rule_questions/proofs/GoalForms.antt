-- The goal forms of a list of goals with ascending parameters, as goals are pushed.
use Rattle.std.proofs.Common.{◌≡◌, ℕ, zero, suc, ◌+◌, ◌-◌, ◌<◌, ◌≤◌, refl, sym, ap, ◌∙◌, subst, arith, List, [], ◌∷◌}
use Rattle.std.proofs.Common.{◌++◌, length, map, take, get_or, replicate, append_assoc, Some, None, Bool}
use Rattle.std.proofs.Common.{if◌then◌else◌}
use Rattle.std.specs.Prelude.{slice_get, slice_index_or}
use Rattle.std.proofs.lemmas.Bool.{eq-eqb}
use Rattle.std.proofs.lemmas.List.{map-append, take_more, get_or_past}
use Rattle.poly_terms.specs.linear_forms.Forms.{Form}
use Rattle.poly_terms.specs.linear_forms.Combinations.{zero_form}
use Rattle.poly_terms.specs.linear_forms.RuleQuestions.{Coefficient, after_rule}
use Rattle.poly_terms.specs.linear_forms.RuleQuestions.{at_target}
use Rattle.poly_terms.proofs.linear_forms.ColumnLaws.{get_or-map}
use Rattle.poly_terms.proofs.linear_forms.SolutionLaws.{length-map}
use Rattle.cert_types.specs.guard_prep.Prepared.{Prepared}
use Rattle.poly_terms.specs.declared.poly.Row.{Row}
use Rattle.poly_terms.specs.Views.{form_of}
use Rattle.lp_builder.specs.declared.description.Goal.{Goal}
use Rattle.lp_builder.specs.Descriptions.{goal_forms, AreParameters}
pub use Rattle.rule_questions.specs.AscendingGoals.{Ascend}
use Rattle.rule_questions.specs.ProgramQuestions.{forms_of}

-- if the parameters of goals ascend from k on, and are below n, k is at most n
ascend-room : (k n : ℕ) (gs : List Goal) → Ascend k n gs → k ≤ n
ascend-room k n [] h = h
ascend-room k n (g ∷ gs) h = let l = ascend-room (g.parameter + 1) n gs h.1 in let m = h.0 in omega (arith, l, m)

-- a list that ascends below n ascends below n + 1
pub ascend-wider : (k n : ℕ) (gs : List Goal) → Ascend k n gs → Ascend k (n + 1) gs
ascend-wider k n [] h = omega (arith, h)
ascend-wider k n (g ∷ gs) h = (h.0, ascend-wider (g.parameter + 1) n gs h.1)

-- appending a goal of the next parameter preserves this
pub ascend-more : (k n : ℕ) (gs : List Goal) (x : Goal) → x.parameter ≡ n → Ascend k n gs → Ascend k (n + 1)
    (gs ++ x ∷ [])
ascend-more k n [] x e h = (omega (arith, e, h), omega (arith, e))
ascend-more k n (g ∷ gs) x e h = (h.0, ascend-more (g.parameter + 1) n gs x e h.1)

zeros-more : (a b : ℕ) → b ≡ suc a → replicate b zero_form ≡ replicate a zero_form ++ zero_form ∷ []
zeros-more a b e = ap (λ (m : ℕ). replicate m zero_form) e ∙ go a
  where
    go : (a : ℕ) → replicate (suc a) zero_form ≡ replicate a zero_form ++ zero_form ∷ []
    go zero = refl
    go (suc a) = ap (λ (xs : List Form). zero_form ∷ xs) (go a)

-- if parameter n has no goal, the forms get one more zero form
pub forms-passed : (k n : ℕ) (gs : List Goal) → Ascend k n gs → goal_forms k (n + 1) gs ≡ goal_forms k n gs
    ++ zero_form ∷ []
forms-passed k n [] h = zeros-more (n - k) ((n + 1) - k) (omega (arith, h))
forms-passed k n (g ∷ gs) h =
    ap (λ (xs : List Form). replicate (g.parameter - k) zero_form ++ form_of g.form ∷ xs)
    (forms-passed (g.parameter + 1) n gs h.1)
    ∙ sym (append_assoc (replicate (g.parameter - k) zero_form) (form_of g.form ∷ goal_forms (g.parameter + 1) n gs)
    (zero_form ∷ []))

-- if parameter n has a goal, the forms get its form
pub forms-pushed : (k n : ℕ) (gs : List Goal) (x : Goal) → x.parameter ≡ n → Ascend k n gs
    → goal_forms k (n + 1) (gs ++ x ∷ []) ≡ goal_forms k n gs ++ form_of x.form ∷ []
forms-pushed k n [] x e h =
    ap (λ (m : ℕ). replicate (x.parameter - k) zero_form ++ form_of x.form ∷ replicate m zero_form)
    (let z : (n + 1) - (x.parameter + 1) ≡ 0 = omega (arith, e) in z)
    ∙ ap (λ (m : ℕ). replicate (m - k) zero_form ++ form_of x.form ∷ []) e
forms-pushed k n (g ∷ gs) x e h =
    ap (λ (xs : List Form). replicate (g.parameter - k) zero_form ++ form_of g.form ∷ xs)
    (forms-pushed (g.parameter + 1) n gs x e h.1)
    ∙ sym (append_assoc (replicate (g.parameter - k) zero_form) (form_of g.form ∷ goal_forms (g.parameter + 1) n gs)
    (form_of x.form ∷ []))

-- the goals' parameters are from k on, below n, and ascend by position
inside : (k n : ℕ) (gs : List Goal) → Ascend k n gs → (i : ℕ) (g : Goal) → slice_get gs i ≡ Some g → (k ≤ g.parameter) ×
    (g.parameter < n)
inside k n [] h i g e = absurd (none e)
  where
    none : None ≡ Some g → ⊥
    none f = cc
inside k n (f ∷ gs) h zero g e =
    let same : f ≡ g = cc in
    subst (λ (x : Goal). (k ≤ x.parameter) × (x.parameter < n)) same
    (h.0, (let l = ascend-room (f.parameter + 1) n gs h.1 in omega (arith, l)))
inside k n (f ∷ gs) h (suc i) g e =
    let r = inside (f.parameter + 1) n gs h.1 i g e in let m = h.0 in let a = r.0 in (omega (arith, m, a), r.1)

apart : (k n : ℕ) (gs : List Goal) → Ascend k n gs → (i j : ℕ) (g x : Goal) → i < j → slice_get gs i ≡ Some g
    → slice_get gs j ≡ Some x → g.parameter < x.parameter
apart k n [] h i j g x l e f = absurd (none e)
  where
    none : None ≡ Some g → ⊥
    none f = cc
apart k n (y ∷ gs) h i zero g x l e f = absurd (omega (arith, l))
apart k n (y ∷ gs) h zero (suc j) g x l e f =
    let same : y ≡ g = cc in
    subst (λ (z : Goal). z.parameter < x.parameter) same
    (let r = (inside (y.parameter + 1) n gs h.1 j x f).0 in omega (arith, r))
apart k n (y ∷ gs) h (suc i) (suc j) g x l e f = apart (y.parameter + 1) n gs h.1 i j g x (omega (arith, l)) e f

-- a list that ascends from 0 below n is a valid list of goals for n parameters
pub are-parameters : (n : ℕ) (gs : List Goal) → Ascend 0 n gs → AreParameters n gs
are-parameters n gs h = record {
  below = λ i g e. (inside 0 n gs h i g e).1;
  ascending = λ i j g x l e f. apart 0 n gs h i j g x l e f;
}

-- the goals of the coefficients so far, and that of the next one, which is listed if it isn't 0
module _ {A : Type 0} (goal : A → Form) (xs : List A) (i : ℕ) (d : A) (l : i < length xs) (gs : List Goal)
    (kept : goal_forms 0 i gs ≡ map goal (take i xs)) (ascend : Ascend 0 i gs) where
  more : map goal (take (i + 1) xs) ≡ map goal (take i xs) ++ goal (get_or xs i d) ∷ []
  more = ap (map goal) (take_more xs i d l) ∙ map-append goal (take i xs) (get_or xs i d ∷ [])

  -- when the goal of the next coefficient is pushed, the forms are those of one more coefficient
  pub goal-pushed : (new : List Goal) (x : Goal) → new ≡ gs ++ x ∷ [] → x.parameter ≡ i → form_of x.form ≡ goal
      (get_or xs i d)
      → goal_forms 0 (i + 1) new ≡ map goal (take (i + 1) xs)
  goal-pushed new x e f g =
      ap (goal_forms 0 (i + 1)) e
      ∙ (forms-pushed 0 i gs x f ascend
      ∙ (ap (λ (fs : List Form). fs ++ form_of x.form ∷ []) kept
      ∙ (ap (λ (z : Form). map goal (take i xs) ++ z ∷ []) g ∙ sym more)))

  -- if the form of the next coefficient is 0, no goal is needed for it
  pub goal-passed : zero_form ≡ goal (get_or xs i d) → goal_forms 0 (i + 1) gs ≡ map goal (take (i + 1) xs)
  goal-passed g =
      forms-passed 0 i gs ascend
      ∙ (ap (λ (fs : List Form). fs ++ zero_form ∷ []) kept
      ∙ (ap (λ (z : Form). map goal (take i xs) ++ z ∷ []) g ∙ sym more))

-- the form by which a coefficient at the target symbol is multiplied: the place's new value, or 0 past the last one
module _ (target : ℕ) (q : Prepared) (new_values : List Row) (same : q.new_values ≡ map form_of new_values) where
  target-after : (c : Coefficient) → c.symbol ≡ target → at_target (forms_of 0 target q) c ≡ after_rule
      (forms_of 0 target q) c.place
  target-after c e =
      ap (λ (b : Bool). if b then after_rule (forms_of 0 target q) c.place else zero_form) (eq-eqb c.symbol target e)

  -- at the target, the coefficient of a place with a new value is multiplied by that value
  pub after-listed : (s i : ℕ) (row : Row) → s ≡ target → ¬ (i ≡ 0) → i - 1 < length new_values → row ≡ get_or new_values
      (i - 1) row
      → form_of row ≡ at_target (forms_of 0 target q) (record { symbol = s; place = i })
  after-listed s zero row e n l is = absurd (n refl)
  after-listed s (suc i) row e n l is =
      let k : suc i - 1 ≡ i = omega arith in
      ap form_of (is ∙ ap (λ (j : ℕ). get_or new_values j row) k)
      ∙ (sym (get_or-map form_of new_values i zero_form row (omega (arith, l)))
      ∙ (sym (ap (λ (fs : List Form). slice_index_or fs i zero_form) same) ∙ sym
      (target-after (record { symbol = s; place = suc i }) e)))

  -- at the target, the coefficient of a place past the new values is multiplied by 0
  pub after-past : (s i : ℕ) → s ≡ target → ¬ (i ≡ 0) → length new_values ≤ i - 1
      → zero_form ≡ at_target (forms_of 0 target q) (record { symbol = s; place = i })
  after-past s zero e n l = absurd (n refl)
  after-past s (suc i) e n l =
      sym (target-after (record { symbol = s; place = suc i }) e
      ∙ (ap (λ (fs : List Form). slice_index_or fs i zero_form) same
      ∙ get_or_past (map form_of new_values) i zero_form (let m = length-map form_of new_values in omega (arith, l, m))))
