-- A solution of a question's program gives parameters, and multipliers that show that the goals follow.
use Rattle.std.proofs.Common.{◌≡◌, ℕ, suc, ◌+◌, ◌<◌, ◌≤◌, ap, arith, refl, sym, subst, ◌∙◌, List, [], ◌∷◌, ◌++◌, length}
use Rattle.std.proofs.Common.{map, get_or, replicate, length-append, if◌then◌else◌, ◌⊎◌, inl, inr}
use Rattle.std.specs.Prelude.{ℤ, pos, negsuc, ◌+ℤ◌, ◌-ℤ◌, ◌*ℤ◌, neg_ℤ, ◌≤ℤ◌, nat_abs}
use Rattle.std.specs.List.{All}
use Rattle.std.proofs.lemmas.Int.{ints}
use Rattle.std.proofs.lemmas.Bool.{lt-ltb, le-ltb, cases_lt}
use Rattle.std.proofs.lemmas.List.{get_or_past, length-replicate}
use Rattle.std.proofs.lemmas.List.Elements.{All-head, All-tail, All-from_get_or, All-get_or, All-weaker, All-append}
use Rattle.std.proofs.lemmas.List.Elements.{All-nil}
use Rattle.int_laws.proofs.RingLaws.{mul_comm_ℤ, neg-mul_ℤ}
use Rattle.linear_forms.specs.Forms.{Form, at, list_dot}
use Rattle.linear_forms.specs.Certificates.{Implies, combined_coef, combined_constant}
use Rattle.linear_forms.specs.LinearProgram.{IsSolution}
use Rattle.linear_forms.specs.Questions.{Group, Question, IsShaped, IsGroupShaped, Equation, no_equation, goal_at}
use Rattle.linear_forms.specs.Questions.{number, slack, signed, line, listed, equations, double, group_columns}
use Rattle.linear_forms.specs.Questions.{program_of_question}
use Rattle.linear_forms.specs.QuestionLaws.{after, parameters_of, multipliers_of, multipliers_by_group, Follows}
use Rattle.linear_forms.proofs.ListLaws.{after-head, after-is, after-add, list_dot-append, list_dot-behind_zeros}
use Rattle.linear_forms.proofs.ListLaws.{list_dot-signed, length-signed, list_dot-sum, list_dot-neg, listed-is}
use Rattle.linear_forms.proofs.ListLaws.{length-listed, All-front, All-behind}
use Rattle.linear_forms.proofs.CombinationLaws.{number-goal, length-goal}

-- a mapped list has as many elements
pub length-map : {A B : Type 0} (h : A → B) (rs : List A) → length (map h rs) ≡ length rs
length-map h [] = refl
length-map h (r ∷ rs) = ap (λ (n : ℕ). suc n) (length-map h rs)

-- the numbers in a line after the pairs of the parameters
pub behind_goals : (parameters : ℕ) (g : Group) (u : ℕ) (x : ℕ → ℤ) → length g.goals ≡ parameters
    → after (length (signed (map (number g.unknowns u) g.goals))) x ≡ after (double parameters) x
behind_goals parameters g u x e =
    ap (λ (k : ℕ). after k x) (length-signed (map (number g.unknowns u) g.goals) ∙ ap double (length-map (number g.unknowns u) g.goals ∙ e))

-- the value of a line at a point: the goals at the parameters, less the rows times their multipliers, and less the
-- slack
pub line-value : (parameters before : ℕ) (g : Group) (u : ℕ) (x : ℕ → ℤ) → length g.goals ≡ parameters
    → list_dot (line before g u).numbers x
    ≡ list_dot (map (number g.unknowns u) g.goals) (parameters_of x)
    +ℤ (neg_ℤ (list_dot (map (number g.unknowns u) g.rows) (after before (after (double parameters) x)))
    +ℤ slack g.unknowns u *ℤ after before (after (double parameters) x) (length g.rows))
line-value parameters before g u x e =
    list_dot-append goals (replicate before (pos 0) ++ rest) x
    ∙ sums _ _ _ _ (list_dot-signed (map (number g.unknowns u) g.goals) x)
    (ap (λ y. list_dot (replicate before (pos 0) ++ rest) y) (behind_goals parameters g u x e)
    ∙ (list_dot-behind_zeros before rest (after (double parameters) x) ∙ (list_dot-append rows (slack g.unknowns u ∷ []) block
    ∙ sums _ _ _ _ (list_dot-neg (number g.unknowns u) g.rows block) (last_one _ _ _ (after-head (length rows) block ∙ ap block (length-map (λ r. neg_ℤ (number g.unknowns u r)) g.rows))))))
  where
    goals : List ℤ
    goals = signed (map (number g.unknowns u) g.goals)

    rows : List ℤ
    rows = map (λ r. neg_ℤ (number g.unknowns u r)) g.rows

    rest : List ℤ
    rest = rows ++ (slack g.unknowns u ∷ [])

    block : ℕ → ℤ
    block = after before (after (double parameters) x)

    sums : (a b c d : ℤ) → a ≡ c → b ≡ d → a +ℤ b ≡ c +ℤ d
    sums a b c d e f = omega (arith, ints)

    last_one : (s v w : ℤ) → v ≡ w → s *ℤ v +ℤ pos 0 ≡ s *ℤ w
    last_one s v w e = plus_zero _ ∙ ap (λ (z : ℤ). s *ℤ z) e
      where
        plus_zero : (z : ℤ) → z +ℤ pos 0 ≡ z
        plus_zero z = omega (arith, ints)

-- the coefficients of the rows times multipliers that are columns of at least 0
coefs-of_multipliers : (rows : List Form) (x : ℕ → ℤ) (u : ℕ) → ((j : ℕ) → j < length rows → pos 0 ≤ℤ x j)
    → combined_coef (multipliers_of x rows) rows u ≡ list_dot (map (λ r. at r.coefs u) rows) x
coefs-of_multipliers [] x u h = refl
coefs-of_multipliers (r ∷ rows) x u h =
    regroup (at r.coefs u) (x 0) _ _ (h 0 (omega arith)) (coefs-of_multipliers rows (λ j. x (suc j)) u (λ j l. h (suc j) (omega arith)))
  where
    regroup : (a z v w : ℤ) → pos 0 ≤ℤ z → v ≡ w → pos (nat_abs z) *ℤ a +ℤ v ≡ a *ℤ z +ℤ w
    regroup a (pos n) v w l e = ap (λ (s : ℤ). s +ℤ v) (mul_comm_ℤ (pos n) a) ∙ ap (λ (s : ℤ). a *ℤ pos n +ℤ s) e
    regroup a (negsuc n) v w l e = absurd (omega (arith, ints, l))

-- the constants of the rows times multipliers that are columns of at least 0
constants-of_multipliers : (rows : List Form) (x : ℕ → ℤ) → ((j : ℕ) → j < length rows → pos 0 ≤ℤ x j)
    → combined_constant (multipliers_of x rows) rows ≡ list_dot (map (λ r. r.constant) rows) x
constants-of_multipliers [] x h = refl
constants-of_multipliers (r ∷ rows) x h =
    regroup r.constant (x 0) _ _ (h 0 (omega arith)) (constants-of_multipliers rows (λ j. x (suc j)) (λ j l. h (suc j) (omega arith)))
  where
    regroup : (a z v w : ℤ) → pos 0 ≤ℤ z → v ≡ w → pos (nat_abs z) *ℤ a +ℤ v ≡ a *ℤ z +ℤ w
    regroup a (pos n) v w l e = ap (λ (s : ℤ). s +ℤ v) (mul_comm_ℤ (pos n) a) ∙ ap (λ (s : ℤ). a *ℤ pos n +ℤ s) e
    regroup a (negsuc n) v w l e = absurd (omega (arith, ints, l))

-- there is a multiplier for each row
pub length-multipliers : (rows : List Form) (x : ℕ → ℤ) → length (multipliers_of x rows) ≡ length rows
length-multipliers [] x = refl
length-multipliers (r ∷ rows) x = ap (λ (n : ℕ). suc n) (length-multipliers rows (λ j. x (suc j)))

-- if no row has a coefficient at u, neither has their combination
no_coefs : (ms : List ℕ) (rows : List Form) (u : ℕ) → All (λ r. length r.coefs ≤ u) rows → combined_coef ms rows u ≡ pos 0
no_coefs [] rows u h = refl
no_coefs (m ∷ ms) [] u h = refl
no_coefs (m ∷ ms) (r ∷ rows) u h =
    nothing m _ _ (get_or_past r.coefs u (pos 0) (All-head (λ (f : Form). length f.coefs ≤ u) r rows h))
    (no_coefs ms rows u (All-tail (λ (f : Form). length f.coefs ≤ u) r rows h))
  where
    nothing : (m : ℕ) (a v : ℤ) → a ≡ pos 0 → v ≡ pos 0 → pos m *ℤ a +ℤ v ≡ pos 0
    nothing m a v e f = ap (λ (z : ℤ). pos m *ℤ z +ℤ v) e ∙ (ap (λ (z : ℤ). pos m *ℤ pos 0 +ℤ z) f ∙ base m)
      where
        base : (m : ℕ) → pos m *ℤ pos 0 +ℤ pos 0 ≡ pos 0
        base m = omega (arith, ints)

-- in the line of an unknown, the number of a form is its coefficient
pub number-unknown : (n u : ℕ) → u < n → number n u ≡ (λ f. at f.coefs u)
number-unknown n u l = ap (λ b. λ (f : Form). if b then at f.coefs u else f.constant) (lt-ltb u n l)

-- in the line of the constant, the number of a form is its constant
pub number-constant : (n : ℕ) → number n n ≡ (λ f. f.constant)
number-constant n = ap (λ b. λ (f : Form). if b then at f.coefs n else f.constant) (le-ltb n n (omega arith))

-- in the line of an unknown, the slack is 0
pub slack-unknown : (n u : ℕ) → u < n → slack n u ≡ pos 0
slack-unknown n u l = ap (λ b. if b then pos 0 else negsuc 0) (lt-ltb u n l)

-- in the line of the constant, the slack is -1
pub slack-constant : (n : ℕ) → slack n n ≡ negsuc 0
slack-constant n = ap (λ b. if b then pos 0 else negsuc 0) (le-ltb n n (omega arith))

-- a point satisfies an equation
abbrev pub Holds : (ℕ → ℤ) → ℤ → Equation → Type 0
Holds x d e = list_dot e.numbers x ≡ e.right *ℤ d

-- if the lines of a group hold, the goal's number is that of the rows times their multipliers, less the slack
goal-number : (parameters before : ℕ) (g : Group) (u : ℕ) (x : ℕ → ℤ) (d : ℤ) → length g.goals ≡ parameters → Holds x d (line before g u)
    → number g.unknowns u (goal_at g (parameters_of x) d)
    ≡ list_dot (map (number g.unknowns u) g.rows) (after before (after (double parameters) x))
    -ℤ slack g.unknowns u *ℤ after before (after (double parameters) x) (length g.rows)
goal-number parameters before g u x d e h =
    regroup _ _ _ (list_dot (map (number g.unknowns u) g.rows) block) (slack g.unknowns u *ℤ block (length g.rows)) _ _ _ (number-goal g g.unknowns u (parameters_of x) d) (line-value parameters before g u x e) h
    (neg-mul_ℤ (number g.unknowns u g.fixed) d) (mul_comm_ℤ d (number g.unknowns u g.fixed))
  where
    block : ℕ → ℤ
    block = after before (after (double parameters) x)

    regroup : (n s v w k l f m : ℤ) → n ≡ v +ℤ m → l ≡ v +ℤ (neg_ℤ w +ℤ k) → l ≡ f → f ≡ neg_ℤ s → m ≡ s → n ≡ w -ℤ k
    regroup n s v w k l f m a b c p q = omega (arith, ints)

-- if the lines of a group hold at a point of at least 0, the multipliers show that the goal at the parameters follows
group-follows : (parameters before : ℕ) (g : Group) (x : ℕ → ℤ) (d : ℤ) → IsGroupShaped parameters g
    → ((j : ℕ) → j < suc (length g.rows) → pos 0 ≤ℤ after before (after (double parameters) x) j)
    → ((u : ℕ) → u < suc g.unknowns → Holds x d (line before g u))
    → Implies g.rows (multipliers_of (after before (after (double parameters) x)) g.rows) (goal_at g (parameters_of x) d)
group-follows parameters before g x d shape nonneg holds = record {
  long = length-multipliers g.rows block;
  coefs = λ u. split u (cases_lt u g.unknowns);
  constant = at_constant _ _ _ _ _ (block (length g.rows))
      (ap (λ h. h goal) (sym (number-constant g.unknowns)) ∙ goal-number parameters before g g.unknowns x d shape.goals_are (holds g.unknowns (omega arith)))
      (ap (λ h. list_dot (map h g.rows) block) (number-constant g.unknowns))
      (constants-of_multipliers g.rows block rows_nonneg)
      (slack-constant g.unknowns) (nonneg (length g.rows) (omega arith));
}
  where
    block : ℕ → ℤ
    block = after before (after (double parameters) x)

    goal : Form
    goal = goal_at g (parameters_of x) d

    rows_nonneg : (j : ℕ) → j < length g.rows → pos 0 ≤ℤ block j
    rows_nonneg j l = nonneg j (omega arith)

    at_constant : (c w s r m b : ℤ) → c ≡ r -ℤ s *ℤ b → r ≡ m → w ≡ m → s ≡ negsuc 0 → pos 0 ≤ℤ b → w ≤ℤ c
    at_constant c w s r m b e f g' h l = omega (arith, ints, e, f, g', l, ap (λ (z : ℤ). z *ℤ b) h)

    at_unknown : (c w s r m b : ℤ) → c ≡ r -ℤ s *ℤ b → r ≡ m → w ≡ m → s ≡ pos 0 → c ≡ w
    at_unknown c w s r m b e f g' h = omega (arith, ints, e, f, g', ap (λ (z : ℤ). z *ℤ b) h)

    past : (u : ℕ) → g.unknowns ≤ u → at goal.coefs u ≡ combined_coef (multipliers_of block g.rows) g.rows u
    past u l =
        get_or_past goal.coefs u (pos 0) (at_most _ (length-goal g (parameters_of x) d g.unknowns shape.goals_fit shape.fixed_fits))
        ∙ sym (no_coefs (multipliers_of block g.rows) g.rows u (All-weaker (λ (r : Form). length r.coefs ≤ g.unknowns) (λ (r : Form). length r.coefs ≤ u)
        (λ r m. at_most (length r.coefs) m) g.rows shape.rows_fit))
      where
        at_most : (k : ℕ) → k ≤ g.unknowns → k ≤ u
        at_most k m = omega arith

    split : (u : ℕ) → (u < g.unknowns) ⊎ (g.unknowns ≤ u) → at goal.coefs u ≡ combined_coef (multipliers_of block g.rows) g.rows u
    split u (inr l) = past u l
    split u (inl l) =
        at_unknown _ _ _ _ _ (block (length g.rows))
        (ap (λ h. h goal) (sym (number-unknown g.unknowns u l)) ∙ goal-number parameters before g u x d shape.goals_are (holds u (omega arith)))
        (ap (λ h. list_dot (map h g.rows) block) (number-unknown g.unknowns u l))
        (coefs-of_multipliers g.rows block u rows_nonneg)
        (slack-unknown g.unknowns u l)

-- if the equations of groups hold at a point of at least 0, the multipliers show that each goal at the parameters
-- follows
groups-follow : (parameters before : ℕ) (gs : List Group) (x : ℕ → ℤ) (d : ℤ) → All (IsGroupShaped parameters) gs
    → ((j : ℕ) → j < group_columns gs → pos 0 ≤ℤ after before (after (double parameters) x) j)
    → All (Holds x d) (equations before gs)
    → Follows gs (multipliers_by_group (after before (after (double parameters) x)) gs) (parameters_of x) d
groups-follow parameters before [] x d shape nonneg holds = tt
groups-follow parameters before (g ∷ gs) x d shape nonneg holds = (
  group-follows parameters before g x d (All-head (IsGroupShaped parameters) g gs shape) (λ j l. nonneg j (omega arith))
      (λ u l. subst (Holds x d) (listed-is (suc g.unknowns) (line before g) u no_equation l)
      (All-front (Holds x d) lines others holds u no_equation (omega (arith, length-listed (suc g.unknowns) (line before g))))),
  subst (λ y. Follows gs (multipliers_by_group y gs) (parameters_of x) d) (after-add before (suc (length g.rows)) columns)
      (groups-follow parameters (before + suc (length g.rows)) gs x d (All-tail (IsGroupShaped parameters) g gs shape)
      (λ j l. subst (λ (z : ℤ). pos 0 ≤ℤ z)
      (sym (ap (λ y. y j) (after-add before (suc (length g.rows)) columns) ∙ after-is (suc (length g.rows)) (after before columns) j))
      (nonneg (suc (length g.rows) + j) (omega arith)))
      (All-behind (Holds x d) lines others holds)),
)
  where
    columns : ℕ → ℤ
    columns = after (double parameters) x

    lines : List Equation
    lines = listed (suc g.unknowns) (line before g)

    others : List Equation
    others = equations (before + suc (length g.rows)) gs

-- a property of each value of a listed function holds of the list
pub All-listed : {A : Type 0} (P : A → Type 0) (n : ℕ) (f : ℕ → A) → ((u : ℕ) → u < n → P (f u)) → All P (listed n f)
All-listed P n f h k d l = subst P (sym (listed-is n f k d below)) (h k below)
  where
    below : k < n
    below = omega (arith, l, length-listed n f)

-- the number of columns of a line: the pairs of the parameters, those of the earlier groups, the rows and the slack
pub length-line : (parameters before : ℕ) (g : Group) (u : ℕ) → length g.goals ≡ parameters
    → length (line before g u).numbers ≡ double parameters + (before + suc (length g.rows))
length-line parameters before g u e =
    added _ _ _ _ _ _ _ _
    (length-append (signed (map (number g.unknowns u) g.goals)) (replicate before (pos 0) ++ (map (λ r. neg_ℤ (number g.unknowns u r)) g.rows ++ (slack g.unknowns u ∷ []))))
    (length-append (replicate before (pos 0)) (map (λ r. neg_ℤ (number g.unknowns u r)) g.rows ++ (slack g.unknowns u ∷ [])))
    (length-append (map (λ r. neg_ℤ (number g.unknowns u r)) g.rows) (slack g.unknowns u ∷ []))
    (length-signed (map (number g.unknowns u) g.goals) ∙ ap double (length-map (number g.unknowns u) g.goals ∙ e))
    (length-replicate before (pos 0))
    (length-map (λ r. neg_ℤ (number g.unknowns u r)) g.rows)
  where
    added : (a b c d s p q r : ℕ) → s ≡ a + p → p ≡ b + q → q ≡ c + 1 → a ≡ d → b ≡ before → c ≡ r → s ≡ d + (before + suc r)
    added a b c d s p q r i j k l m n = omega arith

-- no equation has a number past the columns
pub lines-fit : (parameters before : ℕ) (gs : List Group) → All (IsGroupShaped parameters) gs
    → All (λ e. length e.numbers ≤ double parameters + (before + group_columns gs)) (equations before gs)
lines-fit parameters before [] shape = All-nil (λ (e : Equation). length e.numbers ≤ double parameters + (before + group_columns []))
lines-fit parameters before (g ∷ gs) shape =
    All-append Fits (listed (suc g.unknowns) (line before g)) (equations (before + suc (length g.rows)) gs)
    (All-listed Fits (suc g.unknowns) (line before g) (λ u l. at_most _ _ (length-line parameters before g u (All-head (IsGroupShaped parameters) g gs shape).goals_are)))
    (All-weaker (λ (e : Equation). length e.numbers ≤ double parameters + ((before + suc (length g.rows)) + group_columns gs)) Fits
    (λ e l. regroup _ _ l) (equations (before + suc (length g.rows)) gs)
    (lines-fit parameters (before + suc (length g.rows)) gs (All-tail (IsGroupShaped parameters) g gs shape)))
  where
    Fits : Equation → Type 0
    Fits e = length e.numbers ≤ double parameters + (before + (suc (length g.rows) + group_columns gs))

    at_most : (a d : ℕ) → a ≡ d + (before + suc (length g.rows)) → a ≤ d + (before + (suc (length g.rows) + group_columns gs))
    at_most a d e = omega arith

    regroup : (a d : ℕ) → a ≤ d + ((before + suc (length g.rows)) + group_columns gs) → a ≤ d + (before + (suc (length g.rows) + group_columns gs))
    regroup a d l = omega arith

-- a solution of the program gives parameters, and multipliers that show that each goal follows
pub solution-solves : (q : Question) (x : ℕ → ℤ) (d : ℤ) → IsShaped q → IsSolution (program_of_question q) x d
    → Follows q.groups (multipliers_by_group (after (double q.parameters) x) q.groups) (parameters_of x) d
unfolding program_of_question
solution-solves q x d shape s =
    groups-follow q.parameters 0 q.groups x d shape.groups_are
    (λ j l. subst (λ (z : ℤ). pos 0 ≤ℤ z) (sym (after-is (double q.parameters) x j)) (s.nonnegative (double q.parameters + j) (omega arith)))
    (All-from_get_or (Holds x d) (equations 0 q.groups) no_equation each)
  where
    none_before : (a b c : ℕ) → a ≤ b + (0 + c) → a ≤ b + c
    none_before a b c l = omega arith

    each : (i : ℕ) → i < length (equations 0 q.groups) → Holds x d (get_or (equations 0 q.groups) i no_equation)
    each i l =
        sym (list_dot-sum (get_or (equations 0 q.groups) i no_equation).numbers (double q.parameters + group_columns q.groups) x
        (none_before _ _ _ (All-get_or (λ (e : Equation). length e.numbers ≤ double q.parameters + (0 + group_columns q.groups)) (equations 0 q.groups) i no_equation l
        (lines-fit q.parameters 0 q.groups shape.groups_are))))
        ∙ s.equations i l
