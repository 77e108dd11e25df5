-- A dual or prices of a question's program, cut into an element for each group.
use Rattle.std.proofs.Common.{◌≡◌, ℕ, zero, suc, ◌+◌, ◌<◌, ◌≤◌, ap, arith, refl, sym, subst, ◌∙◌, List, [], ◌∷◌, ◌++◌}
use Rattle.std.proofs.Common.{length, map, get_or, replicate}
use Rattle.std.specs.Prelude.{ℤ, pos, ◌+ℤ◌, ◌*ℤ◌, neg_ℤ, ◌≤ℤ◌, ◌<ℤ◌}
use Rattle.std.specs.List.{All}
use Rattle.std.proofs.lemmas.Int.{ints}
use Rattle.std.proofs.lemmas.List.Elements.{All-head, All-tail, All-from_get_or, All-get_or}
use Rattle.int_laws.specs.Sums.{dot}
use Rattle.int_laws.proofs.SumLaws.{sum_to-same}
use Rattle.linear_forms.specs.Forms.{Form, at, form_value}
use Rattle.linear_forms.specs.Combinations.{zero_form}
use Rattle.linear_forms.specs.LinearProgram.{IsDual}
use Rattle.linear_forms.specs.Questions.{Group, Question, IsShaped, IsGroupShaped, Equation, number, slack, line}
use Rattle.linear_forms.specs.Questions.{equations, double, group_columns, program_of_question}
use Rattle.linear_forms.specs.QuestionLaws.{after, elements_of, AreElements, total_of, fixed_total, Refutes}
use Rattle.linear_forms.proofs.SolutionLaws.{length-map}
use Rattle.linear_forms.proofs.ColumnLaws.{weighed, weighed_lines, weighed-sum, weighed-cut, form-weighed, neg-weighed}
use Rattle.linear_forms.proofs.ColumnLaws.{slack-weighed, zero-weighed, at-plus, at-minus, at-before, at-row, at-slack}
use Rattle.linear_forms.proofs.ColumnLaws.{at-past, get_or-map}

-- the product of a column with the equations' parts of the dual
abbrev pub column : ℕ → List Equation → (ℕ → ℤ) → ℤ
column j es y = weighed (λ e. at e.numbers j) es y

-- the product of a group's column with the lines' parts of the dual
abbrev pub column_of : ℕ → ℕ → Group → (ℕ → ℤ) → ℤ
column_of j before g y = weighed_lines (λ u. at (line before g u).numbers j) g.unknowns y

-- sums of equal numbers are equal
two : (a b c d : ℤ) → a ≡ c → b ≡ d → a +ℤ b ≡ c +ℤ d
two a b c d e f = omega (arith, ints)

-- the columns of earlier groups are 0 in the equations of later ones
column-before : (parameters before : ℕ) (gs : List Group) (y : ℕ → ℤ) (k : ℕ) → All (IsGroupShaped parameters) gs → k < before
    → column (double parameters + k) (equations before gs) y ≡ pos 0
column-before parameters before [] y k shape l = refl
column-before parameters before (g ∷ gs) y k shape l =
    weighed-cut (λ e. at e.numbers (double parameters + k)) before g gs y
    ∙ two _ _ (pos 0) (pos 0)
    (zero-weighed (suc g.unknowns) (λ u. at (line before g u).numbers (double parameters + k)) y
    (λ u. at-before parameters before g u k (All-head (IsGroupShaped parameters) g gs shape).goals_are l))
    (column-before parameters (before + suc (length g.rows)) gs (after (suc g.unknowns) y) k (All-tail (IsGroupShaped parameters) g gs shape) (omega arith))

-- the goal forms of a group have no coefficient past its unknowns
goal-fits : (parameters : ℕ) (g : Group) (p : ℕ) → IsGroupShaped parameters g → p < parameters → length (get_or g.goals p zero_form).coefs ≤ g.unknowns
goal-fits parameters g p shape l =
    All-get_or (λ (f : Form). length f.coefs ≤ g.unknowns) g.goals p zero_form (subst (λ (n : ℕ). p < n) (sym shape.goals_are) l) shape.goals_fit

-- a parameter's plus column has the numbers of its goal form
plus-number : (parameters before : ℕ) (g : Group) (u p : ℕ) → length g.goals ≡ parameters → p < parameters
    → at (line before g u).numbers (double p) ≡ number g.unknowns u (get_or g.goals p zero_form)
plus-number parameters before g u p e l =
    at-plus (map (number g.unknowns u) g.goals) (replicate before (pos 0) ++ (map (λ r. neg_ℤ (number g.unknowns u r)) g.rows ++ (slack g.unknowns u ∷ []))) p
    (omega (arith, l, e, length-map (number g.unknowns u) g.goals))
    ∙ get_or-map (number g.unknowns u) g.goals p (pos 0) zero_form (omega (arith, l, e))

-- a parameter's minus column has the negated numbers of its goal form
minus-number : (parameters before : ℕ) (g : Group) (u p : ℕ) → length g.goals ≡ parameters → p < parameters
    → at (line before g u).numbers (suc (double p)) ≡ neg_ℤ (number g.unknowns u (get_or g.goals p zero_form))
minus-number parameters before g u p e l =
    at-minus (map (number g.unknowns u) g.goals) (replicate before (pos 0) ++ (map (λ r. neg_ℤ (number g.unknowns u r)) g.rows ++ (slack g.unknowns u ∷ []))) p
    (omega (arith, l, e, length-map (number g.unknowns u) g.goals))
    ∙ ap neg_ℤ (get_or-map (number g.unknowns u) g.goals p (pos 0) zero_form (omega (arith, l, e)))

-- the product of a parameter's plus column is its total
pub plus-column : (parameters before : ℕ) (gs : List Group) (y : ℕ → ℤ) (p : ℕ) → All (IsGroupShaped parameters) gs → p < parameters
    → column (double p) (equations before gs) y ≡ total_of p gs (elements_of y gs)
plus-column parameters before [] y p shape l = refl
plus-column parameters before (g ∷ gs) y p shape l =
    weighed-cut (λ e. at e.numbers (double p)) before g gs y
    ∙ two _ _ _ _
    (sum_to-same (suc g.unknowns) (λ u. at (line before g u).numbers (double p) *ℤ y u) (λ u. number g.unknowns u (get_or g.goals p zero_form) *ℤ y u)
    (λ u _. ap (λ (z : ℤ). z *ℤ y u) (plus-number parameters before g u p mine.goals_are l))
    ∙ form-weighed g.unknowns (get_or g.goals p zero_form) y (goal-fits parameters g p mine l))
    (plus-column parameters (before + suc (length g.rows)) gs (after (suc g.unknowns) y) p (All-tail (IsGroupShaped parameters) g gs shape) l)
  where
    mine : IsGroupShaped parameters g
    mine = All-head (IsGroupShaped parameters) g gs shape

-- the product of a parameter's minus column is its negated total
pub minus-column : (parameters before : ℕ) (gs : List Group) (y : ℕ → ℤ) (p : ℕ) → All (IsGroupShaped parameters) gs → p < parameters
    → column (suc (double p)) (equations before gs) y ≡ neg_ℤ (total_of p gs (elements_of y gs))
minus-column parameters before [] y p shape l = refl
minus-column parameters before (g ∷ gs) y p shape l =
    weighed-cut (λ e. at e.numbers (suc (double p))) before g gs y
    ∙ regroup _ _ _ _
    (sum_to-same (suc g.unknowns) (λ u. at (line before g u).numbers (suc (double p)) *ℤ y u) (λ u. neg_ℤ (number g.unknowns u (get_or g.goals p zero_form)) *ℤ y u)
    (λ u _. ap (λ (z : ℤ). z *ℤ y u) (minus-number parameters before g u p mine.goals_are l))
    ∙ (neg-weighed (suc g.unknowns) (λ u. number g.unknowns u (get_or g.goals p zero_form)) y
    ∙ ap neg_ℤ (form-weighed g.unknowns (get_or g.goals p zero_form) y (goal-fits parameters g p mine l))))
    (minus-column parameters (before + suc (length g.rows)) gs (after (suc g.unknowns) y) p (All-tail (IsGroupShaped parameters) g gs shape) l)
  where
    mine : IsGroupShaped parameters g
    mine = All-head (IsGroupShaped parameters) g gs shape

    regroup : (a b c d : ℤ) → a ≡ neg_ℤ c → b ≡ neg_ℤ d → a +ℤ b ≡ neg_ℤ (c +ℤ d)
    regroup a b c d e f = omega (arith, ints)

-- the product of the right sides is the negated total of the fixed forms
pub right-side : (parameters before : ℕ) (gs : List Group) (y : ℕ → ℤ) → All (IsGroupShaped parameters) gs
    → weighed (λ e. e.right) (equations before gs) y ≡ neg_ℤ (fixed_total gs (elements_of y gs))
right-side parameters before [] y shape = refl
right-side parameters before (g ∷ gs) y shape =
    weighed-cut (λ e. e.right) before g gs y
    ∙ regroup _ _ _ _
    (neg-weighed (suc g.unknowns) (λ u. number g.unknowns u g.fixed) y
    ∙ ap neg_ℤ (form-weighed g.unknowns g.fixed y (All-head (IsGroupShaped parameters) g gs shape).fixed_fits))
    (right-side parameters (before + suc (length g.rows)) gs (after (suc g.unknowns) y) (All-tail (IsGroupShaped parameters) g gs shape))
  where
    regroup : (a b c d : ℤ) → a ≡ neg_ℤ c → b ≡ neg_ℤ d → a +ℤ b ≡ neg_ℤ (c +ℤ d)
    regroup a b c d e f = omega (arith, ints)

-- the product of the column of a row's multiplier is the negated value of the row at the element
row-column : (parameters before : ℕ) (g : Group) (gs : List Group) (y : ℕ → ℤ) (r : ℕ) → All (IsGroupShaped parameters) (g ∷ gs) → r < length g.rows
    → column (double parameters + (before + r)) (equations before (g ∷ gs)) y ≡ neg_ℤ (form_value (get_or g.rows r zero_form) y (y g.unknowns))
row-column parameters before g gs y r shape l =
    weighed-cut (λ e. at e.numbers (double parameters + (before + r))) before g gs y
    ∙ alone _ _ _
    (sum_to-same (suc g.unknowns) (λ u. at (line before g u).numbers (double parameters + (before + r)) *ℤ y u) (λ u. neg_ℤ (number g.unknowns u (get_or g.rows r zero_form)) *ℤ y u)
    (λ u _. ap (λ (z : ℤ). z *ℤ y u) (at-row parameters before g u r mine.goals_are l))
    ∙ (neg-weighed (suc g.unknowns) (λ u. number g.unknowns u (get_or g.rows r zero_form)) y
    ∙ ap neg_ℤ (form-weighed g.unknowns (get_or g.rows r zero_form) y (All-get_or (λ (f : Form). length f.coefs ≤ g.unknowns) g.rows r zero_form l mine.rows_fit))))
    (column-before parameters (before + suc (length g.rows)) gs (after (suc g.unknowns) y) (before + r) (All-tail (IsGroupShaped parameters) g gs shape) (omega arith))
  where
    mine : IsGroupShaped parameters g
    mine = All-head (IsGroupShaped parameters) g gs shape

    alone : (a b c : ℤ) → a ≡ c → b ≡ pos 0 → a +ℤ b ≡ c
    alone a b c e f = omega (arith, ints)

-- the product of the column of the slack is the negated denominator
slack-column : (parameters before : ℕ) (g : Group) (gs : List Group) (y : ℕ → ℤ) → All (IsGroupShaped parameters) (g ∷ gs)
    → column (double parameters + (before + length g.rows)) (equations before (g ∷ gs)) y ≡ neg_ℤ (y g.unknowns)
slack-column parameters before g gs y shape =
    weighed-cut (λ e. at e.numbers (double parameters + (before + length g.rows))) before g gs y
    ∙ alone _ _ _
    (sum_to-same (suc g.unknowns) (λ u. at (line before g u).numbers (double parameters + (before + length g.rows)) *ℤ y u) (λ u. slack g.unknowns u *ℤ y u)
    (λ u _. ap (λ (z : ℤ). z *ℤ y u) (at-slack parameters before g u (All-head (IsGroupShaped parameters) g gs shape).goals_are))
    ∙ slack-weighed g.unknowns y)
    (column-before parameters (before + suc (length g.rows)) gs (after (suc g.unknowns) y) (before + length g.rows) (All-tail (IsGroupShaped parameters) g gs shape) (omega arith))
  where
    alone : (a b c : ℤ) → a ≡ c → b ≡ pos 0 → a +ℤ b ≡ c
    alone a b c e f = omega (arith, ints)

-- the product of a column of later groups is that with those groups' equations
rest-column : (parameters before : ℕ) (g : Group) (gs : List Group) (y : ℕ → ℤ) (k : ℕ) → All (IsGroupShaped parameters) (g ∷ gs)
    → column (double parameters + (before + (suc (length g.rows) + k))) (equations before (g ∷ gs)) y
    ≡ column (double parameters + ((before + suc (length g.rows)) + k)) (equations (before + suc (length g.rows)) gs) (after (suc g.unknowns) y)
rest-column parameters before g gs y k shape =
    weighed-cut (λ e. at e.numbers (double parameters + (before + (suc (length g.rows) + k)))) before g gs y
    ∙ (alone _ _
    (zero-weighed (suc g.unknowns) (λ u. at (line before g u).numbers (double parameters + (before + (suc (length g.rows) + k)))) y
    (λ u. at-past parameters before g u k (All-head (IsGroupShaped parameters) g gs shape).goals_are))
    ∙ ap (λ (j : ℕ). column j (equations (before + suc (length g.rows)) gs) (after (suc g.unknowns) y)) (regroup (double parameters) before (length g.rows)))
  where
    alone : (a b : ℤ) → a ≡ pos 0 → a +ℤ b ≡ b
    alone a b e = omega (arith, ints)

    regroup : (a b c : ℕ) → a + (b + (suc c + k)) ≡ a + ((b + suc c) + k)
    regroup a b c = omega arith

-- if the product of no column of a multiplier or a slack is above 0, each element is a point or a ray of its group
pub elements-cut : (parameters before : ℕ) (gs : List Group) (y : ℕ → ℤ) → All (IsGroupShaped parameters) gs
    → ((k : ℕ) → k < group_columns gs → column (double parameters + (before + k)) (equations before gs) y ≤ℤ pos 0)
    → AreElements gs (elements_of y gs)
elements-cut parameters before [] y shape h = tt
elements-cut parameters before (g ∷ gs) y shape h = (
  (
    at_least (y g.unknowns) _ (slack-column parameters before g gs y shape) (h (length g.rows) (omega arith)),
    record {
      each = All-from_get_or (λ r. pos 0 ≤ℤ form_value r y (y g.unknowns)) g.rows zero_form
          (λ r l. at_least _ _ (row-column parameters before g gs y r shape l) (h r (omega arith)));
    },
  ),
  elements-cut parameters (before + suc (length g.rows)) gs (after (suc g.unknowns) y) (All-tail (IsGroupShaped parameters) g gs shape)
      (λ k l. subst (λ (z : ℤ). z ≤ℤ pos 0) (rest-column parameters before g gs y k shape) (h (suc (length g.rows) + k) (omega arith))),
)
  where
    at_least : (v c : ℤ) → c ≡ neg_ℤ v → c ≤ℤ pos 0 → pos 0 ≤ℤ v
    at_least v c e l = omega (arith, ints)

-- doubling preserves the order of numbers, also with 1 added to the lesser double
pub double-below : (p n : ℕ) → p < n → suc (double p) < double n
double-below p zero l = absurd (omega arith)
double-below zero (suc n) l = omega arith
double-below (suc p) (suc n) l = more (double-below p n (omega arith))
  where
    more : suc (double p) < double n → suc (suc (suc (double p))) < suc (suc (double n))
    more h = omega arith

-- the product of a column of the program is that with the equations' parts
pub program-column : (q : Question) (y : ℕ → ℤ) (j : ℕ)
    → dot (program_of_question q).rows y (λ i. (program_of_question q).entry i j) ≡ column j (equations 0 q.groups) y
unfolding program_of_question
program-column q y j = weighed-sum (λ e. at e.numbers j) (equations 0 q.groups) y

-- the product of the right sides of the program is that with the equations' parts
pub program-right : (q : Question) (y : ℕ → ℤ) → IsShaped q
    → dot (program_of_question q).rows y (program_of_question q).right ≡ neg_ℤ (fixed_total q.groups (elements_of y q.groups))
unfolding program_of_question
program-right q y shape = weighed-sum (λ e. e.right) (equations 0 q.groups) y ∙ right-side q.parameters 0 q.groups y shape.groups_are

-- how many columns the program has
pub program-columns : (q : Question) → (program_of_question q).columns ≡ double q.parameters + group_columns q.groups
unfolding program_of_question
program-columns q = refl

-- if the product of no column after the parameters is above 0, the elements are points or rays
pub program-elements : (q : Question) (y : ℕ → ℤ) → IsShaped q
    → ((k : ℕ) → k < group_columns q.groups → dot (program_of_question q).rows y (λ i. (program_of_question q).entry i (double q.parameters + k)) ≤ℤ pos 0)
    → AreElements q.groups (elements_of y q.groups)
program-elements q y shape h =
    elements-cut q.parameters 0 q.groups y shape.groups_are
    (λ k l. subst (λ (z : ℤ). z ≤ℤ pos 0) (program-column q y (double q.parameters + k) ∙ ap (λ (j : ℕ). column j (equations 0 q.groups) y) (none k)) (h k l))
  where
    none : (k : ℕ) → double q.parameters + k ≡ double q.parameters + (0 + k)
    none k = omega arith

-- a dual, cut into elements, refutes the question
pub dual-refutes : (q : Question) (y : ℕ → ℤ) → IsShaped q → IsDual (program_of_question q) y → Refutes q (elements_of y q.groups)
dual-refutes q y shape dual = record {
  elements = program-elements q y shape (λ k l. dual.columns (double q.parameters + k) (subst (λ (n : ℕ). double q.parameters + k < n) (sym (program-columns q)) (omega arith)));
  balanced = λ p l. both _ _ _
      (program-column q y (double p) ∙ plus-column q.parameters 0 q.groups y p shape.groups_are l)
      (program-column q y (suc (double p)) ∙ minus-column q.parameters 0 q.groups y p shape.groups_are l)
      (dual.columns (double p) (inside (double p) (omega (arith, double-below p q.parameters l))))
      (dual.columns (suc (double p)) (inside (suc (double p)) (double-below p q.parameters l)));
  below = under _ _ (program-right q y shape) dual.right;
}
  where
    inside : (j : ℕ) → j < double q.parameters → j < (program_of_question q).columns
    inside j l = subst (λ (n : ℕ). j < n) (sym (program-columns q)) (omega arith)

    both : (t a b : ℤ) → a ≡ t → b ≡ neg_ℤ t → a ≤ℤ pos 0 → b ≤ℤ pos 0 → t ≡ pos 0
    both t a b e f l m = omega (arith, ints)

    under : (t a : ℤ) → a ≡ neg_ℤ t → pos 0 <ℤ a → t <ℤ pos 0
    under t a e l = omega (arith, ints)
