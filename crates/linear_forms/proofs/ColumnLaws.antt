-- The columns of a group's lines, and their products with a list of numbers for the equations.
use Rattle.std.proofs.Common.{◌≡◌, ℕ, zero, suc, ◌+◌, ◌<◌, ◌≤◌, ap, arith, refl, sym, ◌∙◌, List, [], ◌∷◌, ◌++◌, length}
use Rattle.std.proofs.Common.{map, get_or, replicate}
use Rattle.std.specs.Prelude.{ℤ, pos, negsuc, ◌+ℤ◌, ◌*ℤ◌, neg_ℤ}
use Rattle.std.proofs.lemmas.Int.{ints}
use Rattle.std.proofs.lemmas.List.{get_or_past, get_or_append_left, get_or-append-add}
use Rattle.int_laws.specs.Sums.{sum_to}
use Rattle.int_laws.proofs.RingLaws.{mul_comm_ℤ, neg-mul_ℤ}
use Rattle.int_laws.proofs.SumLaws.{sum_to-same, sum_to-zero}
use Rattle.linear_forms.specs.Forms.{Form, at, list_dot, form_value}
use Rattle.linear_forms.specs.Combinations.{zero_form}
use Rattle.linear_forms.specs.Questions.{Group, Equation, no_equation, number, slack, signed, line, listed, equations}
use Rattle.linear_forms.specs.Questions.{double}
use Rattle.linear_forms.specs.QuestionLaws.{after}
use Rattle.linear_forms.proofs.ListLaws.{list_dot-append, length-signed, sum_to-first, list_dot-sum, length-listed}
use Rattle.linear_forms.proofs.ListLaws.{list_dot-listed, map-listed}
use Rattle.linear_forms.proofs.SolutionLaws.{length-map, number-unknown, number-constant, slack-unknown, slack-constant}
use Rattle.linear_forms.proofs.SolutionLaws.{length-line}

-- the sum of a number of each equation times the equation's part of the dual
abbrev pub weighed : (Equation → ℤ) → List Equation → (ℕ → ℤ) → ℤ
weighed h es y = list_dot (map h es) y

-- the sum of a number of each line of a group times the line's part of the dual
abbrev pub weighed_lines : (ℕ → ℤ) → ℕ → (ℕ → ℤ) → ℤ
weighed_lines f n y = sum_to (suc n) (λ u. f u *ℤ y u)

-- a sum over the rows of the program is the sum over its equations
pub weighed-sum : (h : Equation → ℤ) (es : List Equation) (y : ℕ → ℤ)
    → sum_to (length es) (λ i. y i *ℤ h (get_or es i no_equation)) ≡ weighed h es y
weighed-sum h [] y = refl
weighed-sum h (e ∷ es) y =
    sum_to-first (length es) (λ i. y i *ℤ h (get_or (e ∷ es) i no_equation))
    ∙ sums _ _ _ _ (mul_comm_ℤ (y 0) (h e)) (weighed-sum h es (λ i. y (suc i)))
  where
    sums : (a b c d : ℤ) → a ≡ c → b ≡ d → a +ℤ b ≡ c +ℤ d
    sums a b c d e f = omega (arith, ints)

-- mapping a function over an appended list
map-append : {A B : Type 0} (h : A → B) (xs ys : List A) → map h (xs ++ ys) ≡ map h xs ++ map h ys
map-append h [] ys = refl
map-append h (x ∷ xs) ys = ap (λ rest. h x ∷ rest) (map-append h xs ys)

-- the sum over all equations is that over the lines of the first group, and that over the equations of the others
pub weighed-cut : (h : Equation → ℤ) (before : ℕ) (g : Group) (gs : List Group) (y : ℕ → ℤ)
    → weighed h (equations before (g ∷ gs)) y
    ≡ weighed_lines (λ u. h (line before g u)) g.unknowns y
    +ℤ weighed h (equations (before + suc (length g.rows)) gs) (after (suc g.unknowns) y)
weighed-cut h before g gs y =
    ap (λ es. list_dot es y) (map-append h lines others)
    ∙ (list_dot-append (map h lines) (map h others) y
    ∙ sums _ _ _ _ (ap (λ es. list_dot es y) (map-listed h (suc g.unknowns) (line before g)) ∙ list_dot-listed (suc g.unknowns) (λ u. h (line before g u)) y)
    (ap (λ (k : ℕ). list_dot (map h others) (after k y)) (length-map h lines ∙ length-listed (suc g.unknowns) (line before g))))
  where
    lines : List Equation
    lines = listed (suc g.unknowns) (line before g)

    others : List Equation
    others = equations (before + suc (length g.rows)) gs

    sums : (a b c d : ℤ) → a ≡ c → b ≡ d → a +ℤ b ≡ c +ℤ d
    sums a b c d e f = omega (arith, ints)

-- the sum of a form's numbers times the lines' parts is the form's value at the element
pub form-weighed : (n : ℕ) (f : Form) (y : ℕ → ℤ) → length f.coefs ≤ n → weighed_lines (λ u. number n u f) n y ≡ form_value f y (y n)
form-weighed n f y l =
    sums _ _ _ _
    (sum_to-same n (λ u. number n u f *ℤ y u) (λ u. at f.coefs u *ℤ y u) (λ u m. ap (λ h. h f *ℤ y u) (number-unknown n u m)) ∙ list_dot-sum f.coefs n y l)
    (ap (λ h. h f *ℤ y n) (number-constant n))
  where
    sums : (a b c d : ℤ) → a ≡ c → b ≡ d → a +ℤ b ≡ c +ℤ d
    sums a b c d e f = omega (arith, ints)

-- the sum with negated numbers is the negated sum
pub neg-weighed : (m : ℕ) (f y : ℕ → ℤ) → sum_to m (λ u. neg_ℤ (f u) *ℤ y u) ≡ neg_ℤ (sum_to m (λ u. f u *ℤ y u))
neg-weighed zero f y = refl
neg-weighed (suc m) f y = regroup _ _ _ _ (neg-weighed m f y) (neg-mul_ℤ (f m) (y m))
  where
    regroup : (s v a b : ℤ) → s ≡ neg_ℤ v → a ≡ neg_ℤ b → s +ℤ a ≡ neg_ℤ (v +ℤ b)
    regroup s v a b e f = omega (arith, ints)

-- the sum for the slack is the negated denominator
pub slack-weighed : (n : ℕ) (y : ℕ → ℤ) → weighed_lines (slack n) n y ≡ neg_ℤ (y n)
slack-weighed n y =
    sums _ _ (y n) (sum_to-zero n (λ u. slack n u *ℤ y u) (λ u m. ap (λ (z : ℤ). z *ℤ y u) (slack-unknown n u m) ∙ nothing (y u)))
    (ap (λ (z : ℤ). z *ℤ y n) (slack-constant n))
  where
    nothing : (z : ℤ) → pos 0 *ℤ z ≡ pos 0
    nothing z = omega (arith, ints)

    sums : (a b d : ℤ) → a ≡ pos 0 → b ≡ negsuc 0 *ℤ d → a +ℤ b ≡ neg_ℤ d
    sums a b d e f = omega (arith, ints)

-- the sum for a column without numbers is 0
pub zero-weighed : (m : ℕ) (f y : ℕ → ℤ) → ((u : ℕ) → f u ≡ pos 0) → sum_to m (λ u. f u *ℤ y u) ≡ pos 0
zero-weighed m f y h = sum_to-zero m (λ u. f u *ℤ y u) (λ u _. ap (λ (z : ℤ). z *ℤ y u) (h u) ∙ nothing (y u))
  where
    nothing : (z : ℤ) → pos 0 *ℤ z ≡ pos 0
    nothing z = omega (arith, ints)

-- the number in the plus column of a pair is the parameter's
pub at-plus : (vs ys : List ℤ) (p : ℕ) → p < length vs → at (signed vs ++ ys) (double p) ≡ at vs p
at-plus [] ys p l = absurd (omega arith)
at-plus (v ∷ vs) ys zero l = refl
at-plus (v ∷ vs) ys (suc p) l = at-plus vs ys p (omega arith)

-- the number in the minus column of a pair is the parameter's, negated
pub at-minus : (vs ys : List ℤ) (p : ℕ) → p < length vs → at (signed vs ++ ys) (suc (double p)) ≡ neg_ℤ (at vs p)
at-minus [] ys p l = absurd (omega arith)
at-minus (v ∷ vs) ys zero l = refl
at-minus (v ∷ vs) ys (suc p) l = at-minus vs ys p (omega arith)

-- reading a mapped list
pub get_or-map : {A B : Type 0} (h : A → B) (rs : List A) (i : ℕ) (d : B) (e : A) → i < length rs → get_or (map h rs) i d ≡ h (get_or rs i e)
get_or-map h [] i d e l = absurd (omega arith)
get_or-map h (r ∷ rs) zero d e l = refl
get_or-map h (r ∷ rs) (suc i) d e l = get_or-map h rs i d e (omega arith)

-- the columns after the parameters' pairs are those of the groups
at-behind : (parameters before : ℕ) (g : Group) (u k : ℕ) → length g.goals ≡ parameters
    → at (line before g u).numbers (double parameters + k)
    ≡ at (replicate before (pos 0) ++ (map (λ r. neg_ℤ (number g.unknowns u r)) g.rows ++ (slack g.unknowns u ∷ []))) k
at-behind parameters before g u k e =
    ap (λ (n : ℕ). at (line before g u).numbers (n + k)) (sym (length-signed (map (number g.unknowns u) g.goals) ∙ ap double (length-map (number g.unknowns u) g.goals ∙ e)))
    ∙ get_or-append-add (signed (map (number g.unknowns u) g.goals))
    (replicate before (pos 0) ++ (map (λ r. neg_ℤ (number g.unknowns u r)) g.rows ++ (slack g.unknowns u ∷ []))) k (pos 0)

-- a group's lines are 0 in the columns of the groups before it
pub at-before : (parameters before : ℕ) (g : Group) (u k : ℕ) → length g.goals ≡ parameters → k < before
    → at (line before g u).numbers (double parameters + k) ≡ pos 0
at-before parameters before g u k e l = at-behind parameters before g u k e ∙ zeros before k (map (λ r. neg_ℤ (number g.unknowns u r)) g.rows ++ (slack g.unknowns u ∷ [])) l
  where
    zeros : (n i : ℕ) (ys : List ℤ) → i < n → at (replicate n (pos 0) ++ ys) i ≡ pos 0
    zeros zero i ys l = absurd (omega arith)
    zeros (suc n) zero ys l = refl
    zeros (suc n) (suc i) ys l = zeros n i ys (omega arith)

-- a group's lines have the group's numbers in its own columns
at-own : (parameters before : ℕ) (g : Group) (u r : ℕ) → length g.goals ≡ parameters
    → at (line before g u).numbers (double parameters + (before + r))
    ≡ at (map (λ r. neg_ℤ (number g.unknowns u r)) g.rows ++ (slack g.unknowns u ∷ [])) r
at-own parameters before g u r e = at-behind parameters before g u (before + r) e ∙ behind before (map (λ r. neg_ℤ (number g.unknowns u r)) g.rows ++ (slack g.unknowns u ∷ []))
  where
    shift : (n : ℕ) → suc n + r ≡ suc (n + r)
    shift n = omega arith

    none : zero + r ≡ r
    none = omega arith

    behind : (n : ℕ) (ys : List ℤ) → at (replicate n (pos 0) ++ ys) (n + r) ≡ at ys r
    behind zero ys = ap (λ (k : ℕ). at ys k) none
    behind (suc n) ys = ap (λ (k : ℕ). at (replicate (suc n) (pos 0) ++ ys) k) (shift n) ∙ behind n ys

-- the column of a row's multiplier has the negated numbers of the row
pub at-row : (parameters before : ℕ) (g : Group) (u r : ℕ) → length g.goals ≡ parameters → r < length g.rows
    → at (line before g u).numbers (double parameters + (before + r)) ≡ neg_ℤ (number g.unknowns u (get_or g.rows r zero_form))
at-row parameters before g u r e l =
    at-own parameters before g u r e
    ∙ (get_or_append_left (map (λ r. neg_ℤ (number g.unknowns u r)) g.rows) (slack g.unknowns u ∷ []) (pos 0) r (omega (arith, l, length-map (λ r. neg_ℤ (number g.unknowns u r)) g.rows))
    ∙ get_or-map (λ r. neg_ℤ (number g.unknowns u r)) g.rows r (pos 0) zero_form l)

-- the column of the slack has the slack's numbers
pub at-slack : (parameters before : ℕ) (g : Group) (u : ℕ) → length g.goals ≡ parameters
    → at (line before g u).numbers (double parameters + (before + length g.rows)) ≡ slack g.unknowns u
at-slack parameters before g u e = at-own parameters before g u (length g.rows) e ∙ behind g.rows
  where
    behind : (rows : List Form) → at (map (λ r. neg_ℤ (number g.unknowns u r)) rows ++ (slack g.unknowns u ∷ [])) (length rows) ≡ slack g.unknowns u
    behind [] = refl
    behind (r ∷ rows) = behind rows

-- a group's lines are 0 in the columns of the groups after it
pub at-past : (parameters before : ℕ) (g : Group) (u k : ℕ) → length g.goals ≡ parameters
    → at (line before g u).numbers (double parameters + (before + (suc (length g.rows) + k))) ≡ pos 0
at-past parameters before g u k e = get_or_past (line before g u).numbers _ (pos 0) (enough _ _ (length-line parameters before g u e))
  where
    enough : (a d : ℕ) → a ≡ d + (before + suc (length g.rows)) → a ≤ d + (before + (suc (length g.rows) + k))
    enough a d f = omega arith
