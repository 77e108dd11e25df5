-- A solution of least cost gives a form of least weight among those of its kind.
use Rattle.std.proofs.Common.{◌≡◌, ℕ, zero, suc, ◌+◌, ◌*◌, ◌≤◌, ap, arith, refl, sym, ◌∙◌, List, [], ◌∷◌, ◌++◌, length}
use Rattle.std.proofs.Common.{map, replicate, if◌then◌else◌, nat_eq}
use Rattle.std.specs.Prelude.{ℤ, pos, negsuc, ◌+ℤ◌, ◌*ℤ◌, nat_abs, slice_index_or, ◌≤ℤ◌}
use Rattle.std.specs.List.{range_with_len}
use Rattle.std.proofs.Math.Dec.{eqb-suc-zero}
use Rattle.std.proofs.lemmas.Int.{ints}
use Rattle.linear_forms.specs.int_laws.Sums.{sum_to}
use Rattle.linear_forms.specs.Forms.{Form, at}
use Rattle.linear_forms.specs.Sizes.{total_size}
use Rattle.linear_forms.specs.Combinations.{form_times}
use Rattle.linear_forms.specs.LinearProgram.{IsSolution, IsLeast}
use Rattle.linear_forms.specs.Questions.{listed, program_of_question}
use Rattle.linear_forms.specs.QuestionLaws.{positive_part, size_weight, height_weight, parameters_of}
use Rattle.linear_forms.specs.RuleQuestions.{RuleForms, before_rule, unknown_form}
use Rattle.linear_forms.proofs.ListLaws.{sum_to-first}
use Rattle.linear_forms.proofs.WeightLaws.{least-sizes, least-heights}
use Rattle.rule_forms.specs.Kinds.{Kind, Number, Argument, Affine, Sign, Plus, Minus, unit_of, IsOfKind}
use Rattle.rule_forms.specs.Bounds.{IsLeastOf, WeighsAtMost, height}
use Rattle.rule_forms.specs.Questions.{question_of, form_of, IsKindOf, Fits}
use Rattle.rule_forms.specs.Laws.{HasPoint, solved_form}
use Rattle.rule_forms.proofs.Shapes.{question-shaped}
use Rattle.rule_forms.proofs.Solutions.{form-of_kind}
use Rattle.rule_forms.proofs.Exclusion.{parameters_for, stand-for, have-points, above-holds}

-- lists with the same numbers have the same sum of absolute values
pub total_size-same : (xs ys : List ℤ) → ((u : ℕ) → at xs u ≡ at ys u) → total_size xs ≡ total_size ys
total_size-same [] [] h = refl
total_size-same [] (y ∷ ys) h = none _ _ (sym (h 0)) (total_size-same [] ys (λ u. h (suc u)))
  where
    none : (y : ℤ) (n : ℕ) → y ≡ pos 0 → 0 ≡ n → 0 ≡ nat_abs y + n
    none y n e f = omega (arith, f, ap nat_abs e)
total_size-same (x ∷ xs) [] h = none _ _ (h 0) (total_size-same xs [] (λ u. h (suc u)))
  where
    none : (x : ℤ) (n : ℕ) → x ≡ pos 0 → n ≡ 0 → nat_abs x + n ≡ 0
    none x n e f = omega (arith, f, ap nat_abs e)
total_size-same (x ∷ xs) (y ∷ ys) h = both _ _ _ _ (h 0) (total_size-same xs ys (λ u. h (suc u)))
  where
    both : (x y : ℤ) (m n : ℕ) → x ≡ y → m ≡ n → nat_abs x + m ≡ nat_abs y + n
    both x y m n e f = omega (arith, f, ap nat_abs e)

-- the positive part of a constant as a number
pub height-is : (c : ℤ) → positive_part c ≡ pos (height c)
height-is (pos n) = refl
height-is (negsuc n) = refl

-- the size of the coefficient at a place; its height
size_of : ℕ → ℕ
size_of i = if nat_eq i 0 then 0 else 1

height_of : ℕ → ℕ
height_of i = if nat_eq i 0 then 1 else 0

-- the weighted term of a place of an argument
one-place : (b a x : ℕ) → b ≡ suc a → pos (if nat_eq b 0 then 0 else 1) *ℤ pos x ≡ pos x
one-place b a x e = ap (λ (c : ℕ). pos (if nat_eq c 0 then 0 else 1) *ℤ pos x) e
    ∙ (ap (λ t. pos (if t then 0 else 1) *ℤ pos x) (eqb-suc-zero a) ∙ one x)
  where
    one : (x : ℕ) → pos 1 *ℤ pos x ≡ pos x
    one x = omega (arith, ints)

no-height : (b a : ℕ) (x : ℤ) → b ≡ suc a → pos (if nat_eq b 0 then 1 else 0) *ℤ x ≡ pos 0
no-height b a x e = ap (λ (c : ℕ). pos (if nat_eq c 0 then 1 else 0) *ℤ x) e
    ∙ (ap (λ t. pos (if t then 1 else 0) *ℤ x) (eqb-suc-zero a) ∙ none x)
  where
    none : (x : ℤ) → pos 0 *ℤ x ≡ pos 0
    none x = omega (arith, ints)

-- the sizes of an affine form's parameters weigh the sum of its absolute coefficients
affine-sizes : (b a n : ℕ) (v : ℕ → ℤ) → b ≡ suc a
    → sum_to (length (range_with_len b n ++ 0 ∷ []))
    (λ p. pos (slice_index_or (map (λ i. if nat_eq i 0 then 0 else 1) (range_with_len b n ++ 0 ∷ [])) p 0) *ℤ pos
    (nat_abs (v p)))
    ≡ pos (total_size (listed n v))
affine-sizes b a zero v s = none (nat_abs (v 0))
  where
    none : (x : ℕ) → pos 0 +ℤ pos 0 *ℤ pos x ≡ pos 0
    none x = omega (arith, ints)
affine-sizes b a (suc n) v s =
    sum_to-first (length (range_with_len (b + 1) n ++ 0 ∷ [])) _
    ∙ added _ _ _ _ (one-place b a (nat_abs (v 0)) s)
    (affine-sizes (b + 1) (suc a) n (λ p. v (suc p)) (omega (arith, s)))
  where
    added : (x y : ℤ) (m k : ℕ) → x ≡ pos m → y ≡ pos k → x +ℤ y ≡ pos (m + k)
    added x y m k e f = omega (arith, ints, e, f)

-- the heights of an affine form's parameters weigh the positive part of its constant
affine-heights : (b a n : ℕ) (v : ℕ → ℤ) → b ≡ suc a
    → sum_to (length (range_with_len b n ++ 0 ∷ []))
    (λ p. pos (slice_index_or (map (λ i. if nat_eq i 0 then 1 else 0)
    (range_with_len b n ++ 0 ∷ [])) p 0) *ℤ positive_part (v p))
    ≡ positive_part (v n)
affine-heights b a zero v s = one (positive_part (v 0))
  where
    one : (x : ℤ) → pos 0 +ℤ pos 1 *ℤ x ≡ x
    one x = omega (arith, ints)
affine-heights b a (suc n) v s =
    sum_to-first (length (range_with_len (b + 1) n ++ 0 ∷ [])) _
    ∙ behind _ _ _ (no-height b a (positive_part (v 0)) s)
    (affine-heights (b + 1) (suc a) n (λ p. v (suc p)) (omega (arith, s)))
  where
    behind : (x y w : ℤ) → x ≡ pos 0 → y ≡ w → x +ℤ y ≡ w
    behind x y w e f = omega (arith, ints, e, f)

-- an order of products of natural numbers, from that of integers
pub from-products : (a e b q : ℕ) → (pos a *ℤ pos e) ≤ℤ (pos b *ℤ pos q) → a * e ≤ b * q
from-products a e b q l = omega (arith, ints, l)

-- an equality of products of natural numbers, as one of integers
pub to-products : (a e b q : ℕ) → a * e ≡ b * q → pos a *ℤ pos e ≡ pos b *ℤ pos q
to-products a e b q h = omega (arith, ints, h)

-- the weight of the parameters of an affine form
affine-size : (r : RuleForms) (w : Form) (v : ℕ → ℤ) (d : ℤ)
    → size_weight (question_of r w Affine) v ≡ pos (total_size (form_of r.left Affine v d).coefs)
affine-size r w v d = affine-sizes 1 0 r.left v refl

affine-height : (r : RuleForms) (w : Form) (v : ℕ → ℤ) (d : ℤ)
    → height_weight (question_of r w Affine) v ≡ pos (height (form_of r.left Affine v d).constant)
affine-height r w v d = affine-heights 1 0 r.left v refl ∙ height-is (v r.left)

-- a constant form has size 0
zeros-total : (n : ℕ) → total_size (replicate n (pos 0)) ≡ 0
zeros-total zero = refl
zeros-total (suc n) = omega (arith, zeros-total n)

-- the weight of the parameter of a constant
number-size : (r : RuleForms) (w : Form) (v : ℕ → ℤ) (d : ℤ)
    → size_weight (question_of r w Number) v ≡ pos (total_size (form_of r.left Number v d).coefs)
number-size r w v d = none (nat_abs (v 0)) ∙ ap (λ (n : ℕ). pos n) (sym (zeros-total r.left))
  where
    none : (x : ℕ) → pos 0 +ℤ pos 0 *ℤ pos x ≡ pos 0
    none x = omega (arith, ints)

number-height : (r : RuleForms) (w : Form) (v : ℕ → ℤ) (d : ℤ)
    → height_weight (question_of r w Number) v ≡ pos (height (form_of r.left Number v d).constant)
number-height r w v d = one _ ∙ height-is (v 0)
  where
    one : (x : ℤ) → pos 0 +ℤ pos 1 *ℤ x ≡ x
    one x = omega (arith, ints)

-- forms with the same coefficients and constants as those of parameters compare as the parameters' weights do
weighs-by : (g h : Form) (q e : ℕ) (gs gh hs hh : ℤ) → gs ≡ pos (total_size g.coefs) → gh ≡ pos (height g.constant)
    → hs ≡ pos (total_size h.coefs) → hh ≡ pos (height h.constant) → (gs *ℤ pos e) ≤ℤ (hs *ℤ pos q)
    → (gs *ℤ pos e ≡ hs *ℤ pos q → (gh *ℤ pos e) ≤ℤ (hh *ℤ pos q)) → WeighsAtMost g q h e
weighs-by g h q e gs gh hs hh a b c f sizes heights = record {
  sizes =
      from-products (total_size g.coefs) e (total_size h.coefs) q
      (moved _ _ _ _ (times gs _ e a) (times hs _ q c) sizes);
  heights = λ same. from-products (height g.constant) e (height h.constant) q
      (moved _ _ _ _ (times gh _ e b) (times hh _ q f)
      (heights (times gs _ e a ∙ (to-products (total_size g.coefs) e (total_size h.coefs) q same ∙ sym
      (times hs _ q c)))));
}
  where
    times : (x : ℤ) (n k : ℕ) → x ≡ pos n → x *ℤ pos k ≡ pos n *ℤ pos k
    times x n k e = ap (λ (y : ℤ). y *ℤ pos k) e

    moved : (x y u v : ℤ) → x ≡ u → y ≡ v → x ≤ℤ y → u ≤ℤ v
    moved x y u v e f l = omega (arith, ints, e, f, l)

-- the size of c times the form of an argument
argument-total : (place : ℕ) (c : ℤ) → 1 ≤ place → total_size (form_times c (before_rule place)).coefs ≡ nat_abs c
argument-total zero c l = absurd (omega (arith, l))
argument-total (suc i) c l = single i
  where
    single : (i : ℕ) → total_size (map (λ a. c *ℤ a) (unknown_form i).coefs) ≡ nat_abs c
    single zero = last _ (ap nat_abs (one c))
      where
        one : (c : ℤ) → c *ℤ pos 1 ≡ c
        one c = omega (arith, ints)

        last : (n : ℕ) → {m : ℕ} → m ≡ n → m + 0 ≡ n
        last n {m} e = omega (arith, e)
    single (suc i) = behind _ _ (ap nat_abs (none c)) (single i)
      where
        none : (c : ℤ) → c *ℤ pos 0 ≡ pos 0
        none c = omega (arith, ints)

        behind : (m n : ℕ) → {k : ℕ} → m ≡ 0 → n ≡ k → m + n ≡ k
        behind m n {k} e f = omega (arith, e, f)

-- an argument over q has the size q, and height 0
pub argument-weighs : (left place : ℕ) (sign : Sign) (g : Form) (q : ℕ) → 1 ≤ place
    → IsOfKind left (Argument place sign) g q
    → (total_size g.coefs ≡ q) × (height g.constant ≡ 0)
argument-weighs left place sign g q l is = (
  total_size-same g.coefs (form_times (pos q *ℤ unit_of sign) (before_rule place)).coefs is.coefs
      ∙ (argument-total place (pos q *ℤ unit_of sign) l ∙ absolute sign),
  ap height (is.constant ∙ none place l),
)
  where
    absolute : (sign : Sign) → nat_abs (pos q *ℤ unit_of sign) ≡ q
    absolute Plus = ap nat_abs (one q)
      where
        one : (q : ℕ) → pos q *ℤ pos 1 ≡ pos q
        one q = omega (arith, ints)
    absolute Minus = negative q
      where
        negative : (q : ℕ) → nat_abs (pos q *ℤ negsuc 0) ≡ q
        negative q = omega (arith, ints)

    none : (place : ℕ) → 1 ≤ place → (pos q *ℤ unit_of sign) *ℤ (before_rule place).constant ≡ pos 0
    none zero l = absurd (omega (arith, l))
    none (suc i) l = zero_times (pos q *ℤ unit_of sign)
      where
        zero_times : (c : ℤ) → c *ℤ pos 0 ≡ pos 0
        zero_times c = omega (arith, ints)

-- the form of a solution of least cost has least weight
pub least-is-least : (r : RuleForms) (w : Form) (kind : Kind) (x : ℕ → ℤ) (d : ℤ) → Fits r w → IsKindOf r.left kind
    → HasPoint r.rows
    → IsSolution (program_of_question (question_of r w kind)) x d
    → IsLeast (program_of_question (question_of r w kind)) x d
    → IsLeastOf r.rows r.left w kind (solved_form r kind x d) (nat_abs d)
least-is-least r w kind x (negsuc n) fits k point solution least = absurd (omega (arith, ints, solution.denominator))
least-is-least r w Number x (pos q) fits k point solution least = record {
  each = λ h e l is above. weighs-by _ h q e _ _ _ _
      (number-size r w (parameters_of x) (pos q)) (number-height r w (parameters_of x) (pos q))
      (number-size r w (parameters_for r.left Number h) (pos e) ∙ ap (λ (n : ℕ). pos n)
      (total_size-same _ _ (stand-for r.left Number h e k is).coefs))
      (number-height r w (parameters_for r.left Number h) (pos e))
      (least-sizes (question_of r w Number) x (pos q) (question-shaped r w Number fits k)
      (have-points r w Number point) solution least
      (parameters_for r.left Number h) (pos e) (above-holds r w Number h e l k is above))
      (least-heights (question_of r w Number) x (pos q) (question-shaped r w Number fits k)
      (have-points r w Number point) solution least
      (parameters_for r.left Number h) (pos e) (above-holds r w Number h e l k is above));
}
least-is-least r w (Argument place sign) x (pos q) fits k point solution least = record {
  each = λ h e l is above.
      equal _ _ _ _ (argument-weighs r.left place sign _ q k.0
      (form-of_kind r.left (Argument place sign) (parameters_of x) (pos q) k solution.denominator))
      (argument-weighs r.left place sign h e k.0 is);
}
  where
    equal : (g h : Form) (q e : ℕ) → (total_size g.coefs ≡ q) × (height g.constant ≡ 0) → (total_size h.coefs ≡ e)
        × (height h.constant ≡ 0)
        → WeighsAtMost g q h e
    equal g h q e a b = record {
      sizes = same _ _ a.0 b.0;
      heights = λ _. less _ _ a.1;
    }
      where
        same : (m n : ℕ) → m ≡ q → n ≡ e → m * e ≤ n * q
        same m n f g = omega (arith, ap (λ (k : ℕ). k * e) f, ap (λ (k : ℕ). k * q) g)

        less : (m n : ℕ) → m ≡ 0 → m * e ≤ n * q
        less m n f = omega (arith, ap (λ (k : ℕ). k * e) f)
least-is-least r w Affine x (pos q) fits k point solution least = record {
  each = λ h e l is above. weighs-by _ h q e _ _ _ _
      (affine-size r w (parameters_of x) (pos q)) (affine-height r w (parameters_of x) (pos q))
      (affine-size r w (parameters_for r.left Affine h) (pos e) ∙ ap (λ (n : ℕ). pos n)
      (total_size-same _ _ (stand-for r.left Affine h e k is).coefs))
      (affine-height r w (parameters_for r.left Affine h) (pos e) ∙ ap (λ (c : ℤ). pos (height c))
      (stand-for r.left Affine h e k is).constant)
      (least-sizes (question_of r w Affine) x (pos q) (question-shaped r w Affine fits k)
      (have-points r w Affine point) solution least
      (parameters_for r.left Affine h) (pos e) (above-holds r w Affine h e l k is above))
      (least-heights (question_of r w Affine) x (pos q) (question-shaped r w Affine fits k)
      (have-points r w Affine point) solution least
      (parameters_for r.left Affine h) (pos e) (above-holds r w Affine h e l k is above));
}
