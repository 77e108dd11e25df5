-- A goal that is a sum of nonnegative multiples of rows and a nonnegative number is at least 0 wherever all rows are.
use Rattle.std.proofs.Common.{◌≡◌, ℕ, ◌+◌, ◌≤◌, List, [], ◌∷◌, length, ap, arith, refl, sym, ◌∙◌}
use Rattle.std.specs.Prelude.{ℤ, pos, negsuc, ◌+ℤ◌, ◌*ℤ◌, ◌≤ℤ◌}
use Rattle.std.specs.List.{All}
use Rattle.std.proofs.lemmas.Int.{ints}
use Rattle.std.proofs.lemmas.List.Elements.{All-head, All-tail}
use Rattle.int_laws.specs.Sums.{dot}
use Rattle.int_laws.specs.Polynomial.{variable, ◌⊕◌, ◌⊗◌}
use Rattle.int_laws.proofs.Identities.{identity}
use Rattle.int_laws.proofs.RingLaws.{mul_comm_ℤ, zero-mul_ℤ}
use Rattle.int_laws.proofs.OrderLaws.{mul-nonneg_ℤ, mul-le-mul_ℤ}
use Rattle.int_laws.proofs.SumLaws.{sum_to-same, sum_to-zero, sum_to-add, sum_to-scale}
use Rattle.linear_forms.specs.Forms.{Form, at, list_dot, form_value}
use Rattle.linear_forms.specs.Points.{Meets, IsPoint, IsRay}
use Rattle.linear_forms.specs.Certificates.{Implies, combined_coef, combined_constant, minus_one}
use Rattle.linear_forms.proofs.FormLaws.{list_dot-dot}

-- a number of unknowns that suffices for all rows
abbrev all_unknowns : List Form → ℕ
all_unknowns [] = 0
all_unknowns (r ∷ rows) = length r.coefs + all_unknowns rows

-- the sum of the rows' values, each times its multiplier
abbrev combined_value : List ℕ → List Form → (ℕ → ℤ) → ℤ → ℤ
combined_value [] rows z d = pos 0
combined_value (m ∷ ms) [] z d = pos 0
combined_value (m ∷ ms) (r ∷ rows) z d = pos m *ℤ form_value r z d +ℤ combined_value ms rows z d

-- that sum is at least 0 if each row is
combined_value-nonneg : (ms : List ℕ) (rows : List Form) (z : ℕ → ℤ) (d : ℤ) → All (λ r. pos 0 ≤ℤ form_value r z d) rows → pos 0 ≤ℤ combined_value ms rows z d
combined_value-nonneg [] rows z d h = omega (arith, ints)
combined_value-nonneg (m ∷ ms) [] z d h = omega (arith, ints)
combined_value-nonneg (m ∷ ms) (r ∷ rows) z d h =
    let P : Form → Type 0 = λ (r : Form). pos 0 ≤ℤ form_value r z d in
    both _ _ (mul-nonneg_ℤ (pos m) (form_value r z d) (omega (arith, ints)) (All-head P r rows h)) (combined_value-nonneg ms rows z d (All-tail P r rows h))
  where
    both : (a b : ℤ) → pos 0 ≤ℤ a → pos 0 ≤ℤ b → pos 0 ≤ℤ (a +ℤ b)
    both a b e f = omega (arith, ints)

-- that sum is the value of the sum of the rows, each times its multiplier
combined_value-is : (ms : List ℕ) (rows : List Form) (z : ℕ → ℤ) (d : ℤ) (n : ℕ) → all_unknowns rows ≤ n
    → combined_value ms rows z d ≡ dot n (combined_coef ms rows) z +ℤ combined_constant ms rows *ℤ d
combined_value-is [] rows z d n h = nothing _ _ (sum_to-zero n (λ j. pos 0 *ℤ z j) (λ j l. zero-mul_ℤ (pos 0) (z j) refl)) (zero-mul_ℤ (pos 0) d refl)
  where
    nothing : (a b : ℤ) → a ≡ pos 0 → b ≡ pos 0 → pos 0 ≡ a +ℤ b
    nothing a b e f = omega (arith, ints)
combined_value-is (m ∷ ms) [] z d n h = nothing _ _ (sum_to-zero n (λ j. pos 0 *ℤ z j) (λ j l. zero-mul_ℤ (pos 0) (z j) refl)) (zero-mul_ℤ (pos 0) d refl)
  where
    nothing : (a b : ℤ) → a ≡ pos 0 → b ≡ pos 0 → pos 0 ≡ a +ℤ b
    nothing a b e f = omega (arith, ints)
combined_value-is (m ∷ ms) (r ∷ rows) z d n h =
    let row = list_dot-dot r.coefs z n (omega arith) in
    let rest = combined_value-is ms rows z d n (omega arith) in
    joined _ _ _ _ _ row rest (sum_to-same n (λ j. (pos m *ℤ at r.coefs j +ℤ combined_coef ms rows j) *ℤ z j) (λ j. pos m *ℤ (at r.coefs j *ℤ z j) +ℤ combined_coef ms rows j *ℤ z j) (λ j l. apart (pos m) (at r.coefs j) (combined_coef ms rows j) (z j))
    ∙ (sum_to-add n (λ j. pos m *ℤ (at r.coefs j *ℤ z j)) (λ j. combined_coef ms rows j *ℤ z j)
    ∙ ap (λ (v : ℤ). v +ℤ dot n (combined_coef ms rows) z) (sum_to-scale n (pos m) (λ j. at r.coefs j *ℤ z j))))
  where
    apart : (m a c z : ℤ) → (m *ℤ a +ℤ c) *ℤ z ≡ m *ℤ (a *ℤ z) +ℤ c *ℤ z
    apart m a c z = identity (m ∷ a ∷ c ∷ z ∷ []) ((variable 0 ⊗ variable 1 ⊕ variable 2) ⊗ variable 3) (variable 0 ⊗ (variable 1 ⊗ variable 3) ⊕ variable 2 ⊗ variable 3) refl

    regroup : (m v k d w e : ℤ) → m *ℤ (v +ℤ k *ℤ d) +ℤ (w +ℤ e *ℤ d) ≡ (m *ℤ v +ℤ w) +ℤ (m *ℤ k +ℤ e) *ℤ d
    regroup m v k d w e = identity (m ∷ v ∷ k ∷ d ∷ w ∷ e ∷ [])
        (variable 0 ⊗ (variable 1 ⊕ variable 2 ⊗ variable 3) ⊕ (variable 4 ⊕ variable 5 ⊗ variable 3))
        ((variable 0 ⊗ variable 1 ⊕ variable 4) ⊕ (variable 0 ⊗ variable 2 ⊕ variable 5) ⊗ variable 3) refl

    joined : (v w c s t : ℤ) → v ≡ s → c ≡ w +ℤ combined_constant ms rows *ℤ d → t ≡ pos m *ℤ s +ℤ w
        → pos m *ℤ (v +ℤ r.constant *ℤ d) +ℤ c ≡ t +ℤ (pos m *ℤ r.constant +ℤ combined_constant ms rows) *ℤ d
    joined v w c s t e f g =
        ap (λ (x : ℤ). pos m *ℤ (x +ℤ r.constant *ℤ d) +ℤ c) e
        ∙ (ap (λ (x : ℤ). pos m *ℤ (s +ℤ r.constant *ℤ d) +ℤ x) f
        ∙ (regroup (pos m) s r.constant d w (combined_constant ms rows)
        ∙ ap (λ (x : ℤ). x +ℤ (pos m *ℤ r.constant +ℤ combined_constant ms rows) *ℤ d) (sym g)))

-- the goal is at least 0 wherever all rows are
pub implied : (rows : List Form) (ms : List ℕ) (goal : Form) → Implies rows ms goal
    → (z : ℕ → ℤ) (d : ℤ) → Meets rows z d → pos 0 ≤ℤ d → pos 0 ≤ℤ form_value goal z d
implied rows ms goal h z d meets nonneg =
    let n : ℕ = length goal.coefs + all_unknowns rows in
    let same : list_dot goal.coefs z ≡ dot n (combined_coef ms rows) z =
    list_dot-dot goal.coefs z n (omega arith) ∙ sum_to-same n (λ j. at goal.coefs j *ℤ z j) (λ j. combined_coef ms rows j *ℤ z j) (λ j l. ap (λ (v : ℤ). v *ℤ z j) (h.coefs j)) in
    closes _ _ _ _ _ same
    (combined_value-is ms rows z d n (omega arith))
    (combined_value-nonneg ms rows z d meets.each)
    (mul-le-mul_ℤ d (combined_constant ms rows) goal.constant nonneg h.constant)
    (mul_comm_ℤ d (combined_constant ms rows)) (mul_comm_ℤ d goal.constant)
  where
    closes : (v w c k g : ℤ) {k' g' : ℤ} → v ≡ w → c ≡ w +ℤ k → pos 0 ≤ℤ c → k' ≤ℤ g' → k' ≡ k → g' ≡ g → pos 0 ≤ℤ (v +ℤ g)
    closes v w c k g {k' = k'} {g' = g'} e f p l a b = omega (arith, ints)

-- the goal is at least 0 on each point of the rows
pub implied_on_points : (rows : List Form) (ms : List ℕ) (goal : Form) → Implies rows ms goal
    → (z : ℕ → ℤ) (d : ℤ) → IsPoint rows z d → pos 0 ≤ℤ form_value goal z d
implied_on_points rows ms goal h z d point = let positive = point.denominator in implied rows ms goal h z d point.meets (omega (arith, ints))

-- the goal is at least 0 along each ray of the rows
pub implied_along_rays : (rows : List Form) (ms : List ℕ) (goal : Form) → Implies rows ms goal
    → (z : ℕ → ℤ) → IsRay rows z → pos 0 ≤ℤ form_value goal z (pos 0)
implied_along_rays rows ms goal h z ray = implied rows ms goal h z (pos 0) ray (omega (arith, ints))

-- rows from which -1 follows have no point
pub no_point : (rows : List Form) (ms : List ℕ) → Implies rows ms minus_one → (z : ℕ → ℤ) (d : ℤ) → IsPoint rows z d → ⊥
no_point rows ms h z d point = let below : pos 0 ≤ℤ (pos 0 +ℤ negsuc 0 *ℤ d) = implied_on_points rows ms minus_one h z d point in let positive = point.denominator in omega (arith, ints)
