-- Listed functions, and sums that depend only on the listed part.
use Rattle.std.proofs.Common.{◌≡◌, ℕ, zero, suc, ◌+◌, ◌<◌, ◌≤◌, ap, arith, refl, sym, ◌∙◌, List, [], ◌∷◌, ◌++◌, length}
use Rattle.std.proofs.Common.{get_or}
use Rattle.std.specs.Prelude.{ℤ, nat_abs, ◌+ℤ◌, ◌*ℤ◌}
use Rattle.poly_terms.specs.linear_forms.Forms.{Form, list_dot, form_value}
use Rattle.poly_terms.specs.linear_forms.Questions.{listed}
use Rattle.poly_terms.specs.linear_forms.QuestionLaws.{multipliers_of}

-- a listed function with one more value
listed-next : {A : Type 0} (n : ℕ) (f : ℕ → A) → listed (suc n) f ≡ listed n f ++ f n ∷ []
listed-next zero f = refl
listed-next {A} (suc n) f = ap (λ (xs : List A). f 0 ∷ xs) (listed-next n (λ i. f (suc i)))

-- a list of one value more ends with the next value
pub listed-more : {A : Type 0} (n : ℕ) (f : ℕ → A) → listed (n + 1) f ≡ listed n f ++ f n ∷ []
listed-more n f = ap (λ (m : ℕ). listed m f) (let e : n + 1 ≡ suc n = omega arith in e) ∙ listed-next n f

-- pushing the next value onto a listed function
pub listed-pushed : {A : Type 0} (n : ℕ) (f : ℕ → A) (old new : List A) (x : A) → old ≡ listed n f
    → new ≡ old ++ x ∷ [] → x ≡ f n → new ≡ listed (n + 1) f
listed-pushed {A} n f old new x e g h =
    g ∙ (ap (λ (xs : List A). xs ++ x ∷ []) e ∙ (ap (λ (y : A). listed n f ++ y ∷ []) h ∙ sym (listed-more n f)))

-- the multipliers of rows are the absolute values of their columns
pub multipliers-listed : (rows : List Form) (x : ℕ → ℤ)
    → multipliers_of x rows ≡ listed (length rows) (λ j. nat_abs (x j))
multipliers-listed [] x = refl
multipliers-listed (r ∷ rows) x =
    ap (λ (ms : List ℕ). nat_abs (x 0) ∷ ms) (multipliers-listed rows (λ j. x (suc j)))

-- a dot product depends only on the values at its own coefficients
pub dot-seen : (xs : List ℤ) (z w : ℕ → ℤ) → ((j : ℕ) → j < length xs → z j ≡ w j) → list_dot xs z ≡ list_dot xs w
dot-seen [] z w h = refl
dot-seen (a ∷ xs) z w h =
    ap (λ (x : ℤ). a *ℤ x +ℤ list_dot xs (λ i. z (suc i))) (h 0 (omega arith))
    ∙ ap (λ (y : ℤ). a *ℤ w 0 +ℤ y)
    (dot-seen xs (λ i. z (suc i)) (λ i. w (suc i)) (λ j l. h (suc j) (omega (arith, l))))

-- the value of a form depends only on the first n values
pub value-seen : (f : Form) (n : ℕ) (z w : ℕ → ℤ) (d : ℤ) → length f.coefs ≤ n → ((j : ℕ) → j < n → z j ≡ w j)
    → form_value f z d ≡ form_value f w d
value-seen f n z w d l h =
    ap (λ (x : ℤ). x +ℤ f.constant *ℤ d) (dot-seen f.coefs z w (λ j k. h j (omega (arith, k, l))))

-- reading a list inside it doesn't depend on the default
pub read-again : (xs : List ℕ) (i d e : ℕ) → i < length xs → get_or xs i d ≡ get_or xs i e
read-again [] i d e l = absurd (omega (arith, l))
read-again (x ∷ xs) zero d e l = refl
read-again (x ∷ xs) (suc i) d e l = read-again xs i d e (omega (arith, l))

-- functions with equal values have equal lists
pub listed-agree : {A : Type 0} (n : ℕ) (f g : ℕ → A) → ((j : ℕ) → f j ≡ g j) → listed n f ≡ listed n g
listed-agree zero f g h = refl
listed-agree {A} (suc n) f g h =
    ap (λ (y : A). y ∷ listed n (λ i. f (suc i))) (h 0)
    ∙ ap (λ (ys : List A). g 0 ∷ ys) (listed-agree n (λ i. f (suc i)) (λ i. g (suc i)) (λ j. h (suc j)))
