-- Elements and dot products of appended lists, and of the numbers after the first n.
use Rattle.std.proofs.Common.{◌≡◌, ℕ, zero, suc, ◌+◌, ◌<◌, ◌≤◌, ap, arith, refl, sym, subst, ◌∙◌, List, [], ◌∷◌, ◌++◌}
use Rattle.std.proofs.Common.{length, map, get_or, replicate, length-append}
use Rattle.std.specs.Prelude.{ℤ, pos, ◌+ℤ◌, ◌-ℤ◌, ◌*ℤ◌, neg_ℤ}
use Rattle.std.specs.List.{All}
use Rattle.std.proofs.lemmas.Int.{ints}
use Rattle.std.proofs.lemmas.List.{get_or_append_left, get_or-append-add}
use Rattle.int_laws.specs.Sums.{sum_to}
use Rattle.int_laws.proofs.RingLaws.{neg-mul_ℤ}
use Rattle.int_laws.proofs.OrderLaws.{mul-sub_ℤ}
use Rattle.int_laws.proofs.SumLaws.{sum_to-zero}
use Rattle.linear_forms.specs.Forms.{at, list_dot}
use Rattle.linear_forms.specs.Questions.{signed, listed, double}
use Rattle.linear_forms.specs.QuestionLaws.{after, parameters_of}

-- the first number after the first n is the one at index n
pub after-head : (n : ℕ) (x : ℕ → ℤ) → after n x 0 ≡ x n
after-head zero x = refl
after-head (suc n) x = after-head n (λ j. x (suc j))

-- the number at an index after the first n is at that index plus n
pub after-is : (n : ℕ) (x : ℕ → ℤ) (j : ℕ) → after n x j ≡ x (n + j)
after-is zero x j = ap x (omega arith)
after-is (suc n) x j = after-is n (λ i. x (suc i)) j ∙ ap x (omega arith)

-- skipping m + n numbers is skipping m and then n
pub after-add : (m n : ℕ) (x : ℕ → ℤ) → after (m + n) x ≡ after n (after m x)
after-add zero n x = ap (λ (k : ℕ). after k x) (none n)
  where
    none : (n : ℕ) → zero + n ≡ n
    none n = omega arith
after-add (suc m) n x = ap (λ (k : ℕ). after k x) (shift m n) ∙ after-add m n (λ j. x (suc j))
  where
    shift : (m n : ℕ) → suc m + n ≡ suc (m + n)
    shift m n = omega arith

-- the dot product of an appended list is the sum of those of its parts
pub list_dot-append : (xs ys : List ℤ) (x : ℕ → ℤ) → list_dot (xs ++ ys) x ≡ list_dot xs x +ℤ list_dot ys (after (length xs) x)
list_dot-append [] ys x = nothing (list_dot ys x)
  where
    nothing : (z : ℤ) → z ≡ pos 0 +ℤ z
    nothing z = omega (arith, ints)
list_dot-append (a ∷ xs) ys x = regroup (a *ℤ x 0) _ _ _ (list_dot-append xs ys (λ j. x (suc j)))
  where
    regroup : (t s v w : ℤ) → s ≡ v +ℤ w → t +ℤ s ≡ (t +ℤ v) +ℤ w
    regroup t s v w e = omega (arith, ints)

-- the dot product of zeros is 0
pub list_dot-zeros : (n : ℕ) (x : ℕ → ℤ) → list_dot (replicate n (pos 0)) x ≡ pos 0
list_dot-zeros zero x = refl
list_dot-zeros (suc n) x = nothing (x 0) _ (list_dot-zeros n (λ j. x (suc j)))
  where
    nothing : (t v : ℤ) → v ≡ pos 0 → pos 0 *ℤ t +ℤ v ≡ pos 0
    nothing t v e = omega (arith, ints)

-- the dot product of zeros followed by a list is that of the list after them
pub list_dot-behind_zeros : (n : ℕ) (ys : List ℤ) (x : ℕ → ℤ) → list_dot (replicate n (pos 0) ++ ys) x ≡ list_dot ys (after n x)
list_dot-behind_zeros zero ys x = refl
list_dot-behind_zeros (suc n) ys x = nothing (x 0) _ _ (list_dot-behind_zeros n ys (λ j. x (suc j)))
  where
    nothing : (t v w : ℤ) → v ≡ w → pos 0 *ℤ t +ℤ v ≡ w
    nothing t v w e = omega (arith, ints)

-- the dot product of pairs of columns is that of their differences, the parameters
pub list_dot-signed : (vs : List ℤ) (x : ℕ → ℤ) → list_dot (signed vs) x ≡ list_dot vs (parameters_of x)
list_dot-signed [] x = refl
list_dot-signed (a ∷ vs) x = regroup a (x 0) (x 1) _ _ (neg-mul_ℤ a (x 1)) (list_dot-signed vs (λ j. x (suc (suc j))))
  where
    regroup : (a b c v w : ℤ) → neg_ℤ a *ℤ c ≡ neg_ℤ (a *ℤ c) → v ≡ w → a *ℤ b +ℤ (neg_ℤ a *ℤ c +ℤ v) ≡ a *ℤ (b -ℤ c) +ℤ w
    regroup a b c v w n e = omega (arith, ints, n, e, mul-sub_ℤ a b c)

-- there are two columns for each pair
pub length-signed : (vs : List ℤ) → length (signed vs) ≡ double (length vs)
length-signed [] = refl
length-signed (a ∷ vs) = ap (λ (n : ℕ). suc (suc n)) (length-signed vs)

-- a sum is its first term plus the sum of the others
pub sum_to-first : (n : ℕ) (f : ℕ → ℤ) → sum_to (suc n) f ≡ f 0 +ℤ sum_to n (λ j. f (suc j))
sum_to-first zero f = swap (f 0)
  where
    swap : (z : ℤ) → pos 0 +ℤ z ≡ z +ℤ pos 0
    swap z = omega (arith, ints)
sum_to-first (suc n) f = regroup _ (f 0) _ (f (suc n)) (sum_to-first n f)
  where
    regroup : (s a v b : ℤ) → s ≡ a +ℤ v → s +ℤ b ≡ a +ℤ (v +ℤ b)
    regroup s a v b e = omega (arith, ints)

-- the dot product of a list is the sum over all columns, however many follow it
pub list_dot-sum : (xs : List ℤ) (n : ℕ) (x : ℕ → ℤ) → length xs ≤ n → sum_to n (λ j. at xs j *ℤ x j) ≡ list_dot xs x
list_dot-sum [] n x l = sum_to-zero n (λ j. pos 0 *ℤ x j) (λ j _. nothing (x j))
  where
    nothing : (z : ℤ) → pos 0 *ℤ z ≡ pos 0
    nothing z = omega (arith, ints)
list_dot-sum (a ∷ xs) zero x l = absurd (omega arith)
list_dot-sum (a ∷ xs) (suc n) x l =
    sum_to-first n (λ j. at (a ∷ xs) j *ℤ x j) ∙ ap (λ (z : ℤ). a *ℤ x 0 +ℤ z) (list_dot-sum xs n (λ j. x (suc j)) (omega arith))

-- the dot product of negated numbers is the negated dot product
pub list_dot-neg : {A : Type 0} (h : A → ℤ) (rs : List A) (x : ℕ → ℤ) → list_dot (map (λ r. neg_ℤ (h r)) rs) x ≡ neg_ℤ (list_dot (map h rs) x)
list_dot-neg h [] x = refl
list_dot-neg h (r ∷ rs) x = regroup _ _ _ _ (neg-mul_ℤ (h r) (x 0)) (list_dot-neg h rs (λ j. x (suc j)))
  where
    regroup : (t v w s : ℤ) → t ≡ neg_ℤ s → v ≡ neg_ℤ w → t +ℤ v ≡ neg_ℤ (s +ℤ w)
    regroup t v w s e f = omega (arith, ints)

-- the element of a listed function at an index is the function's value
pub listed-is : {A : Type 0} (n : ℕ) (f : ℕ → A) (i : ℕ) (d : A) → i < n → get_or (listed n f) i d ≡ f i
listed-is zero f i d l = absurd (omega arith)
listed-is (suc n) f zero d l = refl
listed-is (suc n) f (suc i) d l = listed-is n (λ j. f (suc j)) i d (omega arith)

-- a listed function has as many elements as indices
pub length-listed : {A : Type 0} (n : ℕ) (f : ℕ → A) → length (listed n f) ≡ n
length-listed zero f = refl
length-listed (suc n) f = ap (λ (k : ℕ). suc k) (length-listed n (λ j. f (suc j)))

-- the dot product of listed values is their sum
pub list_dot-listed : (n : ℕ) (f y : ℕ → ℤ) → list_dot (listed n f) y ≡ sum_to n (λ u. f u *ℤ y u)
list_dot-listed zero f y = refl
list_dot-listed (suc n) f y =
    ap (λ (z : ℤ). f 0 *ℤ y 0 +ℤ z) (list_dot-listed n (λ u. f (suc u)) (λ u. y (suc u))) ∙ sym (sum_to-first n (λ u. f u *ℤ y u))

-- mapping a function over a listed one
pub map-listed : {A B : Type 0} (h : A → B) (n : ℕ) (f : ℕ → A) → map h (listed n f) ≡ listed n (λ u. h (f u))
map-listed h zero f = refl
map-listed h (suc n) f = ap (λ rest. h (f 0) ∷ rest) (map-listed h n (λ u. f (suc u)))

-- a property of each element of an appended list holds of each element of the first part
pub All-front : {A : Type 0} (P : A → Type 0) (xs ys : List A) → All P (xs ++ ys) → All P xs
All-front P xs ys h k d l = subst P (get_or_append_left xs ys d k l) (h k d (omega (arith, length-append xs ys)))

-- a property of each element of an appended list holds of each element of the second part
pub All-behind : {A : Type 0} (P : A → Type 0) (xs ys : List A) → All P (xs ++ ys) → All P ys
All-behind P xs ys h k d l = subst P (get_or-append-add xs ys k d) (h (length xs + k) d (omega (arith, length-append xs ys)))
