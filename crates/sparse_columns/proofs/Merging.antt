-- Numbers that are appended to others, and what is left of two lists of cells.
use Rattle.std.proofs.Common.{◌≡◌, ℕ, ◌*◌, ◌<◌, ap, arith, refl, sym, ◌∙◌, List, [], ◌∷◌, ◌++◌, Bool, true, false}
use Rattle.std.specs.Prelude.{ℤ, pos, ◌+ℤ◌, ◌*ℤ◌, nat_eq, if◌then◌else◌, unsigned_abs}
use Rattle.std.proofs.lemmas.Int.{ints, unsigned_abs-mul}
use Rattle.std.proofs.lemmas.Nat.{mul-lt}
use Rattle.int_laws.proofs.RingLaws.{add-mul_ℤ}
use Rattle.sparse_columns.specs.declared.cell.Cell.{Cell}
use Rattle.sparse_columns.specs.declared.wide.Wide.{Wide}
use Rattle.sparse_columns.specs.Numbers.{alone, number_of}
use Rattle.sparse_columns.specs.Wide.{wide_number}

-- the absolute value of a product of two numbers below limits is below the product of the limits
pub product-below : (a b : ℤ) (m n : ℕ) → unsigned_abs a < m → unsigned_abs b < n → unsigned_abs (a *ℤ b) < m * n
product-below a b m n l k = let e = unsigned_abs-mul a b in let p = mul-lt _ _ m n l k in omega (arith, e, p)

-- a multiple of the number in a row
pub alone-times : (r : ℕ) (z f : ℤ) (i : ℕ) → alone r (z *ℤ f) i ≡ alone r z i *ℤ f
alone-times r z f i = go (nat_eq r i)
  where
    none : pos 0 ≡ pos 0 *ℤ f
    none = omega (arith, ints)

    go : (b : Bool) → (if b then z *ℤ f else pos 0) ≡ (if b then z else pos 0) *ℤ f
    go true = refl
    go false = none

-- after a number is appended, it is added in its row
pub wide_number-append : (ws : List Wide) (w : Wide) (i : ℕ) → wide_number (ws ++ (w ∷ [])) i ≡ wide_number ws i +ℤ alone w.row w.number i
wide_number-append [] w i = omega (arith, ints)
wide_number-append (v ∷ vs) w i = let more = wide_number-append vs w i in omega (arith, ints, more)

-- a multiple of the numbers of a list is that of the first plus that of the others
pub multiple-first : (c : Cell) (cs : List Cell) (f : ℤ) (i : ℕ) → number_of (c ∷ cs) i *ℤ f ≡ alone c.row (c.number *ℤ f) i +ℤ number_of cs i *ℤ f
multiple-first c cs f i =
    let sum = add-mul_ℤ (alone c.row c.number i) (number_of cs i) f in
    let one = alone-times c.row c.number f i in
    omega (arith, ints, sum, one)

-- the sum of two numbers in a row is the sum of the numbers there
pub alone-add : (r : ℕ) (y z : ℤ) (i : ℕ) → alone r (y +ℤ z) i ≡ alone r y i +ℤ alone r z i
alone-add r y z i = go (nat_eq r i)
  where
    go : (b : Bool) → (if b then y +ℤ z else pos 0) ≡ (if b then y else pos 0) +ℤ (if b then z else pos 0)
    go true = refl
    go false = refl

-- after a multiple of the first number is put, what is put plus the multiple of the others is what was put plus the
-- multiple of all
pub multiple-put : (w w' y : ℤ) (c : Cell) (cs : List Cell) (f : ℤ) (i : ℕ) → w' ≡ w +ℤ alone c.row (c.number *ℤ f) i
    → w' +ℤ (number_of cs i *ℤ f +ℤ y) ≡ w +ℤ (number_of (c ∷ cs) i *ℤ f +ℤ y)
multiple-put w w' y c cs f i e = let first = multiple-first c cs f i in omega (arith, ints, first)

-- after the sum of the multiples of the first numbers of two lists, in the same row, is put, the total is unchanged,
-- too
pub sum-put : (w w' p : ℤ) (a b : Cell) (xs ys : List Cell) (f g : ℤ) (i : ℕ) → a.row ≡ b.row → p ≡ a.number *ℤ f +ℤ b.number *ℤ g → w' ≡ w +ℤ alone a.row p i
    → w' +ℤ (number_of xs i *ℤ f +ℤ number_of ys i *ℤ g) ≡ w +ℤ (number_of (a ∷ xs) i *ℤ f +ℤ number_of (b ∷ ys) i *ℤ g)
sum-put w w' p a b xs ys f g i same is e =
    let first = multiple-first a xs f i in
    let second = multiple-first b ys g i in
    let both = ap (λ (z : ℤ). alone a.row z i) is ∙ alone-add a.row (a.number *ℤ f) (b.number *ℤ g) i in
    let moved : alone a.row (b.number *ℤ g) i ≡ alone b.row (b.number *ℤ g) i = ap (λ (r : ℕ). alone r (b.number *ℤ g) i) same in
    omega (arith, ints, first, second, both, moved)

-- after a quotient is put, what is put times the divisor plus the remaining numbers is what it was before
pub quotient-put : (n n' rest : ℤ) (r : ℕ) (q d v : ℤ) (i : ℕ) → n' ≡ n +ℤ alone r q i → q *ℤ d ≡ v
    → n' *ℤ d +ℤ rest ≡ n *ℤ d +ℤ (alone r v i +ℤ rest)
quotient-put n n' rest r q d v i put exact =
    let times = ap (λ (z : ℤ). z *ℤ d) put ∙ add-mul_ℤ n (alone r q i) d in
    let one = sym (alone-times r q d i) ∙ ap (λ (z : ℤ). alone r z i) exact in
    omega (arith, ints, times, one)
