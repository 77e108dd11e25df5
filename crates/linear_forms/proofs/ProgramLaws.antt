-- Linear programs that agree, and points, prices and duals over other denominators.
use Rattle.std.proofs.Common.{◌≡◌, ℕ, ◌<◌, ap, arith, refl, sym, ◌∙◌, subst, [], ◌∷◌}
use Rattle.std.specs.Prelude.{ℤ, pos, negsuc, ◌+ℤ◌, ◌*ℤ◌, ◌≤ℤ◌, ◌<ℤ◌}
use Rattle.std.proofs.lemmas.Int.{ints}
use Rattle.int_laws.specs.Sums.{dot}
use Rattle.int_laws.specs.Polynomial.{variable, constant, ◌⊗◌}
use Rattle.int_laws.proofs.Identities.{identity, identity_by_one}
use Rattle.int_laws.proofs.RingLaws.{mul_comm_ℤ, mul_assoc_ℤ}
use Rattle.int_laws.proofs.OrderLaws.{mul-nonneg_ℤ, mul-le-mul_ℤ, le-of-mul_ℤ, mul-positive_ℤ, lt-of-mul_ℤ}
use Rattle.int_laws.proofs.OrderLaws.{mul-cancel_ℤ}
use Rattle.int_laws.proofs.SumLaws.{sum_to-same}
use Rattle.int_laws.proofs.DotLaws.{dot-scaled_behind}
use Rattle.linear_forms.specs.LinearProgram.{LinearProgram, IsSolution, ArePrices, HasPrices, IsLeast, IsDual}
use Rattle.linear_forms.specs.ProgramLaws.{Agree, AreSame}

-- dot products of equal numbers are equal
dot-same : (n : ℕ) (a b c d : ℕ → ℤ) → ((j : ℕ) → j < n → a j ≡ c j) → ((j : ℕ) → j < n → b j ≡ d j) → dot n a b ≡ dot n c d
dot-same n a b c d h k =
    sum_to-same n (λ j. a j *ℤ b j) (λ j. c j *ℤ d j) (λ j l. ap (λ (z : ℤ). z *ℤ b j) (h j l) ∙ ap (λ (z : ℤ). c j *ℤ z) (k j l))

-- agreement is symmetric
pub agree-symmetric : (p q : LinearProgram) → Agree p q → Agree q p
agree-symmetric p q a = record {
  rows = sym a.rows;
  columns = sym a.columns;
  entry = λ i j l m. sym (a.entry i j (omega (arith, l, a.rows)) (omega (arith, m, a.columns)));
  right = λ i l. sym (a.right i (omega (arith, l, a.rows)));
  first = λ j l. sym (a.first j (omega (arith, l, a.columns)));
  second = λ j l. sym (a.second j (omega (arith, l, a.columns)));
}

-- the products of prices with a column are equal
priced-same : (p q : LinearProgram) (y : ℕ → ℤ) (j : ℕ) → Agree p q → j < p.columns → dot p.rows y (λ i. p.entry i j) ≡ dot q.rows y (λ i. q.entry i j)
priced-same p q y j a m = dot-same p.rows y (λ i. p.entry i j) y (λ i. q.entry i j) (λ i _. refl) (λ i l. a.entry i j l m) ∙ ap (λ (n : ℕ). dot n y (λ i. q.entry i j)) a.rows

-- the products of prices with the right sides are equal
right-same : (p q : LinearProgram) (y : ℕ → ℤ) → Agree p q → dot p.rows y p.right ≡ dot q.rows y q.right
right-same p q y a = dot-same p.rows y p.right y q.right (λ i _. refl) a.right ∙ ap (λ (n : ℕ). dot n y q.right) a.rows

-- the costs of a point are equal
cost-same : (n m : ℕ) (c d x : ℕ → ℤ) → n ≡ m → ((j : ℕ) → j < n → c j ≡ d j) → dot n c x ≡ dot m d x
cost-same n m c d x e h = dot-same n c x d x h (λ j _. refl) ∙ ap (λ (k : ℕ). dot k d x) e

-- programs that agree have the same solutions
pub agree-solutions : (p q : LinearProgram) (x : ℕ → ℤ) (d : ℤ) → Agree p q → IsSolution p x d → IsSolution q x d
agree-solutions p q x d a s = record {
  denominator = s.denominator;
  equations = λ i l. let m : i < p.rows = omega (arith, l, a.rows) in
      sym (cost-same p.columns q.columns (p.entry i) (q.entry i) x a.columns (λ j k. a.entry i j m k)) ∙ (s.equations i m ∙ ap (λ (z : ℤ). z *ℤ d) (a.right i m));
  nonnegative = λ j l. s.nonnegative j (omega (arith, l, a.columns));
}

-- programs that agree have the same prices, for costs that agree
agree-prices : (p q : LinearProgram) (c e x : ℕ → ℤ) (d : ℤ) → Agree p q → ((j : ℕ) → j < p.columns → c j ≡ e j) → HasPrices p c x d → HasPrices q e x d
agree-prices p q c e x d a same h = record {
  q = h.q;
  price = h.price;
  are_prices = record {
    denominator = h.are_prices.denominator;
    columns = λ j l. let m : j < p.columns = omega (arith, l, a.columns) in
        at_most _ _ _ _ (sym (priced-same p q h.price j a m)) (ap (λ (z : ℤ). h.q *ℤ z) (same j m)) (h.are_prices.columns j m);
    exact = ap (λ (z : ℤ). z *ℤ d) (sym (right-same p q h.price a)) ∙ (h.are_prices.exact ∙ ap (λ (z : ℤ). h.q *ℤ z) (cost-same p.columns q.columns c e x a.columns same));
  };
}
  where
    at_most : (v w y z : ℤ) → v ≡ w → y ≡ z → w ≤ℤ y → v ≤ℤ z
    at_most v w y z e f l = omega (arith, ints)

-- programs that agree have the same points of least cost
pub agree-least : (p q : LinearProgram) (x : ℕ → ℤ) (d : ℤ) → Agree p q → IsLeast p x d → IsLeast q x d
agree-least p q x d a h = record {
  first = agree-prices p q p.first q.first x d a a.first h.first;
  multiple = h.multiple;
  second = agree-prices p q (λ j. p.second j +ℤ pos h.multiple *ℤ p.first j) (λ j. q.second j +ℤ pos h.multiple *ℤ q.first j) x d a
      (λ j l. ap (λ (z : ℤ). z +ℤ pos h.multiple *ℤ p.first j) (a.second j l) ∙ ap (λ (z : ℤ). q.second j +ℤ pos h.multiple *ℤ z) (a.first j l)) h.second;
}

-- programs that agree have the same duals
pub agree-duals : (p q : LinearProgram) (y : ℕ → ℤ) → Agree p q → IsDual p y → IsDual q y
agree-duals p q y a h = record {
  columns = λ j l. let m : j < p.columns = omega (arith, l, a.columns) in subst (λ (z : ℤ). z ≤ℤ pos 0) (priced-same p q y j a m) (h.columns j m);
  right = subst (λ (z : ℤ). pos 0 <ℤ z) (right-same p q y a) h.right;
}

-- dot products with the same numbers over two denominators agree by cross products
dot-over : (n : ℕ) (a x : ℕ → ℤ) (d : ℤ) (y : ℕ → ℤ) (e : ℤ) → ((j : ℕ) → j < n → x j *ℤ e ≡ y j *ℤ d) → dot n a x *ℤ e ≡ dot n a y *ℤ d
dot-over n a x d y e h =
    sym (dot-scaled_behind n a x e) ∙ (sum_to-same n (λ j. a j *ℤ (x j *ℤ e)) (λ j. a j *ℤ (y j *ℤ d)) (λ j l. ap (λ (z : ℤ). a j *ℤ z) (h j l)) ∙ dot-scaled_behind n a y d)

-- such dot products agree with the numbers as the left factor
over-dot : (n : ℕ) (a x : ℕ → ℤ) (d : ℤ) (y : ℕ → ℤ) (e : ℤ) → ((j : ℕ) → j < n → x j *ℤ e ≡ y j *ℤ d) → dot n x a *ℤ e ≡ dot n y a *ℤ d
over-dot n a x d y e h = ap (λ (z : ℤ). z *ℤ e) (turned x) ∙ (dot-over n a x d y e h ∙ ap (λ (z : ℤ). z *ℤ d) (sym (turned y)))
  where
    turned : (v : ℕ → ℤ) → dot n v a ≡ dot n a v
    turned v = sum_to-same n (λ j. v j *ℤ a j) (λ j. a j *ℤ v j) (λ j _. mul_comm_ℤ (v j) (a j))

-- an integer above 0 is at least 0
at_least : (z : ℤ) → pos 0 <ℤ z → pos 0 ≤ℤ z
at_least z l = omega (arith, ints)

-- a solution over one denominator is a solution over another
pub scaled-solution : (p : LinearProgram) (x : ℕ → ℤ) (d : ℤ) (y : ℕ → ℤ) (e : ℤ) → AreSame p.columns x d y e → IsSolution p x d → IsSolution p y e
scaled-solution p x d y e same s = record {
  denominator = same.other;
  equations = λ i l. equation (dot p.columns (p.entry i) x) (dot p.columns (p.entry i) y) (p.right i) (s.equations i l) (dot-over p.columns (p.entry i) x d y e same.each);
  nonnegative = λ j l. nonneg (x j) (y j) (same.each j l) (s.nonnegative j l);
}
  where
    equation : (a b r : ℤ) → a ≡ r *ℤ d → a *ℤ e ≡ b *ℤ d → b ≡ r *ℤ e
    equation a b r f g = mul-cancel_ℤ d b (r *ℤ e) same.denominator
        (identity_by_one (b ∷ d ∷ a ∷ e ∷ []) (variable 1 ⊗ variable 0) (variable 2 ⊗ variable 3) (constant (negsuc 0)) (variable 2 ⊗ variable 3) (variable 0 ⊗ variable 1) g refl
        ∙ (ap (λ (z : ℤ). z *ℤ e) f ∙ identity (r ∷ d ∷ e ∷ []) ((variable 0 ⊗ variable 1) ⊗ variable 2) (variable 1 ⊗ (variable 0 ⊗ variable 2)) refl))

    from_equal : (a b : ℤ) → a ≡ b → pos 0 ≤ℤ a → pos 0 ≤ℤ b
    from_equal a b f l = omega (arith, ints)

    zero_times : (d : ℤ) → d *ℤ pos 0 ≡ pos 0
    zero_times d = omega (arith, ints)

    nonneg : (a b : ℤ) → a *ℤ e ≡ b *ℤ d → pos 0 ≤ℤ a → pos 0 ≤ℤ b
    nonneg a b f l = le-of-mul_ℤ d (pos 0) b same.denominator
        (lower (d *ℤ pos 0) (a *ℤ e) (d *ℤ b) (zero_times d) (f ∙ mul_comm_ℤ b d) (mul-nonneg_ℤ a e l (at_least e same.other)))
      where
        lower : (z a b : ℤ) → z ≡ pos 0 → a ≡ b → pos 0 ≤ℤ a → z ≤ℤ b
        lower z a b f g l = omega (arith, ints)

-- prices for a point are prices for it over another denominator
pub scaled-point : (p : LinearProgram) (cost x : ℕ → ℤ) (d : ℤ) (y : ℕ → ℤ) (e q : ℤ) (price : ℕ → ℤ) → AreSame p.columns x d y e
    → ArePrices p cost x d q price → ArePrices p cost y e q price
scaled-point p cost x d y e q price same h = record {
  denominator = h.denominator;
  columns = h.columns;
  exact = exact (dot p.rows price p.right) (dot p.columns cost x) (dot p.columns cost y) h.exact (dot-over p.columns cost x d y e same.each);
}
  where
    exact : (r a b : ℤ) → r *ℤ d ≡ q *ℤ a → a *ℤ e ≡ b *ℤ d → r *ℤ e ≡ q *ℤ b
    exact r a b f g = mul-cancel_ℤ d (r *ℤ e) (q *ℤ b) same.denominator
        (identity (d ∷ r ∷ e ∷ []) (variable 0 ⊗ (variable 1 ⊗ variable 2)) ((variable 1 ⊗ variable 0) ⊗ variable 2) refl
        ∙ (ap (λ (z : ℤ). z *ℤ e) f
        ∙ (mul_assoc_ℤ q a e ∙ (ap (λ (z : ℤ). q *ℤ z) g ∙ identity (q ∷ b ∷ d ∷ []) (variable 0 ⊗ (variable 1 ⊗ variable 2)) (variable 2 ⊗ (variable 0 ⊗ variable 1)) refl))))

-- prices over one denominator are prices over another
pub scaled-prices : (p : LinearProgram) (cost x : ℕ → ℤ) (d q : ℤ) (price : ℕ → ℤ) (s : ℤ) (scaled : ℕ → ℤ) → AreSame p.rows price q scaled s
    → ArePrices p cost x d q price → ArePrices p cost x d s scaled
scaled-prices p cost x d q price s scaled same h = record {
  denominator = same.other;
  columns = λ j l. column (dot p.rows price (λ i. p.entry i j)) (dot p.rows scaled (λ i. p.entry i j)) (cost j) (over-dot p.rows (λ i. p.entry i j) price q scaled s same.each) (h.columns j l);
  exact = exact (dot p.rows price p.right) (dot p.rows scaled p.right) (dot p.columns cost x) (over-dot p.rows p.right price q scaled s same.each) h.exact;
}
  where
    column : (a b c : ℤ) → a *ℤ s ≡ b *ℤ q → a ≤ℤ (q *ℤ c) → b ≤ℤ (s *ℤ c)
    column a b c f l = le-of-mul_ℤ q b (s *ℤ c) same.denominator
        (between (q *ℤ b) (s *ℤ a) (s *ℤ (q *ℤ c)) (q *ℤ (s *ℤ c)) (mul_comm_ℤ q b ∙ (sym f ∙ mul_comm_ℤ a s))
        (identity (s ∷ q ∷ c ∷ []) (variable 0 ⊗ (variable 1 ⊗ variable 2)) (variable 1 ⊗ (variable 0 ⊗ variable 2)) refl)
        (mul-le-mul_ℤ s a (q *ℤ c) (at_least s same.other) l))
      where
        between : (v w y z : ℤ) → v ≡ w → y ≡ z → w ≤ℤ y → v ≤ℤ z
        between v w y z f g l = omega (arith, ints)

    exact : (a b c : ℤ) → a *ℤ s ≡ b *ℤ q → a *ℤ d ≡ q *ℤ c → b *ℤ d ≡ s *ℤ c
    exact a b c f g = mul-cancel_ℤ q (b *ℤ d) (s *ℤ c) same.denominator
        (identity (q ∷ b ∷ d ∷ []) (variable 0 ⊗ (variable 1 ⊗ variable 2)) ((variable 1 ⊗ variable 0) ⊗ variable 2) refl
        ∙ (ap (λ (z : ℤ). z *ℤ d) (sym f)
        ∙ (identity (a ∷ s ∷ d ∷ []) ((variable 0 ⊗ variable 1) ⊗ variable 2) (variable 1 ⊗ (variable 0 ⊗ variable 2)) refl
        ∙ (ap (λ (z : ℤ). s *ℤ z) g ∙ identity (s ∷ q ∷ c ∷ []) (variable 0 ⊗ (variable 1 ⊗ variable 2)) (variable 1 ⊗ (variable 0 ⊗ variable 2)) refl))))

-- a point of least cost over one denominator is one over another
pub scaled-least : (p : LinearProgram) (x : ℕ → ℤ) (d : ℤ) (y : ℕ → ℤ) (e : ℤ) → AreSame p.columns x d y e → IsLeast p x d → IsLeast p y e
scaled-least p x d y e same h = record {
  first = record { q = h.first.q; price = h.first.price; are_prices = scaled-point p p.first x d y e h.first.q h.first.price same h.first.are_prices };
  multiple = h.multiple;
  second = record {
    q = h.second.q;
    price = h.second.price;
    are_prices = scaled-point p (λ j. p.second j +ℤ pos h.multiple *ℤ p.first j) x d y e h.second.q h.second.price same h.second.are_prices;
  };
}

-- a dual over one denominator is a dual over another
pub scaled-dual : (p : LinearProgram) (x : ℕ → ℤ) (d : ℤ) (y : ℕ → ℤ) (e : ℤ) → AreSame p.rows x d y e → IsDual p x → IsDual p y
scaled-dual p x d y e same h = record {
  columns = λ j l. column (dot p.rows x (λ i. p.entry i j)) (dot p.rows y (λ i. p.entry i j)) (over-dot p.rows (λ i. p.entry i j) x d y e same.each) (h.columns j l);
  right = right (dot p.rows x p.right) (dot p.rows y p.right) (over-dot p.rows p.right x d y e same.each) h.right;
}
  where
    zero_times : (d : ℤ) → d *ℤ pos 0 ≡ pos 0
    zero_times d = omega (arith, ints)

    column : (a b : ℤ) → a *ℤ e ≡ b *ℤ d → a ≤ℤ pos 0 → b ≤ℤ pos 0
    column a b f l = le-of-mul_ℤ d b (pos 0) same.denominator
        (between _ _ _ _ (mul_comm_ℤ d b ∙ (sym f ∙ mul_comm_ℤ a e)) (zero_times e) (zero_times d) (mul-le-mul_ℤ e a (pos 0) (at_least e same.other) l))
      where
        between : (v w y z : ℤ) → v ≡ w → y ≡ pos 0 → z ≡ pos 0 → w ≤ℤ y → v ≤ℤ z
        between v w y z f g h l = omega (arith, ints)

    right : (a b : ℤ) → a *ℤ e ≡ b *ℤ d → pos 0 <ℤ a → pos 0 <ℤ b
    right a b f l = lt-of-mul_ℤ d (pos 0) b same.denominator
        (between (d *ℤ pos 0) (a *ℤ e) (d *ℤ b) (zero_times d) (f ∙ mul_comm_ℤ b d) (mul-positive_ℤ a e l same.other))
      where
        between : (v w z : ℤ) → v ≡ pos 0 → w ≡ z → pos 0 <ℤ w → v <ℤ z
        between v w z f g l = omega (arith, ints)
