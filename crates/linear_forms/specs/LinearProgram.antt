-- Linear programs in equational form, their solutions, and the certificates of their answers.
use Rattle.std.specs.Prelude.{◌≡◌, ℕ, ◌<◌, ℤ, pos, ◌+ℤ◌, ◌*ℤ◌, ◌≤ℤ◌, ◌<ℤ◌}
use Rattle.int_laws.specs.Sums.{dot}

-- a linear program: unknowns of at least 0, one for each column; one equation for each row; and two lists of costs, of
-- which the first is compared before the second
pub record LinearProgram : Type 0 where
  pub rows : ℕ
  pub columns : ℕ
  pub entry : ℕ → ℕ → ℤ
  pub right : ℕ → ℤ
  pub first : ℕ → ℤ
  pub second : ℕ → ℤ

-- no cost is negative
pub record HasNonnegativeCosts (p : LinearProgram) : Type 0 where
  pub first : (j : ℕ) → j < p.columns → pos 0 ≤ℤ p.first j
  pub second : (j : ℕ) → j < p.columns → pos 0 ≤ℤ p.second j

-- the rational point with the numerators x over the denominator d solves the program
pub record IsSolution (p : LinearProgram) (x : ℕ → ℤ) (d : ℤ) : Type 0 where
  pub denominator : pos 0 <ℤ d
  pub equations : (i : ℕ) → i < p.rows → dot p.columns (p.entry i) x ≡ p.right i *ℤ d
  pub nonnegative : (j : ℕ) → j < p.columns → pos 0 ≤ℤ x j

-- prices, over the denominator q, which show that no solution costs less than x over d: they give each column at most
-- its cost, and the right sides exactly the cost of x
pub record ArePrices (p : LinearProgram) (cost x : ℕ → ℤ) (d q : ℤ) (price : ℕ → ℤ) : Type 0 where
  pub denominator : pos 0 <ℤ q
  pub columns : (j : ℕ) → j < p.columns → dot p.rows price (λ i. p.entry i j) ≤ℤ (q *ℤ cost j)
  pub exact : dot p.rows price p.right *ℤ d ≡ q *ℤ dot p.columns cost x

-- there are prices for these costs at x over d
pub record HasPrices (p : LinearProgram) (cost x : ℕ → ℤ) (d : ℤ) : Type 0 where
  pub q : ℤ
  pub price : ℕ → ℤ
  pub are_prices : ArePrices p cost x d q price

-- x over d has least cost, by the first costs and then by the second: there are prices for the first costs, and for the
-- second plus some multiple of the first
pub record IsLeast (p : LinearProgram) (x : ℕ → ℤ) (d : ℤ) : Type 0 where
  pub first : HasPrices p p.first x d
  pub multiple : ℕ
  pub second : HasPrices p (λ j. p.second j +ℤ pos multiple *ℤ p.first j) x d

-- a dual, which shows that there is no solution: it gives each column at most 0, and the right sides more than 0
pub record IsDual (p : LinearProgram) (dual : ℕ → ℤ) : Type 0 where
  pub columns : (j : ℕ) → j < p.columns → dot p.rows dual (λ i. p.entry i j) ≤ℤ pos 0
  pub right : pos 0 <ℤ dot p.rows dual p.right

-- a program has a solution
pub record HasSolution (p : LinearProgram) : Type 0 where
  pub x : ℕ → ℤ
  pub d : ℤ
  pub solution : IsSolution p x d

-- x over d costs at most what y over e costs, by cross products
abbrev pub CostsAtMost : ℕ → (ℕ → ℤ) → (ℕ → ℤ) → ℤ → (ℕ → ℤ) → ℤ → Type 0
CostsAtMost n cost x d y e = (dot n cost x *ℤ e) ≤ℤ (dot n cost y *ℤ d)

-- x over d costs as much as y over e, by cross products
abbrev pub CostsTheSame : ℕ → (ℕ → ℤ) → (ℕ → ℤ) → ℤ → (ℕ → ℤ) → ℤ → Type 0
CostsTheSame n cost x d y e = dot n cost x *ℤ e ≡ dot n cost y *ℤ d
