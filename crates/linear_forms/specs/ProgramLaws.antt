-- Linear programs that agree, and points, prices and duals over other denominators.
use Rattle.std.specs.Prelude.{◌≡◌, ℕ, ◌<◌, ℤ, pos, ◌*ℤ◌, ◌<ℤ◌}
use Rattle.linear_forms.specs.LinearProgram.{LinearProgram, IsSolution, ArePrices, IsLeast, IsDual}

-- the programs have the same rows and columns, and the same numbers inside them
pub record Agree (p q : LinearProgram) : Type 0 where
  pub rows : p.rows ≡ q.rows
  pub columns : p.columns ≡ q.columns
  pub entry : (i j : ℕ) → i < p.rows → j < p.columns → p.entry i j ≡ q.entry i j
  pub right : (i : ℕ) → i < p.rows → p.right i ≡ q.right i
  pub first : (j : ℕ) → j < p.columns → p.first j ≡ q.first j
  pub second : (j : ℕ) → j < p.columns → p.second j ≡ q.second j

-- programs that agree have the same solutions, points of least cost and duals
pub record AgreeingProgramsAreTheSame : Type 0 where
  pub symmetric : (p q : LinearProgram) → Agree p q → Agree q p
  pub solutions : (p q : LinearProgram) (x : ℕ → ℤ) (d : ℤ) → Agree p q → IsSolution p x d → IsSolution q x d
  pub least : (p q : LinearProgram) (x : ℕ → ℤ) (d : ℤ) → Agree p q → IsLeast p x d → IsLeast q x d
  pub duals : (p q : LinearProgram) (y : ℕ → ℤ) → Agree p q → IsDual p y → IsDual q y

-- the first n numbers x over d are those of y over e
pub record AreSame (n : ℕ) (x : ℕ → ℤ) (d : ℤ) (y : ℕ → ℤ) (e : ℤ) : Type 0 where
  pub denominator : pos 0 <ℤ d
  pub other : pos 0 <ℤ e
  pub each : (j : ℕ) → j < n → x j *ℤ e ≡ y j *ℤ d

-- a solution, prices, a point of least cost and a dual remain such when numerators and denominator are scaled by a
-- positive number
pub record ScalesCarry : Type 0 where
  pub solutions : (p : LinearProgram) (x : ℕ → ℤ) (d : ℤ) (y : ℕ → ℤ) (e : ℤ) → AreSame p.columns x d y e
      → IsSolution p x d → IsSolution p y e
  pub points : (p : LinearProgram) (cost x : ℕ → ℤ) (d : ℤ) (y : ℕ → ℤ) (e q : ℤ) (price : ℕ → ℤ)
      → AreSame p.columns x d y e
      → ArePrices p cost x d q price → ArePrices p cost y e q price
  pub prices : (p : LinearProgram) (cost x : ℕ → ℤ) (d q : ℤ) (price : ℕ → ℤ) (s : ℤ) (scaled : ℕ → ℤ)
      → AreSame p.rows price q scaled s
      → ArePrices p cost x d q price → ArePrices p cost x d s scaled
  pub least : (p : LinearProgram) (x : ℕ → ℤ) (d : ℤ) (y : ℕ → ℤ) (e : ℤ) → AreSame p.columns x d y e → IsLeast p x d
      → IsLeast p y e
  pub duals : (p : LinearProgram) (x : ℕ → ℤ) (d : ℤ) (y : ℕ → ℤ) (e : ℤ) → AreSame p.rows x d y e → IsDual p x
      → IsDual p y
