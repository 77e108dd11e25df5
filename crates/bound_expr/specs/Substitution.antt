-- Substitution of bounds for the inputs of a bound.
use Rattle.std.specs.Prelude.{◌≡◌, ℕ, List, slice_index_or, map}
use Rattle.model.specs.Bounds.{Bound, Constant, Input, SumOf, ProductOf, MaximumOf, PowerOf, Parts, NoParts, Part, val}
use Rattle.bound_expr.specs.Views.{parts_of}
use Rattle.bound_expr.specs.Numbers.{HasBasesFrom, HaveBasesFrom, HasSmallConstants, HaveSmallConstants}
use Rattle.bound_expr.specs.Numbers.{HasTidyNumbers, HaveTidyNumbers}
pub use Rattle.bound_expr.specs.Numbers.{ReadsBelow, AllReadBelow}

-- the bound with sizes[i] in place of input i
abbrev mutual
  pub substituted : Bound → List Bound → Bound
  substituted (Constant c) sizes = Constant c
  substituted (Input i) sizes = slice_index_or sizes i (Constant 0)
  substituted (SumOf bs) sizes = SumOf (all_substituted bs sizes)
  substituted (ProductOf bs) sizes = ProductOf (all_substituted bs sizes)
  substituted (MaximumOf bs) sizes = MaximumOf (all_substituted bs sizes)
  substituted (PowerOf c e) sizes = PowerOf c (substituted e sizes)

  pub all_substituted : Parts → List Bound → Parts
  all_substituted NoParts sizes = NoParts
  all_substituted (Part b bs) sizes = Part (substituted b sizes) (all_substituted bs sizes)

-- the values of bounds at m
abbrev pub values_of : List Bound → List ℕ → List ℕ
values_of sizes m = map (λ s. val s m) sizes

-- a substituted bound has, at every m, the value of the bound at the values of the sizes
pub record SubstitutesValues (b : Bound) (sizes : List Bound) (outcome : Bound) : Type 0 where
  pub each : (m : List ℕ) → val outcome m ≡ val b (values_of sizes m)

-- a property of the numbers of a bound and of the sizes holds of the substituted bound; its inputs are those of the
-- sizes
pub record SubstitutionKeeps (b : Bound) (sizes : List Bound) (outcome : Bound) : Type 0 where
  pub bases : (n : ℕ) → HasBasesFrom n b → HaveBasesFrom n (parts_of sizes) → HasBasesFrom n outcome
  pub constants : HasSmallConstants b → HaveSmallConstants (parts_of sizes) → HasSmallConstants outcome
  pub numbers : HasTidyNumbers b → HaveTidyNumbers (parts_of sizes) → HasTidyNumbers outcome
  pub reads : (n : ℕ) → AllReadBelow n (parts_of sizes) → ReadsBelow n outcome
