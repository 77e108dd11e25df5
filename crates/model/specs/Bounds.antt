-- Bounds: expressions over the absolute values of the start arguments, and their value.
use Rattle.std.specs.Prelude.{ℕ, ◌+◌, ◌*◌, ◌^◌, ◌≤◌, max, List, slice_index, ⊤}

-- a bound, and the list of a bound's parts
mutual
  pub data Bound : Type 0 where
    Constant : ℕ → Bound
    Input : ℕ → Bound
    SumOf : Parts → Bound
    ProductOf : Parts → Bound
    MaximumOf : Parts → Bound
    PowerOf : ℕ → Bound → Bound

  pub data Parts : Type 0 where
    NoParts : Parts
    Part : Bound → Parts → Parts

-- the value of a bound if start argument i has the absolute value m[i]; an empty sum or maximum is 0, an empty product
-- is 1, and a power with exponent 0 is 1
abbrev mutual
  pub val : Bound → List ℕ → ℕ
  val (Constant c) m = c
  val (Input i) m = slice_index m i
  val (SumOf bs) m = val_sum bs m
  val (ProductOf bs) m = val_product bs m
  val (MaximumOf bs) m = val_maximum bs m
  val (PowerOf c e) m = c ^ val e m

  pub val_sum : Parts → List ℕ → ℕ
  val_sum NoParts m = 0
  val_sum (Part b bs) m = val b m + val_sum bs m

  pub val_product : Parts → List ℕ → ℕ
  val_product NoParts m = 1
  val_product (Part b bs) m = val b m * val_product bs m

  pub val_maximum : Parts → List ℕ → ℕ
  val_maximum NoParts m = 0
  val_maximum (Part b bs) m = max (val b m) (val_maximum bs m)

-- a property holds of each node of a bound: of the bound itself, and of each node of its parts or of its exponent
abbrev mutual
  pub EachNode : (Bound → Type 0) → Bound → Type 0
  EachNode P (Constant c) = P (Constant c)
  EachNode P (Input i) = P (Input i)
  EachNode P (SumOf bs) = P (SumOf bs) × EachNodeOfAll P bs
  EachNode P (ProductOf bs) = P (ProductOf bs) × EachNodeOfAll P bs
  EachNode P (MaximumOf bs) = P (MaximumOf bs) × EachNodeOfAll P bs
  EachNode P (PowerOf c e) = P (PowerOf c e) × EachNode P e

  pub EachNodeOfAll : (Bound → Type 0) → Parts → Type 0
  EachNodeOfAll P NoParts = ⊤
  EachNodeOfAll P (Part b bs) = EachNode P b × EachNodeOfAll P bs

-- if the bound is a power, its base is at least n
abbrev pub IsBasedFrom : ℕ → Bound → Type 0
IsBasedFrom n (PowerOf c e) = n ≤ c
IsBasedFrom n _ = ⊤

-- every base of a power in the bound is at least 1
abbrev pub IsBased : Bound → Type 0
IsBased b = EachNode (IsBasedFrom 1) b

-- every base of a power in the parts is at least 1
abbrev pub AreBased : Parts → Type 0
AreBased bs = EachNodeOfAll (IsBasedFrom 1) bs
