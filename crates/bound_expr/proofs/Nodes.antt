-- Facts of each node of a bound, and what a substitution keeps of them.
use Rattle.std.proofs.Common.{◌≡◌, ℕ, zero, suc, List, [], ◌∷◌, slice_index_or, sym, subst, arith}
use Rattle.model.specs.Bounds.{Bound, Constant, Input, SumOf, ProductOf, MaximumOf, PowerOf, Parts, NoParts, Part}
use Rattle.model.specs.Bounds.{EachNode, EachNodeOfAll, IsBasedFrom, IsBased}
use Rattle.bound_expr.specs.Views.{parts_of}
use Rattle.bound_expr.specs.Numbers.{IsSmallConstant, IsTidyNumber, HasTidyNumbers, IsInputBelow}
use Rattle.bound_expr.specs.Tidy.{IsTidyNode, IsTidy}
use Rattle.bound_expr.specs.Substitution.{substituted, all_substituted, SubstitutionKeeps}

-- weakening: a property of each node, if another one implies it at every node
mutual
  -- a property that another one implies at every node holds of all nodes of a bound that have the other
  pub EachNode-weaker : (P Q : Bound → Type 0) → ((b : Bound) → P b → Q b) → (b : Bound) → EachNode P b → EachNode Q b
  EachNode-weaker P Q step (Constant c) each = step (Constant c) each
  EachNode-weaker P Q step (Input i) each = step (Input i) each
  EachNode-weaker P Q step (SumOf bs) each = (step (SumOf bs) each.0, EachNodeOfAll-weaker P Q step bs each.1)
  EachNode-weaker P Q step (ProductOf bs) each = (step (ProductOf bs) each.0, EachNodeOfAll-weaker P Q step bs each.1)
  EachNode-weaker P Q step (MaximumOf bs) each = (step (MaximumOf bs) each.0, EachNodeOfAll-weaker P Q step bs each.1)
  EachNode-weaker P Q step (PowerOf c e) each = (step (PowerOf c e) each.0, EachNode-weaker P Q step e each.1)

  -- a property that another one implies at every node holds of all nodes of several bounds that have the other
  pub EachNodeOfAll-weaker : (P Q : Bound → Type 0) → ((b : Bound) → P b → Q b) → (bs : Parts) → EachNodeOfAll P bs
      → EachNodeOfAll Q bs
  EachNodeOfAll-weaker P Q step NoParts each = tt
  EachNodeOfAll-weaker P Q step (Part b bs) each =
      (EachNode-weaker P Q step b each.0, EachNodeOfAll-weaker P Q step bs each.1)

-- a tidy node has tidy numbers
tidy_node-numbers : (b : Bound) → IsTidyNode b → IsTidyNumber b
tidy_node-numbers (Constant c) tidy = tidy
tidy_node-numbers (Input i) tidy = tt
tidy_node-numbers (SumOf bs) tidy = tt
tidy_node-numbers (ProductOf bs) tidy = tt
tidy_node-numbers (MaximumOf bs) tidy = tt
tidy_node-numbers (PowerOf c e) tidy = tidy

-- a tidy bound has tidy bases and constants
pub IsTidy-numbers : (b : Bound) → IsTidy b → HasTidyNumbers b
IsTidy-numbers b tidy = EachNode-weaker IsTidyNode IsTidyNumber tidy_node-numbers b tidy

-- bases of at least 2 are at least 1
tidy_number-based : (b : Bound) → IsTidyNumber b → IsBasedFrom 1 b
tidy_number-based (Constant c) tidy = tt
tidy_number-based (Input i) tidy = tt
tidy_number-based (SumOf bs) tidy = tt
tidy_number-based (ProductOf bs) tidy = tt
tidy_number-based (MaximumOf bs) tidy = tt
tidy_number-based (PowerOf c e) tidy = omega (arith, tidy)

-- a bound with tidy numbers has bases of at least 1
pub HasTidyNumbers-based : (b : Bound) → HasTidyNumbers b → IsBased b
HasTidyNumbers-based b has = EachNode-weaker IsTidyNumber (IsBasedFrom 1) tidy_number-based b has

-- a fact of the numbers of a node: it says nothing of a sum, product or maximum, and of a power only which base it has
pub record IsOfNumbers (P : Bound → Type 0) : Type 0 where
  pub zero : P (Constant 0)
  pub sum : (bs : Parts) → P (SumOf bs)
  pub product : (bs : Parts) → P (ProductOf bs)
  pub maximum : (bs : Parts) → P (MaximumOf bs)
  pub power : (c : ℕ) (e f : Bound) → P (PowerOf c e) → P (PowerOf c f)

-- if a property holds of each node of all sizes, it holds of each node of the size that replaces an input
EachNode-size : (Q : Bound → Type 0) → IsOfNumbers Q → (sizes : List Bound) → EachNodeOfAll Q (parts_of sizes) → (i : ℕ)
    → EachNode Q (slice_index_or sizes i (Constant 0))
EachNode-size Q of [] each i = of.zero
EachNode-size Q of (s ∷ sizes) each zero = each.0
EachNode-size Q of (s ∷ sizes) each (suc i) = EachNode-size Q of sizes each.1 i

-- a property of the constants and powers of a bound and of each node of the sizes is one of each node of the
-- substituted bound
module _ (P Q : Bound → Type 0) (of : IsOfNumbers Q) (constant : (c : ℕ) → P (Constant c) → Q (Constant c))
    (power : (c : ℕ) (e : Bound) → P (PowerOf c e) → Q (PowerOf c e)) (sizes : List Bound)
    (each : EachNodeOfAll Q (parts_of sizes)) where
  mutual
    pub EachNode-substituted : (b : Bound) → EachNode P b → EachNode Q (substituted b sizes)
    EachNode-substituted (Constant c) has = constant c has
    EachNode-substituted (Input i) has = EachNode-size Q of sizes each i
    EachNode-substituted (SumOf bs) has = (of.sum (all_substituted bs sizes), EachNodeOfAll-substituted bs has.1)
    EachNode-substituted (ProductOf bs) has =
        (of.product (all_substituted bs sizes), EachNodeOfAll-substituted bs has.1)
    EachNode-substituted (MaximumOf bs) has =
        (of.maximum (all_substituted bs sizes), EachNodeOfAll-substituted bs has.1)
    EachNode-substituted (PowerOf c e) has =
        (of.power c e (substituted e sizes) (power c e has.0), EachNode-substituted e has.1)

    pub EachNodeOfAll-substituted : (bs : Parts) → EachNodeOfAll P bs → EachNodeOfAll Q (all_substituted bs sizes)
    EachNodeOfAll-substituted NoParts has = tt
    EachNodeOfAll-substituted (Part b bs) has = (EachNode-substituted b has.0, EachNodeOfAll-substituted bs has.1)

-- that bases are at least n is a property of numbers
pub bases-of_numbers : (n : ℕ) → IsOfNumbers (IsBasedFrom n)
bases-of_numbers n =
    record { zero = tt; sum = λ bs. tt; product = λ bs. tt; maximum = λ bs. tt; power = λ c e f has. has }

-- that constants are small is a property of numbers
pub constants-of_numbers : IsOfNumbers IsSmallConstant
constants-of_numbers =
    record { zero = omega arith; sum = λ bs. tt; product = λ bs. tt; maximum = λ bs. tt; power = λ c e f has. has }

-- that numbers are tidy is a property of numbers
pub tidy-of_numbers : IsOfNumbers IsTidyNumber
tidy-of_numbers =
    record { zero = omega arith; sum = λ bs. tt; product = λ bs. tt; maximum = λ bs. tt; power = λ c e f has. has }

-- that inputs are among the first n is a property of numbers
pub inputs-of_numbers : (n : ℕ) → IsOfNumbers (IsInputBelow n)
inputs-of_numbers n =
    record { zero = tt; sum = λ bs. tt; product = λ bs. tt; maximum = λ bs. tt; power = λ c e f has. has }

-- the property that every node has
abbrev pub IsAny : Bound → Type 0
IsAny b = Unit {0}

-- the property that every bound has, at each node
mutual
  -- each node of a bound has the property that every bound has
  pub EachNode-any : (b : Bound) → EachNode IsAny b
  EachNode-any (Constant c) = tt
  EachNode-any (Input i) = tt
  EachNode-any (SumOf bs) = (tt, EachNodeOfAll-any bs)
  EachNode-any (ProductOf bs) = (tt, EachNodeOfAll-any bs)
  EachNode-any (MaximumOf bs) = (tt, EachNodeOfAll-any bs)
  EachNode-any (PowerOf c e) = (tt, EachNode-any e)

  EachNodeOfAll-any : (bs : Parts) → EachNodeOfAll IsAny bs
  EachNodeOfAll-any NoParts = tt
  EachNodeOfAll-any (Part b bs) = (EachNode-any b, EachNodeOfAll-any bs)

-- a substitution keeps the properties of the numbers (bases, constants and inputs)
substituted-keeps : (b : Bound) (sizes : List Bound) → SubstitutionKeeps b sizes (substituted b sizes)
substituted-keeps b sizes = record {
  bases = λ n has each.
      EachNode-substituted (IsBasedFrom n) (IsBasedFrom n) (bases-of_numbers n) (λ c h. h) (λ c e h. h) sizes each b
      has;
  constants = λ has each.
      EachNode-substituted IsSmallConstant IsSmallConstant constants-of_numbers (λ c h. h) (λ c e h. h) sizes each b
      has;
  numbers = λ has each.
      EachNode-substituted IsTidyNumber IsTidyNumber tidy-of_numbers (λ c h. h) (λ c e h. h) sizes each b has;
  reads = λ n each.
      EachNode-substituted IsAny (IsInputBelow n) (inputs-of_numbers n) (λ c h. tt) (λ c e h. tt) sizes each b
      (EachNode-any b);
}

-- a substitution keeps the properties of the numbers, for an outcome given by an equation
pub substitution_keeps : (b : Bound) (sizes : List Bound) (outcome : Bound) → outcome ≡ substituted b sizes
    → SubstitutionKeeps b sizes outcome
substitution_keeps b sizes outcome e = subst (SubstitutionKeeps b sizes) (sym e) (substituted-keeps b sizes)
