-- The bounds derived for a program can be printed.
use Rattle.std.specs.Prelude.{◌≡◌, ℕ, List, [], ◌∷◌, length, Option, Some, None, ⊤}
use Rattle.model.specs.Programs.{Program}
use Rattle.model.specs.Bounds.{Bound}
use Rattle.its_model.specs.Valid.{IsValid}
use Rattle.bound_expr.specs.Numbers.{ReadsBelow}
use Rattle.bound_expr.specs.Tidy.{IsTidy}
use Rattle.cert_types.specs.cert_program.Setting.{setting_of}
use Rattle.cert_types.specs.cert_rules.AcceptsCosts.{stated_cost}
use Rattle.cert_types.specs.cert_rules.Nodes.{CostBy}
use Rattle.bound_fixpoint.specs.Keys.{Bounds, over}
use Rattle.bound_fixpoint.specs.Derivations.{Derivation, bounds_of}
use Rattle.bound_fixpoint.specs.Rounds.{IsMade}
use Rattle.cost_bounds.specs.CostOutcomes.{BoundedBy, IsCostOf}
use Rattle.time_bounds.specs.ProgramSearches.{searches_of_program}
use Rattle.time_bounds.specs.Totals.{total_of}

-- a bound is tidy, and its inputs are among the first n
abbrev pub IsPrintableBound : ℕ → Bound → Type 0
IsPrintableBound n b = IsTidy b × ReadsBelow n b

-- each bound that is known is printable
pub record ArePrintableBounds (n : ℕ) (b : Bounds) : Type 0 where
  pub each : (t i : ℕ) (x : Bound) → b t i ≡ Some x → IsPrintableBound n x

-- each bound of a list is printable, where there is one
abbrev pub ArePrintable : ℕ → List (Option Bound) → Type 0
ArePrintable n [] = ⊤
ArePrintable n (None ∷ os) = ArePrintable n os
ArePrintable n (Some b ∷ os) = IsPrintableBound n b × ArePrintable n os

-- of a valid program, all bounds that are known with derivations which rounds make are tidy, over the start arguments
-- alone; so is the bound on a cost over them, and the total of such bounds
pub record FoundBoundsArePrintable : Type 0 where
  pub derivations : (p : Program) (pivots : ℕ) (fs : List Derivation) → IsValid p
      → IsMade (searches_of_program p pivots) (setting_of p) fs
      → ArePrintableBounds (length p.start_names) (bounds_of p fs)
  pub costs : (p : Program) (pivots : ℕ) (fs : List Derivation) (t : ℕ) (by : CostBy) → IsValid p
      → IsMade (searches_of_program p pivots) (setting_of p) fs
      → IsCostOf p pivots (over (bounds_of p fs)) t (BoundedBy by)
      → IsPrintableBound (length p.start_names) (stated_cost (setting_of p) (over (bounds_of p fs)) t by)
  pub totals : (n : ℕ) (times : List (Option Bound)) (b : Bound) → ArePrintable n times → total_of times ≡ Some b
      → IsPrintableBound n b
