-- Values grow weakly with the inputs.
use Rattle.std.specs.Prelude.{ℕ, ◌≤◌, List, slice_index}
use Rattle.model.specs.Bounds.{Bound, val, IsBased}

-- no number of m is greater than the one at its place in n
abbrev pub IsBelow : List ℕ → List ℕ → Type 0
IsBelow m n = (i : ℕ) → slice_index m i ≤ slice_index n i

-- a bound whose bases are at least 1 has no greater value where no input is greater
pub record GrowsWithInputs : Type 0 where
  pub each : (b : Bound) → IsBased b → (m n : List ℕ) → IsBelow m n → val b m ≤ val b n
