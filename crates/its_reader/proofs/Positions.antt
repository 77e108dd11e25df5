-- A name is in a list exactly if its position is below the list's length.
use Rattle.std.specs.Prelude.{◌≡◌, Bool, true, false, nat_lt, ◌||◌, List, [], ◌∷◌, length, refl}
use Rattle.std.proofs.Common.{arith}
use Rattle.std.proofs.lemmas.Bool.Decides.{nat_tests}
use Rattle.model.specs.Programs.{Name}
use Rattle.text_core.specs.Names.{is_same, is_among, position_of}

-- the position of a name is below the number of names exactly if it is among them
pub below_is : (n : Name) (names : List Name) → nat_lt (position_of n names) (length names) ≡ is_among n names
below_is n [] = refl
below_is n (m ∷ names) = go (is_same n m) refl (below_is n names)
  where
    go : (v : Bool) → is_same n m ≡ v → nat_lt (position_of n names) (length names) ≡ is_among n names
        → nat_lt (position_of n (m ∷ names)) (length (m ∷ names)) ≡ v || is_among n names
    go true e ih = rw e (grind (arith, nat_tests))
    go false e ih = rw e (grind (arith, nat_tests, ih))
