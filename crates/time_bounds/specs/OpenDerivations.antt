-- Derivations whose keys are open one after the other.
use Rattle.std.specs.Prelude.{List, [], ◌∷◌, ◌++◌, ⊤}
use Rattle.model.specs.Programs.{Program}
use Rattle.bound_fixpoint.specs.Derivations.{Derivation}
use Rattle.bound_derivations.specs.Books.{AreOpen}

-- the keys of each derivation are open with the derivations before it
abbrev pub AreOpenAfter : Program → List Derivation → List Derivation → Type 0
AreOpenAfter p earlier [] = ⊤
AreOpenAfter p earlier (f ∷ fs) = AreOpen p earlier f.keys × AreOpenAfter p (earlier ++ f ∷ []) fs
