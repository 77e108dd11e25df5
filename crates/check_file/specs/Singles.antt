-- Lists that aren't a single fact.
use Rattle.std.specs.Prelude.{◌≡◌, List, [], ◌∷◌}
use Rattle.model.specs.Facts.{Fact}

-- the list isn't a single fact
pub record IsNoSingle (facts : List Fact) : Type 0 where
  pub none : (fact : Fact) → ¬ (facts ≡ fact ∷ [])
