-- The data of a program's rules for questions.
use Rattle.std.specs.Prelude.{ℕ, List, map}
use Rattle.cert_types.specs.cert_rules.Gaps.{SymbolPlace}
use Rattle.cert_types.specs.AnswerViews.{shut_of}
pub use Rattle.cert_types.specs.cert_program.RankedSets.{forms_of, forms_in, forms_at, is_entered, ranked_set}

-- places as pairs of a symbol and a place of it
abbrev pub places_of : List (ℕ × ℕ) → List SymbolPlace
places_of shut = map shut_of shut
