-- The set of a rule without a time, and which places a ranking function over it may use.
use Rattle.std.specs.Prelude.{◌≡◌, ◌⊎◌, ◌↔◌, ℕ, ◌<◌, true, List, [], ◌∷◌, Some, None, ⊤}
use Rattle.std.specs.List.{Contains}
use Rattle.rule_questions.specs.model.Programs.{Program}
use Rattle.rule_questions.specs.model.Paths.{IsInSet, target_of}
use Rattle.rule_questions.specs.model.Entries.{is_in, entries}
use Rattle.rule_questions.specs.cert_rules.Numbers.{IsAscending}
use Rattle.rule_questions.specs.cert_rules.Gaps.{SymbolPlace}
use Rattle.bound_fixpoint.specs.Keys.{Bounds, IsPlace, is_untimed}

-- the set of rule t, ascending: t itself, and each rule without a time from where a path of such rules leads to it
pub record IsSetOfRule (p : Program) (b : Bounds) (t : ℕ) (set : List ℕ) : Type 0 where
  pub ascending : IsAscending set
  pub members : (e : ℕ) → (is_in e set ≡ true) ↔ IsInSet p (is_untimed b) t e

-- a place of a symbol is shut for a set: some entry of the set leads to the symbol and has no size at the place
pub record IsShut (p : Program) (b : Bounds) (set : List ℕ) (s : SymbolPlace) : Type 0 where
  pub entry : ℕ
  pub enters : is_in entry (entries p set) ≡ true
  pub leads : target_of p entry ≡ Some s.symbol
  pub place : IsPlace p entry s.place
  pub missing : b entry s.place ≡ None

-- one place comes before another: its symbol is less, or it is the same and the place is less
abbrev pub PlaceIsBefore : SymbolPlace → SymbolPlace → Type 0
PlaceIsBefore s q = (s.symbol < q.symbol) ⊎ ((s.symbol ≡ q.symbol) × (s.place < q.place))

abbrev pub ArePlacesInOrder : List SymbolPlace → Type 0
ArePlacesInOrder [] = ⊤
ArePlacesInOrder (s ∷ []) = ⊤
ArePlacesInOrder (s ∷ q ∷ rest) = PlaceIsBefore s q × ArePlacesInOrder (q ∷ rest)

-- the shut places of a set, in order
pub record AreShutOf (p : Program) (b : Bounds) (set : List ℕ) (shut : List SymbolPlace) : Type 0 where
  pub order : ArePlacesInOrder shut
  pub places : (s : SymbolPlace) → Contains shut s ↔ IsShut p b set s
