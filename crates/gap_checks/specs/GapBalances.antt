-- The sums of a symbol's places, and the flags of those that are shut.
use Rattle.std.specs.Prelude.{◌≡◌, ℕ, ◌+◌, ◌*◌, ◌<◌, ◌≤◌, ◌&&◌, ◌||◌, nat_eq, Bool, false, List, [], length}
use Rattle.std.specs.Prelude.{slice_index_or, ℤ, pos, ◌+ℤ◌, unsigned_abs}
use Rattle.farkas_cert.specs.model.Programs.{Program, arity_of}
use Rattle.its_model.specs.Views.{program_of}
use Rattle.cert_types.specs.Composing.{AreRowsOf}
use Rattle.cert_types.specs.cert_rules.GapChecks.{net}
use Rattle.cert_types.specs.cert_rules.Gaps.{Gap, SymbolPlace}
use Rattle.cert_types.specs.cert_program.RankedSets.{forms_at}
use Rattle.gap_checks.specs.declared.program_rules.Rules.{Rules}
use Rattle.gap_checks.specs.declared.touching.Touch.{Touch}
use Rattle.gap_checks.specs.GapTests.{coefficient_at, near_value_limit, AreShutFlags}
use Rattle.gap_checks.specs.Touches.{share_of}

-- the program of rules, as plain data
abbrev pub program : Rules → Program
program rules = program_of rules.program.now

-- the prepared rows are those of the program's rules
abbrev pub ArePrepared : Rules → Type 0
ArePrepared rules = AreRowsOf rules.prepared_rules.now (program rules)

-- the sum of a place
abbrev pub sum_at : List ℤ → ℕ → ℤ
sum_at sums place = slice_index_or sums place (pos 0)

-- a sum for place 0 and each place that a symbol may have, with at most this absolute value
pub record AreSums (sums : List ℤ) (limit : ℕ) : Type 0 where
  pub long : length sums ≡ 33
  pub size : (place : ℕ) → place < 33 → unsigned_abs (sum_at sums place) ≤ limit

-- the share of a touch in the balance of each place of its symbol was added
pub record AddsTouch (p : Program) (g : Gap) (touch : Touch) (old new : List ℤ) : Type 0 where
  pub long : length new ≡ length old
  pub each : (place : ℕ) → place < arity_of p touch.symbol + 1
      → sum_at new place
      ≡ sum_at old place +ℤ share_of (forms_at p) g.set g.moves (coefficient_at touch.symbol place) touch
  pub size : (place : ℕ) → place < length old
      → unsigned_abs (sum_at new place) ≤ unsigned_abs (sum_at old place) + near_value_limit

-- for place 0 and each place of a symbol: what leaves it by the moves, less what arrives there
pub record AreNets (p : Program) (g : Gap) (symbol : ℕ) (nets : List ℤ) : Type 0 where
  pub sums : AreSums nets (2000 * near_value_limit)
  pub each : (place : ℕ) → place < arity_of p symbol + 1
      → sum_at nets place ≡ net (forms_at p) (coefficient_at symbol place) g.set g.moves

-- the flags of the touch at a position
abbrev pub flags_at : List (List Bool) → ℕ → List Bool
flags_at rows k = slice_index_or rows k []

-- the touch at a position is the first of its symbol
abbrev pub IsFirstOfSymbol : List Touch → ℕ → Type 0
IsFirstOfSymbol touches k =
    (j : ℕ) (d e : Touch) → j < k → (slice_index_or touches j d).symbol < (slice_index_or touches k e).symbol

-- the flags at the first touch of each symbol say which of its places are shut
pub record AreShutRows (touches : List Touch) (shut : List SymbolPlace) (rows : List (List Bool)) : Type 0 where
  pub each : (k : ℕ) (d : Touch) → k < length touches → IsFirstOfSymbol touches k
      → AreShutFlags (flags_at rows k) shut (slice_index_or touches k d).symbol

-- there is a flag for place 0 and each place that a symbol may have
abbrev pub AreWide : List (List Bool) → Type 0
AreWide rows = (k : ℕ) → k < length rows → length (flags_at rows k) ≡ 33

-- no flag of a place is set
abbrev pub AreClear : List (List Bool) → Type 0
AreClear rows = (k i : ℕ) → k < length rows → i < 33 → slice_index_or (flags_at rows k) i false ≡ false

-- the flag of a place of a symbol was set at the first touch of that symbol
pub record MarksFirst (touches : List Touch) (result_variable : SymbolPlace) (old new : List (List Bool)) : Type 0 where
  pub long : length new ≡ length old
  pub wide : AreWide new
  pub each : (k i : ℕ) (d : Touch) → k < length touches → i < 33 → IsFirstOfSymbol touches k
      → slice_index_or (flags_at new k) i false
      ≡ slice_index_or (flags_at old k) i false
      || (nat_eq result_variable.symbol (slice_index_or touches k d).symbol && nat_eq result_variable.place i)
