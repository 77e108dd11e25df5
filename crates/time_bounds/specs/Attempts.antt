-- The attempts of a round at each component.
use Rattle.std.specs.Prelude.{◌≡◌, ℕ, Bool, true, false, List, [], ◌∷◌, ◌++◌, map, Option, Some, None, ⊤}
use Rattle.std.specs.List.{All}
use Rattle.bound_expr.specs.Views.{bound_of}
use Rattle.model.specs.Programs.{Program}
use Rattle.outcome.specs.Reports.{NoSize, Size, Sized, Unsized, SizeMissing, SizeNonlinear, SizeUntimed, SizeLarge}
use Rattle.outcome.specs.Views.{size_of}
use Rattle.cert_types.specs.cert_rules.AcceptsPlain.{IsRule}
use Rattle.cert_types.specs.cert_rules.Nodes.{ResultVariable}
use Rattle.cert_types.specs.cert_program.Setting.{setting_of}
use Rattle.cert_types.specs.Views.{result_variable_of, member_of}
use Rattle.bound_fixpoint.specs.Keys.{Bounds, IsPlace}
use Rattle.bound_fixpoint.specs.Derivations as plain
use Rattle.bound_fixpoint.specs.Searches as searches
use Rattle.bound_fixpoint.specs.Answers.{SizesOf, are_open}
use Rattle.bound_fixpoint.specs.Rounds.{Tries}
use Rattle.bound_derivations.specs.declared.derivation.Derivation.{Derivation}
use Rattle.bound_derivations.specs.Views.{derivations_of}
use Rattle.size_nodes.specs.declared.sizing.Sizing.{Sizing}
use Rattle.size_nodes.specs.declared.sizing.Sizing.TheVariants as answers
use Rattle.time_bounds.specs.declared.candidates.Candidate.{Candidate}
use Rattle.time_bounds.specs.declared.candidates.SideBounds.{SideBounds}
use Rattle.time_bounds.specs.declared.candidates.SideBounds.TheVariants as side_bounds
use Rattle.time_bounds.specs.declared.sizing.ComponentAttempt.{ComponentAttempt}
use Rattle.time_bounds.specs.declared.sizing.ComponentAttempt.TheVariants.{Known, Found, HasNoSideBound, Failed}
use Rattle.time_bounds.specs.Candidates.{result_variables_in}
use Rattle.time_bounds.specs.ProgramSearches.{searches_of_program}

-- why there is no size, where there is none
abbrev pub why_in : Size → Option NoSize
why_in (Sized b) = None
why_in (Unsized why) = Some why

-- why an answer gives no size
abbrev pub why_by : Sizing → Option NoSize
why_by (answers.Found premises bound) = None
why_by (answers.Missing m) = Some (SizeMissing (result_variable_of m))
why_by (answers.Nonlinear m) = Some (SizeNonlinear (result_variable_of m))
why_by (answers.Untimed t) = Some (SizeUntimed t)
why_by (answers.Large n) = Some (SizeLarge n)

-- why members without side bounds have no size
abbrev pub why_armless : SideBounds → Option NoSize
why_armless (side_bounds.Lacking entry) = why_in (size_of entry)
why_armless (side_bounds.Alone m) = None
why_armless (side_bounds.Loop members) = None

-- why the places of a candidate have no size, by the round's attempt at it
abbrev pub why_of : Candidate → ComponentAttempt → Option NoSize
why_of c Known = None
why_of c Found = None
why_of c HasNoSideBound = why_armless c.side_bounds
why_of c (Failed a) = why_by a

-- the candidate was tried over bounds, and has no size for this reason
pub record LacksSize (p : Program) (pivots : ℕ) (b : Bounds) (c : Candidate) (x : ComponentAttempt) : Type 0 where
  pub unsized : are_open b (result_variables_in c) ≡ true
  pub why : NoSize
  pub says : why_of c x ≡ Some why
  pub answered : (searches_of_program p pivots).Sizes b (result_variables_in c) (searches.Unsized why)

-- a round's attempt at a candidate over bounds is right: its places had sizes; or it has one now, or none
abbrev pub IsAttempt : Program → ℕ → Bounds → Candidate → ComponentAttempt → Type 0
IsAttempt p pivots b c Known = are_open b (result_variables_in c) ≡ false
IsAttempt p pivots b c Found = are_open b (result_variables_in c) ≡ true
IsAttempt p pivots b c HasNoSideBound = LacksSize p pivots b c HasNoSideBound
IsAttempt p pivots b c (Failed a) = LacksSize p pivots b c (Failed a)

-- the same for each candidate, in order
abbrev pub AreAttempts : Program → ℕ → Bounds → List Candidate → List ComponentAttempt → Type 0
AreAttempts p pivots b [] [] = ⊤
AreAttempts p pivots b [] (x ∷ attempts) = ⊥
AreAttempts p pivots b (c ∷ cs) [] = ⊥
AreAttempts p pivots b (c ∷ cs) (x ∷ attempts) = IsAttempt p pivots b c x × AreAttempts p pivots b cs attempts

-- whether a size was found
abbrev pub is_sized : ComponentAttempt → Bool
is_sized Known = false
is_sized Found = true
is_sized HasNoSideBound = false
is_sized (Failed a) = false

-- the attempt that an answer for a candidate gives
abbrev pub attempt_by : Sizing → ComponentAttempt
attempt_by (answers.Found premises bound) = Found
attempt_by (answers.Missing m) = Failed (answers.Missing m)
attempt_by (answers.Nonlinear m) = Failed (answers.Nonlinear m)
attempt_by (answers.Untimed t) = Failed (answers.Untimed t)
attempt_by (answers.Large n) = Failed (answers.Large n)

-- whether members have side bounds
abbrev pub has_side_bounds : SideBounds → Bool
has_side_bounds (side_bounds.Lacking entry) = false
has_side_bounds (side_bounds.Alone m) = true
has_side_bounds (side_bounds.Loop members) = true

-- the node that side bounds give their places
abbrev pub node_in : SideBounds → plain.Node
node_in (side_bounds.Lacking entry) = plain.CycleBy []
node_in (side_bounds.Alone m) = plain.SpreadBy (member_of m)
node_in (side_bounds.Loop members) = plain.CycleBy (map member_of members.items)

-- the derivations of an answer for places, by this node
abbrev pub derivations_by : List ResultVariable → plain.Node → Sizing → List plain.Derivation
derivations_by keys node (answers.Found premises bound) = record {
  keys = keys;
  node = node;
  premises = map result_variable_of premises.items;
  bound = bound_of bound;
} ∷ []
derivations_by keys node (answers.Missing m) = []
derivations_by keys node (answers.Nonlinear m) = []
derivations_by keys node (answers.Untimed t) = []
derivations_by keys node (answers.Large n) = []

-- the places of a candidate are places after rules
pub record ArePlacesOf (p : Program) (c : Candidate) : Type 0 where
  pub each : All (λ m. IsRule p m.rule × IsPlace p m.rule m.place) (result_variables_in c)

-- trying a candidate over the old derivations gives the new ones
pub record IsSizeStep (p : Program) (pivots : ℕ) (old : List Derivation) (c : Candidate) (x : ComponentAttempt) (new : List Derivation)
    : Type 0 where
  pub more : List plain.Derivation
  pub tries : Tries (searches_of_program p pivots) (setting_of p) (derivations_of old) (SizesOf (result_variables_in c)) more
  pub grown : derivations_of new ≡ derivations_of old ++ more
  pub attempt : IsAttempt p pivots (plain.bounds_of p (derivations_of old)) c x
  pub found : is_sized x ≡ true → are_open (plain.bounds_of p (derivations_of new)) (result_variables_in c) ≡ false
