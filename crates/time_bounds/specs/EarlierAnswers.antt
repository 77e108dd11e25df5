-- The attempts of earlier rounds at components, and which of their answers remain valid when more is known.
use Rattle.std.specs.Prelude.{◌≡◌, ℕ, List, [], ◌∷◌, Some, None, true, false, ⊤, slice_get}
use Rattle.model.specs.Bounds.{Bound}
use Rattle.model.specs.Programs.{Program}
use Rattle.cert_types.specs.cert_rules.Known.{Table}
use Rattle.bound_fixpoint.specs.Keys.{Bounds, over}
use Rattle.bound_fixpoint.specs.Answers.{are_open}
use Rattle.size_nodes.specs.declared.sizing.Sizing.{Sizing}
use Rattle.size_nodes.specs.declared.sizing.Sizing.TheVariants.{Found, Missing, Nonlinear, Untimed, Large}
use Rattle.time_bounds.specs.declared.candidates.Candidate.{Candidate}
use Rattle.time_bounds.specs.declared.sizing.ComponentAttempt.{ComponentAttempt}
use Rattle.time_bounds.specs.declared.sizing.ComponentAttempt.TheVariants as attempts
use Rattle.time_bounds.specs.Attempts.{IsAttempt, is_sized}
use Rattle.time_bounds.specs.Candidates.{result_variables_in}

-- all bounds that were known still are
pub record HasGrown (old new : Bounds) : Type 0 where
  pub each : (t i : ℕ) (b : Bound) → old t i ≡ Some b → new t i ≡ Some b

-- the reason of an answer remains true over a table: what was missing is missing; a nonlinear side bound and a large
-- bound remain reasons
abbrev pub ReasonIsTrue : Table → Sizing → Type 0
ReasonIsTrue tab (Found premises bound) = ⊥
ReasonIsTrue tab (Missing m) = tab.size m.rule m.place ≡ None
ReasonIsTrue tab (Nonlinear m) = ⊤
ReasonIsTrue tab (Untimed t) = tab.time t ≡ None
ReasonIsTrue tab (Large n) = ⊤

-- there is such an answer at a position, and its reason remains true over the table
pub record IsTrueAnswerAt (tab : Table) (tried : List ComponentAttempt) (i : ℕ) (a : Sizing) : Type 0 where
  pub there : slice_get tried i ≡ Some (attempts.Failed a)
  pub stands : ReasonIsTrue tab a

-- this was the attempt at the candidate over bounds between the first and the last ones; if a size was found, each of
-- its places has one with the last ones
pub record WasAttempt (p : Program) (pivots : ℕ) (first last : Bounds) (c : Candidate) (x : ComponentAttempt) : Type 0 where
  pub between : Bounds
  pub after : HasGrown first between
  pub before : HasGrown between last
  pub attempt : IsAttempt p pivots between c x
  pub found : is_sized x ≡ true → are_open last (result_variables_in c) ≡ false

-- the same for the first candidates, in order, as many as there are attempts
abbrev pub WereAttempts : Program → ℕ → Bounds → Bounds → List Candidate → List ComponentAttempt → Type 0
WereAttempts p pivots first last [] [] = ⊤
WereAttempts p pivots first last [] (x ∷ attempts) = ⊥
WereAttempts p pivots first last (c ∷ cs) [] = ⊤
WereAttempts p pivots first last (c ∷ cs) (x ∷ attempts) =
    WasAttempt p pivots first last c x × WereAttempts p pivots first last cs attempts

-- an earlier answer for the candidate, whose reason remains true with what is known
pub record IsStillTrue (p : Program) (pivots : ℕ) (b : Bounds) (c : Candidate) (a : Sizing) : Type 0 where
  pub first : Bounds
  pub was : WasAttempt p pivots first b c (attempts.Failed a)
  pub stands : ReasonIsTrue (over b) a
