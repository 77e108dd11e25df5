-- Rounds: the derivations of each over those before, up to the first round that derives nothing.
use Rattle.std.specs.Prelude.{◌≡◌, ℕ, zero, suc, true, false, List, [], ◌∷◌, ◌++◌, map, None}
use Rattle.rule_questions.specs.cert_rules.Nodes.{ResultVariable}
use Rattle.rule_questions.specs.cert_rules.AcceptsPlain.{IsRule}
use Rattle.rule_questions.specs.cert_rules.Setting.{Setting}
use Rattle.bound_fixpoint.specs.Keys.{has_key, rule_numbers}
use Rattle.bound_fixpoint.specs.Derivations.{Derivation, bounds_of}
use Rattle.bound_fixpoint.specs.Searches.{Searches, NoBound}
use Rattle.bound_fixpoint.specs.Answers.{Target, TimeOf, SizesOf, is_open, Answer, Lacks, derivations_by, AnswersTarget}
use Rattle.bound_fixpoint.specs.Components.{AreComponentsOf, IsOneOf}
use Rattle.bound_fixpoint.specs.Beginning.{AreFirst}

-- a target was queried over these derivations if a bound of it was missing, and the results of the searches are the
-- new derivations
pub record Tries (q : Searches) (s : Setting) (fs : List Derivation) (g : Target) (more : List Derivation) : Type 0 where
  pub known : is_open (bounds_of s.program fs) g ≡ false → more ≡ []
  pub tried : is_open (bounds_of s.program fs) g ≡ true
      → (a : Answer) × AnswersTarget q s (bounds_of s.program fs) g a × (more ≡ derivations_by g a)

-- the manner of querying several targets: all over what was known at first, or each over what is known so far
pub data Manner : Type 0 where
  Together : Manner
  InTurn : Manner

-- the derivations known to the next query
abbrev pub known_next : Manner → List Derivation → List Derivation → List Derivation
known_next Together fs more = fs
known_next InTurn fs more = fs ++ more

-- targets are queried one after the other
abbrev pub TriesAll : Searches → Setting → Manner → List Derivation → List Target → List Derivation → Type 0
TriesAll q s manner fs [] more = more ≡ []
TriesAll q s manner fs (g ∷ gs) more = (first : List Derivation) × Tries q s fs g first
    × ((rest : List Derivation) × (more ≡ first ++ rest) × TriesAll q s manner (known_next manner fs first) gs rest)

-- one round: the rules are queried over the derivations before it, and then the components of places, in their order,
-- each over these with the new times and the sizes so far
pub record IsRound (q : Searches) (s : Setting) (fs more : List Derivation) : Type 0 where
  pub times : List Derivation
  pub timed : TriesAll q s Together fs (map TimeOf (rule_numbers s.program)) times
  pub components : List (List ResultVariable)
  pub are_components : q.AreComponents components
  pub live : AreComponentsOf q s.program components
  pub sizes : List Derivation
  pub sized : TriesAll q s InTurn (fs ++ times) (map SizesOf components) sizes
  pub all : more ≡ times ++ sizes

-- the derivations after any number of rounds
pub data IsMade (q : Searches) (s : Setting) : List Derivation → Type 0 where
  Begun : {fs : List Derivation} → AreFirst q s.program fs → IsMade q s fs
  Made : {fs more : List Derivation} → IsMade q s fs → IsRound q s fs more → IsMade q s (fs ++ more)

-- a round over these derivations derives nothing
abbrev pub IsClosed : Searches → Setting → List Derivation → Type 0
IsClosed q s fs = IsRound q s fs []

-- the last derivations: they are made by rounds, and a further round derives nothing
pub record IsLast (q : Searches) (s : Setting) (fs : List Derivation) : Type 0 where
  pub made : IsMade q s fs
  pub closed : IsClosed q s fs

-- the target that gives the bound of a key: for a rule its time, for a place the size of its component
abbrev pub IsAskedFor : Searches → Setting → ℕ → ℕ → Target → Type 0
IsAskedFor q s t zero (TimeOf u) = IsRule s.program t × (u ≡ t)
IsAskedFor q s t zero (SizesOf keys) = ⊥
IsAskedFor q s t (suc i) (TimeOf u) = ⊥
IsAskedFor q s t (suc i) (SizesOf keys) = (components : List (List ResultVariable)) × q.AreComponents components
    × IsOneOf components keys × (has_key keys t (suc i) ≡ true)

-- the reason why a key has no bound with these derivations: the result of the searches on its target
pub record IsNoBound (q : Searches) (s : Setting) (fs : List Derivation) (t i : ℕ) (why : NoBound) : Type 0 where
  pub missing : bounds_of s.program fs t i ≡ None
  pub target : Target
  pub asked : IsAskedFor q s t i target
  pub is_answer : AnswersTarget q s (bounds_of s.program fs) target (Lacks why)
