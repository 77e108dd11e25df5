-- Laws of derivations and of rounds: justified derivations give accepted lemmas, which state them and hold on all
-- runs; the derivations of rounds are justified; rounds end, with one list of derivations; and each missing bound has
-- one reason.
use Rattle.std.specs.Prelude.{◌≡◌, ◌⊎◌, ℕ, ◌+◌, ◌<◌, true, List, [], ◌∷◌, ◌++◌, map, Some, None}
use Rattle.std.specs.List.{All, count_by, Contains}
use Rattle.rule_questions.specs.model.Programs.{Program}
use Rattle.rule_questions.specs.model.Bounds.{Bound}
use Rattle.rule_questions.specs.model.Facts.{Fact, Holds}
use Rattle.rule_questions.specs.model.Paths.{target_of}
use Rattle.rule_questions.specs.cert_rules.Nodes.{ResultVariable}
use Rattle.rule_questions.specs.cert_rules.Known.{IsKnown}
use Rattle.rule_questions.specs.cert_rules.Acceptance.{Accepts, facts_of, AcceptsLemmas, facts_of_lemmas}
use Rattle.rule_questions.specs.cert_rules.Acceptance.{facts_of_lemma}
use Rattle.rule_questions.specs.cert_rules.AcceptsPlain.{IsRule, places_at}
use Rattle.rule_questions.specs.cert_rules.Setting.{Setting, IsFaithful}
use Rattle.bound_fixpoint.specs.Keys.{Bounds, IsPlace, place_fact, fact_at, at_key, has_key, lacks, rule_numbers}
use Rattle.bound_fixpoint.specs.Derivations.{Node, Derivation, keys_of, bounds_of, number_in, facts_of_derivation}
use Rattle.bound_fixpoint.specs.Needs.{lemma_by, lemmas_of}
use Rattle.bound_fixpoint.specs.Justification.{composed_bound, AcceptsOver, ArePremises, AreJustified}
use Rattle.bound_fixpoint.specs.Stated.{SayBounds}
use Rattle.bound_fixpoint.specs.Searches.{Answers, searches_of, NoBound}
use Rattle.bound_fixpoint.specs.Components.{AreApart, AreComponentsOf, IsCovered, IsOneOf}
use Rattle.bound_fixpoint.specs.Beginning.{AreFirst}
use Rattle.bound_fixpoint.specs.Rounds.{IsRound, IsMade, IsClosed, IsLast, IsNoBound}
use Rattle.bound_fixpoint.specs.Right.{AreRight}

-- the lemmas of justified derivations are accepted, and each states the facts of its derivation
pub record JustifiedDerivationsHaveLemmas : Type 0 where
  pub accepted : (s : Setting) (fs : List Derivation) → AreJustified s fs → AcceptsLemmas s (lemmas_of fs)
  pub stated : (s : Setting) (fs : List Derivation) → AreJustified s fs
      → facts_of_lemmas s (lemmas_of fs) ≡ map facts_of_derivation fs

-- take any lists of lemmas that state only bounds of a table, and, by these numbers, all known bounds. After them the
-- lemma of a node that is accepted over the known bounds, with its premises, all of which are known, is accepted; and
-- it states the bound that the node composes, for each of its keys
pub record NodesAreAccepted : Type 0 where
  pub accepted : (s : Setting) (past : List (List Fact)) (number : ℕ → ℕ → ℕ) (b all : Bounds)
      → SayBounds s past number b all → (node : Node) (premises : List ResultVariable) → AcceptsOver s b node premises
      → ArePremises s b node premises → All (λ k. IsKnown (at_key b k)) premises → Accepts s past (lemma_by number node premises)
  pub states : (s : Setting) (past : List (List Fact)) (number : ℕ → ℕ → ℕ) (b all : Bounds)
      → SayBounds s past number b all → (node : Node) (premises : List ResultVariable) → AcceptsOver s b node premises
      → ArePremises s b node premises → All (λ k. IsKnown (at_key b k)) premises
      → facts_of s past (lemma_by number node premises)
      ≡ map (λ k. fact_at k (composed_bound s b node)) (keys_of s.program node)

-- a derived bound is a fact of the lemma with its key's number; only one derivation states the bound of a key, which
-- is the known one; and the lemmas of justified derivations state all known bounds
pub record DerivationsAreNumbered : Type 0 where
  pub each : (s : Setting) (fs : List Derivation) → AreJustified s fs → (t i : ℕ) (b : Bound) → IsRule s.program t
      → bounds_of s.program fs t i ≡ Some b
      → Contains (facts_of_lemma (facts_of_lemmas s (lemmas_of fs)) (number_in fs t i)) (place_fact t i b)
  pub alone : (s : Setting) (fs : List Derivation) → AreJustified s fs → (f : Derivation) → Contains fs f → (t i : ℕ)
      → has_key f.keys t i ≡ true → bounds_of s.program fs t i ≡ Some f.bound
  pub say : (s : Setting) (fs : List Derivation) → AreJustified s fs
      → SayBounds s (facts_of_lemmas s (lemmas_of fs)) (number_in fs) (bounds_of s.program fs) (bounds_of s.program fs)

-- every bound that justified derivations give holds on all runs
pub record JustifiedDerivationsHold : Type 0 where
  pub each : (s : Setting) → IsFaithful s → (fs : List Derivation) → AreJustified s fs → (t i : ℕ) (b : Bound)
      → bounds_of s.program fs t i ≡ Some b → Holds s.program (place_fact t i b)

-- the derivations of rounds are justified, if the answers of the searches are right
pub record MadeDerivationsAreJustified : Type 0 where
  pub each : (a : Answers) (s : Setting) → AreRight (searches_of a) s → (fs : List Derivation)
      → IsMade (searches_of a) s fs → AreJustified s fs

-- how many bounds of a rule's places are missing
abbrev pub unsized : Program → Bounds → ℕ → ℕ
unsized p b t = count_by (λ i. lacks (b t i)) (places_at p (target_of p t))

abbrev pub all_unsized : Program → Bounds → List ℕ → ℕ
all_unsized p b [] = 0
all_unsized p b (t ∷ ts) = unsized p b t + all_unsized p b ts

-- how many bounds are missing of rules and of the places after them
abbrev pub missing : Program → Bounds → ℕ
missing p b = count_by (λ t. lacks (b t 0)) (rule_numbers p) + all_unsized p b (rule_numbers p)

-- rounds end: each derives a bound that was missing, or nothing. So there is at most one round more than bounds
-- missing after the initial derivations
pub record RoundsEnd : Type 0 where
  pub each : (a : Answers) (s : Setting) (fs more : List Derivation) → IsRound (searches_of a) s fs more
      → (missing s.program (bounds_of s.program (fs ++ more)) < missing s.program (bounds_of s.program fs))
      ⊎ (more ≡ [])

-- where a round derives nothing, each missing time of a rule has a reason, and so has each missing size of a place in
-- a component; and with the last derivations each missing size of a place after a rule has one
pub record MissingBoundsHaveReasons : Type 0 where
  pub times : (a : Answers) (s : Setting) (fs : List Derivation) → IsClosed (searches_of a) s fs → (t : ℕ)
      → IsRule s.program t → bounds_of s.program fs t 0 ≡ None
      → (why : NoBound) × IsNoBound (searches_of a) s fs t 0 why
  pub sizes : (a : Answers) (s : Setting) (fs : List Derivation) → IsClosed (searches_of a) s fs → (t i : ℕ)
      → IsCovered a.components t i → bounds_of s.program fs t i ≡ None
      → (why : NoBound) × IsNoBound (searches_of a) s fs t i why
  pub places : (a : Answers) (s : Setting) (fs : List Derivation) → IsLast (searches_of a) s fs → (t i : ℕ)
      → IsRule s.program t → IsPlace s.program t i → bounds_of s.program fs t i ≡ None
      → (why : NoBound) × IsNoBound (searches_of a) s fs t i why

-- there is at most one last list of derivations; a missing time has one reason, and so has a missing size, if no place
-- is in two components
pub record LastDerivationsAreOne : Type 0 where
  pub last : (a : Answers) (s : Setting) (x y : List Derivation) → IsLast (searches_of a) s x → IsLast (searches_of a) s y
      → x ≡ y
  pub time : (a : Answers) (s : Setting) (fs : List Derivation) (t : ℕ) (v w : NoBound)
      → IsNoBound (searches_of a) s fs t 0 v → IsNoBound (searches_of a) s fs t 0 w → v ≡ w
  pub size : (a : Answers) (s : Setting) → AreApart a.components → (fs : List Derivation) (t i : ℕ) (v w : NoBound)
      → IsNoBound (searches_of a) s fs t i v → IsNoBound (searches_of a) s fs t i w → v ≡ w

-- there are initial derivations; if the components are those of the places of live rules, there is a round over each
-- list of derivations; and there is a last list
pub record LastDerivationsExist : Type 0 where
  pub first : (a : Answers) (s : Setting) → (fs : List Derivation) × AreFirst (searches_of a) s.program fs
  pub next : (a : Answers) (s : Setting) → AreComponentsOf (searches_of a) s.program a.components → (fs : List Derivation)
      → (more : List Derivation) × IsRound (searches_of a) s fs more
  pub last : (a : Answers) (s : Setting) → AreComponentsOf (searches_of a) s.program a.components
      → (fs : List Derivation) × IsLast (searches_of a) s fs

-- all these keys have the same bound, or none has one
abbrev pub AreUniform : Bounds → List ResultVariable → Type 0
AreUniform b keys = (t i u j : ℕ) → has_key keys t i ≡ true → has_key keys u j ≡ true → b t i ≡ b u j

-- if the components are those of the places of live rules, then in every list of derivations that rounds make the
-- members of each component have one size, or none
pub record ComponentsAreUniform : Type 0 where
  pub each : (a : Answers) (s : Setting) → AreComponentsOf (searches_of a) s.program a.components → (fs : List Derivation)
      → IsMade (searches_of a) s fs → (keys : List ResultVariable) → IsOneOf a.components keys
      → AreUniform (bounds_of s.program fs) keys
