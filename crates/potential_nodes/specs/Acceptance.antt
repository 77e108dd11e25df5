-- Lists of lemmas: when each is accepted, and the facts that they state.
use Rattle.std.specs.Prelude.{◌≡◌, ℕ, suc, ◌+◌, List, [], ◌∷◌, ◌++◌, length, Option, Some, None, ⊤}
use Rattle.signed_bounds.specs.Bounds.{Signed}
use Rattle.signed_bounds.specs.Safe.{IsSafe}
use Rattle.potential_nodes.specs.Ground.{Ground, IsTrueGround}
use Rattle.potential_nodes.specs.Facts.{SignedFact, SumFact, PeakFact, AllSignedHold, HoldsSigned}
use Rattle.potential_nodes.specs.Checks.{Reason, Check, check, BadShape, first_refused}
use Rattle.potential_nodes.specs.Falls.{charges_of, fall_checks}
use Rattle.potential_nodes.specs.Peaks.{peak_checks}
use Rattle.potential_nodes.specs.Combinations.{combination_checks, combination_fact}
use Rattle.potential_nodes.specs.PlainPeaks.{row_checks, sized_checks}
use Rattle.potential_nodes.specs.PhaseNodes.{phases_fall, phases_checks}
use Rattle.potential_nodes.specs.SignedNodes.{SignedNode, SignedLemma, Fall, Peak, Row, Combined, Sized, InPhases}
use Rattle.potential_nodes.specs.Limits.{is_within_limits}

-- the checks of a node after lemmas with these facts, in the order of the reasons
abbrev pub node_checks : Ground → List SignedFact → SignedNode → Signed → List Check
node_checks g facts (Fall n) b = fall_checks g facts n b
node_checks g facts (Peak n) b = peak_checks g facts n b
node_checks g facts (Row n) b = row_checks g n b
node_checks g facts (Combined n) b = combination_checks g facts n b
node_checks g facts (Sized n) b = sized_checks g facts n b
node_checks g facts (InPhases n) b = phases_checks g facts n b

-- the fact that a node states
abbrev pub node_fact : List SignedFact → SignedNode → Signed → SignedFact
node_fact facts (Fall n) b = SumFact (charges_of n) b
node_fact facts (Peak n) b = PeakFact n.rule n.form b
node_fact facts (Row n) b = PeakFact n.rule n.form b
node_fact facts (Combined n) b = combination_fact facts n b
node_fact facts (Sized n) b = PeakFact n.rule n.form b
node_fact facts (InPhases n) b = SumFact (charges_of (phases_fall n)) b

-- the checks of a lemma: that it is within the limits, and then those of its node
abbrev pub lemma_checks : Ground → List SignedFact → SignedLemma → List Check
lemma_checks g facts l = check BadShape (is_within_limits l.node l.bound) ∷ node_checks g facts l.node l.bound

-- the first reason for which a lemma isn't accepted after lemmas with these facts; none if it is accepted
abbrev pub refusal : Ground → List SignedFact → SignedLemma → Option Reason
refusal g facts l = first_refused (lemma_checks g facts l)

-- the fact of a lemma
abbrev pub fact_of : List SignedFact → SignedLemma → SignedFact
fact_of facts l = node_fact facts l.node l.bound

-- the facts before and those of a list of lemmas
abbrev pub facts_after : List SignedFact → List SignedLemma → List SignedFact
facts_after facts [] = facts
facts_after facts (l ∷ lemmas) = facts_after (facts ++ fact_of facts l ∷ []) lemmas

-- a refusal: the number of a lemma that isn't accepted, and its first reason
pub record Refusal : Type 0 where
  pub number : ℕ
  pub reason : Reason

-- the refusal of the first lemma of a list that isn't accepted, with its first reason; the lemmas have the numbers from
-- n on
abbrev pub refused_or : ℕ → Option Reason → Option Refusal → Option Refusal
refused_or n (Some reason) later = Some (record { number = n; reason = reason })
refused_or n None later = later

abbrev pub first_refusal : Ground → List SignedFact → ℕ → List SignedLemma → Option Refusal
first_refusal g facts n [] = None
first_refusal g facts n (l ∷ lemmas) =
    refused_or n (refusal g facts l) (first_refusal g (facts ++ fact_of facts l ∷ []) (suc n) lemmas)

-- each lemma of a list is accepted after the facts of those before it
abbrev pub AreAccepted : Ground → List SignedFact → List SignedLemma → Type 0
AreAccepted g facts [] = ⊤
AreAccepted g facts (l ∷ lemmas) = (refusal g facts l ≡ None) × AreAccepted g (facts ++ fact_of facts l ∷ []) lemmas

-- a lemma of a list is refused after the facts of those before it, which are all accepted; the lemmas have the numbers
-- from n on
pub record IsFirstRefusal (g : Ground) (facts : List SignedFact) (n : ℕ) (lemmas : List SignedLemma) (r : Refusal) : Type 0 where
  pub before : List SignedLemma
  pub refused : SignedLemma
  pub after : List SignedLemma
  pub listed : lemmas ≡ before ++ refused ∷ after
  pub number : r.number ≡ n + length before
  pub accepted : AreAccepted g facts before
  pub reason : refusal g (facts_after facts before) refused ≡ Some r.reason

-- no lemma of a list is refused exactly if each is accepted, and the refusal of a list is that of its first lemma that
-- isn't accepted
pub record FirstRefusalsAreFirst : Type 0 where
  pub accepts : (g : Ground) (facts : List SignedFact) (n : ℕ) (lemmas : List SignedLemma)
      → first_refusal g facts n lemmas ≡ None → AreAccepted g facts lemmas
  pub accepted : (g : Ground) (facts : List SignedFact) (n : ℕ) (lemmas : List SignedLemma)
      → AreAccepted g facts lemmas → first_refusal g facts n lemmas ≡ None
  pub refuses : (g : Ground) (facts : List SignedFact) (n : ℕ) (lemmas : List SignedLemma) (r : Refusal)
      → first_refusal g facts n lemmas ≡ Some r → IsFirstRefusal g facts n lemmas r

-- the fact of an accepted lemma holds on all runs
abbrev pub AcceptedNodesHold : Type 0
AcceptedNodesHold = (g : Ground) (facts : List SignedFact) (l : SignedLemma) → IsTrueGround g → IsSafe g.is_safe
    → AllSignedHold g.program facts → refusal g facts l ≡ None → HoldsSigned g.program (fact_of facts l)

-- if no lemma is refused, all facts hold: those from before and those of the lemmas
abbrev pub AcceptedLemmasHold : Type 0
AcceptedLemmasHold = (g : Ground) (facts : List SignedFact) (n : ℕ) (lemmas : List SignedLemma) → IsTrueGround g
    → IsSafe g.is_safe → AllSignedHold g.program facts → first_refusal g facts n lemmas ≡ None
    → AllSignedHold g.program (facts_after facts lemmas)
