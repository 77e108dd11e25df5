-- Laws of accepted derivations.
use Rattle.std.specs.Prelude.{List, All}
use Rattle.run_counting.specs.model.Facts.{Fact, Time, Size, Cost, Holds}
use Rattle.run_counting.specs.model.Bounds.{Bound, IsBased}
use Rattle.cert_rules.specs.Nodes.{Proof}
use Rattle.cert_rules.specs.Setting.{Setting, IsFaithful}
use Rattle.cert_rules.specs.Acceptance.{AcceptsLemmas, facts_of_lemmas}

-- where all lemmas of a list are accepted, every fact of every lemma holds on all runs, whoever made the lemmas
pub record AcceptedFactsHold : Type 0 where
  pub each : (s : Setting) → IsFaithful s → (proofs : List Proof) → AcceptsLemmas s proofs
      → All (All (Holds s.program)) (facts_of_lemmas s proofs)

-- the bound of a fact
abbrev pub bound_in : Fact → Bound
bound_in (Time t b) = b
bound_in (Size t i b) = b
bound_in (Cost t b) = b

-- every base in the bound of a fact is at least 1
abbrev pub HasBasedBound : Fact → Type 0
HasBasedBound f = IsBased (bound_in f)

-- every base in the bounds of facts of accepted lemmas is at least 1
pub record AcceptedBoundsAreBased : Type 0 where
  pub each : (s : Setting) → IsFaithful s → (proofs : List Proof) → AcceptsLemmas s proofs
      → All (All HasBasedBound) (facts_of_lemmas s proofs)
