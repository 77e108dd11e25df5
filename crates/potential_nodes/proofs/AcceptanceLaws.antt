-- Accepted lemmas state facts that hold.
use Rattle.std.proofs.Common.{◌≡◌, ℕ, suc, ◌+◌, List, [], ◌∷◌, ◌++◌, length, Option, Some, None, refl, sym, ap, ◌∙◌}
use Rattle.std.proofs.Common.{arith}
use Rattle.potentials.specs.model.Programs.{Program}
use Rattle.potentials.proofs.model.Cases.{some_none, none_some, some_same}
use Rattle.signed_bounds.specs.Bounds.{Signed}
use Rattle.signed_bounds.specs.Safe.{IsSafe}
use Rattle.signed_bounds.specs.Within.{WithinHolds}
use Rattle.potential_nodes.specs.Ground.{Ground, IsTrueGround}
use Rattle.potential_nodes.specs.Facts.{SignedFact, HoldsSigned, AllSignedHold}
use Rattle.potential_nodes.specs.Checks.{Reason, check, BadShape, first_refused}
use Rattle.potential_nodes.specs.Combinations.{combination_checks}
use Rattle.potential_nodes.specs.PlainPeaks.{row_checks, sized_checks}
use Rattle.potential_nodes.specs.SignedNodes.{SignedNode, SignedLemma, Fall, Peak, Row, Combined, Sized, InPhases}
use Rattle.potential_nodes.specs.Limits.{is_within_limits}
use Rattle.potential_nodes.specs.Acceptance.{node_checks, node_fact}
use Rattle.potential_nodes.specs.Acceptance.{Refusal, lemma_checks, refusal, fact_of, facts_after, refused_or, first_refusal}
use Rattle.potential_nodes.specs.Acceptance.{AreAccepted, IsFirstRefusal, FirstRefusalsAreFirst}
use Rattle.potential_nodes.specs.Acceptance.{AcceptedNodesHold, AcceptedLemmasHold}
use Rattle.potential_nodes.proofs.CheckLaws.{all-hold, none-refused}
use Rattle.potential_nodes.proofs.FallLaws.{falls-sound}
use Rattle.potential_nodes.proofs.PeakLaws.{peaks-sound}
use Rattle.potential_nodes.proofs.CombinationLaws.{combination-holds}
use Rattle.potential_nodes.proofs.PlainPeakLaws.{row-holds, sized-holds}
use Rattle.potential_nodes.specs.PhaseNodes.{phases_checks}
use Rattle.potential_nodes.proofs.PhaseNodeLaws.{phases-sound}

-- the fact of an accepted node holds
node-holds : WithinHolds → (g : Ground) (facts : List SignedFact) (n : SignedNode) (b : Signed) → IsTrueGround g
    → IsSafe g.is_safe → AllSignedHold g.program facts → first_refused (node_checks g facts n b) ≡ None
    → HoldsSigned g.program (node_fact facts n b)
node-holds within_holds g facts (Fall n) b ground safe hold h = (falls-sound within_holds g facts n b ground safe hold h).1
node-holds within_holds g facts (Peak n) b ground safe hold h = (peaks-sound within_holds g facts n b ground safe hold h).1
node-holds within_holds g facts (Row n) b ground safe hold h =
    row-holds within_holds g n b ground safe (all-hold (row_checks g n b) h)
node-holds within_holds g facts (Combined n) b ground safe hold h =
    combination-holds within_holds g facts n b safe hold (all-hold (combination_checks g facts n b) h)
node-holds within_holds g facts (Sized n) b ground safe hold h =
    sized-holds within_holds g facts n b safe hold (all-hold (sized_checks g facts n b) h)
node-holds within_holds g facts (InPhases n) b ground safe hold h =
    phases-sound within_holds g facts n b ground safe hold (all-hold (phases_checks g facts n b) h)

pub accepted-nodes : WithinHolds → AcceptedNodesHold
accepted-nodes within_holds g facts l ground safe hold h =
    node-holds within_holds g facts l.node l.bound ground safe hold
    (none-refused (node_checks g facts l.node l.bound) (all-hold (lemma_checks g facts l) h).1)

-- if some facts and one more hold, all of them hold
hold-more : (p : Program) (facts : List SignedFact) (fact : SignedFact) → AllSignedHold p facts → HoldsSigned p fact
    → AllSignedHold p (facts ++ fact ∷ [])
hold-more p [] fact hold holds = (holds, tt)
hold-more p (f ∷ facts) fact (first, others) holds = (first, hold-more p facts fact others holds)

-- if no lemma is refused, all facts hold
pub accepted-lemmas : WithinHolds → AcceptedLemmasHold
accepted-lemmas within_holds g facts n [] ground safe hold h = hold
accepted-lemmas within_holds g facts n (l ∷ lemmas) ground safe hold h =
    go (refusal g facts l) refl h
    (λ holds k. accepted-lemmas within_holds g (facts ++ fact_of facts l ∷ []) (suc n) lemmas ground safe holds k)
  where
    go : (o : Option Reason) → refusal g facts l ≡ o
        → refused_or n o (first_refusal g (facts ++ fact_of facts l ∷ []) (suc n) lemmas) ≡ None
        → (AllSignedHold g.program (facts ++ fact_of facts l ∷ [])
        → first_refusal g (facts ++ fact_of facts l ∷ []) (suc n) lemmas ≡ None
        → AllSignedHold g.program (facts_after (facts ++ fact_of facts l ∷ []) lemmas))
        → AllSignedHold g.program (facts_after (facts ++ fact_of facts l ∷ []) lemmas)
    go None e k ih = ih (hold-more g.program facts (fact_of facts l) hold (accepted-nodes within_holds g facts l ground safe hold e)) k
    go (Some r) e k ih = absurd (some_none (record { number = n; reason = r }) k)

-- if no lemma is refused, each is accepted
accepts : (g : Ground) (facts : List SignedFact) (n : ℕ) (lemmas : List SignedLemma)
    → first_refusal g facts n lemmas ≡ None → AreAccepted g facts lemmas
accepts g facts n [] h = tt
accepts g facts n (l ∷ lemmas) h =
    go (refusal g facts l) refl h (λ k. accepts g (facts ++ fact_of facts l ∷ []) (suc n) lemmas k)
  where
    go : (o : Option Reason) → refusal g facts l ≡ o
        → refused_or n o (first_refusal g (facts ++ fact_of facts l ∷ []) (suc n) lemmas) ≡ None
        → (first_refusal g (facts ++ fact_of facts l ∷ []) (suc n) lemmas ≡ None
        → AreAccepted g (facts ++ fact_of facts l ∷ []) lemmas)
        → (refusal g facts l ≡ None) × AreAccepted g (facts ++ fact_of facts l ∷ []) lemmas
    go None e k ih = (e, ih k)
    go (Some r) e k ih = absurd (some_none (record { number = n; reason = r }) k)

-- if each lemma is accepted, none is refused
accepted : (g : Ground) (facts : List SignedFact) (n : ℕ) (lemmas : List SignedLemma)
    → AreAccepted g facts lemmas → first_refusal g facts n lemmas ≡ None
accepted g facts n [] h = refl
accepted g facts n (l ∷ lemmas) (first, others) =
    ap (λ (o : Option Reason). refused_or n o (first_refusal g (facts ++ fact_of facts l ∷ []) (suc n) lemmas)) first
    ∙ accepted g (facts ++ fact_of facts l ∷ []) (suc n) lemmas others

-- a refusal is that of the first lemma that isn't accepted
refuses : (g : Ground) (facts : List SignedFact) (n : ℕ) (lemmas : List SignedLemma) (r : Refusal)
    → first_refusal g facts n lemmas ≡ Some r → IsFirstRefusal g facts n lemmas r
refuses g facts n [] r h = absurd (none_some r h)
refuses g facts n (l ∷ lemmas) r h =
    go (refusal g facts l) refl h (λ k. refuses g (facts ++ fact_of facts l ∷ []) (suc n) lemmas r k)
  where
    go : (o : Option Reason) → refusal g facts l ≡ o
        → refused_or n o (first_refusal g (facts ++ fact_of facts l ∷ []) (suc n) lemmas) ≡ Some r
        → (first_refusal g (facts ++ fact_of facts l ∷ []) (suc n) lemmas ≡ Some r
        → IsFirstRefusal g (facts ++ fact_of facts l ∷ []) (suc n) lemmas r)
        → IsFirstRefusal g facts n (l ∷ lemmas) r
    go None e k ih =
        let later = ih k in
        record {
          before = l ∷ later.before;
          refused = later.refused;
          after = later.after;
          listed = ap (λ (ls : List SignedLemma). l ∷ ls) later.listed;
          number = omega (arith, later.number);
          accepted = (e, later.accepted);
          reason = later.reason;
        }
    go (Some reason) e k ih =
        let same = some_same (record { number = n; reason = reason }) r k in
        record {
          before = [];
          refused = l;
          after = lemmas;
          listed = refl;
          number = sym (ap (λ (x : Refusal). x.number) same) ∙ plus_zero n;
          accepted = tt;
          reason = e ∙ ap (λ (x : Refusal). Some x.reason) same;
        }
      where
        plus_zero : (n : ℕ) → n ≡ n + 0
        plus_zero n = omega arith

pub refusals_are_first : FirstRefusalsAreFirst
refusals_are_first = record { accepts = accepts; accepted = accepted; refuses = refuses }
