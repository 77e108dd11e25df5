-- The computed reason of a node is its first reason, and none is computed exactly if the node is accepted.
use Rattle.std.proofs.Common.{◌≡◌, ◌↔◌, List, Option, Some, None, refl, sym, ◌∙◌}
use Rattle.run_counting.specs.model.Facts.{Fact}
use Rattle.rule_forms.specs.linear_forms.Certificates.{minus_one}
use Rattle.cert_rules.specs.Nodes.{Proof, Cite, Start, Empty, Unreached, Never, Rank, Spread, Cycle, Weaken, CostBound}
use Rattle.cert_rules.specs.Known.{table_of}
use Rattle.cert_rules.specs.Setting.{Setting}
use Rattle.cert_rules.specs.AcceptsPlain.{may_run}
use Rattle.cert_rules.specs.Acceptance.{facts_of, joined_facts, AcceptsNode}
use Rattle.cert_rules.specs.Reasons.{Reason, AllPass}
use Rattle.cert_rules.specs.Checks.{checks_of, IsFirstReason}
use Rattle.cert_rules.specs.Deciding.{tests_of, first_reason}
use Rattle.cert_rules.specs.ReasonLaws.{FirstReasonsAreDecided, FirstReasonsAreInLine}
use Rattle.cert_rules.proofs.FirstReasons.{rank-passes, passes-rank}
use Rattle.cert_rules.proofs.SizeReasons.{spread-passes, passes-spread, cycle-passes, passes-cycle}
use Rattle.cert_rules.proofs.CostReasons.{cost-passes, passes-cost}
use Rattle.cert_rules.proofs.TestLists.{AllDecide, first-sound, first-complete, none-passes, passes-none}
use Rattle.cert_rules.proofs.NumberTests.{decides-implies}
use Rattle.cert_rules.proofs.PlainTests.{decides-rule, decides-earlier, decides-empty_shape, decides-one_time}
use Rattle.cert_rules.proofs.PlainTests.{decides-zero_time, decides-weaken_shape, decides-weaker}
use Rattle.cert_rules.proofs.ReachTests.{decides-unreached}
use Rattle.cert_rules.proofs.RankTests.{rank-decides}
use Rattle.cert_rules.proofs.SizeTests.{spread-decides, cycle-decides}
use Rattle.cert_rules.proofs.CostTests.{cost-decides}

module _ (s : Setting) (past : List (List Fact)) where
  -- the tests of a node decide its checks
  tests-decide : (proof : Proof) → AllDecide (checks_of s past proof) (tests_of s past proof)
  tests-decide (Cite n) = (refl, (decides-earlier past n, tt))
  tests-decide Start = tt
  tests-decide (Empty t multipliers) =
      (refl, (decides-empty_shape s t multipliers, (refl, (decides-implies (s.rows t) multipliers minus_one, tt))))
  tests-decide (Unreached t uses) = (
    refl,
    (decides-rule s.program t, (refl, (decides-unreached s.program (may_run (joined_facts s past uses)) t, tt))),
  )
  tests-decide (Never child) =
      (refl, (decides-one_time (facts_of s past child), (refl, (decides-zero_time (facts_of s past child), tt))))
  tests-decide (Rank node uses) = rank-decides s node (table_of (joined_facts s past uses))
  tests-decide (Spread m uses) = spread-decides s (table_of (joined_facts s past uses)) m
  tests-decide (Cycle members uses) = cycle-decides s (table_of (joined_facts s past uses)) members
  tests-decide (Weaken child b) =
      (refl, (decides-weaken_shape s.program b, (refl, (decides-weaker s (facts_of s past child) b, tt))))
  tests-decide (CostBound node uses) = cost-decides s (table_of (joined_facts s past uses)) node

  -- the checks of an accepted node pass
  accepted-passes : (proof : Proof) → AcceptsNode s past proof → AllPass (checks_of s past proof)
  accepted-passes (Cite n) h = (h, tt)
  accepted-passes Start h = tt
  accepted-passes (Empty t multipliers) h = (h.shape, (h.empty, tt))
  accepted-passes (Unreached t uses) h = (h.shape, (h.reached, tt))
  accepted-passes (Never child) h = (h.shape, (h.zero, tt))
  accepted-passes (Rank node uses) h = rank-passes s (table_of (joined_facts s past uses)) node h
  accepted-passes (Spread m uses) h = spread-passes s (table_of (joined_facts s past uses)) m h
  accepted-passes (Cycle members uses) h = cycle-passes s (table_of (joined_facts s past uses)) members h
  accepted-passes (Weaken child b) h = (h.shape, (h.weaker, tt))
  accepted-passes (CostBound node uses) h = cost-passes s (table_of (joined_facts s past uses)) node h

  -- a node whose checks pass is accepted
  passed-accepts : (proof : Proof) → AllPass (checks_of s past proof) → AcceptsNode s past proof
  passed-accepts (Cite n) h = h.0
  passed-accepts Start h = tt
  passed-accepts (Empty t multipliers) h = record { shape = h.0; empty = h.1.0 }
  passed-accepts (Unreached t uses) h = record { shape = h.0; reached = h.1.0 }
  passed-accepts (Never child) h = record { shape = h.0; zero = h.1.0 }
  passed-accepts (Rank node uses) h = passes-rank s (table_of (joined_facts s past uses)) node h
  passed-accepts (Spread m uses) h = passes-spread s (table_of (joined_facts s past uses)) m h
  passed-accepts (Cycle members uses) h = passes-cycle s (table_of (joined_facts s past uses)) members h
  passed-accepts (Weaken child b) h = record { shape = h.0; weaker = h.1.0 }
  passed-accepts (CostBound node uses) h = passes-cost s (table_of (joined_facts s past uses)) node h

  -- a reason is computed exactly if it is the first
  reason-decided : (proof : Proof) (r : Reason) → (first_reason s past proof ≡ Some r) ↔ IsFirstReason s past proof r
  reason-decided proof r = (
    first-sound (checks_of s past proof) (tests_of s past proof) (tests-decide proof) r,
    first-complete (checks_of s past proof) (tests_of s past proof) (tests-decide proof) r,
  )

  -- there is no first reason exactly if the node is accepted
  none-decided : (proof : Proof) → (first_reason s past proof ≡ None) ↔ AcceptsNode s past proof
  none-decided proof = (
    (λ e. passed-accepts proof (none-passes (checks_of s past proof) (tests_of s past proof) (tests-decide proof) e)),
    (λ h. passes-none (checks_of s past proof) (tests_of s past proof) (tests-decide proof) (accepted-passes proof h)),
  )

-- the computed reason is the first reason of each node
pub first-reasons-decided : FirstReasonsAreDecided
first-reasons-decided = record { some = reason-decided; none = none-decided }

-- first reasons agree with acceptance
pub first-reasons-in-line : FirstReasonsAreInLine
first-reasons-in-line = record {
  none = λ s past proof. (
    (λ h. record { none = λ r k. none_some r (sym ((none-decided s past proof).1 h) ∙ (reason-decided s past proof r).1 k) }),
    (λ h. go s past proof (first_reason s past proof) refl h.none),
  );
  one = λ s past proof q r h k. same q r (sym ((reason-decided s past proof q).1 h) ∙ (reason-decided s past proof r).1 k);
}
  where
    none_some : (r : Reason) → None ≡ Some r → ⊥
    none_some r e = cc

    same : (q r : Reason) → Some q ≡ Some r → q ≡ r
    same q r e = cc

    go : (s : Setting) (past : List (List Fact)) (proof : Proof) (o : Option Reason) → first_reason s past proof ≡ o
        → ((r : Reason) → ¬ (IsFirstReason s past proof r)) → AcceptsNode s past proof
    go s past proof None e h = (none-decided s past proof).0 e
    go s past proof (Some r) e h = absurd (h r ((reason-decided s past proof r).0 e))

-- the computed reason of a node is its first
pub reason : (s : Setting) (past : List (List Fact)) (proof : Proof) (r : Reason) → first_reason s past proof ≡ Some r
    → IsFirstReason s past proof r
reason s past proof r = (reason-decided s past proof r).0
