-- Decides whether a derivation node is accepted, by computing its first reason; and at which node or gap lemmas and
-- files are refused.
use Rattle.std.specs.Prelude.{ℕ, suc, Bool, List, [], ◌∷◌, ◌++◌, Option, Some, None, is_none}
use Rattle.run_counting.specs.model.Programs.{Program}
use Rattle.run_counting.specs.model.Facts.{Fact}
use Rattle.rule_forms.specs.linear_forms.RuleQuestions.{RuleForms}
use Rattle.cert_rules.specs.Nodes.{Proof, Cite, Start, Empty, Unreached, Never, Rank, Spread, Cycle}
use Rattle.cert_rules.specs.Nodes.{Weaken, CostBound}
use Rattle.cert_rules.specs.Numbering.{nodes_of}
use Rattle.cert_rules.specs.Gaps.{Gap}
use Rattle.cert_rules.specs.GapChecks.{GapFault}
use Rattle.cert_rules.specs.Known.{table_of}
use Rattle.cert_rules.specs.Setting.{Setting}
use Rattle.cert_rules.specs.AcceptsPlain.{may_run}
use Rattle.cert_rules.specs.Acceptance.{facts_of, joined_facts}
use Rattle.cert_rules.specs.Reasons.{Reason}
use Rattle.cert_rules.specs.Tests.{Test, first_failing}
use Rattle.cert_rules.specs.PlainTests.{cite_tests, empty_tests, unreached_tests, never_tests, weaken_tests}
use Rattle.cert_rules.specs.RankTests.{rank_tests}
use Rattle.cert_rules.specs.SizeTests.{spread_tests, cycle_tests}
use Rattle.cert_rules.specs.CostTests.{cost_tests}
use Rattle.cert_rules.specs.GapTests.{gap_tests}

-- the tests of a node after lemmas with these facts, in the order in which they are made
abbrev pub tests_of : Setting → List (List Fact) → Proof → List Test
tests_of s past (Cite n) = cite_tests past n
tests_of s past Start = []
tests_of s past (Empty t multipliers) = empty_tests s t multipliers
tests_of s past (Unreached t uses) = unreached_tests s (may_run (joined_facts s past uses)) t
tests_of s past (Never child) = never_tests (facts_of s past child)
tests_of s past (Rank node uses) = rank_tests s (table_of (joined_facts s past uses)) node
tests_of s past (Spread m uses) = spread_tests s (table_of (joined_facts s past uses)) m
tests_of s past (Cycle members uses) = cycle_tests s (table_of (joined_facts s past uses)) members
tests_of s past (Weaken child b) = weaken_tests s (facts_of s past child) b
tests_of s past (CostBound node uses) = cost_tests s (table_of (joined_facts s past uses)) node

-- the first reason why a node isn't accepted after lemmas with these facts, supposing that its premises are accepted
abbrev pub first_reason : Setting → List (List Fact) → Proof → Option Reason
first_reason s past proof = first_failing (tests_of s past proof)

-- a reason, with the number of what it refuses
pub data Refused (R : Type 0) : Type 0 where
  At : ℕ → R → Refused R

-- the reason at this number, if there is one, else what comes later
abbrev pub numbered : {R : Type 0} → ℕ → Option R → Option (Refused R) → Option (Refused R)
numbered n None later = later
numbered n (Some r) later = Some (At n r)

-- the first element of a list that has a reason, by its number counted from n, with this reason
abbrev pub first_refused : {A R : Type 0} → (A → Option R) → ℕ → List A → Option (Refused R)
first_refused why n [] = None
first_refused why n (x ∷ xs) = numbered n (why x) (first_refused why (suc n) xs)

-- the first node of a lemma that has a reason, by its number, with this reason
abbrev pub refused_node : Setting → List (List Fact) → Proof → Option (Refused Reason)
refused_node s past proof = first_refused (first_reason s past) 1 (nodes_of proof)

-- the first lemma with such a node, by its number counted from n, with the node's number and reason
abbrev pub refused_lemma : Setting → List (List Fact) → ℕ → List Proof → Option (Refused (Refused Reason))
refused_lemma s past n [] = None
refused_lemma s past n (proof ∷ proofs) =
    numbered n (refused_node s past proof) (refused_lemma s (past ++ facts_of s past proof ∷ []) (suc n) proofs)

-- no node of a lemma has a reason; and none of these lemmas, each after those before it, has such a node
abbrev pub accepts : Setting → List (List Fact) → Proof → Bool
accepts s past proof = is_none (refused_node s past proof)

abbrev pub accepts_lemmas : Setting → List Proof → Bool
accepts_lemmas s proofs = is_none (refused_lemma s [] 1 proofs)

-- the first gap that has a fault, by its number, with this fault
abbrev pub refused_gap : Program → (ℕ → RuleForms) → List Gap → Option (Refused GapFault)
refused_gap p rule gaps = first_refused (λ g. first_failing (gap_tests p rule g)) 1 gaps
