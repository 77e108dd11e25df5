-- Where a list of lemmas or a proof file is refused: at the first node, or else at the first gap, that isn't accepted.
use Rattle.std.specs.Prelude.{◌≡◌, ℕ, suc, List, ◌∷◌, ◌++◌, length, All}
use Rattle.rule_forms.specs.linear_forms.RuleQuestions.{RuleForms}
use Rattle.run_counting.specs.model.Programs.{Program}
use Rattle.cert_rules.specs.Nodes.{Proof}
use Rattle.cert_rules.specs.Numbering.{nodes_of}
use Rattle.cert_rules.specs.Gaps.{Gap, ProofFile}
use Rattle.cert_rules.specs.GapChecks.{GapFault, GapHolds, gap_checks}
use Rattle.cert_rules.specs.Setting.{Setting}
use Rattle.cert_rules.specs.Acceptance.{AcceptsNode, AcceptsLemmas, facts_of_lemmas}
use Rattle.cert_rules.specs.Reasons.{Reason, IsFirstAmong}
use Rattle.cert_rules.specs.Checks.{IsFirstReason}

-- element n of a list, counted from 1, is the first that fails, and this is why: all elements before it pass
pub record FailsFirst {A R : Type 0} (Passes : A → Type 0) (Fails : A → R → Type 0) (xs : List A) (n : ℕ) (why : R)
    : Type 0 where
  pub before : List A
  pub element : A
  pub behind : List A
  pub whole : xs ≡ before ++ element ∷ behind
  pub number : n ≡ suc (length before)
  pub passed : All Passes before
  pub fails : Fails element why

-- a list of lemmas is refused at a node of a lemma, both counted from 1: the lemmas before are accepted, and after them
-- this node is the first of the lemma that isn't accepted by itself, with this as its first reason
pub record IsRefusedAt (s : Setting) (proofs : List Proof) (lemma node : ℕ) (reason : Reason) : Type 0 where
  pub before : List Proof
  pub proof : Proof
  pub behind : List Proof
  pub whole : proofs ≡ before ++ proof ∷ behind
  pub number : lemma ≡ suc (length before)
  pub accepted : AcceptsLemmas s before
  pub first :
      FailsFirst (AcceptsNode s (facts_of_lemmas s before)) (IsFirstReason s (facts_of_lemmas s before))
      (nodes_of proof) node reason

-- a gap has this first fault: its check fails, and all checks before it pass
abbrev pub IsFirstFault : Program → (ℕ → RuleForms) → Gap → GapFault → Type 0
IsFirstFault p rule g fault = IsFirstAmong (gap_checks p rule g) fault

-- a file is accepted: all of its lemmas are, each after those before it, and every gap holds
pub record AcceptsFile (s : Setting) (rule : ℕ → RuleForms) (f : ProofFile) : Type 0 where
  pub lemmas : AcceptsLemmas s f.lemmas
  pub gaps : All (GapHolds s.program rule) f.gaps

-- a file is refused at a gap, counted from 1: all lemmas are accepted, and this gap is the first that doesn't hold,
-- with this as its first fault
pub record IsRefusedAtGap (s : Setting) (rule : ℕ → RuleForms) (f : ProofFile) (gap : ℕ) (fault : GapFault)
    : Type 0 where
  pub lemmas : AcceptsLemmas s f.lemmas
  pub first : FailsFirst (GapHolds s.program rule) (IsFirstFault s.program rule) f.gaps gap fault
