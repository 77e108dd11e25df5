-- Refusals agree with acceptance, and an accepted file proves what it states.
use Rattle.std.specs.Prelude.{◌≡◌, ◌↔◌, ℕ, List, All}
use Rattle.run_counting.specs.model.Programs.{Program}
use Rattle.run_counting.specs.model.Facts.{Fact, Holds}
use Rattle.rule_forms.specs.linear_forms.RuleQuestions.{RuleForms, RankedSet}
use Rattle.rule_forms.specs.RankLaws.{IsSetOf}
use Rattle.rule_forms.specs.Ranking.{NoRank}
use Rattle.cert_rules.specs.Nodes.{Proof}
use Rattle.cert_rules.specs.Numbering.{nodes_of}
use Rattle.cert_rules.specs.Gaps.{Gap, ProofFile}
use Rattle.cert_rules.specs.GapChecks.{GapFault}
use Rattle.cert_rules.specs.GapLaws.{IsAbout}
use Rattle.cert_rules.specs.Setting.{Setting, IsFaithful}
use Rattle.cert_rules.specs.Acceptance.{AcceptsNode, Accepts, AcceptsLemmas, facts_of_lemmas}
use Rattle.cert_rules.specs.Reasons.{Reason}
use Rattle.cert_rules.specs.Refusals.{IsRefusedAt, AcceptsFile, IsRefusedAtGap}

-- a lemma is accepted exactly if each of its nodes is accepted by itself
pub record LemmasAreTheirNodes : Type 0 where
  pub each : (s : Setting) (past : List (List Fact)) (proof : Proof)
      → Accepts s past proof ↔ All (AcceptsNode s past) (nodes_of proof)

-- there is no node at which these lemmas are refused
pub record HasNoRefusal (s : Setting) (proofs : List Proof) : Type 0 where
  pub none : (lemma node : ℕ) (r : Reason) → ¬ (IsRefusedAt s proofs lemma node r)

-- lemmas are accepted exactly if there is no node at which they are refused; and they are refused at one node of one
-- lemma at most, for one reason
pub record RefusalsAreInLine : Type 0 where
  pub none : (s : Setting) (proofs : List Proof) → AcceptsLemmas s proofs ↔ HasNoRefusal s proofs
  pub one : (s : Setting) (proofs : List Proof) (l m i j : ℕ) (q r : Reason) → IsRefusedAt s proofs l i q
      → IsRefusedAt s proofs m j r → (l ≡ m) × (i ≡ j) × (q ≡ r)

-- there is no gap at which this file is refused
pub record HasNoGapRefusal (s : Setting) (rule : ℕ → RuleForms) (f : ProofFile) : Type 0 where
  pub none : (g : ℕ) (x : GapFault) → ¬ (IsRefusedAtGap s rule f g x)

-- a file is accepted exactly if it is refused neither at a node nor at a gap; it isn't refused at both; and it is
-- refused at one gap at most, with one fault
pub record FileRefusalsAreInLine : Type 0 where
  pub none : (s : Setting) (rule : ℕ → RuleForms) (f : ProofFile)
      → AcceptsFile s rule f ↔ (HasNoRefusal s f.lemmas × HasNoGapRefusal s rule f)
  pub not_both : (s : Setting) (rule : ℕ → RuleForms) (f : ProofFile) (l i g : ℕ) (r : Reason) (x : GapFault)
      → IsRefusedAt s f.lemmas l i r → ¬ (IsRefusedAtGap s rule f g x)
  pub one : (s : Setting) (rule : ℕ → RuleForms) (f : ProofFile) (g h : ℕ) (x y : GapFault)
      → IsRefusedAtGap s rule f g x → IsRefusedAtGap s rule f h y → (g ≡ h) × (x ≡ y)

-- for every set of rules with these forms that a gap is about, no function with coefficient 0 at every shut place ranks
-- the strict rule
pub record ExcludesFunctions (p : Program) (rule : ℕ → RuleForms) (g : Gap) : Type 0 where
  pub each : (b : RankedSet) → b.rule ≡ rule → IsSetOf b → IsAbout p b g → NoRank b

-- a file holds: every fact of every lemma holds on all runs, and every gap excludes functions
pub record FileHolds (s : Setting) (rule : ℕ → RuleForms) (f : ProofFile) : Type 0 where
  pub facts : All (All (Holds s.program)) (facts_of_lemmas s f.lemmas)
  pub gaps : All (ExcludesFunctions s.program rule) f.gaps

-- an accepted file holds, whoever made it
pub record AcceptedFilesHold : Type 0 where
  pub each : (s : Setting) → IsFaithful s → (rule : ℕ → RuleForms) (f : ProofFile) → AcceptsFile s rule f
      → FileHolds s rule f
