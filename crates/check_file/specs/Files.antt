-- The answer on a proof file.
use Rattle.std.specs.Prelude.{◌≡◌, ◌<◌, ◌^◌, List, length, map, ⊤}
use Rattle.std.specs.List.{All, AllByRecursion}
use Rattle.model.specs.Facts.{Fact}
use Rattle.model.specs.Programs.{Program}
use Rattle.cert_types.specs.AnswerViews.{reason_of, fault_of}
use Rattle.cert_types.specs.Views.{proof_of}
use Rattle.cert_types.specs.declared.file.ProofFile as code
use Rattle.cert_types.specs.cert_rules.Nodes.{Proof}
use Rattle.cert_types.specs.cert_rules.Numbering.{nodes_of}
use Rattle.cert_types.specs.cert_rules.Acceptance.{facts_of_lemmas}
use Rattle.cert_types.specs.cert_rules.Gaps.{Gap, ProofFile}
use Rattle.cert_types.specs.cert_rules.GapChecks.{GapHolds}
use Rattle.cert_types.specs.cert_rules.Refusals.{FailsFirst, IsFirstFault, IsRefusedAt, IsRefusedAtGap}
use Rattle.cert_types.specs.cert_rules.Setting.{Setting}
use Rattle.cert_types.specs.rule_forms.Ranking.{NoRank}
use Rattle.cert_types.specs.cert_program.Laws.{AcceptsFileFor}
use Rattle.cert_types.specs.cert_program.RankedSets.{forms_at, ranked_set}
use Rattle.cert_types.specs.cert_program.Setting.{setting_of}
use Rattle.check_file.specs.declared.error.CheckError.{CheckError}
use Rattle.check_file.specs.declared.error.CheckError.TheVariants as error
use Rattle.check_file.specs.declared.gaps.RefusedGap.{RefusedGap}
use Rattle.cert_context.specs.Statements.{all_facts}

-- a lemma has fewer than 2^32 nodes
abbrev pub HasFewNodes : Proof → Type 0
HasFewNodes proof = length (nodes_of proof) < 2 ^ 32

-- the lemmas of a file, its gaps, and the nodes of each lemma can be numbered in 32 bits
pub record CanBeNumbered (f : code.ProofFile) : Type 0 where
  pub lemmas : length f.lemmas.items < 2 ^ 32
  pub gaps : length f.gaps.items < 2 ^ 32
  pub nodes : AllByRecursion HasFewNodes (map proof_of f.lemmas.items)

-- lemmas are refused at this node of this lemma, for this reason
abbrev pub RefusesLemmas : Setting → List Proof → CheckError → Type 0
RefusesLemmas s proofs (error.No lemma node reason) = IsRefusedAt s proofs lemma node (reason_of reason)
RefusesLemmas s proofs (error.NoGap gap fault) = ⊥
RefusesLemmas s proofs error.Memory = ⊤

-- all gaps hold
abbrev pub HoldAll : Program → List Gap → Type 0
HoldAll p gaps = All (GapHolds p (forms_at p)) gaps

-- this gap is the first that doesn't hold, and this is its first fault
abbrev pub IsFirstOff : Program → List Gap → RefusedGap → Type 0
IsFirstOff p gaps off =
    FailsFirst (GapHolds p (forms_at p)) (IsFirstFault p (forms_at p)) gaps off.gap (fault_of off.fault)

-- a file is accepted, and these are the facts of its lemmas, in order
pub record IsAcceptedWith (p : Program) (f : ProofFile) (facts : List Fact) : Type 0 where
  pub accepted : AcceptsFileFor p f
  pub result_is : facts ≡ all_facts (facts_of_lemmas (setting_of p) f.lemmas)

-- a file is refused at the first node that isn't accepted, with its first reason; or, if all lemmas are accepted, at
-- the first gap that doesn't hold, with its first fault; running out of memory is always permitted
abbrev pub RefusesFile : Program → ProofFile → CheckError → Type 0
RefusesFile p f (error.No lemma node reason) = IsRefusedAt (setting_of p) f.lemmas lemma node (reason_of reason)
RefusesFile p f (error.NoGap gap fault) = IsRefusedAtGap (setting_of p) (forms_at p) f gap (fault_of fault)
RefusesFile p f error.Memory = ⊤

-- for each gap, no affine function with coefficient 0 at its shut places ranks its strict rule over its set
abbrev pub ExcludeFunctions : Program → List Gap → Type 0
ExcludeFunctions p gaps = All (λ g. NoRank (ranked_set p g.set g.rule g.shut)) gaps
