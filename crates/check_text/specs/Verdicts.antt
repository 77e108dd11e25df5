-- The verdict of the checker on a proof file, with its text.
use Rattle.std.specs.Prelude.{◌≡◌, ℕ, List}
use Rattle.std.specs.List.{All}
use Rattle.model.specs.Facts.{Fact, Holds}
use Rattle.model.specs.Programs.{Program}
use Rattle.cert_types.specs.cert_rules.GapChecks.{GapFault}
use Rattle.cert_types.specs.cert_rules.Gaps.{ProofFile}
use Rattle.cert_types.specs.cert_rules.Reasons.{Reason}
use Rattle.cert_types.specs.cert_rules.Refusals as plain
use Rattle.cert_types.specs.cert_program.RankedSets.{forms_at}
use Rattle.cert_types.specs.cert_program.Setting.{setting_of}
use Rattle.check_file.specs.Files.{IsAcceptedWith, ExcludeFunctions}
use Rattle.check_text.specs.declared.verdict.Verdict.{Verdict}
use Rattle.check_text.specs.declared.verdict.Verdict.TheVariants.{Accepted, Refused}
use Rattle.check_text.specs.Texts.{accepted_text, refused_node_text, refused_gap_text}

-- every lemma and every gap of the file is accepted; every fact of its lemmas holds on all runs of the program, and no
-- function with coefficient 0 at a gap's shut places ranks its rule; and the text has all facts, in order, and the gaps
pub record IsAcceptance (p : Program) (f : ProofFile) (text : List ℕ) : Type 0 where
  pub facts : List Fact
  pub accepted : IsAcceptedWith p f facts
  pub hold : All (Holds p) facts
  pub exclude : ExcludeFunctions p f.gaps
  pub result_is : text ≡ accepted_text p facts f.gaps

-- a node of a lemma isn't accepted, all before it are, and the text states it and its first reason
pub record IsRefusedNode (p : Program) (f : ProofFile) (text : List ℕ) : Type 0 where
  pub lemma : ℕ
  pub node : ℕ
  pub reason : Reason
  pub refused : plain.IsRefusedAt (setting_of p) f.lemmas lemma node reason
  pub result_is : text ≡ refused_node_text lemma node reason

-- all lemmas are accepted, a gap doesn't hold, all before it do, and the text states it and its first fault
pub record IsRefusedGap (p : Program) (f : ProofFile) (text : List ℕ) : Type 0 where
  pub gap : ℕ
  pub fault : GapFault
  pub refused : plain.IsRefusedAtGap (setting_of p) (forms_at p) f gap fault
  pub result_is : text ≡ refused_gap_text p gap fault

-- the file is refused: at a node, or else at a gap
pub data IsRefusal (p : Program) (f : ProofFile) (text : List ℕ) : Type 0 where
  AtNode : IsRefusedNode p f text → IsRefusal p f text
  AtGap : IsRefusedGap p f text → IsRefusal p f text

-- a verdict has a text that is right: one of acceptance, or one of a refusal
abbrev pub IsVerdictBy : (List ℕ → Type 0) → (List ℕ → Type 0) → Verdict → Type 0
IsVerdictBy Accepts Refuses (Accepted text) = Accepts text.items
IsVerdictBy Accepts Refuses (Refused text) = Refuses text.items

-- a verdict on a file is right
abbrev pub IsVerdict : Program → ProofFile → Verdict → Type 0
IsVerdict p f = IsVerdictBy (IsAcceptance p f) (IsRefusal p f)
