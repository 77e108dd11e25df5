-- Preconditions of the functions of this crate: facts that can be printed, and the texts of errors.
use Rattle.std.specs.Prelude.{◌≡◌, ℕ, List}
use Rattle.model.specs.Facts.{Fact}
use Rattle.model.specs.Programs.{Program}
use Rattle.bound_expr.specs.Numbers.{ReadsBelow}
use Rattle.cert_types.specs.AnswerViews.{reason_of, fault_of}
use Rattle.cert_types.specs.cert_rules.Laws.{bound_in}
use Rattle.check_file.specs.declared.error.CheckError.{CheckError}
use Rattle.check_file.specs.declared.error.CheckError.TheVariants as error
use Rattle.check_text.specs.Texts.{refused_node_text, refused_gap_text}

-- the bound of a fact reads the first n inputs alone
abbrev pub FactReadsBelow : ℕ → Fact → Type 0
FactReadsBelow n f = ReadsBelow n (bound_in f)

-- the text states the first refusal and its reason; running out of memory has no text
abbrev pub StatesError : Program → CheckError → List ℕ → Type 0
StatesError p (error.No lemma node reason) text = text ≡ refused_node_text lemma node (reason_of reason)
StatesError p (error.NoGap gap fault) text = text ≡ refused_gap_text p gap (fault_of fault)
StatesError p error.Memory text = ⊥
