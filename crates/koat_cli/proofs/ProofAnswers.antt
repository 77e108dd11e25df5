-- Texts of proof files of any form are decided.
use Rattle.std.proofs.Common.{ℕ, List}
use Rattle.model.specs.Programs.{Program}
use Rattle.its_reader.specs.its_text.Spelling.{SpellsWithin}
use Rattle.its_reader.proofs.its_text.ValidPrograms.{spelled_valid}
use Rattle.check_text.specs.Texts.{proof_refusal_text}
use Rattle.proof_forms.specs.Texts.{IsFirstRefusal}
use Rattle.proof_forms.specs.Laws.{ProofTextsAreDecided}
use Rattle.call_plans.specs.Lawful.{IsDecided}
use Rattle.koat_cli.specs.ProofTexts.{proofs}
use Rattle.koat_cli.proofs.FewSymbols.{few_symbols}
use Rattle.koat_cli.proofs.Statements.{stated-unique}

-- texts of proof files of a program that is spelled are decided
pub proof_texts_decided : ProofTextsAreDecided → (spelling : List ℕ) (p : Program) → SpellsWithin spelling p
    → IsDecided (proofs p)
proof_texts_decided laws spelling p spelled =
    let valid = spelled_valid spelling p spelled in
    let few = few_symbols spelling p spelled in
    record {
      one = λ bytes a b h k. laws.one p bytes a b valid few h k;
      one_refusal = λ bytes. stated-unique (IsFirstRefusal p bytes) proof_refusal_text (laws.one_refusal p bytes);
      apart = λ bytes a text stands refused. laws.apart p bytes a refused.subject valid few stands refused.is;
    }
