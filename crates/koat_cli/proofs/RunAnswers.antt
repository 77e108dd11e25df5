-- Texts of runs are decided.
use Rattle.model.specs.Programs.{Program}
use Rattle.text_grammar.specs.ByteTexts.{tokens}
use Rattle.run_replay.specs.Texts.{runs_of}
use Rattle.run_replay.specs.Spelled.{IsTextWithin}
use Rattle.run_replay.proofs.RunParts.{runs_lawful}
use Rattle.run_replay.proofs.RunText.{written_parsed}
use Rattle.call_plans.specs.declared.status.Status.TheVariants.{RunRefused}
use Rattle.call_plans.specs.Lawful.{IsDecided}
use Rattle.koat_cli.specs.RunTexts.{runs, run_limit, run_too_long_text, run_refusal_text}
use Rattle.koat_cli.proofs.GrammarTexts.{texts_decided}

-- texts of runs are decided
pub run_texts_decided : (p : Program) → IsDecided (runs p)
run_texts_decided p =
    texts_decided (runs_of p) (runs_lawful p) tokens (IsTextWithin p) (written_parsed p) run_limit RunRefused
    run_too_long_text run_refusal_text
