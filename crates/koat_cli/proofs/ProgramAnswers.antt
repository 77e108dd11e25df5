-- Bytes spell at most one program, or are refused for one first fault, and not both.
use Rattle.std.proofs.Common.{◌≡◌, sym, ◌∙◌, ap}
use Rattle.model.specs.Programs.{Program}
use Rattle.its_model.specs.text_core.Readers.{Fault}
use Rattle.its_model.specs.text_core.Reading.{Answer, Parsed, Refused}
use Rattle.its_reader.specs.its_text.Kinds.{Kind}
use Rattle.call_plans.specs.Lawful.{IsDecided}
use Rattle.koat_cli.specs.ProgramTexts.{programs}
use Rattle.koat_cli.specs.Report.{refusal_text}
use Rattle.koat_cli.proofs.Determined.{Determined}

-- the fault for which a text is refused is unique
same_fault : (x y : Fault Kind) → ◌≡◌ {A = Answer Program Kind} (Refused x) (Refused y) → x ≡ y
same_fault x y e = cc

-- a text that is refused isn't read
refused_or_read : (x : Fault Kind) (p : Program) → ◌≡◌ {A = Answer Program Kind} (Refused x) (Parsed p) → ⊥
refused_or_read x p e = cc

-- texts of programs are decided
pub program_texts_decided : Determined → IsDecided programs
program_texts_decided laws = record {
  one = λ bytes a b h k. laws.programs.each bytes a b h.spells k.spells;
  one_refusal = λ bytes x y a b.
      a.result_is ∙ (ap (λ (f : Fault Kind). refusal_text f) (same_fault a.fault b.fault (sym a.refused ∙ b.refused)) ∙ sym b.result_is);
  apart = λ bytes p x stands refused.
      refused_or_read refused.fault p (sym refused.refused ∙ (laws.verdicts.stands bytes p).1 stands);
}
