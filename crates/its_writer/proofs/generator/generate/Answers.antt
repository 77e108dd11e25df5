-- The result is the generated program, which its text spells within the limits, so it is valid.
use Rattle.std.proofs.Common.{refl, subst, sym}
use Rattle.its_text.specs.Spelling.{SpellsWithin}
use Rattle.its_text.specs.expr_text.its_model.Valid.{IsValid}
use Rattle.its_model.specs.declared.program.Program.{Program}
use Rattle.its_writer.specs.Texts.{canonical_text}
use Rattle.its_writer.proofs.GeneratedMade.{program_made}
use Rattle.its_writer.proofs.GeneratedWithin.{generated_spelled, generated_valid}
use Rattle.its_writer.proofs.generator.generate.Goals as goal

pub returns-clause-spelled : goal.returns-clause-spelled
returns-clause-spelled c =
    let p : Program = record {
      symbols = c.in_ok-locations.field-0;
      start = 0;
      start_names = c.in_ok-two_names.field-0;
      rules = c.in_ok-rules.field-0;
    } in
    subst (λ q. SpellsWithin (canonical_text q) q)
    (sym (program_made p c.args.n c.in_ok-locations.ensures refl c.in_ok-two_names.ensures c.in_ok-rules.ensures))
    (generated_spelled c.args.n c.requires)

pub returns-clause-valid : goal.returns-clause-valid
returns-clause-valid c =
    let p : Program = record {
      symbols = c.in_ok-locations.field-0;
      start = 0;
      start_names = c.in_ok-two_names.field-0;
      rules = c.in_ok-rules.field-0;
    } in
    subst IsValid
    (sym (program_made p c.args.n c.in_ok-locations.ensures refl c.in_ok-two_names.ensures c.in_ok-rules.ensures))
    (generated_valid c.args.n c.requires)
