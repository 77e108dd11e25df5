use Rattle.std.proofs.Common.{sym, ap, ◌∙◌, subst}
use Rattle.std.proofs.lemmas.Result.{err_from_is_err_and}
use Rattle.std.proofs.lemmas.Bool.{true≢false}
use Rattle.its_model.specs.Valid.{IsValid}
use Rattle.its_model.specs.Views.{program_of}
use Rattle.refinement.specs.Sections as plain
use Rattle.refinement.specs.Sections.{spelled}
use Rattle.refined_programs.specs.Views.{annotated_of}
use Rattle.refined_programs.proofs.AnnotatedLaws.{section-agrees}
use Rattle.section_checks.proofs.Deciding.{accepted_sections_spell_valid}
use Rattle.check_refined.proofs.PartAnswers.{section-refused}
use Rattle.check_refined.proofs.section.accepted_program.Goals as goal

pub returns-then-not-is_named : goal.returns-then-not-is_named
returns-then-not-is_named c = λ h. true≢false (sym (c.in_ok-is_named.ensures.1 h) ∙ c.if-not-is_named.true)

pub returns-in_err-accept : goal.returns-in_err-accept
returns-in_err-accept c =
    let q = err_from_is_err_and c.from_residual-in_err-accept.result c.from_residual-in_err-accept.ensures.1 in
    rw (q.1, q.2)
    (section-refused (program_of c.args.p.now) (annotated_of c.args.section.now) _
    (c.in_ok-is_named.ensures.0 c.if-not-is_named.false) c.in_err-accept.ensures)

pub returns : goal.returns
returns c =
    let p = program_of c.args.p.now in
    let s = annotated_of c.args.section.now in
    let named = c.in_ok-is_named.ensures.0 c.if-not-is_named.false in
    let whole =
    c.in_ok-spelled_program.ensures ∙ ap (λ (x : plain.Section). spelled p x)
    (sym (section-agrees c.args.section.now)) in
    record {
      names = named;
      accepted = c.in_ok-accept.ensures;
      program = whole;
      valid = subst IsValid (sym whole)
          (accepted_sections_spell_valid.valid p s c.requires named c.in_ok-accept.ensures);
    }
