use Rattle.std.proofs.Common.{◌≡◌, ◌+◌, ◌∷◌, ◌∙◌, ap, List, Option, map, drop, subst}
use Rattle.std.specs.Prelude.{option_map}
use Rattle.cert_rules.specs.Tests.{first_failing}
use Rattle.refined_programs.specs.model.Programs.{Program, rule_at}
use Rattle.refined_programs.specs.refinement.Sections as plain
use Rattle.refined_programs.specs.its_model.Views.{program_of}
use Rattle.refined_programs.specs.Views.{copy_of}
use Rattle.section_checks.specs.Faults.{BranchEnd, Obligation, obligations_of}
use Rattle.section_decide.specs.Deciding.{obligation_tests, certificate_tests, first_in_stages}
use Rattle.refinement_check.specs.declared.fault.SectionFault.{SectionFault}
use Rattle.refinement_check.specs.Views.{fault_of, obligation_of, numbered_end_of, placed}
use Rattle.refinement_check.proofs.Verdicts.{more, here-prepared, left-within, left-fails, left-passes}
use Rattle.refinement_check.proofs.accepting.unmet_end.Goals as goal

pub unmet-requires : goal.unmet-requires
unmet-requires c =
    let p : Program = program_of c.args.p.now in
    let copies : List plain.Copy = map copy_of c.args.copies.now in
    let i = c.loop-i.i in
    let x = c.index-ends-i.result in
    let now : List BranchEnd = map (placed p) (map numbered_end_of (drop i c.args.ends.now)) in
    let es : List BranchEnd = map (placed p) (map numbered_end_of (drop (i + 1) c.args.ends.now)) in
    let left : now ≡ placed p (numbered_end_of x) ∷ es =
    ap (map (placed p)) (more numbered_end_of c.args.ends.now i x c.loop-i-test.true c.index-ends-i.is) in
    let os : List Obligation = map obligation_of c.deref.result.now in
    let same : os ≡ obligations_of copies (i + 1) (rule_at p (numbered_end_of x).rule) (numbered_end_of x).end =
    ap (map obligation_of) c.deref.ensures.value ∙ c.in_ok-found.ensures in
    here-prepared p c.requires.valid copies (i + 1) (numbered_end_of x) es now os left c.loop-i.invariant.within same

pub returns-in-Some : goal.returns-in-Some
returns-in-Some c =
    let p : Program = program_of c.args.p.now in
    let copies : List plain.Copy = map copy_of c.args.copies.now in
    let i = c.loop-i.i in
    let x = c.index-ends-i.result in
    let now : List BranchEnd = map (placed p) (map numbered_end_of (drop i c.args.ends.now)) in
    let es : List BranchEnd = map (placed p) (map numbered_end_of (drop (i + 1) c.args.ends.now)) in
    let left : now ≡ placed p (numbered_end_of x) ∷ es =
    ap (map (placed p)) (more numbered_end_of c.args.ends.now i x c.loop-i-test.true c.index-ends-i.is) in
    let os : List Obligation = map obligation_of c.deref.result.now in
    let same : os ≡ obligations_of copies (i + 1) (rule_at p (numbered_end_of x).rule) (numbered_end_of x).end =
    ap (map obligation_of) c.deref.ensures.value ∙ c.in_ok-found.ensures in
    left-fails copies (i + 1) (placed p (numbered_end_of x)) es now os (fault_of c.in-Some.fault)
    (first_in_stages (certificate_tests copies 1 (map (placed p) (map numbered_end_of c.args.ends.now)))) left same
    (subst (λ (f : Option SectionFault). option_map fault_of f ≡ first_failing (obligation_tests (i + 1) os)) c.in-Some.is
    c.in_ok-fault.ensures) c.loop-i.invariant.decide

pub loop-i-preserved : goal.loop-i-preserved
loop-i-preserved c =
    let p : Program = program_of c.args.p.now in
    let copies : List plain.Copy = map copy_of c.args.copies.now in
    let i = c.loop-i.i in
    let x = c.index-ends-i.result in
    let now : List BranchEnd = map (placed p) (map numbered_end_of (drop i c.args.ends.now)) in
    let es : List BranchEnd = map (placed p) (map numbered_end_of (drop (i + 1) c.args.ends.now)) in
    let left : now ≡ placed p (numbered_end_of x) ∷ es =
    ap (map (placed p)) (more numbered_end_of c.args.ends.now i x c.loop-i-test.true c.index-ends-i.is) in
    let os : List Obligation = map obligation_of c.deref.result.now in
    let same : os ≡ obligations_of copies (i + 1) (rule_at p (numbered_end_of x).rule) (numbered_end_of x).end =
    ap (map obligation_of) c.deref.ensures.value ∙ c.in_ok-found.ensures in
    record {
      decide = left-passes copies (i + 1) (placed p (numbered_end_of x)) es now os
          (first_in_stages (certificate_tests copies 1 (map (placed p) (map numbered_end_of c.args.ends.now)))) left same
          (subst (λ (f : Option SectionFault). option_map fault_of f ≡ first_failing (obligation_tests (i + 1) os))
          c.in_default.is c.in_ok-fault.ensures) c.loop-i.invariant.decide;
      within = left-within copies (i + 1) (placed p (numbered_end_of x)) es now left c.loop-i.invariant.within;
    }
