use Rattle.std.proofs.Common.{◌∙◌, ap, length, arith}
use Rattle.model.specs.Programs.{Program}
use Rattle.its_model.specs.Views.{program_of}
use Rattle.program_claims.specs.Copies.{cost_charges}
use Rattle.claims_check.specs.Below.{positions}
use Rattle.claims_check.specs.Views.{section_in}
use Rattle.claims_check.proofs.BelowLaws.{rules-few, below-few, copies-below}
use Rattle.claims_check.proofs.tables.make_tables.Goals as goal

pub rules_below-requires : goal.rules_below-requires
rules_below-requires c = omega (arith, rules-few c.args.evidence c.requires)

pub rule_copies-requires : goal.rule_copies-requires
rule_copies-requires c =
    omega (
      arith,
      below-few c.args.evidence c.in_ok-below.below.items c.requires c.in_ok-below.ensures,
      ap length c.deref.ensures.value,
    )

pub returns : goal.returns
returns c =
    let e = c.args.evidence in
    let p = program_of e.program.now in
    record {
      counted = omega (arith, c.in_ok-copies.ensures.counted, c.len-rules.ensures);
      copies = λ rule low.
          c.in_ok-copies.ensures.copies.each rule low
          ∙ (ap (positions rule 1) (c.deref.ensures.value ∙ c.in_ok-below.ensures)
          ∙ copies-below p (section_in e) rule);
      never = c.in_ok-never.ensures.tell;
      costs = c.in_ok-costs.ensures ∙ ap (λ (q : Program). cost_charges 1 q.rules) c.requires.above;
    }
