use Rattle.std.proofs.Common.{refl}
use Rattle.expr_reader.specs.Faults.{fault_of}
use Rattle.its_reader.proofs.PartEndLaws.{guard_before}
use Rattle.its_reader.proofs.draft.RuleDraft.end_part_guard.Goals as goal

pub returns : goal.returns
returns c = record {
  fault = fault_of c.in_ok-fault.fault;
  now_is = refl;
  settles = guard_before c.inner_of.ensures c.in_ok-fault.ensures;
  found_is = c.kind_of-refusal.ensures;
  stays = record {
    name = refl;
    left = refl;
    source = refl;
    target = refl;
    updates = refl;
    expression = refl;
    cost =
        refl;
  };
  variables = refl;
}
