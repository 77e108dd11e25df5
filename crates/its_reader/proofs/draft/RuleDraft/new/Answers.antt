use Rattle.std.proofs.Common.{rules, refl}
use Rattle.its_reader.proofs.draft.RuleDraft.new.Goals as goal

pub returns : goal.returns
returns c = record {
  variables = c.new.ensures;
  updates = search rules;
  expression = c.new-3.ensures;
  guard = c.new-4.ensures;
  cost = refl;
}
