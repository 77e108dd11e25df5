use Rattle.std.proofs.Common.{refl}
use Rattle.poly_terms.specs.Views.{term_of}
use Rattle.its_reader.proofs.draft.RuleDraft.end_cost.Goals as goal

pub returns : goal.returns
returns c = record {
  made = term_of c.in_ok-cost.cost;
  ends = c.in_ok-cost.ensures.ends;
  clears = c.in_ok-cost.ensures.clears;
  cost = refl;
  found_is = c.in_ok-refusal.ensures;
  left = refl;
  source = refl;
  variables = refl;
  updates = refl;
  guard = refl;
}
