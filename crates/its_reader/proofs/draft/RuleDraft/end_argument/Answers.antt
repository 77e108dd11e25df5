use Rattle.std.proofs.Common.{refl, ap, ◌∙◌}
use Rattle.std.proofs.Common.{map}
use Rattle.poly_terms.specs.Views.{term_of}
use Rattle.its_reader.proofs.NameLists.{map-push}
use Rattle.its_reader.proofs.draft.RuleDraft.end_argument.Goals as goal

pub returns : goal.returns
returns c = record {
  made = term_of c.in_ok-update.update;
  ends = c.in_ok-update.ensures.ends;
  clears = c.in_ok-update.ensures.clears;
  updates = ap (map term_of) c.in_ok-push.ensures.items ∙ map-push term_of c.args.self.now.updates.items
      c.in_ok-update.update;
  found_is = c.in_ok-refusal.ensures;
  name = refl;
  left = refl;
  source = refl;
  variables = refl;
  guard = refl;
  cost = refl;
}
