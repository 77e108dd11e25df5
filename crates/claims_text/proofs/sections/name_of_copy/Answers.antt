use Rattle.std.proofs.Common.{◌∙◌, ap}
use Rattle.claims_text.specs.Sections.{name_in}
use Rattle.claims_text.proofs.sections.name_of_copy.Goals as goal

pub returns-in-Some : goal.returns-in-Some
returns-in-Some c = c.deref.ensures.value ∙ ap name_in c.in-Some.ensures

pub returns-in-None : goal.returns-in-None
returns-in-None c = ap name_in c.in-None.ensures
