use Rattle.std.proofs.Common.{◌≡◌, take, map}
use Rattle.refined_programs.specs.Views.{affine_form}
use Rattle.facts_section.specs.Counted.{fact_form}
use Rattle.facts_section.proofs.copies.forms_of.Given as goal

-- the forms are those of the facts passed
abbrev pub invariant-loop-fact : goal.invariant-loop-fact
invariant-loop-fact l = map affine_form l.forms.items ≡ map (fact_form l.arity) (take l.fact-index l.facts)
