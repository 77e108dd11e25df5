use Rattle.std.proofs.Common.{◌≡◌, drop, map}
use Rattle.std.specs.List.{list_all}
use Rattle.refined_programs.specs.Views.{affine_form}
use Rattle.section_decide.specs.Deciding.{is_wide}
use Rattle.refinement_check.proofs.shape.are_wide.Given as goal

-- whether all forms have the right number of coefficients depends on those left
abbrev pub invariant-loop-form : goal.invariant-loop-form
invariant-loop-form l =
    list_all (is_wide l.width) (map affine_form (drop l.form-index l.forms))
    ≡ list_all (is_wide l.width) (map affine_form l.forms)
