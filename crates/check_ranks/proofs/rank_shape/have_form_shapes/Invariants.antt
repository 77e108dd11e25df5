use Rattle.std.proofs.Common.{map, take}
use Rattle.std.specs.List.{All}
use Rattle.its_model.specs.Views.{program_of}
use Rattle.cert_types.specs.Views.{form_of}
use Rattle.cert_types.specs.cert_rules.AcceptsRank.{HasFormShape}
use Rattle.check_ranks.proofs.rank_shape.have_form_shapes.Given as goal

-- the forms before this one have the right shape
abbrev pub invariant-loop-form : goal.invariant-loop-form
invariant-loop-form l = All (HasFormShape (program_of l.p)) (map form_of (take l.form-index l.forms))
