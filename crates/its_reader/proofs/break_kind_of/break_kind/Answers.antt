use Rattle.std.proofs.Common.{ap, ◌∙◌}
use Rattle.its_reader.specs.FaultTests.{break_kind_in}
use Rattle.its_reader.specs.Views.{piece_of}
use Rattle.its_reader.proofs.break_kind_of.break_kind.Goals as goal

pub returns : goal.returns
returns c = c.break_kind_of_wanted.ensures ∙ ap (λ v. break_kind_in v (piece_of c.args.next)) c.wants_left.ensures
