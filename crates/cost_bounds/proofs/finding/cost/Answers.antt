use Rattle.std.proofs.lemmas.Result.{IfOk-weaker}
use Rattle.its_model.specs.Views.{program_of}
use Rattle.cost_bounds.proofs.finding.cost.Goals as goal

pub cost_by_rows-requires : goal.cost_by_rows-requires
cost_by_rows-requires c = (
  program_of c.args.p.now,
  record { valid = c.requires.valid; graph = c.requires.graph; rows = c.in_ok-rows.ensures },
)

pub returns : goal.returns
returns c =
    IfOk-weaker c.cost_by_rows.result _ _
    (λ a h. h (program_of c.args.p.now)
    (record { valid = c.requires.valid; graph = c.requires.graph; rows = c.in_ok-rows.ensures }))
    c.cost_by_rows.ensures
