use Rattle.std.proofs.Common.{arith}
use Rattle.bound_text.proofs.SizeLaws.{levels_here}
use Rattle.bound_text.specs.Views.{outer_of, parts_in}
use Rattle.bound_text.proofs.state.Reader.levels.Goals as goal

pub returns : goal.returns
returns c = omega (
  arith,
  levels_here c.args.self.now.position (outer_of c.args.self.now.outer.opened.items) (parts_in c.args.self.now.terms) (parts_in c.args.self.now.factors),
  c.sum_node.ensures.value (outer_of c.args.self.now.outer.opened.items) c.requires,
  c.args.self.now.terms.deep,
  c.args.self.now.factors.deep,
)
