use Rattle.std.proofs.Common.{ap, ◌∙◌, is_ok}
use Rattle.bound_text.specs.Brackets.{outer_of}
use Rattle.bound_text.specs.Views.{outer_in}
use Rattle.bound_text.proofs.ViewLaws.{outer_of_push, rounds_pushed}
use Rattle.bound_text.proofs.brackets.Brackets.open.Goals as goal

pub invariant_of-self : goal.invariant_of-self
invariant_of-self c = record {
  counted = rounds_pushed (is_ok c.push.result) c.args.self.now.opened.items c.push.new.self.items _ c.push.ensures.items c.args.self.now.counted
      (c.count_in-opened.ensures (outer_in c.args.self.now) c.round-round.ensures);
}

pub returns : goal.returns
returns c = ap outer_of c.in_ok-push.ensures.items ∙ outer_of_push c.args.self.now.opened.items _
