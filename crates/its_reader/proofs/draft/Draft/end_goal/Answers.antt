use Rattle.std.proofs.Common.{refl, sym, ◌∙◌}
use Rattle.its_reader.proofs.SectionLaws.{goal_ends, goal_goes_on}
use Rattle.its_reader.proofs.draft.Draft.end_goal.Goals as goal

pub returns-then-is_close_bracket : goal.returns-then-is_close_bracket
returns-then-is_close_bracket c =
    record {
      each = λ ts next f k. goal_ends ts next _ f c.args.self.now _ k
          (sym c.is_close_bracket.ensures ∙ c.if-is_close_bracket.true) refl;
    }

pub returns-else-is_close_bracket : goal.returns-else-is_close_bracket
returns-else-is_close_bracket c =
    record {
      each = λ ts next f k. goal_goes_on ts next _ f _ k
          (sym c.is_close_bracket.ensures ∙ c.if-is_close_bracket.false);
    }
