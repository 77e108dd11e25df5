use Rattle.std.proofs.Common.{refl, sym, ◌∙◌}
use Rattle.its_reader.specs.declared.parser_state.TargetState.TheVariants as places
use Rattle.its_reader.proofs.RightLaws.{com_ends, com_stops}
use Rattle.its_reader.proofs.RightPromises.{always_right}
use Rattle.its_reader.proofs.draft.Draft.close_com.Goals as goal

pub returns-then-is_close_bracket : goal.returns-then-is_close_bracket
returns-then-is_close_bracket c = always_right places.TargetClosed _ c.args.self.now _ _
    (λ ts next f k. com_ends ts next _ f c.args.self.now _ k
    (sym c.is_close_bracket.ensures ∙ c.if-is_close_bracket.true) refl)

pub returns-else-is_close_bracket : goal.returns-else-is_close_bracket
returns-else-is_close_bracket c = always_right places.TargetClosed _ c.args.self.now _ _
    (λ ts next f k. com_stops ts next _ f _ k (sym c.is_close_bracket.ensures ∙ c.if-is_close_bracket.false))
