use Rattle.std.proofs.Common.{refl, sym, ◌∙◌}
use Rattle.its_reader.proofs.LeftLaws.{ruled_ends, ruled_stops}
use Rattle.its_reader.proofs.draft.Draft.end_rules.Goals as goal

pub returns-then-is_close_bracket : goal.returns-then-is_close_bracket
returns-then-is_close_bracket c = λ w.
    record {
      each = λ ts next r k fresh. ruled_ends ts next _ r c.args.self.now _ k
          (sym c.is_close_bracket.ensures ∙ c.if-is_close_bracket.true) refl;
    }

pub returns-else-is_close_bracket : goal.returns-else-is_close_bracket
returns-else-is_close_bracket c = λ w.
    record {
      each = λ ts next r k fresh. ruled_stops ts next _ r _ w
          (sym c.is_close_bracket.ensures ∙ c.if-is_close_bracket.false);
    }
