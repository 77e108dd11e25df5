use Rattle.std.proofs.Common.{refl, sym, ap, ◌∙◌}
use Rattle.its_reader.specs.Views.{words_of}
use Rattle.its_reader.proofs.SectionLaws.{variables_end, variables_go_on, variables_stop}
use Rattle.its_reader.proofs.draft.Draft.list_variable.Goals as goal

pub returns-then-is_close_bracket : goal.returns-then-is_close_bracket
returns-then-is_close_bracket c =
    record {
      each = λ ts next f k. variables_end ts next _ f c.args.self.now _ k
          (sym c.is_close_bracket.ensures ∙ c.if-is_close_bracket.true) refl;
    }

pub returns-in-Some : goal.returns-in-Some
returns-in-Some c = record {
  each = λ ts next f k. variables_go_on ts next _ f _ _ k
      (sym c.word.ensures ∙ ap words_of c.in-Some.is);
}

pub returns-in-None : goal.returns-in-None
returns-in-None c = record {
  each = λ ts next f k. variables_stop ts next _ f _ k
      (sym c.is_close_bracket.ensures ∙ c.if-is_close_bracket.false) (sym c.word.ensures ∙ ap words_of c.in-None.is);
}
