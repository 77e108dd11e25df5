use Rattle.std.proofs.Common.{refl, sym, ap, ◌∙◌}
use Rattle.its_reader.specs.Views.{words_of}
use Rattle.its_reader.proofs.SectionLaws.{start_ends, start_goes_on}
use Rattle.its_reader.proofs.draft.Draft.name_start.Goals as goal

pub returns-in-Some : goal.returns-in-Some
returns-in-Some c = record {
  each = λ ts next f k at. start_ends ts next _ f c.args.self.now _
      (record { name = c.in-Some.name.now; at = c.args.at }) k (sym c.word.ensures ∙ ap words_of c.in-Some.is) at refl
      refl refl refl refl refl;
}

pub returns-in-None : goal.returns-in-None
returns-in-None c = record {
  each = λ ts next f k at. start_goes_on ts next _ f _ k
      (sym c.word.ensures ∙ ap words_of c.in-None.is);
}
