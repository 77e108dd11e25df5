use Rattle.std.proofs.Common.{refl, sym, ap, ◌∙◌}
use Rattle.its_reader.specs.Views.{words_of}
use Rattle.its_reader.proofs.LeftLaws.{ruled_named}
use Rattle.its_reader.proofs.draft.Draft.begin_rule.Goals as goal

pub returns-in-Some-clause-leads : goal.returns-in-Some-clause-leads
returns-in-Some-clause-leads c =
    record {
      each = λ ts next r k fresh. ruled_named ts next _ r c.args.self.now _ c.in-Some.name.now k fresh
          (sym c.word.ensures ∙ ap words_of c.in-Some.is) refl refl refl refl refl refl refl refl refl;
    }

pub returns-in-None-clause-leads : goal.returns-in-None-clause-leads
returns-in-None-clause-leads c = c.end_rules.ensures (sym c.word.ensures ∙ ap words_of c.in-None.is)

pub returns-in-None-clause-sourced : goal.returns-in-None-clause-sourced
returns-in-None-clause-sourced c = λ name e. let none = sym c.word.ensures ∙ ap words_of c.in-None.is in cc
