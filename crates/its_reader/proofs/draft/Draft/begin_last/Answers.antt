use Rattle.std.proofs.Common.{sym, ◌∙◌}
use Rattle.its_reader.proofs.SectionLaws.{rules_begin, last_promise}
use Rattle.its_reader.proofs.draft.Draft.begin_last.Goals as goal

pub returns-then-is_word : goal.returns-then-is_word
returns-then-is_word c = λ g s v.
    record {
      each = λ ts next f k. rules_begin ts next _ f c.args.self.now _ k g s v
          (sym c.is_word.ensures ∙ c.if-is_word.true) c.begin_rules.ensures.sections c.begin_rules.ensures.rules
          c.begin_rules.ensures.fresh;
    }

pub returns-else-is_word : goal.returns-else-is_word
returns-else-is_word c = λ g s v. last_promise _ c.args.self.now _ c.is_word-else-is_word.result g s v
    (sym c.is_word.ensures ∙ c.if-is_word.false) c.is_word-else-is_word.ensures c.leads_if.ensures
