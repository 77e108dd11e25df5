use Rattle.std.proofs.Common.{◌≡◌, map, refl, ap, subst, ◌∙◌, Some, None}
use Rattle.std.specs.List.{find}
use Rattle.its_model.specs.Views.{rule_of}
use Rattle.expr_reader.specs.Variables.{names_in}
use Rattle.its_reader.specs.Finishing.{leaves}
use Rattle.its_reader.proofs.FinishLaws.{makes_found, makes_none}
use Rattle.its_reader.proofs.draft.Draft.into_program.Goals as goal

pub returns-in_ok-symbols-in-Some : goal.returns-in_ok-symbols-in-Some
returns-in_ok-symbols-in-Some c = record {
  each = λ rules k.
      makes_found c.args.start.name.now c.args.start.at rules c.args.self k (rule_of c.in-Some.first.now)
      (record {
        symbols = c.in_ok-symbols-in-Some.symbols;
        start = c.in-Some.first.now.source;
        start_names =
            c.in_ok-start_names-in-Some.start_names;
        rules = c.args.self.rules;
      })
      (subst (λ rs. find (leaves (names_in c.args.self.symbols.names) c.args.start.name.now) (map rule_of rs)
      ≡ Some (rule_of c.in-Some.first.now)) c.deref.ensures.value c.in-Some.ensures)
      c.in_ok-symbols-in-Some.ensures refl c.in_ok-start_names-in-Some.ensures refl;
}

pub returns-in-None : goal.returns-in-None
returns-in-None c = record {
  each = λ rules k.
      makes_none c.args.start.name.now c.args.start.at rules c.args.self k c.error.result
      (subst (λ rs. find (leaves (names_in c.args.self.symbols.names) c.args.start.name.now) (map rule_of rs) ≡ None)
      c.deref.ensures.value c.in-None.ensures)
      (c.error.ensures ∙ ap Some c.at.ensures);
}
