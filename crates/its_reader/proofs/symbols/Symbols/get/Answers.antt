use Rattle.std.proofs.Common.{◌≡◌, sym, ap, subst, ◌∙◌, Some, None}
use Rattle.std.specs.Prelude.{slice_get}
use Rattle.std.specs.Option.{option_copied}
use Rattle.expr_reader.specs.Variables.{names_in}
use Rattle.its_reader.proofs.ListedLaws.{key_found, key_missing, tabled_at, tabled_none}
use Rattle.its_reader.proofs.symbols.Symbols.get.Goals as goal

pub returns-in-Some : goal.returns-in-Some
returns-in-Some c =
    c.listed.ensures
    ∙ tabled_at (names_in c.args.self.now.names) c.args.self.now.arities.items c.args.number c.in-Some.name.now.now
    (subst (λ ns. slice_get ns c.args.number ≡ Some c.in-Some.name.now.now) c.names.ensures
    (key_found c.names.result.now.keys c.args.number c.in-Some.name.now
    (sym c.get_index.ensures.key ∙ ap option_copied c.in-Some.is)))

pub returns-in-None : goal.returns-in-None
returns-in-None c =
    tabled_none (names_in c.args.self.now.names) c.args.self.now.arities.items c.args.number
    (subst (λ ns. slice_get ns c.args.number ≡ None) c.names.ensures
    (key_missing c.names.result.now.keys c.args.number
    (sym c.get_index.ensures.key ∙ ap option_copied c.in-None.is)))
