use Rattle.std.proofs.Common.{map, take, ap, sym, ◌∙◌}
use Rattle.std.proofs.lemmas.List.{take-map}
use Rattle.its_model.specs.Views.{name_of}
use Rattle.its_model.proofs.copies.left_names.Goals as goal

pub returns : goal.returns
returns c =
    ap (map name_of) c.truncate.ensures.items
    ∙ (sym (take-map name_of c.args.rule.now.left c.in_ok-names.names.items) ∙ ap (take c.args.rule.now.left) (c.in_ok-names.ensures ∙ ap (map name_of) c.deref.ensures.value))
