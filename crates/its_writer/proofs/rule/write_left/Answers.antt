-- The left names are the first ones, as many as the rule has arguments.
use Rattle.std.proofs.Common.{◌≡◌, ap, subst, ◌∙◌, arith, min, length, map, take, List}
use Rattle.std.specs.Prelude.{codes, OnOk}
use Rattle.its_text.specs.expr_text.text_core.Names.{name_of}
use Rattle.its_text.specs.expr_text.model.Programs.{Name}
use Rattle.its_writer.specs.Layout.{joined_then}
use Rattle.its_writer.specs.Expressions.{name_then}
use Rattle.its_writer.specs.Printing.{WritesAll}
use Rattle.its_writer.proofs.Written.{taken}
use Rattle.its_writer.proofs.rule.write_left.Goals as goal

pub returns : goal.returns
returns c =
    let count : c.min-count.result ≡ min (length c.args.rule.now.names.items) c.args.rule.now.left = omega (arith, c.min-count.ensures, c.len.ensures) in
    subst (λ (ns : List Name). OnOk c.write_names.result (WritesAll c.args.text.now.items c.write_names.new.text.items (joined_then (codes ",") name_then ns)))
    (ap (λ xs. map name_of (take c.min-count.result xs)) c.deref.ensures.value ∙ ap (λ k. map name_of (take k c.args.rule.now.names.items)) count
    ∙ taken name_of c.args.rule.now.names.items c.args.rule.now.left) c.write_names.ensures
