-- The name at the number's position is the only one written from there.
use Rattle.std.proofs.Common.{sym, ap, ◌∙◌, take, drop, List}
use Rattle.std.specs.Option.{option_copied}
use Rattle.its_text.specs.expr_text.model.Programs.{Name}
use Rattle.expr_reader.specs.Variables.{names_in}
use Rattle.its_writer.proofs.Written.{one_there, none_there, name_led, name_missing}
use Rattle.its_writer.proofs.names.write_variable.Goals as goal

pub returns-in_ok-write_bytes-in-Some : goal.returns-in_ok-write_bytes-in-Some
returns-in_ok-write_bytes-in-Some c =
    name_led (take 1 (drop c.args.number (names_in c.args.known.now))) c.in-Some.name.now.now c.args.text.now.items c.write_bytes.new.text.items c.write_bytes-in-Some.new.text.items c.write_bytes-in-Some.result
    (ap (λ (ns : List Name). take 1 (drop c.args.number ns)) (sym c.names.ensures)
    ∙ one_there (λ k. k.now) c.names.result.now.keys c.args.number c.in-Some.name.now (sym c.get_index.ensures.key ∙ ap option_copied c.in-Some.is))
    c.in_ok-write_bytes-in-Some.ensures c.write_bytes-in-Some.ensures

pub returns-in-None : goal.returns-in-None
returns-in-None c =
    name_missing (take 1 (drop c.args.number (names_in c.args.known.now))) c.args.text.now.items
    (ap (λ (ns : List Name). take 1 (drop c.args.number ns)) (sym c.names.ensures)
    ∙ none_there (λ k. k.now) c.names.result.now.keys c.args.number (sym c.get_index.ensures.key ∙ ap option_copied c.in-None.is))
