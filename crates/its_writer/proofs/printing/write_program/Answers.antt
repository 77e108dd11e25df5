-- The sections are written one after the other.
use Rattle.std.proofs.Common.{ap, subst, ◌∙◌, ◌++◌, [], map}
use Rattle.its_model.specs.Views.{program_of, symbol_of, rule_of}
use Rattle.expr_reader.specs.Variables.{names_in}
use Rattle.its_writer.specs.Layout.{each_then}
use Rattle.its_writer.specs.Expressions.{name_at}
use Rattle.its_writer.specs.Texts.{rule_then, with_rules}
use Rattle.its_writer.specs.Printing.{WritesAll}
use Rattle.its_writer.proofs.Written.{program_written}
use Rattle.its_writer.proofs.printing.write_program.Goals as goal

pub returns : goal.returns
returns c =
    program_written (program_of c.args.p.now) (names_in c.in_ok-variables.variables) c.args.text.now.items c.write_bytes.new.text.items c.write_symbol.new.text.items c.write_bytes-2.new.text.items
    c.write_variables.new.text.items c.write_bytes-3.new.text.items c.write_rules.new.text.items c.write_bytes-4.new.text.items c.write_bytes-4.result
    (c.in_ok-variables.ensures ∙ ap (λ rs. with_rules [] (map rule_of rs)) c.deref.ensures.value)
    c.in_ok-write_bytes.ensures
    (subst (λ ss. WritesAll c.write_bytes.new.text.items c.write_symbol.new.text.items (λ rest. name_at (map (λ s. s.name) (map symbol_of ss)) c.args.p.now.start ++ rest)) c.deref-2.ensures.value
    c.in_ok-write_symbol.ensures)
    c.in_ok-write_bytes-2.ensures c.in_ok-write_variables.ensures c.in_ok-write_bytes-3.ensures
    (subst (λ rs. WritesAll c.write_bytes-3.new.text.items c.write_rules.new.text.items (each_then (rule_then (map (λ s. s.name) (map symbol_of c.args.p.now.symbols.items))) (map rule_of rs))) c.deref-4.ensures.value
    (subst (λ ss. WritesAll c.write_bytes-3.new.text.items c.write_rules.new.text.items (each_then (rule_then (map (λ s. s.name) (map symbol_of ss))) (map rule_of c.deref-4.result.now))) c.deref-3.ensures.value
    c.in_ok-write_rules.ensures))
    c.write_bytes-4.ensures
