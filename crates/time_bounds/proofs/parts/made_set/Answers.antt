use Rattle.std.proofs.Common.{◌≡◌, length, sym, ap, ◌∙◌, arith}
use Rattle.std.proofs.lemmas.List.{length-map}
use Rattle.its_model.specs.Views.{symbol_of, program_of}
use Rattle.model.specs.Entries.{entries}
use Rattle.rank_search.specs.rule_questions.ProgramQuestions.{places_of}
use Rattle.size_bounds.specs.Tables.{bounds_in}
use Rattle.time_bounds.proofs.SetLaws.{set_of_rule}
use Rattle.time_bounds.proofs.ShutBySymbol.{shut_right}
use Rattle.time_bounds.proofs.parts.made_set.Goals as goal

pub back_closure-requires-clause-entry : goal.back_closure-requires-clause-entry
back_closure-requires-clause-entry c = c.requires.flags.each 0 (omega arith) ∙ c.requires.table.start

pub returns : goal.returns
returns c =
    let p = program_of c.args.cx.now.program.now in
    let tab = c.args.table.now in
    let set = c.in_ok-set.set.items in
    let entering : c.deref-2.result.now ≡ entries p set =
    c.deref-2.ensures.value ∙ (c.in_ok-entering.ensures ∙ ap (entries p) c.deref.ensures.value) in
    record {
      set = set_of_rule p (bounds_in tab) c.args.untimed.now c.args.rule set c.requires.flags.each c.in_ok-set.ensures.ascending
          (λ e. c.in_ok-set.ensures.members p c.requires.ready.graph e);
      shut = shut_right p tab set c.deref-2.result.now (places_of c.in_ok-shut.shut.items) (length c.args.cx.now.program.now.symbols.items)
          (sym (length-map c.args.cx.now.program.now.symbols.items symbol_of)) entering c.in_ok-shut.ensures;
    }
