-- The text says what an accepted file states, and the facts at symbols, which hold.
use Rattle.std.proofs.Common.{◌≡◌, List, map, sym, subst}
use Rattle.std.specs.List.{All}
use Rattle.its_model.specs.Views.{program_of}
use Rattle.claims_check.specs.Views.{stated_of}
use Rattle.refined_types.specs.Views.{file_view}
use Rattle.symbol_facts.specs.Facts.{SymbolFact, IsSymbolFact}
use Rattle.symbol_facts.specs.Views.{fact_of}
use Rattle.symbol_facts.specs.declared.fact.SymbolFact as declared
use Rattle.claims_text.specs.Statements.{stated_text}
use Rattle.form_verdicts.proofs.SectionFacts.{section-facts_hold}
use Rattle.form_verdicts.proofs.judging.acceptance_text.Goals as goal

pub returns : goal.returns
returns c = record {
  facts = map fact_of c.in_ok-facts.facts.items;
  stated = map stated_of c.args.stated.now;
  accepted = c.requires.accepted;
  by_copies = c.in_ok-facts.ensures;
  facts_hold =
      subst (λ (facts : List SymbolFact). All (IsSymbolFact (program_of c.args.program.now)) facts)
      (sym c.in_ok-facts.ensures)
      (section-facts_hold c.symbol_facts_hold.ensures (program_of c.args.program.now) (file_view c.args.file.now).section
      c.requires.valid c.requires.accepted.accepted.section);
  hold = c.requires.hold;
  result_is =
      subst
      (λ (facts : List declared.SymbolFact). c.in_ok-text.text.items
      ≡ stated_text (program_of c.args.program.now) (map fact_of facts) (map stated_of c.args.stated.now))
      c.as_slice-known.ensures.value c.in_ok-text.ensures;
}
