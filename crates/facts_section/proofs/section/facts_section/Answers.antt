use Rattle.std.proofs.Common.{◌∙◌, ap, map, sym, List}
use Rattle.its_model.specs.Views.{program_of}
use Rattle.refined_programs.specs.Views.{copy_of}
use Rattle.refined_programs.specs.declared.section.SymbolCopy.{SymbolCopy}
use Rattle.location_facts.specs.declared.fact.LocFact.{LocFact}
use Rattle.facts_section.specs.declared.shares.SymbolFacts.{SymbolFacts}
use Rattle.facts_section.specs.Counted.{counted_branches, form_copies, needed_counts}
use Rattle.facts_section.specs.Lists.{needed_count}
use Rattle.facts_section.proofs.CopyLists.{section_by_parts}
use Rattle.facts_section.proofs.CountedLists.{branches_of_copies, copies_of_facts, has_shape}
use Rattle.facts_section.proofs.section.facts_section.Goals as goal

-- copies and branches are those of facts, without the forms of the one and the counts of the other
pub returns-clause-of_facts : goal.returns-clause-of_facts
returns-clause-of_facts c =
    sym (section_by_parts (program_of c.args.p.now) c.args.f.now.kept.items _ _
    (copies_of_facts (program_of c.args.p.now) c.args.f.now.kept.items c.in_ok-copies.copies.items
    (c.in_ok-copies.ensures
    ∙ ap (λ (kept : List LocFact). form_copies (program_of c.args.p.now) kept) c.deref.ensures.value))
    (branches_of_copies (program_of c.args.p.now) (map needed_count c.deref-4.result.now)
    (map copy_of c.in_ok-copies.copies.items) c.in_ok-branches.branches.items
    (c.in_ok-branches.ensures
    ∙ ap (λ (copies : List SymbolCopy). counted_branches (program_of c.args.p.now)
    (map needed_count c.deref-4.result.now) (map copy_of copies)) c.deref-6.ensures.value)))

-- and so is their shape
pub returns-clause-shape : goal.returns-clause-shape
returns-clause-shape c =
    has_shape (program_of c.args.p.now) c.args.f.now.kept.items c.in_ok-copies.copies.items
    c.in_ok-branches.branches.items (map needed_count c.deref-4.result.now)
    (c.in_ok-copies.ensures
    ∙ ap (λ (kept : List LocFact). form_copies (program_of c.args.p.now) kept) c.deref.ensures.value)
    (ap (λ (symbols : List SymbolFacts). map needed_count symbols) c.deref-4.ensures.value
    ∙ (c.in_ok-symbols.ensures
    ∙ ap (λ (kept : List LocFact). needed_counts (program_of c.args.p.now) kept) c.deref-2.ensures.value))
    (c.in_ok-branches.ensures
    ∙ ap (λ (copies : List SymbolCopy). counted_branches (program_of c.args.p.now)
    (map needed_count c.deref-4.result.now) (map copy_of copies)) c.deref-6.ensures.value)
