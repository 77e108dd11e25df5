-- Ends with the numbers of their rules, and with the rules themselves; and the copies that ends at copies leave.
use Rattle.std.proofs.Common.{◌≡◌, ℕ, ◌+◌, ◌<◌, ◌≤◌, ◌||◌, Bool, false, List, [], ◌∷◌, ◌++◌, length, map, refl}
use Rattle.std.proofs.Common.{sym, ◌∙◌, ap, arith, Option}
use Rattle.std.specs.Prelude.{nat_eq, ◌&&◌, Result, Ok, Err, IfOk, option_map}
use Rattle.std.specs.List.{list_any}
use Rattle.std.proofs.lemmas.Bool.{le-leb, lt-leb}
use Rattle.std.proofs.lemmas.List.{map-append}
use Rattle.refined_programs.specs.model.Programs.{Program, rule_at}
use Rattle.refined_programs.specs.model.Limits.{rule_limit}
use Rattle.refined_programs.specs.refinement.Sections as plain
use Rattle.refined_programs.specs.refinement.Sections.{passes, facts_of}
use Rattle.refined_programs.specs.declared.section.Section as declared
use Rattle.refined_programs.specs.declared.section.SymbolCopy.{SymbolCopy}
use Rattle.refined_programs.specs.Annotated.{Branch, Section, copy_of, section_of}
use Rattle.refined_programs.specs.Ends.{Goal, AtCopy, Nowhere, End, ends}
use Rattle.refined_programs.specs.Views as views
use Rattle.refined_programs.specs.Views.{annotated_branch, annotated_of}
use Rattle.refined_programs.proofs.AnnotatedLaws.{copies-agree, section-agrees}
use Rattle.section_checks.specs.Faults.{BranchEnd, ends_of_branch, ends_of, rules_at, leaves_by, rules_among, leaves_start}
use Rattle.section_decide.specs.Deciding.{are_rules_right}
use Rattle.refinement_check.specs.declared.fault.SectionFault.{SectionFault}
use Rattle.refinement_check.specs.Stages.{ends_fault_by, ends_fault_of}
use Rattle.refinement_check.specs.Views.{fault_of, NumberedEnd, placed, numbered, numbered_ends_of_branch, numbered_ends, sources_by}
use Rattle.refinement_check.specs.Views.{sources_of}

-- the ends of a branch with their rule
ends-of-branch : (p : Program) (source rule : ℕ) (es : List End)
    → map (placed p) (map (numbered source rule) es)
    ≡ map (λ e. record { source = source; rule = rule_at p rule; end = e }) es
ends-of-branch p source rule [] = refl
ends-of-branch p source rule (e ∷ es) =
    ap (λ (xs : List BranchEnd). record { source = source; rule = rule_at p rule; end = e } ∷ xs)
    (ends-of-branch p source rule es)

-- the ends of all branches with their rules
pub ends-placed : (p : Program) (s : Section) (branches : List Branch)
    → map (placed p) (numbered_ends (section_of s) branches) ≡ ends_of p s branches
ends-placed p s [] = refl
ends-placed p s (b ∷ branches) =
    map-append (placed p) (numbered_ends_of_branch (section_of s) b) (numbered_ends (section_of s) branches)
    ∙ (ap (λ (xs : List BranchEnd). xs ++ map (placed p) (numbered_ends (section_of s) branches))
    (ends-of-branch p b.source b.rule (ends (map passes (facts_of (section_of s) b.source)) b.cases))
    ∙ ap (λ (xs : List BranchEnd). ends_of_branch p s b ++ xs) (ends-placed p s branches))

-- the copies that ends at copies leave are as many as these ends
pub sources-count : (p : Program) (es : List NumberedEnd) → length (sources_of es) ≡ rules_among (map (placed p) es)
sources-count p [] = refl
sources-count p (e ∷ es) = go e.end.goal (sources-count p es)
  where
    go : (g : Goal) → length (sources_of es) ≡ rules_among (map (placed p) es)
        → length (sources_by e.source g ++ sources_of es) ≡ rules_at g + rules_among (map (placed p) es)
    go (AtCopy k by) h = omega (arith, h)
    go (Nowhere by) h = omega (arith, h)

-- the first copy is among them if such an end leaves it
pub sources-start : (p : Program) (es : List NumberedEnd)
    → list_any (λ n. nat_eq n 0) (sources_of es) ≡ leaves_start (map (placed p) es)
sources-start p [] = refl
sources-start p (e ∷ es) = go e.end.goal (sources-start p es)
  where
    go : (g : Goal) → list_any (λ n. nat_eq n 0) (sources_of es) ≡ leaves_start (map (placed p) es)
        → list_any (λ n. nat_eq n 0) (sources_by e.source g ++ sources_of es)
        ≡ (leaves_by e.source g || leaves_start (map (placed p) es))
    go (AtCopy k by) h = ap (λ (v : Bool). nat_eq e.source 0 || v) h
    go (Nowhere by) h = h

-- too many ends at copies are a fault; if there are few, they are right if one leaves the first copy
pub rules-over : (p : Program) (es : List NumberedEnd) (sources : List ℕ) → sources ≡ sources_of es
    → rule_limit < length sources → false ≡ are_rules_right (map (placed p) es)
rules-over p es sources e over =
    let many : rule_limit < rules_among (map (placed p) es) =
    omega (arith, over, ap (length {A = ℕ}) e, sources-count p es) in
    sym (ap (λ (v : Bool). v && leaves_start (map (placed p) es)) (lt-leb _ _ many))

pub rules-few : (p : Program) (es : List NumberedEnd) (sources : List ℕ) (leaves : Bool) → sources ≡ sources_of es
    → length sources ≤ rule_limit → leaves ≡ list_any (λ n. nat_eq n 0) sources
    → leaves ≡ are_rules_right (map (placed p) es)
rules-few p es sources leaves e few h =
    let within : rules_among (map (placed p) es) ≤ rule_limit =
    omega (arith, few, ap (length {A = ℕ}) e, sources-count p es) in
    h ∙ (ap (list_any (λ n. nat_eq n 0)) e ∙ (sources-start p es
    ∙ sym (ap (λ (v : Bool). v && leaves_start (map (placed p) es)) (le-leb _ _ within))))

-- the fault of the ends of the code's section is that of the plain section's ends
ends-agree : (p : Program) (section : declared.Section) (copies : List SymbolCopy) (es : List NumberedEnd)
    → copies ≡ section.copies.items
    → es ≡ numbered_ends (views.section_of section) (map annotated_branch section.branches.items)
    → ends_fault_by (map views.copy_of copies) (map (placed p) es) ≡ ends_fault_of p (annotated_of section)
ends-agree p section copies es same e =
    let s : Section = annotated_of section in
    ap (λ (cs : List plain.Copy). ends_fault_by cs (map (placed p) es))
    (ap (map views.copy_of) same ∙ sym (copies-agree section.copies.items))
    ∙ ap (λ (xs : List BranchEnd). ends_fault_by (map copy_of s.copies) xs)
    (ap (map (placed p)) (e ∙ ap (λ (x : plain.Section). numbered_ends x s.branches) (sym (section-agrees section)))
    ∙ ends-placed p s s.branches)

pub ok_ends_agree : {E : Type 0} (r : Result (Option SectionFault) E) (p : Program) (section : declared.Section)
    (copies : List SymbolCopy) (es : List NumberedEnd) → copies ≡ section.copies.items
    → es ≡ numbered_ends (views.section_of section) (map annotated_branch section.branches.items)
    → IfOk r (λ found. option_map fault_of found ≡ ends_fault_by (map views.copy_of copies) (map (placed p) es))
    → IfOk r (λ found. option_map fault_of found ≡ ends_fault_of p (annotated_of section))
ok_ends_agree (Ok found) p section copies es same e h = h ∙ ends-agree p section copies es same e
ok_ends_agree (Err x) p section copies es same e h = tt
