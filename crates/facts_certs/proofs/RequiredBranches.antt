-- The branches of the section of facts are the required ones, and its facts are wide.
use Rattle.std.proofs.Common.{◌≡◌, ℕ, suc, Bool, true, false, List, [], ◌∷◌, ◌++◌, map}
use Rattle.std.proofs.Common.{refl, sym, ◌∙◌, ap, subst, if◌then◌else◌}
use Rattle.std.specs.Prelude.{nat_eq, ⊤}
use Rattle.std.specs.List.{AllByRecursion}
use Rattle.std.proofs.lemmas.Bool.{eqb-true}
use Rattle.std.proofs.lemmas.List.FromFn.{length-map-range_with_len}
use Rattle.refined_programs.specs.model.Programs.{Program, Rule, arity_of}
use Rattle.refined_programs.specs.refinement.Sections as plain
use Rattle.refined_programs.specs.Annotated as annotated
use Rattle.section_checks.specs.Faults.{Due, IsWide, branch_checks, due, due_at, fact_check, fact_checks}
use Rattle.cert_rules.specs.Reasons.{AllPass}
use Rattle.location_facts.specs.declared.fact.LocFact.{LocFact}
use Rattle.facts_section.specs.Copies.{branch_of_rule, branches_at, branches_of, coefficient, copy_at, copy_number}
use Rattle.facts_section.specs.Copies.{fact_copies}
use Rattle.facts_section.specs.Counted.{fact_form, form_copies, form_copy_at}
use Rattle.facts_section.specs.Needed.{needed_facts}
use Rattle.facts_section.proofs.CopyNumbers.{AreNumbered, all-numbered, copies-by_symbol, forms-by_symbol, symbols_of}
use Rattle.facts_certs.proofs.StepEnds.{numbered-pass}

-- branches are the required ones, one by one
abbrev AreRequired : List plain.Branch → List Due → Type 0
AreRequired [] [] = ⊤
AreRequired [] (d ∷ ds) = ⊥
AreRequired (b ∷ bs) [] = ⊥
AreRequired (b ∷ bs) (d ∷ ds) = ((b.source ≡ d.source) × (b.rule ≡ d.rule)) × AreRequired bs ds

required-both : (cs bs : List plain.Branch) (ds es : List Due) → AreRequired cs ds → AreRequired bs es
    → AreRequired (cs ++ bs) (ds ++ es)
required-both [] bs [] es first second = second
required-both [] bs (d ∷ ds) es first second = absurd first
required-both (c ∷ cs) bs [] es first second = absurd first
required-both (c ∷ cs) bs (d ∷ ds) es first second = (first.0, required-both cs bs ds es first.1 second)

-- one required branch
abbrev required_branch : ℕ → ℕ → Due
required_branch k t = record { source = k; rule = t }

-- at the copy with the number of a symbol's copy
required-at : (p : Program) (k s t : ℕ) (rules : List Rule) → copy_number p s ≡ k
    → AreRequired (branches_at p s t rules) (due_at k s t rules)
required-at p k s t [] number = tt
required-at p k s t (r ∷ rules) number = go (nat_eq r.source s) refl (required-at p k s (suc t) rules number)
  where
    go : (v : Bool) → nat_eq r.source s ≡ v → AreRequired (branches_at p s (suc t) rules) (due_at k s (suc t) rules)
        → AreRequired ((if v then branch_of_rule p t r ∷ [] else []) ++ branches_at p s (suc t) rules)
        ((if v then required_branch k t ∷ [] else []) ++ due_at k s (suc t) rules)
    go true e rest = ((ap (copy_number p) (eqb-true r.source s e) ∙ number, refl), rest)
    go false e rest = rest

required-all : (p : Program) (kept : List LocFact) (k : ℕ) (ss : List ℕ) → AreNumbered p k ss
    → AreRequired (branches_of p (map (copy_at p kept) ss)) (due p k (map (form_copy_at p kept) ss))
required-all p kept k [] numbered = tt
required-all p kept k (s ∷ ss) numbered =
    required-both (branches_at p s 1 p.rules) (branches_of p (map (copy_at p kept) ss)) (due_at k s 1 p.rules)
    (due p (suc k) (map (form_copy_at p kept) ss)) (required-at p k s 1 p.rules numbered.0)
    (required-all p kept (suc k) ss numbered.1)

-- so the checks of branches pass
required-pass : (k : ℕ) (bs : List annotated.Branch) (ds : List Due) → AreRequired (map annotated.branch_of bs) ds
    → AllPass (branch_checks k bs ds)
required-pass k [] [] required = tt
required-pass k [] (d ∷ ds) required = absurd required
required-pass k (b ∷ bs) [] required = absurd required
required-pass k (b ∷ bs) (d ∷ ds) required = (required.0, required-pass (suc k) bs ds required.1)

pub branches-pass : (p : Program) (kept : List LocFact) (s : annotated.Section)
    → map annotated.branch_of s.branches ≡ branches_of p (fact_copies p kept) → s.copies ≡ form_copies p kept
    → AllPass (branch_checks 1 s.branches (due p 0 s.copies))
branches-pass p kept s branches copies =
    required-pass 1 s.branches (due p 0 s.copies)
    (subst (λ (bs : List plain.Branch). AreRequired bs (due p 0 s.copies))
    (sym (branches ∙ ap (λ (cs : List plain.Copy). branches_of p cs) (copies-by_symbol p kept)))
    (subst (λ (cs : List annotated.Copy). AreRequired (branches_of p (map (copy_at p kept) (symbols_of p))) (due p 0 cs))
    (sym (copies ∙ forms-by_symbol p kept)) (required-all p kept 0 (symbols_of p) (all-numbered p))))

-- forms of facts are wide
forms-wide : (n : ℕ) (facts : List LocFact) → AllByRecursion (IsWide n) (map (fact_form n) facts)
forms-wide n [] = tt
forms-wide n (f ∷ facts) = (length-map-range_with_len (coefficient f) 1 n, forms-wide n facts)

copies-wide : (p : Program) (kept : List LocFact) (ss : List ℕ)
    → AllByRecursion (λ c. AllByRecursion (IsWide (arity_of p c.over)) c.facts) (map (form_copy_at p kept) ss)
copies-wide p kept [] = tt
copies-wide p kept (s ∷ ss) = (forms-wide (arity_of p s) (needed_facts p kept s), copies-wide p kept ss)

pub facts-pass : (p : Program) (kept : List LocFact) (copies : List annotated.Copy) → copies ≡ form_copies p kept
    → AllPass (fact_checks p 1 copies)
facts-pass p kept copies same =
    numbered-pass (fact_check p) (λ c. AllByRecursion (IsWide (arity_of p c.over)) c.facts) (λ k c wide. wide) 1 copies
    (subst (λ (cs : List annotated.Copy). AllByRecursion
    (λ (c : annotated.Copy). AllByRecursion (IsWide (arity_of p c.over)) c.facts) cs)
    (sym (same ∙ forms-by_symbol p kept)) (copies-wide p kept (symbols_of p)))
