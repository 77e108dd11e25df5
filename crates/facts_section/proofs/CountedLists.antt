-- Counted branches and copies with forms, without the counts and the forms; and the lists of multipliers of a branch.
use Rattle.std.proofs.Common.{◌≡◌, ℕ, zero, suc, Bool, true, false, List, [], ◌∷◌, ◌++◌, map, filter, length}
use Rattle.std.proofs.Common.{◌+◌, Some, None, refl, sym, ◌∙◌, ap, arith, if◌then◌else◌}
use Rattle.std.specs.Prelude.{cond, nat_eq, not, slice_get, slice_index_or}
use Rattle.std.specs.List.{range_with_len}
use Rattle.std.proofs.lemmas.List.{map-append}
use Rattle.std.proofs.lemmas.List.FromFn.{map-range_with_len_more}
use Rattle.std.proofs.lemmas.Simd.{map-map}
use Rattle.refined_programs.specs.model.Terms.{Term}
use Rattle.refined_programs.specs.model.Programs.{Program, Rule, arity_of}
use Rattle.refined_programs.specs.refinement.Sections as plain
use Rattle.refined_programs.specs.Annotated as annotated
use Rattle.refined_programs.specs.Annotated.{form_term}
use Rattle.refined_programs.specs.Views.{annotated_branch, annotated_cases, annotated_copy, branch_of, copy_of}
use Rattle.refined_programs.specs.declared.section.Branch.{Branch}
use Rattle.refined_programs.specs.declared.section.SymbolCopy.{SymbolCopy}
use Rattle.refined_programs.proofs.AnnotatedLaws.{cases-agree, copies-agree}
use Rattle.location_facts.specs.declared.fact.LocFact.{LocFact}
use Rattle.facts_section.specs.declared.shares.SymbolFacts.{SymbolFacts}
use Rattle.facts_section.specs.Needed.{needed_facts}
use Rattle.facts_section.specs.Copies.{branch_of_rule, branches_at, branches_of, copy_at, fact_copies, is_other_copy}
use Rattle.facts_section.specs.Copies.{name_in}
use Rattle.facts_section.specs.Counted.{CountedBranch, HasFactsShape, counted, counted_at, counted_branch}
use Rattle.facts_section.specs.Counted.{counted_branches, fact_form, form_copies, form_copy_at, is_other_form_copy}
use Rattle.facts_section.specs.Counted.{lists_in, needed_counts}
use Rattle.facts_section.specs.Lists.{counted_of, needed_count}

-- the number of lists at a symbol that is there
pub count_there : (symbols : List SymbolFacts) (s : ℕ) (f : SymbolFacts) → slice_get symbols s ≡ Some f
    → needed_count f ≡ slice_index_or (map needed_count symbols) s 0
count_there [] s f e = cc
count_there (g ∷ symbols) zero f e = ap needed_count (some_is g f e)
  where
    some_is : (x y : SymbolFacts) → Some x ≡ Some y → y ≡ x
    some_is x y e = cc
count_there (g ∷ symbols) (suc s) f e = count_there symbols s f e

-- and at one that isn't
pub count_missing : (symbols : List SymbolFacts) (s : ℕ) → slice_get symbols s ≡ None
    → 0 ≡ slice_index_or (map needed_count symbols) s 0
count_missing [] s e = refl
count_missing (g ∷ symbols) zero e = cc
count_missing (g ∷ symbols) (suc s) e = count_missing symbols s e

-- the count of one more symbol
pub count_pushed : (p : Program) (kept : List LocFact) (n : ℕ) (old new : List ℕ)
    → old ≡ map (λ s. length (needed_facts p kept s)) (range_with_len 0 n)
    → new ≡ old ++ length (needed_facts p kept n) ∷ []
    → new ≡ map (λ s. length (needed_facts p kept s)) (range_with_len 0 (n + 1))
count_pushed p kept n old new e pushed =
    pushed
    ∙ (ap (λ (ns : List ℕ). ns ++ length (needed_facts p kept n) ∷ []) e
    ∙ sym (map-range_with_len_more (λ s. length (needed_facts p kept s)) 0 n n (omega arith)))

-- the copy of a symbol with forms as its facts has their expressions
plain-copy : (p : Program) (kept : List LocFact) (s : ℕ) → annotated.copy_of (form_copy_at p kept s) ≡ copy_at p kept s
plain-copy p kept s =
    ap (λ (ts : List Term). record { name = name_in (slice_get p.symbols s); over = s; facts = ts })
    (map-map form_term (fact_form (arity_of p s)) (needed_facts p kept s))

-- the same for the copies of the symbols other than the start symbol
other-copies : (p : Program) (kept : List LocFact) (xs : List ℕ)
    → map annotated.copy_of (filter (is_other_form_copy p) (map (form_copy_at p kept) xs))
    ≡ filter (is_other_copy p) (map (copy_at p kept) xs)
other-copies p kept [] = refl
other-copies p kept (s ∷ xs) = go (nat_eq s p.start) (other-copies p kept xs)
  where
    go : (v : Bool) → map annotated.copy_of (filter (is_other_form_copy p) (map (form_copy_at p kept) xs))
        ≡ filter (is_other_copy p) (map (copy_at p kept) xs)
        → map annotated.copy_of
        (cond (not v) (form_copy_at p kept s ∷ filter (is_other_form_copy p) (map (form_copy_at p kept) xs))
        (filter (is_other_form_copy p) (map (form_copy_at p kept) xs)))
        ≡ cond (not v) (copy_at p kept s ∷ filter (is_other_copy p) (map (copy_at p kept) xs))
        (filter (is_other_copy p) (map (copy_at p kept) xs))
    go true ih = ih
    go false ih =
        ap (λ (c : plain.Copy). c ∷ map annotated.copy_of (filter (is_other_form_copy p) (map (form_copy_at p kept) xs)))
        (plain-copy p kept s)
        ∙ ap (λ (cs : List plain.Copy). copy_at p kept s ∷ cs) ih

-- and for all copies
pub copies-plain : (p : Program) (kept : List LocFact) → map annotated.copy_of (form_copies p kept) ≡ fact_copies p kept
copies-plain p kept =
    ap (λ (c : plain.Copy). c ∷ map annotated.copy_of (filter (is_other_form_copy p)
    (map (form_copy_at p kept) (range_with_len 0 (length p.symbols)))))
    (plain-copy p kept p.start)
    ∙ ap (λ (cs : List plain.Copy). copy_at p kept p.start ∷ cs)
    (other-copies p kept (range_with_len 0 (length p.symbols)))

-- counted branches without their counts
plain-at : (p : Program) (counts : List ℕ) (s t : ℕ) (rules : List Rule)
    → map (λ (c : CountedBranch). c.branch) (counted_at p counts s t rules) ≡ branches_at p s t rules
plain-at p counts s t [] = refl
plain-at p counts s t (r ∷ rules) = go (nat_eq r.source s) (plain-at p counts s (suc t) rules)
  where
    go : (v : Bool)
        → map (λ (c : CountedBranch). c.branch) (counted_at p counts s (suc t) rules) ≡ branches_at p s (suc t) rules
        → map (λ (c : CountedBranch). c.branch)
        ((if v then counted_branch p counts t r ∷ [] else []) ++ counted_at p counts s (suc t) rules)
        ≡ (if v then branch_of_rule p t r ∷ [] else []) ++ branches_at p s (suc t) rules
    go true ih = ap (λ (bs : List plain.Branch). branch_of_rule p t r ∷ bs) ih
    go false ih = ih

pub branches-plain : (p : Program) (counts : List ℕ) (copies : List plain.Copy)
    → map (λ (c : CountedBranch). c.branch) (counted_branches p counts copies) ≡ branches_of p copies
branches-plain p counts [] = refl
branches-plain p counts (c ∷ copies) =
    map-append (λ (x : CountedBranch). x.branch) (counted_at p counts c.over 1 p.rules)
    (counted_branches p counts copies)
    ∙ (ap (λ (bs : List plain.Branch). bs ++ map (λ (x : CountedBranch). x.branch) (counted_branches p counts copies))
    (plain-at p counts c.over 1 p.rules)
    ∙ ap (λ (bs : List plain.Branch). branches_at p c.over 1 p.rules ++ bs) (branches-plain p counts copies))

-- copies of the code that are those of facts as forms are those of facts
pub copies_of_facts : (p : Program) (kept : List LocFact) (cs : List SymbolCopy)
    → map annotated_copy cs ≡ form_copies p kept → map copy_of cs ≡ fact_copies p kept
copies_of_facts p kept cs e =
    sym (copies-agree cs) ∙ (ap (λ (xs : List annotated.Copy). map annotated.copy_of xs) e ∙ copies-plain p kept)

-- counted branches of the code are those of copies
pub branches_of_copies : (p : Program) (counts : List ℕ) (copies : List plain.Copy) (bs : List Branch)
    → map counted_of bs ≡ counted_branches p counts copies → map branch_of bs ≡ branches_of p copies
branches_of_copies p counts copies bs e =
    sym (map-map (λ (c : CountedBranch). c.branch) counted_of bs)
    ∙ (ap (λ (cs : List CountedBranch). map (λ (c : CountedBranch). c.branch) cs) e ∙ branches-plain p counts copies)

-- a branch of the code with these cases in place of its own, counted
abbrev with_cases : Branch → plain.Cases → CountedBranch
with_cases b cases = record {
  branch = record { source = b.source; rule = b.rule; cases = cases };
  lists = lists_in (annotated_cases b.cases);
}

-- branches are counted in both views
counts-agree : (bs : List Branch) → map counted (map annotated_branch bs) ≡ map counted_of bs
counts-agree [] = refl
counts-agree (b ∷ bs) =
    ap (λ (cases : plain.Cases). with_cases b cases ∷ map counted (map annotated_branch bs)) (cases-agree b.cases)
    ∙ ap (λ (cs : List CountedBranch). counted_of b ∷ cs) (counts-agree bs)

-- the copies and branches of the code have the shape of the section of facts
pub has_shape : (p : Program) (kept : List LocFact) (cs : List SymbolCopy) (bs : List Branch) (counts : List ℕ)
    → map annotated_copy cs ≡ form_copies p kept → counts ≡ needed_counts p kept
    → map counted_of bs ≡ counted_branches p counts (map copy_of cs)
    → HasFactsShape p kept (record { copies = map annotated_copy cs; branches = map annotated_branch bs })
has_shape p kept cs bs counts copies same branches = record {
  copies = copies;
  branches = counts-agree bs
      ∙ (branches
      ∙ (ap (λ (ns : List ℕ). counted_branches p ns (map copy_of cs)) same
      ∙ ap (λ (xs : List plain.Copy). counted_branches p (needed_counts p kept) xs) (copies_of_facts p kept cs copies)));
}
