-- The shape of the section of facts: its facts are forms with a coefficient for each place, and it has a list of
-- multipliers for each fact of the copy that a branch leads to.
use Rattle.std.specs.Prelude.{◌≡◌, ℕ, suc, nat_eq, not, if◌then◌else◌, List, [], ◌∷◌, ◌++◌, map, filter, length}
use Rattle.std.specs.Prelude.{Bool, slice_get, slice_index_or, neg_ℤ}
use Rattle.std.specs.List.{range_with_len}
use Rattle.its_model.specs.linear_forms.Forms.{Form}
use Rattle.refined_programs.specs.model.Programs.{Rule, Program, arity_of}
use Rattle.refined_programs.specs.refinement.Sections as plain
use Rattle.refined_programs.specs.Annotated as annotated
use Rattle.refined_programs.specs.Annotated.{To, Never, If}
use Rattle.location_facts.specs.declared.fact.LocFact.{LocFact}
use Rattle.facts_section.specs.Needed.{needed_facts}
use Rattle.facts_section.specs.Copies.{branch_of_rule, coefficient, fact_copies, name_in}

-- a fact as a form over n places: the difference less the number that it is at least
abbrev pub fact_form : ℕ → LocFact → Form
fact_form n f = record { coefs = map (coefficient f) (range_with_len 1 n); constant = neg_ℤ f.least }

-- the copy of a symbol, with forms as its facts
abbrev pub form_copy_at : Program → List LocFact → ℕ → annotated.Copy
form_copy_at p kept s = record {
  name = name_in (slice_get p.symbols s);
  over = s;
  facts = map (fact_form (arity_of p s)) (needed_facts p kept s);
}

-- a copy is of another symbol than the start symbol
abbrev pub is_other_form_copy : Program → annotated.Copy → Bool
is_other_form_copy p c = not (nat_eq c.over p.start)

-- a copy of each symbol, with forms as its facts, that of the start symbol first
abbrev pub form_copies : Program → List LocFact → List annotated.Copy
form_copies p kept =
    form_copy_at p kept p.start
    ∷ filter (is_other_form_copy p) (map (form_copy_at p kept) (range_with_len 0 (length p.symbols)))

-- the number of facts that are needed at each symbol
abbrev pub needed_counts : Program → List LocFact → List ℕ
needed_counts p kept = map (λ s. length (needed_facts p kept s)) (range_with_len 0 (length p.symbols))

-- the number of lists of multipliers, if cases are a step to a copy
abbrev pub lists_in : annotated.Cases → ℕ
lists_in (To k by) = length by
lists_in (Never by) = 0
lists_in (If test yes_cases no_cases) = 0

-- a branch without its multipliers, and the number of its lists of multipliers
pub record CountedBranch : Type 0 where
  pub branch : plain.Branch
  pub lists : ℕ

abbrev pub counted : annotated.Branch → CountedBranch
counted b = record { branch = annotated.branch_of b; lists = lists_in b.cases }

-- the branch of the rule with number t, with a list of multipliers for each fact at its target, given how many facts
-- each symbol has
abbrev pub counted_branch : Program → List ℕ → ℕ → Rule → CountedBranch
counted_branch p counts t r = record { branch = branch_of_rule p t r; lists = slice_index_or counts r.target 0 }

-- the branches of the rules that leave a symbol, where the first rule has number t
abbrev pub counted_at : Program → List ℕ → ℕ → ℕ → List Rule → List CountedBranch
counted_at p counts s t [] = []
counted_at p counts s t (r ∷ rules) =
    (if nat_eq r.source s then counted_branch p counts t r ∷ [] else []) ++ counted_at p counts s (suc t) rules

-- the branches at copies, in order
abbrev pub counted_branches : Program → List ℕ → List plain.Copy → List CountedBranch
counted_branches p counts [] = []
counted_branches p counts (c ∷ copies) =
    counted_at p counts c.over 1 p.rules ++ counted_branches p counts copies

-- a section has the copies and branches of the section of facts, with a coefficient for each place of each fact, and a
-- list of multipliers for each fact that is needed at the target of a branch
pub record HasFactsShape (p : Program) (kept : List LocFact) (s : annotated.Section) : Type 0 where
  pub copies : s.copies ≡ form_copies p kept
  pub branches : map counted s.branches ≡ counted_branches p (needed_counts p kept) (fact_copies p kept)
