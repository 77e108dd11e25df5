-- The section of facts: one copy of each symbol, with the facts that are needed, and an untested step for each rule.
use Rattle.std.specs.Prelude.{◌≡◌, ℕ, zero, suc, nat_eq, not, if◌then◌else◌, List, [], ◌∷◌, ◌++◌, map, filter}
use Rattle.std.specs.Prelude.{length, Bool, Option, Some, None, slice_get, slice_index_or, nat_lt}
use Rattle.std.specs.Prelude.{ℤ, pos, negsuc, neg_ℤ, ◌-ℤ◌, ◌≤ℤ◌}
use Rattle.std.specs.List.{range_with_len}
use Rattle.refined_programs.specs.model.Terms.{Term}
use Rattle.refined_programs.specs.model.Programs.{Name, Rule, Symbol, Program, arity_of}
use Rattle.refined_programs.specs.refinement.Sections.{Branch, Copy, To, Section}
use Rattle.refined_programs.specs.Affine.{affine_term}
use Rattle.location_facts.specs.declared.fact.LocFact.{LocFact}
use Rattle.facts_section.specs.Needed.{needed_facts}

-- the coefficient of a place, numbered from 1, in the difference that a fact is on
abbrev pub coefficient : LocFact → ℕ → ℤ
coefficient f place = if nat_eq place f.plus then pos 1 else if nat_eq place f.minus then negsuc 0 else pos 0

-- a fact as an expression over n places: the difference less the number that it is at least
abbrev pub fact_term : ℕ → LocFact → Term
fact_term n f = affine_term (map (coefficient f) (range_with_len 1 n)) (neg_ℤ f.least)

-- the value at a place, numbered from 1, where variables have these values; place 0 stands for the number 0
abbrev pub value_at : List ℤ → ℕ → ℤ
value_at env zero = pos 0
value_at env (suc i) = slice_index_or env i (pos 0)

-- a fact is met where variables have these values
abbrev pub IsMetBy : LocFact → List ℤ → Type 0
IsMetBy f env = f.least ≤ℤ (value_at env f.plus -ℤ value_at env f.minus)

-- the name of a symbol
abbrev pub name_in : Option Symbol → Name
name_in None = []
name_in (Some s) = s.name

-- the copy of a symbol: its name, and the facts of it that are needed
abbrev pub copy_at : Program → List LocFact → ℕ → Copy
copy_at p kept s = record {
  name = name_in (slice_get p.symbols s);
  over = s;
  facts = map (fact_term (arity_of p s)) (needed_facts p kept s);
}

-- a copy is of another symbol than the start symbol
abbrev pub is_other_copy : Program → Copy → Bool
is_other_copy p c = not (nat_eq c.over p.start)

-- a copy of each symbol, that of the start symbol first
abbrev pub fact_copies : Program → List LocFact → List Copy
fact_copies p kept =
    copy_at p kept p.start
    ∷ filter (is_other_copy p) (map (copy_at p kept) (range_with_len 0 (length p.symbols)))

-- the number of the copy of a symbol: the first one is that of the start symbol, and the others follow in order
abbrev pub copy_number : Program → ℕ → ℕ
copy_number p s = if nat_eq s p.start then 0 else if nat_lt s p.start then suc s else s

-- the branch of the rule with number t: it leads to the copy of its target, without a test
abbrev pub branch_of_rule : Program → ℕ → Rule → Branch
branch_of_rule p t r = record { source = copy_number p r.source; rule = t; cases = To (copy_number p r.target) }

-- the branches of the rules that leave a symbol, where the first rule has number t
abbrev pub branches_at : Program → ℕ → ℕ → List Rule → List Branch
branches_at p s t [] = []
branches_at p s t (r ∷ rules) =
    (if nat_eq r.source s then branch_of_rule p t r ∷ [] else []) ++ branches_at p s (suc t) rules

-- the branches at copies, in order
abbrev pub branches_of : Program → List Copy → List Branch
branches_of p [] = []
branches_of p (c ∷ copies) = branches_at p c.over 1 p.rules ++ branches_of p copies

-- the section of facts: a copy of each symbol with the facts of it that are needed, where each rule leads to the copy of
-- its target
abbrev pub section_of_facts : Program → List LocFact → Section
section_of_facts p kept = record { copies = fact_copies p kept; branches = branches_of p (fact_copies p kept) }

-- a section is that of facts
abbrev pub IsSectionOfFacts : Program → List LocFact → Section → Type 0
IsSectionOfFacts p kept section = section ≡ section_of_facts p kept
