-- The text of a section that isn't accepted.
use Rattle.std.specs.Prelude.{ℕ, List, [], ◌++◌, codes, decimal, Option, Some, None}
use Rattle.its_model.specs.model.Programs.{Name}
use Rattle.refined_programs.specs.Annotated.{Copy, Section}
use Rattle.section_checks.specs.Faults.{Fault, WrongStart, WrongFacts, WrongBranch, WrongTest, WrongShape, WrongRules}
use Rattle.section_checks.specs.Faults.{OverLimit, NotNever, NotFact}
use Rattle.potential_types.specs.potential_nodes.Lookup.{numbered}

-- a word, a number, and the end of a line
abbrev pub numbered_line : List ℕ → ℕ → List ℕ
numbered_line word n = word ++ (decimal n ++ codes "\n")

-- the copies have no names, or names that don't differ
abbrev pub bad_names_text : List ℕ
bad_names_text = codes "no refinement: names\n"

-- the name of a copy, if there is one; copies are numbered from 1
abbrev pub name_in : Option Copy → Name
name_in None = []
name_in (Some c) = c.name

abbrev pub copy_name : List Copy → ℕ → Name
copy_name copies k = name_in (numbered copies k)

-- the copy with a fact that doesn't have a coefficient for each place
abbrev pub copy_line : List Copy → ℕ → List ℕ
copy_line copies k = codes "no refinement: facts " ++ (copy_name copies k ++ codes "\n")

-- an end, and what is wrong with it; and an end that doesn't show a fact
abbrev pub end_line : ℕ → List ℕ → List ℕ
end_line end reason = codes "no end " ++ (decimal end ++ (codes ": " ++ (reason ++ codes "\n")))

abbrev pub fact_line : ℕ → ℕ → List ℕ
fact_line end fact = codes "no end " ++ (decimal end ++ (codes ": fact " ++ (decimal fact ++ codes "\n")))

-- the text of the first fault of a section
abbrev pub fault_text : Section → Fault → List ℕ
fault_text s WrongStart = codes "no refinement: start\n"
fault_text s (WrongFacts copy) = copy_line s.copies copy
fault_text s (WrongBranch branch) = numbered_line (codes "no refinement: from ") branch
fault_text s (WrongTest branch) = numbered_line (codes "no refinement: if ") branch
fault_text s (WrongShape end) = end_line end (codes "shape")
fault_text s WrongRules = codes "no refinement: rules\n"
fault_text s (OverLimit end) = end_line end (codes "limit")
fault_text s (NotNever end) = end_line end (codes "never")
fault_text s (NotFact end fact) = fact_line end fact
