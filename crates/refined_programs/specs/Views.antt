-- The code's sections as plain data, without the multipliers and with them.
use Rattle.std.specs.Prelude.{List, map}
use Rattle.refinement.specs.Sections as plain
use Rattle.its_model.specs.Views.{name_of}
use Rattle.its_model.specs.linear_forms.Forms.{Form}
use Rattle.refined_programs.specs.declared.affine.Affine.{Affine}
use Rattle.refined_programs.specs.declared.section.SymbolCopy.{SymbolCopy}
use Rattle.refined_programs.specs.declared.section.Cases.{Cases}
use Rattle.refined_programs.specs.declared.section.Cases.TheVariants.{To, Never, If'}
use Rattle.refined_programs.specs.declared.section.Branch.{Branch}
use Rattle.refined_programs.specs.declared.section.Section.{Section}
use Rattle.refined_programs.specs.Affine.{affine_of}
use Rattle.refined_programs.specs.Annotated as annotated
use Rattle.refined_programs.specs.Ends.{lists_of}

-- a copy as plain data
abbrev pub copy_of : SymbolCopy → plain.Copy
copy_of c = record { name = name_of c.name; over = c.over; facts = map affine_of c.facts.items }

-- cases as plain data
abbrev pub cases_of : Cases → plain.Cases
cases_of (To copy by) = plain.To copy
cases_of (Never by) = plain.Never
cases_of (If' test p yes_cases q no_cases) = plain.If (affine_of test) (cases_of yes_cases) (cases_of no_cases)

-- a branch as plain data
abbrev pub branch_of : Branch → plain.Branch
branch_of b = record { source = b.source; rule = b.rule; cases = cases_of b.cases }

-- a section as plain data
abbrev pub section_of : Section → plain.Section
section_of s = record { copies = map copy_of s.copies.items; branches = map branch_of s.branches.items }

-- an affine form as plain data
abbrev pub affine_form : Affine → Form
affine_form a = record { coefs = a.coefs.items; constant = a.constant }

-- a copy as plain data, with forms as its facts
abbrev pub annotated_copy : SymbolCopy → annotated.Copy
annotated_copy c = record { name = name_of c.name; over = c.over; facts = map affine_form c.facts.items }

-- cases as plain data, with their multipliers
abbrev pub annotated_cases : Cases → annotated.Cases
annotated_cases (To copy by) = annotated.To copy (lists_of by.items)
annotated_cases (Never by) = annotated.Never by.numbers.items
annotated_cases (If' test p yes_cases q no_cases) =
    annotated.If (affine_form test) (annotated_cases yes_cases) (annotated_cases no_cases)

-- a branch as plain data, with its multipliers
abbrev pub annotated_branch : Branch → annotated.Branch
annotated_branch b = record { source = b.source; rule = b.rule; cases = annotated_cases b.cases }

-- a section as plain data, with its multipliers
abbrev pub annotated_of : Section → annotated.Section
annotated_of s = record {
  copies = map annotated_copy s.copies.items;
  branches = map annotated_branch s.branches.items;
}
