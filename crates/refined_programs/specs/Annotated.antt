-- Sections annotated with multipliers, as plain data: forms by their coefficients, and for each path that ends the
-- multipliers that certify it.
use Rattle.std.specs.Prelude.{ℕ, List, map}
use Rattle.refinement.specs.model.Terms.{Term}
use Rattle.refinement.specs.model.Programs.{Name}
use Rattle.refinement.specs.Sections as plain
use Rattle.its_model.specs.linear_forms.Forms.{Form}
use Rattle.refined_programs.specs.Affine.{affine_term}

-- a copy of a symbol: its name, the symbol, and the forms over its places that are at least 0 there
pub record Copy : Type 0 where
  pub name : Name
  pub over : ℕ
  pub facts : List Form

-- how a rule leads from a copy: to a copy, with multipliers for each of its facts; nowhere, with multipliers; or by
-- whether a form over the rule's variables is at least 0
pub data Cases : Type 0 where
  To : ℕ → List (List ℕ) → Cases
  Never : List ℕ → Cases
  If : Form → Cases → Cases → Cases

-- a rule at a copy of its source, with its cases
pub record Branch : Type 0 where
  pub source : ℕ
  pub rule : ℕ
  pub cases : Cases

-- copies of a program's symbols, the first one being the start, and the branches of its rules
pub record Section : Type 0 where
  pub copies : List Copy
  pub branches : List Branch

-- the expression of a form
abbrev pub form_term : Form → Term
form_term f = affine_term f.coefs f.constant

-- a copy with expressions as its facts
abbrev pub copy_of : Copy → plain.Copy
copy_of c = record { name = c.name; over = c.over; facts = map form_term c.facts }

-- cases without their multipliers
abbrev pub cases_of : Cases → plain.Cases
cases_of (To copy by) = plain.To copy
cases_of (Never by) = plain.Never
cases_of (If test yes_cases no_cases) = plain.If (form_term test) (cases_of yes_cases) (cases_of no_cases)

-- a branch without its multipliers
abbrev pub branch_of : Branch → plain.Branch
branch_of b = record { source = b.source; rule = b.rule; cases = cases_of b.cases }

-- a section without its multipliers
abbrev pub section_of : Section → plain.Section
section_of s = record { copies = map copy_of s.copies; branches = map branch_of s.branches }
