-- Which sections of a program have a text that is read: their names, numbers and levels are within the limits, and each
-- copy, symbol and rule that they name is there.
use Rattle.std.specs.Prelude.{ℕ, suc, ◌≤◌, ◌<◌, List, length, map, ℤ, nat_abs}
use Rattle.std.specs.List.{AllByRecursion}
use Rattle.its_model.specs.model.Limits.{name_limit}
use Rattle.its_model.specs.model.Programs.{Program}
use Rattle.its_model.specs.linear_forms.Forms.{Form}
use Rattle.its_model.specs.linear_forms.Limits.{certificate_limit}
use Rattle.refined_programs.specs.Annotated.{Copy, Cases, To, Never, If, Branch, Section}
use Rattle.section_text.specs.Faults.{branch_limit, copy_limit, level_limit}
use Rattle.text_grammar.specs.text_core.Names.{IsName, AreDistinct}

-- a multiplier is at most 2^56
abbrev pub IsWithin : ℕ → Type 0
IsWithin n = n ≤ certificate_limit

-- multipliers are
abbrev pub AreWithin : List ℕ → Type 0
AreWithin ns = AllByRecursion IsWithin ns

-- a coefficient is, in absolute value
abbrev pub IsSignedWithin : ℤ → Type 0
IsSignedWithin z = nat_abs z ≤ certificate_limit

-- the coefficients of a form and its constant are
pub record IsFormWithin (f : Form) : Type 0 where
  pub coefs : AllByRecursion IsSignedWithin f.coefs
  pub constant : IsSignedWithin f.constant

-- cases inside this many others lead to copies that there are, and are at most 64 levels deep
abbrev pub AreCasesWithin : ℕ → ℕ → Cases → Type 0
AreCasesWithin copies outside (To copy by) =
    (outside < level_limit) × (copy < copies) × AllByRecursion AreWithin by
AreCasesWithin copies outside (Never by) = (outside < level_limit) × AreWithin by
AreCasesWithin copies outside (If test yes_cases no_cases) =
    (outside < level_limit) × IsFormWithin test × AreCasesWithin copies (suc outside) yes_cases
    × AreCasesWithin copies (suc outside) no_cases

-- a copy has a name of at most 256 bytes, and is of a symbol of the program
pub record IsCopyWithin (p : Program) (c : Copy) : Type 0 where
  pub name : IsName c.name
  pub short : length c.name ≤ name_limit
  pub over : c.over < length p.symbols
  pub facts : AllByRecursion IsFormWithin c.facts

-- a branch leaves a copy by a rule of the program
pub record IsBranchWithin (p : Program) (copies : ℕ) (b : Branch) : Type 0 where
  pub source : b.source < copies
  pub first : 1 ≤ b.rule
  pub last : b.rule ≤ length p.rules
  pub cases : AreCasesWithin copies 0 b.cases

-- a section has from 1 to 2,000 copies with different names, and at most 100,000 branches
pub record IsSectionWithin (p : Program) (s : Section) : Type 0 where
  pub some : 1 ≤ length s.copies
  pub few_copies : length s.copies ≤ copy_limit
  pub few_branches : length s.branches ≤ branch_limit
  pub copies : AllByRecursion (IsCopyWithin p) s.copies
  pub distinct : AreDistinct (map (λ c. c.name) s.copies)
  pub branches : AllByRecursion (IsBranchWithin p (length s.copies)) s.branches
