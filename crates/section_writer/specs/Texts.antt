-- The text of a section: a line for each copy, and then one for each branch.
use Rattle.std.specs.Prelude.{ℕ, List, [], ◌∷◌, ◌++◌, map, Option, Some, None, slice_get, codes, decimal}
use Rattle.std.specs.Fmt.{signed_decimal}
use Rattle.its_model.specs.model.Programs.{Name, Symbol, Program}
use Rattle.its_model.specs.linear_forms.Forms.{Form}
use Rattle.refined_programs.specs.Annotated.{Copy, Cases, To, Never, If, Branch, Section}
use Rattle.section_writer.specs.Lists.{bracketed, each_before, number_list, word_list}

-- the name of a symbol, if there is one
abbrev pub symbol_name : Option Symbol → Name
symbol_name None = []
symbol_name (Some s) = s.name

-- the name of a copy, if there is one
abbrev pub copy_name : Option Copy → Name
copy_name None = []
copy_name (Some c) = c.name

-- the coefficients of a form, then its constant
abbrev pub form_text : Form → List ℕ
form_text f = bracketed (each_before f.coefs ++ signed_decimal f.constant)

-- the facts of a copy
abbrev pub facts_text : List Form → List ℕ
facts_text facts = word_list (map form_text facts)

-- multipliers for each fact
abbrev pub lists_text : List (List ℕ) → List ℕ
lists_text by = word_list (map number_list by)

-- cases that lead from copy to copy
abbrev pub cases_text : List Copy → Cases → List ℕ
cases_text copies (To copy by) =
    codes "to " ++ (copy_name (slice_get copies copy) ++ (codes " by " ++ lists_text by))
cases_text copies (Never by) = codes "never " ++ number_list by
cases_text copies (If test yes_cases no_cases) =
    codes "if " ++ (form_text test ++ (codes " then (" ++ (cases_text copies yes_cases
    ++ (codes ") else (" ++ (cases_text copies no_cases ++ codes ")")))))

-- the line of a copy: its name, the symbol below it, and its facts
abbrev pub copy_line : Program → Copy → List ℕ
copy_line p c =
    codes "copy " ++ (c.name ++ (codes " of " ++ (symbol_name (slice_get p.symbols c.over)
    ++ (codes " facts " ++ (facts_text c.facts ++ codes "\n")))))

-- the line of a branch: the copy that it leaves, its rule, and its cases
abbrev pub branch_line : List Copy → Branch → List ℕ
branch_line copies b =
    codes "from " ++ (copy_name (slice_get copies b.source) ++ (codes " rule " ++ (decimal b.rule
    ++ (codes " " ++ (cases_text copies b.cases ++ codes "\n")))))

-- the lines of copies
abbrev pub copy_lines : Program → List Copy → List ℕ
copy_lines p [] = []
copy_lines p (c ∷ cs) = copy_line p c ++ copy_lines p cs

-- the lines of branches between copies
abbrev pub branch_lines : List Copy → List Branch → List ℕ
branch_lines copies [] = []
branch_lines copies (b ∷ bs) = branch_line copies b ++ branch_lines copies bs

-- the text of a section of a program
unfoldable pub text_of : Program → Section → List ℕ
text_of p s = copy_lines p s.copies ++ branch_lines s.copies s.branches
