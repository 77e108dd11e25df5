-- The parts of a section's text with the bytes that follow them.
use Rattle.std.proofs.Common.{◌≡◌, ℕ, List, [], ◌∷◌, ◌++◌, map, refl, ap, ◌∙◌, append_assoc, codes}
use Rattle.std.specs.Prelude.{ℤ, decimal, slice_get}
use Rattle.std.specs.Fmt.{signed_decimal}
use Rattle.its_model.specs.model.Programs.{Program}
use Rattle.its_model.specs.linear_forms.Forms.{Form}
use Rattle.refined_programs.specs.Annotated.{Copy, Cases, To, Never, If, Branch, Section}
use Rattle.section_writer.specs.Lists.{bracketed, each_before, each_behind, number_list, word_list}
use Rattle.section_writer.specs.Texts.{branch_line, branch_lines, cases_text, copy_line, copy_lines, copy_name, facts_text}
use Rattle.section_writer.specs.Texts.{form_text, lists_text, symbol_name, text_of}

-- further multipliers up to the end of their list, and all of them
abbrev pub more_numbers_then : List ℕ → List ℕ → List ℕ
more_numbers_then [] rest = 93 ∷ rest
more_numbers_then (n ∷ ns) rest = 32 ∷ (decimal n ++ more_numbers_then ns rest)

abbrev pub numbers_then : List ℕ → List ℕ → List ℕ
numbers_then [] rest = 91 ∷ 93 ∷ rest
numbers_then (n ∷ ns) rest = 91 ∷ (decimal n ++ more_numbers_then ns rest)

-- further lists of multipliers, and all of them
abbrev pub more_lists_then : List (List ℕ) → List ℕ → List ℕ
more_lists_then [] rest = 93 ∷ rest
more_lists_then (ns ∷ nss) rest = 59 ∷ 32 ∷ numbers_then ns (more_lists_then nss rest)

abbrev pub lists_then : List (List ℕ) → List ℕ → List ℕ
lists_then [] rest = 91 ∷ 93 ∷ rest
lists_then (ns ∷ nss) rest = 91 ∷ numbers_then ns (more_lists_then nss rest)

-- coefficients, with a blank after each, and a form
abbrev pub coefs_then : List ℤ → List ℕ → List ℕ
coefs_then [] rest = rest
coefs_then (z ∷ zs) rest = signed_decimal z ++ (32 ∷ coefs_then zs rest)

abbrev pub form_then : Form → List ℕ → List ℕ
form_then f rest = 91 ∷ coefs_then f.coefs (signed_decimal f.constant ++ (93 ∷ rest))

-- further facts, and all of them
abbrev pub more_facts_then : List Form → List ℕ → List ℕ
more_facts_then [] rest = 93 ∷ rest
more_facts_then (f ∷ fs) rest = 59 ∷ 32 ∷ form_then f (more_facts_then fs rest)

abbrev pub facts_then : List Form → List ℕ → List ℕ
facts_then [] rest = 91 ∷ 93 ∷ rest
facts_then (f ∷ fs) rest = 91 ∷ form_then f (more_facts_then fs rest)

-- cases between copies
abbrev pub cases_then : List Copy → Cases → List ℕ → List ℕ
cases_then copies (To copy by) rest =
    codes "to " ++ (copy_name (slice_get copies copy) ++ (codes " by " ++ lists_then by rest))
cases_then copies (Never by) rest = codes "never " ++ numbers_then by rest
cases_then copies (If test yes_cases no_cases) rest =
    codes "if " ++ form_then test (codes " then (" ++ cases_then copies yes_cases
    (codes ") else (" ++ cases_then copies no_cases (codes ")" ++ rest)))

-- the line of a copy, and of a branch
abbrev pub copy_then : Program → Copy → List ℕ → List ℕ
copy_then p c rest =
    codes "copy " ++ (c.name ++ (codes " of " ++ (symbol_name (slice_get p.symbols c.over)
    ++ (codes " facts " ++ facts_then c.facts (codes "\n" ++ rest)))))

abbrev pub branch_then : List Copy → Branch → List ℕ → List ℕ
branch_then copies b rest =
    codes "from " ++ (copy_name (slice_get copies b.source) ++ (codes " rule " ++ (decimal b.rule
    ++ (codes " " ++ cases_then copies b.cases (codes "\n" ++ rest)))))

-- all lines
abbrev pub copies_then : Program → List Copy → List ℕ → List ℕ
copies_then p [] rest = rest
copies_then p (c ∷ cs) rest = copy_then p c (copies_then p cs rest)

abbrev pub branches_then : List Copy → List Branch → List ℕ → List ℕ
branches_then copies [] rest = rest
branches_then copies (b ∷ bs) rest = branch_then copies b (branches_then copies bs rest)

-- bytes in front of a part and what follows it
behind : (bytes part rest whole : List ℕ) → part ++ rest ≡ whole → (bytes ++ part) ++ rest ≡ bytes ++ whole
behind bytes part rest whole e = append_assoc bytes part rest ∙ ap (λ (bs : List ℕ). bytes ++ bs) e

-- multipliers and what follows them
more_numbers : (ns rest : List ℕ) → each_behind (codes " ") (map decimal ns) ++ (93 ∷ rest) ≡ more_numbers_then ns rest
more_numbers [] rest = refl
more_numbers (n ∷ ns) rest =
    ap (λ (bs : List ℕ). 32 ∷ bs) (behind (decimal n) (each_behind (codes " ") (map decimal ns)) (93 ∷ rest) _
    (more_numbers ns rest))

numbers : (ns rest : List ℕ) → number_list ns ++ rest ≡ numbers_then ns rest
numbers [] rest = refl
numbers (n ∷ ns) rest =
    ap (λ (bs : List ℕ). 91 ∷ bs)
    (append_assoc (decimal n ++ each_behind (codes " ") (map decimal ns)) (codes "]") rest
    ∙ behind (decimal n) (each_behind (codes " ") (map decimal ns)) (93 ∷ rest) _ (more_numbers ns rest))

-- lists of multipliers and what follows them
more_lists : (nss : List (List ℕ)) (rest : List ℕ)
    → each_behind (codes "; ") (map number_list nss) ++ (93 ∷ rest) ≡ more_lists_then nss rest
more_lists [] rest = refl
more_lists (ns ∷ nss) rest =
    ap (λ (bs : List ℕ). 59 ∷ 32 ∷ bs)
    (behind (number_list ns) (each_behind (codes "; ") (map number_list nss)) (93 ∷ rest) _ (more_lists nss rest)
    ∙ numbers ns (more_lists_then nss rest))

lists : (nss : List (List ℕ)) (rest : List ℕ) → lists_text nss ++ rest ≡ lists_then nss rest
lists [] rest = refl
lists (ns ∷ nss) rest =
    ap (λ (bs : List ℕ). 91 ∷ bs)
    (append_assoc (number_list ns ++ each_behind (codes "; ") (map number_list nss)) (codes "]") rest
    ∙ behind (number_list ns) (each_behind (codes "; ") (map number_list nss)) (93 ∷ rest) _ (more_lists nss rest)
    ∙ numbers ns (more_lists_then nss rest))

-- a form and what follows it
coefs : (zs : List ℤ) (rest : List ℕ) → each_before zs ++ rest ≡ coefs_then zs rest
coefs [] rest = refl
coefs (z ∷ zs) rest =
    append_assoc (signed_decimal z) (32 ∷ each_before zs) rest
    ∙ ap (λ (bs : List ℕ). signed_decimal z ++ (32 ∷ bs)) (coefs zs rest)

form : (f : Form) (rest : List ℕ) → form_text f ++ rest ≡ form_then f rest
form f rest =
    ap (λ (bs : List ℕ). 91 ∷ bs)
    (append_assoc (each_before f.coefs ++ signed_decimal f.constant) (codes "]") rest
    ∙ append_assoc (each_before f.coefs) (signed_decimal f.constant) (93 ∷ rest)
    ∙ coefs f.coefs (signed_decimal f.constant ++ (93 ∷ rest)))

-- facts and what follows them
more_facts : (fs : List Form) (rest : List ℕ)
    → each_behind (codes "; ") (map form_text fs) ++ (93 ∷ rest) ≡ more_facts_then fs rest
more_facts [] rest = refl
more_facts (f ∷ fs) rest =
    ap (λ (bs : List ℕ). 59 ∷ 32 ∷ bs)
    (behind (form_text f) (each_behind (codes "; ") (map form_text fs)) (93 ∷ rest) _ (more_facts fs rest)
    ∙ form f (more_facts_then fs rest))

facts : (fs : List Form) (rest : List ℕ) → facts_text fs ++ rest ≡ facts_then fs rest
facts [] rest = refl
facts (f ∷ fs) rest =
    ap (λ (bs : List ℕ). 91 ∷ bs)
    (append_assoc (form_text f ++ each_behind (codes "; ") (map form_text fs)) (codes "]") rest
    ∙ behind (form_text f) (each_behind (codes "; ") (map form_text fs)) (93 ∷ rest) _ (more_facts fs rest)
    ∙ form f (more_facts_then fs rest))

-- cases and what follows them
cases : (copies : List Copy) (c : Cases) (rest : List ℕ) → cases_text copies c ++ rest ≡ cases_then copies c rest
cases copies (To copy by) rest =
    ap (λ (bs : List ℕ). codes "to " ++ bs)
    (behind (copy_name (slice_get copies copy)) (codes " by " ++ lists_text by) rest _
    (ap (λ (bs : List ℕ). codes " by " ++ bs) (lists by rest)))
cases copies (Never by) rest = ap (λ (bs : List ℕ). codes "never " ++ bs) (numbers by rest)
cases copies (If test yes_cases no_cases) rest =
    ap (λ (bs : List ℕ). codes "if " ++ bs)
    (append_assoc (form_text test) (codes " then (" ++ (cases_text copies yes_cases ++ (codes ") else (" ++ (cases_text copies no_cases ++ codes ")")))) rest
    ∙ ap (λ (bs : List ℕ). form_text test ++ (codes " then (" ++ bs))
    (append_assoc (cases_text copies yes_cases) (codes ") else (" ++ (cases_text copies no_cases ++ codes ")")) rest
    ∙ ap (λ (bs : List ℕ). cases_text copies yes_cases ++ (codes ") else (" ++ bs))
    (append_assoc (cases_text copies no_cases) (codes ")") rest ∙ cases copies no_cases (codes ")" ++ rest))
    ∙ cases copies yes_cases (codes ") else (" ++ cases_then copies no_cases (codes ")" ++ rest)))
    ∙ form test (codes " then (" ++ cases_then copies yes_cases (codes ") else (" ++ cases_then copies no_cases (codes ")" ++ rest))))

-- a line and what follows it
copy : (p : Program) (c : Copy) (rest : List ℕ) → copy_line p c ++ rest ≡ copy_then p c rest
copy p c rest =
    ap (λ (bs : List ℕ). codes "copy " ++ bs)
    (behind c.name (codes " of " ++ (symbol_name (slice_get p.symbols c.over) ++ (codes " facts " ++ (facts_text c.facts ++ codes "\n")))) rest _
    (ap (λ (bs : List ℕ). codes " of " ++ bs)
    (behind (symbol_name (slice_get p.symbols c.over)) (codes " facts " ++ (facts_text c.facts ++ codes "\n")) rest _
    (ap (λ (bs : List ℕ). codes " facts " ++ bs)
    (append_assoc (facts_text c.facts) (codes "\n") rest ∙ facts c.facts (codes "\n" ++ rest))))))

branch : (copies : List Copy) (b : Branch) (rest : List ℕ) → branch_line copies b ++ rest ≡ branch_then copies b rest
branch copies b rest =
    ap (λ (bs : List ℕ). codes "from " ++ bs)
    (behind (copy_name (slice_get copies b.source)) (codes " rule " ++ (decimal b.rule ++ (codes " " ++ (cases_text copies b.cases ++ codes "\n")))) rest _
    (ap (λ (bs : List ℕ). codes " rule " ++ bs)
    (behind (decimal b.rule) (codes " " ++ (cases_text copies b.cases ++ codes "\n")) rest _
    (ap (λ (bs : List ℕ). codes " " ++ bs)
    (append_assoc (cases_text copies b.cases) (codes "\n") rest ∙ cases copies b.cases (codes "\n" ++ rest))))))

-- all lines and what follows them
copies : (p : Program) (cs : List Copy) (rest : List ℕ) → copy_lines p cs ++ rest ≡ copies_then p cs rest
copies p [] rest = refl
copies p (c ∷ cs) rest =
    append_assoc (copy_line p c) (copy_lines p cs) rest
    ∙ ap (λ (bs : List ℕ). copy_line p c ++ bs) (copies p cs rest) ∙ copy p c (copies_then p cs rest)

branches : (all : List Copy) (bs : List Branch) → branch_lines all bs ≡ branches_then all bs []
branches all [] = refl
branches all (b ∷ bs) =
    ap (λ (ys : List ℕ). branch_line all b ++ ys) (branches all bs) ∙ branch all b (branches_then all bs [])

-- the text of a section is that of its copies, with that of its branches behind it
pub text_then : (p : Program) (s : Section)
    → text_of p s ≡ copies_then p s.copies (branches_then s.copies s.branches [])
unfolding text_of
text_then p s =
    ap (λ (bs : List ℕ). copy_lines p s.copies ++ bs) (branches s.copies s.branches)
    ∙ copies p s.copies (branches_then s.copies s.branches [])
