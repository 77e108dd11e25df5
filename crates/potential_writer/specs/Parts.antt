-- The texts of polynomials and of certificates.
use Rattle.std.specs.Prelude.{ℕ, ◌+◌, List, [], ◌∷◌, ◌++◌, map, codes, decimal}
use Rattle.std.specs.Fmt.{signed_decimal}
use Rattle.potential_nodes.specs.potentials.model.Polynomials.{Monomial, Polynomial}
use Rattle.potential_nodes.specs.Certificates.{Summand, OneRow, TwoRows, ZeroRow}
use Rattle.section_writer.specs.Lists.{separated, word_list}

-- the variables of a monomial, each behind a star, numbered from 1
abbrev pub factors_text : List ℕ → List ℕ
factors_text [] = []
factors_text (v ∷ vars) = codes "*" ++ (decimal (v + 1) ++ factors_text vars)

-- a coefficient and the variables
abbrev pub term_text : Monomial → List ℕ
term_text m = signed_decimal m.coef ++ factors_text m.vars

-- a polynomial
unfoldable pub poly_text : Polynomial → List ℕ
poly_text p = word_list (map term_text p)

-- the number of a rule, and a polynomial
unfoldable pub form_text : ℕ → Polynomial → List ℕ
form_text rule form = decimal rule ++ (codes " " ++ poly_text form)

-- how often a row, a product of rows, or a variable times a row that is 0 is taken; rows and variables are numbered from 1
abbrev pub summand_text : Summand → List ℕ
summand_text (OneRow n i) = decimal n ++ (codes " row " ++ decimal (i + 1))
summand_text (TwoRows n i j) =
    decimal n ++ (codes " rows " ++ (decimal (i + 1) ++ (codes " " ++ decimal (j + 1))))
summand_text (ZeroRow n i k u) =
    signed_decimal n ++ (codes " zero " ++ (decimal (i + 1) ++ (codes " " ++ (decimal (k + 1)
    ++ (codes " by " ++ decimal (u + 1))))))

-- a certificate: summands in braces
unfoldable pub certificate_text : List Summand → List ℕ
certificate_text summands = codes "{" ++ (separated (codes "; ") (map summand_text summands) ++ codes "}")
