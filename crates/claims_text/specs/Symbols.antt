-- The lines of facts at symbols.
use Rattle.std.specs.Prelude.{List, ℕ, ◌++◌, codes, slice_get}
use Rattle.std.specs.Fmt.{signed_decimal}
use Rattle.its_model.specs.model.Programs.{Program}
use Rattle.signed_text.specs.Polynomials.{polynomial_text}
use Rattle.symbol_facts.specs.Facts.{SymbolFact}
use Rattle.check_text.specs.Texts.{line_end, name_in}
use Rattle.claims_text.specs.Terms.{place_names}

-- the line of a fact: of its form what is added comes before what is subtracted
abbrev pub symbol_fact_line : Program → SymbolFact → List ℕ
symbol_fact_line p f =
    codes "fact " ++ (name_in (slice_get p.symbols f.symbol)
    ++ line_end (polynomial_text place_names f.form ++ (codes " >= " ++ signed_decimal f.least)))
