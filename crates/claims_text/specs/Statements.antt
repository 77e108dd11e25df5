-- The text of an accepted file: the facts at symbols, and what its claims state.
use Rattle.std.specs.Prelude.{ℕ, List, ◌++◌, codes, decimal, slice_get}
use Rattle.std.specs.List.{flat_map}
use Rattle.its_model.specs.model.Programs.{Program}
use Rattle.signed_text.specs.Texts.{signed_text}
use Rattle.claim_types.specs.program_claims.Claims.{Stated, Time, Cost, Total, Above, Below, AtSymbol}
use Rattle.symbol_facts.specs.Facts.{SymbolFact}
use Rattle.check_text.specs.Texts.{place_text, line_end, name_in}
use Rattle.claims_text.specs.Symbols.{symbol_fact_line}
use Rattle.claims_text.specs.Terms.{place_names, term_text}

-- the line of a statement: how often a rule occurs, what its steps and all steps cost, the value at a place after a
-- rule and the negation of that value; and an expression that is at least 0 at a symbol
abbrev pub stated_line : Program → Stated → List ℕ
stated_line p (Time rule b) = codes "time " ++ (decimal rule ++ line_end (signed_text p.start_names b))
stated_line p (Cost rule b) = codes "cost " ++ (decimal rule ++ line_end (signed_text p.start_names b))
stated_line p (Total b) = codes "total" ++ line_end (signed_text p.start_names b)
stated_line p (Above rule place b) = codes "above " ++ (place_text rule place ++ line_end (signed_text p.start_names b))
stated_line p (Below rule place b) = codes "below " ++ (place_text rule place ++ line_end (signed_text p.start_names b))
stated_line p (AtSymbol symbol f) =
    codes "fact " ++ (name_in (slice_get p.symbols symbol) ++ line_end (term_text place_names f ++ codes " >= 0"))

-- the text of a file that is accepted: a line for each of some facts, in order, and then one for each statement
unfoldable pub stated_text : Program → List SymbolFact → List Stated → List ℕ
stated_text p facts stated = codes "accepted\n" ++ (flat_map (symbol_fact_line p) facts ++ flat_map (stated_line p) stated)
