-- What is known of the steps of a program, as plain data.
use Rattle.std.specs.Prelude.{◌≡◌, ◌+◌, List, ◌++◌, map}
use Rattle.poly_terms.specs.Views.{term_of, form_of}
use Rattle.poly_terms.specs.model.Terms.{Term}
use Rattle.poly_terms.specs.declared.poly.Row.{Row}
use Rattle.guard_prep.specs.Prepared.{Prepared, prepared, polys_of}
use Rattle.guard_prep.specs.Views.{prepared_of}
use Rattle.its_model.specs.Valid.{IsValid}
use Rattle.its_model.specs.Views.{program_of}
use Rattle.signed_bounds.specs.Safe.{expands_to_squares}
use Rattle.potential_nodes.specs.Ground as plain
use Rattle.potential_nodes.specs.potentials.model.Programs.{Program, Rule}
use Rattle.potential_ground.specs.SquareRows.{square_rows}
use Rattle.potential_ground.specs.RowTerms.{ground_of, form_expression}
use Rattle.check_potentials.specs.declared.ground.Ground.{Ground}
use Rattle.check_potentials.specs.declared.ground.PreparedRule.{PreparedRule}
use Rattle.check_potentials.specs.declared.ground.RowList.{RowList}

-- the rows of a rule as expressions
abbrev pub row_term : Row → Term
row_term r = form_expression (form_of r)

abbrev pub row_terms_of : List Row → List Term
row_terms_of rows = map row_term rows

-- the rows of a list as expressions, those of squares last
abbrev pub list_terms : RowList → List Term
list_terms l = row_terms_of l.prepared.now ++ map term_of l.squares.now

-- what is prepared of a rule: its rows and new values, and its rows of squares
pub record RulePrepared : Type 0 where
  pub prepared : Prepared
  pub squares : List Term

abbrev pub rule_prepared : Rule → RulePrepared
rule_prepared r = record { prepared = prepared r; squares = square_rows (r.left + r.free) (polys_of r) }

-- the same of the code, as plain data
abbrev pub rule_prepared_of : PreparedRule → RulePrepared
rule_prepared_of m = record { prepared = prepared_of m.rows; squares = map term_of m.squares.items }

-- the program
abbrev pub program : Ground → Program
program g = program_of g.program.now

-- what the prepared rows of the program say of its steps
abbrev pub plain_ground : Ground → plain.Ground
plain_ground g = ground_of (program g) expands_to_squares

-- the program is valid, and what is prepared is that of its rules, in order
pub record IsPrepared (g : Ground) : Type 0 where
  pub valid : IsValid (program g)
  pub rows : map rule_prepared_of g.rules.now ≡ map rule_prepared (program g).rules
