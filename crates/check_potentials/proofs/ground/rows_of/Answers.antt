use Rattle.std.proofs.Common.{List, ◌++◌, map, ◌∙◌, ap, arith}
use Rattle.poly_terms.specs.Views.{term_of}
use Rattle.poly_terms.specs.model.Terms.{Term}
use Rattle.poly_terms.specs.declared.expr.Expr.{Expr}
use Rattle.check_potentials.specs.Grounds.{program, row_terms_of}
use Rattle.check_potentials.proofs.GroundLaws.{rows-found, none-found}
use Rattle.check_potentials.proofs.ground.rows_of.Goals as goal

pub returns-in-Some : goal.returns-in-Some
returns-in-Some c =
    ap (λ (ts : List Term). ts ++ map term_of c.deref-in-Some.result.now) (ap row_terms_of c.deref.ensures.value)
    ∙ ap (λ (es : List Expr). row_terms_of c.in-Some.found.now.rows.rows.items ++ map term_of es) c.deref-in-Some.ensures.value
    ∙ rows-found (program c.args.ground) c.args.ground.rules.now c.args.rule c.in-Some.found c.requires.rows
    (omega arith)
    c.in-Some.ensures.lookup

pub returns-in-None : goal.returns-in-None
returns-in-None c =
    c.no_rows-in-None.ensures
    ∙ (none-found (program c.args.ground) c.args.ground.rules.now c.args.rule c.requires.rows (omega arith)
    c.in-None.ensures.lookup).0
