use Rattle.std.proofs.Common.{refl, length, sym, subst}
use Rattle.poly_terms.specs.Views.{form_of}
use Rattle.guard_prep.specs.Laws.{IsSmallForm}
use Rattle.guard_prep.proofs.SizeLaws.{opposite-form-small}
use Rattle.guard_prep.proofs.preparing.push_rows.Goals as goal

pub push_tightened-requires-then-eq-clause-coefs : goal.push_tightened-requires-then-eq-clause-coefs
push_tightened-requires-then-eq-clause-coefs c =
    let f = form_of c.args.row in
    (subst (IsSmallForm (length f.coefs)) (sym c.in_ok-opposite.ensures)
    (opposite-form-small (length f.coefs) f (record { width = refl; coefs = c.requires.coefs; constant = c.requires.constant }))).coefs
