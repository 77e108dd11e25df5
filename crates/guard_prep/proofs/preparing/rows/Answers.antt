use Rattle.std.proofs.Common.{◌≡◌, ◌+◌, List, map, ap, sym, ◌∙◌, subst, arith}
use Rattle.std.specs.List.{AllByRecursion}
use Rattle.poly_terms.specs.declared.expr.Expr.{Expr}
use Rattle.poly_terms.specs.declared.poly.Poly.{Poly}
use Rattle.poly_terms.specs.Expanding.{expanded}
use Rattle.poly_terms.specs.Ordered.{IsAscending}
use Rattle.poly_terms.specs.AffineForms.{HasVariablesBelow}
use Rattle.poly_terms.specs.Views.{term_of, poly_of}
use Rattle.its_model.specs.declared.guard.Atom.{Atom}
use Rattle.its_model.specs.Valid.{IsValidAtom}
use Rattle.its_model.specs.Views.{atom_of, rule_of}
use Rattle.guard_prep.specs.Prepared.{is_nonlinear, count_true, nonlinear_of, polys_of}
use Rattle.guard_prep.proofs.SizeLaws.{few-unknowns}
use Rattle.guard_prep.proofs.RangeLaws.{atoms-more, all-ascending, all-below}
use Rattle.guard_prep.proofs.preparing.rows.Goals as goal

pub overflow_add-unknowns : goal.overflow_add-unknowns
overflow_add-unknowns c =
    let r = rule_of c.args.r.now in
    let polys : map poly_of c.in_ok-polys.polys.items ≡ polys_of r = c.in_ok-polys.ensures ∙ ap (λ (us : List Expr). map expanded (map term_of us)) c.deref.ensures.value in
    let nonlinear : c.in_ok-nonlinear.nonlinear.items ≡ nonlinear_of r =
    c.in_ok-nonlinear.ensures ∙ (ap (λ (ps : List Poly). map is_nonlinear (map poly_of ps)) c.deref-2.ensures.value ∙ ap (map is_nonlinear) polys) in
    let count : c.count_of.result ≡ count_true (nonlinear_of r) = c.count_of.ensures ∙ ap count_true (c.deref-3.ensures.value ∙ nonlinear) in
    record { fits = omega (arith, count, few-unknowns r c.requires) }

pub new_values_of-requires-clause-ascending : goal.new_values_of-requires-clause-ascending
new_values_of-requires-clause-ascending c =
    let r = rule_of c.args.r.now in
    let polys : map poly_of c.in_ok-polys.polys.items ≡ polys_of r = c.in_ok-polys.ensures ∙ ap (λ (us : List Expr). map expanded (map term_of us)) c.deref.ensures.value in
    subst (AllByRecursion IsAscending) (sym (ap (map poly_of) c.deref-4.ensures.value ∙ polys)) (all-ascending r.updates)

pub new_values_of-requires-clause-in_range : goal.new_values_of-requires-clause-in_range
new_values_of-requires-clause-in_range c =
    let r = rule_of c.args.r.now in
    let polys : map poly_of c.in_ok-polys.polys.items ≡ polys_of r = c.in_ok-polys.ensures ∙ ap (λ (us : List Expr). map expanded (map term_of us)) c.deref.ensures.value in
    subst (AllByRecursion (HasVariablesBelow (r.left + r.free + c.count_of.result))) (sym (ap (map poly_of) c.deref-4.ensures.value ∙ polys))
    (all-below (r.left + r.free) (r.left + r.free + c.count_of.result) r.updates (omega arith) c.requires.updates)

pub guard_rows-requires : goal.guard_rows-requires
guard_rows-requires c =
    let r = rule_of c.args.r.now in
    let unknowns = r.left + r.free + c.count_of.result in
    subst (λ (atoms : List Atom). AllByRecursion (IsValidAtom unknowns) (map atom_of atoms)) (sym c.deref-5.ensures.value)
    (atoms-more (r.left + r.free) unknowns r.guard (omega arith) c.requires.guard)
