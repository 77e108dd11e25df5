use Rattle.std.proofs.Common.{◌≡◌, ◌≤◌, ◌++◌, [], ◌∷◌, ap, sym, ◌∙◌, arith, subst, ◌^◌}
use Rattle.std.specs.Prelude.{ℤ, nat_abs}
use Rattle.std.specs.Int.{w128}
use Rattle.std.proofs.lemmas.Int.{to_z-of_z, fits_signed_from_abs}
use Rattle.model.specs.Polynomials as plain
use Rattle.poly_terms.specs.Expanding.{without_zeros}
use Rattle.model.specs.Limits.{coefficient_limit}
use Rattle.poly_terms.specs.Faults.{has_large}
use Rattle.poly_terms.specs.Views.{monomials_of}
use Rattle.poly_terms.specs.Wide.{entry_of, entries_of, AreWithin}
use Rattle.poly_terms.proofs.CollectLaws.{taken-more, large-among, small-more}
use Rattle.poly_terms.proofs.product.collected.Goals as goal

pub returns-in-None : goal.returns-in-None
returns-in-None c =
    let terms = monomials_of c.loop-vars.terms.items in
    let left = c.in-Some.ensures.removal in
    sym (ap has_large c.loop-vars.invariant.whole)
    ∙ (ap (λ es. has_large (terms ++ without_zeros (entries_of es))) left
    ∙ large-among terms (entry_of (c.in-Some.vars, c.in-Some.wide)) (entries_of c.pop_first.new.self.entries) c.in-None.ensures)

pub loop-vars-preserved : goal.loop-vars-preserved
loop-vars-preserved c =
    let terms = monomials_of c.loop-vars.terms.items in
    let coef = c.in-Some-narrow.coef in
    let small = c.in-Some-narrow.ensures.1 in
    let here = entry_of (c.in-Some.vars, c.in-Some.wide) in
    let rest = entries_of c.pop_first.new.self.entries in
    let left = c.in-Some.ensures.removal in
    let cast = to_z-of_z w128 coef (fits_signed_from_abs w128 coef (omega (arith, small))) in
    let pushed : monomials_of c.push_nonzero.new.terms.items ≡ terms ++ without_zeros (here ∷ []) =
    c.in_ok-push_nonzero-in-Some-narrow.ensures ∙ (λ j. terms ++ without_zeros (record { coef = (cast ∙ c.in-Some-narrow.ensures.0) j; vars = c.in-Some.vars.items } ∷ [])) in
    record {
      whole = ap (λ (us : plain.Polynomial). us ++ without_zeros rest) pushed
          ∙ (taken-more terms here rest ∙ (sym (ap (λ es. terms ++ without_zeros (entries_of es)) left) ∙ c.loop-vars.invariant.whole));
      small = ap has_large pushed
          ∙ (small-more terms here (subst (λ (z : ℤ). nat_abs z ≤ coefficient_limit) c.in-Some-narrow.ensures.0 small) ∙ c.loop-vars.invariant.small);
      within = (subst (AreWithin (2 ^ 32)) left c.loop-vars.invariant.within).1;
    }
