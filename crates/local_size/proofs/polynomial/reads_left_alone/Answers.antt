use Rattle.std.proofs.Common.{ap, ◌∙◌}
use Rattle.poly_terms.specs.declared.poly.Monomial.{Monomial}
use Rattle.std.proofs.Common.{List}
use Rattle.poly_terms.specs.Views.{monomials_of}
use Rattle.local_size.specs.Places.{is_of_left}
use Rattle.local_size.proofs.Values.{update-read}
use Rattle.local_size.proofs.polynomial.reads_left_alone.Goals as goal

pub returns-in-Some : goal.returns-in-Some
returns-in-Some c =
    let left = c.args.prepared_rule.now.left in
    c.are_of_left.ensures
    ∙ (ap (λ (ms : List Monomial). is_of_left left (monomials_of ms)) c.deref-in-Some.ensures.value
    ∙ ap (is_of_left left) (update-read c.args.prepared_rule.now c.args.place c.deref.result.now c.in-Some.update.now _
    c.requires
    c.deref.ensures.value c.in-Some.ensures.lookup.0 c.in-Some.ensures.lookup.1))
