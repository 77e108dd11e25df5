use Rattle.std.proofs.Common.{◌≡◌, ◌++◌, List, subst}
use Rattle.std.specs.Prelude.{OnOk}
use Rattle.its_model.specs.model.Programs.{Name}
use Rattle.poly_terms.specs.Views.{monomials_of}
use Rattle.signed_text.specs.Polynomials.{polynomial_text}
use Rattle.claims_text.proofs.symbols.push_form.Goals as goal

pub returns : goal.returns
returns c =
    subst
    (λ (names : List Name). OnOk c.write_polynomial.result
    (c.write_polynomial.new.text.items ≡ c.args.text.now.items ++ polynomial_text names (monomials_of c.args.terms.now)))
    c.requires c.write_polynomial.ensures
