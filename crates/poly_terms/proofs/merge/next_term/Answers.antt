use Rattle.std.proofs.Common.{◌≡◌, ℕ, ◌+◌, ◌∷◌, List, sym, subst, arith}
use Rattle.std.specs.Prelude.{Option, None, MatchOption}
use Rattle.std.proofs.lemmas.List.{length-map}
use Rattle.poly_terms.specs.declared.poly.Monomial as code
use Rattle.model.specs.Limits.{coefficient_limit}
use Rattle.poly_terms.specs.Ordered.{IsBounded}
use Rattle.poly_terms.specs.Views.{monomial_of, monomials_of}
use Rattle.poly_terms.proofs.MergeLaws.{takes-left, takes-right, takes-two, some-left, some-right}
use Rattle.poly_terms.proofs.merge.next_term.Goals as goal

-- if nothing is popped, the list was empty
none_left : (r : Option code.Monomial) (n k : ℕ) → MatchOption r ((n ≡ 0) × (k ≡ 0)) (λ m. k + 1 ≡ n) → r ≡ None → n ≡ 0
none_left r n k h e = (subst (λ (o : Option code.Monomial). MatchOption o ((n ≡ 0) × (k ≡ 0)) (λ m. k + 1 ≡ n)) e h).0

pub returns-in-Less : goal.returns-in-Less
returns-in-Less c =
    let t = takes-left c.args.left.now.items c.args.right.now.items c.pop_front.result c.pop_front.new.self.items c.requires (sym c.in-Less.ensures)
    c.pop_front.ensures.items (λ e. omega (arith, none_left c.pop_front.result _ _ c.pop_front.ensures.cases e, c.args.left.now.ok.0)) in
    record { first = t.first; ready = t.ready; fewer = t.fewer }

pub returns-in-Greater : goal.returns-in-Greater
returns-in-Greater c =
    let t = takes-right c.args.left.now.items c.args.right.now.items c.pop_front-in-Greater.result c.pop_front-in-Greater.new.self.items c.requires (sym c.in-Greater.ensures)
    c.pop_front-in-Greater.ensures.items (λ e. omega (arith, none_left c.pop_front-in-Greater.result _ _ c.pop_front-in-Greater.ensures.cases e, c.args.right.now.ok.0)) in
    record { first = t.first; ready = t.ready; fewer = t.fewer }

-- if the first monomials have the same variables, both lists have one
pub returns-in_err-m-in-Equal : goal.returns-in_err-m-in-Equal
returns-in_err-m-in-Equal c =
    absurd (some-left (monomials_of c.args.left.now.items) (monomials_of c.args.right.now.items) (sym c.in-Equal.ensures)
    (omega (arith, length-map c.args.left.now.items monomial_of, c.in_err-m-in-Equal.ensures.cases.0, c.args.left.now.ok.0)))

pub returns-in_err-n-in-Equal : goal.returns-in_err-n-in-Equal
returns-in_err-n-in-Equal c =
    absurd (some-right (monomials_of c.args.left.now.items) (monomials_of c.args.right.now.items) (sym c.in-Equal.ensures)
    (omega (arith, length-map c.args.right.now.items monomial_of, c.in_err-n-in-Equal.ensures.cases.0, c.args.right.now.ok.0)))

pub combined-requires-clause-left : goal.combined-requires-clause-left
combined-requires-clause-left c =
    let b : IsBounded coefficient_limit (monomials_of (c.in_ok-m-in-Equal.m ∷ c.pop_front-in-Equal.new.self.items)) =
    subst (λ (xs : List code.Monomial). IsBounded coefficient_limit (monomials_of xs)) c.in_ok-m-in-Equal.ensures.items c.requires.left_bounded in
    b.0

pub combined-requires-clause-right : goal.combined-requires-clause-right
combined-requires-clause-right c =
    let b : IsBounded coefficient_limit (monomials_of (c.in_ok-n-in-Equal.n ∷ c.pop_front-in-Equal-2.new.self.items)) =
    subst (λ (xs : List code.Monomial). IsBounded coefficient_limit (monomials_of xs)) c.in_ok-n-in-Equal.ensures.items c.requires.right_bounded in
    b.0

pub returns-in_ok-n-in-Equal : goal.returns-in_ok-n-in-Equal
returns-in_ok-n-in-Equal c =
    let t = takes-two c.args.left.now.items c.args.right.now.items c.in_ok-m-in-Equal.m c.in_ok-n-in-Equal.n c.combined.result
    c.pop_front-in-Equal.new.self.items c.pop_front-in-Equal-2.new.self.items c.requires (sym c.in-Equal.ensures)
    c.in_ok-m-in-Equal.ensures.items c.in_ok-n-in-Equal.ensures.items c.combined.ensures.coefficient c.combined.ensures.variables in
    record { first = t.first; ready = t.ready; fewer = t.fewer }
