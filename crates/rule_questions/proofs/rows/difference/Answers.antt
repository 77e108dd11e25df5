use Rattle.std.proofs.Common.{◌≡◌, ◌≤◌, max, ap, arith, ◌∙◌, List, length}
use Rattle.std.specs.Prelude.{ℤ, negsuc, nat_abs, ◌+ℤ◌, ◌*ℤ◌}
use Rattle.std.proofs.lemmas.Int.{ints}
use Rattle.poly_terms.specs.linear_forms.Forms.{at}
use Rattle.poly_terms.specs.model.Limits.{coefficient_limit}
use Rattle.poly_terms.specs.Views.{form_of}
use Rattle.rule_questions.proofs.Lists.{listed-pushed}
use Rattle.rule_questions.proofs.Sums.{at-small, difference-is, difference-small}
use Rattle.rule_questions.proofs.rows.difference.Goals as goal

pub loop-unknown-preserved : goal.loop-unknown-preserved
loop-unknown-preserved c =
    let f = form_of c.args.before.now in
    let g = form_of c.args.after.now in
    let u = c.loop-unknown.unknown in
    let a : c.number_at.result ≡ at f.coefs u = c.number_at.ensures ∙ ap
    (λ (xs : List ℤ). at xs u) c.deref.ensures.value in
    let b : c.number_at-in-loop-unknown.result ≡ at g.coefs u =
    c.number_at-in-loop-unknown.ensures ∙ ap (λ (xs : List ℤ). at xs u) c.deref-in-loop-unknown.ensures.value in
    let l : nat_abs (at f.coefs u) ≤ coefficient_limit = at-small f.coefs u c.requires.before.coefs in
    let m : nat_abs (at g.coefs u) ≤ coefficient_limit = at-small g.coefs u c.requires.after.coefs in
    let v = c.less.ensures.value in
    let s = c.less.ensures.small in
    listed-pushed u (λ u. at f.coefs u +ℤ negsuc 0 *ℤ at g.coefs u) c.loop-unknown.coefs.items c.push.new.self.items _
    c.loop-unknown.invariant c.in_ok-push.ensures.items (omega (arith, ints, a, b, l, m, v, s))

pub less-requires-clause-first : goal.less-requires-clause-first
less-requires-clause-first c =
    let f = form_of c.args.before.now in
    let u = c.loop-unknown.unknown in
    let a : c.number_at.result ≡ at f.coefs u = c.number_at.ensures ∙ ap
    (λ (xs : List ℤ). at xs u) c.deref.ensures.value in
    let l : nat_abs (at f.coefs u) ≤ coefficient_limit = at-small f.coefs u c.requires.before.coefs in
    omega (arith, ints, a, l)

pub less-requires-clause-second : goal.less-requires-clause-second
less-requires-clause-second c =
    let g = form_of c.args.after.now in
    let u = c.loop-unknown.unknown in
    let b : c.number_at-in-loop-unknown.result ≡ at g.coefs u =
    c.number_at-in-loop-unknown.ensures ∙ ap (λ (xs : List ℤ). at xs u) c.deref-in-loop-unknown.ensures.value in
    let m : nat_abs (at g.coefs u) ≤ coefficient_limit = at-small g.coefs u c.requires.after.coefs in
    omega (arith, ints, b, m)

pub returns-clause-same : goal.returns-clause-same
returns-clause-same c =
    let f = form_of c.args.before.now in
    let g = form_of c.args.after.now in
    let many : c.loop-unknown.unknown ≡ max (length f.coefs) (length g.coefs) =
    omega (
      arith,
      c.len.ensures,
      c.len-2.ensures,
      c.max-unknown-end.ensures,
      c.args.before.now.coefs.ok.0,
      c.args.after.now.coefs.ok.0,
      c.loop-unknown-test.false,
      c.loop-unknown.auto.unknown-end,
    ) in
    let l = c.requires.before.constant in
    let m = c.requires.after.constant in
    let v = c.less-constant.ensures.value in
    let s = c.less-constant.ensures.small in
    difference-is f g c.loop-unknown.unknown c.loop-unknown.coefs.items _ many c.loop-unknown.invariant
    (omega (arith, ints, l, m, v, s))

pub returns-clause-small : goal.returns-clause-small
returns-clause-small c =
    let f = form_of c.args.before.now in
    let g = form_of c.args.after.now in
    let l = c.requires.before.constant in
    let m = c.requires.after.constant in
    let v = c.less-constant.ensures.value in
    let s = c.less-constant.ensures.small in
    difference-small f g c.loop-unknown.unknown _ c.requires.before c.requires.after c.loop-unknown.invariant
    (omega (arith, ints, l, m, v, s))
