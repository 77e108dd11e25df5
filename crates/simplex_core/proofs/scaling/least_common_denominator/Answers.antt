use Rattle.std.proofs.Common.{rules, ◌≡◌, ℕ, ◌≤◌, unsigned_abs, length, arith, refl, subst}
use Rattle.std.proofs.lemmas.Option.{slice_get_read}
use Rattle.int_laws.specs.Divisors.{IsLeastCommonMultiple, HasNoneWithin}
use Rattle.simplex_core.specs.Scaling.{IsLeastCommon}
use Rattle.simplex_core.proofs.Scalings.{least-of_none, least-more, none-more}
use Rattle.simplex_core.proofs.scaling.least_common_denominator.Goals as goal

pub loop-position-init : goal.loop-position-init
loop-position-init c = (least-of_none c.args.fractions.now, omega (arith, c.requires))

pub least_common_multiple-requires-clause-a : goal.least_common_multiple-requires-clause-a
least_common_multiple-requires-clause-a c = c.loop-position.invariant.0.positive

pub returns-in_err-den : goal.returns-in_err-den
returns-in_err-den c =
    let size : c.unsigned_abs.result ≡ unsigned_abs c.index-fractions-position.result.den = search rules in
    let is = slice_get_read c.args.fractions.now _ c.loop-position.position c.index-fractions-position.result refl c.loop-position-test.true c.index-fractions-position.is in
    let none = none-more c.args.fractions.now c.loop-position.position c.loop-position.den c.args.limit c.index-fractions-position.result c.loop-position-test.true is
    c.loop-position.invariant.0 (subst (λ (d : ℕ). HasNoneWithin c.loop-position.den d c.args.limit) size (c.in_err-den.ensures)) in
    rw c.from_residual.ensures none

pub loop-position-preserved : goal.loop-position-preserved
loop-position-preserved c =
    let size : c.unsigned_abs.result ≡ unsigned_abs c.index-fractions-position.result.den = search rules in
    let is = slice_get_read c.args.fractions.now _ c.loop-position.position c.index-fractions-position.result refl c.loop-position-test.true c.index-fractions-position.is in
    let found = c.in_ok-den.ensures in (
      least-more c.args.fractions.now c.loop-position.position c.loop-position.den c.in_ok-den.den c.index-fractions-position.result is c.loop-position.invariant.0
          (subst (λ (d : ℕ). IsLeastCommonMultiple c.loop-position.den d c.in_ok-den.den) size found.0),
      found.1,
    )

pub returns : goal.returns
returns c =
    let all : c.loop-position.position ≡ length c.args.fractions.now = let a = c.loop-position-test.false in let b = c.loop-position.auto.position-end in omega arith in
    subst (λ (m : ℕ). IsLeastCommon c.args.fractions.now m c.loop-position.den × (c.loop-position.den ≤ c.args.limit)) all c.loop-position.invariant
