use Rattle.std.proofs.Common.{rules, ◌≡◌, ℕ, ◌+◌, ℤ, length, arith, refl, subst, sym, ap, ◌∙◌, List, [], ◌∷◌, ◌++◌}
use Rattle.std.proofs.Common.{length-append, to_z, of_z}
use Rattle.std.specs.Int.{w64}
use Rattle.std.proofs.lemmas.Option.{slice_get_read}
use Rattle.simplex_core.specs.Scaling.{AreOver, AreWithin}
use Rattle.simplex_core.proofs.Scalings.{over-more, within-more}
use Rattle.simplex_core.proofs.scaling.numbers_over.Goals as goal

pub number_over-requires-clause-divides : goal.number_over-requires-clause-divides
number_over-requires-clause-divides c =
    c.requires.common.common.each c.loop-position.position c.index-fractions-position.result c.loop-position-test.true
    (slice_get_read c.args.fractions.now _ c.loop-position.position c.index-fractions-position.result refl c.loop-position-test.true c.index-fractions-position.is)

pub loop-position-init : goal.loop-position-init
loop-position-init c = (
  ap (λ (xs : List ℤ). length xs) c.in_ok-numbers.ensures.items,
  record { positive = c.requires.common.positive; each = λ j f l i. absurd (omega arith) },
  record { each = λ j l. absurd (omega arith) },
)

pub returns-in-None : goal.returns-in-None
returns-in-None c = record {
  position = c.loop-position.position;
  fraction = c.index-fractions-position.result;
  within = c.loop-position-test.true;
  is = slice_get_read c.args.fractions.now _ c.loop-position.position c.index-fractions-position.result refl c.loop-position-test.true c.index-fractions-position.is;
  over = c.in-None.ensures;
}

pub loop-position-preserved : goal.loop-position-preserved
loop-position-preserved c =
    let is = slice_get_read c.args.fractions.now _ c.loop-position.position c.index-fractions-position.result refl c.loop-position-test.true c.index-fractions-position.is in
    let inv = c.loop-position.invariant in
    let n = c.in-Some.number in
    let plain : to_z w64 (of_z w64 n) ≡ n = search rules in
    let pushed : c.push.new.self.items ≡ c.loop-position.numbers.items ++ n ∷ [] =
    c.in_ok-push-in-Some.ensures.items ∙ ap (λ (z : ℤ). c.loop-position.numbers.items ++ z ∷ []) plain in
    subst (λ (xs : List ℤ). (length xs ≡ c.loop-position.position + 1) × AreOver c.args.fractions.now (c.loop-position.position + 1) xs c.args.den
    × AreWithin c.args.limit (c.loop-position.position + 1) xs) (sym pushed) (
      let long = inv.0 in omega (arith, long, length-append {A = ℤ} c.loop-position.numbers.items (n ∷ [])),
      over-more c.args.fractions.now c.loop-position.position c.loop-position.numbers.items c.args.den c.index-fractions-position.result n is inv.0 inv.1 c.in-Some.ensures.0,
      within-more c.args.limit c.loop-position.position c.loop-position.numbers.items n inv.0 inv.2 c.in-Some.ensures.1,
    )

pub returns : goal.returns
returns c =
    let all : c.loop-position.position ≡ length c.args.fractions.now = let a = c.loop-position-test.false in let b = c.loop-position.auto.position-end in omega arith in
    subst (λ (m : ℕ). (length c.loop-position.numbers.items ≡ m) × AreOver c.args.fractions.now m c.loop-position.numbers.items c.args.den × AreWithin c.args.limit m c.loop-position.numbers.items) all
    c.loop-position.invariant
