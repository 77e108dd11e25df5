use Rattle.std.proofs.Common.{◌≡◌, ap, sym, ◌∙◌, arith, ◌^◌}
use Rattle.std.specs.Prelude.{ℤ, pos, ◌+ℤ◌, Option}
use Rattle.std.proofs.lemmas.Int.{ints}
use Rattle.poly_terms.specs.declared.wide.Wide.{Wide}
use Rattle.poly_terms.specs.Wide.{wide_value, sum_at}
use Rattle.poly_terms.proofs.EntryLaws.{within-found}
use Rattle.poly_terms.proofs.product.sum_with.Goals as goal

pub wide_sum-requires-clause-left : goal.wide_sum-requires-clause-left
wide_sum-requires-clause-left c = within-found (2 ^ 31) _ c.in-Some.so_far.now c.args.sums.now.entries c.requires.so_far (sym c.in-Some.ensures.value)

pub returns-in-Some : goal.returns-in-Some
returns-in-Some c = record {
  value = c.wide_sum.ensures.value ∙ ap (λ (o : Option Wide). sum_at o +ℤ wide_value c.args.more) c.in-Some.ensures.value;
  within = λ k a. c.wide_sum.ensures.within k (within-found k _ c.in-Some.so_far.now c.args.sums.now.entries a (sym c.in-Some.ensures.value));
}

pub returns-in-None : goal.returns-in-None
returns-in-None c = record {
  value = nothing (wide_value c.args.more) ∙ ap (λ (o : Option Wide). sum_at o +ℤ wide_value c.args.more) c.in-None.ensures.value;
  within = λ k a. record { high = omega (arith, c.requires.one.high); low = omega (arith, c.requires.one.low) };
}
  where
    nothing : (z : ℤ) → z ≡ pos 0 +ℤ z
    nothing z = omega (arith, ints)
