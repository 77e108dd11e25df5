use Rattle.std.proofs.Common.{map, arith}
use Rattle.text_core.specs.Names.{name_of}
use Rattle.poly_terms.specs.Views.{monomials_of}
use Rattle.signed_text.proofs.MonomialRanks.{pass-text, pass-first, all-signed_monomials}
use Rattle.signed_text.proofs.polynomials.write_polynomial.Goals as goal

-- a pass, after those before it
pub loop-rank-preserved : goal.loop-rank-preserved
loop-rank-preserved c = record {
  text =
      pass-text (map name_of c.args.names.now) (monomials_of c.args.monomials.now) c.loop-rank.rank c.loop-rank.is_first
      c.args.text.now.items c.loop-rank.text.items c.write_ranked.new.text.items c.loop-rank.invariant.text
      c.loop-rank.invariant.first c.in_ok-is_first.ensures.text;
  first =
      pass-first (monomials_of c.args.monomials.now) c.loop-rank.rank c.loop-rank.is_first c.in_ok-is_first.is_first
      c.loop-rank.invariant.first c.in_ok-is_first.ensures.is_next_first;
}

-- all passes
pub returns : goal.returns
returns c =
    all-signed_monomials (map name_of c.args.names.now) (monomials_of c.args.monomials.now) c.loop-rank.rank
    c.loop-rank.is_first c.args.text.now.items c.loop-rank.text.items
    (omega (arith, c.loop-rank-test.false, c.loop-rank.auto.rank-end)) c.loop-rank.invariant.text
    c.loop-rank.invariant.first c.if-is_first.false
