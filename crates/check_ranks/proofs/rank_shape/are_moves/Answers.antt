use Rattle.std.proofs.Common.{◌≡◌, ◌∙◌, map, length, get_or, refl, sym, subst, arith}
use Rattle.std.proofs.lemmas.List.{length-map}
use Rattle.gap_checks.proofs.GapPositions.{all-done}
use Rattle.cert_types.specs.cert_rules.AcceptsPlain.{AreMultipliers}
use Rattle.cert_types.specs.cert_rules.AcceptsRank.{moves_of}
use Rattle.cert_context.specs.CheckContexts.{setting}
use Rattle.check_ranks.proofs.RankShapes.{moves-more, moves-break}
use Rattle.check_ranks.proofs.rank_shape.are_moves.Goals as goal

pub returns-then-not-fits : goal.returns-then-not-fits
returns-then-not-fits c =
    let s = setting c.args.context.now in
    let set = c.args.set.now in
    let i = c.loop-i.i in
    let long : length c.args.moves.now ≡ length set = omega arith in (
      λ e. absurd (let no : ⊥ = cc in no),
      λ h. absurd (moves-break set c.args.moves.now i c.index-moves-i.result c.requires.ascending long (omega arith)
          c.index-moves-i.is (AreMultipliers s)
          (λ m. let t = c.are_multipliers-fits.ensures.1 (subst (AreMultipliers s (get_or set i 0)) (sym c.deref.ensures.value) m) in
          let no : ⊥ = cc in no) h.each),
    )

pub loop-i-preserved : goal.loop-i-preserved
loop-i-preserved c =
    let s = setting c.args.context.now in
    let set = c.args.set.now in
    let i = c.loop-i.i in
    let long : length c.args.moves.now ≡ length set = omega arith in
    moves-more set c.args.moves.now i c.index-moves-i.result c.requires.ascending long (omega arith)
    c.index-moves-i.is (AreMultipliers s) c.loop-i.invariant
    (subst (AreMultipliers s (get_or set i 0)) c.deref.ensures.value (c.are_multipliers-fits.ensures.0 c.if-not-fits.false))

pub returns : goal.returns
returns c = (
  λ e. record {
    long = length-map c.args.moves.now (λ m. m.items) ∙ omega arith;
    each = all-done
        (λ t. AreMultipliers (setting c.args.context.now) t (moves_of c.args.set.now (map (λ m. m.items) c.args.moves.now) t))
        c.args.set.now c.loop-i.i (omega arith) c.loop-i.invariant;
  },
  λ h. refl,
)
