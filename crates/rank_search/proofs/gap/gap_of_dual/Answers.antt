use Rattle.std.proofs.Common.{ap, map, refl, arith, ◌∷◌, []}
use Rattle.simplex_core.specs.linear_forms.Forms.{at}
use Rattle.cert_types.specs.AnswerViews.{scaled_of}
use Rattle.rule_questions.specs.ProgramQuestions.{places_of}
use Rattle.rank_search.specs.Reading.{shape_at}
use Rattle.rank_search.proofs.Groups.{lines-append, points-together}
use Rattle.rank_search.proofs.gap.gap_of_dual.Goals as goal

pub moves_of_dual-requires : goal.moves_of_dual-requires
moves_of_dual-requires c =
    let r = c.requires.room in
    let e = lines-append (map (shape_at c.args.prepared_rules.now) c.args.set.now)
    (shape_at c.args.prepared_rules.now c.args.strict ∷ [])
    in omega (arith, r, e)

pub rule_element-requires : goal.rule_element-requires
rule_element-requires c =
    let r = c.requires.room in
    let e = lines-append (map (shape_at c.args.prepared_rules.now) c.args.set.now)
    (shape_at c.args.prepared_rules.now c.args.strict ∷ []) in
    let n = c.in_ok-moves.ensures.next in omega (arith, r, e, n)

pub returns : goal.returns
returns c = record {
  numbered = refl;
  same_set = c.in_ok-from_slice.ensures.items;
  same_shut = ap places_of c.in_ok-from_slice-2.ensures.items;
  points = points-together (at c.args.numbers.now) 0 c.moves_of_dual.new.next
      (map (shape_at c.args.prepared_rules.now) c.args.set.now) (shape_at c.args.prepared_rules.now c.args.strict)
      (map scaled_of c.in_ok-moves.moves.items)
      (scaled_of c.in_ok-floor.floor) c.in_ok-moves.ensures.moves c.in_ok-moves.ensures.next c.in_ok-floor.ensures;
  kept = c.in_ok-kept_points.ensures;
}
