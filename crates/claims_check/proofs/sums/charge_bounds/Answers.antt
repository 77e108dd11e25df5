use Rattle.std.proofs.Common.{◌∙◌, ◌+◌, List, [], ◌∷◌, get_or, map, drop, sym, ap, arith}
use Rattle.std.proofs.lemmas.List.{drop_more, map-append}
use Rattle.std.specs.Prelude.{option_map}
use Rattle.signed_bounds.specs.Bounds as plain
use Rattle.signed_bounds.specs.Views.{signed_of, signeds_of}
use Rattle.potential_types.specs.Views.{charge_of, fact_view}
use Rattle.program_claims.specs.Sums.{charge_bounds}
use Rattle.claims_check.specs.Parts.{in_front}
use Rattle.claims_check.proofs.PositionLaws.{drop-item}
use Rattle.claims_check.proofs.BoundLaws.{bounds-differ, bounds-step, bounds-fail, bounds-done}
use Rattle.claims_check.proofs.sums.charge_bounds.Goals as goal

pub loop-i-preserved : goal.loop-i-preserved
loop-i-preserved c =
    let facts = map fact_view c.args.known.facts.now in
    let cs = c.args.charges.now in
    let ns = c.args.numbers.now in
    let i = c.loop-i.i in
    ap (λ (bs : List plain.Signed). option_map (in_front bs)
    (charge_bounds facts (map charge_of (drop (i + 1) cs)) (drop (i + 1) ns)))
    (ap signeds_of c.in_ok-push.ensures.items ∙ map-append signed_of c.loop-i.parts.items (c.in-Some.part ∷ []))
    ∙ bounds-step facts cs ns i c.index-charges-i.result (get_or ns i 0) (signeds_of c.loop-i.parts.items)
    (signed_of c.in-Some.part) (charge_bounds facts (map charge_of cs) ns)
    (drop-item cs i c.index-charges-i.result (omega arith) c.index-charges-i.is) (drop_more ns i 0 (omega arith))
    (sym c.in_ok-found.ensures ∙ ap (option_map signed_of) c.in-Some.is) c.loop-i.invariant

pub returns-in_default : goal.returns-in_default
returns-in_default c =
    let facts = map fact_view c.args.known.facts.now in
    let cs = c.args.charges.now in
    let ns = c.args.numbers.now in
    let i = c.loop-i.i in
    bounds-fail facts cs ns i c.index-charges-i.result (get_or ns i 0) (signeds_of c.loop-i.parts.items)
    (charge_bounds facts (map charge_of cs) ns)
    (drop-item cs i c.index-charges-i.result (omega arith) c.index-charges-i.is) (drop_more ns i 0 (omega arith))
    (sym c.in_ok-found.ensures ∙ ap (option_map signed_of) c.in_default.is) c.loop-i.invariant

pub returns : goal.returns
returns c =
    let facts = map fact_view c.args.known.facts.now in
    bounds-done facts c.args.charges.now c.args.numbers.now c.loop-i.i (signeds_of c.loop-i.parts.items)
    (charge_bounds facts (map charge_of c.args.charges.now) c.args.numbers.now) (omega arith) (omega arith)
    c.loop-i.invariant

pub returns-then-charges-numbers : goal.returns-then-charges-numbers
returns-then-charges-numbers c =
    sym (bounds-differ (map fact_view c.args.known.facts.now) c.args.charges.now c.args.numbers.now
    (λ e. omega (arith, e)))
