use Rattle.std.proofs.Common.{◌≡◌, ◌<◌, true, false, List, length, ap, sym, ◌∙◌, arith}
use Rattle.std.proofs.lemmas.List.{length-map}
use Rattle.std.proofs.lemmas.List.Edits.{length-remove}
use Rattle.bound_expr.specs.declared.bound.Bound.{Bound}
use Rattle.bound_expr.specs.Views.{bound_of, bounds_of}
use Rattle.bound_table.specs.Dominance.{below_another}
use Rattle.bound_table.proofs.Dominances.{dominant_after-remove, dominant_after-kept}
use Rattle.bound_table.proofs.dominance.without_lower.Goals as goal

pub loop-position-preserved-then-is_below_another : goal.loop-position-preserved-then-is_below_another
loop-position-preserved-then-is_below_another c =
    let xs = c.loop-position.kept.items in
    let i = c.loop-position.position in
    let within : i < length xs = omega arith in
    let lower : below_another (bounds_of xs) i ≡ true =
    ap (λ (ps : List Bound). below_another (bounds_of ps) i) (sym c.deref.ensures.value)
    ∙ sym c.is_below_another.ensures ∙ c.if-is_below_another.true in
    record {
      left =
          dominant_after-remove xs c.take_away.new.parts.items i within lower c.take_away.ensures
          ∙ c.loop-position.invariant.left;
      within = omega (arith, ap length c.take_away.ensures, length-remove xs i within);
    }

pub loop-position-preserved : goal.loop-position-preserved
loop-position-preserved c =
    let xs = c.loop-position.kept.items in
    let i = c.loop-position.position in
    let within : i < length xs = omega arith in
    let inside : i < length (bounds_of xs) = omega (arith, length-map xs bound_of) in
    let high : below_another (bounds_of xs) i ≡ false =
    ap (λ (ps : List Bound). below_another (bounds_of ps) i) (sym c.deref.ensures.value)
    ∙ sym c.is_below_another.ensures ∙ c.if-is_below_another.false in
    record {
      left = sym (dominant_after-kept (bounds_of xs) i inside high) ∙ c.loop-position.invariant.left;
      within = omega arith;
    }
