-- The reasons of the checks of shapes.
use Rattle.std.proofs.Common.{◌≡◌, ◌≤◌, ℕ, Bool, true, false, List, ◌++◌, map, refl, ap, sym, append_assoc, ◌∙◌}
use Rattle.std.specs.Prelude.{◌&&◌, nat_le}
use Rattle.std.proofs.lemmas.Bool.{leb-true}
use Rattle.potential_nodes.specs.Ground.{Ground}
use Rattle.potential_nodes.specs.Facts.{SignedFact, is_never}
use Rattle.potential_nodes.specs.signed_bounds.Bounds.{Signed}
use Rattle.potential_nodes.specs.Checks.{BadShape, first_refused}
use Rattle.potential_nodes.specs.Tables.{PotentialTable, function_shape, move_shape, table_shape, missing_checks}
use Rattle.potential_nodes.specs.Falls.{FallNode, payment_shape, sum_shape}
use Rattle.potential_nodes.specs.Peaks.{PeakNode, cited_shape}
use Rattle.potential_nodes.specs.PhaseNodes.{PhasesNode, first_table, second_table, unit_payment, phases_shape}
use Rattle.potential_nodes.specs.PhaseNodes.{phases_checks}
use Rattle.check_potentials.specs.Refusals.{all_hold}
use Rattle.check_potentials.specs.Stages.{fall_shape, peak_shape, phase_shapes, phase_behind, phase_moves}
use Rattle.check_potentials.specs.Stages.{missing_moves}
use Rattle.check_potentials.proofs.RefusalLaws.{HaveReason, have_append, have_map}

-- a table that isn't of its shape is refused for its shape
table-shapes : (g : Ground) (tab : PotentialTable) → HaveReason BadShape (table_shape g tab)
table-shapes g tab = (
  refl,
  (
    refl,
    (
      refl,
      have_append BadShape (map (function_shape g) tab.functions) (map (move_shape g tab) tab.moves)
          (have_map BadShape (function_shape g) tab.functions (λ f. refl))
          (have_map BadShape (move_shape g tab) tab.moves (λ m. refl)),
    ),
  ),
)

-- so is a potential that pays, one that covers a form, and a node of two phases
pub fall-shapes : (g : Ground) (facts : List SignedFact) (n : FallNode) → HaveReason BadShape (fall_shape g facts n)
fall-shapes g facts n =
    have_append BadShape (table_shape g n.potential) _ (table-shapes g n.potential) (
      refl,
      have_append BadShape (map (payment_shape g n.potential) n.payments) (map (sum_shape facts) n.potential.moves)
          (have_map BadShape (payment_shape g n.potential) n.payments (λ y. refl))
          (have_map BadShape (sum_shape facts) n.potential.moves (λ m. refl)),
    )

pub peak-shapes : (g : Ground) (facts : List SignedFact) (n : PeakNode) → HaveReason BadShape (peak_shape g facts n)
peak-shapes g facts n =
    have_append BadShape (table_shape g n.potential) _ (table-shapes g n.potential)
    (refl, have_map BadShape (cited_shape facts) n.potential.moves (λ m. refl))

pub phase-shapes : (g : Ground) (n : PhasesNode) → HaveReason BadShape (phase_shapes g n)
phase-shapes g n =
    have_append BadShape (table_shape g (first_table n)) (table_shape g (second_table g n) ++ phases_shape g n)
    (table-shapes g (first_table n))
    (have_append BadShape (table_shape g (second_table g n)) (phases_shape g n) (table-shapes g (second_table g n))
    (refl, (refl, have_map BadShape (payment_shape g (first_table n)) (map unit_payment n.counted) (λ y. refl))))

-- where a shape is right, the denominator is at least 1
den-positive : (den : ℕ) (others : Bool) → true ≡ (nat_le 1 den && others) → 1 ≤ den
den-positive den others h = go (nat_le 1 den) refl
  where
    go : (v : Bool) → nat_le 1 den ≡ v → 1 ≤ den
    go true e = leb-true 1 den e
    go false e = absurd (apart (h ∙ ap (λ (t : Bool). t && others) e))
      where
        apart : true ≡ false → ⊥
        apart k = cc

pub fall-den : (g : Ground) (facts : List SignedFact) (n : FallNode) → true ≡ all_hold (fall_shape g facts n)
    → 1 ≤ n.potential.den
fall-den g facts n h = den-positive n.potential.den _ h

pub peak-den : (g : Ground) (facts : List SignedFact) (n : PeakNode) → true ≡ all_hold (peak_shape g facts n)
    → 1 ≤ n.potential.den
peak-den g facts n h = den-positive n.potential.den _ h

pub phase-den : (g : Ground) (n : PhasesNode) → true ≡ all_hold (phase_shapes g n) → 1 ≤ n.den
phase-den g n h = den-positive n.den _ h

-- after the shape of a node of two phases both lists of missing moves come first
pub behind_missing : (g : Ground) (facts : List SignedFact) (n : PhasesNode) (b : Signed)
    → first_refused (phases_checks g facts n b) ≡ first_refused (phase_behind g facts n b)
    → first_refused (phases_checks g facts n b) ≡ first_refused (missing_moves g facts n ++ phase_moves g n b)
behind_missing g facts n b h =
    h ∙ ap first_refused (sym (append_assoc (missing_checks g (first_table n) (is_never facts))
    (missing_checks g (second_table g n) (is_never facts)) (phase_moves g n b)))
