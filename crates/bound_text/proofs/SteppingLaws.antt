-- Laws of stepping: the code's state after one more factor.
use Rattle.std.proofs.Common.{◌≡◌, ℕ, ◌^◌, ◌<◌, nat_le, arith, subst, false, not, Some, refl, ap, sym, ◌∙◌}
use Rattle.std.specs.Prelude.{IsTrue}
use Rattle.text_core.specs.model.Bounds.{Bound, Constant, Parts}
use Rattle.bound_text.specs.Shapes.{with_part}
use Rattle.bound_text.specs.ParserStates.{Outer, ItemRead, last, init}
use Rattle.bound_text.specs.Steps.{state_at_position, behind_factor}
use Rattle.std.proofs.lemmas.Bool.Decides.{nat_tests}
use Rattle.bound_text.specs.Pieces.{Piece, Caret}
use Rattle.bound_text.specs.Checks.{takes_caret, is_caret, has_large_base, is_large_number}
use Rattle.bound_text.specs.Views.{state_with}
use Rattle.bound_text.specs.declared.state.Position.{Position}
use Rattle.bound_text.specs.declared.state.Position.TheVariants as at
use Rattle.bound_text.proofs.PartLaws.{last-with_part, init-with_part}

-- after a factor that takes no `^` the reader is settled
pub settled_factor : (outer : Outer) (ts fs behind : Parts) (b : Bound) → behind ≡ with_part fs b → takes_caret fs (Some b) ≡ false
    → (Some (behind_factor outer ts fs b) ≡ Some (state_at_position outer ts behind ItemRead)) × IsTrue (not (takes_caret (init behind) (last behind)))
settled_factor outer ts fs behind b e none = (
  ap (λ (gs : Parts). Some (state_at_position outer ts gs ItemRead)) (sym e),
  ap not (ap (λ (gs : Parts). takes_caret (init gs) (last gs)) e ∙ ap (λ (gs : Parts). takes_caret gs (last (with_part fs b))) (init-with_part fs b) ∙ ap (takes_caret fs) (last-with_part fs b) ∙ none),
)

-- a number that passes the check of bases is below 2^64
pub small_base : (position : Position) (outer : Outer) (ts fs : Parts) (n : ℕ) (piece : Piece) → position ≡ at.Number n → has_large_base (state_with position outer ts fs) piece ≡ false
    → IsTrue (is_caret piece) → n < 2 ^ 64
small_base position outer ts fs n piece e large caret = go piece caret (subst (λ (p : Position). has_large_base (state_with p outer ts fs) piece ≡ false) e large)
  where
    go : (piece : Piece) → IsTrue (is_caret piece) → has_large_base (state_with (at.Number n) outer ts fs) piece ≡ false → n < 2 ^ 64
    go Caret caret large =
        let worked : nat_le (2 ^ 64) n ≡ false = sym (ap is_large_number (last-with_part fs (Constant n))) ∙ large in
        grind (arith, nat_tests)
    go piece caret large = cc
