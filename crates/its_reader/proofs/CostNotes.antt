-- The code finds exactly the faults of the next token within the braces of a cost.
use Rattle.std.specs.Prelude.{◌≡◌, ℕ, false, ◌++◌, Option, refl}
use Rattle.std.proofs.Common.{ap, append-nil}
use Rattle.its_text.specs.Pieces.{Piece}
use Rattle.its_text.specs.Kinds.{Limit, LongName}
use Rattle.its_text.specs.Numbering.{left_names}
use Rattle.its_text.specs.GrammarStates.{GrammarState}
use Rattle.its_text.specs.StateFaults.{Tokens, fault_if, long_name, next_faults}
use Rattle.its_reader.specs.Places.{CostPartEnded}
use Rattle.its_reader.specs.FaultTests.{cost_faults, IsDigital}
use Rattle.its_reader.specs.declared.parser_state.CostState.{CostState}
use Rattle.its_reader.specs.declared.parser_state.CostState.TheVariants as costs
use Rattle.its_reader.specs.declared.draft.Draft.{Draft}
use Rattle.its_reader.proofs.GoingNotes.{going_is, ended_going}

-- the faults that the grammar's state shows within a cost at the next token are those that the code finds
pub cost_next : (ts : Tokens) (at : ℕ) (next behind : Option Piece) (d : Draft) (f : GrammarState) (state : CostState)
    → CostPartEnded ts next state d f → IsDigital next → next_faults at f next behind ≡ cost_faults state d.rule at next
cost_next ts at next behind d f costs.Costing k digital =
    rw k.1.1.1.0 (ap (λ xs. fault_if (long_name next) (Limit LongName) at ++ xs)
    (going_is at (record { names = left_names k.1.0; grammar_state = k.1.1.0; leads_atom = false }) d.rule
    d.rule.expression false behind k.1.1.1.1.0.expression next digital (λ p name e h. refl)))
cost_next ts at next behind d f costs.Costed k digital = rw (
  k.1.1.1.1.0,
  ended_going at behind k.1.1.0 (record { names = left_names k.1.0; grammar_state = k.1.1.0; leads_atom = false }) next
      refl k.1.1.1.1.1.ends,
) (simp append-nil)
