-- The laws of simulation, of sections and of weaker guards.
use Rattle.std.specs.Prelude.{⊤}
use Rattle.model.specs.Runs.{Config}
use Rattle.refinement.specs.Laws.{SimulationKeepsBounds, RightSectionsKeepBounds, ShownSectionsKeepBounds}
use Rattle.refinement.specs.Laws.{WeakerGuardsKeepBounds, same_numbers}
use Rattle.refinement.proofs.Lifting.{all_lift}
use Rattle.refinement.proofs.Bounds.{bounds_are_kept}
use Rattle.refinement.proofs.Rights.{spells_the_runs, facts_of_copies_hold}
use Rattle.refinement.proofs.Shown.{right-section}
use Rattle.refinement.proofs.Weaker.{weaker-simulates}

pub simulation_keeps_bounds : (HasFacts : Config → Type 0) → SimulationKeepsBounds HasFacts
simulation_keeps_bounds HasFacts = record {
  lifts = λ p q o h. all_lift p q o HasFacts h;
  bounds = λ p q o h. bounds_are_kept p q o h.copies HasFacts (all_lift p q o HasFacts h);
}

pub right_sections_keep_bounds : RightSectionsKeepBounds
right_sections_keep_bounds = record { runs = spells_the_runs; facts = facts_of_copies_hold }

pub shown_sections_keep_bounds : ShownSectionsKeepBounds
shown_sections_keep_bounds = record {
  right = right-section;
  runs = λ p section shown. spells_the_runs p section (right-section p section shown);
  facts = λ p section shown. facts_of_copies_hold p section (right-section p section shown);
}

pub weaker_guards_keep_bounds : WeakerGuardsKeepBounds
weaker_guards_keep_bounds = record {
  lifts = λ p q h. all_lift p q same_numbers (λ c. ⊤) (weaker-simulates p q h);
  bounds = λ p q h. bounds_are_kept p q same_numbers (weaker-simulates p q h).copies (λ c. ⊤)
      (all_lift p q same_numbers (λ c. ⊤) (weaker-simulates p q h));
}
