use Rattle.std.proofs.Common.{◌≡◌, ℕ, ◌<◌, Some}
use Rattle.std.specs.Prelude.{slice_get}
use Rattle.lp_builder.specs.declared.description.Goal.{Goal}
use Rattle.sample_questions.proofs.writable.are_parameters.Given as goal

-- the parameters before this position ascend, and are below the next one and the number of parameters
abbrev pub invariant-loop-position : goal.invariant-loop-position
invariant-loop-position l = record {
  below : (k : ℕ) (g : Goal) → k < l.position → slice_get l.goals k ≡ Some g → (g.parameter < l.next) × (g.parameter < l.count);
  ascending : (k m : ℕ) (g h : Goal) → k < m → m < l.position → slice_get l.goals k ≡ Some g → slice_get l.goals m ≡ Some h → g.parameter < h.parameter;
}
