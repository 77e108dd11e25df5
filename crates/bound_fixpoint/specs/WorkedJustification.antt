-- Worked values of when derivations are justified, for the program that counts down: k(A) -> l(A), and l(A) -> l(A -
-- 1) where A >= 1.
use Rattle.std.specs.Prelude.{List, [], ◌∷◌}
use Rattle.rule_questions.specs.model.Bounds.{Bound, Constant}
use Rattle.rule_questions.specs.cert_rules.Nodes.{ResultVariable, RankNode}
use Rattle.rule_questions.specs.cert_rules.WorkedSettings.{counting, apart}
use Rattle.rule_questions.specs.cert_rules.Worked.{once_node, once_time, alone_node}
use Rattle.bound_fixpoint.specs.Keys.{key, time_key}
use Rattle.bound_fixpoint.specs.Derivations.{RankBy, Derivation}
use Rattle.bound_fixpoint.specs.Justification.{AreJustified}
use Rattle.bound_fixpoint.specs.Beginning.{unreached_derivation, never_derivation}
use Rattle.bound_fixpoint.specs.WorkedDerivations.{once_derivation, entered_derivation, looped_derivation, alone_derivation, alone_time}

-- a derivation by a ranking function, with these keys, premises and bound
abbrev pub ranked_derivation : List ResultVariable → RankNode → List ResultVariable → Bound → Derivation
ranked_derivation keys node premises bound = record { keys = keys; node = RankBy node; premises = premises; bound = bound }

-- the premises of each of the four derivations are among those before it. A derivation isn't justified before its
-- premises, nor twice, nor with another bound than the composed one, with its premises in another order, with one of
-- them twice, without one, or for another key. In the program with an unreached rule, its time is justified, and then
-- the size after it, which isn't without the time; and if the time of another rule, which isn't 0, is among its
-- premises, the rule isn't unreached
pub record JustificationIsWorkedOut : Type 0 where
  pub none : AreJustified counting []
  pub four : AreJustified counting (once_derivation ∷ entered_derivation ∷ alone_derivation ∷ looped_derivation ∷ [])
  pub not_before : ¬ (AreJustified counting (once_derivation ∷ alone_derivation ∷ entered_derivation ∷ []))
  pub not_loop_before : ¬ (AreJustified counting (looped_derivation ∷ entered_derivation ∷ []))
  pub not_twice : ¬ (AreJustified counting (once_derivation ∷ once_derivation ∷ []))
  pub not_bound : ¬ (AreJustified counting (ranked_derivation (time_key 1 ∷ []) once_node (time_key 0 ∷ []) (Constant 1) ∷ []))
  pub not_turned : ¬ (AreJustified counting (once_derivation ∷ entered_derivation
      ∷ ranked_derivation (time_key 2 ∷ []) alone_node (key 1 1 ∷ time_key 1 ∷ []) alone_time ∷ []))
  pub not_needed_twice : ¬ (AreJustified counting (ranked_derivation (time_key 1 ∷ []) once_node
      (time_key 0 ∷ time_key 0 ∷ []) once_time ∷ []))
  pub not_without_need : ¬ (AreJustified counting (ranked_derivation (time_key 1 ∷ []) once_node [] once_time ∷ []))
  pub not_other_key : ¬ (AreJustified counting (ranked_derivation (time_key 2 ∷ []) once_node (time_key 0 ∷ []) once_time ∷ []))
  pub unreached : AreJustified apart (unreached_derivation [] 2 ∷ never_derivation apart.program 2 ∷ [])
  pub not_without_time : ¬ (AreJustified apart (never_derivation apart.program 2 ∷ []))
  pub not_resting_on_others : ¬ (AreJustified apart (unreached_derivation (time_key 1 ∷ []) 2 ∷ []))
