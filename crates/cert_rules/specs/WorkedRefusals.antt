-- Node numbers, and the nodes and gaps at which lemmas and files are refused, worked out by hand.
use Rattle.std.specs.Prelude.{◌≡◌, ℕ, List, [], ◌∷◌, pos, negsuc}
use Rattle.run_counting.specs.model.Bounds.{Constant}
use Rattle.rule_forms.specs.linear_forms.Forms.{Form}
use Rattle.rule_forms.specs.linear_forms.RuleQuestions.{RuleForms}
use Rattle.cert_rules.specs.Nodes.{Proof, Cite, Start, Empty, Unreached, Never, Weaken, CostBound, NeverCost, AndProof}
use Rattle.cert_rules.specs.Numbering.{nodes_of}
use Rattle.cert_rules.specs.Gaps.{Gap, ProofFile}
use Rattle.cert_rules.specs.GapChecks.{GapFault, WrongShape, NotKept, Unbalanced, LosesNothing}
use Rattle.cert_rules.specs.Setting.{Setting}
use Rattle.cert_rules.specs.Reasons.{Reason, Shape, Floor, MissingTime}
use Rattle.cert_rules.specs.Refusals.{IsRefusedAt, AcceptsFile, IsRefusedAtGap}
use Rattle.cert_rules.specs.RefusalLaws.{HasNoRefusal}
use Rattle.cert_rules.specs.WorkedSettings.{form, counting, no_poly, no_rows, no_cost, no_cost_poly, folded}
use Rattle.cert_rules.specs.WorkedSettings.{zero_below}
use Rattle.cert_rules.specs.Worked.{only, once, down, down_alone, entered, looped, four_lemmas}
use Rattle.cert_rules.specs.WorkedGaps.{two_forms, plain_forms, turning, turning_forms, scaled, gap_over}
use Rattle.cert_rules.specs.WorkedGaps.{gap_of_one}

-- a ranking node with two premises, the first of which has a premise
abbrev pub with_two_uses : Proof
with_two_uses = down_alone (AndProof (Never (Cite 1)) (only (Cite 2)))

-- an unreached rule with two premises, the second of which has a premise; and a node on a cost with one
abbrev pub unreached_by_two : Proof
unreached_by_two = Unreached 2 (AndProof (Cite 2) (only (Never (Cite 1))))

abbrev pub charged : Proof
charged = CostBound (record { rule = 1; by = NeverCost }) (only (Cite 1))

-- each node comes after its premises, premises come in order, and cited lemmas and the virtual entry are nodes; so a
-- node isn't numbered before its premise, nor are its premises numbered backwards
pub record NodesAreNumbered : Type 0 where
  pub cited : nodes_of (Cite 3) ≡ Cite 3 ∷ []
  pub never : nodes_of (Never (Cite 1)) ≡ Cite 1 ∷ Never (Cite 1) ∷ []
  pub weaker : nodes_of (Weaken once (Constant 2)) ≡ Start ∷ once ∷ Weaken once (Constant 2) ∷ []
  pub two_uses : nodes_of with_two_uses ≡ Cite 1 ∷ Never (Cite 1) ∷ Cite 2 ∷ with_two_uses ∷ []
  pub start : nodes_of Start ≡ Start ∷ []
  pub empty : nodes_of (Empty 2 []) ≡ Empty 2 [] ∷ []
  pub unreached : nodes_of unreached_by_two ≡ Cite 2 ∷ Cite 1 ∷ Never (Cite 1) ∷ unreached_by_two ∷ []
  pub spread : nodes_of entered ≡ Start ∷ entered ∷ []
  pub cycle : nodes_of looped ≡ Cite 3 ∷ looped ∷ []
  pub charge : nodes_of charged ≡ Cite 1 ∷ charged ∷ []
  pub not_parent_first : ¬ (nodes_of (Never (Cite 1)) ≡ Never (Cite 1) ∷ Cite 1 ∷ [])
  pub not_last_use_first : ¬ (nodes_of with_two_uses ≡ Cite 2 ∷ Cite 1 ∷ Never (Cite 1) ∷ with_two_uses ∷ [])

-- the four lemmas on the program that counts down, without the multiplier that shows the floor
abbrev pub without_floor : List Proof
without_floor = once ∷ down (0 ∷ []) (0 ∷ []) ∷ entered ∷ looped ∷ []

-- the time of a loop with its premises, without the time of the rule that enters it
abbrev pub without_time : Proof
without_time = down_alone (AndProof Start (only (Cite 2)))

-- the four lemmas aren't refused; without the floor's multiplier they are refused at the second node of the second
-- lemma, and nowhere else. A lemma that cites itself is refused at its first node, and so is one that cites a later
-- one or a lemma 0, and a node with a multiplier for no row; a missing time is reported for the node, after its two
-- premises; and no lemma after a refused one is checked
pub record LemmasAreRefused : Type 0 where
  pub four : HasNoRefusal counting four_lemmas
  pub floor : IsRefusedAt counting without_floor 2 2 Floor
  pub floor_alone : (l i : ℕ) (r : Reason) → IsRefusedAt counting without_floor l i r
      → (l ≡ 2) × (i ≡ 2) × (r ≡ Floor)
  pub itself : IsRefusedAt counting (Cite 1 ∷ []) 1 1 Shape
  pub later : IsRefusedAt counting (once ∷ Never (Cite 3) ∷ entered ∷ []) 2 1 Shape
  pub none_cited : IsRefusedAt counting (Cite 0 ∷ []) 1 1 Shape
  pub too_many_multipliers : IsRefusedAt counting (Empty 1 (1 ∷ []) ∷ []) 1 1 Shape
  pub third_node : IsRefusedAt counting (once ∷ entered ∷ without_time ∷ []) 3 3 (MissingTime 1)
  pub first_lemma : IsRefusedAt counting (down (0 ∷ []) (0 ∷ []) ∷ Cite 2 ∷ []) 1 2 Floor
  pub not_second : ¬ (IsRefusedAt counting (down (0 ∷ []) (0 ∷ []) ∷ Cite 2 ∷ []) 2 1 Shape)

-- the forms of the rules of the program that counts down
abbrev pub counting_forms : ℕ → RuleForms
counting_forms =
    two_forms (plain_forms 0 1 1 [] (form (pos 1 ∷ []) (pos 0) ∷ []))
    (plain_forms 1 1 1 (form (pos 1 ∷ []) (negsuc 0) ∷ []) (form (pos 1 ∷ []) (negsuc 0) ∷ []))

-- every new value is the old one
abbrev pub same_new_values : ℕ → List Form
same_new_values t = form (pos 1 ∷ []) (pos 0) ∷ []

-- k(A) -> l(A), and l(A) -> l(A)
abbrev pub turning_round : Setting
turning_round = record {
  program = turning;
  rows = no_rows;
  new_values = same_new_values;
  poly = no_poly;
  cost_rows = no_rows;
  cost_value = no_cost;
  cost_poly = no_cost_poly;
  rewrite = folded;
  below = zero_below;
}

-- a file
abbrev pub file_with : List Proof → List Gap → ProofFile
file_with lemmas gaps = record { lemmas = lemmas; gaps = gaps }

-- the gap of the rule l(A) -> l(A), and others with another floor, move, kept point and set
abbrev pub turning_gap : Gap
turning_gap = gap_of_one [] (pos 1) 1 (pos 0) 0 (pos 1) 1

abbrev pub moved_floor : Gap
moved_floor = gap_of_one [] (pos 1) 1 (pos 1) 0 (pos 1) 1

abbrev pub moved_nowhere : Gap
moved_nowhere = gap_of_one [] (pos 0) 0 (pos 0) 0 (pos 1) 1

abbrev pub kept_ray : Gap
kept_ray = gap_of_one [] (pos 1) 1 (pos 0) 0 (pos 1) 0

abbrev pub other_set : Gap
other_set = gap_over 1 [] (scaled (pos 1 ∷ []) 1) (scaled (pos 0 ∷ []) 0) (scaled (pos 1 ∷ []) 1)

-- the file of these gaps, after the lemma that states the facts of the virtual entry
abbrev pub turning_file : List Gap → ProofFile
turning_file gaps = file_with (Start ∷ []) gaps

-- an empty file is accepted. A file of accepted lemmas is accepted without a gap, and with a gap that holds; a file
-- with one of the other gaps is refused at it and not accepted; of two such gaps the first is reported; and if a lemma
-- is refused, no gap is
pub record FilesAreJudged : Type 0 where
  pub nothing : AcceptsFile turning_round turning_forms (file_with [] [])
  pub four : AcceptsFile counting counting_forms (file_with four_lemmas [])
  pub gap : AcceptsFile turning_round turning_forms (turning_file (turning_gap ∷ []))
  pub floor : IsRefusedAtGap turning_round turning_forms (turning_file (moved_floor ∷ [])) 1 (Unbalanced 1 1)
  pub move : IsRefusedAtGap turning_round turning_forms (turning_file (moved_nowhere ∷ [])) 1 LosesNothing
  pub kept : IsRefusedAtGap turning_round turning_forms (turning_file (kept_ray ∷ [])) 1 (NotKept 2)
  pub set : IsRefusedAtGap turning_round turning_forms (turning_file (other_set ∷ [])) 1 WrongShape
  pub not_accepted : ¬ (AcceptsFile turning_round turning_forms (turning_file (moved_floor ∷ [])))
  pub second : IsRefusedAtGap turning_round turning_forms
      (turning_file (turning_gap ∷ kept_ray ∷ moved_floor ∷ [])) 2 (NotKept 2)
  pub lemma_first : (g : ℕ) (x : GapFault)
      → ¬ (IsRefusedAtGap turning_round turning_forms (file_with (Cite 1 ∷ []) (moved_floor ∷ [])) g x)
