-- The worked node numbers and refusals on small programs, computed.
use Rattle.std.proofs.Common.{◌≡◌, ℕ, List, [], ◌∷◌, refl, arith}
use Rattle.cert_rules.specs.Nodes.{Proof, Cite, Empty, Never}
use Rattle.cert_rules.specs.Reasons.{Floor}
use Rattle.cert_rules.specs.Refusals.{IsRefusedAt}
use Rattle.cert_rules.specs.WorkedSettings.{counting}
use Rattle.cert_rules.specs.Worked.{once, down, entered, four_lemmas}
use Rattle.cert_rules.specs.WorkedGaps.{turning_forms}
use Rattle.cert_rules.specs.WorkedRefusals.{NodesAreNumbered, without_floor, without_time, counting_forms}
use Rattle.cert_rules.specs.WorkedRefusals.{LemmasAreRefused, turning_round, turning_gap, moved_floor, moved_nowhere}
use Rattle.cert_rules.specs.WorkedRefusals.{kept_ray, other_set, file_with, turning_file, FilesAreJudged}
use Rattle.cert_rules.proofs.FirstFailures.{one-computed, none-computed}
use Rattle.cert_rules.proofs.Refusals.{refusals-in-line, computed-refused, refused-computed, accepted-computed}
use Rattle.cert_rules.proofs.FilesInLine.{file-refusals-in-line, computed-file, computed-gap}
use Rattle.cert_rules.proofs.WorkedAccepted.{four_accepted}

-- a node isn't its premise, and one premise isn't the other
other_node : (xs ys : List Proof) → ¬ (Cite 1 ∷ xs ≡ Never (Cite 1) ∷ ys)
other_node xs ys e = cc

other_number : (xs ys : List Proof) → ¬ (Cite 1 ∷ xs ≡ Cite 2 ∷ ys)
other_number xs ys e = omega (arith, same e)
  where
    same : Cite 1 ∷ xs ≡ Cite 2 ∷ ys → ◌≡◌ {A = ℕ} 1 2
    same k = cc

-- the worked nodes are numbered as stated
pub nodes_numbered : NodesAreNumbered
nodes_numbered = record {
  cited = refl;
  never = refl;
  weaker = refl;
  two_uses = refl;
  start = refl;
  empty = refl;
  unreached = refl;
  spread = refl;
  cycle = refl;
  charge = refl;
  not_parent_first = λ e. other_node _ _ e;
  not_last_use_first = λ e. other_number _ _ e;
}

-- without the floor's multiplier the lemmas are refused at the second node of the second one
floor_refused : IsRefusedAt counting without_floor 2 2 Floor
floor_refused = computed-refused counting without_floor 2 2 Floor refl

-- the worked lemmas are refused as stated
pub lemmas_refused : LemmasAreRefused
lemmas_refused = record {
  four = (refusals-in-line.none counting four_lemmas).0 four_accepted;
  floor = floor_refused;
  floor_alone = λ l i r h. refusals-in-line.one counting without_floor l 2 i 2 r Floor h floor_refused;
  itself = computed-refused counting (Cite 1 ∷ []) 1 1 _ refl;
  later = computed-refused counting (once ∷ Never (Cite 3) ∷ entered ∷ []) 2 1 _ refl;
  none_cited = computed-refused counting (Cite 0 ∷ []) 1 1 _ refl;
  too_many_multipliers = computed-refused counting (Empty 1 (1 ∷ []) ∷ []) 1 1 _ refl;
  third_node = computed-refused counting (once ∷ entered ∷ without_time ∷ []) 3 3 _ refl;
  first_lemma = computed-refused counting (down (0 ∷ []) (0 ∷ []) ∷ Cite 2 ∷ []) 1 2 _ refl;
  not_second = λ h.
      let same = one-computed _ 2 1 _ _ (refused-computed counting (down (0 ∷ []) (0 ∷ []) ∷ Cite 2 ∷ []) 2 1 _ h) refl in
      omega (arith, same.0);
}

-- the worked files are accepted and refused as stated
pub files_judged : FilesAreJudged
files_judged = record {
  nothing = computed-file turning_round turning_forms (file_with [] []) refl refl;
  four = computed-file counting counting_forms (file_with four_lemmas []) refl refl;
  gap = computed-file turning_round turning_forms (turning_file (turning_gap ∷ [])) refl refl;
  floor = computed-gap turning_round turning_forms (turning_file (moved_floor ∷ [])) 1 _ refl refl;
  move = computed-gap turning_round turning_forms (turning_file (moved_nowhere ∷ [])) 1 _ refl refl;
  kept = computed-gap turning_round turning_forms (turning_file (kept_ray ∷ [])) 1 _ refl refl;
  set = computed-gap turning_round turning_forms (turning_file (other_set ∷ [])) 1 _ refl refl;
  not_accepted = λ h.
      ((file-refusals-in-line.none turning_round turning_forms (turning_file (moved_floor ∷ []))).0 h).1.none 1 _
      (computed-gap turning_round turning_forms (turning_file (moved_floor ∷ [])) 1 _ refl refl);
  second = computed-gap turning_round turning_forms (turning_file (turning_gap ∷ kept_ray ∷ moved_floor ∷ [])) 2 _ refl refl;
  lemma_first = λ g x h. none-computed _ _ (accepted-computed turning_round (Cite 1 ∷ []) h.lemmas) refl;
}
