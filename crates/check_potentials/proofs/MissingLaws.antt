-- The rules of a program that lack a move, from a place on.
use Rattle.std.proofs.Common.{◌≡◌, ℕ, suc, ◌+◌, ◌<◌, ◌≤◌, Bool, true, false, List, ◌∷◌, map, drop, get_or, length}
use Rattle.std.proofs.Common.{Some, None, ap, sym, ◌∙◌, add-one}
use Rattle.std.proofs.lemmas.List.{drop_more, drop_all}
use Rattle.its_model.specs.declared.program.Rule.{Rule}
use Rattle.its_model.specs.Views.{rule_of}
use Rattle.potential_nodes.specs.Checks.{check, MissingTime, first_refused}
use Rattle.potential_nodes.specs.Tables.{PotentialTable, has_move, missing_from}
use Rattle.check_potentials.proofs.RefusalLaws.{passed_one, failed_one}

module _ (tab : PotentialTable) (never : ℕ → Bool) (rules : List Rule) (i : ℕ) where
  -- the check of the rule at a place, and of those after it
  missing-more : (r : Rule) → i < length rules → r ≡ get_or rules i r
      → first_refused (missing_from tab never (i + 1) (map rule_of (drop i rules)))
      ≡ first_refused (check (MissingTime (i + 1)) (has_move tab never (i + 1) (rule_of r))
      ∷ missing_from tab never (i + 1 + 1) (map rule_of (drop (i + 1) rules)))
  missing-more r low e =
      ap (λ (rs : List Rule). first_refused (missing_from tab never (i + 1) (map rule_of rs))) (drop_more rules i r low)
      ∙ ap (λ (q : Rule). first_refused (check (MissingTime (i + 1)) (has_move tab never (i + 1) (rule_of q))
      ∷ missing_from tab never (suc (i + 1)) (map rule_of (drop (i + 1) rules)))) (sym e)
      ∙ ap (λ (t : ℕ). first_refused (check (MissingTime (i + 1)) (has_move tab never (i + 1) (rule_of r))
      ∷ missing_from tab never t (map rule_of (drop (i + 1) rules)))) (sym (add-one (i + 1)))

  -- a rule with a move is passed, one without is found, or there is none
  pub missing-passed : (r : Rule) → i < length rules → r ≡ get_or rules i r → has_move tab never (i + 1) (rule_of r)
      ≡ true
      → first_refused (missing_from tab never (i + 1) (map rule_of (drop i rules)))
      ≡ first_refused (missing_from tab never 1 (map rule_of rules))
      → first_refused (missing_from tab never (i + 1 + 1) (map rule_of (drop (i + 1) rules)))
      ≡ first_refused (missing_from tab never 1 (map rule_of rules))
  missing-passed r low e h kept =
      sym (passed_one (check (MissingTime (i + 1)) (has_move tab never (i + 1) (rule_of r)))
      (missing_from tab never (i + 1 + 1) (map rule_of (drop (i + 1) rules))) h)
      ∙ (sym (missing-more r low e) ∙ kept)

  pub missing-found : (r : Rule) → i < length rules → r ≡ get_or rules i r → has_move tab never (i + 1) (rule_of r)
      ≡ false
      → first_refused (missing_from tab never (i + 1) (map rule_of (drop i rules)))
      ≡ first_refused (missing_from tab never 1 (map rule_of rules))
      → Some (MissingTime (i + 1)) ≡ first_refused (missing_from tab never 1 (map rule_of rules))
  missing-found r low e h kept =
      sym (failed_one (check (MissingTime (i + 1)) (has_move tab never (i + 1) (rule_of r)))
      (missing_from tab never (i + 1 + 1) (map rule_of (drop (i + 1) rules))) h)
      ∙ (sym (missing-more r low e) ∙ kept)

  pub missing-none : length rules ≤ i
      → first_refused (missing_from tab never (i + 1) (map rule_of (drop i rules)))
      ≡ first_refused (missing_from tab never 1 (map rule_of rules))
      → None ≡ first_refused (missing_from tab never 1 (map rule_of rules))
  missing-none low kept =
      sym (ap (λ (rs : List Rule). first_refused (missing_from tab never (i + 1) (map rule_of rs)))
      (drop_all i rules low))
      ∙ kept
