-- The result of the questions for a side is unique.
use Rattle.std.proofs.Common.{◌≡◌, ℕ, ap, sym, ◌∙◌, subst, inl, inr, List, [], ◌∷◌}
use Rattle.std.specs.Prelude.{ℤ}
use Rattle.simplex_core.specs.linear_forms.Forms.{Form, at}
use Rattle.simplex_core.specs.linear_forms.Questions.{listed}
use Rattle.simplex_core.specs.linear_forms.RuleQuestions.{RuleForms}
use Rattle.cert_types.specs.rule_forms.Kinds.{Kind}
use Rattle.simplex_core.proofs.OneWholeAnswer.{causes-same}
use Rattle.rule_questions.proofs.OneEmptyAnswer.{solution-once, dual-once, apart}
use Rattle.local_size.specs.Sides.{SideOutcome, SideBoundFound, NoneFound, LimitPassed, kind_program, solved_side_bound, HasResult}
use Rattle.local_size.specs.Sides.{IsEnd}
use Rattle.local_size.specs.Sides.{SearchHasResult}
use Rattle.local_size.proofs.WholeNumbers.{solved-hits_no_limit, refuted-hits_no_limit}

module _ (r : RuleForms) (w : Form) (pivots : ℕ) where
  -- the question for one kind has only one result
  pub comes-once : (kind : Kind) (x y : SideOutcome) → HasResult r w pivots kind x → HasResult r w pivots kind y → x ≡ y
  comes-once kind (SideBoundFound a) (SideBoundFound b) g h =
      let e = solution-once (kind_program r w kind) pivots g.0 h.0 g.1.0 h.1.0 g.1.1 h.1.1 in
      ap SideBoundFound
      (g.1.2
      ∙ (ap (λ (ns : List ℤ). solved_side_bound r w kind ns g.1.0) e.0
      ∙ (ap (λ (d : ℕ). solved_side_bound r w kind h.0 d) e.1 ∙ sym h.1.2)))
  comes-once kind (SideBoundFound a) (NoneFound ray) g h =
      absurd (apart (kind_program r w kind) pivots g.0 h.0 g.1.0 h.1.0 g.1.1 h.1.1)
  comes-once kind (SideBoundFound a) (LimitPassed c) g h =
      absurd (solved-hits_no_limit (kind_program r w kind) pivots g.0 g.1.0 g.1.1 c h)
  comes-once kind (NoneFound ray) (SideBoundFound b) g h =
      absurd (apart (kind_program r w kind) pivots h.0 g.0 h.1.0 g.1.0 h.1.1 g.1.1)
  comes-once kind (NoneFound ray) (NoneFound other) g h =
      let e = dual-once (kind_program r w kind) pivots g.0 h.0 g.1.0 h.1.0 g.1.1 h.1.1 in
      ap NoneFound (g.1.2 ∙ (ap (λ (ns : List ℤ). listed r.unknowns (at ns)) e.0 ∙ sym h.1.2))
  comes-once kind (NoneFound ray) (LimitPassed c) g h =
      absurd (refuted-hits_no_limit (kind_program r w kind) pivots g.0 g.1.0 g.1.1 c h)
  comes-once kind (LimitPassed c) (SideBoundFound b) g h =
      absurd (solved-hits_no_limit (kind_program r w kind) pivots h.0 h.1.0 h.1.1 c g)
  comes-once kind (LimitPassed c) (NoneFound ray) g h =
      absurd (refuted-hits_no_limit (kind_program r w kind) pivots h.0 h.1.0 h.1.1 c g)
  comes-once kind (LimitPassed c) (LimitPassed d) g h =
      ap LimitPassed (causes-same (kind_program r w kind) pivots c d g h)

  -- if the question for a kind has no form as its result, the search doesn't end there
  goes-on : (kind : Kind) (x : SideOutcome) (ray : List ℤ) → IsEnd x → HasResult r w pivots kind x
      → HasResult r w pivots kind (NoneFound ray) → ⊥
  goes-on kind x ray end g h = subst IsEnd (comes-once kind x (NoneFound ray) g h) end

  -- the search has only one result
  pub search-once : (kinds : List Kind) (x y : SideOutcome) → SearchHasResult r w pivots kinds x
      → SearchHasResult r w pivots kinds y → x ≡ y
  search-once [] x y g h = absurd g
  search-once (kind ∷ []) x y g h = comes-once kind x y g h
  search-once (kind ∷ next ∷ kinds) x y (inl g) (inl h) = comes-once kind x y g.1 h.1
  search-once (kind ∷ next ∷ kinds) x y (inl g) (inr h) = absurd (goes-on kind x h.0.0 g.0 g.1 h.0.1)
  search-once (kind ∷ next ∷ kinds) x y (inr g) (inl h) = absurd (goes-on kind y g.0.0 h.0 h.1 g.0.1)
  search-once (kind ∷ next ∷ kinds) x y (inr g) (inr h) = search-once (next ∷ kinds) x y g.1 h.1
