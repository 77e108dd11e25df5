-- The goals of a rule whose coefficients are in two blocks of positions; those of other coefficients are 0.
use Rattle.std.proofs.Common.{◌≡◌, ◌≢◌, ◌⊎◌, inl, inr, ℕ, zero, suc, ◌+◌, ◌-◌, ◌<◌, ◌≤◌, ◌||◌, max, nat_eq, arith, refl}
use Rattle.std.proofs.Common.{sym, ap, subst, ◌∙◌, Bool, true, false, List, [], length, map, get_or}
use Rattle.std.proofs.lemmas.Bool.{true≢false, eqb-true}
use Rattle.std.proofs.lemmas.List.{take_all}
use Rattle.std.proofs.lemmas.List.Elements.{All-nil}
use Rattle.simplex_core.specs.linear_forms.RuleQuestions.{RuleForms}
use Rattle.lp_builder.specs.declared.description.Goal.{Goal}
use Rattle.lp_builder.specs.Descriptions.{goal_forms, IsWritable}
use Rattle.poly_terms.specs.Views.{form_of}
use Rattle.rank_search.specs.declared.blocks.Block.{Block}
use Rattle.rank_search.specs.declared.coefficients.Coefficient.{Coefficient}
use Rattle.rank_search.specs.declared.goals.Part.{Part}
use Rattle.rank_search.specs.Blocks.{block_at, AreBlocks, HoldGoals, IsInside}
use Rattle.rank_search.specs.Coefficients.{coefficient_of}
use Rattle.rank_search.specs.Goals.{goal_form, AreGoalsUpTo}
use Rattle.rule_questions.proofs.GoalForms.{ascend-wider, goal-passed}
use Rattle.rank_search.proofs.Unconcerned.{unconcerned}

-- the coefficient belongs to one of the two symbols
abbrev pub concerned : ℕ → ℕ → Coefficient → Bool
concerned source target c = nat_eq c.symbol source || nat_eq c.symbol target

-- the goals of a rule for the coefficients so far
module _ (part : Part) (r : RuleForms) (cs : List Coefficient) where
  -- the goals for no coefficients
  pub goals-begun : AreGoalsUpTo part r cs 0 []
  goals-begun = record {
    forms = refl;
    listed = omega arith;
    writable = All-nil (λ g. IsWritable r.unknowns (form_of g.form));
  }

  -- a coefficient that belongs to neither symbol needs no goal
  goal-skipped : (i : ℕ) (gs : List Goal) → i < length cs
      → ((d : Coefficient) → concerned r.source r.target (get_or cs i d) ≡ false)
      → AreGoalsUpTo part r cs i gs → AreGoalsUpTo part r cs (i + 1) gs
  goal-skipped i gs l none h =
      let d : Coefficient = record { symbol = 0; place = 0 } in
      record {
        forms = goal-passed (λ c. goal_form part r (coefficient_of c)) cs i d l gs h.forms h.listed
            (unconcerned part r (coefficient_of (get_or cs i d)) (none d));
        listed = ascend-wider 0 i gs h.listed;
        writable = h.writable;
      }

  -- several coefficients without goals are skipped
  several-skipped : (n i : ℕ) (gs : List Goal) → i + n ≤ length cs
      → ((k : ℕ) (d : Coefficient) → i ≤ k → k < i + n → concerned r.source r.target (get_or cs k d) ≡ false)
      → AreGoalsUpTo part r cs i gs → AreGoalsUpTo part r cs (i + n) gs
  several-skipped zero i gs l none h =
      subst (λ (m : ℕ). AreGoalsUpTo part r cs m gs) (let e : i ≡ i + 0 = omega arith in e) h
  several-skipped (suc n) i gs l none h =
      subst (λ (m : ℕ). AreGoalsUpTo part r cs m gs) (let e : i + 1 + n ≡ i + suc n = omega arith in e)
      (several-skipped n (i + 1) gs (omega (arith, l)) (λ k d a b. none k d (omega (arith, a)) (omega (arith, b)))
      (goal-skipped i gs (omega (arith, l)) (λ d. none i d (omega arith) (omega arith)) h))

  -- up to a position, coefficients without goals are skipped
  pub goals-skipped : (i j : ℕ) (gs : List Goal) → i ≤ j → j ≤ length cs
      → ((k : ℕ) (d : Coefficient) → i ≤ k → k < j → concerned r.source r.target (get_or cs k d) ≡ false)
      → AreGoalsUpTo part r cs i gs → AreGoalsUpTo part r cs j gs
  goals-skipped i j gs l m none h =
      let e : i + (j - i) ≡ j = omega (arith, l) in
      subst (λ (n : ℕ). AreGoalsUpTo part r cs n gs) e
      (several-skipped (j - i) i gs (omega (arith, e, m)) (λ k d a b. none k d a (omega (arith, b, e))) h)

  -- all coefficients that have goals are in two blocks
  module _ (b c : Block) (h : HoldGoals r.source r.target cs b c) where
    -- a coefficient outside both blocks has no goal
    outside : (k : ℕ) (d : Coefficient) → k < length cs → ¬ IsInside b k → ¬ IsInside c k
        → concerned r.source r.target (get_or cs k d) ≡ false
    outside k d l f g = go (concerned r.source r.target (get_or cs k d)) (λ e. h.each k d l e)
      where
        go : (v : Bool) → (v ≡ true → IsInside b k ⊎ IsInside c k) → v ≡ false
        go false e = refl
        go true e = absurd (none (e refl))
          where
            none : IsInside b k ⊎ IsInside c k → ⊥
            none (inl x) = f x
            none (inr x) = g x

    -- before the first block there are no goals
    pub first-begun : AreGoalsUpTo part r cs b.first []
    first-begun =
        let l = h.first_ordered in
        let m = h.first_below in
        let o = h.order in
        goals-skipped 0 b.first [] (omega arith) (omega (arith, l, m))
        (λ k d a n. outside k d (omega (arith, n, l, m)) (λ x. let y = x.0 in omega (arith, n, y))
        (λ x. let y = x.0 in omega (arith, n, o, y))) goals-begun

    -- between the blocks there are no goals
    pub second-begun : (n : ℕ) (gs : List Goal) → n ≡ max b.end c.first → AreGoalsUpTo part r cs b.end gs
        → AreGoalsUpTo part r cs n gs
    second-begun n gs is done =
        let l = h.second_ordered in
        let m = h.second_below in
        let o = h.first_below in
        goals-skipped b.end n gs (omega (arith, is)) (omega (arith, is, l, m, o))
        (λ k d a e. outside k d (omega (arith, e, is, l, m, o)) (λ x. let y = x.1 in omega (arith, a, y))
        (λ x. let y = x.0 in omega (arith, a, e, is, y))) done

    -- after the blocks there are no goals
    pub second-ended : (n k : ℕ) (gs : List Goal) → n ≡ max b.end c.first → k ≡ max c.end n
        → AreGoalsUpTo part r cs k gs → AreGoalsUpTo part r cs (length cs) gs
    second-ended n k gs is ends done =
        let l = h.second_ordered in
        let m = h.second_below in
        let o = h.first_below in
        goals-skipped k (length cs) gs (omega (arith, is, ends, l, m, o)) (omega arith)
        (λ i d a e. outside i d e (λ x. let y = x.1 in omega (arith, a, is, ends, y))
        (λ x. let y = x.1 in omega (arith, a, is, ends, y))) done

  -- after the second block, the goals are those of all coefficients
  pub forms-whole : (gs : List Goal) → AreGoalsUpTo part r cs (length cs) gs
      → goal_forms 0 (length cs) gs ≡ map (λ c. goal_form part r (coefficient_of c)) cs
  forms-whole gs h =
      h.forms ∙ ap (map (λ c. goal_form part r (coefficient_of c))) (take_all (length cs) cs (omega arith))

-- the blocks of the source and of the target
module _ (blocks : List Block) (cs : List Coefficient) (h : AreBlocks (length cs) blocks cs) (source target : ℕ) where
  -- a coefficient at the source or the target is in one of the blocks
  either : (i : ℕ) (d : Coefficient) → i < length cs → concerned source target (get_or cs i d) ≡ true
      → IsInside (block_at blocks source) i ⊎ IsInside (block_at blocks target) i
  either i d l e = go (nat_eq (get_or cs i d).symbol source) refl (nat_eq (get_or cs i d).symbol target) refl
    where
      inside : IsInside (block_at blocks (get_or cs i d).symbol) i
      inside = h.each i d l l

      here : (s : ℕ) → nat_eq (get_or cs i d).symbol s ≡ true → IsInside (block_at blocks s) i
      here s f = subst (λ (t : ℕ). IsInside (block_at blocks t) i) (eqb-true (get_or cs i d).symbol s f) inside

      go : (v : Bool) → nat_eq (get_or cs i d).symbol source ≡ v → (w : Bool)
          → nat_eq (get_or cs i d).symbol target ≡ w
          → IsInside (block_at blocks source) i ⊎ IsInside (block_at blocks target) i
      go true f w g = inl (here source f)
      go false f true g = inr (here target g)
      go false f false g =
          absurd (true≢false (sym e ∙ (ap (λ (v : Bool). v || nat_eq (get_or cs i d).symbol target) f ∙ g)))

  -- if the source's block begins first, the two blocks contain all coefficients with goals
  pub source-first : (b c : Block) → b ≡ block_at blocks source → c ≡ block_at blocks target → b.first ≤ c.first
      → HoldGoals source target cs b c
  source-first b c e f l = record {
    order = l;
    first_ordered = subst (λ (x : Block). x.first ≤ x.end) (sym e) (h.ordered source);
    second_ordered = subst (λ (x : Block). x.first ≤ x.end) (sym f) (h.ordered target);
    first_below = subst (λ (x : Block). x.end ≤ length cs) (sym e) (h.below source);
    second_below = subst (λ (x : Block). x.end ≤ length cs) (sym f) (h.below target);
    each = λ i d m n. subst (λ (x : Block). IsInside x i ⊎ IsInside c i) (sym e)
        (subst (λ (x : Block). IsInside (block_at blocks source) i ⊎ IsInside x i) (sym f) (either i d m n));
  }

  -- if the target's block begins first, the two blocks contain all coefficients with goals
  pub target-first : (b c : Block) → b ≡ block_at blocks target → c ≡ block_at blocks source → b.first ≤ c.first
      → HoldGoals source target cs b c
  target-first b c e f l = record {
    order = l;
    first_ordered = subst (λ (x : Block). x.first ≤ x.end) (sym e) (h.ordered target);
    second_ordered = subst (λ (x : Block). x.first ≤ x.end) (sym f) (h.ordered source);
    first_below = subst (λ (x : Block). x.end ≤ length cs) (sym e) (h.below target);
    second_below = subst (λ (x : Block). x.end ≤ length cs) (sym f) (h.below source);
    each = λ i d m n. subst (λ (x : Block). IsInside x i ⊎ IsInside c i) (sym e)
        (subst (λ (x : Block). IsInside (block_at blocks target) i ⊎ IsInside x i) (sym f)
        (turned (either i d m n)));
  }
    where
      turned : {A B : Type 0} → A ⊎ B → B ⊎ A
      turned (inl x) = inr x
      turned (inr x) = inl x
