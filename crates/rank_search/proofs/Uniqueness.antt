-- A question has one answer.
use Rattle.std.proofs.Common.{◌≡◌, ℕ, ap, refl, sym, ◌∙◌, inl, inr, List, [], ◌∷◌, ◌++◌}
use Rattle.std.proofs.Common.{map, Some}
use Rattle.std.specs.Prelude.{ℤ, pos}
use Rattle.simplex_core.specs.linear_forms.Causes.{cause_of}
use Rattle.simplex_core.specs.linear_forms.Forms.{at}
use Rattle.simplex_core.specs.linear_forms.QuestionLaws.{parameters_of}
use Rattle.simplex_core.specs.linear_forms.RuleQuestions.{RankedSet, symbols_of_set, rank_question}
use Rattle.cert_types.specs.rule_forms.RankLaws.{function_of, rank_multipliers}
use Rattle.simplex_core.proofs.OneWholeAnswer.{causes-same}
use Rattle.cert_types.specs.cert_rules.Gaps.{SymbolPlace, ScaledPoint, Gap}
use Rattle.cert_types.specs.cert_rules.Nodes.{SymbolForm, RankNode}
use Rattle.cert_types.specs.declared.answer.GuardFeasibility.{GuardFeasibility}
use Rattle.cert_types.specs.declared.answer.LimitHit.{LimitHit}
use Rattle.cert_types.specs.AnswerViews.{gap_of}
use Rattle.cert_types.specs.Views.{rank_of}
use Rattle.rule_questions.proofs.OneEmptyAnswer.{solution-once, dual-once, apart}
use Rattle.rank_search.specs.declared.answer.RankAnswer.{RankAnswer}
use Rattle.rank_search.specs.declared.answer.RankAnswer.TheVariants as ranked
use Rattle.rank_search.specs.OneAnswer.{SeeTheSame, IsSameRankAnswer}
use Rattle.rank_search.specs.OneAnswer.{RankAnswersAreOne}
use Rattle.rank_search.specs.RankAnswers.{rank_program, part_at, points_of, IsRankAnswer}
use Rattle.poly_terms.proofs.model.Cases.{some_same as some-limit_hit, none_some as no-limit_hit}

-- a list with one more element at its end isn't empty
never : {A : Type 0} (ys : List A) (y : A) → [] ≡ ys ++ y ∷ [] → ⊥
never [] y e = cc
never (z ∷ ys) y e = cc

last-same : {A : Type 0} (xs ys : List A) (x y : A) → xs ++ x ∷ [] ≡ ys ++ y ∷ [] → (xs ≡ ys) × (x ≡ y)
last-same [] [] x y e = (refl, cc)
last-same [] (z ∷ ys) x y e = let t : [] ≡ ys ++ y ∷ [] = cc in absurd (never ys y t)
last-same (w ∷ xs) [] x y e = let t : xs ++ x ∷ [] ≡ [] = cc in absurd (never xs x (sym t))
last-same {A} (w ∷ xs) (z ∷ ys) x y e =
    let h : w ≡ z = cc in
    let t : xs ++ x ∷ [] ≡ ys ++ y ∷ [] = cc in
    let r = last-same xs ys x y t in
    (ap (λ (v : A). v ∷ xs) h ∙ ap (λ (vs : List A). z ∷ vs) r.0, r.1)

-- nodes with equal parts are equal
node_with : ℕ → List ℕ → ℕ → List SymbolForm → List (List ℕ) → List ℕ → RankNode
node_with rule set den forms moves floor = record {
  rule = rule;
  set = set;
  den = den;
  forms = forms;
  moves = moves;
  floor = floor;
}

node-same : (a c : RankNode) → a.rule ≡ c.rule → a.set ≡ c.set → a.den ≡ c.den → a.forms ≡ c.forms
    → a.moves ++ a.floor ∷ [] ≡ c.moves ++ c.floor ∷ [] → a ≡ c
unfolding node_with
node-same a c e f g h i =
    let r = last-same a.moves c.moves a.floor c.floor i in
    ap (λ (x : ℕ). node_with x a.set a.den a.forms a.moves a.floor) e
    ∙ (ap (λ (x : List ℕ). node_with c.rule x a.den a.forms a.moves a.floor) f
    ∙ (ap (λ (x : ℕ). node_with c.rule c.set x a.forms a.moves a.floor) g
    ∙ (ap (λ (x : List SymbolForm). node_with c.rule c.set c.den x a.moves a.floor) h
    ∙ (ap (λ (x : List (List ℕ)). node_with c.rule c.set c.den c.forms x a.floor) r.0
    ∙ ap (λ (x : List ℕ). node_with c.rule c.set c.den c.forms c.moves x) r.1))))

-- a gap by its parts
gap_with : ℕ → List ℕ → List SymbolPlace → List ScaledPoint → ScaledPoint → List ScaledPoint → Gap
gap_with rule set shut moves floor kept = record {
  rule = rule;
  set = set;
  shut = shut;
  moves = moves;
  floor = floor;
  kept = kept;
}

some-same : (xs ys : List ScaledPoint) → map (λ z. Some z) xs ≡ map (λ z. Some z) ys → xs ≡ ys
some-same [] [] e = refl
some-same [] (y ∷ ys) e = cc
some-same (x ∷ xs) [] e = cc
some-same (x ∷ xs) (y ∷ ys) e =
    let h : x ≡ y = cc in
    let t : map (λ z. Some z) xs ≡ map (λ z. Some z) ys = cc in
    ap (λ (v : ScaledPoint). v ∷ xs) h ∙ ap (λ (vs : List ScaledPoint). y ∷ vs) (some-same xs ys t)

gap-same : (a c : Gap) → a.rule ≡ c.rule → a.set ≡ c.set → a.shut ≡ c.shut → a.moves ++ a.floor ∷ [] ≡ c.moves
    ++ c.floor ∷ []
    → map (λ z. Some z) a.kept ≡ map (λ z. Some z) c.kept → a ≡ c
unfolding gap_with
gap-same a c e f g h i =
    let r = last-same a.moves c.moves a.floor c.floor h in
    ap (λ (x : ℕ). gap_with x a.set a.shut a.moves a.floor a.kept) e
    ∙ (ap (λ (x : List ℕ). gap_with c.rule x a.shut a.moves a.floor a.kept) f
    ∙ (ap (λ (x : List SymbolPlace). gap_with c.rule c.set x a.moves a.floor a.kept) g
    ∙ (ap (λ (x : List ScaledPoint). gap_with c.rule c.set c.shut x a.floor a.kept) r.0
    ∙ (ap (λ (x : ScaledPoint). gap_with c.rule c.set c.shut c.moves x a.kept) r.1
    ∙ ap (λ (x : List ScaledPoint). gap_with c.rule c.set c.shut c.moves c.floor x) (some-same a.kept c.kept i)))))

-- the ranking function is unique
module _ (b : RankedSet) (shut : List SymbolPlace) (pivots : ℕ) (xs ys : List GuardFeasibility)
    (same : SeeTheSame xs ys b.set) where
  ranks-once : (a c : RankAnswer) → IsRankAnswer b shut pivots xs a → IsRankAnswer b shut pivots ys c
      → IsSameRankAnswer a c
  ranks-once (ranked.Ranked n) (ranked.Ranked k) g h =
      let r = solution-once (rank_program b) pivots g.0.numbers h.0.numbers (rank_of n).den
      (rank_of k).den g.0.solution h.0.solution in (
        node-same (rank_of n) (rank_of k) (g.0.numbered ∙ sym h.0.numbered) (g.0.same_set ∙ sym h.0.same_set) r.1
            (g.0.forms ∙ (ap (λ (ns : List ℤ). map (part_at (function_of b (parameters_of (at ns))))
            (symbols_of_set b)) r.0 ∙ sym h.0.forms))
            (g.0.multipliers ∙ (ap (λ (ns : List ℤ). rank_multipliers b (at ns)) r.0 ∙ sym h.0.multipliers)),
        g.1 ∙ sym h.1,
      )
  ranks-once (ranked.Ranked n) (ranked.NoRank k) g h =
      apart (rank_program b) pivots g.0.numbers h.0.numbers (rank_of n).den h.0.den g.0.solution h.0.dual
  ranks-once (ranked.Ranked n) (ranked.OutOfLimits t) g (inl own) =
      g.0.hits_no_limit.each (cause_of t.cause) own.hits_limit
  ranks-once (ranked.Ranked n) (ranked.OutOfLimits t) g (inr other) =
      other.unsolved (record { x = at g.0.numbers; d = pos (rank_of n).den; solution = g.0.solution.solution })
  ranks-once (ranked.NoRank n) (ranked.Ranked k) g h =
      apart (rank_program b) pivots h.0.numbers g.0.numbers (rank_of k).den g.0.den h.0.solution g.0.dual
  ranks-once (ranked.NoRank n) (ranked.NoRank k) g h =
      let r = dual-once (rank_program b) pivots g.0.numbers h.0.numbers g.0.den h.0.den g.0.dual h.0.dual in
      gap-same (gap_of n) (gap_of k) (g.0.numbered ∙ sym h.0.numbered) (g.0.same_set ∙ sym h.0.same_set)
      (g.0.same_shut ∙ sym h.0.same_shut)
      (g.0.points ∙ (ap (λ (ns : List ℤ). points_of (at ns) (rank_question b).groups) r.0 ∙ sym h.0.points))
      (g.0.kept ∙ (same.points ∙ sym h.0.kept))
  ranks-once (ranked.NoRank n) (ranked.OutOfLimits t) g (inl own) =
      g.0.hits_no_limit.each (cause_of t.cause) own.hits_limit
  ranks-once (ranked.NoRank n) (ranked.OutOfLimits t) g (inr other) =
      no-limit_hit t (sym g.1 ∙ (same.hits_limit ∙ other.first))
  ranks-once (ranked.OutOfLimits t) (ranked.Ranked k) (inl own) h =
      h.0.hits_no_limit.each (cause_of t.cause) own.hits_limit
  ranks-once (ranked.OutOfLimits t) (ranked.Ranked k) (inr other) h =
      other.unsolved (record { x = at h.0.numbers; d = pos (rank_of k).den; solution = h.0.solution.solution })
  ranks-once (ranked.OutOfLimits t) (ranked.NoRank k) (inl own) h =
      h.0.hits_no_limit.each (cause_of t.cause) own.hits_limit
  ranks-once (ranked.OutOfLimits t) (ranked.NoRank k) (inr other) h =
      no-limit_hit t (sym h.1 ∙ (sym same.hits_limit ∙ other.first))
  ranks-once (ranked.OutOfLimits t) (ranked.OutOfLimits u) (inl own) (inl other) = (
    own.question ∙ sym other.question,
    causes-same (rank_program b) pivots (cause_of t.cause)
        (cause_of u.cause) own.hits_limit other.hits_limit,
  )
  ranks-once (ranked.OutOfLimits t) (ranked.OutOfLimits u) (inl own) (inr other) = absurd
      (other.hits_no_limit.each (cause_of t.cause) own.hits_limit)
  ranks-once (ranked.OutOfLimits t) (ranked.OutOfLimits u) (inr own) (inl other) = absurd
      (own.hits_no_limit.each (cause_of u.cause) other.hits_limit)
  ranks-once (ranked.OutOfLimits t) (ranked.OutOfLimits u) (inr own) (inr other) =
      let e = some-limit_hit t u (sym own.first ∙ (same.hits_limit ∙ other.first)) in
      (ap (λ (v : LimitHit). v.question) e, ap (λ (v : LimitHit). cause_of v.cause) e)

-- for a set, its shut places and a number of pivots there is one answer on ranking functions
pub ranks-one : RankAnswersAreOne
ranks-one = record { each = ranks-once }
