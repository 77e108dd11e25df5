-- If answers are unique, so is the list of derivations of a round.
use Rattle.std.proofs.Common.{◌≡◌, ℕ, true, List, [], ◌∷◌, ◌++◌, map, sym, ◌∙◌, ap, subst}
use Rattle.rule_questions.specs.model.Bounds.{Bound}
use Rattle.rule_questions.specs.cert_rules.Nodes.{ResultVariable}
use Rattle.rule_questions.specs.cert_rules.Gaps.{SymbolPlace}
use Rattle.rule_questions.specs.cert_rules.Setting.{Setting}
use Rattle.rule_questions.specs.cert_rules.AcceptsRank.{rank_time}
use Rattle.bound_fixpoint.specs.Keys.{Bounds, over, rule_numbers}
use Rattle.bound_fixpoint.specs.Derivations.{Node, RankBy, Derivation, bounds_of}
use Rattle.bound_fixpoint.specs.Sets.{AreShutOf}
use Rattle.bound_fixpoint.specs.Searches.{Searches, Ranking, Ranked, Unranked, RankHitLimit, SizeOutcome, SizedBy, Unsized}
use Rattle.bound_fixpoint.specs.Searches.{NoBound}
use Rattle.bound_fixpoint.specs.Answers.{Target, TimeOf, SizesOf, is_open, Answer, Found, Lacks, derivations_by, Composes}
use Rattle.bound_fixpoint.specs.Answers.{AnswersRanking, AnswersSizing, AnswersTime, AnswersSize, AnswersTarget}
use Rattle.bound_fixpoint.specs.Rounds.{Tries, Manner, Together, InTurn, known_next, TriesAll, IsRound}
use Rattle.bound_fixpoint.specs.Right.{AreOne}
use Rattle.bound_fixpoint.proofs.Cases.{by_cases}
use Rattle.bound_fixpoint.proofs.OneOrder.{sets_one, shut_one}

-- a composed bound gives one result
composes_one : (s : Setting) (bs : Bounds) (node : Node) (whole : Bound) (x y : Answer) → Composes s bs node whole x
    → Composes s bs node whole y → x ≡ y
composes_one s bs node whole (Found n premises b) (Found m more c) h k =
    ap (λ (a : Node). Found a premises b) (h.1 ∙ sym k.1)
    ∙ (ap (λ (a : List ResultVariable). Found m a b) (h.2 ∙ sym k.2) ∙ ap (λ (a : Bound). Found m more a) (h.3 ∙ sym k.3))
composes_one s bs node whole (Found n premises b) (Lacks w) h k = absurd (k.0 h.0)
composes_one s bs node whole (Lacks v) (Found m more c) h k = absurd (h.0 k.0)
composes_one s bs node whole (Lacks v) (Lacks w) h k = ap (λ (a : NoBound). Lacks a) (h.1 ∙ sym k.1)

-- an answer to a rank question gives one result
ranking_one : (s : Setting) (bs : Bounds) (answer : Ranking) (x y : Answer) → AnswersRanking s bs answer x
    → AnswersRanking s bs answer y → x ≡ y
ranking_one s bs (Ranked node) x y h k = composes_one s bs (RankBy node) (rank_time s node (over bs)) x y h k
ranking_one s bs (Unranked g) x y h k = h ∙ sym k
ranking_one s bs (RankHitLimit t) x y h k = h ∙ sym k

-- the answer to an outcome for a component is unique
sizing_one : (s : Setting) (bs : Bounds) (answer : SizeOutcome) (x y : Answer) → AnswersSizing s bs answer x
    → AnswersSizing s bs answer y → x ≡ y
sizing_one s bs (SizedBy node) x y h k = h ∙ sym k
sizing_one s bs (Unsized why) x y h k = h ∙ sym k

module _ (q : Searches) (one : AreOne q) (s : Setting) where
  -- there is one result on a time
  time_one : (bs : Bounds) (t : ℕ) (x y : Answer) → AnswersTime q s bs t x → AnswersTime q s bs t y → x ≡ y
  time_one bs t x y a b =
      let set = sets_one s.program bs t a.asked.set b.asked.set a.asked.is_set b.asked.is_set in
      let there = subst (λ (zs : List ℕ). AreShutOf s.program bs zs a.asked.shut) set a.asked.are_shut in
      let shut = shut_one s.program bs b.asked.set a.asked.shut b.asked.shut there b.asked.are_shut in
      let answered = subst (λ (zs : List SymbolPlace). q.Ranks b.asked.set t zs a.asked.answer) shut
      (subst (λ (zs : List ℕ). q.Ranks zs t a.asked.shut a.asked.answer) set a.asked.answered) in
      let answer = one.ranks b.asked.set t b.asked.shut a.asked.answer b.asked.answer answered b.asked.answered in
      ranking_one s bs b.asked.answer x y (subst (λ (r : Ranking). AnswersRanking s bs r x) answer a.is_answer) b.is_answer

  -- the answer to the query for a size is unique
  size_one : (bs : Bounds) (keys : List ResultVariable) (x y : Answer) → AnswersSize q s bs keys x → AnswersSize q s bs keys y
      → x ≡ y
  size_one bs keys x y a b =
      let answer = one.sizes bs keys a.answer b.answer a.answered b.answered in
      sizing_one s bs b.answer x y (subst (λ (r : SizeOutcome). AnswersSizing s bs r x) answer a.is_answer) b.is_answer

  -- there is one result on each target
  pub answer_is_one : (bs : Bounds) (g : Target) (x y : Answer) → AnswersTarget q s bs g x → AnswersTarget q s bs g y → x ≡ y
  answer_is_one bs (TimeOf t) x y a b = time_one bs t x y a b
  answer_is_one bs (SizesOf keys) x y a b = size_one bs keys x y a b

  -- the derivations for a target are unique
  tries_one : (fs : List Derivation) (g : Target) (x y : List Derivation) → Tries q s fs g x → Tries q s fs g y → x ≡ y
  tries_one fs g x y h k =
      by_cases (is_open (bounds_of s.program fs) g) missing (λ e. h.known e ∙ sym (k.known e))
    where
      missing : is_open (bounds_of s.program fs) g ≡ true → x ≡ y
      missing e =
          let a = h.tried e in
          let b = k.tried e in
          a.2 ∙ (ap (derivations_by g) (answer_is_one (bounds_of s.program fs) g a.0 b.0 a.1 b.1) ∙ sym b.2)

  -- the derivations for a list of targets are unique
  tries_all_one : (manner : Manner) (fs : List Derivation) (gs : List Target) (x y : List Derivation)
      → TriesAll q s manner fs gs x → TriesAll q s manner fs gs y → x ≡ y
  tries_all_one manner fs [] x y h k = h ∙ sym k
  tries_all_one manner fs (g ∷ gs) x y h k =
      let first = tries_one fs g h.0 k.0 h.1 k.1 in
      let there = subst (λ (zs : List Derivation). TriesAll q s manner (known_next manner fs zs) gs h.2.0) first h.2.2 in
      let rest = tries_all_one manner (known_next manner fs k.0) gs h.2.0 k.2.0 there k.2.2 in
      h.2.1 ∙ (ap (λ (zs : List Derivation). zs ++ h.2.0) first
      ∙ (ap (λ (zs : List Derivation). k.0 ++ zs) rest ∙ sym k.2.1))

  -- the list of derivations of a round is unique
  pub round_one : (fs x y : List Derivation) → IsRound q s fs x → IsRound q s fs y → x ≡ y
  round_one fs x y h k = h.all ∙ (ap (λ (zs : List Derivation). zs ++ h.sizes) times
      ∙ (ap (λ (zs : List Derivation). k.times ++ zs) sizes ∙ sym k.all))
    where
      times : h.times ≡ k.times
      times = tries_all_one Together fs (map TimeOf (rule_numbers s.program)) h.times k.times h.timed k.timed

      components : h.components ≡ k.components
      components = one.components h.components k.components h.are_components k.are_components

      there : TriesAll q s InTurn (fs ++ k.times) (map SizesOf k.components) h.sizes
      there =
          subst (λ (cs : List (List ResultVariable)). TriesAll q s InTurn (fs ++ k.times) (map SizesOf cs) h.sizes) components
          (subst (λ (zs : List Derivation). TriesAll q s InTurn (fs ++ zs) (map SizesOf h.components) h.sizes) times h.sized)

      sizes : h.sizes ≡ k.sizes
      sizes = tries_all_one InTurn (fs ++ k.times) (map SizesOf k.components) h.sizes k.sizes there k.sized
