-- When the answers of the searches are right.
use Rattle.std.specs.Prelude.{◌≡◌, ◌⊎◌, ℕ, suc, ◌≤◌, ◌<◌, true, false, List, [], ◌∷◌, length, map, ℤ, pos, ◌<ℤ◌, Some}
use Rattle.rule_questions.specs.model.Programs.{Program}
use Rattle.rule_questions.specs.model.Entries.{is_in}
use Rattle.rule_questions.specs.linear_forms.Forms.{at, form_value}
use Rattle.rule_questions.specs.linear_forms.Points.{IsPoint, IsRay}
use Rattle.rule_questions.specs.rule_forms.Ranking.{NoRank}
use Rattle.rule_questions.specs.cert_rules.Nodes.{ResultVariable, Member, RankNode}
use Rattle.rule_questions.specs.cert_rules.Numbers.{IsAscending}
use Rattle.rule_questions.specs.cert_rules.Setting.{Setting}
use Rattle.rule_questions.specs.cert_rules.Composed.{rank_form}
use Rattle.rule_questions.specs.cert_rules.AcceptsPlain.{IsRule, AcceptsEmpty}
use Rattle.rule_questions.specs.cert_rules.AcceptsRank.{HasRankShape, Loses, HasFloor}
use Rattle.rule_questions.specs.cert_rules.AcceptsSizes.{AcceptsSpread, AcceptsCycle, IsPolynomialUpdate, left_of}
use Rattle.rule_questions.specs.cert_rules.AcceptsSizes.{new_value, Side, Up, Low}
use Rattle.rule_questions.specs.cert_rules.Reasons.{Reason, MissingTime, MissingSize, Large, IsFirstAmong}
use Rattle.rule_questions.specs.cert_rules.Reasons as reasons
use Rattle.rule_questions.specs.cert_rules.Checks.{spread_checks, cycle_checks}
use Rattle.rule_questions.specs.cert_types.declared.answer.LimitHit.{LimitHit}
use Rattle.rule_questions.specs.cert_types.declared.answer.Question.TheVariants as asked
use Rattle.rule_questions.specs.cert_rules.Gaps.{ScaledPoint, SymbolPlace, Gap, is_shut}
use Rattle.rule_questions.specs.cert_rules.GapChecks.{GapHolds}
use Rattle.rule_questions.specs.ProgramQuestions.{forms_at, ranked_set}
use Rattle.outcome.specs.Reports.{NoSize, SizeUnbounded, SizeHitLimit, SizeMissing, SizeNonlinear, SizeUntimed, SizeLarge}
use Rattle.bound_fixpoint.specs.Keys.{Bounds, has_key, over}
use Rattle.bound_fixpoint.specs.Derivations.{Node, EmptyBy, UnreachedBy, NeverBy, RankBy, SpreadBy, CycleBy, keys_of}
use Rattle.bound_fixpoint.specs.Searches.{Searches}
use Rattle.bound_fixpoint.specs.Searches.{Emptiness, NoPoint, HasPoint, EmptyHitLimit, Ranking, Ranked, Unranked}
use Rattle.bound_fixpoint.specs.Searches.{RankHitLimit, SizeOutcome, SizedBy, Unsized}
use Rattle.bound_fixpoint.specs.Components.{AreComponentsOf}
use Rattle.bound_fixpoint.specs.Loops.{do_loop}

-- the function has coefficient 0 at every shut place
abbrev pub ReadsNoShut : RankNode → List SymbolPlace → Type 0
ReadsNoShut node shut = (a j : ℕ) → is_shut shut a (suc j) ≡ true
    → at (rank_form node.forms (Some a)).coefs j ≡ pos 0

-- the node ranks the rule over the set, has coefficient 0 at every shut place, and is accepted once its entries have
-- their bounds
pub record IsRanking (s : Setting) (set : List ℕ) (t : ℕ) (shut : List SymbolPlace) (node : RankNode) : Type 0 where
  pub rule : node.rule ≡ t
  pub same_set : node.set ≡ set
  pub shape : HasRankShape s node
  pub moves : (u : ℕ) → is_in u node.set ≡ true → Loses s node u
  pub floor : HasFloor s node
  pub reads : ReadsNoShut node shut

-- a gap of exactly this question, which holds; and no function with coefficient 0 at every shut place ranks the rule
-- over the set
pub record IsGapOf (s : Setting) (set : List ℕ) (t : ℕ) (shut : List SymbolPlace) (g : Gap) : Type 0 where
  pub rule : g.rule ≡ t
  pub same_set : g.set ≡ set
  pub same_shut : g.shut ≡ shut
  pub holds : GapHolds s.program (forms_at s.program) g
  pub none : NoRank (ranked_set s.program set t shut)

-- the feasibility question of a rule hits a limit
abbrev pub EmptyHitsLimit : Searches → ℕ → Type 0
EmptyHitsLimit q t = (x : LimitHit) × q.Empties t (EmptyHitLimit x)

-- the feasibility question of no rule of the set hits a limit
abbrev pub NoneHitsLimit : Searches → List ℕ → Type 0
NoneHitsLimit q set = (u : ℕ) → is_in u set ≡ true → ¬ (EmptyHitsLimit q u)

-- the limit hit is that of the first rule of the set whose feasibility question hits a limit
abbrev pub IsFirstLimitHit : Searches → List ℕ → LimitHit → Type 0
IsFirstLimitHit q [] x = ⊥
IsFirstLimitHit q (t ∷ ts) x = q.Empties t (EmptyHitLimit x) ⊎ ((¬ (EmptyHitsLimit q t)) × IsFirstLimitHit q ts x)

-- an answer about a rule's feasibility is right: multipliers are accepted, a point is one of the rule's rows, and a
-- limit hit is that of this question
abbrev pub IsRightEmptiness : Setting → ℕ → Emptiness → Type 0
IsRightEmptiness s t (NoPoint m) = AcceptsEmpty s t m
IsRightEmptiness s t (HasPoint z) = IsPoint (s.rows t) (at z.parts) (pos z.den)
IsRightEmptiness s t (EmptyHitLimit x) = x.question ≡ asked.Empty t

-- an answer to a ranking question is right: a function ranks the rule over exactly this set with coefficient 0 at
-- every shut place; a gap is that of exactly this question, which no function answers, and no feasibility question of
-- the set hits a limit; and a limit hit is that of this question, or of the first rule of the set whose feasibility
-- question hits one
abbrev pub IsRightRanking : Searches → Setting → List ℕ → ℕ → List SymbolPlace → Ranking → Type 0
IsRightRanking q s set t shut (Ranked node) = IsRanking s set t shut node
IsRightRanking q s set t shut (Unranked g) = IsGapOf s set t shut g × NoneHitsLimit q set
IsRightRanking q s set t shut (RankHitLimit x) = (x.question ≡ asked.Rank t) ⊎ IsFirstLimitHit q set x

-- a set that is valid for a rank question: it ascends, has only numbers of rules, and contains the rule
pub record IsQuestion (p : Program) (set : List ℕ) (t : ℕ) : Type 0 where
  pub ascending : IsAscending set
  pub rules : (u : ℕ) → is_in u set ≡ true → IsRule p u
  pub inside : is_in t set ≡ true

-- a node that gives sizes is accepted over bounds: a spread of a place that doesn't loop, and a cycle of members that
-- do
abbrev pub AcceptsSizing : Setting → Bounds → Node → Type 0
AcceptsSizing s b (EmptyBy t multipliers) = ⊥
AcceptsSizing s b (UnreachedBy t) = ⊥
AcceptsSizing s b (NeverBy t) = ⊥
AcceptsSizing s b (RankBy node) = ⊥
AcceptsSizing s b (SpreadBy m) = AcceptsSpread s (over b) m × (do_loop s (m ∷ []) ≡ false)
AcceptsSizing s b (CycleBy members) = AcceptsCycle s (over b) members × (do_loop s members ≡ true)

-- the node is accepted, and states the size of exactly these places
pub record IsSizingOf (s : Setting) (b : Bounds) (keys : List ResultVariable) (node : Node) : Type 0 where
  pub same : keys ≡ keys_of s.program node
  pub accepted : AcceptsSizing s b node

-- the value moves up along a ray, or down
abbrev pub MovesTo : Side → ℤ → Type 0
MovesTo Up v = pos 0 <ℤ v
MovesTo Low v = v <ℤ pos 0

-- a place whose update isn't a polynomial over left variables is unbounded on a side: along a ray of the rule's rows
-- that changes no left argument, the new value moves to that side; and the rows have a point
pub record IsUnboundedAt (s : Setting) (m : ResultVariable) (side : Side) (ray : List ℤ) (kept : ScaledPoint) : Type 0 where
  pub asked : ¬ (IsPolynomialUpdate s m)
  pub along : IsRay (s.rows m.rule) (at ray)
  pub still : (j : ℕ) → j < left_of s.program m.rule → at ray j ≡ pos 0
  pub moves : MovesTo side (form_value (new_value s m) (at ray) (pos 0))
  pub point : IsPoint (s.rows m.rule) (at kept.parts) (pos kept.den)

-- the reason of a node's check that means the same as this reason for a missing size
abbrev pub IsReasonFor : NoSize → Reason → Type 0
IsReasonFor (SizeHitLimit t) r = ⊥
IsReasonFor (SizeUnbounded side ray kept) r = ⊥
IsReasonFor (SizeMissing m) r = r ≡ MissingSize m.rule m.place
IsReasonFor (SizeNonlinear m) r = r ≡ reasons.Nonlinear m.rule m.place
IsReasonFor (SizeUntimed t) r = r ≡ MissingTime t
IsReasonFor (SizeLarge n) r = r ≡ Large n

-- the first check that fails is this one: a check of the spread node, if the only member doesn't loop, and of the loop
-- node of all members, if they do
pub record FailsAlone (s : Setting) (b : Bounds) (keys : List ResultVariable) (r : Reason) : Type 0 where
  pub member : Member
  pub only : keys ≡ member.result_variable ∷ []
  pub alone : do_loop s (member ∷ []) ≡ false
  pub first : IsFirstAmong (spread_checks s (over b) member) r

pub record FailsTogether (s : Setting) (b : Bounds) (keys : List ResultVariable) (r : Reason) : Type 0 where
  pub all : List Member
  pub result_variables : keys ≡ map (λ m. m.result_variable) all
  pub loop : do_loop s all ≡ true
  pub first : IsFirstAmong (cycle_checks s (over b) all) r

-- with accepted side bounds for each member a check of the node fails, and this is the first one: a size from outside
-- is missing, a side bound reads a member by a polynomial, a rule has no time, or the bound is too large
abbrev pub IsFirstCause : Setting → Bounds → List ResultVariable → NoSize → Type 0
IsFirstCause s b keys why =
    (r : Reason) × IsReasonFor why r × (FailsAlone s b keys r ⊎ FailsTogether s b keys r)

-- the reason why members have no size: one of them is unbounded, as a ray shows; or one of its linear programs, or
-- that of its rule's feasibility, hit a limit; or the first failed check; the searches determine which of these is
-- reported
abbrev pub IsCause : Setting → Bounds → List ResultVariable → NoSize → Type 0
IsCause s b keys (SizeHitLimit t) = (m : ResultVariable) × (has_key keys m.rule m.place ≡ true)
    × ((t.question ≡ asked.Local m.rule m.place) ⊎ (t.question ≡ asked.Empty m.rule))
IsCause s b keys (SizeUnbounded side ray kept) =
    (m : ResultVariable) × (has_key keys m.rule m.place ≡ true) × IsUnboundedAt s m side ray kept
IsCause s b keys (SizeMissing m) = IsFirstCause s b keys (SizeMissing m)
IsCause s b keys (SizeNonlinear m) = IsFirstCause s b keys (SizeNonlinear m)
IsCause s b keys (SizeUntimed t) = IsFirstCause s b keys (SizeUntimed t)
IsCause s b keys (SizeLarge n) = IsFirstCause s b keys (SizeLarge n)

-- an answer about a component is right
abbrev pub IsRightSizing : Setting → Bounds → List ResultVariable → SizeOutcome → Type 0
IsRightSizing s b keys (SizedBy node) = IsSizingOf s b keys node
IsRightSizing s b keys (Unsized why) = IsCause s b keys why

-- all answers are right: those about emptiness for each rule; those to rank questions for each set of rules that holds
-- the rule; the components are those of the places of live rules; and each size of places, or why they have none, is
-- right over the bounds over which they were tried
pub record AreRight (q : Searches) (s : Setting) : Type 0 where
  pub empty : (t : ℕ) (e : Emptiness) → IsRule s.program t → q.Empties t e → IsRightEmptiness s t e
  pub rank : (set : List ℕ) (t : ℕ) (shut : List SymbolPlace) (r : Ranking) → IsQuestion s.program set t
      → q.Ranks set t shut r → IsRightRanking q s set t shut r
  pub components : (cs : List (List ResultVariable)) → q.AreComponents cs → AreComponentsOf q s.program cs
  pub sizes : (b : Bounds) (keys : List ResultVariable) (answer : SizeOutcome) → 1 ≤ length keys → q.Sizes b keys answer
      → IsRightSizing s b keys answer

-- each question has one answer: whether a rule is empty, each rank question, the components, and each component where
-- these bounds are known
pub record AreOne (q : Searches) : Type 0 where
  pub empties : (t : ℕ) (x y : Emptiness) → q.Empties t x → q.Empties t y → x ≡ y
  pub ranks : (set : List ℕ) (t : ℕ) (shut : List SymbolPlace) (x y : Ranking) → q.Ranks set t shut x
      → q.Ranks set t shut y → x ≡ y
  pub components : (cs ds : List (List ResultVariable)) → q.AreComponents cs → q.AreComponents ds → cs ≡ ds
  pub sizes : (b : Bounds) (keys : List ResultVariable) (x y : SizeOutcome) → q.Sizes b keys x → q.Sizes b keys y → x ≡ y
