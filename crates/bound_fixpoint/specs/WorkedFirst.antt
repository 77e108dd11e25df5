-- Worked values of the derivations before the first round, and of right answers: for k(A) -> l(A), and m(A) -> m(A),
-- which is never reached; and for k(A) -> l(A), and l(A) -> l(A - 1), where rule 1 is infeasible.
use Rattle.std.specs.Prelude.{◌≡◌, ℕ, zero, suc, List, [], ◌∷◌, Some, None}
use Rattle.rule_questions.specs.model.Bounds.{Constant}
use Rattle.rule_questions.specs.cert_rules.Nodes.{ResultVariable}
use Rattle.rule_questions.specs.cert_rules.WorkedSettings.{apart, counting}
use Rattle.rule_questions.specs.cert_rules.Worked.{alone_node}
use Rattle.rule_questions.specs.cert_types.declared.answer.LimitHit.{LimitHit}
use Rattle.rule_questions.specs.cert_types.declared.answer.Question.{Question}
use Rattle.rule_questions.specs.cert_types.declared.answer.Question.TheVariants as asked
use Rattle.rule_questions.specs.linear_forms.declared.limit_cause.LimitCause.TheVariants as causes
use Rattle.bound_fixpoint.specs.Keys.{key, time_key}
use Rattle.bound_fixpoint.specs.Derivations.{Derivation, bounds_of}
use Rattle.bound_fixpoint.specs.Searches.{Answers, Emptiness, NoPoint, HasPoint, EmptyHitLimit, Ranked, RankHitLimit}
use Rattle.bound_fixpoint.specs.Searches.{SizeOutcome, Unsized, OfTime, OfSize}
use Rattle.outcome.specs.Reports.{TimeHitLimit, SizeHitLimit}
use Rattle.bound_fixpoint.specs.Searches.{searches_of}
use Rattle.bound_fixpoint.specs.Beginning.{empty_derivation, unreached_derivation, never_derivation, AreFirst}
use Rattle.bound_fixpoint.specs.Rounds.{IsLast, IsNoBound}
use Rattle.bound_fixpoint.specs.Right.{AreRight, IsRightRanking, IsFirstLimitHit, NoneHitsLimit}

-- a linear program exceeded a limit
abbrev pub limit_hit : Question → LimitHit
limit_hit question = record { question = question; cause = causes.Scale }

-- each rule is feasible; the ranking question of a rule hits a limit of its own, and the query for the size of places
-- hits that of the first place
abbrev pub hits_limit_at : List ResultVariable → SizeOutcome
hits_limit_at [] = Unsized (SizeHitLimit (limit_hit (asked.Local 0 0)))
hits_limit_at (m ∷ keys) = Unsized (SizeHitLimit (limit_hit (asked.Local m.rule m.place)))

abbrev pub hits_limit_as : (ℕ → ℕ) → Answers
hits_limit_as other = record {
  empty = λ t. HasPoint (record { parts = []; den = 1 });
  rank = λ set t shut. RankHitLimit (limit_hit (asked.Rank (other t)));
  components = (key 1 1 ∷ []) ∷ [];
  size = λ b keys. hits_limit_at keys;
}

-- the answers in which each limit hit is that of the rule itself
abbrev pub all_hits_limit : Answers
all_hits_limit = hits_limit_as (λ t. t)

-- the time of rule 2, which is unreached, and the size after it
abbrev pub two_derivations : List Derivation
two_derivations = unreached_derivation [] 2 ∷ never_derivation apart.program 2 ∷ []

-- rule 1 is infeasible, and no other rule is
abbrev pub one_empty : ℕ → Emptiness
one_empty zero = HasPoint (record { parts = []; den = 1 })
one_empty (suc zero) = NoPoint []
one_empty (suc (suc t)) = HasPoint (record { parts = []; den = 1 })

abbrev pub cut_off : Answers
cut_off = record {
  empty = one_empty;
  rank = all_hits_limit.rank;
  components = [];
  size = all_hits_limit.size;
}

-- the time of rule 1; that of rule 2, which no other rule reaches; and then the sizes after both
abbrev pub four_derivations : List Derivation
four_derivations =
    empty_derivation 1 [] ∷ unreached_derivation (time_key 1 ∷ []) 2 ∷
    never_derivation counting.program 1 ∷ never_derivation counting.program 2 ∷ []

-- before the first round rule 2 has the time 0, and the place after it the size 0, by these two derivations in this
-- order, and by no more and no fewer; if nothing else is derived, they are the last. If rule 1 is infeasible and rule
-- 2 unreached without it, the times come first, and the first is a premise of the second
pub record FirstDerivationsAreWorkedOut : Type 0 where
  pub first : AreFirst (searches_of all_hits_limit) apart.program two_derivations
  pub zero_time : bounds_of apart.program two_derivations 2 0 ≡ Some (Constant 0)
  pub zero_size : bounds_of apart.program two_derivations 2 1 ≡ Some (Constant 0)
  pub no_time : bounds_of apart.program two_derivations 1 0 ≡ None
  pub not_nothing : ¬ (AreFirst (searches_of all_hits_limit) apart.program [])
  pub not_turned : ¬ (AreFirst (searches_of all_hits_limit) apart.program
      (never_derivation apart.program 2 ∷ unreached_derivation [] 2 ∷ []))
  pub not_without_size : ¬ (AreFirst (searches_of all_hits_limit) apart.program (unreached_derivation [] 2 ∷ []))
  pub not_twice : ¬ (AreFirst (searches_of all_hits_limit) apart.program
      (unreached_derivation [] 2 ∷ never_derivation apart.program 2 ∷ never_derivation apart.program 2 ∷ []))
  pub last : IsLast (searches_of all_hits_limit) apart two_derivations
  pub reason : IsNoBound (searches_of all_hits_limit) apart two_derivations 1 0 (OfTime (TimeHitLimit (limit_hit (asked.Rank 1))))
  pub size_reason : IsNoBound (searches_of all_hits_limit) apart two_derivations 1 1
      (OfSize (SizeHitLimit (limit_hit (asked.Local 1 1))))
  pub four : AreFirst (searches_of cut_off) counting.program four_derivations
  pub not_resting_on_nothing : ¬ (AreFirst (searches_of cut_off) counting.program
      (empty_derivation 1 [] ∷ unreached_derivation [] 2 ∷ never_derivation counting.program 1 ∷ never_derivation counting.program 2 ∷ []))
  pub not_rule_by_rule : ¬ (AreFirst (searches_of cut_off) counting.program
      (empty_derivation 1 [] ∷ never_derivation counting.program 1 ∷ unreached_derivation (time_key 1 ∷ []) 2
      ∷ never_derivation counting.program 2 ∷ []))

-- the feasibility question of each rule hits a limit
abbrev pub no_answers : Answers
no_answers = record {
  empty = λ t. EmptyHitLimit (limit_hit (asked.Empty t));
  rank = all_hits_limit.rank;
  components = [];
  size = all_hits_limit.size;
}

-- a function is the right answer if it ranks the rule over exactly the set with coefficient 0 at every shut place. Of
-- the rules of a set whose feasibility questions hit a limit the first is reported
pub record RightRankingsAreWorkedOut : Type 0 where
  pub ranks : IsRightRanking (searches_of all_hits_limit) counting (2 ∷ []) 2 [] (Ranked alone_node)
  pub not_other_set : ¬ (IsRightRanking (searches_of all_hits_limit) counting (1 ∷ 2 ∷ []) 2 [] (Ranked alone_node))
  pub not_other_rule : ¬ (IsRightRanking (searches_of all_hits_limit) counting (2 ∷ []) 1 [] (Ranked alone_node))
  pub not_shut : ¬ (IsRightRanking (searches_of all_hits_limit) counting (2 ∷ []) 2
      (record { symbol = 1; place = 1 } ∷ []) (Ranked alone_node))
  pub first_limit_hit : IsFirstLimitHit (searches_of no_answers) (1 ∷ 2 ∷ []) (limit_hit (asked.Empty 1))
  pub not_second_limit_hit : ¬ (IsFirstLimitHit (searches_of no_answers) (1 ∷ 2 ∷ []) (limit_hit (asked.Empty 2)))
  pub none_hits_limit : NoneHitsLimit (searches_of all_hits_limit) (1 ∷ 2 ∷ [])
  pub some_limit_hit : ¬ (NoneHitsLimit (searches_of no_answers) (1 ∷ 2 ∷ []))

-- limit hits that are reported for their own rule are right, and for another rule they aren't; nor is an answer right
-- that calls a rule infeasible without multipliers that certify it
pub record RightAnswersAreWorkedOut : Type 0 where
  pub right : AreRight (searches_of all_hits_limit) apart
  pub not_another : ¬ (AreRight (searches_of (hits_limit_as suc)) apart)
  pub not_empty : ¬ (AreRight (searches_of cut_off) counting)
