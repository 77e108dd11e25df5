-- When derivations are justified: each is accepted over bounds that earlier derivations give.
use Rattle.std.specs.Prelude.{◌≡◌, ℕ, not, Bool, List, [], ◌∷◌, ◌++◌, Some, None, ⊤}
use Rattle.std.specs.List.{All}
use Rattle.rule_questions.specs.model.Programs.{Program}
use Rattle.rule_questions.specs.model.Bounds.{Bound, Constant}
use Rattle.rule_questions.specs.cert_rules.Nodes.{ResultVariable}
use Rattle.rule_questions.specs.cert_rules.Setting.{Setting}
use Rattle.rule_questions.specs.cert_rules.Known.{IsKnown}
use Rattle.rule_questions.specs.cert_rules.AcceptsPlain.{IsRule, AcceptsEmpty, AcceptsUnreached}
use Rattle.rule_questions.specs.cert_rules.AcceptsRank.{AcceptsRank, rank_time}
use Rattle.rule_questions.specs.cert_rules.AcceptsSizes.{AcceptsSpread, AcceptsCycle, spread_size, cycle_size}
use Rattle.bound_fixpoint.specs.Keys.{Bounds, at_key, has_key, over}
use Rattle.bound_fixpoint.specs.Derivations.{Node, EmptyBy, UnreachedBy, NeverBy, RankBy, SpreadBy, CycleBy, Derivation, keys_of}
use Rattle.bound_fixpoint.specs.Derivations.{bounds_of}
use Rattle.bound_fixpoint.specs.Needs.{needs_of}

-- the bound that a node composes over bounds
abbrev pub composed_bound : Setting → Bounds → Node → Bound
composed_bound s b (EmptyBy t multipliers) = Constant 0
composed_bound s b (UnreachedBy t) = Constant 0
composed_bound s b (NeverBy t) = Constant 0
composed_bound s b (RankBy node) = s.rewrite (rank_time s node (over b))
composed_bound s b (SpreadBy m) = s.rewrite (spread_size s (over b) m)
composed_bound s b (CycleBy members) = s.rewrite (cycle_size s (over b) members)

-- whether the time of a rule isn't among these keys, which are those of rules that never run
abbrev pub is_left : List ResultVariable → ℕ → Bool
is_left dead e = not (has_key dead e 0)

-- these are keys of times, each of which is known to be 0
pub record AreZeroTimes (b : Bounds) (premises : List ResultVariable) : Type 0 where
  pub times : All (λ k. k.place ≡ 0) premises
  pub zero : All (λ k. b k.rule 0 ≡ Some (Constant 0)) premises

-- a rule that never runs: its time is known to be 0
pub record NeverRuns (p : Program) (b : Bounds) (t : ℕ) : Type 0 where
  pub rule : IsRule p t
  pub zero : b t 0 ≡ Some (Constant 0)

-- a node with these premises is accepted over bounds; that of an unreached rule, if the premises are times that are 0
-- and other rules don't reach its source
abbrev pub AcceptsOver : Setting → Bounds → Node → List ResultVariable → Type 0
AcceptsOver s b (EmptyBy t multipliers) premises = AcceptsEmpty s t multipliers
AcceptsOver s b (UnreachedBy t) premises = AreZeroTimes b premises × AcceptsUnreached s.program (is_left premises) t
AcceptsOver s b (NeverBy t) premises = NeverRuns s.program b t
AcceptsOver s b (RankBy node) premises = AcceptsRank s (over b) node
AcceptsOver s b (SpreadBy m) premises = AcceptsSpread s (over b) m
AcceptsOver s b (CycleBy members) premises = AcceptsCycle s (over b) members

-- these are the premises of the node over bounds
abbrev pub ArePremises : Setting → Bounds → Node → List ResultVariable → Type 0
ArePremises s b (EmptyBy t multipliers) premises = premises ≡ needs_of s b (EmptyBy t multipliers)
ArePremises s b (UnreachedBy t) premises = ⊤
ArePremises s b (NeverBy t) premises = premises ≡ needs_of s b (NeverBy t)
ArePremises s b (RankBy node) premises = premises ≡ needs_of s b (RankBy node)
ArePremises s b (SpreadBy m) premises = premises ≡ needs_of s b (SpreadBy m)
ArePremises s b (CycleBy members) premises = premises ≡ needs_of s b (CycleBy members)

-- a derivation is justified over bounds: its keys are those of its node, which is accepted over the bounds; its
-- premises are those of the node, and all are known; and its bound is the one that the node composes
pub record IsJustified (s : Setting) (b : Bounds) (f : Derivation) : Type 0 where
  pub keys : f.keys ≡ keys_of s.program f.node
  pub accepted : AcceptsOver s b f.node f.premises
  pub premises : ArePremises s b f.node f.premises
  pub known : All (λ k. IsKnown (at_key b k)) f.premises
  pub bound : f.bound ≡ composed_bound s b f.node

-- a list of derivations is a prefix of another
pub record IsBeginning (before fs : List Derivation) : Type 0 where
  pub between : List Derivation
  pub same : before ++ between ≡ fs

-- a derivation is justified after earlier ones: it is justified over the bounds of some prefix of these, and none of
-- its keys is known after all of them
pub record IsJustifiedAfter (s : Setting) (earlier : List Derivation) (f : Derivation) : Type 0 where
  pub before : List Derivation
  pub begins : IsBeginning before earlier
  pub stands : IsJustified s (bounds_of s.program before) f
  pub fresh : All (λ k. at_key (bounds_of s.program earlier) k ≡ None) f.keys

-- each of these is justified after earlier ones and those before it
abbrev pub AreJustifiedAfter : Setting → List Derivation → List Derivation → Type 0
AreJustifiedAfter s earlier [] = ⊤
AreJustifiedAfter s earlier (f ∷ fs) = IsJustifiedAfter s earlier f × AreJustifiedAfter s (earlier ++ f ∷ []) fs

-- all derivations of a list are justified
pub record AreJustified (s : Setting) (fs : List Derivation) : Type 0 where
  pub each : AreJustifiedAfter s [] fs
