-- The keys of justified derivations are those of rules, and a derivation with the time of a rule has no other key.
use Rattle.std.proofs.Common.{◌≡◌, ℕ, true, List, [], ◌∷◌, map, sym, ap, subst, arith}
use Rattle.rule_questions.specs.model.Programs.{Program}
use Rattle.rule_questions.specs.model.Paths.{target_of}
use Rattle.rule_questions.proofs.model.Membership.{is_in-contained}
use Rattle.rule_questions.specs.cert_rules.Nodes.{ResultVariable, Member}
use Rattle.rule_questions.specs.cert_rules.Setting.{Setting}
use Rattle.rule_questions.specs.cert_rules.AcceptsPlain.{IsRule, places_at}
use Rattle.rule_questions.specs.cert_rules.AcceptsSizes.{IsResultVariable, HasMemberShape}
use Rattle.bound_fixpoint.specs.Keys.{Bounds, key, time_key, has_key}
use Rattle.bound_fixpoint.specs.Derivations.{Node, EmptyBy, UnreachedBy, NeverBy, RankBy, SpreadBy, CycleBy, Derivation, keys_of}
use Rattle.bound_fixpoint.specs.Derivations.{keys_after}
use Rattle.bound_fixpoint.specs.Justification.{AcceptsOver, IsJustified}
use Rattle.bound_fixpoint.proofs.Cases.{either}
use Rattle.bound_fixpoint.proofs.ListMembers.{map-contains, contained-all}
use Rattle.bound_fixpoint.proofs.Keys.{has_key-cases, has_key-none, has_key-contained}
use Rattle.bound_fixpoint.proofs.RuleNumbers.{in_places}

-- a key among these keys is that of a rule; if it is that of a time, it is the only one
pub record IsKeyOf (p : Program) (keys : List ResultVariable) (t i : ℕ) : Type 0 where
  pub rule : IsRule p t
  pub alone : i ≡ 0 → keys ≡ time_key t ∷ []

-- a key among a single key is that key
only_key : (k : ResultVariable) (t i : ℕ) → has_key (k ∷ []) t i ≡ true → k ≡ key t i
only_key k t i m = either (has_key-cases k [] t i m) (λ e. e) (λ later. absurd (has_key-none t i later))

-- the key of a rule's time, as the only key
time_alone : (p : Program) (u : ℕ) → IsRule p u → (t i : ℕ) → has_key (time_key u ∷ []) t i ≡ true
    → IsKeyOf p (time_key u ∷ []) t i
time_alone p u rule t i m =
    let same : u ≡ t = ap (λ (k : ResultVariable). k.rule) (only_key (time_key u) t i m) in
    record {
      rule = subst (λ (n : ℕ). IsRule p n) same rule;
      alone = λ z. ap (λ (n : ℕ). time_key n ∷ []) same;
    }

-- a place after a rule is no time
place_key : (p : Program) (keys : List ResultVariable) (k : ResultVariable) (t i : ℕ) → IsResultVariable p k → k ≡ key t i → IsKeyOf p keys t i
place_key p keys k t i at e =
    let same : k.rule ≡ t = ap (λ (x : ResultVariable). x.rule) e in
    let place : k.place ≡ i = ap (λ (x : ResultVariable). x.place) e in
    record {
      rule = subst (λ (n : ℕ). IsRule p n) same (record { rule = at.rule; numbered = at.numbered });
      alone = λ z. absurd (omega (arith, at.least, place, z));
    }

-- the keys of a node that is accepted
pub node_key : (s : Setting) (b : Bounds) (node : Node) (premises : List ResultVariable) → AcceptsOver s b node premises → (t i : ℕ)
    → has_key (keys_of s.program node) t i ≡ true → IsKeyOf s.program (keys_of s.program node) t i
node_key s b (EmptyBy u multipliers) premises ok t i m = time_alone s.program u ok.shape.rule t i m
node_key s b (UnreachedBy u) premises ok t i m = time_alone s.program u ok.1.shape t i m
node_key s b (RankBy node) premises ok t i m =
    time_alone s.program node.rule (ok.shape.rules node.rule ok.shape.inside) t i m
node_key s b (SpreadBy member) premises ok t i m =
    place_key s.program (member.result_variable ∷ []) member.result_variable t i ok.shape.at (only_key member.result_variable t i m)
node_key s b (CycleBy members) premises ok t i m =
    let there = map-contains (λ (x : Member). x.result_variable) (key t i) members
    (has_key-contained (map (λ x. x.result_variable) members) t i m) in
    let shape = contained-all (HasMemberShape s) members there.0 ok.shape.each there.1 in
    place_key s.program (map (λ x. x.result_variable) members) there.0.result_variable t i shape.at there.2
node_key s b (NeverBy u) premises ok t i m =
    let there = map-contains (λ j. key u j) (key t i) (places_at s.program (target_of s.program u))
    (has_key-contained (keys_after s.program u) t i m) in
    let same : u ≡ t = ap (λ (k : ResultVariable). k.rule) there.2 in
    let place : there.0 ≡ i = ap (λ (k : ResultVariable). k.place) there.2 in
    let least = (in_places s.program u there.0
    (is_in-contained (places_at s.program (target_of s.program u)) there.0 there.1)).least in
    record {
      rule = subst (λ (n : ℕ). IsRule s.program n) same ok.rule;
      alone = λ z. absurd (omega (arith, least, place, z));
    }

-- the keys of a justified derivation are keys of rules
pub justified_key : (s : Setting) (b : Bounds) (f : Derivation) → IsJustified s b f → (t i : ℕ) → has_key f.keys t i ≡ true
    → IsKeyOf s.program f.keys t i
justified_key s b f stands t i m =
    subst (λ (keys : List ResultVariable). IsKeyOf s.program keys t i) (sym stands.keys)
    (node_key s b f.node f.premises stands.accepted t i
    (subst (λ (keys : List ResultVariable). has_key keys t i ≡ true) stands.keys m))
