-- Rules whose ends have one leader.
use Rattle.std.proofs.Common.{◌≡◌, ◌⊎◌, inl, inr, ℕ, zero, suc, ◌-◌, ◌<◌, ◌≤◌, List, ◌∷◌, length, map, Some, None}
use Rattle.std.proofs.Common.{get_or, refl, sym, ◌∙◌, ap, arith}
use Rattle.std.specs.List.{All}
use Rattle.std.proofs.lemmas.Bool.{cases_lt}
use Rattle.std.proofs.lemmas.List.{length-map, get_or-map, get_or_past, get_or_default}
use Rattle.std.proofs.lemmas.List.Elements.{All-get_or}
use Rattle.model.specs.Programs.{Program, rule_at}
use Rattle.model.specs.Paths.{source_in, source_of, target_in, target_of}
use Rattle.its_graph.specs.Classes.{AreLeaders}
use Rattle.its_graph.specs.Links.{ends_of, shared_leader}
use Rattle.its_graph.specs.Graphs.{ArePartsBelow}
use Rattle.its_graph.proofs.Arrivals.{rule-at-link}
use Rattle.its_graph.proofs.Elements.{Decided, decided}
use Rattle.its_graph.proofs.PairLists.{Pair}

-- `None` is not `Some`.
pub none_some : {A : Type 0} (a : A) → None ≡ Some a → ⊥
none_some a e = cc

-- `Some` is injective on numbers.
pub number_in : (a b : ℕ) → Some a ≡ Some b → a ≡ b
number_in a b e = cc

-- A shared leader is that of both ends.
ends-share : (leaders : List ℕ) (l : Pair) (m : ℕ) → shared_leader leaders l ≡ Some m
    → (get_or leaders l.0 0 ≡ m) × (get_or leaders l.1 0 ≡ m)
ends-share leaders l m e = go (decided (get_or leaders l.0 0) (get_or leaders l.1 0))
  where
    go : Decided (get_or leaders l.0 0) (get_or leaders l.1 0) → (get_or leaders l.0 0 ≡ m) × (get_or leaders l.1 0 ≡ m)
    go (inl (test, same)) =
        let first : get_or leaders l.0 0 ≡ m = number_in (get_or leaders l.0 0) m (rw test at e) in (first, sym same ∙ first)
    go (inr (test, other)) = absurd (none_some m (rw test at e))

-- The leader of both ends is shared.
pub leader-shared : (leaders : List ℕ) (l : Pair) (m : ℕ) → get_or leaders l.0 0 ≡ m → get_or leaders l.1 0 ≡ m
    → shared_leader leaders l ≡ Some m
leader-shared leaders l m e f = go (decided (get_or leaders l.0 0) (get_or leaders l.1 0))
  where
    go : Decided (get_or leaders l.0 0) (get_or leaders l.1 0) → shared_leader leaders l ≡ Some m
    go (inl (test, same)) = rw test (ap (λ (x : ℕ). Some x) e)
    go (inr (test, other)) = absurd (other (e ∙ sym f))

-- The link of rule t has the shared leader m.
record HasLink (leaders : List ℕ) (links : List Pair) (t m : ℕ) : Type 0 where
  pub positive : 0 < t
  pub within : t ≤ length links
  pub from : get_or leaders (get_or links (t - 1) (0, 0)).0 0 ≡ m
  pub to : get_or leaders (get_or links (t - 1) (0, 0)).1 0 ≡ m

link-of-part : (leaders : List ℕ) (links : List Pair) (t m : ℕ)
    → get_or (None ∷ map (shared_leader leaders) links) t None ≡ Some m → HasLink leaders links t m
link-of-part leaders links zero m e = absurd (none_some m e)
link-of-part leaders links (suc i) m e = go (cases_lt i (length links))
  where
    go : (i < length links) ⊎ (length links ≤ i) → HasLink leaders links (suc i) m
    go (inr high) =
        absurd (none_some m (sym (get_or_past (map (shared_leader leaders) links) i None
        (omega (arith, high, length-map links (shared_leader leaders)))) ∙ e))
    go (inl low) =
        let back : suc i - 1 ≡ i = omega arith in
        let both = ends-share leaders (get_or links i (0, 0)) m
        (sym (get_or-map (shared_leader leaders) links i (0, 0) None low) ∙ e) in
        record {
          positive = omega arith;
          within = omega (arith, low);
          from = ap (λ (k : ℕ). get_or leaders (get_or links k (0, 0)).0 0) back ∙ both.0;
          to = ap (λ (k : ℕ). get_or leaders (get_or links k (0, 0)).1 0) back ∙ both.1;
        }

-- The names of parts are nodes.
pub parts-below : (Edge : ℕ → ℕ → Type 0) (n k : ℕ) (leaders : List ℕ) (links : List Pair) → AreLeaders Edge n leaders
    → All (λ (e : Pair). (e.0 < n) × (e.1 < n)) links → n ≤ k
    → ArePartsBelow k (None ∷ map (shared_leader leaders) links)
parts-below Edge n k leaders links l within few t m e =
    let h = link-of-part leaders links t m e in
    let position : t - 1 < length links = omega (arith, h.positive, h.within) in
    let low = (All-get_or (λ (x : Pair). (x.0 < n) × (x.1 < n)) links (t - 1) (0, 0) position within).0 in
    omega (arith, l.within (get_or links (t - 1) (0, 0)).0 low, h.from, few)

-- Source and target of a rule have one leader.
pub record HasLeader (p : Program) (leaders : List ℕ) (n t m : ℕ) : Type 0 where
  pub source : ℕ
  pub leaves : source_of p t ≡ Some source
  pub source_within : source < n
  pub source_leader : get_or leaders source 0 ≡ m
  pub target : ℕ
  pub leads : target_of p t ≡ Some target
  pub target_within : target < n
  pub target_leader : get_or leaders target 0 ≡ m

-- A rule in a part has one leader.
pub has-leader : (p : Program) (leaders : List ℕ) (n : ℕ) (links : List Pair) → links ≡ map ends_of p.rules
    → All (λ (e : Pair). (e.0 < n) × (e.1 < n)) links → (t m : ℕ)
    → get_or (None ∷ map (shared_leader leaders) links) t None ≡ Some m → HasLeader p leaders n t m
has-leader p leaders n links same within t m e =
    let h = link-of-part leaders links t m e in
    let position : t - 1 < length links = omega (arith, h.positive, h.within) in
    let link : Pair = get_or links (t - 1) (0, 0) in
    let low = All-get_or (λ (x : Pair). (x.0 < n) × (x.1 < n)) links (t - 1) (0, 0) position within in
    let rule = rule-at-link p links t link same h.positive h.within (own_default position) in
    record {
      source = link.0;
      leaves = ap source_in rule.1 ∙ ap (λ (x : Pair). Some x.0) rule.2;
      source_within = low.0;
      source_leader = h.from;
      target = link.1;
      leads = target_by h.positive ∙ (ap target_in rule.1 ∙ ap (λ (x : Pair). Some x.1) rule.2);
      target_within = low.1;
      target_leader = h.to;
    }
  where
    own_default : t - 1 < length links → get_or links (t - 1) (0, 0) ≡ get_or links (t - 1) (get_or links (t - 1) (0, 0))
    own_default low = get_or_default links (t - 1) (0, 0) (get_or links (t - 1) (0, 0)) low

    target_by : 0 < t → target_of p t ≡ target_in (rule_at p t)
    target_by pos = go t pos
      where
        go : (i : ℕ) → 0 < i → target_of p i ≡ target_in (rule_at p i)
        go zero low = absurd (omega arith)
        go (suc i) low = refl
