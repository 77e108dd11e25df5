-- The entries of costs, one by one: each rule has one, appended to the earlier ones.
use Rattle.std.proofs.Common.{◌≡◌, ℕ, suc, ◌+◌, List, [], ◌∷◌, ◌++◌, length, map, Option, Some, None}
use Rattle.std.proofs.Common.{refl, sym, ◌∙◌, ap, subst, arith}
use Rattle.std.specs.Option.{option_map}
use Rattle.std.proofs.lemmas.List.{append_assoc, append-nil, length-append, length-map, map-append}
use Rattle.model.specs.Bounds.{Bound}
use Rattle.model.specs.Programs.{Program}
use Rattle.outcome.specs.Reports.{NoSize, RuleCost, Costed, Uncosted}
use Rattle.outcome.specs.Views.{cost_of}
use Rattle.outcome.specs.declared.entry.CostEntry.{CostEntry}
use Rattle.outcome.specs.declared.entry.CostEntry.TheVariants as costs
use Rattle.cert_types.specs.cert_program.Setting.{setting_of}
use Rattle.cert_types.specs.cert_rules.AcceptsCosts.{stated_cost}
use Rattle.cert_types.specs.cert_rules.Nodes.{CostBy, CostNode, Proof}
use Rattle.bound_fixpoint.specs.Keys.{Bounds, over}
use Rattle.cost_bounds.specs.CostLemmas.{cost_lemma, cost_lemmas, cost_node}
use Rattle.cost_bounds.specs.CostOutcomes.{BoundedBy, NotBounded, IsCostOf}
use Rattle.cost_bounds.proofs.OneCost.{costs-one as outcomes_one}
use Rattle.time_bounds.specs.Analysis.{IsCostOver, AreCostsOver}
use Rattle.time_bounds.specs.AnalysisLemmas.{AreCertified, CarryCosts}
use Rattle.time_bounds.specs.CostEntries.{AddsCost, AddsNone, AreCostEntries}
use Rattle.time_bounds.proofs.NumberedLists.{each_pushed}

-- lists with equal first elements and equal rests are equal
pub joined : {A : Type 0} (x y : A) (xs ys : List A) → x ≡ y → xs ≡ ys → x ∷ xs ≡ y ∷ ys
joined {A} x y xs ys e h = ap (λ (z : A). z ∷ xs) e ∙ ap (λ (zs : List A). y ∷ zs) h

module _ (p : Program) (pivots : ℕ) (b : Bounds) where
  -- a rule has one certificate of a bound on its cost
  pub certificate_one : (t : ℕ) (x y : CostBy) → IsCostOf p pivots (over b) t (BoundedBy x)
      → IsCostOf p pivots (over b) t (BoundedBy y) → x ≡ y
  certificate_one t x y h k = inner (outcomes_one.each p pivots (over b) t (BoundedBy x) (BoundedBy y) h k)
    where
      inner : BoundedBy x ≡ BoundedBy y → x ≡ y
      inner e = cc

  -- the cost of a rule has one entry
  cost_one : (t : ℕ) (x y : Option RuleCost) → IsCostOver p pivots b t x → IsCostOver p pivots b t y → x ≡ y
  cost_one t None None h k = refl
  cost_one t None (Some (Costed d)) h k = absurd (h k.1.costs)
  cost_one t None (Some (Uncosted w)) h k = absurd (h k.costs)
  cost_one t (Some (Costed c)) None h k = absurd (k h.1.costs)
  cost_one t (Some (Uncosted v)) None h k = absurd (k h.costs)
  cost_one t (Some (Costed c)) (Some (Costed d)) h k =
      ap (λ (x : Bound). Some (Costed x))
      (h.2 ∙ (ap (stated_cost (setting_of p) (over b) t) (certificate_one t h.0 k.0 h.1 k.1) ∙ sym k.2))
  cost_one t (Some (Costed c)) (Some (Uncosted w)) h k =
      absurd (apart (outcomes_one.each p pivots (over b) t (BoundedBy h.0) (NotBounded w) h.1 k))
    where
      apart : BoundedBy h.0 ≡ NotBounded w → ⊥
      apart e = cc
  cost_one t (Some (Uncosted v)) (Some (Costed d)) h k =
      absurd (apart (outcomes_one.each p pivots (over b) t (NotBounded v) (BoundedBy k.0) h k.1))
    where
      apart : NotBounded v ≡ BoundedBy k.0 → ⊥
      apart e = cc
  cost_one t (Some (Uncosted v)) (Some (Uncosted w)) h k =
      ap (λ (x : NoSize). Some (Uncosted x)) (inner (outcomes_one.each p pivots (over b) t (NotBounded v) (NotBounded w) h k))
    where
      inner : NotBounded v ≡ NotBounded w → v ≡ w
      inner e = cc

  -- the costs of the rules of a list have one list of entries
  pub costs_one : (t : ℕ) (xs ys : List (Option RuleCost)) → length xs ≡ length ys → AreCostsOver p pivots b t xs
      → AreCostsOver p pivots b t ys → xs ≡ ys
  costs_one t [] [] e h k = refl
  costs_one t [] (y ∷ ys) e h k = let none : 0 ≡ suc (length ys) = e in absurd (omega (arith, none))
  costs_one t (x ∷ xs) [] e h k = let none : suc (length xs) ≡ 0 = e in absurd (omega (arith, none))
  costs_one t (x ∷ xs) (y ∷ ys) e h k =
      let long : suc (length xs) ≡ suc (length ys) = e in
      joined x y xs ys (cost_one t x y h.0 k.0) (costs_one (suc t) xs ys (omega (arith, long)) h.1 k.1)

  -- there is one list of cost nodes with a bound
  pub certified_one : (t : ℕ) (xs : List (Option RuleCost)) (nodes others : List CostNode) → AreCertified p pivots b t xs nodes
      → AreCertified p pivots b t xs others → nodes ≡ others
  certified_one t [] nodes others h k = h ∙ sym k
  certified_one t (None ∷ xs) nodes others h k = certified_one (suc t) xs nodes others h k
  certified_one t (Some (Uncosted w) ∷ xs) nodes others h k = certified_one (suc t) xs nodes others h k
  certified_one t (Some (Costed c) ∷ xs) nodes others (x, hx, (rest, e, h)) (y, ky, (more, f, k)) =
      e ∙ (joined (cost_node t x) (cost_node t y) rest more (ap (cost_node t) (certificate_one t x y hx ky))
      (certified_one (suc t) xs rest more h k) ∙ sym f)

  -- the nodes of the entries of rules, and of one more
  certified_pushed : (t : ℕ) (xs : List (Option RuleCost)) (nodes : List CostNode) (x : Option RuleCost) (own : List CostNode)
      → AreCertified p pivots b t xs nodes → AreCertified p pivots b (t + length xs) (x ∷ []) own
      → AreCertified p pivots b t (xs ++ x ∷ []) (nodes ++ own)
  certified_pushed t [] nodes x own h k =
      subst (λ (ns : List CostNode). AreCertified p pivots b t (x ∷ []) (ns ++ own)) (sym h)
      (subst (λ (n : ℕ). AreCertified p pivots b n (x ∷ []) own) (let z : t + 0 ≡ t = omega arith in z) k)
  certified_pushed t (None ∷ xs) nodes x own h k =
      certified_pushed (suc t) xs nodes x own h
      (subst (λ (n : ℕ). AreCertified p pivots b n (x ∷ []) own) (let z : t + suc (length xs) ≡ suc t + length xs = omega arith in z) k)
  certified_pushed t (Some (Uncosted w) ∷ xs) nodes x own h k =
      certified_pushed (suc t) xs nodes x own h
      (subst (λ (n : ℕ). AreCertified p pivots b n (x ∷ []) own) (let z : t + suc (length xs) ≡ suc t + length xs = omega arith in z) k)
  certified_pushed t (Some (Costed c) ∷ xs) nodes x own (by, is, (rest, e, h)) k = (
    by,
    is,
    (
      rest ++ own,
      ap (λ (ns : List CostNode). ns ++ own) e,
      certified_pushed (suc t) xs rest x own h
          (subst (λ (n : ℕ). AreCertified p pivots b n (x ∷ []) own)
          (let z : t + suc (length xs) ≡ suc t + length xs = omega arith in z) k),
    ),
  )

  -- entries carry numbers in order with one more entry that carries the next number
  carried_pushed : (t n : ℕ) (xs : List (Option CostEntry)) (nodes : List CostNode) (x : Option CostEntry)
      → AreCertified p pivots b t (map (option_map cost_of) xs) nodes → CarryCosts n xs → CarryCosts (n + length nodes) (x ∷ [])
      → CarryCosts n (xs ++ x ∷ [])
  carried_pushed t n [] nodes x h c k =
      subst (λ (m : ℕ). CarryCosts m (x ∷ [])) (let z : n + length nodes ≡ n = omega (arith, ap (λ (ns : List CostNode). length ns) h) in z) k
  carried_pushed t n (None ∷ xs) nodes x h c k = carried_pushed (suc t) n xs nodes x h c k
  carried_pushed t n (Some (costs.Known s) ∷ xs) nodes x (by, is, (rest, e, h)) c k = (
    c.0,
    carried_pushed (suc t) (suc n) xs rest x h c.1
        (subst (λ (m : ℕ). CarryCosts m (x ∷ []))
        (let z : n + length nodes ≡ suc n + length rest = omega (arith, ap (λ (ns : List CostNode). length ns) e) in z) k),
  )
  carried_pushed t n (Some (costs.UnboundedSide l) ∷ xs) nodes x h c k = carried_pushed (suc t) n xs nodes x h c k
  carried_pushed t n (Some (costs.OutOfLimits y) ∷ xs) nodes x h c k = carried_pushed (suc t) n xs nodes x h c k
  carried_pushed t n (Some (costs.Missing m) ∷ xs) nodes x h c k = carried_pushed (suc t) n xs nodes x h c k
  carried_pushed t n (Some (costs.Untimed u) ∷ xs) nodes x h c k = carried_pushed (suc t) n xs nodes x h c k
  carried_pushed t n (Some (costs.Large m) ∷ xs) nodes x h c k = carried_pushed (suc t) n xs nodes x h c k

  module _ (number : ℕ → ℕ → ℕ) where
    -- what one entry adds
    pub record AddsEntry (t : ℕ) (x : Option CostEntry) (old new : List Proof) : Type 0 where
      pub entry : IsCostOver p pivots b t (option_map cost_of x)
      pub own : List CostNode
      pub certified : AreCertified p pivots b t (option_map cost_of x ∷ []) own
      pub lemmas_are : new ≡ old ++ cost_lemmas (setting_of p) number own
      pub carried : CarryCosts (length old) (x ∷ [])

    -- an entry without a bound adds no lemma
    none_added : (t : ℕ) (e : CostEntry) (old new : List Proof) → AddsNone p pivots b t e old new
        → AddsEntry t (Some e) old new
    none_added t (costs.Known s) old new h = absurd h
    none_added t (costs.UnboundedSide l) old new (is, same) = record {
      entry = is;
      own = [];
      certified = refl;
      lemmas_are = same ∙ sym (append-nil old);
      carried = tt;
    }
    none_added t (costs.OutOfLimits y) old new (is, same) = record {
      entry = is;
      own = [];
      certified = refl;
      lemmas_are = same ∙ sym (append-nil old);
      carried = tt;
    }
    none_added t (costs.Missing m) old new (is, same) = record {
      entry = is;
      own = [];
      certified = refl;
      lemmas_are = same ∙ sym (append-nil old);
      carried = tt;
    }
    none_added t (costs.Untimed u) old new (is, same) = record {
      entry = is;
      own = [];
      certified = refl;
      lemmas_are = same ∙ sym (append-nil old);
      carried = tt;
    }
    none_added t (costs.Large m) old new (is, same) = record {
      entry = is;
      own = [];
      certified = refl;
      lemmas_are = same ∙ sym (append-nil old);
      carried = tt;
    }

    -- each entry adds what its bound needs
    adds : (t : ℕ) (x : Option CostEntry) (old new : List Proof) → AddsCost p pivots b number t x old new → AddsEntry t x old new
    adds t None old new (none, same) = record {
      entry = none;
      own = [];
      certified = refl;
      lemmas_are = same ∙ sym (append-nil old);
      carried = tt;
    }
    adds t (Some (costs.Known s)) old new (by, is, bound, lemma, carries) = record {
      entry = (by, is, bound);
      own = cost_node t by ∷ [];
      certified = (by, is, ([], refl, refl));
      lemmas_are = lemma;
      carried = (carries, tt);
    }
    adds t (Some (costs.UnboundedSide l)) old new h = none_added t (costs.UnboundedSide l) old new h
    adds t (Some (costs.OutOfLimits y)) old new h = none_added t (costs.OutOfLimits y) old new h
    adds t (Some (costs.Missing m)) old new h = none_added t (costs.Missing m) old new h
    adds t (Some (costs.Untimed u)) old new h = none_added t (costs.Untimed u) old new h
    adds t (Some (costs.Large m)) old new h = none_added t (costs.Large m) old new h

    -- there are no entries before the first rule
    pub no_entries : (before : List Proof) → AreCostEntries p pivots b number before [] before
    no_entries before = record {
      each = tt;
      certified = [];
      are_certified = refl;
      lemmas_are = sym (append-nil before);
      carried = tt;
    }

    -- one entry more, after the earlier ones
    pub entry_pushed : (before : List Proof) (entries : List (Option CostEntry)) (x : Option CostEntry) (old new : List Proof) (t : ℕ)
        → AreCostEntries p pivots b number before entries old → t ≡ 1 + length entries → AddsCost p pivots b number t x old new
        → AreCostEntries p pivots b number before (entries ++ x ∷ []) new
    entry_pushed before entries x old new t h numbered added = record {
      each = subst (λ (cs : List (Option RuleCost)). AreCostsOver p pivots b 1 cs) (sym (map-append (option_map cost_of) entries (x ∷ [])))
          (each_pushed (IsCostOver p pivots b) 1 (map (option_map cost_of) entries) (option_map cost_of x) h.each
          (subst (λ (n : ℕ). IsCostOver p pivots b n (option_map cost_of x)) at a.entry));
      certified = h.certified ++ a.own;
      are_certified = subst (λ (cs : List (Option RuleCost)). AreCertified p pivots b 1 cs (h.certified ++ a.own))
          (sym (map-append (option_map cost_of) entries (x ∷ [])))
          (certified_pushed 1 (map (option_map cost_of) entries) h.certified (option_map cost_of x) a.own h.are_certified
          (subst (λ (n : ℕ). AreCertified p pivots b n (option_map cost_of x ∷ []) a.own) at a.certified));
      lemmas_are = a.lemmas_are
          ∙ (ap (λ (ls : List Proof). ls ++ cost_lemmas (setting_of p) number a.own) h.lemmas_are
          ∙ (append_assoc before (cost_lemmas (setting_of p) number h.certified) (cost_lemmas (setting_of p) number a.own)
          ∙ ap (λ (ls : List Proof). before ++ ls) (sym (map-append (cost_lemma (setting_of p) number) h.certified a.own))));
      carried = carried_pushed 1 (length before) entries h.certified x h.are_certified h.carried
          (subst (λ (n : ℕ). CarryCosts n (x ∷ [])) many a.carried);
    }
      where
        a : AddsEntry t x old new
        a = adds t x old new added

        at : t ≡ 1 + length (map (option_map cost_of) entries)
        at = omega (arith, numbered, length-map entries (option_map cost_of))

        many : length old ≡ length before + length h.certified
        many = omega (
          arith,
          ap (λ (ls : List Proof). length ls) h.lemmas_are,
          length-append before (cost_lemmas (setting_of p) number h.certified),
          length-map h.certified (cost_lemma (setting_of p) number),
        )
