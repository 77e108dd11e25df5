-- The links kept by flags are the edges by allowed rules.
use Rattle.std.proofs.Common.{◌≡◌, ◌↔◌, ◌⊎◌, inl, inr, ℕ, zero, suc, ◌+◌, ◌<◌, ◌≤◌, List, [], ◌∷◌, length, map}
use Rattle.std.proofs.Common.{Contains, Vec, Some, None, Bool, true, false, ◌&&◌, get_or, set, replicate}
use Rattle.std.proofs.Common.{get_or-set_other, get_or-set_same, refl, sym, ◌∙◌, ap, subst, arith}
use Rattle.std.specs.Prelude.{slice_get}
use Rattle.std.specs.List.{All}
use Rattle.std.specs.declared.alloc.Global.{Global}
use Rattle.std.proofs.lemmas.Bool.{cases_lt}
use Rattle.std.proofs.lemmas.Option.{slice_get_within}
use Rattle.std.proofs.lemmas.List.{length-set, length-replicate, get_or-replicate, get_or_past}
use Rattle.std.proofs.lemmas.List.Elements.{All-nil, All-cons, All-weaker, All-map, Contains-get_or, All-from_get_or}
use Rattle.model.specs.Programs.{Program, Rule, rule_at}
use Rattle.model.specs.Paths.{HasEdge}
use Rattle.its_graph.specs.Groups.{values_of, values_in, Joins, IsPair, swap}
use Rattle.its_graph.specs.Links.{ends_of, kept_links, all_cut}
use Rattle.its_graph.specs.declared.graph.Graph.{Graph}
use Rattle.its_graph.specs.Graphs.{flagged, none_of, IsGraphOf}
use Rattle.its_graph.proofs.Elements.{Decided, decided}
use Rattle.its_graph.proofs.PairLists.{Pair, same_pair, pair-cases, pair-later, pair-within, joins-pairs, swap-from}
use Rattle.its_graph.proofs.PairLists.{swap-listed}

-- A kept link is that of an allowed rule.
pub record KeptBy (allowed : List Bool) (i : ℕ) (rules : List Rule) (a b : ℕ) : Type 0 where
  pub position : ℕ
  pub rule : Rule
  pub numbered : slice_get rules position ≡ Some rule
  pub allowed_rule : get_or allowed (i + position) false ≡ true
  pub source : rule.source ≡ a
  pub target : rule.target ≡ b

-- A link kept among the later rules is kept among all.
kept-later : (allowed : List Bool) (i : ℕ) (r : Rule) (rules : List Rule) (a b : ℕ) → KeptBy allowed (suc i) rules a b → KeptBy allowed i (r ∷ rules) a b
kept-later allowed i r rules a b k = record {
  position = suc k.position;
  rule = k.rule;
  numbered = k.numbered;
  allowed_rule = subst (λ (x : ℕ). get_or allowed x false ≡ true) (moved i k.position) k.allowed_rule;
  source = k.source;
  target = k.target;
}
  where
    moved : (i j : ℕ) → suc i + j ≡ i + suc j
    moved i j = omega arith

-- Each kept link is that of an allowed rule.
pub kept-from : (allowed : List Bool) (i : ℕ) (rules : List Rule) (a b : ℕ) → Contains (kept_links allowed i (map ends_of rules)) (a, b) → KeptBy allowed i rules a b
kept-from allowed i [] a b (k, low, e) = absurd (omega arith)
kept-from allowed i (r ∷ rules) a b h = go (get_or allowed i false) refl (λ later. kept-later allowed i r rules a b (kept-from allowed (suc i) rules a b later))
  where
    go : (v : Bool) → get_or allowed i false ≡ v → (Contains (kept_links allowed (suc i) (map ends_of rules)) (a, b) → KeptBy allowed i (r ∷ rules) a b) → KeptBy allowed i (r ∷ rules) a b
    go false e ih = ih (rw e at h)
    go true e ih = first (pair-cases (ends_of r) (kept_links allowed (suc i) (map ends_of rules)) (a, b) (rw e at h))
      where
        first : (ends_of r ≡ (a, b)) ⊎ Contains (kept_links allowed (suc i) (map ends_of rules)) (a, b) → KeptBy allowed i (r ∷ rules) a b
        first (inr later) = ih later
        first (inl is) = record { position = 0; rule = r; numbered = refl; allowed_rule = subst (λ (x : ℕ). get_or allowed x false ≡ true) (at_first i) e; source = ap (λ (p : Pair). p.0) is; target = ap (λ (p : Pair). p.1) is }
          where
            at_first : (i : ℕ) → i ≡ i + 0
            at_first i = omega arith

-- The link of an allowed rule is kept.
pub kept-listed : (allowed : List Bool) (i : ℕ) (rules : List Rule) (a b k : ℕ) (r : Rule) → slice_get rules k ≡ Some r → get_or allowed (i + k) false ≡ true → r.source ≡ a → r.target ≡ b
    → Contains (kept_links allowed i (map ends_of rules)) (a, b)
kept-listed allowed i [] a b k r numbered ok source target = absurd (none_some numbered)
  where
    none_some : None ≡ Some r → ⊥
    none_some x = cc
kept-listed allowed i (q ∷ rules) a b zero r numbered ok source target =
    let same : q ≡ r = cc in
    let flag : get_or allowed i false ≡ true = subst (λ (x : ℕ). get_or allowed x false ≡ true) (at_first i) ok in
    rw flag (zero, omega arith, same_pair (ends_of q) a b (ap (λ (s : Rule). s.source) same ∙ source) (ap (λ (s : Rule). s.target) same ∙ target))
  where
    at_first : (i : ℕ) → i + 0 ≡ i
    at_first i = omega arith
kept-listed allowed i (q ∷ rules) a b (suc k) r numbered ok source target =
    go (get_or allowed i false) refl (kept-listed allowed (suc i) rules a b k r numbered (subst (λ (x : ℕ). get_or allowed x false ≡ true) (moved i k) ok) source target)
  where
    moved : (i j : ℕ) → i + suc j ≡ suc i + j
    moved i j = omega arith

    go : (v : Bool) → get_or allowed i false ≡ v → Contains (kept_links allowed (suc i) (map ends_of rules)) (a, b) → Contains (kept_links allowed i (map ends_of (q ∷ rules))) (a, b)
    go true e h = rw e (pair-later (ends_of q) (kept_links allowed (suc i) (map ends_of rules)) (a, b) h)
    go false e h = rw e h

-- The kept links are the edges by allowed rules.
pub kept-edges : (p : Program) (allowed : List Bool) (a b : ℕ) → IsPair (kept_links allowed 1 (map ends_of p.rules)) a b ↔ HasEdge p (flagged allowed) a b
kept-edges p allowed a b = (λ h. from (kept-from allowed 1 p.rules a b h), λ e. into e.number e.rule e.numbered e.allowed e.source e.target)
  where
    from : KeptBy allowed 1 p.rules a b → HasEdge p (flagged allowed) a b
    from k = record { number = suc k.position; rule = k.rule; numbered = k.numbered; allowed = subst (λ (x : ℕ). get_or allowed x false ≡ true) (next k.position) k.allowed_rule; source = k.source; target = k.target }
      where
        next : (j : ℕ) → 1 + j ≡ suc j
        next j = omega arith

    into : (t : ℕ) (r : Rule) → rule_at p t ≡ Some r → get_or allowed t false ≡ true → r.source ≡ a → r.target ≡ b → IsPair (kept_links allowed 1 (map ends_of p.rules)) a b
    into zero r numbered ok source target = absurd (none_some numbered)
      where
        none_some : None ≡ Some r → ⊥
        none_some x = cc
    into (suc t) r numbered ok source target = kept-listed allowed 1 p.rules a b t r numbered (subst (λ (x : ℕ). get_or allowed x false ≡ true) (next t) ok) source target
      where
        next : (j : ℕ) → suc j ≡ 1 + j
        next j = omega arith

-- The ends of kept links are below n.
pub kept-within : (n : ℕ) (allowed : List Bool) (i : ℕ) (links : List Pair) → All (λ (e : Pair). (e.0 < n) × (e.1 < n)) links → All (λ (e : Pair). (e.0 < n) × (e.1 < n)) (kept_links allowed i links)
kept-within n allowed i [] h = All-nil (λ (e : Pair). (e.0 < n) × (e.1 < n))
kept-within n allowed i (l ∷ links) h = go (get_or allowed i false) refl (kept-within n allowed (suc i) links (λ k d low. h (suc k) d (omega arith)))
  where
    P : Pair → Type 0
    P e = (e.0 < n) × (e.1 < n)

    go : (v : Bool) → get_or allowed i false ≡ v → All (λ (e : Pair). (e.0 < n) × (e.1 < n)) (kept_links allowed (suc i) links) → All (λ (e : Pair). (e.0 < n) × (e.1 < n)) (kept_links allowed i (l ∷ links))
    go true e rest = rw e (All-cons (λ (e : Pair). (e.0 < n) × (e.1 < n)) l (kept_links allowed (suc i) links) (h 0 l (omega arith)) rest)
    go false e rest = rw e rest

-- Making flags false keeps their number.
cut-past : (cut : List ℕ) (flags : List Bool) → length (all_cut cut flags) ≡ length flags
cut-past [] flags = refl
cut-past (t ∷ cut) flags = cut-past cut (set flags t false) ∙ length-set flags t false

-- A flag is true after some are made false if it was and its number isn't among those.
pub cut-flag : (cut : List ℕ) (flags : List Bool) (t : ℕ) → get_or (all_cut cut flags) t false ≡ (get_or flags t false && none_of cut t)
cut-flag [] flags t = sym (and_true (get_or flags t false))
  where
    and_true : (v : Bool) → (v && true) ≡ v
    and_true true = refl
    and_true false = refl
cut-flag (x ∷ cut) flags t = go (decided t x) (cut-flag cut (set flags x false) t)
  where
    go : Decided t x → get_or (all_cut cut (set flags x false)) t false ≡ (get_or (set flags x false) t false && none_of cut t) → get_or (all_cut cut (set flags x false)) t false ≡ (get_or flags t false && none_of (x ∷ cut) t)
    go (inr (test, other)) ih = ih ∙ rw (get_or-set_other flags x t false false other) (rw test refl)
    go (inl (test, same)) ih = ih ∙ (ap (λ (v : Bool). v && none_of cut t) (cut_here (cases_lt t (length flags))) ∙ sym (rw test (and_false (get_or flags t false))))
      where
        and_false : (v : Bool) → (v && false) ≡ false
        and_false true = refl
        and_false false = refl

        cut_here : (t < length flags) ⊎ (length flags ≤ t) → get_or (set flags x false) t false ≡ false
        cut_here (inl low) = ap (λ (y : ℕ). get_or (set flags y false) t false) (sym same) ∙ get_or-set_same flags t false false low
        cut_here (inr high) = get_or_past (set flags x false) t false (omega (arith, length-set flags x false))

-- Tests that agree at the rules of a program allow the same edges.
pub same-edges : (p : Program) (f g : ℕ → Bool) → ((t : ℕ) (r : Rule) → rule_at p t ≡ Some r → f t ≡ g t) → (a b : ℕ) → HasEdge p f a b ↔ HasEdge p g a b
same-edges p f g same a b = (
  λ e. record { number = e.number; rule = e.rule; numbered = e.numbered; allowed = sym (same e.number e.rule e.numbered) ∙ e.allowed; source = e.source; target = e.target },
  λ e. record { number = e.number; rule = e.rule; numbered = e.numbered; allowed = same e.number e.rule e.numbered ∙ e.allowed; source = e.source; target = e.target },
)

-- At the rules, the flags left true are those of the rules that aren't cut.
pub uncut-flags : (p : Program) (n : ℕ) (cut : List ℕ) → length p.rules ≡ n → (t : ℕ) (r : Rule) → rule_at p t ≡ Some r → flagged (all_cut cut (replicate (suc n) true)) t ≡ none_of cut t
uncut-flags p n cut size zero r h = absurd (none_some h)
  where
    none_some : None ≡ Some r → ⊥
    none_some x = cc
uncut-flags p n cut size (suc t) r h =
    let low : t < length p.rules = slice_get_within p.rules t r h in
    cut-flag cut (replicate (suc n) true) (suc t) ∙ ap (λ (v : Bool). v && none_of cut (suc t)) (get_or-replicate (suc n) (suc t) true false (omega (arith, low, size)))

-- There is a flag for each rule and one for the virtual entry.
pub uncut-size : (n : ℕ) (cut : List ℕ) → length (all_cut cut (replicate (suc n) true)) ≡ suc n
uncut-size n cut = cut-past cut (replicate (suc n) true) ∙ length-replicate (suc n) true

-- The edges of a table of kept links are those by allowed rules.
pub kept-table : (g : Graph) (p : Program) → IsGraphOf g p → (allowed : List Bool) (lists : List (Vec ℕ Global)) → ((a : ℕ) → values_in lists a ≡ values_of (kept_links allowed 1 g.links.items) a)
    → (a b : ℕ) → Joins lists a b ↔ HasEdge p (flagged allowed) a b
kept-table g p h allowed lists values a b =
    let joins = joins-pairs lists (kept_links allowed 1 g.links.items) values a b in
    let same : kept_links allowed 1 g.links.items ≡ kept_links allowed 1 (map ends_of p.rules) = ap (λ (xs : List Pair). kept_links allowed 1 xs) h.links in
    let edges = kept-edges p allowed a b in
    (λ j. edges.0 (subst (λ (xs : List Pair). IsPair xs a b) same (joins.0 j)), λ e. joins.1 (subst (λ (xs : List Pair). IsPair xs a b) (sym same) (edges.1 e)))

-- The edges of a table of reversed kept links are those by allowed rules, reversed.
pub turned-table : (g : Graph) (p : Program) → IsGraphOf g p → (allowed : List Bool) (lists : List (Vec ℕ Global)) → ((a : ℕ) → values_in lists a ≡ values_of (map swap (kept_links allowed 1 g.links.items)) a)
    → (a b : ℕ) → Joins lists a b ↔ HasEdge p (flagged allowed) b a
turned-table g p h allowed lists values a b =
    let joins = joins-pairs lists (map swap (kept_links allowed 1 g.links.items)) values a b in
    let same : kept_links allowed 1 g.links.items ≡ kept_links allowed 1 (map ends_of p.rules) = ap (λ (xs : List Pair). kept_links allowed 1 xs) h.links in
    let edges = kept-edges p allowed b a in (
      λ j. edges.0 (subst (λ (xs : List Pair). IsPair xs b a) same (swap-from (kept_links allowed 1 g.links.items) b a (joins.0 j))),
      λ e. joins.1 (swap-listed (kept_links allowed 1 g.links.items) b a (subst (λ (xs : List Pair). IsPair xs b a) (sym same) (edges.1 e))),
    )

-- The values of a table of kept links are below n.
pub kept-values : (n : ℕ) (links : List Pair) (lists : List (Vec ℕ Global)) → All (λ (e : Pair). (e.0 < n) × (e.1 < n)) links → ((a : ℕ) → values_in lists a ≡ values_of links a) → (a : ℕ) → All (λ b. b < n) (values_in lists a)
kept-values n links lists within values a =
    All-from_get_or (λ (b : ℕ). b < n) (values_in lists a) 0
    (λ i low. (pair-within n links a (get_or (values_in lists a) i 0) within ((joins-pairs lists links values a (get_or (values_in lists a) i 0)).0 (Contains-get_or (values_in lists a) i 0 low))).1)

-- Reversed pairs of numbers below n are such pairs.
pub swap-within : (n : ℕ) (links : List Pair) → All (λ (e : Pair). (e.0 < n) × (e.1 < n)) links → All (λ (e : Pair). (e.0 < n) × (e.1 < n)) (map swap links)
swap-within n links h = All-map (λ (e : Pair). (e.0 < n) × (e.1 < n)) swap links (All-weaker (λ (e : Pair). (e.0 < n) × (e.1 < n)) (λ (e : Pair). (e.1 < n) × (e.0 < n)) (λ e k. (k.1, k.0)) links h)
