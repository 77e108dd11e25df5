-- The rules that lead to a symbol, and the ends of rules.
use Rattle.std.proofs.Common.{◌≡◌, ℕ, zero, suc, ◌+◌, ◌-◌, ◌<◌, ◌≤◌, List, [], ◌∷◌, length, map, filter, Option, Some}
use Rattle.std.proofs.Common.{Bool, true, false, ◌==◌, get_or, refl, sym, ◌∙◌, ap, subst, arith}
use Rattle.std.specs.Prelude.{slice_get}
use Rattle.std.specs.List.{All, range_with_len}
use Rattle.std.proofs.lemmas.Option.{slice_get-get_or}
use Rattle.std.proofs.lemmas.List.{get_or-map, length-map}
use Rattle.std.proofs.lemmas.List.Elements.{All-nil, All-cons}
use Rattle.model.specs.Programs.{Program, Rule, rule_at}
use Rattle.model.specs.Paths.{target_in, target_of, source_of, same_symbol, entry_and_rules, pre}
use Rattle.its_graph.specs.Groups.{values_of}
use Rattle.its_model.specs.declared.program.Rule as code
use Rattle.its_model.specs.Views.{rule_of}
use Rattle.its_graph.specs.Links.{ends_of, LeadBelow, arrivals_from, arrivals}
use Rattle.its_graph.specs.declared.graph.Graph.{Graph}
use Rattle.its_graph.specs.Graphs.{IsGraphOf}
use Rattle.its_graph.proofs.PairLists.{Pair}

-- The arrivals at a symbol are the rules that lead to it.
arrivals-filter : (f : ℕ → Option ℕ) (s i : ℕ) (rules : List Rule) → ((k : ℕ) (r : Rule) → slice_get rules k ≡ Some r → f (i + k) ≡ Some r.target)
    → values_of (arrivals_from i (map ends_of rules)) s ≡ filter (λ e. same_symbol (f e) (Some s)) (range_with_len i (length rules))
arrivals-filter f s i [] h = refl
arrivals-filter f s i (r ∷ rules) h = go (r.target == s) refl (arrivals-filter f s (suc i) rules (λ k q e. ap f (moved k) ∙ h (suc k) q e))
  where
    moved : (k : ℕ) → suc i + k ≡ i + suc k
    moved k = omega arith

    here : f i ≡ Some r.target
    here = ap f (at_first i) ∙ h 0 r refl
      where
        at_first : (i : ℕ) → i ≡ i + 0
        at_first i = omega arith

    next : range_with_len (i + 1) (length rules) ≡ range_with_len (suc i) (length rules)
    next = ap (λ (x : ℕ). range_with_len x (length rules)) (one i)
      where
        one : (i : ℕ) → i + 1 ≡ suc i
        one i = omega arith

    go : (v : Bool) → (r.target == s) ≡ v → values_of (arrivals_from (suc i) (map ends_of rules)) s ≡ filter (λ e. same_symbol (f e) (Some s)) (range_with_len (suc i) (length rules))
        → values_of (arrivals_from i (map ends_of (r ∷ rules))) s ≡ filter (λ e. same_symbol (f e) (Some s)) (range_with_len i (length (r ∷ rules)))
    go true e ih = rw (here, next) (rw e (ap (λ (xs : List ℕ). i ∷ xs) ih))
    go false e ih = rw (here, next) (rw e ih)

-- The arrivals at a rule's source are the rules that can come just before it.
pub arrivals-pre : (p : Program) (t s : ℕ) → source_of p t ≡ Some s → values_of (arrivals p.start (map ends_of p.rules)) s ≡ pre p t
arrivals-pre p t s source =
    go (p.start == s) refl (arrivals-filter (target_of p) s 1 p.rules (λ k r e. ap (target_of p) (next k) ∙ ap target_in e))
    ∙ ap (λ (o : Option ℕ). filter (λ e. same_symbol (target_of p e) o) (entry_and_rules p)) (sym source)
  where
    next : (k : ℕ) → 1 + k ≡ suc k
    next k = omega arith

    go : (v : Bool) → (p.start == s) ≡ v → values_of (arrivals_from 1 (map ends_of p.rules)) s ≡ filter (λ e. same_symbol (target_of p e) (Some s)) (range_with_len 1 (length p.rules))
        → values_of (arrivals p.start (map ends_of p.rules)) s ≡ filter (λ e. same_symbol (target_of p e) (Some s)) (entry_and_rules p)
    go true e ih = rw e (ap (λ (xs : List ℕ). 0 ∷ xs) ih)
    go false e ih = rw e ih

-- The keys of arrivals are symbols.
pub arrivals-within : (n start : ℕ) (links : List Pair) → start < n → All (λ (e : Pair). (e.0 < n) × (e.1 < n)) links → All (λ (e : Pair). e.0 < n) (arrivals start links)
arrivals-within n start links low h = let first : Pair = (start, 0) in All-cons (λ (e : Pair). e.0 < n) first (arrivals_from 1 links) low (rest 1 links h)
  where
    rest : (i : ℕ) (links : List Pair) → All (λ (e : Pair). (e.0 < n) × (e.1 < n)) links → All (λ (e : Pair). e.0 < n) (arrivals_from i links)
    rest i [] h = All-nil (λ (e : Pair). e.0 < n)
    rest i (l ∷ links) h = let first : Pair = (l.1, i) in All-cons (λ (e : Pair). e.0 < n) first (arrivals_from (suc i) links) (h 0 l (omega arith)).1 (rest (suc i) links (λ k d lower. h (suc k) d (omega arith)))

-- The symbols of rules as plain data are below a number if those of the code's rules are.
pub below-symbols : (n : ℕ) (rules : List code.Rule) → All (λ (r : Rule). (r.source < n) × (r.target < n)) (map rule_of rules) → LeadBelow n rules
below-symbols n rules h k d low = subst (λ (r : Rule). (r.source < n) × (r.target < n)) (get_or-map rule_of rules k d (rule_of d) low) (h k (rule_of d) (omega (arith, length-map rules rule_of)))

-- The rule with a number has the ends of its link.
pub rule-at-link : (p : Program) (links : List Pair) (t : ℕ) (link : Pair) → links ≡ map ends_of p.rules → 0 < t → t ≤ length links → link ≡ get_or links (t - 1) link
    → (r : Rule) × (rule_at p t ≡ Some r) × (ends_of r ≡ link)
rule-at-link p links zero link same pos low at = absurd (omega arith)
rule-at-link p links (suc k) link same pos low at = go p.rules refl
  where
    go : (rules : List Rule) → p.rules ≡ rules → (r : Rule) × (slice_get p.rules k ≡ Some r) × (ends_of r ≡ link)
    go [] e = absurd (omega (arith, ap length (same ∙ ap (λ (rs : List Rule). map ends_of rs) e)))
    go (q ∷ rest) e =
        let in_rules : k < length p.rules = omega (arith, ap length same, length-map p.rules ends_of) in
        let back : suc k - 1 ≡ k = omega arith in
        let r = get_or p.rules k q in (
          r,
          slice_get-get_or p.rules k q in_rules,
          sym (at ∙ (ap (λ (i : ℕ). get_or links i link) back ∙ (ap (λ (xs : List Pair). get_or xs k link) same ∙ get_or-map ends_of p.rules k q link in_rules))),
        )

-- The source of a rule is a symbol of the graph.
pub symbol-within : (g : Graph) (p : Program) → IsGraphOf g p → (t : ℕ) (link : Pair) → 0 < t → t ≤ length g.links.items → link ≡ get_or g.links.items (t - 1) link → link.0 < length g.arriving.items
symbol-within g p h t link pos low at =
    let within : (link.0 < g.symbols) × (link.1 < g.symbols) = subst (λ (e : Pair). (e.0 < g.symbols) × (e.1 < g.symbols)) (sym at) (h.links_within (t - 1) link (omega arith)) in
    omega (arith, within.0, h.size)
