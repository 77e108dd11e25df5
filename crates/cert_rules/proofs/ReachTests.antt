-- As many rounds as there are rules find all symbols that are reached.
use Rattle.std.proofs.Common.{◌≡◌, ◌⊎◌, inl, inr, ℕ, zero, suc, ◌≤◌, ◌==◌, ◌&&◌, not, Bool, true, false, cond, List, []}
use Rattle.std.proofs.Common.{◌∷◌, length, filter, filter_map, Option, Some, None, refl, sym, ap, ◌∙◌, subst, arith}
use Rattle.std.specs.Bool.{Decides}
use Rattle.std.specs.List.{list_any, range_with_len}
use Rattle.std.proofs.lemmas.Bool.{and_parts, and_from, not_from_false, false_from_ne_true, or_left}
use Rattle.std.proofs.lemmas.List.FromFn.{length-range_with_len}
use Rattle.run_counting.specs.model.Programs.{Program, Rule, rule_at}
use Rattle.run_counting.specs.model.Paths.{Here, Onward, IsReached, source_in, source_of, target_of, entry_and_rules}
use Rattle.run_counting.specs.model.Entries.{is_in}
use Rattle.run_counting.proofs.model.Membership.{same_number, no_is_not_yes, is_in-cases, is_in-filter, filter-in}
use Rattle.run_counting.proofs.model.Membership.{list_any-from}
use Rattle.run_counting.proofs.model.Membership.{list_any-sound, rule_is_numbered}
use Rattle.run_counting.proofs.model.StepLaws.{source_of-rule, target_of-rule}
use Rattle.cert_rules.specs.AcceptsPlain.{IsUnreached}
use Rattle.cert_rules.specs.ReachTests.{is_among, leaves, one_round, reached_in, is_unreached}
use Rattle.cert_rules.proofs.NumberLists.{in-left, in-right, in-either, image-sound, image-in, all-passing}
use Rattle.cert_rules.proofs.NumberLists.{passing-one_more}

module _ (p : Program) (is_allowed : ℕ → Bool) where
  -- the symbols that are found in n rounds
  abbrev seen : ℕ → List ℕ
  seen n = reached_in p is_allowed n

  -- if the source of a rule is one of these symbols, its target is the symbol that the rule leads to
  from-rule : (symbols : List ℕ) (t a : ℕ) → is_among (source_of p t) symbols ≡ true → target_of p t ≡ Some a
      → (r : Rule) × (rule_at p t ≡ Some r) × (is_in r.source symbols ≡ true) × (r.target ≡ a)
  from-rule symbols t a h e = go (rule_at p t) refl h
    where
      go : (o : Option Rule) → rule_at p t ≡ o → is_among (source_in o) symbols ≡ true
          → (r : Rule) × (rule_at p t ≡ Some r) × (is_in r.source symbols ≡ true) × (r.target ≡ a)
      go None f k = absurd (no_is_not_yes false refl k)
      go (Some r) f k = (r, f, k, same (sym (target_of-rule p t r f) ∙ e))
        where
          same : Some r.target ≡ Some a → r.target ≡ a
          same g = cc

  -- a symbol that a round adds is the target of an allowed rule that leaves one of those before
  round-told : (symbols : List ℕ) (a : ℕ) → is_in a (one_round p is_allowed symbols) ≡ true
      → (is_in a symbols ≡ true)
      ⊎ ((t : ℕ) × (r : Rule) × (rule_at p t ≡ Some r) × (is_allowed t ≡ true) × (is_in r.source symbols ≡ true)
      × (r.target ≡ a))
  round-told symbols a h = go (in-either symbols _ a h)
    where
      go : (is_in a symbols ≡ true)
          ⊎ (is_in a (filter_map (target_of p) (filter (leaves p is_allowed symbols) (entry_and_rules p))) ≡ true)
          → (is_in a symbols ≡ true)
          ⊎ ((t : ℕ) × (r : Rule) × (rule_at p t ≡ Some r) × (is_allowed t ≡ true) × (is_in r.source symbols ≡ true)
          × (r.target ≡ a))
      go (inl k) = inl k
      go (inr k) =
          let i = image-sound (target_of p) (filter (leaves p is_allowed symbols) (entry_and_rules p)) a k in
          let j = filter-in (leaves p is_allowed symbols) (entry_and_rules p) i.0 i.1 in
          let l = and_parts (is_allowed i.0) (is_among (source_of p i.0) symbols) j.1 in
          let r = from-rule symbols i.0 a l.1 i.2 in inr (i.0, r.0, r.1, l.0, r.2, r.3)

  -- the target of an allowed rule that leaves one of the symbols is added in a round
  round-adds : (symbols : List ℕ) (t : ℕ) (r : Rule) → rule_at p t ≡ Some r → is_allowed t ≡ true
      → is_in r.source symbols ≡ true → is_in r.target (one_round p is_allowed symbols) ≡ true
  round-adds symbols t r e allowed h =
      in-right symbols _ r.target
      (image-in (target_of p) (filter (leaves p is_allowed symbols) (entry_and_rules p)) r.target t
      (is_in-filter (leaves p is_allowed symbols) (entry_and_rules p) t (rule_is_numbered p t r e)
      (and_from (is_allowed t) (is_among (source_of p t) symbols) allowed
      (subst (λ (o : Option ℕ). is_among o symbols ≡ true) (sym (source_of-rule p t r e)) h)))
      (target_of-rule p t r e))

  -- the symbols that are found in any number of rounds are reached
  rounds-reach : (n a : ℕ) → is_in a (seen n) ≡ true → IsReached p is_allowed a
  rounds-reach zero a h = go (is_in-cases a p.start [] h)
    where
      go : (a ≡ p.start) ⊎ (is_in a [] ≡ true) → IsReached p is_allowed a
      go (inl e) = Here (sym e)
      go (inr k) = absurd (no_is_not_yes false refl k)
  rounds-reach (suc n) a h = go (round-told (seen n) a h) (rounds-reach n)
    where
      go : (is_in a (seen n) ≡ true)
          ⊎ ((t : ℕ) × (r : Rule) × (rule_at p t ≡ Some r) × (is_allowed t ≡ true) × (is_in r.source (seen n) ≡ true)
          × (r.target ≡ a))
          → ((b : ℕ) → is_in b (seen n) ≡ true → IsReached p is_allowed b) → IsReached p is_allowed a
      go (inl k) ih = ih a k
      go (inr (t, r, numbered, allowed, source, target)) ih =
          Onward (ih r.source source) (record {
            number = t;
            rule = r;
            numbered = numbered;
            allowed = allowed;
            source = refl;
            target = target;
          })

  -- no allowed rule leads from these symbols to another
  abbrev IsClosed : List ℕ → Type 0
  IsClosed symbols = (t : ℕ) (r : Rule) → rule_at p t ≡ Some r → is_allowed t ≡ true → is_in r.source symbols ≡ true
      → is_in r.target symbols ≡ true

  -- if symbols are closed and contain the start symbol, all reached symbols are among them
  closed-reached : (symbols : List ℕ) → IsClosed symbols → is_in p.start symbols ≡ true → (a : ℕ)
      → IsReached p is_allowed a → is_in a symbols ≡ true
  closed-reached symbols closed start a (Here e) = subst (λ (b : ℕ). is_in b symbols ≡ true) e start
  closed-reached symbols closed start a (Onward {b = b} before edge) =
      subst (λ (c : ℕ). is_in c symbols ≡ true) edge.target
      (closed edge.number edge.rule edge.numbered edge.allowed
      (subst (λ (c : ℕ). is_in c symbols ≡ true) (sym edge.source) (closed-reached symbols closed start b before)))

  -- a round adds no symbol to closed ones
  closed-round : (symbols : List ℕ) → IsClosed symbols → IsClosed (one_round p is_allowed symbols)
  closed-round symbols closed t r e allowed h =
      in-left symbols _ r.target (closed t r e allowed (old (round-told symbols r.source h)))
    where
      old : (is_in r.source symbols ≡ true)
          ⊎ ((u : ℕ) × (q : Rule) × (rule_at p u ≡ Some q) × (is_allowed u ≡ true) × (is_in q.source symbols ≡ true)
          × (q.target ≡ r.source))
          → is_in r.source symbols ≡ true
      old (inl k) = k
      old (inr (u, q, numbered, ok, source, target)) =
          subst (λ (b : ℕ). is_in b symbols ≡ true) target (closed u q numbered ok source)

  -- rule t, or the virtual entry, leads to one of these symbols
  abbrev leads_to : List ℕ → ℕ → Bool
  leads_to symbols t = is_among (target_of p t) symbols

  leads-more : (symbols : List ℕ) (t : ℕ) → leads_to symbols t ≡ true → leads_to (one_round p is_allowed symbols) t ≡ true
  leads-more symbols t h = go (target_of p t) h
    where
      go : (o : Option ℕ) → is_among o symbols ≡ true → is_among o (one_round p is_allowed symbols) ≡ true
      go None k = absurd (no_is_not_yes false refl k)
      go (Some a) k = in-left symbols _ a k

  -- an allowed rule leads from these symbols to another
  abbrev leads_out : List ℕ → ℕ → Bool
  leads_out symbols t = leaves p is_allowed symbols t && not (leads_to symbols t)

  -- either these symbols are closed, or a round makes one more rule lead to one of them
  round-gains : (symbols : List ℕ)
      → IsClosed symbols
      ⊎ (suc (length (filter (leads_to symbols) (entry_and_rules p)))
      ≤ length (filter (leads_to (one_round p is_allowed symbols)) (entry_and_rules p)))
  round-gains symbols = go (list_any (leads_out symbols) (entry_and_rules p)) refl
    where
      go : (v : Bool) → list_any (leads_out symbols) (entry_and_rules p) ≡ v
          → IsClosed symbols
          ⊎ (suc (length (filter (leads_to symbols) (entry_and_rules p)))
          ≤ length (filter (leads_to (one_round p is_allowed symbols)) (entry_and_rules p)))
      go true e =
          let w = list_any-sound (leads_out symbols) (entry_and_rules p) e in
          let k = and_parts (leaves p is_allowed symbols w.0) (not (leads_to symbols w.0)) w.2 in
          let l = and_parts (is_allowed w.0) (is_among (source_of p w.0) symbols) k.0 in
          inr
          (passing-one_more (leads_to symbols) (leads_to (one_round p is_allowed symbols)) (leads-more symbols)
          (entry_and_rules p) w.0 w.1 (none w.0 k.1) (gained w.0 l.0 l.1))
        where
          none : (t : ℕ) → not (leads_to symbols t) ≡ true → leads_to symbols t ≡ false
          none t h =
              false_from_ne_true (leads_to symbols t)
              (λ m. no_is_not_yes (not (leads_to symbols t)) (ap not m) h)

          gained : (t : ℕ) → is_allowed t ≡ true → is_among (source_of p t) symbols ≡ true
              → leads_to (one_round p is_allowed symbols) t ≡ true
          gained t allowed h = by (rule_at p t) refl h
            where
              by : (o : Option Rule) → rule_at p t ≡ o → is_among (source_in o) symbols ≡ true
                  → leads_to (one_round p is_allowed symbols) t ≡ true
              by None f m = absurd (no_is_not_yes false refl m)
              by (Some r) f m =
                  subst (λ (o : Option ℕ). is_among o (one_round p is_allowed symbols) ≡ true)
                  (sym (target_of-rule p t r f)) (round-adds symbols t r f allowed m)
      go false e = inl (λ t r f allowed h. by t r f allowed h (is_in r.target symbols) refl)
        where
          by : (t : ℕ) (r : Rule) → rule_at p t ≡ Some r → is_allowed t ≡ true → is_in r.source symbols ≡ true
              → (v : Bool) → is_in r.target symbols ≡ v → v ≡ true
          by t r f allowed h true i = refl
          by t r f allowed h false i =
              absurd
              (no_is_not_yes (list_any (leads_out symbols) (entry_and_rules p)) e
              (list_any-from (leads_out symbols) (entry_and_rules p) t (rule_is_numbered p t r f)
              (and_from (leaves p is_allowed symbols t) (not (leads_to symbols t))
              (and_from (is_allowed t) (is_among (source_of p t) symbols) allowed
              (subst (λ (o : Option ℕ). is_among o symbols ≡ true) (sym (source_of-rule p t r f)) h))
              (not_from_false (leads_to symbols t)
              (subst (λ (o : Option ℕ). is_among o symbols ≡ false) (sym (target_of-rule p t r f)) i)))))

  -- the start symbol is among the symbols of any number of rounds
  start-seen : (n : ℕ) → is_in p.start (seen n) ≡ true
  start-seen zero = or_left (p.start == p.start) false (same_number p.start)
  start-seen (suc n) = in-left (seen n) _ p.start (start-seen n)

  -- after n rounds the symbols are closed, or more than n rules, with the virtual entry, lead to them
  rounds-gain : (n : ℕ) → IsClosed (seen n) ⊎ (suc n ≤ length (filter (leads_to (seen n)) (entry_and_rules p)))
  rounds-gain zero = inr (go (leads_to (seen 0) 0) (start-seen 0))
    where
      go : (v : Bool) → v ≡ true
          → 1 ≤ length (cond v (0 ∷ filter (leads_to (seen 0)) (range_with_len 1 (length p.rules)))
          (filter (leads_to (seen 0)) (range_with_len 1 (length p.rules))))
      go true e = omega arith
      go false e = absurd (no_is_not_yes false refl e)
  rounds-gain (suc n) = go (rounds-gain n) (round-gains (seen n))
    where
      go : IsClosed (seen n) ⊎ (suc n ≤ length (filter (leads_to (seen n)) (entry_and_rules p)))
          → IsClosed (seen n)
          ⊎ (suc (length (filter (leads_to (seen n)) (entry_and_rules p)))
          ≤ length (filter (leads_to (seen (suc n))) (entry_and_rules p)))
          → IsClosed (seen (suc n)) ⊎ (suc (suc n) ≤ length (filter (leads_to (seen (suc n))) (entry_and_rules p)))
      go (inl closed) later = inl (closed-round (seen n) closed)
      go (inr k) (inl closed) = inl (closed-round (seen n) closed)
      go (inr k) (inr l) = inr (omega (arith, k, l))

  -- after as many rounds as there are rules the symbols are closed
  rounds-close : IsClosed (seen (length p.rules))
  rounds-close = go (rounds-gain (length p.rules))
    where
      go : IsClosed (seen (length p.rules))
          ⊎ (suc (length p.rules) ≤ length (filter (leads_to (seen (length p.rules))) (entry_and_rules p)))
          → IsClosed (seen (length p.rules))
      go (inl closed) = closed
      go (inr k) =
          λ t r e allowed h. subst (λ (o : Option ℕ). is_among o (seen (length p.rules)) ≡ true) (target_of-rule p t r e)
          (all-passing (leads_to (seen (length p.rules))) (entry_and_rules p)
          (omega (arith, k, length-range_with_len 0 (suc (length p.rules)))) t (rule_is_numbered p t r e))

  -- the test whether a rule isn't reached is right
  pub decides-unreached : (t : ℕ) → Decides (is_unreached p is_allowed t) (IsUnreached p is_allowed t)
  decides-unreached t = (
    (λ e r f reached. no_is_not_yes (not (is_among (source_of p t) (seen (length p.rules))))
        (ap not
        (subst (λ (o : Option ℕ). is_among o (seen (length p.rules)) ≡ true) (sym (source_of-rule p t r f))
        (closed-reached (seen (length p.rules)) rounds-close (start-seen (length p.rules)) r.source reached))) e),
    (λ h. not_from_false (is_among (source_of p t) (seen (length p.rules)))
        (false_from_ne_true (is_among (source_of p t) (seen (length p.rules))) (λ k. go h (rule_at p t) refl k))),
  )
    where
      go : IsUnreached p is_allowed t → (o : Option Rule) → rule_at p t ≡ o
          → is_among (source_in o) (seen (length p.rules)) ≡ true → ⊥
      go h None f k = no_is_not_yes false refl k
      go h (Some r) f k = h r f (rounds-reach (length p.rules) r.source k)
