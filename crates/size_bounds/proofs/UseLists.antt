-- The premises of nodes, one more at a time.
use Rattle.std.proofs.Common.{◌≡◌, ℕ, ◌==◌, ◌||◌, Bool, not, true, false, cond, List, [], ◌∷◌, ◌++◌, map, filter, refl}
use Rattle.std.proofs.Common.{sym, ◌∙◌, ap}
use Rattle.std.proofs.lemmas.List.{append-nil}
use Rattle.model.specs.Entries.{is_in}
use Rattle.cert_types.specs.cert_rules.Nodes.{Proofs, Cite, AndProof}
use Rattle.cert_types.specs.Views.{uses_of}
use Rattle.cert_types.proofs.NumberSets.{bool_same}
use Rattle.bound_fixpoint.specs.Needs.{once, cites}
use Rattle.bound_fixpoint.proofs.CitedFacts.{in-once, once-in}
use Rattle.size_bounds.specs.Lemmas.{with_other}

-- citations as premises, in plain data
pub cites_seen : (ns : List ℕ) → uses_of (map (λ n. Cite n) ns) ≡ cites ns
cites_seen [] = refl
cites_seen (n ∷ ns) = ap (λ (us : Proofs). AndProof (Cite n) us) (cites_seen ns)

-- filtering a list with a number appended keeps the number exactly if it passes the test
pub filter-append : (test : ℕ → Bool) (xs : List ℕ) (x : ℕ) → filter test (xs ++ x ∷ []) ≡ filter test xs ++ cond (test x) (x ∷ []) []
filter-append test [] x = go (test x) refl
  where
    go : (v : Bool) → test x ≡ v → filter test (x ∷ []) ≡ cond (test x) (x ∷ []) []
    go true e = rw e refl
    go false e = rw e refl
filter-append test (y ∷ xs) x = go (test y) refl (filter-append test xs x)
  where
    go : (w : Bool) → test y ≡ w → filter test (xs ++ x ∷ []) ≡ filter test xs ++ cond (test x) (x ∷ []) []
        → filter test (y ∷ (xs ++ x ∷ [])) ≡ filter test (y ∷ xs) ++ cond (test x) (x ∷ []) []
    go true k h = rw k (ap (λ (zs : List ℕ). y ∷ zs) h)
    go false k h = rw k h

-- each number once, for a list with a number appended
once-append : (xs : List ℕ) (n : ℕ) → once (xs ++ n ∷ []) ≡ cond (is_in n xs) (once xs) (once xs ++ n ∷ [])
once-append [] n = refl
once-append (m ∷ xs) n = go (n == m) refl (is_in n xs) refl (once-append xs n)
  where
    go : (v : Bool) → (n == m) ≡ v → (w : Bool) → is_in n xs ≡ w → once (xs ++ n ∷ []) ≡ cond (is_in n xs) (once xs) (once xs ++ n ∷ [])
        → once (m ∷ (xs ++ n ∷ [])) ≡ cond (is_in n (m ∷ xs)) (once (m ∷ xs)) (once (m ∷ xs) ++ n ∷ [])
    go v e true k ih = rw (k, or_true (n == m)) (ap (λ (zs : List ℕ). m ∷ filter (λ i. not (i == m)) zs) (rw k at ih))
      where
        or_true : (u : Bool) → (u || true) ≡ true
        or_true true = refl
        or_true false = refl
    go true e false k ih =
        rw e (ap (λ (zs : List ℕ). m ∷ filter (λ i. not (i == m)) zs) (rw k at ih)
        ∙ ap (λ (zs : List ℕ). m ∷ zs) (kept_out ∙ append-nil (filter (λ i. not (i == m)) (once xs))))
      where
        kept_out : filter (λ i. not (i == m)) (once xs ++ n ∷ []) ≡ filter (λ i. not (i == m)) (once xs) ++ []
        kept_out =
            filter-append (λ i. not (i == m)) (once xs) n
            ∙ ap (λ (u : Bool). filter (λ i. not (i == m)) (once xs) ++ cond (not u) (n ∷ []) []) e
    go false e false k ih =
        rw (e, k) (ap (λ (zs : List ℕ). m ∷ filter (λ i. not (i == m)) zs) (rw k at ih)
        ∙ ap (λ (zs : List ℕ). m ∷ zs) kept_in)
      where
        kept_in : filter (λ i. not (i == m)) (once xs ++ n ∷ []) ≡ filter (λ i. not (i == m)) (once xs) ++ n ∷ []
        kept_in =
            filter-append (λ i. not (i == m)) (once xs) n
            ∙ ap (λ (u : Bool). filter (λ i. not (i == m)) (once xs) ++ cond (not u) (n ∷ []) []) e

-- the lemmas other than 0, each once, for a list with a lemma appended
pub others-append : (xs : List ℕ) (n : ℕ)
    → with_other n (once (filter (λ i. not (i == 0)) xs)) ≡ once (filter (λ i. not (i == 0)) (xs ++ n ∷ []))
others-append xs n = go (n == 0) refl
  where
    same_in : is_in n (once (filter (λ i. not (i == 0)) xs)) ≡ is_in n (filter (λ i. not (i == 0)) xs)
    same_in =
        bool_same (is_in n (once (filter (λ i. not (i == 0)) xs))) (is_in n (filter (λ i. not (i == 0)) xs))
        (once-in (filter (λ i. not (i == 0)) xs) n) (in-once (filter (λ i. not (i == 0)) xs) n)

    go : (v : Bool) → (n == 0) ≡ v → with_other n (once (filter (λ i. not (i == 0)) xs)) ≡ once (filter (λ i. not (i == 0)) (xs ++ n ∷ []))
    go true e =
        rw e (ap once (sym (append-nil (filter (λ i. not (i == 0)) xs)) ∙ sym (rw e at (filter-append (λ i. not (i == 0)) xs n))))
    go false e =
        rw e (ap (λ (v : Bool). cond v (once (filter (λ i. not (i == 0)) xs)) (once (filter (λ i. not (i == 0)) xs) ++ n ∷ [])) same_in
        ∙ (sym (once-append (filter (λ i. not (i == 0)) xs) n) ∙ ap once (sym (rw e at (filter-append (λ i. not (i == 0)) xs n)))))
