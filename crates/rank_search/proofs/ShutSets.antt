-- The set of shut places, built one place at a time.
use Rattle.std.proofs.Common.{◌≡◌, ℕ, ◌+◌, ◌<◌, ◌==◌, ◌&&◌, ◌||◌, Bool, true, false, cond, List, [], ◌∷◌, ◌++◌, take}
use Rattle.std.proofs.Common.{get_or, length, refl, sym, ◌∙◌, ap}
use Rattle.std.proofs.lemmas.List.{take_more}
use Rattle.std.specs.BTreeSet.{BTreeSet, contains}
use Rattle.std.specs.BTreeMap.{is_at}
use Rattle.std.specs.Cmp.{unsigned_tied}
use Rattle.std.specs.declared.cmp.Ordering.{Ordering}
use Rattle.std.specs.declared.cmp.Ordering.TheVariants.{Less, Equal, Greater}
use Rattle.std.specs.Ordering.{nat_cmp, ordering_then, is_eq}
use Rattle.cert_types.specs.cert_rules.Gaps.{SymbolPlace, is_shut}
use Rattle.rule_questions.specs.ProgramQuestions.{places_of}
use Rattle.rank_search.specs.ShutPlaces.{place_cmp, is_listed, HasShut}

-- two places are equal in order if both their numbers are
both-equal : (o p : Ordering) → is_eq (ordering_then o p) ≡ (is_eq o && is_eq p)
both-equal Less p = refl
both-equal Equal p = refl
both-equal Greater p = refl

-- the test of a place is the test of its two numbers
same-place : (x q : ℕ × ℕ) → is_at (place_cmp x) q ≡ ((x.0 == q.0) && (x.1 == q.1))
same-place x q =
    both-equal (nat_cmp x.0 q.0) (nat_cmp x.1 q.1)
    ∙ (ap (λ (v : Bool). v && is_eq (nat_cmp x.1 q.1)) (unsigned_tied x.0 q.0)
    ∙ ap (λ (v : Bool). (x.0 == q.0) && v) (unsigned_tied x.1 q.1))

-- a place is shut in a list with one more if it is shut in the list or is the new one
shut-more : (ps : List (ℕ × ℕ)) (x : ℕ × ℕ) (a i : ℕ) → is_shut (places_of (ps ++ x ∷ [])) a i
    ≡ cond ((x.0 == a) && (x.1 == i)) true (is_shut (places_of ps) a i)
shut-more [] x a i = go ((x.0 == a) && (x.1 == i))
  where
    go : (v : Bool) → (v || false) ≡ cond v true false
    go true = refl
    go false = refl
shut-more (y ∷ ps) x a i =
    ap (λ (v : Bool). ((y.0 == a) && (y.1 == i)) || v) (shut-more ps x a i)
    ∙ go ((y.0 == a) && (y.1 == i)) ((x.0 == a) && (x.1 == i))
  where
    go : (v w : Bool) → (v || cond w true (is_shut (places_of ps) a i)) ≡ cond w true (v || is_shut (places_of ps) a i)
    go true true = refl
    go true false = refl
    go false true = refl
    go false false = refl

-- the set of the places so far, with one more
pub place-more : (old new : BTreeSet (ℕ × ℕ)) (ps : List (ℕ × ℕ)) (i : ℕ) (d : ℕ × ℕ) → i < length ps
    → HasShut old (places_of (take i ps))
    → ((q : ℕ × ℕ) → contains place_cmp new q
    ≡ cond (is_at (place_cmp (get_or ps i d)) q) true (contains place_cmp old q))
    → HasShut new (places_of (take (i + 1) ps))
place-more old new ps i d l h u a j =
    u (a, j)
    ∙ (ap (λ (v : Bool). cond v true (contains place_cmp old (a, j))) (same-place (get_or ps i d) (a, j))
    ∙ (ap (λ (v : Bool). cond (((get_or ps i d).0 == a) && ((get_or ps i d).1 == j)) true v) (h a j)
    ∙ (sym (shut-more (take i ps) (get_or ps i d) a j)
    ∙ sym (ap (λ (xs : List (ℕ × ℕ)). is_shut (places_of xs) a j) (take_more ps i d l)))))

-- a place is in the set exactly if it is shut
pub same-test : (set : BTreeSet (ℕ × ℕ)) (shut : List SymbolPlace) → HasShut set shut → is_listed set ≡ is_shut shut
same-test set shut h = λ j a i. h a i j
