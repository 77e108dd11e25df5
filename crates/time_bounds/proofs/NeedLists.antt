-- The premises of ranking nodes, with one place and with one entry more.
use Rattle.std.proofs.Common.{◌≡◌, ℕ, suc, ◌+◌, ◌<◌, Bool, true, false, cond, List, [], ◌∷◌, ◌++◌, length, map, take}
use Rattle.std.proofs.Common.{get_or, refl, sym, ◌∙◌, ap, arith}
use Rattle.std.specs.Prelude.{ℤ}
use Rattle.std.proofs.lemmas.List.{map-append, append_assoc, append-nil, take_more, length-take-le}
use Rattle.its_model.specs.int_laws.NormalForm.{is_zero}
use Rattle.model.specs.Programs.{Program}
use Rattle.cert_types.specs.cert_rules.Nodes.{ResultVariable, RankNode}
use Rattle.bound_fixpoint.specs.Keys.{key}
use Rattle.bound_fixpoint.specs.Needs.{read_places, entry_premises, premises_of_all}
use Rattle.time_bounds.specs.Needs.{read_here}

-- the places that a form reads, with one coefficient more
pub read-append : (cs : List ℤ) (k : ℕ) (c : ℤ) → read_places k (cs ++ c ∷ []) ≡ read_places k cs ++ cond (is_zero c) [] ((k + length cs) ∷ [])
read-append [] k c = ap (λ (i : ℕ). cond (is_zero c) [] (i ∷ [])) (let same : k ≡ k + 0 = omega arith in same)
read-append (b ∷ cs) k c = go (is_zero b) refl (read-append cs (suc k) c)
  where
    next : suc k + length cs ≡ k + suc (length cs)
    next = omega arith

    go : (v : Bool) → is_zero b ≡ v → read_places (suc k) (cs ++ c ∷ []) ≡ read_places (suc k) cs ++ cond (is_zero c) [] ((suc k + length cs) ∷ [])
        → read_places k (b ∷ (cs ++ c ∷ [])) ≡ read_places k (b ∷ cs) ++ cond (is_zero c) [] ((k + suc (length cs)) ∷ [])
    go true e h = rw e (h ∙ ap (λ (i : ℕ). read_places (suc k) cs ++ cond (is_zero c) [] (i ∷ [])) next)
    go false e h =
        rw e (ap (λ (zs : List ℕ). k ∷ zs) (h ∙ ap (λ (i : ℕ). read_places (suc k) cs ++ cond (is_zero c) [] (i ∷ [])) next))

-- the sizes after an entry, with one coefficient more
pub read-more : (e : ℕ) (xs : List ResultVariable) (cs : List ℤ) (i : ℕ) (d : ℤ) → i < length cs
    → (xs ++ map (λ j. key e j) (read_places 1 (take i cs))) ++ map (λ j. key e j) (read_here (get_or cs i d) (i + 1))
    ≡ xs ++ map (λ j. key e j) (read_places 1 (take (i + 1) cs))
read-more e xs cs i d low =
    append_assoc xs (map (λ j. key e j) (read_places 1 (take i cs))) (map (λ j. key e j) (read_here (get_or cs i d) (i + 1)))
    ∙ ap (λ (ms : List ResultVariable). xs ++ ms)
    (sym (map-append (λ (j : ℕ). key e j) (read_places 1 (take i cs)) (read_here (get_or cs i d) (i + 1)))
    ∙ ap (map (λ j. key e j)) (sym all_read))
  where
    long : length (take i cs) ≡ i
    long = length-take-le i cs (omega (arith, low))

    all_read : read_places 1 (take (i + 1) cs) ≡ read_places 1 (take i cs) ++ read_here (get_or cs i d) (i + 1)
    all_read =
        ap (read_places 1) (take_more cs i d low)
        ∙ (read-append (take i cs) 1 (get_or cs i d)
        ∙ ap (λ (j : ℕ). read_places 1 (take i cs) ++ read_here (get_or cs i d) j) (let at_last : 1 + length (take i cs) ≡ i + 1 = omega (arith, long) in at_last))

-- the premises of a node with one entry more
pub premises-append : (p : Program) (node : RankNode) (es : List ℕ) (e : ℕ)
    → premises_of_all p node (es ++ e ∷ []) ≡ premises_of_all p node es ++ entry_premises p node e
premises-append p node [] e = append-nil (entry_premises p node e)
premises-append p node (x ∷ es) e =
    ap (λ (ks : List ResultVariable). entry_premises p node x ++ ks) (premises-append p node es e)
    ∙ sym (append_assoc (entry_premises p node x) (premises_of_all p node es) (entry_premises p node e))
