-- The places that are read after rules, place by place and rule by rule.
use Rattle.std.proofs.Common.{◌≡◌, ◌≢◌, ℕ, suc, ◌+◌, ◌<◌, not, List, [], ◌∷◌, ◌++◌, length, map, filter, get_or, take}
use Rattle.std.proofs.Common.{refl, sym, ap, ◌∙◌, arith}
use Rattle.std.specs.Prelude.{ℤ, pos}
use Rattle.std.specs.List.{range_with_len}
use Rattle.std.proofs.lemmas.List.{append-nil, append_assoc, map-append, get_or_default}
use Rattle.poly_terms.proofs.linear_forms.int_laws.ZeroLaws.{not_zero-complete}
use Rattle.poly_terms.specs.linear_forms.Forms.{at}
use Rattle.poly_terms.specs.linear_forms.int_laws.NormalForm.{is_zero}
use Rattle.cert_types.specs.cert_rules.Checks.{result_variables_after, needed_after, needed_after_each}
use Rattle.cert_types.specs.cert_rules.Nodes.{RankNode, ResultVariable}
use Rattle.cert_types.specs.cert_rules.Setting.{Setting}
use Rattle.cert_context.proofs.Cuts.{done-more}
use Rattle.check_ranks.proofs.Marking.{filter-pushed, filter-passed}

module _ (coefs : List ℤ) (e : ℕ) where
  -- the places that are read among the first n
  abbrev pub read_among : ℕ → List ResultVariable
  read_among n = result_variables_after e (filter (λ j. not (is_zero (at coefs j))) (range_with_len 0 n))

  module _ (i : ℕ) (first old : List ResultVariable) (done : old ≡ first ++ read_among i) where
    -- a place whose coefficient isn't 0 is one more that is read
    pub read-pushed : (new : List ResultVariable) (x : ResultVariable) → new ≡ old ++ x ∷ [] → x ≡ record { rule = e; place = suc i }
        → at coefs i ≢ pos 0 → new ≡ first ++ read_among (i + 1)
    read-pushed new x k d n =
        k
        ∙ (λ j. done j ++ d j ∷ [])
        ∙ append_assoc first (read_among i) (record { rule = e; place = suc i } ∷ [])
        ∙ ap (λ (result_variables : List ResultVariable). first ++ result_variables)
        (sym (ap (result_variables_after e)
        (filter-pushed (λ j. not (is_zero (at coefs j))) 0 i i (let z : i ≡ 0 + i = omega arith in z) (not_zero-complete (at coefs i) n))
        ∙ map-append (λ (j : ℕ). record { rule = e; place = suc j }) (filter (λ j. not (is_zero (at coefs j))) (range_with_len 0 i)) (i ∷ [])))

    -- a place whose coefficient is 0 isn't read
    pub read-passed : at coefs i ≡ pos 0 → old ≡ first ++ read_among (i + 1)
    read-passed z =
        done
        ∙ ap (λ (result_variables : List ResultVariable). first ++ result_variables)
        (sym (ap (result_variables_after e)
        (filter-passed (λ j. not (is_zero (at coefs j))) 0 i i (let k : i ≡ 0 + i = omega arith in k) (ap (λ (c : ℤ). not (is_zero c)) z))))

-- the places that are read after one more rule are those so far and those after that rule
pub needed-more : (s : Setting) (node : RankNode) (es : List ℕ) (i : ℕ) → i < length es
    → needed_after_each s node (take (i + 1) es) ≡ needed_after_each s node (take i es) ++ needed_after s node (get_or es i 0)
needed-more s node es i l = ap (needed_after_each s node) (more es i l) ∙ append (take i es)
  where
    more : (xs : List ℕ) (n : ℕ) → n < length xs → take (n + 1) xs ≡ take n xs ++ get_or xs n 0 ∷ []
    more xs n k =
        sym (map-same (take (n + 1) xs))
        ∙ (done-more (λ (x : ℕ). x) xs n (get_or xs n 0) k (get_or_default xs n 0 (get_or xs n 0) k)
        ∙ ap (λ (ys : List ℕ). ys ++ get_or xs n 0 ∷ []) (map-same (take n xs)))
      where
        map-same : (ys : List ℕ) → map (λ (x : ℕ). x) ys ≡ ys
        map-same [] = refl
        map-same (y ∷ ys) = ap (λ (zs : List ℕ). y ∷ zs) (map-same ys)

    append : (xs : List ℕ) → needed_after_each s node (xs ++ get_or es i 0 ∷ [])
        ≡ needed_after_each s node xs ++ needed_after s node (get_or es i 0)
    append [] = append-nil (needed_after s node (get_or es i 0))
    append (x ∷ xs) =
        ap (λ (result_variables : List ResultVariable). needed_after s node x ++ result_variables) (append xs)
        ∙ sym (append_assoc (needed_after s node x) (needed_after_each s node xs) (needed_after s node (get_or es i 0)))
