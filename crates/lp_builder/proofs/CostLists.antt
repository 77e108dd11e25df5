-- Costs of columns, followed by zeros.
use Rattle.std.proofs.Common.{◌≡◌, ℕ, zero, suc, ◌+◌, ◌-◌, ◌<◌, ap, arith, refl, sym, ◌∙◌, List, [], ◌∷◌, ◌++◌, length}
use Rattle.std.proofs.Common.{map, take, get_or, replicate, append_assoc}
use Rattle.std.specs.Prelude.{ℤ, pos}
use Rattle.std.proofs.lemmas.List.{append-nil, map-append, take_more}
use Rattle.simplex_core.specs.linear_forms.Questions.{on_both, on_plus}
use Rattle.lp_builder.specs.declared.description.Cost.{Cost}

-- after one zero is written, one fewer is left
pub zero-moved : (xs : List ℤ) (n : ℕ) → 0 < n → (xs ++ (pos 0 ∷ [])) ++ replicate (n - 1) (pos 0) ≡ xs ++ replicate n (pos 0)
zero-moved xs zero l = absurd (omega arith)
zero-moved xs (suc n) l = append_assoc xs (pos 0 ∷ []) (replicate (suc n - 1) (pos 0)) ∙ ap (λ (k : ℕ). xs ++ (pos 0 ∷ replicate k (pos 0))) less
  where
    less : suc n - 1 ≡ n
    less = omega arith

-- if no zero is left, the numbers are complete
pub none-left : (xs : List ℤ) (n : ℕ) → n ≡ 0 → xs ≡ xs ++ replicate n (pos 0)
none-left xs n e = sym (append-nil xs) ∙ ap (λ (k : ℕ). xs ++ replicate k (pos 0)) (sym e)

-- the costs of an appended list of parameters
both-append : (xs ys : List ℕ) → on_both (xs ++ ys) ≡ on_both xs ++ on_both ys
both-append [] ys = refl
both-append (x ∷ xs) ys = ap (λ (zs : List ℤ). pos x ∷ pos x ∷ zs) (both-append xs ys)

plus-append : (xs ys : List ℕ) → on_plus (xs ++ ys) ≡ on_plus xs ++ on_plus ys
plus-append [] ys = refl
plus-append (x ∷ xs) ys = ap (λ (zs : List ℤ). pos x ∷ pos 0 ∷ zs) (plus-append xs ys)

-- two numbers pushed one after the other
two-pushed : (xs ys zs : List ℤ) (u v : ℤ) → ys ≡ xs ++ (u ∷ []) → zs ≡ ys ++ (v ∷ []) → zs ≡ xs ++ (u ∷ v ∷ [])
two-pushed xs ys zs u v e f = f ∙ (ap (λ (ws : List ℤ). ws ++ (v ∷ [])) e ∙ append_assoc xs (u ∷ []) (v ∷ []))

-- after the sizes of one more parameter are pushed
pub first-step : (costs : List Cost) (i : ℕ) (d : Cost) (xs ys zs : List ℤ) (u v : ℤ) → xs ≡ on_both (map (λ c. c.size) (take i costs)) → ys ≡ xs ++ (u ∷ []) → zs ≡ ys ++ (v ∷ [])
    → u ≡ pos (get_or costs i d).size → v ≡ pos (get_or costs i d).size → i < length costs → zs ≡ on_both (map (λ c. c.size) (take (i + 1) costs))
first-step costs i d xs ys zs u v e f g p q l =
    two-pushed xs ys zs u v f g
    ∙ (ap (λ (ws : List ℤ). ws ++ (u ∷ v ∷ [])) e
    ∙ (ap (λ (z : ℤ). on_both (map (λ (c : Cost). c.size) (take i costs)) ++ (z ∷ v ∷ [])) p
    ∙ (ap (λ (z : ℤ). on_both (map (λ (c : Cost). c.size) (take i costs)) ++ (pos (get_or costs i d).size ∷ z ∷ [])) q
    ∙ (sym (both-append (map (λ (c : Cost). c.size) (take i costs)) ((get_or costs i d).size ∷ []))
    ∙ ap on_both (sym (map-append (λ (c : Cost). c.size) (take i costs) (get_or costs i d ∷ []))
    ∙ ap (λ (ds : List Cost). map (λ (c : Cost). c.size) ds) (sym (take_more costs i d l)))))))

-- after the height of one more parameter is pushed
pub second-step : (costs : List Cost) (i : ℕ) (d : Cost) (xs ys zs : List ℤ) (u v : ℤ) → xs ≡ on_plus (map (λ c. c.height) (take i costs)) → ys ≡ xs ++ (u ∷ []) → zs ≡ ys ++ (v ∷ [])
    → u ≡ pos (get_or costs i d).height → v ≡ pos 0 → i < length costs → zs ≡ on_plus (map (λ c. c.height) (take (i + 1) costs))
second-step costs i d xs ys zs u v e f g p q l =
    two-pushed xs ys zs u v f g
    ∙ (ap (λ (ws : List ℤ). ws ++ (u ∷ v ∷ [])) e
    ∙ (ap (λ (z : ℤ). on_plus (map (λ (c : Cost). c.height) (take i costs)) ++ (z ∷ v ∷ [])) p
    ∙ (ap (λ (z : ℤ). on_plus (map (λ (c : Cost). c.height) (take i costs)) ++ (pos (get_or costs i d).height ∷ z ∷ [])) q
    ∙ (sym (plus-append (map (λ (c : Cost). c.height) (take i costs)) ((get_or costs i d).height ∷ []))
    ∙ ap on_plus (sym (map-append (λ (c : Cost). c.height) (take i costs) (get_or costs i d ∷ []))
    ∙ ap (λ (ds : List Cost). map (λ (c : Cost). c.height) ds) (sym (take_more costs i d l)))))))
