-- The places of live rules are those in the widths.
use Rattle.std.proofs.Common.{◌≡◌, ℕ, suc, ◌+◌, ◌<◌, Bool, true, false, cond, List, [], ◌∷◌, ◌++◌, length, get_or, refl}
use Rattle.std.proofs.Common.{sym, ◌∙◌, ap, subst, arith}
use Rattle.std.specs.List.{range_with_len}
use Rattle.model.specs.Programs.{Program}
use Rattle.cert_types.specs.cert_rules.Nodes.{ResultVariable}
use Rattle.local_size.specs.declared.answer.LocalAnswer.{LocalAnswer}
use Rattle.rvg_components.specs.Flows.{target_result_variables, result_variables_of}
use Rattle.rvg_components.specs.Numbering.{widths, places_of, result_variables_by_width}

-- the places of consecutive rules from rule t on that are live are those in the widths, if these flags say which are
-- live and each live rule has as many places as answers
pub result_variables-agree : (p : Program) (is_live : ℕ → Bool) (t : ℕ) (locals : List (List LocalAnswer)) (live : List Bool) → length locals ≡ length live
    → ((k : ℕ) → k < length live → is_live (t + k) ≡ get_or live k false)
    → ((k : ℕ) → get_or live k false ≡ true → target_result_variables p (t + k) ≡ places_of (t + k) 1 (length (get_or locals k [])))
    → result_variables_of p is_live (range_with_len t (length live)) ≡ result_variables_by_width t (widths locals live)
result_variables-agree p is_live t [] [] e l s = refl
result_variables-agree p is_live t [] (f ∷ live) e l s = absurd (omega (arith, e))
result_variables-agree p is_live t (a ∷ locals) [] e l s = absurd (omega (arith, e))
result_variables-agree p is_live t (a ∷ locals) (f ∷ live) e l s =
    ap (λ (xs : List ResultVariable). xs ++ result_variables_of p is_live (range_with_len (t + 1) (length live))) first
    ∙ ap (λ (xs : List ResultVariable). places_of t 1 (cond f (length a) 0) ++ xs)
    (subst (λ (r : ℕ). result_variables_of p is_live (range_with_len r (length live)) ≡ result_variables_by_width (suc t) (widths locals live)) next
    (result_variables-agree p is_live (suc t) locals live (omega (arith, e))
    (λ k low. ap is_live (moved t k) ∙ l (suc k) (omega (arith, low)))
    (λ k is. subst (λ (r : ℕ). target_result_variables p r ≡ places_of r 1 (length (get_or locals k []))) (sym (moved t k)) (s (suc k) is))))
  where
    plain : t + 0 ≡ t
    plain = omega arith

    next : suc t ≡ t + 1
    next = omega arith

    moved : (t k : ℕ) → suc t + k ≡ t + suc k
    moved t k = omega arith

    here : (v : Bool) → f ≡ v → cond v (target_result_variables p t) [] ≡ places_of t 1 (cond v (length a) 0)
    here true is = subst (λ (r : ℕ). target_result_variables p r ≡ places_of r 1 (length a)) plain (s 0 is)
    here false is = refl

    first : cond (is_live t) (target_result_variables p t) [] ≡ places_of t 1 (cond f (length a) 0)
    first = ap (λ (v : Bool). cond v (target_result_variables p t) []) (ap is_live (sym plain) ∙ l 0 (omega arith)) ∙ here f refl
