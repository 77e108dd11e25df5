-- The worked values of parts of rules.
use Rattle.std.proofs.Common.{◌≡◌, ◌⊎◌, inl, inr, ℕ, zero, suc, Some, None, true, get_or, refl, sym, ◌∙◌, ap, subst}
use Rattle.std.proofs.Common.{arith}
use Rattle.model.specs.Paths.{Here, HasEdge, HasPath, any_rule, IsInSet, source_of, target_of}
use Rattle.model.specs.PathValues.{nested, last_two}
use Rattle.model.specs.Worked.{bare_rule}
use Rattle.model.proofs.PathValues.{paths_are_worked}
use Rattle.its_graph.specs.WorkedParts.{PartsAreWorkedOut, inner_part, first_three}
use Rattle.its_graph.proofs.Routes.{join, one_edge}
use Rattle.its_graph.proofs.SharedLeaders.{none_some, number_in}

-- The edges of the inner loop.
there : HasPath nested any_rule 1 2
there =
    one_edge (HasEdge nested any_rule) 1 2
    (record { number = 2; rule = bare_rule 1 2; numbered = refl; allowed = refl; source = refl; target = refl })

back : HasPath nested any_rule 2 1
back =
    one_edge (HasEdge nested any_rule) 2 1
    (record { number = 4; rule = bare_rule 2 1; numbered = refl; allowed = refl; source = refl; target = refl })

-- The symbol is one of the two of the inner loop.
abbrev IsInner : ℕ → Type 0
IsInner a = (a ≡ 1) ⊎ (a ≡ 2)

-- Between the symbols of the inner loop there are paths.
connected : (a b : ℕ) → IsInner a → IsInner b → HasPath nested any_rule a b
connected a b (inl e) (inl f) = Here (e ∙ sym f)
connected a b (inr e) (inr f) = Here (e ∙ sym f)
connected a b (inl e) (inr f) =
    subst (λ (x : ℕ). HasPath nested any_rule x b) (sym e) (subst (λ (x : ℕ). HasPath nested any_rule 1 x) (sym f) there)
connected a b (inr e) (inl f) =
    subst (λ (x : ℕ). HasPath nested any_rule x b) (sym e) (subst (λ (x : ℕ). HasPath nested any_rule 2 x) (sym f) back)

-- The rule leads from and to symbols of the inner loop.
record IsInnerRule (t : ℕ) : Type 0 where
  pub source : ℕ
  pub leaves : source_of nested t ≡ Some source
  pub from : IsInner source
  pub target : ℕ
  pub leads : target_of nested t ≡ Some target
  pub to : IsInner target

inner_rule : (t m : ℕ) → get_or inner_part t None ≡ Some m → IsInnerRule t
inner_rule zero m e = absurd (none_some m e)
inner_rule (suc zero) m e = absurd (none_some m e)
inner_rule (suc (suc zero)) m e =
    record { source = 1; leaves = refl; from = inl refl; target = 2; leads = refl; to = inr refl }
inner_rule (suc (suc (suc zero))) m e =
    record { source = 2; leaves = refl; from = inr refl; target = 2; leads = refl; to = inr refl }
inner_rule (suc (suc (suc (suc zero)))) m e =
    record { source = 2; leaves = refl; from = inr refl; target = 1; leads = refl; to = inl refl }
inner_rule (suc (suc (suc (suc (suc i))))) m e = absurd (none_some m e)

-- Rules of the inner loop have the same set.
inner_set : (t u : ℕ) → IsInnerRule t → IsInnerRule u → (e : ℕ) → IsInSet nested any_rule t e → IsInSet nested any_rule u e
inner_set t u h k e (inl same) =
    inr (record {
      untimed = refl;
      from = h.target;
      leads = ap (target_of nested) same ∙ h.leads;
      to = k.source;
      leaves = k.leaves;
      path = connected h.target k.source h.to k.from;
    })
inner_set t u h k e (inr b) =
    let to : b.to ≡ h.source = number_in b.to h.source (sym b.leaves ∙ h.leaves) in
    inr (record {
      untimed = refl;
      from = b.from;
      leads = b.leads;
      to = k.source;
      leaves = k.leaves;
      path = join (HasEdge nested any_rule) b.from h.source k.source
          (subst (λ (x : ℕ). HasPath nested any_rule b.from x) to b.path) (connected h.source k.source h.from k.from);
    })

-- No path leads back to the source of rule 1, so rule 4 isn't in its set.
fourth_outside : IsInSet nested any_rule 1 4 → ⊥
fourth_outside (inl e) = omega (arith, e)
fourth_outside (inr b) =
    let from : 1 ≡ b.from = number_in 1 b.from b.leads in
    let to : 0 ≡ b.to = number_in 0 b.to b.leaves in
    paths_are_worked.no_way_back
    (subst (λ (x : ℕ). HasPath nested any_rule x 0) (sym from) (subst (λ (x : ℕ). HasPath nested any_rule b.from x) (sym to) b.path))

-- Of rules 1, 2 and 3 only the last has no time.
only_third : (t m : ℕ) → last_two t ≡ true → get_or first_three t None ≡ Some m → t ≡ 3
only_third zero m o e = absurd (none_some m e)
only_third (suc zero) m o e = cc
only_third (suc (suc zero)) m o e = cc
only_third (suc (suc (suc zero))) m o e = refl
only_third (suc (suc (suc (suc zero)))) m o e = absurd (none_some m e)
only_third (suc (suc (suc (suc (suc i))))) m o e = absurd (none_some m e)

-- The worked values of parts hold.
pub parts-are-worked-out : PartsAreWorkedOut
parts-are-worked-out = record {
  one_part = λ t u m open_t open_u et eu. inner_set t u (inner_rule t m et) (inner_rule u m eu);
  another_set = λ h. fourth_outside (h 3 1 1 refl refl refl refl 4 fourth_there);
  different_sets = λ h. paths_are_worked.not_in_set (h 4 3 1 refl refl refl refl 4 (inl refl));
  timed_rules = λ t u m open_t open_u et eu e inside.
      subst (λ (x : ℕ). IsInSet nested last_two x e) (only_third t m open_t et ∙ sym (only_third u m open_u eu)) inside;
}
  where
    fourth_there : IsInSet nested any_rule 3 4
    fourth_there = inr (record { untimed = refl; from = 1; leads = refl; to = 2; leaves = refl; path = there })
