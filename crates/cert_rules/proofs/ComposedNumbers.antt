-- Properties of the numbers of known bounds carry over to the time bound that a ranking function composes of them.
use Rattle.std.proofs.Common.{◌≡◌, ℕ, suc, ◌+◌, ◌-◌, ◌≤◌, ◌==◌, ◌||◌, Bool, true, false, List, [], ◌∷◌}
use Rattle.std.proofs.Common.{Option, Some, None, refl, arith, All}
use Rattle.std.specs.Prelude.{ℤ, pos, negsuc, nat_abs}
use Rattle.std.proofs.Math.Nat.{div-le_self}
use Rattle.std.proofs.lemmas.List.Elements.{All-nil, All-head, All-tail}
use Rattle.rule_forms.specs.int_laws.NormalForm.{is_zero}
use Rattle.run_counting.specs.model.Programs.{Program}
use Rattle.run_counting.specs.model.Bounds.{Bound, Constant, SumOf, ProductOf, Parts, EachNode, EachNodeOfAll}
use Rattle.run_counting.specs.model.Paths.{target_of}
use Rattle.run_counting.specs.model.Entries.{entries}
use Rattle.rule_forms.specs.linear_forms.Forms.{Form}
use Rattle.bound_expr.specs.Limits.{constant_limit}
use Rattle.rule_forms.specs.Bounds.{height}
use Rattle.cert_rules.specs.Nodes.{SymbolForm, RankNode}
use Rattle.cert_rules.specs.Numbers.{rounded_up}
use Rattle.cert_rules.specs.Limits.{IsInLimit, IsFormInLimit}
use Rattle.cert_rules.specs.Known.{Table, known}
use Rattle.cert_rules.specs.Setting.{Setting}
use Rattle.cert_rules.specs.Composed.{parts_for, place_parts, rest_bound, form_bound, no_place, sizes_after}
use Rattle.cert_rules.specs.Composed.{rank_form, entry_bound}
use Rattle.cert_rules.specs.AcceptsRank.{HasFormShape, HasRankShape, rank_time}

-- a number of a certificate over a denominator, rounded up, is a small constant
rounded_up-small : (n den : ℕ) → IsInLimit n → IsInLimit den → rounded_up n den ≤ constant_limit
rounded_up-small n den low few =
    let less : rounded_up n den ≤ n + (den - 1) = div-le_self (n + (den - 1)) den in
    omega (arith, less, low, few)

-- the positive part of an integer is at most its absolute value
height-low : (c : ℤ) → height c ≤ nat_abs c
height-low (pos n) = omega arith
height-low (negsuc n) = omega arith

-- the numbers of a ranking function at a symbol are within the limit
rank_form-limit : (p : Program) (forms : List SymbolForm) → All (HasFormShape p) forms → (a : Option ℕ)
    → IsFormInLimit (rank_form forms a)
rank_form-limit p forms h None = record { coefs = All-nil (λ c. IsInLimit (nat_abs c)); constant = omega arith }
rank_form-limit p [] h (Some a) = record { coefs = All-nil (λ c. IsInLimit (nat_abs c)); constant = omega arith }
rank_form-limit p (f ∷ forms) h (Some a) =
    go (f.symbol == a) refl (All-head (HasFormShape p) f forms h)
    (rank_form-limit p forms (All-tail (HasFormShape p) f forms h) (Some a))
  where
    go : (v : Bool) → (f.symbol == a) ≡ v → HasFormShape p f → IsFormInLimit (rank_form forms (Some a))
        → IsFormInLimit (rank_form (f ∷ forms) (Some a))
    go true e here later = rw e here.limit
    go false e here later = rw e later

-- laws for a property of the nodes of a bound that small constants, sums and products have
module _ (F : Bound → Type 0) (constant : (c : ℕ) → c ≤ constant_limit → F (Constant c))
    (sum : (bs : Parts) → F (SumOf bs)) (product : (bs : Parts) → F (ProductOf bs)) where
  -- if the property holds of the nodes of a known bound, it holds of those of the known bound or 0
  pub known-each : (o : Option Bound) → ((b : Bound) → o ≡ Some b → EachNode F b) → EachNode F (known o)
  known-each None h = constant 0 (omega arith)
  known-each (Some b) h = h b refl

  -- if the property holds of the nodes of each part for a number, it holds of those of all parts
  pub parts_for-each : (f : ℕ → Bound) → ((n : ℕ) → EachNode F (f n)) → (ns : List ℕ) → EachNodeOfAll F (parts_for f ns)
  parts_for-each f h [] = tt
  parts_for-each f h (n ∷ ns) = (h n, parts_for-each f h ns)

  -- the parts of places have the property if the sizes have
  place_parts-each : (cs : List ℤ) (den : ℕ) (left_out : ℕ → Bool) (sizes : ℕ → Bound)
      → All (λ c. IsInLimit (nat_abs c)) cs → IsInLimit den → ((j : ℕ) → EachNode F (sizes j))
      → EachNodeOfAll F (place_parts cs den left_out sizes)
  place_parts-each [] den left_out sizes low few h = tt
  place_parts-each (c ∷ cs) den left_out sizes low few h =
      go (is_zero c || left_out 0) refl
      (place_parts-each cs den (λ j. left_out (suc j)) (λ j. sizes (suc j))
      (All-tail (λ x. IsInLimit (nat_abs x)) c cs low) few (λ j. h (suc j)))
    where
      small : rounded_up (nat_abs c) den ≤ constant_limit
      small = rounded_up-small (nat_abs c) den (All-head (λ x. IsInLimit (nat_abs x)) c cs low) few

      go : (v : Bool) → (is_zero c || left_out 0) ≡ v
          → EachNodeOfAll F (place_parts cs den (λ j. left_out (suc j)) (λ j. sizes (suc j)))
          → EachNodeOfAll F (place_parts (c ∷ cs) den left_out sizes)
      go true e rest = rw e rest
      go false e rest =
          rw e ((product _, (constant (rounded_up (nat_abs c) den) small, (h 0, tt))), rest)

  -- a form as a bound, without some places, has the property if the sizes have
  pub rest_bound-each : (f : Form) (den : ℕ) (left_out : ℕ → Bool) (sizes : ℕ → Bound) → IsFormInLimit f → IsInLimit den
      → ((j : ℕ) → EachNode F (sizes j)) → EachNode F (rest_bound f den left_out sizes)
  rest_bound-each f den left_out sizes low few h =
      let within : height f.constant ≤ nat_abs f.constant = height-low f.constant in
      let limit : IsInLimit (height f.constant) = omega (arith, within, low.constant) in (
        sum _,
        (
          constant (rounded_up (height f.constant) den)
              (rounded_up-small (height f.constant) den limit few),
          place_parts-each f.coefs den left_out sizes low.coefs few h,
        ),
      )

  -- a property of all nodes of the places' bounds is one of all nodes of a form as a bound
  pub form_bound-each : (f : Form) (den : ℕ) (sizes : ℕ → Bound) → IsFormInLimit f → IsInLimit den
      → ((j : ℕ) → EachNode F (sizes j)) → EachNode F (form_bound f den sizes)
  form_bound-each f den sizes low few h = rest_bound-each f den no_place sizes low few h

  -- the time that a ranking node composes has the property if the bounds of the table have
  pub rank_time-each : (s : Setting) (node : RankNode) (tab : Table) → HasRankShape s node
      → ((t : ℕ) (b : Bound) → tab.time t ≡ Some b → EachNode F b)
      → ((t i : ℕ) (b : Bound) → tab.size t i ≡ Some b → EachNode F b) → EachNode F (rank_time s node tab)
  rank_time-each s node tab shape times sizes =
      (sum _, parts_for-each (entry_bound s.program node tab.time tab.size) entry (entries s.program node.set))
    where
      entry : (e : ℕ) → EachNode F (entry_bound s.program node tab.time tab.size e)
      entry e = (
        product _,
        (
          known-each (tab.time e) (times e),
          (
            form_bound-each (rank_form node.forms (target_of s.program e)) node.den (sizes_after tab.size e)
                (rank_form-limit s.program node.forms shape.forms (target_of s.program e)) shape.den_limit
                (λ j. known-each (tab.size e (suc j)) (sizes e (suc j))),
            tt,
          ),
        ),
      )
