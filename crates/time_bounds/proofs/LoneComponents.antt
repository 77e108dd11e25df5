-- A component that doesn't loop has one member, and so has a component with a member into which no value flows.
use Rattle.std.proofs.Common.{◌≡◌, inl, inr, ℕ, zero, suc, ◌<◌, ◌==◌, ◌||◌, Bool, true, false, List, [], ◌∷◌, ◌++◌}
use Rattle.std.proofs.Common.{length, map, refl, sym, ◌∙◌, ap, subst, arith, Contains}
use Rattle.std.specs.List.{list_any}
use Rattle.std.proofs.lemmas.List.{append_assoc}
use Rattle.model.specs.Paths.{Path, Here, Onward}
use Rattle.model.proofs.Membership.{same_number, same_number-sound, no_is_not_yes}
use Rattle.its_graph.specs.Components.{IsNext, IsListing}
use Rattle.cert_types.specs.cert_rules.Nodes.{ResultVariable}
use Rattle.cert_types.specs.cert_rules.Setting.{Setting}
use Rattle.bound_fixpoint.specs.Components.{IsOneOf}
use Rattle.bound_fixpoint.specs.Keys.{has_key}
use Rattle.rvg_components.specs.Flows.{Locals, value_flows, live_result_variables, loops}
use Rattle.rvg_components.specs.Listing.{result_variable_at, HasFlow, AreComponents}
use Rattle.model.proofs.PathLaws.{Path-then as joined}
use Rattle.time_bounds.proofs.ResultVariableLists.{chosen-sound}

-- a path to another node ends with an edge
record LastEdge (E : ℕ → ℕ → Type 0) (a b : ℕ) : Type 0 where
  pub from : ℕ
  pub way : Path E a from
  pub edge : E from b

last_edge : (E : ℕ → ℕ → Type 0) (a b : ℕ) → Path E a b → (a ≡ b → ⊥) → LastEdge E a b
last_edge E a b (Here e) h = absurd (h e)
last_edge E a b (Onward {b = z} q e) h = record { from = z; way = q; edge = e }

-- if a test succeeds for the image of an element, it succeeds for some image
any_of : {A : Type 0} (f : ℕ → A) (g : A → Bool) (ps : List ℕ) (x : ℕ) → Contains ps x → g (f x) ≡ true → list_any g (map f ps) ≡ true
any_of f g [] x (n, l, same) h = absurd (omega (arith, l))
any_of f g (p ∷ ps) x (zero, l, same) h = first (g (f p)) (list_any g (map f ps)) (ap (λ (y : ℕ). g (f y)) same ∙ h)
  where
    first : (v w : Bool) → v ≡ true → (v || w) ≡ true
    first true w e = refl
    first false w e = absurd (no_is_not_yes false refl e)
any_of f g (p ∷ ps) x (suc n, l, same) h = later (g (f p)) (list_any g (map f ps)) (any_of f g ps x (n, omega (arith, l), same) h)
  where
    later : (v w : Bool) → w ≡ true → (v || w) ≡ true
    later true w e = refl
    later false w e = e

module _ (s : Setting) (is_live : ℕ → Bool) (local : Locals) where
  abbrev all : List ResultVariable
  all = live_result_variables s.program is_live

  abbrev flow : ℕ → ℕ → Type 0
  flow = HasFlow s local (live_result_variables s.program is_live)

  abbrev at : ℕ → ResultVariable
  at = result_variable_at (live_result_variables s.program is_live)

  -- two members of one component loop
  two_loop : (ps : List ℕ) (nodes : ℕ) (before : List (List ℕ)) → IsNext flow nodes before ps → (a b : ℕ) → Contains ps a → Contains ps b → (a ≡ b → ⊥)
      → loops s local (map at ps) ≡ true
  two_loop ps nodes before next a b in_a in_b apart =
      let to_a = (next.members a).0 in_a in
      let to_b = (next.members b).0 in_b in
      let last = last_edge flow a b (joined flow a next.least b to_a.back to_b.onward) apart in
      let in_from = (next.members last.from).1 record {
        onward = joined flow next.least a last.from to_a.onward last.way;
        back = joined flow last.from b next.least (Onward (Here refl) last.edge) to_b.back;
      } in
      any_of at (λ n. list_any (λ m. value_flows s local m n) (map at ps)) ps b in_b
      (any_of at (λ m. value_flows s local m (at b)) ps last.from in_from last.edge.flow)

  -- a component that doesn't loop has one member, by positions
  one_member : (ps : List ℕ) (nodes : ℕ) (before : List (List ℕ)) → IsNext flow nodes before ps → loops s local (map at ps) ≡ false
      → (m : ResultVariable) × (map at ps ≡ m ∷ [])
  one_member [] nodes before next h =
      absurd (let x = (next.members next.least).1 (record { onward = Here refl; back = Here refl }) in none x)
    where
      none : Contains [] next.least → ⊥
      none (n, l, same) = omega (arith, l)
  one_member (a ∷ []) nodes before next h = (at a, refl)
  one_member (a ∷ b ∷ ps) nodes before next h =
      let less : a < b = next.ascending 0 (omega arith) in
      absurd (no_is_not_yes (loops s local (map at (a ∷ b ∷ ps))) h
      (two_loop (a ∷ b ∷ ps) nodes before next a b (0, omega arith, refl) (1, omega arith, refl) (λ e. omega (arith, less, e))))

  found_member : (positions before rest : List (List ℕ)) → positions ≡ before ++ rest → IsListing flow (length all) positions → (c : List ResultVariable)
      → IsOneOf (map (map at) rest) c → loops s local c ≡ false → (m : ResultVariable) × (c ≡ m ∷ [])
  found_member positions before [] e listing c one h = absurd one
  found_member positions before (ps ∷ rest) e listing c (inl same) h =
      let r = one_member ps (length all) before (listing.each before rest ps e) (ap (loops s local) same ∙ h) in (r.0, sym same ∙ r.1)
  found_member positions before (ps ∷ rest) e listing c (inr one) h =
      found_member positions (before ++ ps ∷ []) rest (e ∙ sym (append_assoc before (ps ∷ []) rest)) listing c one h

  -- a component that doesn't loop has one member
  pub lone : (cs : List (List ResultVariable)) → AreComponents s is_live local cs → (c : List ResultVariable) → IsOneOf cs c → loops s local c ≡ false
      → (m : ResultVariable) × (c ≡ m ∷ [])
  lone cs found c one h =
      found_member found.positions [] found.positions refl found.listing c (subst (λ (ds : List (List ResultVariable)). IsOneOf ds c) found.result_variables one) h

  -- if no value flows into a member, it is the only one, by positions
  alone_at : (ps : List ℕ) (nodes : ℕ) (before : List (List ℕ)) → IsNext flow nodes before ps → (b : ℕ) → Contains ps b
      → ((a : ℕ) → flow a b → ⊥) → (a : ℕ) → Contains ps a → a ≡ b
  alone_at ps nodes before next b in_b none a in_a = go (a == b) refl
    where
      go : (v : Bool) → (a == b) ≡ v → a ≡ b
      go true e = same_number-sound a b e
      go false e =
          let to_a = (next.members a).0 in_a in
          let to_b = (next.members b).0 in_b in
          let last = last_edge flow a b (joined flow a next.least b to_a.back to_b.onward)
          (λ same. no_is_not_yes (a == b) e (subst (λ (n : ℕ). (a == n) ≡ true) same (same_number a))) in
          absurd (none last.from last.edge)

  one_alone : (ps : List ℕ) (nodes : ℕ) (before : List (List ℕ)) → IsNext flow nodes before ps → (b : ℕ) → Contains ps b
      → ((a : ℕ) → flow a b → ⊥) → ps ≡ b ∷ []
  one_alone [] nodes before next b (n, l, same) none = absurd (omega (arith, l))
  one_alone (a ∷ []) nodes before next b in_b none =
      ap (λ (n : ℕ). n ∷ []) (alone_at (a ∷ []) nodes before next b in_b none a (0, omega arith, refl))
  one_alone (a ∷ c ∷ ps) nodes before next b in_b none =
      let less : a < c = next.ascending 0 (omega arith) in
      let first = alone_at (a ∷ c ∷ ps) nodes before next b in_b none a (0, omega arith, refl) in
      let second = alone_at (a ∷ c ∷ ps) nodes before next b in_b none c (1, omega arith, refl) in
      absurd (omega (arith, less, first, second))

  -- no value flows into this place
  abbrev TakesNothing : ResultVariable → Type 0
  TakesNothing m = (k : ResultVariable) → value_flows s local k m ≡ true → ⊥

  found_alone : (positions before rest : List (List ℕ)) → positions ≡ before ++ rest → IsListing flow (length all) positions → (c : List ResultVariable)
      → IsOneOf (map (map at) rest) c → (m : ResultVariable) → has_key c m.rule m.place ≡ true → TakesNothing m → c ≡ m ∷ []
  found_alone positions before [] e listing c one m h none = absurd one
  found_alone positions before (ps ∷ rest) e listing c (inl same) m h none =
      let there = chosen-sound all ps m.rule m.place (subst (λ (x : List ResultVariable). has_key x m.rule m.place ≡ true) (sym same) h) in
      let alone = one_alone ps (length all) before (listing.each before rest ps e) there.0 there.1
      (λ a k. none (at a) (subst (λ (x : ResultVariable). value_flows s local (at a) x ≡ true) there.2 k.flow)) in
      sym same ∙ (ap (map at) alone ∙ ap (λ (x : ResultVariable). x ∷ []) there.2)
  found_alone positions before (ps ∷ rest) e listing c (inr one) m h none =
      found_alone positions (before ++ ps ∷ []) rest (e ∙ sym (append_assoc before (ps ∷ []) rest)) listing c one m h none

  -- a component with a member into which no value flows has no other member
  pub taking_none : (cs : List (List ResultVariable)) → AreComponents s is_live local cs → (c : List ResultVariable) → IsOneOf cs c → (m : ResultVariable)
      → has_key c m.rule m.place ≡ true → TakesNothing m → c ≡ m ∷ []
  taking_none cs found c one m h none =
      found_alone found.positions [] found.positions refl found.listing c
      (subst (λ (ds : List (List ResultVariable)). IsOneOf ds c) found.result_variables one) m h none
