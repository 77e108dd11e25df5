-- The checks of a ranking node pass exactly if it is accepted.
use Rattle.std.proofs.Common.{◌≡◌, ◌≢◌, ℕ, zero, suc, ◌<◌, not, Bool, true, false, List, [], ◌∷◌, length, refl, arith}
use Rattle.std.specs.Prelude.{ℤ, pos}
use Rattle.std.specs.List.{AllByRecursion}
use Rattle.rule_forms.specs.int_laws.NormalForm.{is_zero}
use Rattle.rule_forms.specs.linear_forms.Forms.{at}
use Rattle.cert_rules.specs.Nodes.{ResultVariable, RankNode}
use Rattle.cert_rules.specs.Known.{IsKnown, Table}
use Rattle.run_counting.specs.model.Entries.{entries}
use Rattle.cert_rules.specs.Setting.{Setting}
use Rattle.cert_rules.specs.AcceptsRank.{AcceptsRank, Loses, at_target}
use Rattle.cert_rules.specs.Reasons.{AllPass}
use Rattle.cert_rules.specs.Checks.{needed_after, needed_after_each, rank_checks}
use Rattle.run_counting.proofs.model.Membership.{no_is_not_yes}
use Rattle.run_counting.proofs.model.Entries.{listed-from, listed-sound}
use Rattle.cert_rules.proofs.FormBounds.{not_zero_of_test}
use Rattle.cert_rules.proofs.CheckLists.{each_passes, passes_each, each-in, in-each}
use Rattle.cert_rules.proofs.CheckLists.{each-append, append-each, map-each, each-map, below-each, each-below}
use Rattle.rule_forms.proofs.int_laws.ZeroLaws.{not_zero-complete}

-- a coefficient that isn't 0 is listed
pub listed_coefficient : (cs : List ℤ) (j : ℕ) → at cs j ≢ pos 0 → j < length cs
listed_coefficient [] j n = absurd (n refl)
listed_coefficient (c ∷ cs) zero n = omega arith
listed_coefficient (c ∷ cs) (suc j) n = omega (arith, listed_coefficient cs j n)

-- a coefficient for which the test for 0 fails isn't 0
pub not_zero-sound : (c : ℤ) → not (is_zero c) ≡ true → c ≢ pos 0
not_zero-sound c h = go (is_zero c) refl h
  where
    go : (v : Bool) → is_zero c ≡ v → not v ≡ true → c ≢ pos 0
    go true e k = absurd (no_is_not_yes false refl k)
    go false e k = not_zero_of_test c e

-- a place after a rule has a size
abbrev pub HasSize : Table → ResultVariable → Type 0
HasSize table result_variable = IsKnown (table.size result_variable.rule result_variable.place)

module _ (s : Setting) (table : Table) (node : RankNode) where
  -- each place that the ranking function reads after entry e has a known size
  abbrev Needs : ℕ → Type 0
  Needs e = (j : ℕ) → at (at_target s.program node e).coefs j ≢ pos 0 → IsKnown (table.size e (suc j))

  needs-known : (e : ℕ) → AllByRecursion (HasSize table) (needed_after s node e) → Needs e
  needs-known e h j n =
      below-each (λ i. IsKnown (table.size e (suc i))) (λ i. not (is_zero (at (at_target s.program node e).coefs i)))
      (length (at_target s.program node e).coefs)
      (map-each (HasSize table) (λ i. record { rule = e; place = suc i }) _ h)
      j (listed_coefficient (at_target s.program node e).coefs j n) (not_zero-complete _ n)

  known-needs : (e : ℕ) → Needs e → AllByRecursion (HasSize table) (needed_after s node e)
  known-needs e h =
      each-map (HasSize table) (λ i. record { rule = e; place = suc i }) _
      (each-below (λ i. IsKnown (table.size e (suc i))) (λ i. not (is_zero (at (at_target s.program node e).coefs i)))
      (length (at_target s.program node e).coefs) (λ j k. h j (not_zero-sound _ k)))

  each-known : (es : List ℕ) → AllByRecursion (HasSize table) (needed_after_each s node es) → AllByRecursion Needs es
  each-known [] h = tt
  each-known (e ∷ es) h =
      let k = append-each (HasSize table) (needed_after s node e) (needed_after_each s node es) h in
      (needs-known e k.0, each-known es k.1)

  known-each : (es : List ℕ) → AllByRecursion Needs es → AllByRecursion (HasSize table) (needed_after_each s node es)
  known-each [] h = tt
  known-each (e ∷ es) h =
      each-append (HasSize table) (needed_after s node e) (needed_after_each s node es) (known-needs e h.0)
      (known-each es h.1)

  -- if a ranking node is accepted, its checks pass
  pub rank-passes : AcceptsRank s table node → AllPass (rank_checks s table node)
  rank-passes h = (
    h.shape,
    passes_each _ _ node.set (in-each (λ t. Loses s node t) node.set h.moves) (
      h.floor,
      passes_each _ _ (entries s.program node.set)
          (in-each (λ e. IsKnown (table.time e)) (entries s.program node.set)
          (λ e i. h.times e (listed-sound s.program node.set e i)))
          (passes_each _ _ (needed_after_each s node (entries s.program node.set))
          (known-each (entries s.program node.set) (in-each Needs (entries s.program node.set)
          (λ e i. h.sizes e (listed-sound s.program node.set e i))))
          (h.small, tt)),
    ),
  )

  -- a ranking node whose checks all pass is accepted
  pub passes-rank : AllPass (rank_checks s table node) → AcceptsRank s table node
  passes-rank h =
      let moves = each_passes _ _ node.set h.1 in
      let times = each_passes _ _ (entries s.program node.set) moves.1.1 in
      let sizes = each_passes _ _ (needed_after_each s node (entries s.program node.set)) times.1 in record {
        shape = h.0;
        moves = each-in (λ t. Loses s node t) node.set moves.0;
        floor = moves.1.0;
        times =
            λ e i. each-in (λ e. IsKnown (table.time e)) (entries s.program node.set) times.0 e
            (listed-from s.program node.set e i);
        sizes =
            λ e i. each-in Needs (entries s.program node.set) (each-known (entries s.program node.set) sizes.0) e
            (listed-from s.program node.set e i);
        small = sizes.1.0;
      }
