-- The answer on a ranking node: the first check that fails, or that all pass.
use Rattle.std.proofs.Common.{◌≡◌, inl, inr, ℕ, List, [], ◌∷◌, refl, sym, ap}
use Rattle.std.proofs.Common.{Vec}
use Rattle.std.specs.declared.alloc.Global.{Global}
use Rattle.std.specs.Prelude.{Result, Ok, Err, MatchResult}
use Rattle.std.specs.List.{AllByRecursion}
use Rattle.model.specs.Facts as plain
use Rattle.cert_types.specs.AnswerViews.{reason_of}
use Rattle.cert_types.specs.declared.fact.Fact.{Fact}
use Rattle.cert_context.specs.NodeAnswers.{Refuses, States}
use Rattle.cert_context.specs.declared.refusal.NodeFault.{NodeFault}
use Rattle.cert_context.specs.declared.refusal.NodeFault.TheVariants as fault
use Rattle.bound_table.specs.InForce.{rewritten}
use Rattle.bound_table.specs.RewriteResult.{Fits, TooLarge, rewritten_within}
use Rattle.model.specs.Bounds.{Bound}
use Rattle.model.specs.Entries.{entries}
use Rattle.model.specs.Programs.{Program}
use Rattle.gap_checks.specs.GapTests.{IsFirstFailing}
use Rattle.cert_types.specs.cert_rules.AcceptsRank.{HasRankShape, Loses, HasFloor, rank_time}
use Rattle.cert_types.specs.cert_rules.Checks.{rank_checks, check_time, check_size, check_small}
use Rattle.cert_types.specs.cert_rules.Checks.{needed_after_each}
use Rattle.cert_types.specs.cert_rules.Known.{Table}
use Rattle.cert_types.specs.cert_rules.Nodes.{RankNode, ResultVariable}
use Rattle.cert_types.specs.cert_rules.Reasons.{Reason, Shape, Move, Floor, MissingTime, MissingSize, Large, Check, check}
use Rattle.cert_types.specs.cert_rules.Reasons.{AllPass, IsFirstAmong, for_each}
use Rattle.cert_types.specs.cert_rules.Setting.{Setting}
use Rattle.cert_types.specs.cert_program.Setting.{setting_of}
use Rattle.gap_checks.proofs.GapFaults.{first-of-each, behind-each}
use Rattle.cert_types.proofs.cert_rules.CheckLists.{passes_each}
use Rattle.cert_types.proofs.cert_program.Small.{small-bounds}
use Rattle.cert_context.specs.Needed.{HasTime, HasSize}
use Rattle.cert_types.specs.cert_rules.Checks.{behind_floor}

module _ (s : Setting) (table : Table) (node : RankNode) where
  -- the check that the function decreases as required by rule t
  abbrev check_move : ℕ → Check
  check_move t = check (Move t) (Loses s node t)

  abbrev from_floor : List Check
  from_floor = check Floor (HasFloor s node) ∷ behind_floor s table node

  -- if the shape isn't right, the reason is `Shape`
  pub no-shape : ¬ (HasRankShape s node) → IsFirstAmong (rank_checks s table node) Shape
  no-shape n = inl (n, refl)

  -- if the function may rise by a rule, and by none before it in the set, the reason is that rule
  pub rises : HasRankShape s node → (t : ℕ) → IsFirstFailing (Loses s node) node.set t
      → IsFirstAmong (rank_checks s table node) (Move t)
  rises h t k = inr (h, first-of-each check_move from_floor node.set t k)

  module _ (h : HasRankShape s node) (m : AllByRecursion (Loses s node) node.set) where
    -- if there is no floor, the reason is `Floor`
    pub no-floor : ¬ (HasFloor s node) → IsFirstAmong (rank_checks s table node) Floor
    no-floor n = inr (h, behind-each check_move from_floor node.set Floor m (inl (n, refl)))

    module _ (f : HasFloor s node) where
      -- the first reason among the checks after the floor is that of the node
      pub refused : (r : Reason) → IsFirstAmong (behind_floor s table node) r → IsFirstAmong (rank_checks s table node) r
      refused r k = inr (h, behind-each check_move from_floor node.set r m (inr (f, k)))

      -- if all checks after the floor pass, all checks pass
      pub passed : AllPass (behind_floor s table node) → AllPass (rank_checks s table node)
      passed k = (h, passes_each check_move from_floor node.set m (f, k))

      -- the answer on the checks after the floor is the answer on the node
      pub behind : (r : Result (Vec Fact Global) NodeFault) (fs : List plain.Fact)
          → MatchResult r (λ facts. States (behind_floor s table node) fs facts) (λ e. Refuses (behind_floor s table node) e)
          → MatchResult r (λ facts. States (rank_checks s table node) fs facts) (λ e. Refuses (rank_checks s table node) e)
      behind (Ok facts) fs k = record { passed = passed k.passed; result_is = k.result_is }
      behind (Err (fault.Refused r)) fs k = refused (reason_of r) k
      behind (Err fault.Memory) fs k = tt

module _ (p : Program) (table : Table) (node : RankNode) where
  abbrev s : Setting
  s = setting_of p

  abbrev es : List ℕ
  es = entries p node.set

  abbrev result_variables : List ResultVariable
  result_variables = needed_after_each (setting_of p) node (entries p node.set)

  abbrev last : List Check
  last = check_small (setting_of p) (rank_time (setting_of p) node table) ∷ []

  -- the first entry without a time is the reason
  pub untimed : (t : ℕ) → IsFirstFailing (HasTime table) es t → IsFirstAmong (behind_floor s table node) (MissingTime t)
  untimed t k = first-of-each (check_time table) (for_each (check_size table) result_variables last) es t k

  module _ (m : AllByRecursion (HasTime table) es) where
    -- the first place that is read after an entry and has no size is the reason
    pub missing : (result_variable : ResultVariable) → IsFirstFailing (HasSize table) result_variables result_variable
        → IsFirstAmong (behind_floor s table node) (MissingSize result_variable.rule result_variable.place)
    missing result_variable k =
        behind-each (check_time table) (for_each (check_size table) result_variables last) es _ m
        (first-of-each (check_size table) last result_variables result_variable k)

    module _ (k : AllByRecursion (HasSize table) result_variables) where
      -- if the composed bound is too large, its number of nodes is the reason
      pub large : (n : ℕ) → TooLarge n ≡ rewritten_within (rank_time (setting_of p) node table)
          → IsFirstAmong (behind_floor s table node) (Large n)
      large n e =
          let w = (small-bounds.large (rank_time (setting_of p) node table) n).0 (sym e) in
          behind-each (check_time table) (for_each (check_size table) result_variables last) es _ m
          (behind-each (check_size table) last result_variables _ k (inl (w.0, ap Large (sym w.1))))

      -- if the composed bound is small, it is stated as it is rewritten
      pub small : (b : Bound) → Fits b ≡ rewritten_within (rank_time (setting_of p) node table)
          → AllPass (behind_floor s table node) × (b ≡ rewritten (rank_time (setting_of p) node table))
      small b e =
          let w = (small-bounds.fits (rank_time (setting_of p) node table) b).0 (sym e) in (
            passes_each (check_time table) (for_each (check_size table) result_variables last) es m
                (passes_each (check_size table) last result_variables k (w.0, tt)),
            w.1,
          )
