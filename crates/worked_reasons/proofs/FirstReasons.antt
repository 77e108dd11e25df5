-- Which of several reasons is reported for the place that doubles.
use Rattle.std.proofs.Common.{◌≡◌, ℕ, zero, true, List, None, refl, sym, ◌∙◌, subst, arith}
use Rattle.model.specs.Bounds.{Bound}
use Rattle.model.proofs.Membership.{no_is_not_yes}
use Rattle.cert_types.specs.cert_rules.Checks.{cycle_checks, large_nodes}
use Rattle.cert_types.specs.cert_rules.Nodes.{Member}
use Rattle.cert_types.specs.cert_rules.Reasons as reasons
use Rattle.cert_types.specs.cert_rules.Reasons.{IsFirstAmong}
use Rattle.cert_types.specs.cert_rules.Worked.{doubled_member, doubled}
use Rattle.cert_types.specs.cert_rules.WorkedSettings.{doubling}
use Rattle.cert_types.proofs.cert_rules.CheckLists.{first_is_one}
use Rattle.cert_types.proofs.cert_rules.TestedNodes.{first-cycle}
use Rattle.guard_prep.specs.Tightening.{divisor_of}
use Rattle.cert_types.specs.cert_program.Setting.{setting_of}
use Rattle.cert_types.specs.cert_program.bound_table.InForce.{rewritten}
use Rattle.cert_types.specs.cert_program.bound_table.Rewriting.{simplified, passes_until_same, at_node, parts_passed}
use Rattle.bound_fixpoint.specs.Keys.{Bounds, key, over}
use Rattle.bound_fixpoint.specs.Loops.{do_loop}
use Rattle.outcome.specs.Reports.{SizeUntimed, SizeLarge}
use Rattle.time_bounds.specs.SizeWhys.{LacksFirst, RestsOnSize, GrowsUntimed, SizeIsLarge, composed_size}
use Rattle.worked_reasons.specs.FirstReasons.{untimed_tower_said, timed_tower_said, FirstReasonsAreWorkedOut}
use Rattle.worked_reasons.proofs.DoubleComponents.{doubled_alone}
use Rattle.worked_reasons.proofs.DoubleMembers.{doubled_members}

-- among the premises of its size, the size after the first rule is the first that is missing
missing_fails : (b : Bounds) → b 1 1 ≡ None
    → IsFirstAmong (cycle_checks (setting_of doubling.program) (over b) doubled) (reasons.MissingSize 1 1)
unfolding divisor_of rewritten simplified passes_until_same at_node parts_passed
missing_fails b none =
    first-cycle (setting_of doubling.program) (over b) doubled (reasons.MissingSize 1 1) (rw none refl)

missing : (b : Bounds) → b 1 1 ≡ None → RestsOnSize doubling.program 10 b 2 1 (key 1 1)
missing b none = record {
  members = doubled;
  component = doubled_alone;
  member = doubled_member;
  among = (zero, omega arith, refl);
  takes = record { place = omega arith; before = refl; reads = refl };
  outside = refl;
  missing = none;
  first = (reasons.MissingSize 1 1, refl, missing_fails b none);
}

not_untimed : (b : Bounds) → b 1 1 ≡ None → GrowsUntimed doubling.program 10 b 2 1 2 → ⊥
not_untimed b none h =
    other
    (subst (λ (ms : List Member). LacksFirst (setting_of doubling.program) b ms (SizeUntimed 2))
    (doubled_members h.members h.component) h.first)
  where
    other : LacksFirst (setting_of doubling.program) b doubled (SizeUntimed 2) → ⊥
    other (r, is, fails) =
        let same = first_is_one (cycle_checks (setting_of doubling.program) (over b) doubled) (reasons.MissingSize 1 1) r
        (missing_fails b none) fails in
        (let none : ⊥ = cc in none)

-- if that size is known, the first missing one is the time of its rule
untimed_fails :
    IsFirstAmong (cycle_checks (setting_of doubling.program) (over untimed_tower_said) doubled) (reasons.MissingTime 2)
unfolding divisor_of rewritten simplified passes_until_same at_node parts_passed
untimed_fails = first-cycle (setting_of doubling.program) (over untimed_tower_said) doubled (reasons.MissingTime 2) refl

untimed : GrowsUntimed doubling.program 10 untimed_tower_said 2 1 2
untimed = record {
  members = doubled;
  component = doubled_alone;
  loop = refl;
  uses = refl;
  grows = refl;
  missing = refl;
  first = (reasons.MissingTime 2, refl, untimed_fails);
}

not_large : (n : ℕ) → SizeIsLarge doubling.program 10 untimed_tower_said 2 1 n → ⊥
not_large n h =
    other
    (subst (λ (ms : List Member). LacksFirst (setting_of doubling.program) untimed_tower_said ms (SizeLarge n))
    (doubled_members h.members h.component) h.first)
  where
    other : LacksFirst (setting_of doubling.program) untimed_tower_said doubled (SizeLarge n) → ⊥
    other (r, is, fails) =
        let same = first_is_one (cycle_checks (setting_of doubling.program) (over untimed_tower_said) doubled)
        (reasons.MissingTime 2) r untimed_fails fails in
        (let none : ⊥ = cc in none)

-- if both are known, the reason is the number of nodes
large : SizeIsLarge doubling.program 10 timed_tower_said 2 1 415
unfolding divisor_of rewritten simplified passes_until_same at_node parts_passed
large = record {
  members = doubled;
  component = doubled_alone;
  size = composed_size (do_loop (setting_of doubling.program) doubled) (setting_of doubling.program) (over timed_tower_said)
      doubled;
  composed = refl;
  large = λ h. no_is_not_yes true h.before refl;
  nodes = refl;
  first = (reasons.Large 415, refl, first-cycle (setting_of doubling.program) (over timed_tower_said) doubled (reasons.Large 415) refl);
}

not_so_large : SizeIsLarge doubling.program 10 timed_tower_said 2 1 414 → ⊥
unfolding rewritten simplified passes_until_same at_node parts_passed
not_so_large h = other (h.nodes ∙ nodes_of h.members h.size h.composed (doubled_members h.members h.component))
  where
    other : ◌≡◌ {A = ℕ} 414 415 → ⊥
    other e = omega (arith, e)

    nodes_of : (ms : List Member) (size : Bound)
        → size ≡ composed_size (do_loop (setting_of doubling.program) ms) (setting_of doubling.program)
        (over timed_tower_said) ms → ms ≡ doubled → large_nodes (setting_of doubling.program).rewrite size ≡ 415
    nodes_of ms size e same =
        subst (λ (b : Bound). large_nodes (setting_of doubling.program).rewrite b ≡ 415) (sym e)
        (subst
        (λ (ns : List Member). large_nodes (setting_of doubling.program).rewrite
        (composed_size (do_loop (setting_of doubling.program) ns) (setting_of doubling.program) (over timed_tower_said)
        ns) ≡ 415) (sym same) refl)

pub first_reasons_worked : FirstReasonsAreWorkedOut
first_reasons_worked = record {
  missing = missing;
  not_untimed = not_untimed;
  untimed = untimed;
  not_large = not_large;
  large = large;
  not_so_large = not_so_large;
}
