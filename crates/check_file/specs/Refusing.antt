-- Why a part of a lemma isn't accepted.
use Rattle.std.specs.Prelude.{◌≡◌, ℕ, ◌+◌, List, ⊤}
use Rattle.std.specs.List.{AllByRecursion}
use Rattle.model.specs.Facts.{Fact}
use Rattle.cert_types.specs.AnswerViews.{reason_of}
use Rattle.cert_types.specs.cert_rules.Nodes.{Proof}
use Rattle.cert_types.specs.cert_rules.Acceptance.{AcceptsNode}
use Rattle.cert_types.specs.cert_rules.Setting.{Setting}
use Rattle.cert_types.specs.cert_rules.Checks.{IsFirstReason}
use Rattle.cert_types.specs.cert_rules.Refusals.{FailsFirst}
use Rattle.check_file.specs.declared.refusal.TreeFault.{TreeFault}
use Rattle.check_file.specs.declared.refusal.TreeFault.TheVariants as tree

-- each of these nodes is accepted by itself
abbrev pub ArePassed : Setting → List (List Fact) → List Proof → Type 0
ArePassed s past nodes = AllByRecursion (AcceptsNode s past) nodes

-- after this many nodes were counted, the first of these nodes that isn't accepted is reported, with its number and its
-- first reason; running out of memory is always permitted
abbrev pub RefusesAmong : Setting → List (List Fact) → List Proof → ℕ → TreeFault → Type 0
RefusesAmong s past nodes before (tree.Refused number reason) =
    (n : ℕ) × (number ≡ before + n)
    × FailsFirst (AcceptsNode s past) (IsFirstReason s past) nodes n (reason_of reason)
RefusesAmong s past nodes before tree.Memory = ⊤
