-- The worked sections spell the expected programs, and are shown, or aren't, as stated.
use Rattle.std.proofs.Common.{◌≡◌, ℕ, zero, suc, ◌<◌, List, [], ◌∷◌, ◌++◌, length, map, ℤ, pos, Some}
use Rattle.std.proofs.Common.{refl, sym, ◌∙◌, ap, subst, arith}
use Rattle.std.specs.Prelude.{slice_get, slice_index_or}
use Rattle.std.specs.List.{All, Contains}
use Rattle.std.proofs.lemmas.Int.{ints}
use Rattle.std.proofs.lemmas.List.Elements.{All-nil, All-from_recursion}
use Rattle.model.specs.Terms.{Term, Variable, Negation, value}
use Rattle.model.specs.Programs.{Atom, Always, Rule, Program, rule_at, AtomHolds, GuardHolds}
use Rattle.model.specs.WorkedRuns.{entering, looping, countdown}
use Rattle.model.proofs.Cases.{none_some, some_same}
use Rattle.refinement.specs.Lifted.{AreCopies}
use Rattle.refinement.specs.Sections.{Copy, To, Never, Branch, Section, passes, fails, spelled, projection_of}
use Rattle.refinement.specs.Obligations.{NoneMeet, ReadsFirst, guard_along, guard_with_failure, IsShownAt, AreCasesShown}
use Rattle.refinement.specs.Obligations.{IsBranchOf, IsBranchShown, HasBranch, HasBranches, IsShown}
use Rattle.refinement.specs.Worked.{SectionsSpell, ExpressionsAreMoved, SectionsAreShown, less, entry_copy, loop_copy}
use Rattle.refinement.specs.Worked.{end_copy, enters_by_sign, loops_by, never_loops, split, split_by_sign, without_last}
use Rattle.refinement.specs.Worked.{with_start_fact, with_other_first, with_branch, entering_down, entering_from_3, from_3}
use Rattle.refinement.specs.Worked.{at_least}

-- rules 1 and 2 of the spelled program are all copies of rule 1
two_copies : AreCopies (spelled countdown split_by_sign) (projection_of countdown split_by_sign) 1 (1 ∷ 2 ∷ [])
two_copies = record { each = go }
  where
    go : (t : ℕ) (r : Rule) → rule_at (spelled countdown split_by_sign) t ≡ Some r
        → (projection_of countdown split_by_sign).rule t ≡ 1 → Contains (1 ∷ 2 ∷ []) t
    go zero r h e = absurd (none_some r h)
    go (suc zero) r h e = (0, omega arith, refl)
    go (suc (suc zero)) r h e = (1, omega arith, refl)
    go (suc (suc (suc zero))) r h e = absurd (omega (arith, e))
    go (suc (suc (suc (suc t)))) r h e = absurd (none_some r h)

-- rule 3 of the spelled program is the only copy of rule 2
one_copy : AreCopies (spelled countdown split_by_sign) (projection_of countdown split_by_sign) 2 (1 ∷ 3 ∷ [])
one_copy = record { each = go }
  where
    go : (t : ℕ) (r : Rule) → rule_at (spelled countdown split_by_sign) t ≡ Some r
        → (projection_of countdown split_by_sign).rule t ≡ 2 → Contains (1 ∷ 3 ∷ []) t
    go zero r h e = absurd (none_some r h)
    go (suc zero) r h e = absurd (omega (arith, e))
    go (suc (suc zero)) r h e = absurd (omega (arith, e))
    go (suc (suc (suc zero))) r h e = (1, omega arith, refl)
    go (suc (suc (suc (suc t)))) r h e = absurd (none_some r h)

-- 2 is not in the list of 1
not_other : Contains {X = ℕ} (1 ∷ []) 2 → ⊥
not_other (zero, low, at) = omega (arith, at)
not_other (suc k, low, at) = omega (arith, low)

pub sections_spell : SectionsSpell
sections_spell = record {
  to_copy = refl;
  to_nowhere = refl;
  by_test = refl;
  program = refl;
  first_rule = refl;
  second_rule = refl;
  third_rule = refl;
  entry = refl;
  past_the_rules = refl;
  first_symbol = refl;
  second_symbol = refl;
  third_symbol = refl;
  copies = two_copies;
  more_copies = one_copy;
  fewer_copies = λ h. not_other (h.each 2 entering_down refl refl);
}

-- the second of two values doesn't depend on the values after them
second_reads : (values more : List ℤ) → length values ≡ 2
    → value (Variable 1) (values ++ more) ≡ value (Variable 1) values
second_reads [] more h = absurd (omega (arith, h))
second_reads (a ∷ []) more h = absurd (omega (arith, h))
second_reads (a ∷ b ∷ values) more h = refl

pub expressions_are_moved : ExpressionsAreMoved
expressions_are_moved = record {
  difference = refl;
  past_the_updates = refl;
  reads_second = record { each = second_reads };
  reads_third = λ h. omega (arith, ints, h.each (pos 0 ∷ pos 0 ∷ []) (pos 1 ∷ []) refl);
}

-- if a branch is shown, its cases are
shown-cases : (p : Program) (section : Section) (b : Branch) (copy : Copy) (r : Rule)
    → slice_get section.copies b.source ≡ Some copy → rule_at p b.rule ≡ Some r → IsBranchShown NoneMeet p section b
    → AreCasesShown NoneMeet section r (map passes copy.facts) b.cases
shown-cases p section b copy r there numbered h =
    let same_copy : h.copy ≡ copy = some_same h.copy copy (sym h.fits.there ∙ there) in
    let same_rule : h.rule ≡ r = some_same h.rule r (sym h.fits.numbered ∙ numbered) in
    subst (λ (x : Rule). AreCasesShown NoneMeet section x (map passes copy.facts) b.cases) same_rule
    (subst (λ (c : Copy). AreCasesShown NoneMeet section h.rule (map passes c.facts) b.cases) same_copy h.cases)

-- if a path to a copy is shown, the facts of the copy can't fail after it
shown-facts : (section : Section) (r : Rule) (atoms : List Atom) (k : ℕ) (copy : Copy)
    → slice_get section.copies k ≡ Some copy → IsShownAt NoneMeet section r atoms k
    → All (λ f. NoneMeet r (guard_with_failure r atoms f)) copy.facts
shown-facts section r atoms k copy there h =
    let same : h.copy ≡ copy = some_same h.copy copy (sym h.there ∙ there) in
    subst (λ (c : Copy). All (λ f. NoneMeet r (guard_with_failure r atoms f)) c.facts) same h.facts

-- after entering with A at least 0, A is at least 0; and after entering with A below 0, it is below 0
pub entered-up : NoneMeet entering (guard_with_failure entering (passes (Variable 0) ∷ []) (Variable 0))
entered-up = record { none = λ env len holds. omega (arith, ints, holds 0 Always (omega arith), holds 1 Always (omega arith)) }

pub entered-down : NoneMeet entering
    (guard_with_failure entering (fails (Variable 0) ∷ []) (less (Negation (Variable 0)) 1))
entered-down = record { none = λ env len holds. omega (arith, ints, holds 0 Always (omega arith), holds 1 Always (omega arith)) }

-- after looping with A at least 0, A is at least 0, since it was at least 1
pub looped-up : NoneMeet looping (guard_with_failure looping (passes (Variable 0) ∷ []) (Variable 0))
looped-up = record { none = λ env len holds. omega (arith, ints, holds 0 Always (omega arith), holds 3 Always (omega arith)) }

-- with A below 0 the looping rule is never enabled
pub no-loop : NoneMeet looping (guard_along looping (passes (less (Negation (Variable 0)) 1) ∷ []))
no-loop = record { none = λ env len holds. omega (arith, ints, holds 0 Always (omega arith), holds 2 Always (omega arith)) }

-- the first of at least one value doesn't depend on the values after them
first_reads : (n : ℕ) (values more : List ℤ) → length values ≡ suc n
    → slice_index_or (values ++ more) 0 (pos 0) ≡ slice_index_or values 0 (pos 0)
first_reads n [] more h = absurd (omega (arith, h))
first_reads n (a ∷ values) more h = refl

-- the branches of the section by sign are of rules that leave their copies' symbols
pub fits_1 : IsBranchOf countdown split_by_sign enters_by_sign entry_copy entering
fits_1 = record { there = refl; numbered = refl; leaves = refl; over_left = All-nil (ReadsFirst 2) }

pub fits_2 : IsBranchOf countdown split_by_sign (loops_by (To 1)) (loop_copy (Variable 0)) looping
fits_2 = record {
  there = refl;
  numbered = refl;
  leaves = refl;
  over_left = All-from_recursion (ReadsFirst 2) (Variable 0 ∷ []) (record { each = first_reads 1 }, tt);
}

pub fits_3 : IsBranchOf countdown split_by_sign never_loops end_copy looping
fits_3 = record {
  there = refl;
  numbered = refl;
  leaves = refl;
  over_left = All-from_recursion (ReadsFirst 2) (less (Negation (Variable 0)) 1 ∷ [])
      (record { each = λ values more h. ap (λ (z : ℤ). value (less (Negation (Variable 0)) 1) (z ∷ [])) (first_reads 1 values more h) }, tt);
}

-- the branches of the section by sign are shown
branch_1 : IsBranchShown NoneMeet countdown split_by_sign enters_by_sign
branch_1 = record {
  copy = entry_copy;
  rule = entering;
  fits = fits_1;
  cases = (
    record {
      copy = loop_copy (Variable 0);
      there = refl;
      target = refl;
      facts = All-from_recursion (λ f. NoneMeet entering (guard_with_failure entering (passes (Variable 0) ∷ []) f))
          (Variable 0 ∷ []) (entered-up, tt);
    },
    record {
      copy = end_copy;
      there = refl;
      target = refl;
      facts = All-from_recursion (λ f. NoneMeet entering (guard_with_failure entering (fails (Variable 0) ∷ []) f))
          (less (Negation (Variable 0)) 1 ∷ []) (entered-down, tt);
    },
  );
}

branch_2 : IsBranchShown NoneMeet countdown split_by_sign (loops_by (To 1))
branch_2 = record {
  copy = loop_copy (Variable 0);
  rule = looping;
  fits = fits_2;
  cases = record {
    copy = loop_copy (Variable 0);
    there = refl;
    target = refl;
    facts = All-from_recursion (λ f. NoneMeet looping (guard_with_failure looping (passes (Variable 0) ∷ []) f))
        (Variable 0 ∷ []) (looped-up, tt);
  };
}

branch_3 : IsBranchShown NoneMeet countdown split_by_sign never_loops
branch_3 = record {
  copy = end_copy;
  rule = looping;
  fits = fits_3;
  cases = no-loop;
}

-- each rule has its branch at each copy
three_branches : HasBranches countdown split_by_sign
three_branches = record { each = go }
  where
    go : (k : ℕ) (copy : Copy) (t : ℕ) (r : Rule) → slice_get split_by_sign.copies k ≡ Some copy
        → rule_at countdown t ≡ Some r → r.source ≡ copy.over → HasBranch split_by_sign k t
    go k copy zero r there numbered leaves = absurd (none_some r numbered)
    go k copy (suc (suc (suc t))) r there numbered leaves = absurd (none_some r numbered)
    go zero copy (suc zero) r there numbered leaves =
        record { branch = enters_by_sign; member = (0, omega arith, refl); source = refl; rule = refl }
    go (suc zero) copy (suc (suc zero)) r there numbered leaves =
        record { branch = loops_by (To 1); member = (1, omega arith, refl); source = refl; rule = refl }
    go (suc (suc zero)) copy (suc (suc zero)) r there numbered leaves =
        record { branch = never_loops; member = (2, omega arith, refl); source = refl; rule = refl }
    go zero copy (suc (suc zero)) r there numbered leaves =
        let over = ap (λ (c : Copy). c.over) (some_same entry_copy copy there) in
        let source = ap (λ (x : Rule). x.source) (some_same looping r numbered) in
        absurd (omega (arith, over, source, leaves))
    go (suc zero) copy (suc zero) r there numbered leaves =
        let over = ap (λ (c : Copy). c.over) (some_same (loop_copy (Variable 0)) copy there) in
        let source = ap (λ (x : Rule). x.source) (some_same entering r numbered) in
        absurd (omega (arith, over, source, leaves))
    go (suc (suc zero)) copy (suc zero) r there numbered leaves =
        let over = ap (λ (c : Copy). c.over) (some_same end_copy copy there) in
        let source = ap (λ (x : Rule). x.source) (some_same entering r numbered) in
        absurd (omega (arith, over, source, leaves))
    go (suc (suc (suc k))) copy (suc zero) r there numbered leaves = absurd (none_some copy there)
    go (suc (suc (suc k))) copy (suc (suc zero)) r there numbered leaves = absurd (none_some copy there)

pub by_sign_shown : IsShown countdown split_by_sign
by_sign_shown = record {
  first = record { copy = entry_copy; there = refl; start = refl; facts = refl };
  branches = All-from_recursion (IsBranchShown NoneMeet countdown split_by_sign) split_by_sign.branches
      (branch_1, (branch_2, (branch_3, tt)));
  complete = three_branches;
}

-- values at which the loop is used with A at least 0: A is 1 and B is 0
abbrev one_zero : List ℤ
one_zero = pos 1 ∷ pos 0 ∷ []

loop-at-one : GuardHolds one_zero (guard_along looping (passes (Variable 0) ∷ []))
loop-at-one = All-from_recursion (AtomHolds one_zero) (guard_along looping (passes (Variable 0) ∷ []))
    (omega (arith, ints), (omega (arith, ints), (omega (arith, ints), tt)))

-- the fact that A is at least 1 fails after looping at these values
fails-at-one : GuardHolds one_zero (guard_with_failure looping (passes (less (Variable 0) 1) ∷ []) (less (Variable 0) 1))
fails-at-one = All-from_recursion (AtomHolds one_zero)
    (guard_with_failure looping (passes (less (Variable 0) 1) ∷ []) (less (Variable 0) 1))
    (omega (arith, ints), (omega (arith, ints), (omega (arith, ints), (omega (arith, ints), tt))))

pub not_too_strong : IsShown countdown (split (less (Variable 0) 1) (To 1)) → ⊥
not_too_strong h =
    let fact : Term = less (Variable 0) 1 in
    let cases = shown-cases countdown (split fact (To 1)) (loops_by (To 1)) (loop_copy fact) looping refl refl
    (h.branches 1 never_loops (omega arith)) in
    let facts = shown-facts (split fact (To 1)) looping (passes fact ∷ []) 1 (loop_copy fact) refl cases in
    (facts 0 fact (omega arith)).none one_zero refl fails-at-one

not_never : IsShown countdown (split (Variable 0) Never) → ⊥
not_never h =
    let cases = shown-cases countdown (split (Variable 0) Never) (loops_by Never) (loop_copy (Variable 0)) looping refl
    refl (h.branches 1 never_loops (omega arith)) in
    cases.none one_zero refl loop-at-one

not_other_symbol : IsShown countdown (split (Variable 0) (To 0)) → ⊥
not_other_symbol h =
    let cases = shown-cases countdown (split (Variable 0) (To 0)) (loops_by (To 0)) (loop_copy (Variable 0)) looping refl
    refl (h.branches 1 never_loops (omega arith)) in
    omega (arith, ap (λ (c : Copy). c.over) (some_same entry_copy cases.copy cases.there), cases.target)

not_no_copy : IsShown countdown (split (Variable 0) (To 3)) → ⊥
not_no_copy h =
    let cases = shown-cases countdown (split (Variable 0) (To 3)) (loops_by (To 3)) (loop_copy (Variable 0)) looping refl
    refl (h.branches 1 never_loops (omega arith)) in
    none_some cases.copy cases.there

not_missing : IsShown countdown without_last → ⊥
not_missing h = go (h.complete.each 2 end_copy 2 looping refl refl refl)
  where
    at : (b : Branch) (k : ℕ) → k < 2 → slice_index_or without_last.branches k b ≡ b → b.source ≡ 2 → ⊥
    at b zero low same source = omega (arith, ap (λ (x : Branch). x.source) same, source)
    at b (suc zero) low same source = omega (arith, ap (λ (x : Branch). x.source) same, source)
    at b (suc (suc k)) low same source = omega (arith, low)

    go : HasBranch without_last 2 2 → ⊥
    go b = at b.branch (b.member).0 (b.member).1 (b.member).2 b.source

not_with_fact : IsShown countdown with_start_fact → ⊥
not_with_fact h =
    let start : Copy = record { name = 97 ∷ []; over = 0; facts = Variable 0 ∷ [] } in
    let same : Variable 0 ∷ [] ≡ [] = ap (λ (c : Copy). c.facts) (some_same start h.first.copy h.first.there) ∙ h.first.facts in
    omega (arith, ap (length {A = Term}) same)

-- the section with one more branch isn't shown: of rule 1 at `b`, and of rule 3, which doesn't exist
not_other_source : IsShown countdown (with_branch 1) → ⊥
not_other_source h =
    let b : Branch = record { source = 1; rule = 1; cases = To 1 } in
    let shown : IsBranchShown NoneMeet countdown (with_branch 1) b = h.branches 0 b (omega arith) in
    let over = ap (λ (c : Copy). c.over) (some_same (loop_copy (Variable 0)) shown.copy shown.fits.there) in
    let source = ap (λ (x : Rule). x.source) (some_same entering shown.rule shown.fits.numbered) in
    omega (arith, over, source, shown.fits.leaves)

not_no_rule : IsShown countdown (with_branch 3) → ⊥
not_no_rule h =
    let b : Branch = record { source = 1; rule = 3; cases = To 1 } in
    let shown : IsBranchShown NoneMeet countdown (with_branch 3) b = h.branches 0 b (omega arith) in
    none_some shown.rule shown.fits.numbered

-- the section with a fact that reads a third variable isn't shown
not_third_variable : IsShown countdown (split (Variable 2) (To 1)) → ⊥
not_third_variable h =
    let b : Branch = loops_by (To 1) in
    let shown : IsBranchShown NoneMeet countdown (split (Variable 2) (To 1)) b = h.branches 1 b (omega arith) in
    let same_copy : shown.copy ≡ loop_copy (Variable 2) =
    sym (some_same (loop_copy (Variable 2)) shown.copy shown.fits.there) in
    let same_rule : shown.rule ≡ looping = sym (some_same looping shown.rule shown.fits.numbered) in
    let left : shown.rule.left ≡ 2 = ap (λ (x : Rule). x.left) same_rule in
    let facts : All (ReadsFirst 2) (Variable 2 ∷ []) =
    subst (λ (n : ℕ). All (ReadsFirst n) (Variable 2 ∷ [])) left
    (subst (λ (c : Copy). All (ReadsFirst shown.rule.left) c.facts) same_copy shown.fits.over_left) in
    omega (arith, ints, (facts 0 (Variable 2) (omega arith)).each (pos 0 ∷ pos 0 ∷ []) (pos 1 ∷ []) refl)

not_other_first : IsShown countdown with_other_first → ⊥
not_other_first h =
    let first : Copy = record { name = 97 ∷ []; over = 1; facts = [] } in
    omega (arith, ap (λ (c : Copy). c.over) (some_same first h.first.copy h.first.there), h.first.start)

-- after the rule with the guard A >= 3, A is at least 3
behind_3 : NoneMeet entering_from_3 (guard_with_failure entering_from_3 [] (less (Variable 0) 3))
behind_3 = record { none = λ env len holds. omega (arith, ints, holds 0 Always (omega arith), holds 1 Always (omega arith)) }

-- the only branch of that section is shown
from_3_branch : IsBranchShown NoneMeet from_3 (at_least 3) (record { source = 0; rule = 1; cases = To 1 })
from_3_branch = record {
  copy = entry_copy;
  rule = entering_from_3;
  fits = record { there = refl; numbered = refl; leaves = refl; over_left = All-nil (ReadsFirst 1) };
  cases = record {
    copy = loop_copy (less (Variable 0) 3);
    there = refl;
    target = refl;
    facts = All-from_recursion (λ f. NoneMeet entering_from_3 (guard_with_failure entering_from_3 [] f))
        (less (Variable 0) 3 ∷ []) (behind_3, tt);
  };
}

one_branch : HasBranches from_3 (at_least 3)
one_branch = record { each = go }
  where
    go : (k : ℕ) (copy : Copy) (t : ℕ) (r : Rule) → slice_get (at_least 3).copies k ≡ Some copy
        → rule_at from_3 t ≡ Some r → r.source ≡ copy.over → HasBranch (at_least 3) k t
    go k copy zero r there numbered leaves = absurd (none_some r numbered)
    go k copy (suc (suc t)) r there numbered leaves = absurd (none_some r numbered)
    go zero copy (suc zero) r there numbered leaves =
        record { branch = record { source = 0; rule = 1; cases = To 1 }; member = (0, omega arith, refl); source = refl; rule = refl }
    go (suc zero) copy (suc zero) r there numbered leaves =
        let over = ap (λ (c : Copy). c.over) (some_same (loop_copy (less (Variable 0) 3)) copy there) in
        let source = ap (λ (x : Rule). x.source) (some_same entering_from_3 r numbered) in
        absurd (omega (arith, over, source, leaves))
    go (suc (suc k)) copy (suc zero) r there numbered leaves = absurd (none_some copy there)

pub at_least_3_shown : IsShown from_3 (at_least 3)
at_least_3_shown = record {
  first = record { copy = entry_copy; there = refl; start = refl; facts = refl };
  branches = All-from_recursion (IsBranchShown NoneMeet from_3 (at_least 3)) (at_least 3).branches (from_3_branch, tt);
  complete = one_branch;
}

-- at 3, A isn't at least 4
fails-at-3 : GuardHolds (pos 3 ∷ []) (guard_with_failure entering_from_3 [] (less (Variable 0) 4))
fails-at-3 = All-from_recursion (AtomHolds (pos 3 ∷ [])) (guard_with_failure entering_from_3 [] (less (Variable 0) 4))
    (omega (arith, ints), (omega (arith, ints), tt))

not_at_least_4 : IsShown from_3 (at_least 4) → ⊥
not_at_least_4 h =
    let fact : Term = less (Variable 0) 4 in
    let b : Branch = record { source = 0; rule = 1; cases = To 1 } in
    let cases = shown-cases from_3 (at_least 4) b entry_copy entering_from_3 refl refl (h.branches 0 b (omega arith)) in
    let facts = shown-facts (at_least 4) entering_from_3 [] 1 (loop_copy fact) refl cases in
    (facts 0 fact (omega arith)).none (pos 3 ∷ []) refl fails-at-3

pub sections_are_shown : SectionsAreShown
sections_are_shown = record {
  by_sign = by_sign_shown;
  too_strong = not_too_strong;
  never = not_never;
  other_symbol = not_other_symbol;
  no_copy = not_no_copy;
  other_source = not_other_source;
  no_rule = not_no_rule;
  third_variable = not_third_variable;
  other_first = not_other_first;
  missing_branch = not_missing;
  start_fact = not_with_fact;
  at_least_3 = at_least_3_shown;
  at_least_4 = not_at_least_4;
}
