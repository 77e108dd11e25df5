-- The list of the entries of a set contains exactly its entries.
use Rattle.std.proofs.Common.{◌≡◌, ℕ, zero, suc, ◌+◌, not, Bool, true, false, List, length, Option, Some, None, refl}
use Rattle.std.proofs.Common.{arith, slice_get}
use Rattle.std.specs.List.{range_with_len, Contains}
use Rattle.std.specs.List.Sorted.{IsStrictlyIncreasing}
use Rattle.std.proofs.lemmas.Bool.{and_from, and_parts, not_from_false, not-true}
use Rattle.std.proofs.lemmas.List.Kept.{IsStrictlyIncreasing-filter}
use Rattle.std.proofs.lemmas.List.FromFn.{length-range_with_len, get_or-range_with_len}
use Rattle.model.specs.Programs.{Program, Rule}
use Rattle.model.specs.Paths.{source_of, target_of, target_in, same_symbol, entry_and_rules}
use Rattle.model.specs.Entries.{is_in, IsEntry, is_left_by, enters, entries, EntriesAreListed}
use Rattle.model.proofs.Membership.{no_is_not_yes, is_in-filter, filter-in, list_any-from, list_any-sound}
use Rattle.model.proofs.Membership.{contains-is_in, is_in-contained, rule_is_numbered, entry_is_numbered}

-- whatever has a target is the virtual entry or a rule
leads_is_numbered : (p : Program) (e : ℕ) (o : Option ℕ) → same_symbol (target_of p e) o ≡ true
    → is_in e (entry_and_rules p) ≡ true
leads_is_numbered p zero o h = entry_is_numbered p
leads_is_numbered p (suc t) o h = go (slice_get p.rules t) refl h
  where
    go : (q : Option Rule) → slice_get p.rules t ≡ q → same_symbol (target_in q) o ≡ true
        → is_in (suc t) (entry_and_rules p) ≡ true
    go None e k = absurd (no_is_not_yes false refl k)
    go (Some r) e k = rule_is_numbered p (suc t) r e

-- a number that a list doesn't contain fails the test of being in it
not_in : (set : List ℕ) (e : ℕ) → ¬ (Contains set e) → is_in e set ≡ false
not_in set e out = go (is_in e set) refl
  where
    go : (v : Bool) → is_in e set ≡ v → is_in e set ≡ false
    go true h = absurd (out (contains-is_in set e h))
    go false h = h

-- an entry is in the list of the entries
pub listed-from : (p : Program) (set : List ℕ) (e : ℕ) → IsEntry p set e → is_in e (entries p set) ≡ true
listed-from p set e h =
    is_in-filter (enters p set) (entry_and_rules p) e
    (leads_is_numbered p e (source_of p h.member) h.before)
    (and_from (not (is_in e set)) (is_left_by p set (target_of p e)) (not_from_false (is_in e set) (not_in set e h.outside))
    (list_any-from (λ t. same_symbol (target_of p e) (source_of p t)) set h.member (is_in-contained set h.member h.inside)
    h.before))

-- a number in the list of the entries is an entry
pub listed-sound : (p : Program) (set : List ℕ) (e : ℕ) → is_in e (entries p set) ≡ true → IsEntry p set e
listed-sound p set e h =
    let passed = filter-in (enters p set) (entry_and_rules p) e h in
    let both = and_parts (not (is_in e set)) (is_left_by p set (target_of p e)) passed.1 in
    let found = list_any-sound (λ t. same_symbol (target_of p e) (source_of p t)) set both.1 in record {
      outside = λ c. no_is_not_yes (is_in e set) (not-true (is_in e set) both.0) (is_in-contained set e c);
      member = found.0;
      inside = contains-is_in set found.0 found.1;
      before = found.2;
    }

-- the list of the first n numbers ascends
numbers_ascend : (n : ℕ) → IsStrictlyIncreasing (range_with_len 0 n)
numbers_ascend n k low =
    let size = length-range_with_len 0 n in
    let here = get_or-range_with_len 0 n k 0 (omega (arith, size, low)) in
    let next = get_or-range_with_len 0 n (k + 1) 0 (omega (arith, size, low)) in
    omega (arith, here, next)

-- the list of the entries contains exactly the entries, and ascends
pub entries_are_listed : (p : Program) (set : List ℕ) → EntriesAreListed p set
entries_are_listed p set = record {
  each = λ e. (
    λ h. listed-sound p set e (is_in-contained (entries p set) e h),
    λ h. contains-is_in (entries p set) e (listed-from p set e h),
  );
  ascending =
      IsStrictlyIncreasing-filter (enters p set) (entry_and_rules p) (numbers_ascend (suc (length p.rules)));
}
