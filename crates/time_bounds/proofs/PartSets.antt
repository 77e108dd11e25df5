-- The sets of a round, and those of its components.
use Rattle.std.proofs.Common.{◌≡◌, ◌≢◌, ◌⊎◌, inl, inr, ℕ, ◌<◌, ◌≤◌, ◌==◌, Bool, true, false, List, length, get_or}
use Rattle.std.proofs.Common.{get_or-set_other, set, replicate, Option, Some, None, sym, ◌∙◌, ap, subst, arith}
use Rattle.std.proofs.lemmas.Bool.{cases_lt}
use Rattle.std.proofs.lemmas.Bool.Decides.{eqb_tells}
use Rattle.std.proofs.lemmas.List.{get_or_past, get_or-replicate, length-set, length-replicate}
use Rattle.std.proofs.lemmas.Grind.{get_or-set_at}
use Rattle.model.specs.Programs.{Program}
use Rattle.model.specs.Paths.{IsInSet}
use Rattle.its_graph.specs.Graphs.{flagged, ArePartsBelow, HaveSameSets}
use Rattle.rank_search.specs.rule_questions.ProgramQuestions.{places_of}
use Rattle.bound_fixpoint.specs.Keys.{is_untimed}
use Rattle.bound_fixpoint.specs.Sets.{IsSetOfRule, AreShutOf}
use Rattle.size_bounds.specs.declared.table.Table as code
use Rattle.size_bounds.specs.Tables.{bounds_in}
use Rattle.time_bounds.specs.declared.parts.OpenSet.{OpenSet}
use Rattle.time_bounds.specs.declared.parts.Parts.{Parts}
use Rattle.time_bounds.specs.Parts.{AreParts, IsOpenSet}
use Rattle.time_bounds.specs.Questions.{AreUntimed}
use Rattle.time_bounds.proofs.SetLaws.{in_set}

none_some : {A : Type 0} (a : A) → None ≡ Some a → ⊥
none_some a e = cc

-- an index that has a component is in the list
within_list : (xs : List (Option ℕ)) (t m : ℕ) → get_or xs t None ≡ Some m → t < length xs
within_list xs t m e = go (cases_lt t (length xs))
  where
    go : (t < length xs) ⊎ (length xs ≤ t) → t < length xs
    go (inl low) = low
    go (inr high) = absurd (none_some m (sym (get_or_past xs t None high) ∙ e))

-- the same set for a rule that is given by the table
set_by_table : (p : Program) (tab : code.Table) (flags : List Bool) (of_rules : List (Option ℕ)) → AreUntimed p tab flags
    → length of_rules ≡ length flags → HaveSameSets p (flagged flags) of_rules
    → HaveSameSets p (is_untimed (bounds_in tab)) of_rules
set_by_table p tab flags of_rules h size same t u m open_t open_u et eu e inside =
    let low_t : t ≤ length p.rules = omega (arith, within_list of_rules t m et, size, h.one_each) in
    let low_u : u ≤ length p.rules = omega (arith, within_list of_rules u m eu, size, h.one_each) in
    in_set p (flagged flags) (is_untimed (bounds_in tab)) h.each u e
    (same t u m (h.each t low_t ∙ open_t) (h.each u low_u ∙ open_u) et eu e
    (in_set p (is_untimed (bounds_in tab)) (flagged flags) (λ i l. sym (h.each i l)) t e inside))

abbrev nothing : Option OpenSet
nothing = None

-- an empty list has no set
none_there : (n m : ℕ) (s : OpenSet) → get_or (replicate n nothing) m nothing ≡ Some s → ⊥
none_there n m s e = go (cases_lt m n)
  where
    go : (m < n) ⊎ (n ≤ m) → ⊥
    go (inl low) = none_some s (sym (get_or-replicate n m nothing nothing low) ∙ e)
    go (inr high) =
        none_some s (sym (get_or_past (replicate n nothing) m nothing (omega (arith, high, length-replicate n nothing))) ∙ e)

-- before a set is computed, the parts are right
pub parts_begin : (p : Program) (tab : code.Table) (n : ℕ) (parts : Parts) → AreUntimed p tab parts.untimed.items
    → length parts.of_rules.items ≡ length parts.untimed.items → ArePartsBelow n parts.of_rules.items
    → HaveSameSets p (flagged parts.untimed.items) parts.of_rules.items → parts.found.items ≡ replicate n None
    → AreParts p tab parts
parts_begin p tab n parts h size below same none = record {
  flags = h;
  one_each = size ∙ h.one_each;
  within = λ t m e. omega (arith, below t m e, ap length none, length-replicate n nothing);
  same = set_by_table p tab parts.untimed.items parts.of_rules.items h size same;
  found = λ t m s open_t e f. absurd (none_there n m s (ap (λ (xs : List (Option OpenSet)). get_or xs m None) (sym none) ∙ f));
}

-- a set with the same rules and the same shut places
pub open_copy : (p : Program) (tab : code.Table) (t : ℕ) (s r : OpenSet) → r.set.items ≡ s.set.items
    → r.shut.items ≡ s.shut.items → IsOpenSet p tab t s → IsOpenSet p tab t r
open_copy p tab t s r e f h = record {
  set = subst (λ (xs : List ℕ). IsSetOfRule p (bounds_in tab) t xs) (sym e) h.set;
  shut = subst (λ (xs : List ℕ). AreShutOf p (bounds_in tab) xs (places_of r.shut.items)) (sym e)
      (subst (λ (ys : List (ℕ × ℕ)). AreShutOf p (bounds_in tab) s.set.items (places_of ys)) (sym f) h.shut);
}

-- the set of a rule is that of each other rule of its component
open_other : (p : Program) (tab : code.Table) (t u : ℕ) (s : OpenSet)
    → ((e : ℕ) → IsInSet p (is_untimed (bounds_in tab)) t e → IsInSet p (is_untimed (bounds_in tab)) u e)
    → ((e : ℕ) → IsInSet p (is_untimed (bounds_in tab)) u e → IsInSet p (is_untimed (bounds_in tab)) t e)
    → IsOpenSet p tab t s → IsOpenSet p tab u s
open_other p tab t u s onto back h = record {
  set = record {
    ascending = h.set.ascending;
    members = λ e. (λ k. onto e ((h.set.members e).0 k), λ k. (h.set.members e).1 (back e k));
  };
  shut = h.shut;
}

-- the computed set of a rule is stored for its component
pub found_more : (p : Program) (tab : code.Table) (old new : Parts) (u part : ℕ) (r : OpenSet)
    → new.untimed.items ≡ old.untimed.items → new.of_rules.items ≡ old.of_rules.items → new.found.items ≡ set old.found.items part (Some r)
    → is_untimed (bounds_in tab) u ≡ true → get_or old.of_rules.items u None ≡ Some part → IsOpenSet p tab u r
    → AreParts p tab old → AreParts p tab new
found_more p tab old new u part r same_flags same_rules put open_u eu right h = record {
  flags = subst (AreUntimed p tab) (sym same_flags) h.flags;
  one_each = ap length same_rules ∙ h.one_each;
  within = λ t m e. omega (arith, h.within t m (there t m e), ap length put, length-set old.found.items part (Some r));
  same = subst (λ (xs : List (Option ℕ)). HaveSameSets p (is_untimed (bounds_in tab)) xs) (sym same_rules) h.same;
  found = λ t m s open_t e f. go t m s open_t (there t m e)
      (ap (λ (xs : List (Option OpenSet)). get_or xs m None) (sym put) ∙ f) (eqb_tells m part);
}
  where
    there : (t m : ℕ) → get_or new.of_rules.items t None ≡ Some m → get_or old.of_rules.items t None ≡ Some m
    there t m e = ap (λ (xs : List (Option ℕ)). get_or xs t None) (sym same_rules) ∙ e

    some_same : (s q : OpenSet) → Some s ≡ Some q → s ≡ q
    some_same s q e = cc

    go : (t m : ℕ) (s : OpenSet) → is_untimed (bounds_in tab) t ≡ true → get_or old.of_rules.items t None ≡ Some m
        → get_or (set old.found.items part (Some r)) m None ≡ Some s
        → ((m == part) ≡ true) × (m ≡ part) ⊎ ((m == part) ≡ false) × (m ≢ part) → IsOpenSet p tab t s
    go t m s open_t e f (inr d) =
        h.found t m s open_t e (sym (get_or-set_other old.found.items part m (Some r) None d.1) ∙ f)
    go t m s open_t e f (inl k) =
        let here : get_or old.of_rules.items t None ≡ Some part = e ∙ ap (λ (i : ℕ). Some i) k.1 in
        let is : r ≡ s = some_same r s
        (sym (get_or-set_at old.found.items part m (Some r) None k.1 (h.within u part eu)) ∙ f) in
        subst (IsOpenSet p tab t) is
        (open_other p tab u t r (h.same u t part open_u open_t eu here) (h.same t u part open_t open_u here eu) right)
