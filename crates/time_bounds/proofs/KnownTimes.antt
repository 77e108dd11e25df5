-- The bounds on what rules spend, one by one.
use Rattle.std.proofs.Common.{◌≡◌, ℕ, ◌+◌, ◌<◌, ◌≤◌, List, [], ◌∷◌, ◌++◌, length, drop, get_or, Option, Some, None}
use Rattle.std.proofs.Common.{refl, sym, ◌∙◌, ap}
use Rattle.std.specs.Option.{option_map}
use Rattle.std.proofs.lemmas.List.{at_drop_more}
use Rattle.std.proofs.Math.ListN.{drop_of_length-le}
use Rattle.model.specs.Bounds as plain
use Rattle.model.specs.Bounds.{SumOf, Parts, NoParts, Part}
use Rattle.bound_expr.specs.declared.bound.Bound.{Bound}
use Rattle.bound_expr.specs.Views.{bound_of, bounds_of, parts_of}
use Rattle.bound_table.specs.InForce.{rewritten}
use Rattle.cert_types.specs.Sizes.{joined}
use Rattle.cert_types.proofs.Parts.{joined-nothing, joined_assoc, parts_of-more}
use Rattle.outcome.specs.declared.entry.CostEntry.{CostEntry}
use Rattle.outcome.specs.declared.entry.TimeEntry.{TimeEntry}
use Rattle.time_bounds.specs.Totals.{spent_by, spendings_by, before, known_parts, total_of}

-- these parts before others, if there are others
abbrev pub all_before : Parts → Option Parts → Option Parts
all_before done None = None
all_before done (Some rest) = Some (joined done rest)

-- one more bound
one_before : (done : Parts) (b : plain.Bound) (o : Option Parts)
    → all_before done (before (Some b) o) ≡ all_before (joined done (Part b NoParts)) o
one_before done b None = refl
one_before done b (Some rest) = ap (λ (ps : Parts). Some ps) (sym (joined_assoc done (Part b NoParts) rest))

none_before : (done : Parts) → all_before done None ≡ None
none_before done = refl

module _ (times : List TimeEntry) (costs : List (Option CostEntry)) where
  -- the known bounds on what the rules from a position on spend
  abbrev pub known_from : ℕ → Option Parts
  known_from i = known_parts (spendings_by (drop i times) (drop i costs))

  -- these are the bound of the rule there, before those of the rules after it
  left_more : (i : ℕ) (d : TimeEntry) (e : Option CostEntry) → i < length times → i < length costs
      → known_from i ≡ before (spent_by (get_or times i d) (get_or costs i e)) (known_from (i + 1))
  left_more i d e low short =
      at_drop_more (λ (ts : List TimeEntry). known_parts (spendings_by ts (drop i costs))) times i d low
      ∙ at_drop_more (λ (cs : List (Option CostEntry)). known_parts (spendings_by (get_or times i d ∷ drop (i + 1) times) cs)) costs i
      e short

  -- pushing the bound of a rule leaves all parts together the same
  pub pushed : (i : ℕ) (d : TimeEntry) (e : Option CostEntry) (all : Option Parts) (xs : List Bound) (x : Bound) (new : List Bound)
      → i < length times → i < length costs → all ≡ all_before (parts_of (bounds_of xs)) (known_from i)
      → spent_by (get_or times i d) (get_or costs i e) ≡ Some (bound_of x) → new ≡ xs ++ x ∷ []
      → all ≡ all_before (parts_of (bounds_of new)) (known_from (i + 1))
  pushed i d e all xs x new low short inv spent n =
      let done = parts_of (bounds_of xs) in
      inv ∙ (ap (all_before done)
      (left_more i d e low short ∙ ap (λ (o : Option plain.Bound). before o (known_from (i + 1))) spent)
      ∙ (one_before done (bound_of x) (known_from (i + 1))
      ∙ (ap (λ (ps : Parts). all_before ps (known_from (i + 1))) (sym (parts_of-more xs x))
      ∙ ap (λ (ys : List Bound). all_before (parts_of (bounds_of ys)) (known_from (i + 1))) (sym n))))

  -- if the bound of a rule is missing, there aren't all parts
  pub missing : (i : ℕ) (d : TimeEntry) (e : Option CostEntry) (all : Option Parts) (done : Parts) → i < length times
      → i < length costs → all ≡ all_before done (known_from i) → spent_by (get_or times i d) (get_or costs i e) ≡ None → all ≡ None
  missing i d e all done low short inv spent =
      inv ∙ (ap (all_before done)
      (left_more i d e low short ∙ ap (λ (o : Option plain.Bound). before o (known_from (i + 1))) spent)
      ∙ none_before done)

  -- after the last rule the pushed bounds are all parts
  pub all_pushed : (i : ℕ) (all : Option Parts) (done : Parts) → length times ≤ i → all ≡ all_before done (known_from i) → all ≡ Some done
  all_pushed i all done high inv =
      inv ∙ (ap (λ (ts : List TimeEntry). all_before done (known_parts (spendings_by ts (drop i costs))))
      (drop_of_length-le times high)
      ∙ ap (λ (ps : Parts). Some ps) (joined-nothing done))

-- the total of known parts, and that of none
pub total_some : (times : List (Option plain.Bound)) (ps : Parts) (r : plain.Bound) → known_parts times ≡ Some ps → r ≡ rewritten (SumOf ps)
    → Some r ≡ total_of times
total_some times ps r e f =
    ap (λ (b : plain.Bound). Some b) f ∙ sym (ap (option_map (λ (parts : Parts). rewritten (SumOf parts))) e)

-- if a bound is missing there is no total
pub total_none : (times : List (Option plain.Bound)) → known_parts times ≡ None → None ≡ total_of times
total_none times e = sym (ap (option_map (λ (parts : Parts). rewritten (SumOf parts))) e)
