-- The result of a merge of two rows.
use Rattle.std.proofs.Common.{◌≡◌, ◌≢◌, ℕ, sym, subst, Option, Some, None}
use Rattle.std.specs.Prelude.{pos, List}
use Rattle.frac128.specs.declared.frac.Frac.{Frac}
use Rattle.frac128.proofs.Identity.{same_zero}
use Rattle.sparse_merge.specs.declared.merging.Stop.{Stop}
use Rattle.sparse_merge.specs.declared.merging.Stop.TheVariants as stops
use Rattle.sparse_merge.specs.declared.merging.Stop.TheVariants.{Refused}
use Rattle.sparse_merge.specs.Listing.{listed}
use Rattle.sparse_merge.specs.Merging.{IsMerge, IsStop}
use Rattle.sparse_rows.specs.Entries.{fraction_of, IsPlusMultiple, IsWithin, IsBeyond, IsEntryOf, IsListed, IsJoined}
use Rattle.sparse_rows.specs.Rows.{column_of, IsRow}
use Rattle.sparse_rows.specs.Multiples.{IsRowPlusMultiple, IsRefusal, error_of_stop}

-- the entry of a fraction has this fraction
entry-fraction : (place : ℕ) (f : Frac) (made : Option (ℕ × Frac)) → IsEntryOf place f made → f ≡ fraction_of made
entry-fraction place f None is = same_zero f is
entry-fraction place f (Some x) is = sym is.1

-- the entry of a fraction isn't 0
entry-listed : (place : ℕ) (f : Frac) (made : Option (ℕ × Frac)) → IsEntryOf place f made → IsListed made
entry-listed place f None is = tt
entry-listed place f (Some x) is = subst (λ (g : Frac). g.num ≢ pos 0) (sym is.1) is.2

-- the combination of two entries is the left one plus a multiple of the right one
pub entry-joined : (place : ℕ) (by a b f : Frac) (left right made : Option (ℕ × Frac)) → a ≡ fraction_of left → b ≡ fraction_of right
    → IsPlusMultiple a by b f → IsWithin a by b → IsEntryOf place f made → IsJoined by left right made
entry-joined place by a b f left right made ea eb value within is = record {
  value = subst (λ (x : Frac). IsPlusMultiple x by (fraction_of right) (fraction_of made)) ea
      (subst (λ (x : Frac). IsPlusMultiple a by x (fraction_of made)) eb
      (subst (λ (x : Frac). IsPlusMultiple a by b x) (entry-fraction place f made is) value));
  within = subst (λ (x : Frac). IsWithin x by (fraction_of right)) ea (subst (λ (x : Frac). IsWithin a by x) eb within);
  listed = entry-listed place f made is;
}

-- if the fractions of two entries give `Range`, so do the entries
pub entry-beyond : (by a b : Frac) (left right : Option (ℕ × Frac)) → a ≡ fraction_of left → b ≡ fraction_of right
    → IsBeyond a by b → IsBeyond (fraction_of left) by (fraction_of right)
entry-beyond by a b left right ea eb beyond =
    subst (λ (x : Frac). IsBeyond x by (fraction_of right)) ea (subst (λ (x : Frac). IsBeyond a by x) eb beyond)

-- combined entries aren't 0
listed-nonzero : (made : Option (ℕ × Frac)) (x : ℕ × Frac) → IsListed made → made ≡ Some x → x.1.num ≢ pos 0
listed-nonzero made x is e = subst IsListed e is

module _ (by : Frac) (left right : List (ℕ × Frac)) where
  -- the merge of two rows is a row
  pub merged-row : (made : List (ℕ × Frac)) → IsMerge column_of (λ _. Unit {0}) (λ _ l r m. IsJoined by l r m) left right made → IsRow made
  merged-row made merge = record {
    ascends = merge.listing;
    nonzero = λ j x is. listed-nonzero (listed column_of made j) x (merge.joined j).listed is;
  }

  -- the merge of two rows is one row plus a multiple of the other
  pub merged-multiple : (made : List (ℕ × Frac)) → IsMerge column_of (λ _. Unit {0}) (λ _ l r m. IsJoined by l r m) left right made
      → IsRowPlusMultiple left by right made
  merged-multiple made merge = record { value = λ j. (merge.joined j).value; within = λ j. (merge.joined j).within }

  -- a merge of two rows stops at the least column with `Range`, or because memory ran out
  pub merged-refusal : (stop : Stop)
      → IsStop column_of (λ _ l r m. IsJoined by l r m) (λ _ l r. IsBeyond (fraction_of l) by (fraction_of r)) left right stop
      → IsRefusal left by right (error_of_stop stop)
  merged-refusal (Refused k) refused = record { beyond = refused.here; before = λ j l. (refused.before j l).1.within }
  merged-refusal stops.Memory refused = tt
