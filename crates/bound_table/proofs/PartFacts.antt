-- A property of every part before a case is one of every part after it.
use Rattle.std.proofs.Common.{◌≡◌, ℕ, ◌≤◌, nat_le, Bool, true, false, cond, ◌&&◌, List, [], ◌∷◌, ◌++◌, refl}
use Rattle.std.specs.List.{list_any, count_by}
use Rattle.std.specs.Ordering.{is_lt}
use Rattle.std.proofs.lemmas.Bool.{leb-true}
use Rattle.bound_expr.specs.model.Bounds.{Bound, Constant}
use Rattle.bound_expr.specs.Limits.{constant_limit}
use Rattle.bound_expr.specs.Kinds.{is_constant}
use Rattle.bound_table.specs.declared.kinds.Kind.{Kind}
use Rattle.bound_table.specs.declared.kinds.Kind.TheVariants.{AsSum, AsProd, AsMax}
use Rattle.bound_table.specs.Kinds.{all_joined}
use Rattle.bound_table.specs.Terms.{factors_of}
use Rattle.bound_table.specs.Folding.{parts_of_kind, spliced, constants_in, without_constants, with_one_constant}
use Rattle.bound_table.specs.Folding.{folded}
use Rattle.bound_table.specs.Folding.{is_neutral, without_neutral}
use Rattle.bound_table.specs.Sorting.{order_of, inserted, sorted}
use Rattle.bound_table.specs.Runs.{Run, run_parts, with_part_before, runs_of, all_runs_joined}
use Rattle.bound_table.specs.Likes.{are_same_factors, is_like, constants_total, times, joined_list, likes_joined}
use Rattle.bound_table.specs.Dominance.{dominant_after, dominant}
use Rattle.bound_table.specs.Below.{below}
use Rattle.bound_table.proofs.Each.{Each, IsFilled, Each-append}

-- a property that the new parts have that a case makes in a node of the kind
pub record IsKept (k : Kind) (P : Bound → Type 0) : Type 0 where
  pub constant : (c : ℕ) → c ≤ constant_limit → P (Constant c)
  pub inner : (p : Bound) → P p → Each P (parts_of_kind k p)
  pub product : k ≡ AsSum → (c : ℕ) (p : Bound) → c ≤ constant_limit → IsFilled (factors_of p) → P p
      → P (times c (factors_of p))

-- splicing keeps a property of the parts of a part
pub Each-spliced : (k : Kind) (P : Bound → Type 0) (ps : List Bound) → ((p : Bound) → P p → Each P (parts_of_kind k p))
    → Each P ps → Each P (spliced k ps)
Each-spliced k P [] inner each = tt
Each-spliced k P (p ∷ ps) inner each =
    Each-append P (parts_of_kind k p) (spliced k ps) (inner p each.0) (Each-spliced k P ps inner each.1)

-- dropping constants keeps a property of each part
Each-without_constants : (P : Bound → Type 0) (ps : List Bound) → Each P ps → Each P (without_constants ps)
Each-without_constants P [] each = tt
Each-without_constants P (p ∷ ps) each = go (is_constant p) (Each-without_constants P ps each.1)
  where
    go : (b : Bool) → Each P (without_constants ps) → Each P (cond b (without_constants ps) (p ∷ without_constants ps))
    go true ih = ih
    go false ih = (each.0, ih)

-- one constant in place of all keeps a property that it has
Each-with_one_constant : (P : Bound → Type 0) (c : ℕ) (ps : List Bound) → P (Constant c) → Each P ps
    → Each P (with_one_constant c ps)
Each-with_one_constant P c [] here each = tt
Each-with_one_constant P c (p ∷ ps) here each = go (is_constant p) (Each-with_one_constant P c ps here each.1)
  where
    go : (b : Bool) → Each P (with_one_constant c ps)
        → Each P (cond b (Constant c ∷ without_constants ps) (p ∷ with_one_constant c ps))
    go true ih = (here, Each-without_constants P ps each.1)
    go false ih = (each.0, ih)

-- folding keeps the property
pub Each-folded : (k : Kind) (P : Bound → Type 0) (ps : List Bound) → ((c : ℕ) → c ≤ constant_limit → P (Constant c))
    → Each P ps → Each P (folded k ps)
Each-folded k P ps constant each = go (nat_le 2 (count_by is_constant ps)) (nat_le total constant_limit) refl
  where
    total : ℕ
    total = all_joined k (constants_in ps)

    go : (many small : Bool) → nat_le (all_joined k (constants_in ps)) constant_limit ≡ small
        → Each P (cond (many && small) (with_one_constant (all_joined k (constants_in ps)) ps) ps)
    go true true is =
        Each-with_one_constant P (all_joined k (constants_in ps)) ps
        (constant (all_joined k (constants_in ps)) (leb-true (all_joined k (constants_in ps)) constant_limit is)) each
    go true false is = each
    go false small is = each

-- dropping neutral parts keeps the property
pub Each-without_neutral : (k : Kind) (P : Bound → Type 0) (ps : List Bound) → Each P ps → Each P (without_neutral k ps)
Each-without_neutral k P [] each = tt
Each-without_neutral k P (p ∷ ps) each = go (is_neutral k p) (Each-without_neutral k P ps each.1)
  where
    go : (b : Bool) → Each P (without_neutral k ps) → Each P (cond b (without_neutral k ps) (p ∷ without_neutral k ps))
    go true ih = ih
    go false ih = (each.0, ih)

-- inserting a part that has the property keeps it of each part
Each-inserted : (k : Kind) (P : Bound → Type 0) (p : Bound) (ps : List Bound) → P p → Each P ps
    → Each P (inserted k p ps)
Each-inserted k P p [] here each = (here, tt)
Each-inserted k P p (q ∷ ps) here each = go (is_lt (order_of k q p)) (Each-inserted k P p ps here each.1)
  where
    go : (b : Bool) → Each P (inserted k p ps) → Each P (cond b (q ∷ inserted k p ps) (p ∷ q ∷ ps))
    go true ih = (each.0, ih)
    go false ih = (here, each)

-- sorting keeps the property
pub Each-sorted : (k : Kind) (P : Bound → Type 0) (ps : List Bound) → Each P ps → Each P (sorted k ps)
Each-sorted k P [] each = tt
Each-sorted k P (p ∷ ps) each = Each-inserted k P p (sorted k ps) each.0 (Each-sorted k P ps each.1)

-- dropping parts that are below others keeps the property of each part
pub Each-dominant_after : (P : Bound → Type 0) (kept ps : List Bound) → Each P kept → Each P ps
    → Each P (dominant_after kept ps)
Each-dominant_after P kept [] each each' = each
Each-dominant_after P kept (p ∷ ps) each each' =
    go (list_any (λ q. below p q) (kept ++ ps)) (Each-dominant_after P kept ps each each'.1)
    (Each-dominant_after P (kept ++ p ∷ []) ps (Each-append P kept (p ∷ []) each (each'.0, tt)) each'.1)
  where
    go : (b : Bool) → Each P (dominant_after kept ps) → Each P (dominant_after (kept ++ p ∷ []) ps)
        → Each P (cond b (dominant_after kept ps) (dominant_after (kept ++ p ∷ []) ps))
    go true ih ih' = ih
    go false ih ih' = ih'

-- the parts of a maximum that aren't dropped have the property
pub Each-dominant : (k : Kind) (P : Bound → Type 0) (ps : List Bound) → Each P ps → Each P (dominant k ps)
Each-dominant AsMax P ps each = Each-dominant_after P [] ps tt each
Each-dominant AsSum P ps each = each
Each-dominant AsProd P ps each = each

-- a property holds of each run
abbrev pub EachRun : (Run → Type 0) → List Run → Type 0
EachRun P [] = Unit {0}
EachRun P (r ∷ rs) = P r × EachRun P rs

-- each part of a run belongs together with the one before it
abbrev pub AreTogether : (Bound → Bound → Bool) → Bound → List Bound → Type 0
AreTogether together p [] = Unit {0}
AreTogether together p (q ∷ qs) = (together p q ≡ true) × AreTogether together q qs

-- a run of neighbours that belong together, whose parts have the property
pub record IsGoodRun (together : Bound → Bound → Bool) (P : Bound → Type 0) (r : Run) : Type 0 where
  pub each : Each P (run_parts r)
  pub alike : AreTogether together r.first r.others

-- a part with the property, put before good runs, makes good runs
with_part_before-good : (t : Bound → Bound → Bool) (P : Bound → Type 0) (p : Bound) (rs : List Run) → P p
    → EachRun (IsGoodRun t P) rs → EachRun (IsGoodRun t P) (with_part_before t p rs)
with_part_before-good t P p [] here good = (record { each = (here, tt); alike = tt }, tt)
with_part_before-good t P p (r ∷ rs) here good = go (t p r.first) refl
  where
    go : (b : Bool) → t p r.first ≡ b
        → EachRun (IsGoodRun t P) (cond b (record { first = p; others = run_parts r } ∷ rs) (record { first = p; others = [] } ∷ r ∷ rs))
    go true like = (record { each = (here, good.0.each); alike = (like, good.0.alike) }, good.1)
    go false unlike = (record { each = (here, tt); alike = tt }, good)

-- the runs of parts with the property are good
pub runs_of-good : (t : Bound → Bound → Bool) (P : Bound → Type 0) (ps : List Bound) → Each P ps
    → EachRun (IsGoodRun t P) (runs_of t ps)
runs_of-good t P [] each = tt
runs_of-good t P (p ∷ ps) each = with_part_before-good t P p (runs_of t ps) each.0 (runs_of-good t P ps each.1)

-- joining runs keeps a property of each part, if joining one run does
pub Each-all_runs_joined : (t : Bound → Bound → Bool) (join : List Bound → List Bound) (P : Bound → Type 0)
    → ((p : Bound) (ps : List Bound) → Each P (p ∷ ps) → AreTogether t p ps → Each P (join (p ∷ ps)))
    → (rs : List Run) → EachRun (IsGoodRun t P) rs → Each P (all_runs_joined join rs)
Each-all_runs_joined t join P one [] good = tt
Each-all_runs_joined t join P one (r ∷ rs) good =
    Each-append P (join (run_parts r)) (all_runs_joined join rs) (one r.first r.others good.0.each good.0.alike)
    (Each-all_runs_joined t join P one rs good.1)

-- lists of the same factors are not empty
same_factors-filled : (fs gs : List Bound) → are_same_factors fs gs ≡ true → IsFilled fs
same_factors-filled [] gs same = cc
same_factors-filled (f ∷ fs) gs same = tt

-- joining a run of like parts keeps the property
Each-joined_list : (k : Kind) (P : Bound → Type 0) → k ≡ AsSum → IsKept k P → (p : Bound) (ps : List Bound)
    → Each P (p ∷ ps) → AreTogether is_like p ps → Each P (joined_list (p ∷ ps))
Each-joined_list k P sum kept p [] each alike = each
Each-joined_list k P sum kept p (q ∷ qs) each alike = go (nat_le (constants_total (p ∷ q ∷ qs)) constant_limit) refl
  where
    go : (small : Bool) → nat_le (constants_total (p ∷ q ∷ qs)) constant_limit ≡ small
        → Each P (cond small (times (constants_total (p ∷ q ∷ qs)) (factors_of p) ∷ []) (p ∷ q ∷ qs))
    go true is = (
      kept.product sum (constants_total (p ∷ q ∷ qs)) p (leb-true (constants_total (p ∷ q ∷ qs)) constant_limit is)
          (same_factors-filled (factors_of p) (factors_of q) alike.0) each.0,
      tt,
    )
    go false is = each

-- joining like parts keeps the property
pub Each-likes_joined : (k : Kind) (P : Bound → Type 0) → IsKept k P → (ps : List Bound) → Each P ps
    → Each P (likes_joined k ps)
Each-likes_joined AsSum P kept ps each =
    Each-all_runs_joined is_like joined_list P (Each-joined_list AsSum P refl kept) (runs_of is_like ps)
    (runs_of-good is_like P ps each)
Each-likes_joined AsProd P kept ps each = each
Each-likes_joined AsMax P kept ps each = each
