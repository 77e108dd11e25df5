-- A move leads to the same values as its rule.
use Rattle.std.proofs.Common.{◌≡◌, ◌⊎◌, inl, inr, ℕ, suc, ◌<◌, List, [], ◌∷◌, ◌++◌, length, map, get_or, ℤ, pos}
use Rattle.std.proofs.Common.{refl, sym, ◌∙◌, ap, subst, arith}
use Rattle.std.specs.Prelude.{set, slice_index_or}
use Rattle.std.specs.List.{range_with_len}
use Rattle.std.proofs.lemmas.List.{append-nil, get_or_append_left, get_or-append-add, length-set, map-set, same_lists}
use Rattle.std.proofs.lemmas.List.{length-map, get_or-map, get_or_default}
use Rattle.std.proofs.lemmas.List.FromFn.{length-range_with_len, get_or-range_with_len}
use Rattle.std.proofs.lemmas.List.Elements.{All-nil}
use Rattle.model.specs.Terms.{Term, Variable, value}
use Rattle.model.specs.Programs.{Atom, GuardHolds}
use Rattle.while_model.specs.Statements.{Action, Assign, Choose, Skip, Statements, Nothing, Simple, While, If}
use Rattle.while_model.specs.Executions.{Acts}
use Rattle.while_model.specs.Moves.{Move}
use Rattle.while_model.specs.Translation.{free_count, variables, updates_of}
use Rattle.while_model.proofs.Sources.{IsBranchMove, IsMoveOf}

-- The values of expressions for these values of the variables and of the free variables.
abbrev pub values_of : List Term → List ℤ → List ℤ → List ℤ
values_of terms env free = map (λ u. value u (env ++ free)) terms

-- The value of each variable, as an expression, is that of the variable.
pub values_of-variables : (n : ℕ) (env free : List ℤ) → length env ≡ n → values_of (variables n) env free ≡ env
values_of-variables n env free is = same_lists (values_of (variables n) env free) env lengths each
  where
    count : length (variables n) ≡ n
    count = length-map (range_with_len 0 n) (λ x. Variable x) ∙ length-range_with_len 0 n

    lengths : length (values_of (variables n) env free) ≡ length env
    lengths = length-map (variables n) (λ u. value u (env ++ free)) ∙ count ∙ sym is

    each : (k : ℕ) (d : ℤ) → k < length (values_of (variables n) env free)
        → get_or (values_of (variables n) env free) k d ≡ get_or env k d
    each k d l =
        let low : k < n = omega (arith, l, lengths, is) in
        let in_variables : k < length (variables n) = omega (arith, low, count) in
        let in_range : k < length (range_with_len 0 n) = omega (arith, low, length-range_with_len 0 n) in
        let in_env : k < length env = omega (arith, low, is) in
        let at : get_or (variables n) k (Variable 0) ≡ Variable k =
        get_or-map (λ x. Variable x) (range_with_len 0 n) k 0 (Variable 0) in_range
        ∙ ap (λ x. Variable x) (get_or-range_with_len 0 n k 0 low ∙ omega arith) in
        get_or-map (λ u. value u (env ++ free)) (variables n) k (Variable 0) d in_variables
        ∙ ap (λ u. value u (env ++ free)) at ∙ get_or_append_left env free (pos 0) k in_env ∙ get_or_default env k (pos 0) d in_env

-- The value of the free variable comes after those of the inputs.
pub free_value : (n : ℕ) (env : List ℤ) (z : ℤ) → length env ≡ n → value (Variable n) (env ++ z ∷ []) ≡ z
free_value n env z is =
    ap (λ i. slice_index_or (env ++ z ∷ []) i (pos 0)) (omega (arith, is)) ∙ get_or-append-add env (z ∷ []) 0 (pos 0)

-- Where an action leads, its updates lead for some values of its free variables.
pub acts_free : (action : Action) (env end : List ℤ) (n : ℕ) → length env ≡ n → Acts action env end
    → (free : List ℤ) × (length free ≡ free_count action) × (end ≡ values_of (updates_of n action) env free)
acts_free (Assign x e) env end n is acts = (
  [],
  refl,
  acts ∙ sym (
      map-set (λ u. value u (env ++ [])) (variables n) x e
      ∙ ap (λ l. set l x (value e (env ++ []))) (values_of-variables n env [] is)
      ∙ ap (λ v. set env x (value e v)) (append-nil env)),
)
acts_free (Choose x) env end n is (z, acts) = (
  z ∷ [],
  refl,
  acts ∙ sym (
      map-set (λ u. value u (env ++ z ∷ [])) (variables n) x (Variable n)
      ∙ ap (λ l. set l x (value (Variable n) (env ++ z ∷ []))) (values_of-variables n env (z ∷ []) is)
      ∙ ap (λ v. set env x v) (free_value n env z is)),
)
acts_free Skip env end n is acts = ([], refl, acts ∙ sym (values_of-variables n env [] is))

-- Where the updates of an action lead, the action leads.
pub free_acts : (action : Action) (env end free : List ℤ) (n : ℕ) → length env ≡ n → length free ≡ free_count action
    → end ≡ values_of (updates_of n action) env free → Acts action env end
free_acts (Assign x e) env end [] n is count to = to
    ∙ map-set (λ u. value u (env ++ [])) (variables n) x e
    ∙ ap (λ l. set l x (value e (env ++ []))) (values_of-variables n env [] is)
    ∙ ap (λ v. set env x (value e v)) (append-nil env)
free_acts (Assign x e) env end (z ∷ free) n is count to = absurd (omega (arith, count))
free_acts (Choose x) env end [] n is count to = absurd (omega (arith, count))
free_acts (Choose x) env end (z ∷ []) n is count to = (
  z,
  to
      ∙ map-set (λ u. value u (env ++ z ∷ [])) (variables n) x (Variable n)
      ∙ ap (λ l. set l x (value (Variable n) (env ++ z ∷ []))) (values_of-variables n env (z ∷ []) is)
      ∙ ap (λ v. set env x v) (free_value n env z is),
)
free_acts (Choose x) env end (y ∷ z ∷ free) n is count to = absurd (omega (arith, count))
free_acts Skip env end [] n is count to = to ∙ values_of-variables n env [] is
free_acts Skip env end (z ∷ free) n is count to = absurd (omega (arith, count))

-- An action keeps the number of values.
pub acts_length : (action : Action) (env end : List ℤ) → Acts action env end → length end ≡ length env
acts_length (Assign x e) env end acts = ap (λ (l : List ℤ). length l) acts ∙ length-set env x (value e env)
acts_length (Choose x) env end (z, acts) = ap (λ (l : List ℤ). length l) acts ∙ length-set env x z
acts_length Skip env end acts = ap (λ (l : List ℤ). length l) acts

-- A move from a test has no free variable.
branch_free : (m : Move) (at : ℕ) (test : List Atom) (one other : ℕ) → IsBranchMove m at test one other
    → free_count m.action ≡ 0
branch_free m at test one other (inl e) = ap (λ (n : Move). free_count n.action) e
branch_free m at test one other (inr (atom, there, e)) = ap (λ (n : Move). free_count n.action) e

-- A move with a free variable has no guard.
pub guard_or_free : (m : Move) (here : Statements) (at after : ℕ) → IsMoveOf m at after here
    → (m.guard ≡ []) ⊎ (free_count m.action ≡ 0)
guard_or_free m Nothing at after h = absurd h
guard_or_free m (Simple action rest) at after (inl e) = inl (ap (λ (n : Move). n.guard) e)
guard_or_free m (Simple action rest) at after (inr h) = guard_or_free m rest (suc at) after h
guard_or_free m (While test block rest) at after (inl h) = inr (branch_free m at test _ _ h)
guard_or_free m (While test block rest) at after (inr (inl h)) = guard_or_free m block _ _ h
guard_or_free m (While test block rest) at after (inr (inr h)) = guard_or_free m rest _ after h
guard_or_free m (If test block other rest) at after (inl h) = inr (branch_free m at test _ _ h)
guard_or_free m (If test block other rest) at after (inr (inl h)) = guard_or_free m block _ _ h
guard_or_free m (If test block other rest) at after (inr (inr (inl h))) = guard_or_free m other _ _ h
guard_or_free m (If test block other rest) at after (inr (inr (inr h))) = guard_or_free m rest _ after h

-- The guard of a move holds with the values of the free variables exactly if it holds without them.
pub guard_with_free : (guard : List Atom) (env free : List ℤ) → (guard ≡ []) ⊎ (length free ≡ 0)
    → GuardHolds env guard → GuardHolds (env ++ free) guard
guard_with_free guard env free (inl e) h =
    subst (λ (g : List Atom). GuardHolds (env ++ free) g) (sym e) (All-nil _)
guard_with_free guard env [] (inr e) h = subst (λ (v : List ℤ). GuardHolds v guard) (sym (append-nil env)) h
guard_with_free guard env (z ∷ free) (inr e) h = absurd (omega (arith, e))

pub guard_without_free : (guard : List Atom) (env free : List ℤ) → (guard ≡ []) ⊎ (length free ≡ 0)
    → GuardHolds (env ++ free) guard → GuardHolds env guard
guard_without_free guard env free (inl e) h = subst (λ (g : List Atom). GuardHolds env g) (sym e) (All-nil _)
guard_without_free guard env [] (inr e) h = subst (λ (v : List ℤ). GuardHolds v guard) (append-nil env) h
guard_without_free guard env (z ∷ free) (inr e) h = absurd (omega (arith, e))
