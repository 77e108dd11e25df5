-- The steps of a merge.
use Rattle.std.proofs.Common.{◌≡◌, ◌≢◌, ℕ, suc, ◌<◌, ◌≤◌, ap, arith, refl, sym, ◌∙◌, subst, ◌⊎◌, inl, inr}
use Rattle.std.proofs.Common.{List, [], ◌∷◌, Option, Some, None}
use Rattle.sparse_merge.specs.Listing.{listed, Ascends}
use Rattle.sparse_merge.specs.Merging.{IsMade, BeginsAt, IsLeastOf, TakesFrom, IsPut, IsRefused, IsMerged}
use Rattle.sparse_merge.proofs.Listings.{order_cases, listed-here, listed-there, listed-before, ascends-from}
use Rattle.sparse_merge.proofs.Listings.{ascends-put, listed-other_put, listed-put}

module _ {C : Type 0} (place_of : C → ℕ) (fits : C → Type 0) where
  -- the cell that a step takes at a place is the one that the list has there
  pub taken-is : (k : ℕ) (cs : List C) (t : Option C) (rest : List C) → TakesFrom place_of k cs t rest
      → Ascends place_of fits k cs → listed place_of cs k ≡ t
  taken-is k [] None rest takes a = refl
  taken-is k (c ∷ cs) None rest takes a =
      listed-there place_of c cs k takes.1
      ∙ listed-before place_of fits (suc (place_of c)) k cs a.2 (let le = a.0 in omega arith)
  taken-is k cs (Some c) rest takes a = ap (λ (xs : List C). listed place_of xs k) takes.0 ∙ listed-here place_of c rest k takes.1

  -- the rest after a step ascends from the next place
  pub rest-ascends : (k : ℕ) (cs : List C) (t : Option C) (rest : List C) → TakesFrom place_of k cs t rest
      → Ascends place_of fits k cs → Ascends place_of fits (suc k) rest
  rest-ascends k [] None rest takes a = subst (Ascends place_of fits (suc k)) (sym takes.0) tt
  rest-ascends k (c ∷ cs) None rest takes a =
      subst (Ascends place_of fits (suc k)) (sym takes.0) (let le = a.0 in let d = takes.1 in omega arith, a.1, a.2)
  rest-ascends k cs (Some c) rest takes a =
      let whole = subst (Ascends place_of fits k) takes.0 a in
      subst (λ (n : ℕ). Ascends place_of fits (suc n) rest) takes.1 whole.2

  -- the rest after a step has the same cells above the place
  pub rest-same : (k : ℕ) (cs : List C) (t : Option C) (rest : List C) → TakesFrom place_of k cs t rest
      → (i : ℕ) → k < i → listed place_of rest i ≡ listed place_of cs i
  rest-same k cs None rest takes i l = ap (λ (xs : List C). listed place_of xs i) takes.0
  rest-same k cs (Some c) rest takes i l =
      let at = takes.1 in
      sym (ap (λ (xs : List C). listed place_of xs i) takes.0 ∙ listed-there place_of c rest i (λ e. absurd (omega arith)))

  -- if two lists ascend from a place, the least place of their first cells isn't below it
  pub least-behind : (left right : List C) (from k : ℕ) → Ascends place_of fits from left → Ascends place_of fits from right
      → IsLeastOf place_of left right k → from ≤ k
  least-behind left right from k a b both = go left right a b both.one
    where
      go : (left right : List C) → Ascends place_of fits from left → Ascends place_of fits from right
          → BeginsAt place_of k left ⊎ BeginsAt place_of k right → from ≤ k
      go [] right a b (inl n) = absurd n
      go (c ∷ cs) right a b (inl e) = let le = a.0 in omega arith
      go left [] a b (inr n) = absurd n
      go left (c ∷ cs) a b (inr e) = let le = b.0 in omega arith

  -- a list that begins at a place has a cell there
  pub begins-some : (k : ℕ) (cs : List C) → BeginsAt place_of k cs → listed place_of cs k ≢ None
  begins-some k [] b none = b
  begins-some k (c ∷ cs) b none = let some = listed-here place_of c cs k b in cc

  -- after an optional cell is appended at its place, the list has that cell there, if it had none from there on
  pub put-here : (k : ℕ) (made : List C) (cell : Option C) (new : List C) → IsPut place_of made cell new → IsMade place_of fits k cell
      → listed place_of made k ≡ None → listed place_of new k ≡ cell
  put-here k made None new put is none = ap (λ (xs : List C). listed place_of xs k) put ∙ none
  put-here k made (Some d) new put is none = ap (λ (xs : List C). listed place_of xs k) put ∙ listed-put place_of made d k is.0 none

  -- after an optional cell is appended, the list has the same cell as before at each other place
  pub put-other : (k : ℕ) (made : List C) (cell : Option C) (new : List C) → IsPut place_of made cell new → IsMade place_of fits k cell
      → (i : ℕ) → k ≢ i → listed place_of new i ≡ listed place_of made i
  put-other k made None new put is i d = ap (λ (xs : List C). listed place_of xs i) put
  put-other k made (Some c) new put is i d =
      let at = is.0 in
      ap (λ (xs : List C). listed place_of xs i) put ∙ listed-other_put place_of made c i (λ e. d (sym at ∙ e))

  -- a list that ascends and has no cell from a place on still ascends when a cell is appended there
  pub put-ascends : (k : ℕ) (made : List C) (cell : Option C) (new : List C) → IsPut place_of made cell new → IsMade place_of fits k cell
      → ((i : ℕ) → k ≤ i → listed place_of made i ≡ None) → Ascends place_of fits 0 made → Ascends place_of fits 0 new
  put-ascends k made None new put is none a = subst (Ascends place_of fits 0) (sym put) a
  put-ascends k made (Some c) new put is none a =
      let at = is.0 in
      subst (Ascends place_of fits 0) (sym put) (ascends-put place_of fits 0 k made c a none (omega arith) (omega arith) is.1)

  module _ (joins : ℕ → Option C → Option C → Option C → Type 0) (nothing : (i : ℕ) → joins i None None None) where
    -- the combination depends only on the cells
    along : (i : ℕ) (a b c d e f : Option C) → a ≡ b → c ≡ d → e ≡ f → joins i a c e → joins i b d f
    along i a b c d e f p q r j =
        subst (λ (x : Option C). joins i b d x) r (subst (λ (x : Option C). joins i b x e) q (subst (λ (x : Option C). joins i x c e) p j))

    module _ (left left_rest right right_rest made : List C) (merged : IsMerged place_of fits joins left left_rest right right_rest made)
        (k : ℕ) (both : IsLeastOf place_of left_rest right_rest k) where
      -- the least place isn't below the next place of the merge
      behind : merged.next ≤ k
      behind = least-behind left_rest right_rest merged.next k merged.left_from merged.right_from both

      -- the rest of the left list ascends from the least place
      left_from : Ascends place_of fits k left_rest
      left_from = ascends-from place_of fits merged.next k left_rest merged.left_from both.left_from

      -- the rest of the right list ascends from the least place
      right_from : Ascends place_of fits k right_rest
      right_from = ascends-from place_of fits merged.next k right_rest merged.right_from both.right_from

      -- below the least place all places are combined
      joined_before : (i : ℕ) → i < k → joins i (listed place_of left i) (listed place_of right i) (listed place_of made i)
      joined_before i l = go (order_cases i merged.next)
        where
          skipped : merged.next ≤ i → joins i (listed place_of left i) (listed place_of right i) (listed place_of made i)
          skipped m =
              along i None (listed place_of left i) None (listed place_of right i) None (listed place_of made i)
              (sym (sym (merged.left_same i m) ∙ listed-before place_of fits k i left_rest left_from l))
              (sym (sym (merged.right_same i m) ∙ listed-before place_of fits k i right_rest right_from l)) (sym (merged.below i m)) (nothing i)

          go : (i < merged.next) ⊎ ((i ≡ merged.next) ⊎ (merged.next < i))
              → joins i (listed place_of left i) (listed place_of right i) (listed place_of made i)
          go (inl m) = merged.joined i m
          go (inr (inl e)) = skipped (omega arith)
          go (inr (inr m)) = skipped (omega arith)

      -- below the least place, the merged list has no cell where neither list has one
      only_before : (i : ℕ) → i < k → listed place_of left i ≡ None → listed place_of right i ≡ None → listed place_of made i ≡ None
      only_before i l a b = go (order_cases i merged.next)
        where
          go : (i < merged.next) ⊎ ((i ≡ merged.next) ⊎ (merged.next < i)) → listed place_of made i ≡ None
          go (inl m) = merged.only i m a b
          go (inr (inl e)) = merged.below i (omega arith)
          go (inr (inr m)) = merged.below i (omega arith)

      module _ (l r : Option C) (left_next right_next : List C) (takes_left : TakesFrom place_of k left_rest l left_next)
          (takes_right : TakesFrom place_of k right_rest r right_next) where
        -- at the least place, the left list has the cell that is taken
        left_here : listed place_of left k ≡ l
        left_here = sym (merged.left_same k behind) ∙ taken-is k left_rest l left_next takes_left left_from

        -- at the least place, the right list has the cell that is taken
        right_here : listed place_of right k ≡ r
        right_here = sym (merged.right_same k behind) ∙ taken-is k right_rest r right_next takes_right right_from

        -- if the cells at the least place can't be combined, the merge is refused there
        pub merge-stops : (refuses : ℕ → Option C → Option C → Type 0) → refuses k l r → IsRefused place_of joins refuses left right k
        merge-stops refuses here = record {
          here = subst (λ (x : Option C). refuses k x (listed place_of right k)) (sym left_here)
              (subst (λ (x : Option C). refuses k l x) (sym right_here) here);
          before = λ i m. (listed place_of made i, joined_before i m);
        }

        -- at the least place, one of the lists has a cell
        some_here : listed place_of left k ≡ None → listed place_of right k ≡ None → ⊥
        some_here a b = go both.one
          where
            go : BeginsAt place_of k left_rest ⊎ BeginsAt place_of k right_rest → ⊥
            go (inl h) = begins-some k left_rest h (merged.left_same k behind ∙ a)
            go (inr h) = begins-some k right_rest h (merged.right_same k behind ∙ b)

        -- after the combined cell at the least place is appended, the merge continues above it
        pub merge-goes_on : (cell : Option C) (new : List C) → joins k l r cell → IsMade place_of fits k cell → IsPut place_of made cell new
            → IsMerged place_of fits joins left left_next right right_next new
        merge-goes_on cell new here is put = record {
          next = suc k;
          left_from = rest-ascends k left_rest l left_next takes_left left_from;
          right_from = rest-ascends k right_rest r right_next takes_right right_from;
          left_same = λ i m. rest-same k left_rest l left_next takes_left i (omega arith) ∙ merged.left_same i (let b = behind in omega arith);
          right_same = λ i m. rest-same k right_rest r right_next takes_right i (omega arith) ∙ merged.right_same i (let b = behind in omega arith);
          ascends = put-ascends k made cell new put is (λ i m. merged.below i (let b = behind in omega arith)) merged.ascends;
          below = λ i m. other i (λ e. absurd (omega arith)) ∙ merged.below i (let b = behind in omega arith);
          joined = λ i m. joined_at i m (order_cases i k);
          only = λ i m a b. only_at i m a b (order_cases i k);
        }
          where
            other : (i : ℕ) → k ≢ i → listed place_of new i ≡ listed place_of made i
            other = put-other k made cell new put is

            made_here : listed place_of new k ≡ cell
            made_here = put-here k made cell new put is (merged.below k behind)

            at_k : joins k (listed place_of left k) (listed place_of right k) (listed place_of new k)
            at_k = along k l (listed place_of left k) r (listed place_of right k) cell (listed place_of new k) (sym left_here) (sym right_here) (sym made_here) here

            joined_at : (i : ℕ) → i < suc k → (i < k) ⊎ ((i ≡ k) ⊎ (k < i))
                → joins i (listed place_of left i) (listed place_of right i) (listed place_of new i)
            joined_at i m (inl b) =
                subst (joins i (listed place_of left i) (listed place_of right i)) (sym (other i (λ e. absurd (omega arith)))) (joined_before i b)
            joined_at i m (inr (inl e)) =
                subst (λ (n : ℕ). joins n (listed place_of left n) (listed place_of right n) (listed place_of new n)) (sym e) at_k
            joined_at i m (inr (inr b)) = absurd (omega arith)

            only_at : (i : ℕ) → i < suc k → listed place_of left i ≡ None → listed place_of right i ≡ None
                → (i < k) ⊎ ((i ≡ k) ⊎ (k < i)) → listed place_of new i ≡ None
            only_at i m a b (inl c) = other i (λ e. absurd (omega arith)) ∙ only_before i c a b
            only_at i m a b (inr (inl e)) =
                absurd (some_here (ap (listed place_of left) (sym e) ∙ a) (ap (listed place_of right) (sym e) ∙ b))
            only_at i m a b (inr (inr c)) = absurd (omega arith)
