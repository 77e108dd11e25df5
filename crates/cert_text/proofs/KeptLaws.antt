-- The code's state of reading a proof file, and the rules of a program.
use Rattle.std.proofs.Common.{◌≡◌, ℕ, zero, suc, ◌-◌, ◌<◌, min, Bool, true, false, List, [], ◌∷◌, ◌++◌}
use Rattle.std.proofs.Common.{length, map, take, Option, Some, None, refl, ap, sym, subst, ◌∙◌, arith}
use Rattle.std.specs.Prelude.{nat_lt, nat_le, ◌&&◌, is_some, slice_get, slice_index_or, ℤ}
use Rattle.std.specs.Option.{option_map}
use Rattle.std.proofs.lemmas.Bool.Decides.{nat_tests}
use Rattle.std.proofs.lemmas.Option.{slice_get-map, slice_get-get_or, slice_get_past}
use Rattle.its_model.specs.declared.program.Rule as code
use Rattle.its_model.specs.declared.program.Program as code_program
use Rattle.its_model.specs.model.Programs.{Rule, rule_at, arity_of}
use Rattle.its_model.specs.Views.{rule_of, program_of}
use Rattle.cert_types.specs.Views.{proof_of}
use Rattle.cert_text.specs.declared.parsed_so_far.OpenNode.{OpenNode}
use Rattle.cert_text.specs.NumberFaults.{has_place}
use Rattle.cert_text.specs.ParsedSoFar.{draft_of, outer_from, outer_of}
use Rattle.cert_types.specs.cert_rules.Nodes.{Proof}
use Rattle.cert_text.specs.declared.action.Action.{Action}
use Rattle.cert_text.specs.declared.phase.Next.{Next}
use Rattle.cert_text.specs.Remembered.{Draft, Outer, Whole, Inside, State, acted, announced, arranged, before_last, drafted, last_of}
use Rattle.cert_text.specs.Remembered.{no_draft, node_ended, uses_read}

-- an open node pushed at the end is the innermost one
outer_from-push : (outer : Outer) (xs : List OpenNode) (x : OpenNode)
    → outer_from outer (xs ++ x ∷ []) ≡ Inside (draft_of x.draft) (map proof_of x.used.items) (outer_from outer xs)
outer_from-push outer [] x = refl
outer_from-push outer (y ∷ ys) x = outer_from-push (Inside (draft_of y.draft) (map proof_of y.used.items) outer) ys x

pub outer_of-push : (xs : List OpenNode) (x : OpenNode)
    → outer_of (xs ++ x ∷ []) ≡ Inside (draft_of x.draft) (map proof_of x.used.items) (outer_of xs)
outer_of-push xs x = outer_from-push Whole xs x

-- the state after the beginning of premises
pub opens : (s : State) (d : Draft) (us : List Proof) (o u : Outer) → d ≡ no_draft → us ≡ [] → o ≡ u
    → record s { draft = d; used = us; outer = o } ≡ record s { draft = no_draft; used = []; outer = u }
opens s d us o u a b c =
    ap (λ (e : Draft). record s { draft = e; used = us; outer = o }) a
    ∙ ap (λ (ws : List Proof). record s { draft = no_draft; used = ws; outer = o }) b
    ∙ ap (λ (v : Outer). record s { draft = no_draft; used = []; outer = v }) c

-- the state after the end of premises
pub closes : (s : State) (d : Draft) (us : List Proof) (o : Outer) (e : Draft) (ws : List Proof) (v : Outer) → o ≡ Inside d us v
    → e ≡ record d { uses = s.used } → ws ≡ us → record s { draft = e; used = ws; outer = v } ≡ uses_read o s
closes s d us o e ws v a b c =
    ap (λ (f : Draft). record s { draft = f; used = ws; outer = v }) b
    ∙ ap (λ (xs : List Proof). record s { draft = record d { uses = s.used }; used = xs; outer = v }) c
    ∙ ap (λ (x : Outer). uses_read x s) (sym a)

-- the state after an action is that after its three parts
pub acts : (a : Action) (s t u : State) (d : Draft) (k : Next) → t ≡ node_ended a s → u ≡ arranged a t
    → d ≡ drafted s.number s.negative s.symbol a u.draft → k ≡ announced a s.coming
    → record u { draft = d; coming = k } ≡ acted a s
acts a s t u d k e f g h =
    ap (λ (x : Draft). record u { draft = x; coming = k }) g
    ∙ ap (λ (c : Next). record u { draft = drafted s.number s.negative s.symbol a u.draft; coming = c }) h
    ∙ ap (λ (x : State). record x { draft = drafted s.number s.negative s.symbol a x.draft; coming = announced a s.coming })
    (f ∙ ap (arranged a) e)

-- the last of a list with one more at the end is that one
pub last_behind : (ys : List ℤ) (x : ℤ) → last_of (ys ++ x ∷ []) ≡ x
last_behind [] x = refl
last_behind (y ∷ []) x = refl
last_behind (y ∷ z ∷ ys) x = last_behind (z ∷ ys) x

pub before_behind : (ys : List ℤ) (x : ℤ) → before_last (ys ++ x ∷ []) ≡ ys
before_behind [] x = refl
before_behind (y ∷ []) x = refl
before_behind (y ∷ z ∷ ys) x = ap (λ (zs : List ℤ). y ∷ zs) (before_behind (z ∷ ys) x)

-- there is an element exactly at the numbers below the length
some_within : {X : Type 0} (xs : List X) (n : ℕ) → is_some (slice_get xs n) ≡ nat_lt n (length xs)
some_within [] n = let e : nat_lt n 0 ≡ false = grind (arith, nat_tests) in sym e
some_within (x ∷ xs) zero = let e : nat_lt 0 (suc (length xs)) ≡ true = grind (arith, nat_tests) in sym e
some_within (x ∷ xs) (suc n) = some_within xs n ∙ go (nat_lt n (length xs)) refl
  where
    go : (v : Bool) → nat_lt n (length xs) ≡ v → v ≡ nat_lt (suc n) (suc (length xs))
    go true e = let f : nat_lt (suc n) (suc (length xs)) ≡ true = grind (arith, nat_tests) in sym f
    go false e = let f : nat_lt (suc n) (suc (length xs)) ≡ false = grind (arith, nat_tests) in sym f

same_some : {X Y : Type 0} (f : X → Y) (o : Option X) → is_some (option_map f o) ≡ is_some o
same_some f None = refl
same_some f (Some x) = refl

-- the conjunction with a test that is true is the other test
both : (a b v : Bool) → a ≡ true → b ≡ v → (a && b) ≡ v
both true b v h k = k
both false b v h k = cc

-- a rule exists exactly if its number is from 1 on and at most the number of rules
pub rule_there : (p : code_program.Program) (n : ℕ) → is_some (rule_at (program_of p) n) ≡ (nat_lt 0 n && nat_le n (length p.rules.items))
rule_there p zero = refl
rule_there p (suc n) = ap is_some (slice_get-map rule_of p.rules.items n) ∙ same_some rule_of (slice_get p.rules.items n) ∙ some_within p.rules.items n ∙ go (nat_lt n (length p.rules.items)) refl
  where
    go : (v : Bool) → nat_lt n (length p.rules.items) ≡ v → v ≡ (nat_lt 0 (suc n) && nat_le (suc n) (length p.rules.items))
    go true e =
        sym (both (nat_lt 0 (suc n)) (nat_le (suc n) (length p.rules.items)) true (grind (arith, nat_tests)) (grind (arith, nat_tests)))
    go false e =
        sym (both (nat_lt 0 (suc n)) (nat_le (suc n) (length p.rules.items)) false (grind (arith, nat_tests)) (grind (arith, nat_tests)))

-- the places of a rule's target are the numbers from 1 on up to the arity
pub place_there : (p : code_program.Program) (n : ℕ) (r : code.Rule) (k : ℕ) → 0 < n → n - 1 < length p.rules.items
    → r ≡ slice_index_or p.rules.items (n - 1) r → has_place (program_of p) (rule_at (program_of p) n) k ≡ (nat_lt 0 k && nat_le k (arity_of (program_of p) r.target))
place_there p zero r k h l e = absurd (omega (arith, h))
place_there p (suc n) r k h l e =
    let same : suc n - 1 ≡ n = omega arith in
    let found : slice_get p.rules.items n ≡ Some r =
    slice_get-get_or p.rules.items n r (omega (arith, l))
    ∙ ap (λ (q : code.Rule). Some q) (sym (subst (λ (i : ℕ). r ≡ slice_index_or p.rules.items i r) same e)) in
    ap (λ (o : Option Rule). has_place (program_of p) o k) (slice_get-map rule_of p.rules.items n ∙ ap (option_map rule_of) found)

-- a rule that doesn't exist has no place
pub place_past : (p : code_program.Program) (n k : ℕ) → length p.rules.items < n → has_place (program_of p) (rule_at (program_of p) n) k ≡ false
place_past p zero k l = refl
place_past p (suc n) k l =
    ap (λ (o : Option Rule). has_place (program_of p) o k)
    (slice_get-map rule_of p.rules.items n ∙ ap (option_map rule_of) (slice_get_past p.rules.items n (omega (arith, l))))

-- taking at most as many elements as there are is taking that many
pub take-all : {X : Type 0} (xs : List X) (n : ℕ) → take (min (length xs) n) xs ≡ take n xs
take-all xs zero = let e : min (length xs) 0 ≡ 0 = omega arith in ap (λ (k : ℕ). take k xs) e
take-all [] (suc n) = let e : min 0 (suc n) ≡ 0 = omega arith in ap (λ (k : ℕ). take k []) e
take-all (x ∷ xs) (suc n) =
    let e : min (suc (length xs)) (suc n) ≡ suc (min (length xs) n) = omega arith in
    ap (λ (k : ℕ). take k (x ∷ xs)) e ∙ ap (λ (ys : List _). x ∷ ys) (take-all xs n)
