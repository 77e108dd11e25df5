-- The marks before the first part that is too deep, with others appended or raised by one level.
use Rattle.std.proofs.Common.{◌≡◌, ℕ, zero, suc, ◌<◌, ◌≤◌, ◌-◌, ◌^◌, min, Bool, true, false, cond, nat_lt, [], ◌∷◌, ◌++◌}
use Rattle.std.proofs.Common.{length, take, drop, Option, Some, None, refl, ap, sym, ◌∙◌, arith}
use Rattle.std.specs.Prelude.{◌||◌}
use Rattle.std.specs.Option.{option_map}
use Rattle.std.proofs.lemmas.Bool.Decides.{nat_tests}
use Rattle.bound_text.specs.Inside.{Marks}
use Rattle.cert_lexer.specs.Bounds.{is_deep}
use Rattle.cert_lexer.specs.Levels.{capped, has_deep, raised, raised_from, shallow}
use Rattle.cert_lexer.specs.Representation.{Held}

-- no mark after a part that is too deep is stored
pub shallow_deep : (ms ys : Marks) → has_deep ms ≡ true → shallow (ms ++ ys) ≡ shallow ms
shallow_deep [] ys e = cc
shallow_deep (m ∷ ms) ys e = go (is_deep m) e (λ k. shallow_deep ms ys k)
  where
    go : (v : Bool) → v || has_deep ms ≡ true → (has_deep ms ≡ true → shallow (ms ++ ys) ≡ shallow ms)
        → cond v [] (m ∷ shallow (ms ++ ys)) ≡ cond v [] (m ∷ shallow ms)
    go true e ih = refl
    go false e ih = ap (λ (xs : Marks). m ∷ xs) (ih e)

-- before other marks, all marks are stored if none is too deep
shallow_all : (ms ys : Marks) → has_deep ms ≡ false → shallow (ms ++ ys) ≡ shallow ms ++ shallow ys
shallow_all [] ys e = refl
shallow_all (m ∷ ms) ys e = go (is_deep m) e (λ k. shallow_all ms ys k)
  where
    go : (v : Bool) → v || has_deep ms ≡ false → (has_deep ms ≡ false → shallow (ms ++ ys) ≡ shallow ms ++ shallow ys)
        → cond v [] (m ∷ shallow (ms ++ ys)) ≡ cond v [] (m ∷ shallow ms) ++ shallow ys
    go true e ih = cc
    go false e ih = ap (λ (xs : Marks). m ∷ xs) (ih e)

pub has_both : (ms ys : Marks) → has_deep (ms ++ ys) ≡ has_deep ms || has_deep ys
has_both [] ys = refl
has_both (m ∷ ms) ys = go (is_deep m) (has_both ms ys)
  where
    go : (v : Bool) → has_deep (ms ++ ys) ≡ has_deep ms || has_deep ys
        → v || has_deep (ms ++ ys) ≡ (v || has_deep ms) || has_deep ys
    go true ih = refl
    go false ih = ih

-- a mark after one that is too deep isn't stored
pub held_skip : (kept : Marks) (marks : Marks) (m : Option ℕ) (deep : Bool) → deep ≡ true → Held kept deep marks
    → Held kept deep (marks ++ m ∷ [])
held_skip kept marks m deep e h = record {
  kept = h.kept ∙ sym (shallow_deep marks (m ∷ []) (sym h.deep ∙ e));
  deep = e ∙ sym (has_both marks (m ∷ []) ∙ ap (λ (v : Bool). v || has_deep (m ∷ [])) (sym h.deep ∙ e));
}

-- a mark that is too deep itself isn't stored, and the first such one is noted
pub held_deep : (kept : Marks) (marks : Marks) (m : Option ℕ) (deep : Bool) → deep ≡ false → is_deep m ≡ true
    → Held kept deep marks → Held kept true (marks ++ m ∷ [])
held_deep kept marks m deep e d h = record {
  kept = h.kept ∙ sym (append_none (shallow marks)) ∙ ap (λ (v : Bool). shallow marks ++ cond v [] (m ∷ [])) (sym d)
      ∙ sym (shallow_all marks (m ∷ []) (sym h.deep ∙ e));
  deep = sym (has_both marks (m ∷ []) ∙ ap (λ (v : Bool). v || has_deep (m ∷ [])) (sym h.deep ∙ e)
      ∙ ap (λ (v : Bool). v || false) d);
}
  where
    append_none : (xs : Marks) → xs ++ [] ≡ xs
    append_none [] = refl
    append_none (x ∷ xs) = ap (λ (ys : Marks). x ∷ ys) (append_none xs)

-- a mark that isn't too deep is stored
pub held_more : (kept new : Marks) (marks : Marks) (m : Option ℕ) (deep : Bool) → deep ≡ false → is_deep m ≡ false
    → new ≡ kept ++ m ∷ [] → Held kept deep marks → Held new deep (marks ++ m ∷ [])
held_more kept new marks m deep e d n h = record {
  kept = n ∙ ap (λ (xs : Marks). xs ++ m ∷ []) h.kept
      ∙ ap (λ (v : Bool). shallow marks ++ cond v [] (m ∷ [])) (sym d)
      ∙ sym (shallow_all marks (m ∷ []) (sym h.deep ∙ e));
  deep = e ∙ sym (has_both marks (m ∷ []) ∙ ap (λ (v : Bool). v || has_deep (m ∷ [])) (sym h.deep ∙ e)
      ∙ ap (λ (v : Bool). v || false) d);
}

-- the code's test whether a mark is too deep is right
pub capped_deep : (k : ℕ) (m : Option ℕ) → Some k ≡ option_map capped m → 200 < k → is_deep m ≡ true
capped_deep k None e h = cc
capped_deep k (Some level) e h =
    let same : k ≡ min level (2 ^ 64 - 1) = cc in
    let t : nat_lt 200 level ≡ true = grind (arith, nat_tests) in t

pub capped_shallow : (k : ℕ) (m : Option ℕ) → Some k ≡ option_map capped m → k ≤ 200 → (is_deep m ≡ false) × (Some k ≡ m)
capped_shallow k None e h = cc
capped_shallow k (Some level) e h =
    let same : k ≡ min level (2 ^ 64 - 1) = cc in
    let t : nat_lt 200 level ≡ false = grind (arith, nat_tests) in
    let s : k ≡ level = omega (arith, same, h) in (t, ap (λ (n : ℕ). Some n) s)

pub capped_none : (m : Option ℕ) → None ≡ option_map capped m → (is_deep m ≡ false) × (None ≡ m)
capped_none None e = (refl, refl)
capped_none (Some level) e = cc

-- a mark that is too deep stays so one level deeper
deeper_stays : (m : Option ℕ) → is_deep m ≡ true → is_deep (option_map suc m) ≡ true
deeper_stays None e = cc
deeper_stays (Some level) e = let t : nat_lt 200 (suc level) ≡ true = grind (arith, nat_tests) in t

-- of raised marks, those before the first that is too deep are found among those before it was
raised_shallow : (ms : Marks) → shallow (raised ms) ≡ shallow (raised (shallow ms))
raised_shallow [] = refl
raised_shallow (m ∷ ms) = go (is_deep m) refl (raised_shallow ms)
  where
    go : (v : Bool) → is_deep m ≡ v → shallow (raised ms) ≡ shallow (raised (shallow ms))
        → shallow (raised (m ∷ ms)) ≡ shallow (raised (cond v [] (m ∷ shallow ms)))
    go true e ih = ap (λ (v : Bool). cond v [] (option_map suc m ∷ shallow (raised ms))) (deeper_stays m e)
    go false e ih = ap (λ (xs : Marks). cond (is_deep (option_map suc m)) [] (option_map suc m ∷ xs)) ih

pub from_shallow : (n : ℕ) (ms : Marks) → shallow (raised_from n ms) ≡ shallow (raised_from n (shallow ms))
from_shallow zero ms = raised_shallow ms
from_shallow (suc n) [] = refl
from_shallow (suc n) (m ∷ ms) = go (is_deep m) refl (from_shallow n ms)
  where
    go : (v : Bool) → is_deep m ≡ v → shallow (raised_from n ms) ≡ shallow (raised_from n (shallow ms))
        → cond (is_deep m) [] (m ∷ shallow (raised_from n ms)) ≡ shallow (raised_from (suc n) (cond v [] (m ∷ shallow ms)))
    go true e ih = ap (λ (v : Bool). cond v [] (m ∷ shallow (raised_from n ms))) e
    go false e ih = ap (λ (xs : Marks). cond (is_deep m) [] (m ∷ xs)) ih

pub or_true : (v : Bool) → v || true ≡ true
or_true true = refl
or_true false = refl

raised_has : (ms : Marks) → has_deep (raised ms) ≡ has_deep (raised (shallow ms)) || has_deep ms
raised_has [] = refl
raised_has (m ∷ ms) = go (is_deep m) refl (raised_has ms)
  where
    both : (w : Bool) → has_deep (raised ms) ≡ has_deep (raised (shallow ms)) || has_deep ms
        → w || has_deep (raised ms) ≡ (w || has_deep (raised (shallow ms))) || has_deep ms
    both true ih = refl
    both false ih = ih

    go : (v : Bool) → is_deep m ≡ v → has_deep (raised ms) ≡ has_deep (raised (shallow ms)) || has_deep ms
        → has_deep (raised (m ∷ ms)) ≡ has_deep (raised (cond v [] (m ∷ shallow ms))) || (v || has_deep ms)
    go true e ih = ap (λ (v : Bool). v || has_deep (raised ms)) (deeper_stays m e)
    go false e ih = both (is_deep (option_map suc m)) ih

pub from_has : (n : ℕ) (ms : Marks) → has_deep (raised_from n ms) ≡ has_deep (raised_from n (shallow ms)) || has_deep ms
from_has zero ms = raised_has ms
from_has (suc n) [] = refl
from_has (suc n) (m ∷ ms) = go (is_deep m) refl (from_has n ms)
  where
    go : (v : Bool) → is_deep m ≡ v → has_deep (raised_from n ms) ≡ has_deep (raised_from n (shallow ms)) || has_deep ms
        → is_deep m || has_deep (raised_from n ms) ≡ has_deep (raised_from (suc n) (cond v [] (m ∷ shallow ms))) || (v || has_deep ms)
    go true e ih = ap (λ (v : Bool). v || has_deep (raised_from n ms)) e
    go false e ih =
        ap (λ (v : Bool). v || has_deep (raised_from n ms)) e ∙ ih
        ∙ ap (λ (v : Bool). (v || has_deep (raised_from n (shallow ms))) || has_deep ms) (sym e)

-- no stored mark is too deep
kept_shallow : (k : ℕ) (ms : Marks) → shallow (take k (shallow ms)) ≡ take k (shallow ms)
kept_shallow zero ms = refl
kept_shallow (suc k) [] = refl
kept_shallow (suc k) (m ∷ ms) = go (is_deep m) refl (kept_shallow k ms)
  where
    go : (v : Bool) → is_deep m ≡ v → shallow (take k (shallow ms)) ≡ take k (shallow ms) → shallow (take (suc k) (cond v [] (m ∷ shallow ms))) ≡ take (suc k) (cond v [] (m ∷ shallow ms))
    go true e ih = refl
    go false e ih = ap (λ (w : Bool). cond w [] (m ∷ shallow (take k (shallow ms)))) e ∙ ap (λ (xs : Marks). m ∷ xs) ih

kept_none : (k : ℕ) (ms : Marks) → has_deep (take k (shallow ms)) ≡ false
kept_none zero ms = refl
kept_none (suc k) [] = refl
kept_none (suc k) (m ∷ ms) = go (is_deep m) refl (kept_none k ms)
  where
    go : (v : Bool) → is_deep m ≡ v → has_deep (take k (shallow ms)) ≡ false → has_deep (take (suc k) (cond v [] (m ∷ shallow ms))) ≡ false
    go true e ih = refl
    go false e ih = ap (λ (w : Bool). w || has_deep (take k (shallow ms))) e ∙ ih

-- raising marks from a piece on keeps the marks before it and raises those after it
from_parts : (n : ℕ) (ms : Marks) → raised_from n ms ≡ take (min (length ms) n) ms ++ raised (drop (min (length ms) n) ms)
from_parts zero ms = let e : min (length ms) 0 ≡ 0 = omega arith in ap (λ (k : ℕ). take k ms ++ raised (drop k ms)) (sym e)
from_parts (suc n) [] = let e : min 0 (suc n) ≡ 0 = omega arith in ap (λ (k : ℕ). take k [] ++ raised (drop k [])) (sym e)
from_parts (suc n) (m ∷ ms) =
    let e : min (suc (length ms)) (suc n) ≡ suc (min (length ms) n) = omega arith in
    ap (λ (xs : Marks). m ∷ xs) (from_parts n ms) ∙ ap (λ (k : ℕ). take k (m ∷ ms) ++ raised (drop k (m ∷ ms))) (sym e)

-- the stored marks before a piece are those of the marks before it
pub held_prefix : (old front : Marks) (deep : Bool) (marks : Marks) (k : ℕ) → Held old deep marks → front ≡ take k old → Held front false front
held_prefix old front deep marks k h e =
    let same : front ≡ take k (shallow marks) = e ∙ ap (take k) h.kept in
    record {
      kept = same ∙ sym (kept_shallow k marks) ∙ ap shallow (sym same);
      deep = sym (ap has_deep same ∙ kept_none k marks);
    }

-- with the marks after a piece raised, the stored marks are those of all marks
pub held_raised : (old front tail new : Marks) (deep now : Bool) (marks : Marks) (start at : ℕ) → length old < 2 ^ 64 → start ≡ capped at
    → Held old deep marks → front ≡ take (min (length old) start) old → tail ≡ drop (min (length old) start) old
    → Held new now (front ++ raised tail) → Held new (now || deep) (raised_from at marks)
held_raised old front tail new deep now marks start at l s h f t n =
    let k : min (length old) start ≡ min (length old) at = omega (arith, l, s) in
    let same : front ++ raised tail ≡ raised_from at (shallow marks) =
    ap (λ (xs : Marks). xs ++ raised tail) f ∙ ap (λ (xs : Marks). take (min (length old) start) old ++ raised xs) t
    ∙ ap (λ (j : ℕ). take j old ++ raised (drop j old)) k ∙ sym (from_parts at old) ∙ ap (raised_from at) h.kept in
    record {
      kept = n.kept ∙ ap shallow same ∙ sym (from_shallow at marks);
      deep = ap (λ (v : Bool). v || deep) n.deep ∙ ap (λ (xs : Marks). has_deep xs || deep) same
          ∙ ap (λ (v : Bool). has_deep (raised_from at (shallow marks)) || v) h.deep ∙ sym (from_has at marks);
    }

-- capping and raising a mark is raising it and capping it
pub capped_deeper : (m : Option ℕ) → option_map (λ level. capped (suc level)) m ≡ option_map capped (option_map suc m)
capped_deeper None = refl
capped_deeper (Some level) = refl

-- raising marks with one more at the end raises that one, too
raised_push : (done : Marks) (m : Option ℕ) → raised (done ++ m ∷ []) ≡ raised done ++ option_map suc m ∷ []
raised_push [] m = refl
raised_push (x ∷ xs) m = ap (λ (ms : Marks). option_map suc x ∷ ms) (raised_push xs m)

behind_both : (xs ys zs : Marks) → xs ++ (ys ++ zs) ≡ (xs ++ ys) ++ zs
behind_both [] ys zs = refl
behind_both (x ∷ xs) ys zs = ap (λ (ms : Marks). x ∷ ms) (behind_both xs ys zs)

pub one_deeper : (before done : Marks) (m : Option ℕ)
    → before ++ raised (done ++ m ∷ []) ≡ (before ++ raised done) ++ option_map suc m ∷ []
one_deeper before done m = ap (λ (ms : Marks). before ++ ms) (raised_push done m) ∙ behind_both before (raised done) (option_map suc m ∷ [])

pub one_less : (done rest : Marks) (m : Option ℕ) → (done ++ m ∷ []) ++ rest ≡ done ++ m ∷ rest
one_less done rest m = sym (behind_both done (m ∷ []) rest)
