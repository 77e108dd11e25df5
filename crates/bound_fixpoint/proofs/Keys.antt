-- Keys among keys, and the facts of keys.
use Rattle.std.proofs.Common.{◌≡◌, ◌⊎◌, inl, inr, ℕ, zero, suc, ◌≤◌, ◌==◌, ◌&&◌, true, false, List, []}
use Rattle.std.proofs.Common.{◌∷◌, ◌++◌, map, refl, sym, ◌∙◌, ap, subst, arith, All}
use Rattle.std.specs.List.{Contains}
use Rattle.std.proofs.lemmas.Bool.{and_parts, and_from, or_left, or_right, or_cases}
use Rattle.std.proofs.lemmas.List.Elements.{All-head, All-tail}
use Rattle.rule_questions.specs.model.Bounds.{Bound}
use Rattle.rule_questions.specs.model.Facts.{Size}
use Rattle.rule_questions.specs.model.Entries.{is_in}
use Rattle.rule_questions.proofs.model.Membership.{same_number, same_number-sound, is_in-cases, no_is_not_yes}
use Rattle.rule_questions.specs.cert_rules.Nodes.{ResultVariable}
use Rattle.bound_fixpoint.specs.Keys.{key, time_key, has_key, place_fact}
use Rattle.bound_fixpoint.proofs.Cases.{either, by_cases}
use Rattle.bound_fixpoint.proofs.ListMembers.{contains-cases, contains-none, contains-first, contains-later}

-- a key is among keys that begin with it
pub has_key-first : (k : ResultVariable) (keys : List ResultVariable) → has_key (k ∷ keys) k.rule k.place ≡ true
has_key-first k keys =
    or_left ((k.rule == k.rule) && (k.place == k.place)) (has_key keys k.rule k.place)
    (and_from (k.rule == k.rule) (k.place == k.place) (same_number k.rule) (same_number k.place))

-- a key among the rest of the keys is among all
pub has_key-later : (k : ResultVariable) (keys : List ResultVariable) (t i : ℕ) → has_key keys t i ≡ true → has_key (k ∷ keys) t i ≡ true
has_key-later k keys t i m = or_right ((k.rule == t) && (k.place == i)) (has_key keys t i) m

-- a key among others is the first or in the rest
pub has_key-cases : (k : ResultVariable) (keys : List ResultVariable) (t i : ℕ) → has_key (k ∷ keys) t i ≡ true
    → (k ≡ key t i) ⊎ (has_key keys t i ≡ true)
has_key-cases k keys t i m = by_cases ((k.rule == t) && (k.place == i)) here later
  where
    here : ((k.rule == t) && (k.place == i)) ≡ true → (k ≡ key t i) ⊎ (has_key keys t i ≡ true)
    here e =
        let both = and_parts (k.rule == t) (k.place == i) e in
        inl (ap (λ (n : ℕ). key n k.place) (same_number-sound k.rule t both.0)
        ∙ ap (λ (n : ℕ). key t n) (same_number-sound k.place i both.1))

    later : ((k.rule == t) && (k.place == i)) ≡ false → (k ≡ key t i) ⊎ (has_key keys t i ≡ true)
    later e = inr (rw e at m)

-- no key is among none
pub has_key-none : (t i : ℕ) → has_key [] t i ≡ true → ⊥
has_key-none t i m = no_is_not_yes false refl m

-- keys that contain a key have it
pub contained-has_key : (keys : List ResultVariable) (k : ResultVariable) → Contains keys k → has_key keys k.rule k.place ≡ true
contained-has_key [] k h = absurd (contains-none k h)
contained-has_key (x ∷ keys) k h =
    either (contains-cases k x keys h)
    (λ e. subst (λ (y : ResultVariable). has_key (x ∷ keys) y.rule y.place ≡ true) e (has_key-first x keys))
    (λ m. has_key-later x keys k.rule k.place (contained-has_key keys k m))

-- a key found among keys is one of them
pub has_key-contained : (keys : List ResultVariable) (t i : ℕ) → has_key keys t i ≡ true → Contains keys (key t i)
has_key-contained [] t i m = absurd (has_key-none t i m)
has_key-contained (k ∷ keys) t i m =
    either (has_key-cases k keys t i m)
    (λ e. subst (λ (y : ResultVariable). Contains (k ∷ keys) y) e (contains-first k keys))
    (λ later. contains-later (key t i) k keys (has_key-contained keys t i later))

-- a property of all keys is one of each
pub has_key-all : (P : ResultVariable → Type 0) (keys : List ResultVariable) (t i : ℕ) → All P keys → has_key keys t i ≡ true → P (key t i)
has_key-all P [] t i h m = absurd (has_key-none t i m)
has_key-all P (k ∷ keys) t i h m =
    either (has_key-cases k keys t i m) (λ e. subst P e (All-head P k keys h))
    (λ later. has_key-all P keys t i (All-tail P k keys h) later)

-- a key is among joined keys where it is among the first
pub has_key-left : (xs ys : List ResultVariable) (t i : ℕ) → has_key xs t i ≡ true → has_key (xs ++ ys) t i ≡ true
has_key-left [] ys t i m = absurd (has_key-none t i m)
has_key-left (x ∷ xs) ys t i m =
    either (or_cases ((x.rule == t) && (x.place == i)) (has_key xs t i) m)
    (λ e. or_left ((x.rule == t) && (x.place == i)) (has_key (xs ++ ys) t i) e)
    (λ later. has_key-later x (xs ++ ys) t i (has_key-left xs ys t i later))

-- a key among the second keys is among the appended ones
pub has_key-right : (xs ys : List ResultVariable) (t i : ℕ) → has_key ys t i ≡ true → has_key (xs ++ ys) t i ≡ true
has_key-right [] ys t i m = m
has_key-right (x ∷ xs) ys t i m = has_key-later x (xs ++ ys) t i (has_key-right xs ys t i m)

-- a key among appended keys is among the first or the second ones
pub has_key-either : (xs ys : List ResultVariable) (t i : ℕ) → has_key (xs ++ ys) t i ≡ true
    → (has_key xs t i ≡ true) ⊎ (has_key ys t i ≡ true)
has_key-either [] ys t i m = inr m
has_key-either (x ∷ xs) ys t i m =
    either (or_cases ((x.rule == t) && (x.place == i)) (has_key (xs ++ ys) t i) m)
    (λ e. inl (or_left ((x.rule == t) && (x.place == i)) (has_key xs t i) e))
    (λ later. either (has_key-either xs ys t i later) (λ l. inl (has_key-later x xs t i l)) (λ r. inr r))

-- the times of rules that are listed
pub has_time_key : (ts : List ℕ) (t : ℕ) → is_in t ts ≡ true → has_key (map time_key ts) t 0 ≡ true
has_time_key [] t m = absurd (no_is_not_yes false refl m)
has_time_key (u ∷ ts) t m =
    either (is_in-cases t u ts m)
    (λ e. subst (λ (n : ℕ). has_key (time_key u ∷ map time_key ts) n 0 ≡ true) (sym e)
    (has_key-first (time_key u) (map time_key ts)))
    (λ later. has_key-later (time_key u) (map time_key ts) t 0 (has_time_key ts t later))

-- a bound at a place from 1 on is a size
pub size_fact : (t i : ℕ) (b : Bound) → 1 ≤ i → place_fact t i b ≡ Size t i b
size_fact t zero b h = absurd (omega (arith, h))
size_fact t (suc i) b h = refl
