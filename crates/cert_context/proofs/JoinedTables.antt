-- Tables of facts that are joined in order: a fact counts unless one before it has its key.
use Rattle.std.proofs.Common.{◌≡◌, ℕ, ◌==◌, ◌&&◌, Bool, true, false, cond, List, [], ◌∷◌, ◌++◌, Option, Some, None}
use Rattle.std.proofs.Common.{refl, sym, ap, ◌∙◌, subst}
use Rattle.std.specs.BTreeMap.{is_at}
use Rattle.std.specs.BTreeSet.{BTreeSet, contains}
use Rattle.std.specs.Cmp.{unsigned_tied}
use Rattle.std.specs.Ordering.{nat_cmp}
use Rattle.model.specs.Bounds.{Bound}
use Rattle.model.specs.Facts.{Fact, Time, Size, Cost}
use Rattle.model.proofs.Membership.{same_number-sound}
use Rattle.cert_types.specs.cert_rules.Known.{Table, table_of, time_in, size_in}
use Rattle.cert_context.specs.Joining.{StatesAllAt}
use Rattle.cert_context.specs.Statements.{stated_at}
use Rattle.cert_context.specs.declared.stated_facts.StatedFacts.{StatedFacts}

-- the first of two bounds if there is one, or else the second
abbrev earlier : Option Bound → Option Bound → Option Bound
earlier None o = o
earlier (Some b) o = Some b

-- a time among facts that are joined is that among the first, or else that among the others
time-joined : (fs gs : List Fact) (t : ℕ) → time_in (fs ++ gs) t ≡ earlier (time_in fs t) (time_in gs t)
time-joined [] gs t = refl
time-joined (Time u b ∷ fs) gs t = go (u == t) (time-joined fs gs t)
  where
    go : (v : Bool) → time_in (fs ++ gs) t ≡ earlier (time_in fs t) (time_in gs t)
        → cond v (Some b) (time_in (fs ++ gs) t) ≡ earlier (cond v (Some b) (time_in fs t)) (time_in gs t)
    go true h = refl
    go false h = h
time-joined (Size u i b ∷ fs) gs t = time-joined fs gs t
time-joined (Cost u b ∷ fs) gs t = time-joined fs gs t

-- a size among joined facts is that among the first, or else that among the others
size-joined : (fs gs : List Fact) (t i : ℕ) → size_in (fs ++ gs) t i ≡ earlier (size_in fs t i) (size_in gs t i)
size-joined [] gs t i = refl
size-joined (Time u b ∷ fs) gs t i = size-joined fs gs t i
size-joined (Size u j b ∷ fs) gs t i = go ((u == t) && (j == i)) (size-joined fs gs t i)
  where
    go : (v : Bool) → size_in (fs ++ gs) t i ≡ earlier (size_in fs t i) (size_in gs t i)
        → cond v (Some b) (size_in (fs ++ gs) t i) ≡ earlier (cond v (Some b) (size_in fs t i)) (size_in gs t i)
    go true h = refl
    go false h = h
size-joined (Cost u b ∷ fs) gs t i = size-joined fs gs t i

-- two lists of facts have the same table if they have the same times and sizes
same-tables : (fs gs : List Fact) → ((t : ℕ) → time_in fs t ≡ time_in gs t)
    → ((t i : ℕ) → size_in fs t i ≡ size_in gs t i) → table_of fs ≡ table_of gs
same-tables fs gs h k = λ m. record { time = λ t. h t m; size = λ t i. k t i m }

-- lists of facts with the same table have the same time of each rule
time_of_tables : (fs gs : List Fact) → table_of fs ≡ table_of gs → (t : ℕ) → time_in fs t ≡ time_in gs t
time_of_tables fs gs e t = ap (λ (b : Table). b.time t) e

size_of_tables : (fs gs : List Fact) → table_of fs ≡ table_of gs → (t i : ℕ) → size_in fs t i ≡ size_in gs t i
size_of_tables fs gs e t i = ap (λ (b : Table). b.size t i) e

-- lists of facts with the same table have the same table when the same facts are appended
pub joined-same : (fs gs others : List Fact) → table_of fs ≡ table_of gs → table_of (fs ++ others) ≡ table_of (gs ++ others)
joined-same fs gs others e =
    same-tables (fs ++ others) (gs ++ others)
    (λ t. time-joined fs others t
    ∙ (ap (λ (o : Option Bound). earlier o (time_in others t)) (time_of_tables fs gs e t) ∙ sym (time-joined gs others t)))
    (λ t i. size-joined fs others t i
    ∙ (ap (λ (o : Option Bound). earlier o (size_in others t i)) (size_of_tables fs gs e t i) ∙ sym (size-joined gs others t i)))

-- a bound that changes nothing after one bound changes nothing after that and another
still-first : (o p q : Option Bound) → earlier o q ≡ o → earlier (earlier o p) q ≡ earlier o p
still-first (Some b) p q e = refl
still-first None (Some b) q e = refl
still-first None None q e = e

-- a bound changes nothing after itself
earlier_twice : (o p : Option Bound) → earlier (earlier o p) p ≡ earlier o p
earlier_twice (Some b) p = refl
earlier_twice None (Some b) = refl
earlier_twice None None = refl

-- facts that change no bound when appended to a list change none when appended to a longer one
more-before : (fs others gs : List Fact) → table_of (fs ++ gs) ≡ table_of fs
    → table_of ((fs ++ others) ++ gs) ≡ table_of (fs ++ others)
more-before fs others gs e =
    same-tables ((fs ++ others) ++ gs) (fs ++ others)
    (λ t. time-joined (fs ++ others) gs t
    ∙ (ap (λ (o : Option Bound). earlier o (time_in gs t)) (time-joined fs others t)
    ∙ (still-first (time_in fs t) (time_in others t) (time_in gs t)
    (sym (time-joined fs gs t) ∙ time_of_tables (fs ++ gs) fs e t)
    ∙ sym (time-joined fs others t))))
    (λ t i. size-joined (fs ++ others) gs t i
    ∙ (ap (λ (o : Option Bound). earlier o (size_in gs t i)) (size-joined fs others t i)
    ∙ (still-first (size_in fs t i) (size_in others t i) (size_in gs t i)
    (sym (size-joined fs gs t i) ∙ size_of_tables (fs ++ gs) fs e t i)
    ∙ sym (size-joined fs others t i))))

-- facts change no bound when appended a second time
appended_twice : (fs gs : List Fact) → table_of ((fs ++ gs) ++ gs) ≡ table_of (fs ++ gs)
appended_twice fs gs =
    same-tables ((fs ++ gs) ++ gs) (fs ++ gs)
    (λ t. time-joined (fs ++ gs) gs t
    ∙ (ap (λ (o : Option Bound). earlier o (time_in gs t)) (time-joined fs gs t)
    ∙ (earlier_twice (time_in fs t) (time_in gs t) ∙ sym (time-joined fs gs t))))
    (λ t i. size-joined (fs ++ gs) gs t i
    ∙ (ap (λ (o : Option Bound). earlier o (size_in gs t i)) (size-joined fs gs t i)
    ∙ (earlier_twice (size_in fs t i) (size_in gs t i) ∙ sym (size-joined fs gs t i))))

-- stored facts that change no bound when appended to some facts change none when others are between
pub all_at-still : (kept : StatedFacts) (seen : BTreeSet ℕ) (old others new : List Fact) → StatesAllAt kept seen old
    → new ≡ old ++ others → StatesAllAt kept seen new
all_at-still kept seen old others new h e = record {
  each = λ n k.
      subst (λ (fs : List Fact). table_of (fs ++ stated_at kept n) ≡ table_of fs) (sym e)
      (more-before old others (stated_at kept n) (h.each n k));
}

-- once the facts stored at a position are joined, those stored at the positions of the set and at it change no bound
pub all_at-more : (kept : StatedFacts) (seen more : BTreeSet ℕ) (old new : List Fact) (n : ℕ) → StatesAllAt kept seen old
    → new ≡ old ++ stated_at kept n
    → ((q : ℕ) → contains nat_cmp more q ≡ cond (is_at (nat_cmp n) q) true (contains nat_cmp seen q))
    → StatesAllAt kept more new
all_at-more kept seen more old new n h e u = record { each = λ m k. go m (is_at (nat_cmp n) m) refl (sym (u m) ∙ k) }
  where
    go : (m : ℕ) (v : Bool) → is_at (nat_cmp n) m ≡ v → cond v true (contains nat_cmp seen m) ≡ true
        → table_of (new ++ stated_at kept m) ≡ table_of new
    go m true s k =
        subst (λ (i : ℕ). table_of (new ++ stated_at kept i) ≡ table_of new)
        (same_number-sound n m (sym (unsigned_tied n m) ∙ s))
        (subst (λ (fs : List Fact). table_of (fs ++ stated_at kept n) ≡ table_of fs) (sym e) (appended_twice old (stated_at kept n)))
    go m false s k = (all_at-still kept seen old (stated_at kept n) new h e).each m k
