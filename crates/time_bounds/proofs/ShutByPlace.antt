-- The shut places with one symbol more, and with one place more.
use Rattle.std.proofs.Common.{◌≡◌, ◌≢◌, ◌==◌, subst, set, take, replicate, ℕ, zero, suc, ◌+◌, ◌-◌, ◌<◌, ◌≤◌, ◌||◌, Bool}
use Rattle.std.proofs.Common.{true, false, cond, List, [], ◌∷◌, ◌++◌, length, map, filter, get_or, Option, Some, None}
use Rattle.std.proofs.Common.{option_map, refl, sym, ◌∙◌, ap, append_assoc, arith}
use Rattle.std.specs.List.{list_any, range_with_len}
use Rattle.std.proofs.lemmas.List.FromFn.{get_or-map-range_with_len, length-range_with_len}
use Rattle.std.proofs.lemmas.List.{map-append, length-map, take_more}
use Rattle.std.proofs.lemmas.List.Elements.{filter-append}
use Rattle.std.proofs.lemmas.Option.{slice_get-map, slice_get_read}
use Rattle.std.specs.Prelude.{slice_get, IfSome}
use Rattle.std.specs.List.{AllByRecursion}
use Rattle.std.proofs.lemmas.Bool.{ne_eqb}
use Rattle.model.specs.Paths.{target_in, target_of, same_symbol}
use Rattle.its_model.specs.Valid.{IsValid, IsValidSymbol}
use Rattle.guard_prep.proofs.StepLaws.{valid-at}
use Rattle.model.proofs.Membership.{no_is_not_yes, same_number}
use Rattle.model.specs.Programs as plain
use Rattle.model.specs.Programs.{arity_in, arity_of}
use Rattle.its_model.specs.declared.program.Symbol.{Symbol}
use Rattle.its_model.specs.declared.program.Program.{Program}
use Rattle.its_model.specs.Views.{symbol_of, program_of}
use Rattle.cert_types.specs.cert_rules.Gaps.{SymbolPlace}
use Rattle.cert_types.specs.cert_rules.Known.{Table}
use Rattle.time_bounds.specs.Shutting.{lacks_any, at_place, place_if, shut_at, into, shut_by, shut_from, shut_marked}
use Rattle.time_bounds.specs.Shutting.{mark_of, marks_of, put_mark}
pub use Rattle.cert_types.proofs.Numbers.{numbers-more as numbers_more}

-- a filtered range with one number more
pub filter_more : (test : ℕ → Bool) (a n : ℕ) → filter test (range_with_len a (n + 1)) ≡ filter test (range_with_len a n) ++ cond (test (a + n)) ((a + n) ∷ []) []
filter_more test a n = ap (filter test) (numbers_more a n) ∙ filter-append test (range_with_len a n) ((a + n) ∷ [])

append-nil : (xs : List SymbolPlace) → xs ++ [] ≡ xs
append-nil [] = refl
append-nil (x ∷ xs) = ap (λ (ys : List SymbolPlace). x ∷ ys) (append-nil xs)

-- the shut places of a symbol with one place more
place_more : (tab : Table) (rules : List ℕ) (a n : ℕ) → shut_at tab rules a (n + 1) ≡ shut_at tab rules a n ++ place_if tab rules a (n + 1)
place_more tab rules a n =
    ap (map (at_place a)) (filter_more (lacks_any tab rules) 1 n)
    ∙ (map-append (at_place a) (filter (lacks_any tab rules) (range_with_len 1 n)) (cond (lacks_any tab rules (1 + n)) ((1 + n) ∷ []) [])
    ∙ (ap (λ (m : ℕ). shut_at tab rules a n ++ map (at_place a) (cond (lacks_any tab rules m) (m ∷ []) [])) (let z : 1 + n ≡ n + 1 = omega arith in z)
    ∙ ap (λ (xs : List SymbolPlace). shut_at tab rules a n ++ xs) (mapped (lacks_any tab rules (n + 1)))))
  where
    mapped : (v : Bool) → map (at_place a) (cond v ((n + 1) ∷ []) []) ≡ cond v (at_place a (n + 1) ∷ []) []
    mapped true = refl
    mapped false = refl

-- if the next place is shut, it is appended to the shut ones so far
pub place_pushed : (tab : Table) (rules : List ℕ) (a n : ℕ) (first old new : List SymbolPlace) → old ≡ first ++ shut_at tab rules a n
    → new ≡ old ++ place_if tab rules a (n + 1) → new ≡ first ++ shut_at tab rules a (n + 1)
place_pushed tab rules a n first old new h g =
    g ∙ (ap (λ (xs : List SymbolPlace). xs ++ place_if tab rules a (n + 1)) h
    ∙ (append_assoc first (shut_at tab rules a n) (place_if tab rules a (n + 1))
    ∙ ap (λ (xs : List SymbolPlace). first ++ xs) (sym (place_more tab rules a n))))

-- the shut places with those of one symbol more
pub symbol_pushed : (p : plain.Program) (tab : Table) (es : List ℕ) (a n : ℕ) (old new all : List SymbolPlace) → a < n
    → old ++ shut_from p tab es a (n - a) ≡ all → new ≡ old ++ shut_by p tab es a
    → new ++ shut_from p tab es (a + 1) (n - (a + 1)) ≡ all
symbol_pushed p tab es a n old new all l e h =
    let left : n - a ≡ suc (n - (a + 1)) = omega (arith, l) in
    ap (λ (xs : List SymbolPlace). xs ++ shut_from p tab es (a + 1) (n - (a + 1))) h
    ∙ (append_assoc old (shut_by p tab es a) (shut_from p tab es (a + 1) (n - (a + 1)))
    ∙ (ap (λ (m : ℕ). old ++ shut_from p tab es a m) (sym left) ∙ e))

-- a symbol to which no entry leads has no shut place
no_entry : (p : plain.Program) (es : List ℕ) (a : ℕ) → list_any (λ e. same_symbol (target_of p e) (Some a)) es ≡ false → into p es a ≡ []
no_entry p [] a h = refl
no_entry p (e ∷ es) a h = go (same_symbol (target_of p e) (Some a)) refl h (no_entry p es a)
  where
    go : (v : Bool) → same_symbol (target_of p e) (Some a) ≡ v → (v || list_any (λ e. same_symbol (target_of p e) (Some a)) es) ≡ false
        → (list_any (λ e. same_symbol (target_of p e) (Some a)) es ≡ false → into p es a ≡ []) → into p (e ∷ es) a ≡ []
    go true k g ih = absurd (no_is_not_yes true g refl)
    go false k g ih =
        ap (λ (v : Bool). cond v (e ∷ into p es a) (into p es a)) k ∙ ih g

none_lacking : (tab : Table) (is : List ℕ) → filter (lacks_any tab []) is ≡ []
none_lacking tab [] = refl
none_lacking tab (i ∷ is) = none_lacking tab is

-- a symbol to which no entry leads adds no shut place
pub symbol_passed : (p : plain.Program) (tab : Table) (es : List ℕ) (a n : ℕ) (old all : List SymbolPlace) → a < n
    → old ++ shut_from p tab es a (n - a) ≡ all → list_any (λ e. same_symbol (target_of p e) (Some a)) es ≡ false
    → old ++ shut_from p tab es (a + 1) (n - (a + 1)) ≡ all
symbol_passed p tab es a n old all l e none =
    let nothing : shut_by p tab es a ≡ [] =
    ap (λ (xs : List ℕ). shut_at tab xs a (arity_of p a)) (no_entry p es a none)
    ∙ ap (map (at_place a)) (none_lacking tab (range_with_len 1 (arity_of p a))) in
    symbol_pushed p tab es a n old old all l e (sym (ap (λ (xs : List SymbolPlace). old ++ xs) nothing ∙ append-nil old))

-- if no symbol is left, the shut places so far are all
pub symbols_whole : (p : plain.Program) (tab : Table) (es : List ℕ) (a n : ℕ) (old all : List SymbolPlace) → n ≤ a
    → old ++ shut_from p tab es a (n - a) ≡ all → old ≡ all
symbols_whole p tab es a n old all l e =
    let none : n - a ≡ 0 = omega (arith, l) in
    sym (append-nil old) ∙ (ap (λ (m : ℕ). old ++ shut_from p tab es a m) (sym none) ∙ e)

-- appending the shut places of a marked symbol, or none, leaves those of the later symbols
pub mark_pushed : (p : plain.Program) (tab : Table) (es : List ℕ) (n i : ℕ) (marks : List (Option ℕ)) (old new all : List SymbolPlace) → i < n
    → marks ≡ marks_of p es n → old ++ shut_from p tab es i (n - i) ≡ all → new ≡ old ++ shut_marked p tab es (get_or marks i None)
    → new ++ shut_from p tab es (i + 1) (n - (i + 1)) ≡ all
mark_pushed p tab es n i marks old new all l m e h = go (list_any (λ u. same_symbol (target_of p u) (Some i)) es) refl
  where
    at : get_or marks i None ≡ mark_of p es i
    at =
        ap (λ (xs : List (Option ℕ)). get_or xs i None) m
        ∙ get_or-map-range_with_len (mark_of p es) 0 n i i None l (let z : 0 + i ≡ i = omega arith in z)

    go : (v : Bool) → list_any (λ u. same_symbol (target_of p u) (Some i)) es ≡ v → new ++ shut_from p tab es (i + 1) (n - (i + 1)) ≡ all
    go true k =
        symbol_pushed p tab es i n old new all l e
        (h ∙ ap (λ (o : Option ℕ). old ++ shut_marked p tab es o) (at ∙ ap (λ (v : Bool). cond v (Some i) None) k))
    go false k =
        let same : new ≡ old =
        h ∙ (ap (λ (o : Option ℕ). old ++ shut_marked p tab es o) (at ∙ ap (λ (v : Bool). cond v (Some i) None) k) ∙ append-nil old) in
        ap (λ (xs : List SymbolPlace). xs ++ shut_from p tab es (i + 1) (n - (i + 1))) same ∙ symbol_passed p tab es i n old all l e k

-- a mark is the number of a symbol
pub mark_within : (p : plain.Program) (es : List ℕ) (n i a : ℕ) (marks : List (Option ℕ)) → i < n → marks ≡ marks_of p es n
    → get_or marks i None ≡ Some a → a < n
mark_within p es n i a marks l m e =
    go (list_any (λ u. same_symbol (target_of p u) (Some i)) es)
    (sym e ∙ (ap (λ (xs : List (Option ℕ)). get_or xs i None) m
    ∙ get_or-map-range_with_len (mark_of p es) 0 n i i None l (let z : 0 + i ≡ i = omega arith in z)))
  where
    go : (v : Bool) → Some a ≡ cond v (Some i) None → a < n
    go true h = let same : a ≡ i = cc in omega (arith, l, same)
    go false h = absurd (let f : ⊥ = cc in f)

-- there are as many marks as symbols
pub marks_long : (p : plain.Program) (es : List ℕ) (n : ℕ) (marks : List (Option ℕ)) → marks ≡ marks_of p es n → length marks ≡ n
marks_long p es n marks m =
    ap (λ (xs : List (Option ℕ)). length xs) m ∙ (length-map (range_with_len 0 n) (mark_of p es) ∙ length-range_with_len 0 n)

-- the arity of a symbol that was read
pub arity_read : (p : Program) (a : ℕ) (s : Symbol) → a < length p.symbols.items → s ≡ get_or p.symbols.items a s → arity_of (program_of p) a ≡ s.arity
arity_read p a s l e =
    ap arity_in (slice_get-map symbol_of p.symbols.items a
    ∙ ap (λ (o : Option Symbol). option_map symbol_of o) (slice_get_read p.symbols.items (length p.symbols.items) a s refl l e))

-- no symbol of a valid program has more than 32 places
pub few_places : (symbols : List plain.Symbol) (s : ℕ) → AllByRecursion IsValidSymbol symbols → arity_in (slice_get symbols s) ≤ 32
few_places [] s h = omega arith
few_places (x ∷ symbols) zero h = h.0.arity
few_places (x ∷ symbols) (suc s) h = few_places symbols s h.1

-- a symbol that was read of a valid program has at most 32 places
pub arity_few : (p : Program) (a : ℕ) (s : Symbol) → IsValid (program_of p) → a < length p.symbols.items → s ≡ get_or p.symbols.items a s → s.arity ≤ 32
arity_few p a s v l e = omega (arith, few_places (map symbol_of p.symbols.items) a v.symbols, arity_read p a s l e)

-- the target of a rule, or of the virtual entry, is a symbol of the program
pub target_within : (p : plain.Program) → IsValid p → (t a : ℕ) → target_of p t ≡ Some a → a < length p.symbols
target_within p v zero a e = let same : p.start ≡ a = cc in omega (arith, v.start, same)
target_within p v (suc t) a e = go (slice_get p.rules t) refl
  where
    go : (o : Option plain.Rule) → slice_get p.rules t ≡ o → a < length p.symbols
    go None k = absurd (let f : None ≡ Some a = sym (ap target_in k) ∙ e in none_some f)
      where
        none_some : None ≡ Some a → ⊥
        none_some x = cc
    go (Some r) k =
        let same : Some r.target ≡ Some a = sym (ap target_in k) ∙ e in
        let target : r.target ≡ a = cc in
        omega (arith, (valid-at p (suc t) r v k).target, target)

-- before the first entry there are no marks
pub no_marks : (p : plain.Program) (a n : ℕ) → replicate n None ≡ map (mark_of p []) (range_with_len a n)
no_marks p a zero = refl
no_marks p a (suc n) = ap (λ (os : List (Option ℕ)). None ∷ os) (no_marks p (a + 1) n)

map_agree : (f g : ℕ → Option ℕ) (k n : ℕ) → ((b : ℕ) → k ≤ b → f b ≡ g b) → map f (range_with_len k n) ≡ map g (range_with_len k n)
map_agree f g k zero h = refl
map_agree f g k (suc n) h =
    ap (λ (o : Option ℕ). o ∷ map f (range_with_len (k + 1) n)) (h k (omega arith))
    ∙ ap (λ (os : List (Option ℕ)). g k ∷ os) (map_agree f g (k + 1) n (λ b l. h b (omega (arith, l))))

set_mapped : (f g : ℕ → Option ℕ) (k n i : ℕ) (v : Option ℕ) → g (k + i) ≡ v → ((b : ℕ) → b ≢ k + i → f b ≡ g b) → i < n
    → set (map f (range_with_len k n)) i v ≡ map g (range_with_len k n)
set_mapped f g k zero i v e h l = absurd (omega (arith, l))
set_mapped f g k (suc n) zero v e h l =
    ap (λ (o : Option ℕ). o ∷ map f (range_with_len (k + 1) n)) (sym e ∙ ap g (let z : k + 0 ≡ k = omega arith in z))
    ∙ ap (λ (os : List (Option ℕ)). g k ∷ os) (map_agree f g (k + 1) n (λ b low. h b (let d : b ≢ k + 0 = omega (arith, low) in d)))
set_mapped f g k (suc n) (suc i) v e h l =
    ap (λ (o : Option ℕ). o ∷ set (map f (range_with_len (k + 1) n)) i v) (h k (let d : k ≢ k + suc i = omega arith in d))
    ∙ ap (λ (os : List (Option ℕ)). g k ∷ os)
    (set_mapped f g (k + 1) n i v (ap g (let z : k + 1 + i ≡ k + suc i = omega arith in z) ∙ e)
    (λ b d. h b (subst (λ (m : ℕ). b ≢ m) (let z : k + 1 + i ≡ k + suc i = omega arith in z) d)) (omega (arith, l)))

-- whether some entry passes a test, with one entry more
any_more : (test : ℕ → Bool) (es : List ℕ) (e : ℕ) → list_any test (es ++ e ∷ []) ≡ (list_any test es || test e)
any_more test [] e = or-false (test e)
  where
    or-false : (v : Bool) → (v || false) ≡ v
    or-false true = refl
    or-false false = refl
any_more test (x ∷ es) e = go (test x) (any_more test es e)
  where
    go : (v : Bool) → list_any test (es ++ e ∷ []) ≡ (list_any test es || test e)
        → (v || list_any test (es ++ e ∷ [])) ≡ ((v || list_any test es) || test e)
    go true h = refl
    go false h = h

-- an entry more that leads to a symbol marks it with its number
pub entry_marked : (p : plain.Program) (es : List ℕ) (e a n : ℕ) → target_of p e ≡ Some a → a < n
    → set (marks_of p es n) a (Some a) ≡ marks_of p (es ++ e ∷ []) n
entry_marked p es e a n t l = set_mapped (mark_of p es) (mark_of p (es ++ e ∷ [])) 0 n a (Some a) here others l
  where
    marks_at : (b : ℕ) → mark_of p (es ++ e ∷ []) b ≡ cond (list_any (λ u. same_symbol (target_of p u) (Some b)) es || (a == b)) (Some b) None
    marks_at b =
        ap (λ (v : Bool). cond v (Some b) None) (any_more (λ u. same_symbol (target_of p u) (Some b)) es e
        ∙ ap (λ (o : Option ℕ). list_any (λ u. same_symbol (target_of p u) (Some b)) es || same_symbol o (Some b)) t)

    or-true : (v : Bool) → (v || true) ≡ true
    or-true true = refl
    or-true false = refl

    or-false : (v : Bool) → (v || false) ≡ v
    or-false true = refl
    or-false false = refl

    here : mark_of p (es ++ e ∷ []) (0 + a) ≡ Some a
    here =
        ap (mark_of p (es ++ e ∷ [])) (let z : 0 + a ≡ a = omega arith in z)
        ∙ (marks_at a
        ∙ (ap (λ (v : Bool). cond (list_any (λ u. same_symbol (target_of p u) (Some a)) es || v) (Some a) None) (same_number a)
        ∙ ap (λ (v : Bool). cond v (Some a) None) (or-true (list_any (λ u. same_symbol (target_of p u) (Some a)) es))))

    others : (b : ℕ) → b ≢ 0 + a → mark_of p es b ≡ mark_of p (es ++ e ∷ []) b
    others b d =
        sym (marks_at b
        ∙ (ap (λ (v : Bool). cond (list_any (λ u. same_symbol (target_of p u) (Some b)) es || v) (Some b) None)
        (ne_eqb a b (λ same. d (let z : b ≡ 0 + a = omega (arith, same) in z)))
        ∙ ap (λ (v : Bool). cond v (Some b) None) (or-false (list_any (λ u. same_symbol (target_of p u) (Some b)) es))))

-- an entry more that leads nowhere leaves the marks as they are
pub entry_unmarked : (p : plain.Program) (es : List ℕ) (e n : ℕ) → target_of p e ≡ None → marks_of p es n ≡ marks_of p (es ++ e ∷ []) n
entry_unmarked p es e n t = map_agree (mark_of p es) (mark_of p (es ++ e ∷ [])) 0 n at
  where
    or-false : (v : Bool) → (v || false) ≡ v
    or-false true = refl
    or-false false = refl

    at : (b : ℕ) → 0 ≤ b → mark_of p es b ≡ mark_of p (es ++ e ∷ []) b
    at b l =
        sym (ap (λ (v : Bool). cond v (Some b) None) (any_more (λ u. same_symbol (target_of p u) (Some b)) es e
        ∙ (ap (λ (o : Option ℕ). list_any (λ u. same_symbol (target_of p u) (Some b)) es || same_symbol o (Some b)) t
        ∙ or-false (list_any (λ u. same_symbol (target_of p u) (Some b)) es))))

-- the marks with one entry more, by its target
pub entry_more : (p : plain.Program) (es : List ℕ) (i n : ℕ) (old new : List (Option ℕ)) → IsValid p → n ≡ length p.symbols → i < length es
    → old ≡ marks_of p (take i es) n → new ≡ put_mark old (target_of p (get_or es i 0)) → new ≡ marks_of p (take (i + 1) es) n
entry_more p es i n old new v long l m h =
    h ∙ (ap (λ (xs : List (Option ℕ)). put_mark xs (target_of p (get_or es i 0))) m
    ∙ (go (target_of p (get_or es i 0)) refl ∙ ap (λ (xs : List ℕ). marks_of p xs n) (sym (take_more es i 0 l))))
  where
    go : (o : Option ℕ) → target_of p (get_or es i 0) ≡ o → put_mark (marks_of p (take i es) n) o ≡ marks_of p (take i es ++ get_or es i 0 ∷ []) n
    go None k = entry_unmarked p (take i es) (get_or es i 0) n k
    go (Some a) k = entry_marked p (take i es) (get_or es i 0) a n k (omega (arith, long, target_within p v (get_or es i 0) a k))

-- a symbol to which a rule leads has a position among the marks
pub target_marked : (p : plain.Program) (es : List ℕ) (e n : ℕ) (marks : List (Option ℕ)) (o : Option ℕ) → IsValid p → n ≡ length p.symbols
    → marks ≡ marks_of p es n → o ≡ target_of p e → IfSome o (λ a. a < length marks)
target_marked p es e n marks None v long m h = tt
target_marked p es e n marks (Some a) v long m h = omega (arith, target_within p v e a (sym h), long, marks_long p es n marks m)

-- a mark that was read is the number of a symbol
pub mark_if : (p : plain.Program) (es : List ℕ) (n i : ℕ) (marks : List (Option ℕ)) → i < length marks → marks ≡ marks_of p es n
    → IfSome (get_or marks i None) (λ a. a < n)
mark_if p es n i marks l m = go (get_or marks i None) refl
  where
    go : (o : Option ℕ) → get_or marks i None ≡ o → IfSome o (λ a. a < n)
    go None k = tt
    go (Some a) k = mark_within p es n i a marks (omega (arith, l, marks_long p es n marks m)) m k
