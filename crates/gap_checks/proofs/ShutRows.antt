-- Flags of shut places at the first touch of each symbol, one shut place at a time.
use Rattle.std.proofs.Common.{◌≡◌, ◌≢◌, ◌⊎◌, inl, inr, ℕ, ◌+◌, ◌<◌, ◌≤◌, ◌&&◌, ◌||◌, nat_eq, Bool, true, false, List, []}
use Rattle.std.proofs.Common.{length, map, drop, get_or, refl, sym, ap, ◌∙◌, subst, arith}
use Rattle.std.specs.List.{AllWithin}
use Rattle.std.proofs.Math.ListN.{set}
use Rattle.std.proofs.lemmas.Bool.{cases_lt, ne_eqb}
use Rattle.std.proofs.lemmas.List.{drop_more, drop_all, get_or_default, length-set, get_or-set_same, get_or-set_other}
use Rattle.cert_types.specs.AnswerViews.{shut_of}
use Rattle.cert_types.specs.cert_rules.Gaps.{SymbolPlace, is_shut}
use Rattle.gap_checks.specs.declared.touching.Touch.{Touch}
use Rattle.gap_checks.specs.GapBalances.{AreClear, AreShutRows, AreWide, IsFirstOfSymbol, MarksFirst, flags_at}

-- adding no flag leaves a flag as it is
or-none : (a b : Bool) → (a || (false && b)) ≡ a
or-none true b = refl
or-none false b = refl

or-end : (a : Bool) → (a || false) ≡ a
or-end true = refl
or-end false = refl

or-next : (a b c : Bool) → ((a || b) || c) ≡ (a || (b || c))
or-next true b c = refl
or-next false b c = refl

module _ (ts : List Touch) (result_variable : SymbolPlace) (first : ℕ) (old : List (List Bool))
    (below : AllWithin (λ t. t.symbol < result_variable.symbol) ts 0 first) (wide : AreWide old) where
  -- a shut place sets no flag of another symbol
  unmarked : (k i : ℕ) (d : Touch) → result_variable.symbol ≢ (get_or ts k d).symbol
      → get_or (flags_at old k) i false
      ≡ get_or (flags_at old k) i false || (nat_eq result_variable.symbol (get_or ts k d).symbol && nat_eq result_variable.place i)
  unmarked k i d n =
      sym (ap (λ (v : Bool). get_or (flags_at old k) i false || (v && nat_eq result_variable.place i))
      (ne_eqb result_variable.symbol (get_or ts k d).symbol n)
      ∙ or-none (get_or (flags_at old k) i false) (nat_eq result_variable.place i))

  -- if every touch is of a lesser symbol, no flag has to be set
  pub marks-none : length ts ≤ first → MarksFirst ts result_variable old old
  marks-none l = record {
    long = refl;
    wide = wide;
    each = λ k i d m n f. unmarked k i d (λ e. omega (arith, e, below k d (omega arith) (omega (arith, m, l))));
  }

  -- setting the flag at the first touch that isn't of a lesser symbol, if it is of the place's symbol, marks the place
  pub marks-first : AllWithin (λ t. result_variable.symbol ≤ t.symbol) ts first (length ts) → (flags : List Bool) (t : Touch)
      → first < length ts → first < length old → t ≡ get_or ts first t → length flags ≡ 33
      → ((i : ℕ) → i < 33 → get_or flags i false
      ≡ get_or (flags_at old first) i false || (nat_eq result_variable.symbol t.symbol && nat_eq result_variable.place i))
      → MarksFirst ts result_variable old (set old first flags)
  marks-first behind flags t l m e long h = record {
    long = length-set old first flags;
    wide = λ k n. wide-at k n (cases_lt k first) (cases_lt first k);
    each = λ k i d n o f. each k i d n o f (cases_lt k first) (cases_lt first k);
  }
    where
      other : (k : ℕ) → k ≢ first → flags_at (set old first flags) k ≡ flags_at old k
      other k n = get_or-set_other old first k flags [] (λ e. n (let same : k ≡ first = omega (arith, e) in same))

      wide-at : (k : ℕ) → k < length (set old first flags) → (k < first) ⊎ (first ≤ k) → (first < k) ⊎ (k ≤ first)
          → length (flags_at (set old first flags) k) ≡ 33
      wide-at k n (inl a) c =
          ap (λ (xs : List Bool). length xs) (other k (λ e. omega (arith, e, a)))
          ∙ wide k (omega (arith, n, length-set old first flags))
      wide-at k n (inr a) (inl c) =
          ap (λ (xs : List Bool). length xs) (other k (λ e. omega (arith, e, c)))
          ∙ wide k (omega (arith, n, length-set old first flags))
      wide-at k n (inr a) (inr c) =
          subst (λ (j : ℕ). length (flags_at (set old first flags) j) ≡ 33) (let same : first ≡ k = omega (arith, a, c) in same)
          (ap (λ (xs : List Bool). length xs) (get_or-set_same old first flags [] m) ∙ long)

      each : (k i : ℕ) (d : Touch) → k < length ts → i < 33 → IsFirstOfSymbol ts k → (k < first) ⊎ (first ≤ k)
          → (first < k) ⊎ (k ≤ first)
          → get_or (flags_at (set old first flags) k) i false
          ≡ get_or (flags_at old k) i false || (nat_eq result_variable.symbol (get_or ts k d).symbol && nat_eq result_variable.place i)
      each k i d n o f (inl a) c =
          ap (λ (xs : List Bool). get_or xs i false) (other k (λ e. omega (arith, e, a)))
          ∙ unmarked k i d (λ e. omega (arith, e, below k d (omega arith) a))
      each k i d n o f (inr a) (inl c) =
          ap (λ (xs : List Bool). get_or xs i false) (other k (λ e. omega (arith, e, c)))
          ∙ unmarked k i d (λ e. omega (arith, e, f first d d c, behind first d (omega arith) l))
      each k i d n o f (inr a) (inr c) =
          subst (λ (j : ℕ). get_or (flags_at (set old first flags) j) i false
          ≡ get_or (flags_at old j) i false || (nat_eq result_variable.symbol (get_or ts j d).symbol && nat_eq result_variable.place i))
          (let same : first ≡ k = omega (arith, a, c) in same)
          (ap (λ (xs : List Bool). get_or xs i false) (get_or-set_same old first flags [] m)
          ∙ (h i o ∙ ap (λ (u : Touch). get_or (flags_at old first) i false
          || (nat_eq result_variable.symbol u.symbol && nat_eq result_variable.place i)) (e ∙ get_or_default ts first t d l)))

-- the flags after the first n shut places: together with the remaining ones they give the shut places of the whole list
pub record AreMarkedBefore (ts : List Touch) (shut : List (ℕ × ℕ)) (n : ℕ) (rows : List (List Bool)) : Type 0 where
  pub long : length rows ≡ length ts
  pub wide : AreWide rows
  pub each : (k i : ℕ) (d : Touch) → k < length ts → i < 33 → IsFirstOfSymbol ts k
      → (get_or (flags_at rows k) i false || is_shut (map shut_of (drop n shut)) (get_or ts k d).symbol i)
      ≡ is_shut (map shut_of shut) (get_or ts k d).symbol i

module _ (ts : List Touch) (shut : List (ℕ × ℕ)) where
  -- before the first shut place no flag is set
  pub marked-none : (rows : List (List Bool)) → length rows ≡ length ts → AreWide rows → AreClear rows
      → AreMarkedBefore ts shut 0 rows
  marked-none rows long wide clear = record {
    long = long;
    wide = wide;
    each = λ k i d l m f.
        ap (λ (v : Bool). v || is_shut (map shut_of shut) (get_or ts k d).symbol i)
        (clear k i (omega (arith, l, long)) m);
  }

  -- the flags after one more shut place
  pub marked-more : (n : ℕ) (result_variable : ℕ × ℕ) (old new : List (List Bool)) → n < length shut → result_variable ≡ get_or shut n result_variable
      → MarksFirst ts (shut_of result_variable) old new → AreMarkedBefore ts shut n old → AreMarkedBefore ts shut (n + 1) new
  marked-more n result_variable old new l e h a = record {
    long = h.long ∙ a.long;
    wide = h.wide;
    each = λ k i d o m f.
        ap (λ (v : Bool). v || is_shut (map shut_of (drop (n + 1) shut)) (get_or ts k d).symbol i) (h.each k i d o m f)
        ∙ (or-next (get_or (flags_at old k) i false) (told result_variable (get_or ts k d).symbol i)
        (is_shut (map shut_of (drop (n + 1) shut)) (get_or ts k d).symbol i)
        ∙ (ap (λ (v : Bool). get_or (flags_at old k) i false || v) (sym (next (get_or ts k d).symbol i))
        ∙ a.each k i d o m f));
  }
    where
      -- whether a shut place is this place of the symbol
      told : ℕ × ℕ → ℕ → ℕ → Bool
      told c s i = nat_eq (shut_of c).symbol s && nat_eq (shut_of c).place i

      next : (s i : ℕ) → is_shut (map shut_of (drop n shut)) s i
          ≡ told result_variable s i || is_shut (map shut_of (drop (n + 1) shut)) s i
      next s i =
          ap (λ (cs : List (ℕ × ℕ)). is_shut (map shut_of cs) s i) (drop_more shut n result_variable l)
          ∙ ap (λ (c : ℕ × ℕ). told c s i || is_shut (map shut_of (drop (n + 1) shut)) s i) (sym e)

  -- after the last shut place, the flags of all shut places are set
  pub marked-all : (n : ℕ) (rows : List (List Bool)) → length shut ≤ n → AreMarkedBefore ts shut n rows
      → AreShutRows ts (map shut_of shut) rows
  marked-all n rows l a = record {
    each = λ k d m f. record {
      long = a.wide k (omega (arith, m, a.long));
      each = λ i o.
          sym (or-end (get_or (flags_at rows k) i false))
          ∙ (ap (λ (cs : List (ℕ × ℕ)). get_or (flags_at rows k) i false || is_shut (map shut_of cs) (get_or ts k d).symbol i)
          (sym (drop_all n shut l)) ∙ a.each k i d m o f);
    };
  }
