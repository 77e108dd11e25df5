-- Reading the multipliers and points of groups, group by group.
use Rattle.std.proofs.Common.{◌≡◌, ℕ, zero, suc, ◌+◌, ◌<◌, ◌≤◌, ap, arith, refl, sym, ◌∙◌, List, [], ◌∷◌, ◌++◌, length}
use Rattle.std.proofs.Common.{map, get_or, drop, append_assoc, Option, Some, None}
use Rattle.std.specs.Prelude.{ℤ, nat_abs, slice_get, option_map}
use Rattle.std.specs.List.{All}
use Rattle.std.proofs.lemmas.List.{drop_more, drop_all}
use Rattle.std.proofs.lemmas.List.Elements.{All-head, All-tail}
use Rattle.std.proofs.lemmas.Option.{slice_get-map}
use Rattle.simplex_core.specs.linear_forms.Forms.{Form}
use Rattle.simplex_core.specs.linear_forms.Questions.{Group, listed, group_columns}
use Rattle.simplex_core.specs.linear_forms.QuestionLaws.{after, multipliers_of, multipliers_by_group}
use Rattle.simplex_core.specs.linear_forms.RuleQuestions.{RankedSet, symbols_of_set, coefficients, move_group}
use Rattle.simplex_core.specs.linear_forms.RuleQuestions.{floor_group}
use Rattle.simplex_core.specs.linear_forms.RuleQuestions.{rank_question}
use Rattle.simplex_core.proofs.linear_forms.ListLaws.{after-add, after-is, length-listed}
use Rattle.poly_terms.specs.model.Programs.{Program, Rule}
use Rattle.guard_prep.specs.declared.rule_rows.RuleRows.{RuleRows}
use Rattle.guard_prep.specs.Prepared.{Prepared, prepared}
use Rattle.guard_prep.specs.Views.{prepared_of}
use Rattle.cert_types.specs.cert_rules.AcceptsPlain.{IsRule}
use Rattle.cert_types.specs.cert_rules.Gaps.{SymbolPlace, ScaledPoint}
use Rattle.cert_types.specs.Composing.{AreRowsOf}
use Rattle.rule_questions.specs.ProgramQuestions.{forms_in, ranked_set}
use Rattle.rank_search.specs.RankAnswers.{points_of, IsRuleSet}
use Rattle.rank_search.specs.Reading.{shape_of, shape_at, shapes}
use Rattle.rule_questions.specs.GroupLines.{group_lines}
use Rattle.rule_questions.proofs.Lists.{listed-agree, multipliers-listed}

-- skipping n and then k numbers is skipping n + k
pub after-more : (n k m : ℕ) (x : ℕ → ℤ) → m ≡ n + k → after k (after n x) ≡ after m x
after-more n k m x e = sym (after-add n k x) ∙ ap (λ (l : ℕ). after l x) (sym e)

-- the multipliers of one group
pub multipliers-one : (x : ℕ → ℤ) (start count : ℕ) (g : Group) (ms : List ℕ) → count ≡ length g.rows
    → ms ≡ listed count (λ j. nat_abs (x (start + j))) → ms ∷ [] ≡ multipliers_by_group (after start x) (g ∷ [])
multipliers-one x start count g ms e f =
    ap (λ (ns : List ℕ). ns ∷ []) (f ∙ (ap (λ (n : ℕ). listed n (λ j. nat_abs (x (start + j)))) e
    ∙ (listed-agree (length g.rows) _ _ (λ j. ap nat_abs (sym (after-is start x j))) ∙ sym
    (multipliers-listed g.rows (after start x)))))

-- the numerators and the denominator that are read for one group make up its point
pub point-one : (x : ℕ → ℤ) (start count : ℕ) (g : Group) (z : ScaledPoint) → count ≡ g.unknowns
    → z.parts ≡ listed count (λ u. x (start + u)) → z.den ≡ nat_abs (x (start + count)) → z ∷ [] ≡ points_of
    (after start x) (g ∷ [])
point-one x start count g z e f h =
    ap (λ (ps : List ℤ). made ps z.den)
    (f ∙ (ap (λ (n : ℕ). listed n (λ u. x (start + u))) e ∙ listed-agree g.unknowns _ _
    (λ j. sym (after-is start x j))))
    ∙ ap (λ (d : ℕ). made (listed g.unknowns (after start x)) d)
    (h ∙ ap nat_abs (ap (λ (n : ℕ). x (start + n)) e ∙ sym (after-is start x g.unknowns)))
  where
    made : List ℤ → ℕ → List ScaledPoint
    made ps d = record { parts = ps; den = d } ∷ []

-- there are as many multipliers as rows
pub multipliers-many : (x : ℕ → ℤ) (g : Group) (ms : List ℕ) → ms ∷ [] ≡ multipliers_by_group x (g ∷ []) → length ms
    ≡ length g.rows
multipliers-many x g ms e =
    ap (λ (ns : List ℕ). length ns) ((let f : ms ≡ multipliers_of x g.rows = cc in f) ∙ multipliers-listed g.rows x)
    ∙ length-listed (length g.rows) (λ j. nat_abs (x j))

-- the point of a group has a part for each unknown
pub parts-many : (x : ℕ → ℤ) (g : Group) (z : ScaledPoint) → z ∷ [] ≡ points_of x (g ∷ []) → length z.parts ≡ g.unknowns
parts-many x g z e =
    ap (λ (zs : List ScaledPoint). first zs) e ∙ length-listed g.unknowns x
  where
    first : List ScaledPoint → ℕ
    first [] = 0
    first (y ∷ ys) = length y.parts

-- the remaining groups, after one of them is read
module _ (x : ℕ → ℤ) (prepared_rules : List RuleRows) (set : List ℕ) where
  -- with the multipliers of the next group pushed, those so far and those of the remaining groups are all
  pub multipliers-more : (i t next then : ℕ) (old new all : List (List ℕ)) (ms : List ℕ) → i < length set → t
      ≡ get_or set i t
      → old ++ multipliers_by_group (after next x) (map (shape_at prepared_rules) (drop i set)) ≡ all
      → ms ∷ [] ≡ multipliers_by_group (after next x) (shape_at prepared_rules t ∷ []) → new ≡ old ++ ms ∷ []
      → then ≡ next + suc (length (shape_at prepared_rules t).rows)
      → new ++ multipliers_by_group (after then x) (map (shape_at prepared_rules) (drop (i + 1) set)) ≡ all
  multipliers-more i t next then old new all ms l is kept one e f =
      ap (λ (ns : List (List ℕ)). ns ++ multipliers_by_group (after then x)
      (map (shape_at prepared_rules) (drop (i + 1) set))) e
      ∙ (append_assoc old (ms ∷ [])
      (multipliers_by_group (after then x) (map (shape_at prepared_rules) (drop (i + 1) set)))
      ∙ (ap (λ (ns : List (List ℕ)). old ++
      (ns ++ multipliers_by_group (after then x) (map (shape_at prepared_rules) (drop (i + 1) set)))) one
      ∙ (ap (λ (y : ℕ → ℤ). old ++ multipliers_of (after next x) (shape_at prepared_rules t).rows
      ∷ multipliers_by_group y
      (map (shape_at prepared_rules) (drop (i + 1) set)))
      (sym (after-more next (suc (length (shape_at prepared_rules t).rows)) then x f))
      ∙ (sym (ap (λ (ts : List ℕ). old ++ multipliers_by_group (after next x) (map (shape_at prepared_rules) ts))
      (drop_more set i t l ∙ ap (λ (u : ℕ). u ∷ drop (i + 1) set) (sym is))) ∙ kept))))

  -- after the columns of the next group, those so far and those of the remaining groups are all
  pub columns-more : (i t next then all : ℕ) → i < length set → t ≡ get_or set i t
      → next + group_columns (map (shape_at prepared_rules) (drop i set)) ≡ all
      → then ≡ next + suc (length (shape_at prepared_rules t).rows)
      → then + group_columns (map (shape_at prepared_rules) (drop (i + 1) set)) ≡ all
  columns-more i t next then all l is kept f =
      let e = ap (λ (ts : List ℕ). group_columns (map (shape_at prepared_rules) ts))
      (drop_more set i t l ∙ ap (λ (u : ℕ). u ∷ drop (i + 1) set) (sym is)) in
      omega (arith, kept, f, e)

  -- the columns of the next group end within all
  pub columns-room : (i t next all : ℕ) → i < length set → t ≡ get_or set i t
      → next + group_columns (map (shape_at prepared_rules) (drop i set)) ≡ all
      → next + group_columns (shape_at prepared_rules t ∷ [])
      ≤ all
  columns-room i t next all l is kept =
      let e = ap (λ (ts : List ℕ). group_columns (map (shape_at prepared_rules) ts))
      (drop_more set i t l ∙ ap (λ (u : ℕ). u ∷ drop (i + 1) set) (sym is)) in
      omega (arith, kept, e)

  -- if no group is left, the multipliers so far are all
  pub multipliers-end : (i next : ℕ) (old all : List (List ℕ)) → length set ≤ i
      → old ++ multipliers_by_group (after next x) (map (shape_at prepared_rules) (drop i set)) ≡ all → old ≡ all
  multipliers-end i next old all l kept =
      sym (nothing old) ∙ (sym
      (ap (λ (ts : List ℕ). old ++ multipliers_by_group (after next x) (map (shape_at prepared_rules) ts))
      (drop_all i set l)) ∙ kept)
    where
      nothing : (xs : List (List ℕ)) → xs ++ [] ≡ xs
      nothing [] = refl
      nothing (y ∷ ys) = ap (λ (zs : List (List ℕ)). y ∷ zs) (nothing ys)

  -- if no group is left, the columns so far are all
  pub columns-end : (i next all : ℕ) → length set ≤ i → next
      + group_columns (map (shape_at prepared_rules) (drop i set)) ≡ all
      → next ≡ all
  columns-end i next all l kept =
      let e = ap (λ (ts : List ℕ). group_columns (map (shape_at prepared_rules) ts)) (drop_all i set l) in
      omega (arith, kept, e)

  -- with the point of the next group pushed, those so far and those of the remaining groups are all
  pub points-more : (i t next then : ℕ) (old new all : List ScaledPoint) (z : ScaledPoint) → i < length set → t
      ≡ get_or set i t
      → old ++ points_of (after next x) (map (shape_at prepared_rules) (drop i set)) ≡ all
      → z ∷ [] ≡ points_of (after next x) (shape_at prepared_rules t ∷ []) → new ≡ old ++ z ∷ []
      → then ≡ next + suc (shape_at prepared_rules t).unknowns
      → new ++ points_of (after then x) (map (shape_at prepared_rules) (drop (i + 1) set)) ≡ all
  points-more i t next then old new all z l is kept one e f =
      ap (λ (ns : List ScaledPoint). ns ++ points_of (after then x) (map (shape_at prepared_rules) (drop (i + 1) set)))
      e
      ∙ (append_assoc old (z ∷ []) (points_of (after then x) (map (shape_at prepared_rules) (drop (i + 1) set)))
      ∙ (ap (λ (ns : List ScaledPoint). old ++
      (ns ++ points_of (after then x) (map (shape_at prepared_rules) (drop (i + 1) set)))) one
      ∙ (ap (λ (y : ℕ → ℤ). old ++
      (points_of (after next x) (shape_at prepared_rules t ∷ [])
      ++ points_of y (map (shape_at prepared_rules) (drop (i + 1) set))))
      (sym (after-more next (suc (shape_at prepared_rules t).unknowns) then x f))
      ∙ (sym (ap (λ (ts : List ℕ). old ++ points_of (after next x) (map (shape_at prepared_rules) ts))
      (drop_more set i t l ∙ ap (λ (u : ℕ). u ∷ drop (i + 1) set) (sym is))) ∙ kept))))

  -- after the lines of the next group, those so far and those of the remaining groups are all
  pub lines-more : (i t next then all : ℕ) → i < length set → t ≡ get_or set i t
      → next + group_lines (map (shape_at prepared_rules) (drop i set)) ≡ all
      → then ≡ next + suc (shape_at prepared_rules t).unknowns
      → then + group_lines (map (shape_at prepared_rules) (drop (i + 1) set)) ≡ all
  lines-more i t next then all l is kept f =
      let e = ap (λ (ts : List ℕ). group_lines (map (shape_at prepared_rules) ts))
      (drop_more set i t l ∙ ap (λ (u : ℕ). u ∷ drop (i + 1) set) (sym is)) in
      omega (arith, kept, f, e)

  -- the lines of the next group end within all
  pub lines-room : (i t next all : ℕ) → i < length set → t ≡ get_or set i t
      → next + group_lines (map (shape_at prepared_rules) (drop i set)) ≡ all
      → next + group_lines (shape_at prepared_rules t ∷ []) ≤ all
  lines-room i t next all l is kept =
      let e = ap (λ (ts : List ℕ). group_lines (map (shape_at prepared_rules) ts))
      (drop_more set i t l ∙ ap (λ (u : ℕ). u ∷ drop (i + 1) set) (sym is)) in
      omega (arith, kept, e)

  -- if no group is left, the points so far are all
  pub points-end : (i next : ℕ) (old all : List ScaledPoint) → length set ≤ i
      → old ++ points_of (after next x) (map (shape_at prepared_rules) (drop i set)) ≡ all → old ≡ all
  points-end i next old all l kept =
      sym (nothing old) ∙ (sym
      (ap (λ (ts : List ℕ). old ++ points_of (after next x) (map (shape_at prepared_rules) ts)) (drop_all i set l))
      ∙ kept)
    where
      nothing : (xs : List ScaledPoint) → xs ++ [] ≡ xs
      nothing [] = refl
      nothing (y ∷ ys) = ap (λ (zs : List ScaledPoint). y ∷ zs) (nothing ys)

  -- if no group is left, the lines so far are all
  pub lines-end : (i next all : ℕ) → length set ≤ i → next + group_lines (map (shape_at prepared_rules) (drop i set))
      ≡ all
      → next ≡ all
  lines-end i next all l kept =
      let e = ap (λ (ts : List ℕ). group_lines (map (shape_at prepared_rules) ts)) (drop_all i set l) in
      omega (arith, kept, e)

-- the multipliers of appended lists of groups are those of the first, and after its columns those of the second
pub multipliers-append : (x : ℕ → ℤ) (gs hs : List Group)
    → multipliers_by_group x (gs ++ hs) ≡ multipliers_by_group x gs ++ multipliers_by_group
    (after (group_columns gs) x) hs
multipliers-append x [] hs = refl
multipliers-append x (g ∷ gs) hs =
    ap (λ (ms : List (List ℕ)). multipliers_of x g.rows ∷ ms)
    (multipliers-append (after (suc (length g.rows)) x) gs hs
    ∙ ap (λ (y : ℕ → ℤ). multipliers_by_group (after (suc (length g.rows)) x) gs ++ multipliers_by_group y hs)
    (after-more (suc (length g.rows)) (group_columns gs) (suc (length g.rows) + group_columns gs) x refl))

-- the points of appended lists of groups are those of the first, and after its lines those of the second
pub points-append : (x : ℕ → ℤ) (gs hs : List Group)
    → points_of x (gs ++ hs) ≡ points_of x gs ++ points_of (after (group_lines gs) x) hs
points-append x [] hs = refl
points-append x (g ∷ gs) hs =
    ap (λ (zs : List ScaledPoint). record { parts = listed g.unknowns x; den = nat_abs (x g.unknowns) } ∷ zs)
    (points-append (after (suc g.unknowns) x) gs hs
    ∙ ap (λ (y : ℕ → ℤ). points_of (after (suc g.unknowns) x) gs ++ points_of y hs)
    (after-more (suc g.unknowns) (group_lines gs) (suc g.unknowns + group_lines gs) x refl))

-- the columns of appended lists of groups are as many as those of both
pub columns-append : (gs hs : List Group) → group_columns (gs ++ hs) ≡ group_columns gs + group_columns hs
columns-append [] hs = omega arith
columns-append (g ∷ gs) hs = let e = columns-append gs hs in omega (arith, e)

-- the lines of appended lists of groups are as many as those of both
pub lines-append : (gs hs : List Group) → group_lines (gs ++ hs) ≡ group_lines gs + group_lines hs
lines-append [] hs = omega arith
lines-append (g ∷ gs) hs = let e = lines-append gs hs in omega (arith, e)

-- two groups have the same unknowns and rows
pub record AreAlike (g h : Group) : Type 0 where
  pub unknowns : g.unknowns ≡ h.unknowns
  pub rows : g.rows ≡ h.rows

abbrev pub AllAlike : List Group → List Group → Type 0
AllAlike [] [] = Unit {0}
AllAlike [] (h ∷ hs) = ⊥
AllAlike (g ∷ gs) [] = ⊥
AllAlike (g ∷ gs) (h ∷ hs) = AreAlike g h × AllAlike gs hs

-- groups with the same unknowns and rows have the same multipliers
pub alike-multipliers : (x : ℕ → ℤ) (gs hs : List Group) → AllAlike gs hs → multipliers_by_group x gs
    ≡ multipliers_by_group x hs
alike-multipliers x [] [] a = refl
alike-multipliers x [] (h ∷ hs) a = absurd a
alike-multipliers x (g ∷ gs) [] a = absurd a
alike-multipliers x (g ∷ gs) (h ∷ hs) a =
    ap (λ (rows : List Form). multipliers_of x rows ∷ multipliers_by_group (after (suc (length rows)) x) gs) a.0.rows
    ∙ ap (λ (ms : List (List ℕ)). multipliers_of x h.rows ∷ ms)
    (alike-multipliers (after (suc (length h.rows)) x) gs hs a.1)

-- groups with the same unknowns and rows have the same points
pub alike-points : (x : ℕ → ℤ) (gs hs : List Group) → AllAlike gs hs → points_of x gs ≡ points_of x hs
alike-points x [] [] a = refl
alike-points x [] (h ∷ hs) a = absurd a
alike-points x (g ∷ gs) [] a = absurd a
alike-points x (g ∷ gs) (h ∷ hs) a =
    ap (λ (n : ℕ). (record { parts = listed n x; den = nat_abs (x n) } ∷ points_of (after (suc n) x) gs)) a.0.unknowns
    ∙ ap (λ (zs : List ScaledPoint). record { parts = listed h.unknowns x; den = nat_abs (x h.unknowns) } ∷ zs)
    (alike-points (after (suc h.unknowns) x) gs hs a.1)

-- groups with the same unknowns and rows have equally many columns
pub alike-columns : (gs hs : List Group) → AllAlike gs hs → group_columns gs ≡ group_columns hs
alike-columns [] [] a = refl
alike-columns [] (h ∷ hs) a = absurd a
alike-columns (g ∷ gs) [] a = absurd a
alike-columns (g ∷ gs) (h ∷ hs) a =
    ap (λ (rows : List Form). suc (length rows) + group_columns gs) a.0.rows ∙ ap (λ (n : ℕ). suc (length h.rows) + n)
    (alike-columns gs hs a.1)

-- groups with the same unknowns and rows have equally many lines
pub alike-lines : (gs hs : List Group) → AllAlike gs hs → group_lines gs ≡ group_lines hs
alike-lines [] [] a = refl
alike-lines [] (h ∷ hs) a = absurd a
alike-lines (g ∷ gs) [] a = absurd a
alike-lines (g ∷ gs) (h ∷ hs) a =
    ap (λ (n : ℕ). suc n + group_lines gs) a.0.unknowns ∙ ap (λ (n : ℕ). suc h.unknowns + n) (alike-lines gs hs a.1)

-- the shapes of the rules are those of the question's groups
module _ (p : Program) (prepared_rules : List RuleRows) (rows : AreRowsOf prepared_rules p) (set : List ℕ) (strict : ℕ)
    (shut : List SymbolPlace) where
  abbrev b : RankedSet
  b = ranked_set p set strict shut

  shape-alike : (t : ℕ) (fixed : Form) (goals : List Form) → IsRule p t
      → AreAlike (shape_at prepared_rules t)
      (record { unknowns = (b.rule t).unknowns; rows = (b.rule t).rows; goals = goals; fixed = fixed })
  shape-alike zero fixed goals i = absurd (none i.numbered)
    where
      none : {r : Rule} → None ≡ Some r → ⊥
      none f = cc
  shape-alike (suc t) fixed goals i =
      go (slice_get prepared_rules t) (slice_get p.rules t)
      (sym (slice_get-map prepared_of prepared_rules t) ∙
      (ap (λ (qs : List Prepared). slice_get qs t) rows ∙ slice_get-map prepared p.rules t))
      i.rule i.numbered
    where
      go : (o : Option RuleRows) (q : Option Rule) → option_map prepared_of o ≡ option_map prepared q → (r : Rule) → q
          ≡ Some r
          → AreAlike (shape_of o)
          (record { unknowns = (forms_in q).unknowns; rows = (forms_in q).rows; goals = goals; fixed = fixed })
      go o None e r f = absurd (none f)
        where
          none : None ≡ Some r → ⊥
          none h = cc
      go None (Some q) e r f = absurd (none e)
        where
          none : None ≡ Some (prepared q) → ⊥
          none h = cc
      go (Some m) (Some q) e r f =
          let same : prepared_of m ≡ prepared q = cc in
          record { unknowns = ap (λ (x : Prepared). x.unknowns) same; rows = ap (λ (x : Prepared). x.rows) same }

  -- the shapes of a set and of its strict rule have the unknowns and rows of the question's groups
  pub shapes-alike : IsRuleSet p set strict → IsRule p strict → AllAlike (shapes prepared_rules set strict)
      (rank_question b).groups
  shapes-alike rules i = go set rules.rules
    where
      go : (ts : List ℕ) → All (IsRule p) ts
          → AllAlike (map (shape_at prepared_rules) ts ++ shape_at prepared_rules strict ∷ [])
          (map (move_group b (coefficients b (symbols_of_set b))) ts ++ floor_group b
          (coefficients b (symbols_of_set b)) ∷ [])
      go [] h = (shape-alike strict _ _ i, tt)
      go (t ∷ ts) h = (shape-alike t _ _ (All-head (IsRule p) t ts h), go ts (All-tail (IsRule p) t ts h))

-- the multipliers of groups and those read after them are the multipliers of one more group
pub multipliers-together : (x : ℕ → ℤ) (start next : ℕ) (gs : List Group) (h : Group) (ms : List (List ℕ)) (m : List ℕ)
    → ms ≡ multipliers_by_group (after start x) gs → next ≡ start + group_columns gs
    → m ∷ [] ≡ multipliers_by_group (after next x) (h ∷ []) → ms ++ m ∷ [] ≡ multipliers_by_group (after start x)
    (gs ++ h ∷ [])
multipliers-together x start next gs h ms m e f g =
    ap (λ (ns : List (List ℕ)). ns ++ m ∷ []) e
    ∙ (ap (λ (ns : List (List ℕ)). multipliers_by_group (after start x) gs ++ ns) g
    ∙ (ap (λ (y : ℕ → ℤ). multipliers_by_group (after start x) gs ++ multipliers_by_group y (h ∷ []))
    (sym (after-more start (group_columns gs) next x f))
    ∙ sym (multipliers-append (after start x) gs (h ∷ []))))

-- the points of groups and the point read after them are the points of one more group
pub points-together : (x : ℕ → ℤ) (start next : ℕ) (gs : List Group) (h : Group) (ms : List ScaledPoint)
    (m : ScaledPoint)
    → ms ≡ points_of (after start x) gs → next ≡ start + group_lines gs
    → m ∷ [] ≡ points_of (after next x) (h ∷ []) → ms ++ m ∷ [] ≡ points_of (after start x) (gs ++ h ∷ [])
points-together x start next gs h ms m e f g =
    ap (λ (ns : List ScaledPoint). ns ++ m ∷ []) e
    ∙ (ap (λ (ns : List ScaledPoint). points_of (after start x) gs ++ ns) g
    ∙ (ap (λ (y : ℕ → ℤ). points_of (after start x) gs ++ points_of y (h ∷ []))
    (sym (after-more start (group_lines gs) next x f))
    ∙ sym (points-append (after start x) gs (h ∷ []))))
