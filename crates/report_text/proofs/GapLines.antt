-- A gap is determined by its lines.
use Rattle.std.proofs.Common.{◌≡◌, ℕ, ◌≤◌, List, [], ◌∷◌, ◌++◌, length, get_or, codes, decimal, refl, sym, ◌∙◌, ap}
use Rattle.std.proofs.Common.{subst, append_assoc, arith}
use Rattle.std.specs.Prelude.{⊤}
use Rattle.std.specs.List.{AllByRecursion}
use Rattle.model.specs.Programs.{Symbol}
use Rattle.its_model.specs.text_core.Names.{AreNames}
use Rattle.cert_types.specs.cert_rules.Gaps.{ScaledPoint, SymbolPlace, Gap}
use Rattle.report_text.specs.Pieces.{rules_text, point_text}
use Rattle.report_text.specs.Reasons.{shut_line, shut_lines, point_line, point_lines, gap_lines, gap_text}
use Rattle.report_text.specs.Printable.{IsShort, IsPrintablePoint, IsPrintablePlace, IsPrintableGap}
use Rattle.report_text.proofs.DistinguishedTexts.{Determines, Any, determined_behind, determined_before, determined_both, after_word}
use Rattle.report_text.proofs.Digits.{number_determined}
use Rattle.report_text.proofs.Points.{rules_determined, point_determined}
use Rattle.report_text.proofs.SymbolNames.{names_of, shut_determined}

-- nothing follows, or a reason, which begins with `w`
abbrev pub AreReasonsOrNothing : List ℕ → Type 0
AreReasonsOrNothing [] = ⊤
AreReasonsOrNothing (c ∷ u) = c ≡ 119

-- no line of a shut place follows
abbrev NoShut : List ℕ → Type 0
NoShut u = (w : List ℕ) → u ≡ codes "  shut " ++ w → ⊥

-- no line of a point with this word follows
abbrev NoPoint : List ℕ → List ℕ → Type 0
NoPoint word u = (w : List ℕ) → u ≡ codes "  " ++ (word ++ w) → ⊥

-- the shut places are determined by their lines
shuts_determined : (symbols : List Symbol) → AreNames (names_of symbols) → (xs ys : List SymbolPlace) (u v : List ℕ)
    → AllByRecursion (IsPrintablePlace (length symbols)) xs → AllByRecursion (IsPrintablePlace (length symbols)) ys → NoShut u → NoShut v
    → shut_lines symbols xs ++ u ≡ shut_lines symbols ys ++ v → (xs ≡ ys) × (u ≡ v)
shuts_determined symbols are [] [] u v p q s t e = (refl, e)
shuts_determined symbols are [] (y ∷ ys) u v p q s t e = absurd (s _ e)
shuts_determined symbols are (x ∷ xs) [] u v p q s t e = absurd (t _ (sym e))
shuts_determined symbols are (x ∷ xs) (y ∷ ys) u v p q s t e =
    let r = (shut_determined symbols are).each x y (shut_lines symbols xs ++ u) (shut_lines symbols ys ++ v) p.0 q.0 tt tt
    (sym (append_assoc (shut_line symbols x) (shut_lines symbols xs) u) ∙ (e ∙ append_assoc (shut_line symbols y) (shut_lines symbols ys) v)) in
    let l = shuts_determined symbols are xs ys u v p.1 q.1 s t r.1 in
    (λ i. r.0 i ∷ l.0 i, l.1)

-- a point at the end of its line is determined
ended_point : Determines IsPrintablePoint (λ p. point_text p ++ codes "\n") Any
ended_point = determined_before point_determined (codes "\n") Any (λ u s. refl)

-- the line of a point is determined
line_determined : (word : List ℕ) (rule : ℕ) → Determines IsPrintablePoint (point_line word rule) Any
line_determined word rule = determined_behind (determined_behind (determined_behind (determined_behind (determined_behind ended_point (codes ": ")) (decimal rule)) (codes " ")) word) (codes "  ")

-- the beginning of the line of a point
line_begins : (word : List ℕ) (rule : ℕ) (p : ScaledPoint) (more u : List ℕ)
    → (point_line word rule p ++ more) ++ u ≡ codes "  " ++ (word ++ ((codes " " ++ (decimal rule ++ (codes ": " ++ (point_text p ++ codes "\n")))) ++ (more ++ u)))
line_begins word rule p more u =
    let rest = codes " " ++ (decimal rule ++ (codes ": " ++ (point_text p ++ codes "\n"))) in
    ap (λ (w : List ℕ). codes "  " ++ w) (append_assoc (word ++ rest) more u ∙ append_assoc word rest (more ++ u))

-- the points of the rules of one set are determined by their lines
points_determined : (word : List ℕ) (set : List ℕ) (ps qs : List ScaledPoint) (u v : List ℕ) → length ps ≤ length set → length qs ≤ length set
    → AllByRecursion IsPrintablePoint ps → AllByRecursion IsPrintablePoint qs → NoPoint word u → NoPoint word v
    → point_lines word set ps ++ u ≡ point_lines word set qs ++ v → (ps ≡ qs) × (u ≡ v)
points_determined word [] [] [] u v a b p q s t e = (refl, e)
points_determined word [] [] (y ∷ qs) u v a b p q s t e = absurd (omega (arith, b))
points_determined word [] (x ∷ ps) qs u v a b p q s t e = absurd (omega (arith, a))
points_determined word (rule ∷ set) [] [] u v a b p q s t e = (refl, e)
points_determined word (rule ∷ set) [] (y ∷ qs) u v a b p q s t e = absurd (s _ (e ∙ line_begins word rule y (point_lines word set qs) v))
points_determined word (rule ∷ set) (x ∷ ps) [] u v a b p q s t e = absurd (t _ (sym e ∙ line_begins word rule x (point_lines word set ps) u))
points_determined word (rule ∷ set) (x ∷ ps) (y ∷ qs) u v a b p q s t e =
    let r = (line_determined word rule).each x y (point_lines word set ps ++ u) (point_lines word set qs ++ v) p.0 q.0 tt tt
    (sym (append_assoc (point_line word rule x) (point_lines word set ps) u) ∙ (e ∙ append_assoc (point_line word rule y) (point_lines word set qs) v)) in
    let l = points_determined word set ps qs u v (omega (arith, a)) (omega (arith, b)) p.1 q.1 s t r.1 in
    (λ i. r.0 i ∷ l.0 i, l.1)

-- a rule with its floor is determined
floor_determined : Determines (λ (z : ℕ × ScaledPoint). IsShort z.0 × IsPrintablePoint z.1) (λ (z : ℕ × ScaledPoint). point_line (codes "floor") z.0 z.1) Any
floor_determined = determined_behind (determined_behind (determined_behind (determined_both number_determined (determined_behind ended_point (codes ": ")) (λ n w fits after. refl)) (codes " ")) (codes "floor")) (codes "  ")

-- a reason isn't the line of a kept point
no_kept : (u : List ℕ) → AreReasonsOrNothing u → NoPoint (codes "kept") u
no_kept u s w e = let h : 32 ≡ 119 = subst AreReasonsOrNothing e s in omega (arith, h)

-- the lines of moves and of the floor aren't those of shut places
no_shut : (set : List ℕ) (moves : List ScaledPoint) (rule : ℕ) (floor : ScaledPoint) (more u : List ℕ)
    → NoShut ((point_lines (codes "move") set moves ++ (point_line (codes "floor") rule floor ++ more)) ++ u)
no_shut [] moves rule floor more u w e = let no : 102 ≡ 115 = ap (λ (x : List ℕ). get_or x 2 0) e in omega (arith, no)
no_shut (r ∷ set) [] rule floor more u w e = let no : 102 ≡ 115 = ap (λ (x : List ℕ). get_or x 2 0) e in omega (arith, no)
no_shut (r ∷ set) (m ∷ moves) rule floor more u w e = let no : 109 ≡ 115 = ap (λ (x : List ℕ). get_or x 2 0) e in omega (arith, no)

-- the line of the floor isn't that of a move
no_move : (rule : ℕ) (floor : ScaledPoint) (more u : List ℕ) → NoPoint (codes "move") ((point_line (codes "floor") rule floor ++ more) ++ u)
no_move rule floor more u w e = let no : 102 ≡ 109 = ap (λ (x : List ℕ). get_or x 2 0) e in omega (arith, no)

module _ (symbols : List Symbol) (are : AreNames (names_of symbols)) where
  -- the lines of gaps over one set determine the gap
  gap_lines_determined : (g h : Gap) (u v : List ℕ) → IsPrintableGap (length symbols) g → IsPrintableGap (length symbols) h → AreReasonsOrNothing u → AreReasonsOrNothing v → g.set ≡ h.set
      → gap_lines symbols g ++ u ≡ gap_lines symbols h ++ v → (g ≡ h) × (u ≡ v)
  gap_lines_determined g h u v p q s t set e =
      let moves = λ (k : Gap). point_lines (codes "move") g.set k.moves in
      let kept = λ (k : Gap). point_lines (codes "kept") g.set k.kept in
      let floor = λ (k : Gap). point_line (codes "floor") k.rule k.floor in
      let same : gap_lines symbols h ≡ shut_lines symbols h.shut ++ (moves h ++ (floor h ++ kept h)) =
      ap (λ (rules : List ℕ). shut_lines symbols h.shut ++ (point_lines (codes "move") rules h.moves ++ (floor h ++ point_lines (codes "kept") rules h.kept))) (sym set) in
      let few_moves : length h.moves ≤ length g.set = (let few = q.moves_shown in let size = ap length set in omega (arith, few, size)) in
      let few_kept : length h.kept ≤ length g.set = (let few = q.kept_shown in let size = ap length set in omega (arith, few, size)) in
      let a = shuts_determined symbols are g.shut h.shut ((moves g ++ (floor g ++ kept g)) ++ u) ((moves h ++ (floor h ++ kept h)) ++ v) p.shut q.shut
      (no_shut g.set g.moves g.rule g.floor (kept g) u) (no_shut g.set h.moves h.rule h.floor (kept h) v)
      (sym (append_assoc (shut_lines symbols g.shut) (moves g ++ (floor g ++ kept g)) u)
      ∙ (e ∙ (ap (λ (w : List ℕ). w ++ v) same ∙ append_assoc (shut_lines symbols h.shut) (moves h ++ (floor h ++ kept h)) v))) in
      let b = points_determined (codes "move") g.set g.moves h.moves ((floor g ++ kept g) ++ u) ((floor h ++ kept h) ++ v) p.moves_shown few_moves p.moves q.moves
      (no_move g.rule g.floor (kept g) u) (no_move h.rule h.floor (kept h) v)
      (sym (append_assoc (moves g) (floor g ++ kept g) u) ∙ (a.1 ∙ append_assoc (moves h) (floor h ++ kept h) v)) in
      let c = floor_determined.each (g.rule, g.floor) (h.rule, h.floor) (kept g ++ u) (kept h ++ v) (p.rule, p.floor) (q.rule, q.floor) tt tt
      (sym (append_assoc (floor g) (kept g) u) ∙ (b.1 ∙ append_assoc (floor h) (kept h) v)) in
      let d = points_determined (codes "kept") g.set g.kept h.kept u v p.kept_shown few_kept p.kept q.kept (no_kept u s) (no_kept v t) c.1 in
      (λ i. record { rule = (c.0 i).0; set = set i; shut = a.0 i; moves = b.0 i; floor = (c.0 i).1; kept = d.0 i }, d.1)

  -- two gaps with one text are equal
  gap_one : (g h : Gap) (u v : List ℕ) → IsPrintableGap (length symbols) g → IsPrintableGap (length symbols) h → AreReasonsOrNothing u → AreReasonsOrNothing v
      → gap_text symbols g ++ u ≡ gap_text symbols h ++ v → (g ≡ h) × (u ≡ v)
  gap_one g h u v p q s t e =
      let lead = codes "no affine ranking function over rules " in
      let whole : (rules_text g.set ++ (codes "\n" ++ gap_lines symbols g)) ++ u ≡ (rules_text h.set ++ (codes "\n" ++ gap_lines symbols h)) ++ v =
      after_word lead (rules_text g.set ++ (codes "\n" ++ gap_lines symbols g)) (rules_text h.set ++ (codes "\n" ++ gap_lines symbols h)) u v e in
      let r = rules_determined.each g.set h.set ((codes "\n" ++ gap_lines symbols g) ++ u) ((codes "\n" ++ gap_lines symbols h) ++ v) p.set q.set refl refl
      (sym (append_assoc (rules_text g.set) (codes "\n" ++ gap_lines symbols g) u) ∙ (whole ∙ append_assoc (rules_text h.set) (codes "\n" ++ gap_lines symbols h) v)) in
      gap_lines_determined g h u v p q s t r.0 (after_word (codes "\n") (gap_lines symbols g) (gap_lines symbols h) u v r.1)

  -- a gap is determined by its text
  pub gap_determined : Determines (IsPrintableGap (length symbols)) (gap_text symbols) AreReasonsOrNothing
  gap_determined = record { each = gap_one }
