-- The lines of groups, one after the other, and what a builder holds of them.
use Rattle.std.proofs.Common.{◌≡◌, ℕ, zero, suc, ◌+◌, ◌-◌, ◌≤◌, ap, arith, refl, sym, ◌∙◌, subst, List, [], ◌∷◌, ◌++◌}
use Rattle.std.proofs.Common.{length, map, append_assoc}
use Rattle.std.specs.Prelude.{ℤ}
use Rattle.std.specs.List.{All}
use Rattle.std.proofs.lemmas.List.{append-nil, map-append, length-append}
use Rattle.std.proofs.lemmas.List.Elements.{All-append, All-cons, All-nil, All-map, All-weaker}
use Rattle.simplex_core.specs.linear_forms.Forms.{Form}
use Rattle.simplex_core.specs.linear_forms.Questions.{Group, IsGroupShaped, Equation, line, listed, equations}
use Rattle.simplex_core.specs.linear_forms.Questions.{group_columns}
use Rattle.simplex_core.proofs.linear_forms.ListLaws.{length-listed}
use Rattle.simplex_core.proofs.linear_forms.SolutionLaws.{length-map}
use Rattle.poly_terms.specs.declared.poly.Row.{Row}
use Rattle.poly_terms.specs.Views.{form_of}
use Rattle.simplex_core.specs.declared.problem.Entry.{Entry}
use Rattle.lp_builder.specs.declared.builder.Builder.{Builder}
use Rattle.lp_builder.specs.declared.writer.EntryWriter.{EntryWriter}
use Rattle.lp_builder.specs.Builders.{Holds}
use Rattle.lp_builder.specs.declared.description.Goal.{Goal}
use Rattle.lp_builder.specs.Descriptions.{IsWritable, AreWritable, group_of}
use Rattle.lp_builder.specs.Entries.{sparse, entries_of, Writes, GoesOn}
use Rattle.lp_builder.proofs.Pieces.{goal_forms-fit, goals-length}

-- the numbers of lines
abbrev pub numbers_of : List Equation → List (List ℤ)
numbers_of es = map (λ (e : Equation). e.numbers) es

-- the right sides of equations
abbrev pub rights_of : List Equation → List ℤ
rights_of es = map (λ (e : Equation). e.right) es

-- the builder b is a, followed by the first n lines of a group
pub record Written (a b : Builder) (g : Group) (n : ℕ) : Type 0 where
  pub parameters : b.parameters ≡ a.parameters
  pub columns : b.columns ≡ a.columns
  pub row : b.writer.row ≡ a.writer.row + n
  pub col : b.writer.col ≡ 0
  pub entries : b.writer.entries.items ≡ a.writer.entries.items ++ entries_of a.writer.row (numbers_of (listed n (line a.columns g)))
  pub right : b.right.items ≡ a.right.items ++ rights_of (listed n (line a.columns g))

-- the entries of appended lines
pub entries-append : (r : ℕ) (ks ls : List (List ℤ)) → entries_of r (ks ++ ls) ≡ entries_of r ks ++ entries_of (r + length ks) ls
entries-append r [] ls = ap (λ (k : ℕ). entries_of k ls) plain
  where
    plain : r ≡ r + 0
    plain = omega arith
entries-append r (k ∷ ks) ls =
    ap (λ (es : List Entry). sparse r 0 k ++ es) (entries-append (suc r) ks ls)
    ∙ (sym (append_assoc (sparse r 0 k) (entries_of (suc r) ks) (entries_of (suc r + length ks) ls))
    ∙ ap (λ (n : ℕ). (sparse r 0 k ++ entries_of (suc r) ks) ++ entries_of n ls) shift)
  where
    shift : suc r + length ks ≡ r + suc (length ks)
    shift = omega arith

-- a listed function with one more value
pub listed-more : {A : Type 0} (n : ℕ) (f : ℕ → A) → listed (n + 1) f ≡ listed n f ++ (f n ∷ [])
listed-more {A} n f = ap (λ (k : ℕ). listed k f) one ∙ go n f
  where
    one : n + 1 ≡ suc n
    one = omega arith

    go : (n : ℕ) (f : ℕ → A) → listed (suc n) f ≡ listed n f ++ (f n ∷ [])
    go zero f = refl
    go (suc n) f = ap (λ (xs : List A). f 0 ∷ xs) (go n (λ i. f (suc i)))

-- at first no line of the group is written
pub written-none : (a : Builder) (g : Group) → a.writer.col ≡ 0 → Written a a g 0
written-none a g col = record {
  parameters = refl;
  columns = refl;
  row = omega arith;
  col = col;
  entries = sym (append-nil a.writer.entries.items);
  right = sym (append-nil a.right.items);
}

-- after the entries of one more line are written
entries-more : (a s t u : EntryWriter) (lines : List Equation) (l : Equation) (n : ℕ) → length lines ≡ n → s.row ≡ a.row + n → s.col ≡ 0
    → s.entries.items ≡ a.entries.items ++ entries_of a.row (numbers_of lines) → Writes s t l.numbers → GoesOn t u
    → u.entries.items ≡ a.entries.items ++ entries_of a.row (numbers_of (lines ++ (l ∷ [])))
entries-more a s t u lines l n long row col e w g =
    g.entries
    ∙ (w.entries
    ∙ (ap (λ (es : List Entry). es ++ sparse s.row s.col l.numbers) e
    ∙ (ap (λ (k : ℕ). (a.entries.items ++ entries_of a.row (numbers_of lines)) ++ sparse s.row k l.numbers) col
    ∙ (ap (λ (k : ℕ). (a.entries.items ++ entries_of a.row (numbers_of lines)) ++ sparse k 0 l.numbers) position
    ∙ (append_assoc a.entries.items (entries_of a.row (numbers_of lines)) (sparse (a.row + length (numbers_of lines)) 0 l.numbers)
    ∙ ap (λ (es : List Entry). a.entries.items ++ es) (sym all))))))
  where
    position : s.row ≡ a.row + length (numbers_of lines)
    position = omega (arith, row, long, length-map (λ (e : Equation). e.numbers) lines)

    all : entries_of a.row (numbers_of (lines ++ (l ∷ []))) ≡ entries_of a.row (numbers_of lines) ++ sparse (a.row + length (numbers_of lines)) 0 l.numbers
    all = ap (λ (ls : List (List ℤ)). entries_of a.row ls) (map-append (λ (e : Equation). e.numbers) lines (l ∷ []))
        ∙ (entries-append a.row (numbers_of lines) (l.numbers ∷ [])
        ∙ ap (λ (es : List Entry). entries_of a.row (numbers_of lines) ++ es) (append-nil (sparse (a.row + length (numbers_of lines)) 0 l.numbers)))

-- after one more line is written
pub written-more : (a b d : Builder) (t : EntryWriter) (g : Group) (n : ℕ) (v : ℤ) → Written a b g n → Writes b.writer t (line a.columns g n).numbers → GoesOn t d.writer
    → d.parameters ≡ b.parameters → d.columns ≡ b.columns → d.right.items ≡ b.right.items ++ (v ∷ []) → v ≡ (line a.columns g n).right → Written a d g (n + 1)
written-more a b d t g n v w writes on parameters columns right is = record {
  parameters = parameters ∙ w.parameters;
  columns = columns ∙ w.columns;
  row = omega (arith, on.row, writes.row, w.row);
  col = on.col;
  entries = entries-more a.writer b.writer t d.writer (listed n (line a.columns g)) (line a.columns g n) n (length-listed n (line a.columns g)) w.row w.col w.entries writes on
      ∙ ap (λ (ls : List Equation). a.writer.entries.items ++ entries_of a.writer.row (numbers_of ls)) (sym (listed-more n (line a.columns g)));
  right = right
      ∙ (ap (λ (xs : List ℤ). xs ++ (v ∷ [])) w.right
      ∙ (ap (λ (z : ℤ). (a.right.items ++ rights_of (listed n (line a.columns g))) ++ (z ∷ [])) is
      ∙ (append_assoc a.right.items (rights_of (listed n (line a.columns g))) ((line a.columns g n).right ∷ [])
      ∙ ap (λ (xs : List ℤ). a.right.items ++ xs)
      (sym (ap rights_of (listed-more n (line a.columns g)) ∙ map-append (λ (e : Equation). e.right) (listed n (line a.columns g)) (line a.columns g n ∷ []))))));
}

-- the equations after one more group
equations-more : (before : ℕ) (gs : List Group) (g : Group) → equations before (gs ++ (g ∷ [])) ≡ equations before gs ++ listed (suc g.unknowns) (line (before + group_columns gs) g)
equations-more before [] g =
    append-nil (listed (suc g.unknowns) (line before g)) ∙ ap (λ (k : ℕ). listed (suc g.unknowns) (line k g)) plain
  where
    plain : before ≡ before + 0
    plain = omega arith
equations-more before (h ∷ gs) g =
    ap (λ (es : List Equation). listed (suc h.unknowns) (line before h) ++ es) (equations-more (before + suc (length h.rows)) gs g)
    ∙ (sym (append_assoc (listed (suc h.unknowns) (line before h)) (equations (before + suc (length h.rows)) gs) (listed (suc g.unknowns) (line ((before + suc (length h.rows)) + group_columns gs) g)))
    ∙ ap (λ (k : ℕ). (listed (suc h.unknowns) (line before h) ++ equations (before + suc (length h.rows)) gs) ++ listed (suc g.unknowns) (line k g)) shift)
  where
    shift : (before + suc (length h.rows)) + group_columns gs ≡ before + (suc (length h.rows) + group_columns gs)
    shift = omega arith

-- the columns after one more group
columns-more : (gs : List Group) (g : Group) → group_columns (gs ++ (g ∷ [])) ≡ group_columns gs + length g.rows + 1
columns-more [] g = omega arith
columns-more (h ∷ gs) g = let ih = columns-more gs g in omega (arith, ih)

-- a group whose lines are all written is held, after the groups held before
pub group-held : (a b d : Builder) (g : Group) → IsGroupShaped a.parameters g → Written a b g (g.unknowns + 1) → d.writer.row ≡ b.writer.row
    → d.writer.entries.items ≡ b.writer.entries.items → d.right.items ≡ b.right.items → d.parameters ≡ b.parameters → d.columns ≡ b.columns + length g.rows + 1
    → (gs : List Group) → Holds a gs → Holds d (gs ++ (g ∷ []))
group-held a b d g shape w row entries right parameters columns gs h = record {
  row = row ∙ (w.row ∙ (added ∙ ap (λ (es : List Equation). length es) (sym lines)));
  entries = entries
      ∙ (w.entries
      ∙ (ap (λ (es : List Entry). es ++ entries_of a.writer.row (numbers_of group)) h.entries
      ∙ (ap (λ (k : ℕ). entries_of 0 (numbers_of before) ++ entries_of k (numbers_of group)) start
      ∙ (sym (entries-append 0 (numbers_of before) (numbers_of group))
      ∙ ap (λ (ls : List (List ℤ)). entries_of 0 ls) (sym (map-append (λ (e : Equation). e.numbers) before group) ∙ ap numbers_of (sym lines))))));
  right = right
      ∙ (w.right
      ∙ (ap (λ (xs : List ℤ). xs ++ rights_of group) h.right ∙ (sym (map-append (λ (e : Equation). e.right) before group) ∙ ap rights_of (sym lines))));
  columns = columns ∙ (ap (λ (k : ℕ). k + length g.rows + 1) (w.columns ∙ h.columns) ∙ sym (columns-more gs g));
  shaped = subst (λ (k : ℕ). All (IsGroupShaped k) (gs ++ (g ∷ []))) (sym (parameters ∙ w.parameters))
      (All-append (IsGroupShaped a.parameters) gs (g ∷ []) h.shaped (All-cons (IsGroupShaped a.parameters) g [] shape (All-nil (IsGroupShaped a.parameters))));
}
  where
    before : List Equation
    before = equations 0 gs

    group : List Equation
    group = listed (g.unknowns + 1) (line a.columns g)

    lines : equations 0 (gs ++ (g ∷ [])) ≡ equations 0 gs ++ listed (g.unknowns + 1) (line a.columns g)
    lines = equations-more 0 gs g
        ∙ (ap (λ (k : ℕ). equations 0 gs ++ listed k (line (0 + group_columns gs) g)) one ∙ ap (λ (k : ℕ). equations 0 gs ++ listed (g.unknowns + 1) (line k g)) (none ∙ sym h.columns))
      where
        one : suc g.unknowns ≡ g.unknowns + 1
        one = omega arith

        none : 0 + group_columns gs ≡ group_columns gs
        none = omega arith

    start : a.writer.row ≡ 0 + length (numbers_of (equations 0 gs))
    start = omega (arith, h.row, length-map (λ (e : Equation). e.numbers) (equations 0 gs))

    added : a.writer.row + (g.unknowns + 1) ≡ length (equations 0 gs ++ listed (g.unknowns + 1) (line a.columns g))
    added = omega (arith, h.row, length-append (equations 0 gs) (listed (g.unknowns + 1) (line a.columns g)), length-listed (g.unknowns + 1) (line a.columns g))

-- the group of writable parts has its shape
pub group-shaped : (parameters unknowns : ℕ) (rows : List Row) (goals : List Goal) (fixed : Row) → AreWritable parameters unknowns rows goals fixed
    → IsGroupShaped parameters (group_of parameters unknowns rows goals fixed)
group-shaped parameters unknowns rows goals fixed w = record {
  goals_are = goals-length 0 parameters goals (omega arith) (λ k g i. (omega arith, w.listed.below k g i)) w.listed.ascending ∙ none;
  rows_fit = All-map (λ (f : Form). length f.coefs ≤ unknowns) form_of rows
      (All-weaker (λ (r : Row). IsWritable unknowns (form_of r)) (λ (r : Row). length r.coefs.items ≤ unknowns) (λ r i. i.fits) rows w.each_row);
  goals_fit = goal_forms-fit unknowns 0 parameters goals w.each_goal;
  fixed_fits = w.fixed_form.fits;
}
  where
    none : parameters - 0 ≡ parameters
    none = omega arith

-- replacing the counts of a line by equal ones doesn't change it
pub line-at : (p q k m unknowns n : ℕ) (rows : List Row) (goals : List Goal) (fixed : Row) (s t : EntryWriter) → q ≡ p → m ≡ k
    → Writes s t (line m (group_of q unknowns rows goals fixed) n).numbers → Writes s t (line k (group_of p unknowns rows goals fixed) n).numbers
line-at p q k m unknowns n rows goals fixed s t e f w =
    subst (λ (x : ℕ). Writes s t (line k (group_of x unknowns rows goals fixed) n).numbers) e
    (subst (λ (x : ℕ). Writes s t (line x (group_of q unknowns rows goals fixed) n).numbers) f w)
