-- The reasons of a report are lines that begin with `why ` or with two blanks.
use Rattle.std.proofs.Common.{◌≡◌, ℕ, zero, suc, true, inl, inr, List, [], ◌∷◌, ◌++◌, map, ℤ, pos, negsuc, Option, Some, None}
use Rattle.std.proofs.Common.{slice_get, codes, decimal, refl, sym, ◌∙◌, ap, append_assoc}
use Rattle.std.specs.List.{list_all, AllByRecursion}
use Rattle.std.specs.Fmt.{signed_decimal}
use Rattle.model.specs.Programs.{Symbol}
use Rattle.text_core.specs.Names.{IsName}
use Rattle.cert_types.specs.declared.answer.Question.{Question}
use Rattle.cert_types.specs.declared.answer.Question.TheVariants as questions
use Rattle.linear_forms.specs.declared.limit_cause.LimitCause.{LimitCause}
use Rattle.linear_forms.specs.declared.limit_cause.LimitCause.TheVariants as causes
use Rattle.cert_types.specs.declared.answer.LimitHit.{LimitHit}
use Rattle.cert_types.specs.cert_rules.Gaps.{ScaledPoint, SymbolPlace, Gap}
use Rattle.cert_types.specs.cert_rules.AcceptsSizes.{Side, Up, Low}
use Rattle.outcome.specs.Reports.{NoTime, NoFunction, TimeHitLimit, TimeLarge, Time, Timed, Untimed}
use Rattle.outcome.specs.Reports.{NoSize, SizeUnbounded, SizeHitLimit, SizeMissing, SizeNonlinear, SizeUntimed, SizeLarge}
use Rattle.outcome.specs.Reports.{RuleCost, Costed, Uncosted, Size, Sized, Unsized, Report}
use Rattle.report_text.specs.Pieces.{with_commas_before, with_commas, rules_text, parts_text, point_text, place_text}
use Rattle.report_text.specs.Pieces.{numbered_lines}
use Rattle.report_text.specs.Reasons.{question_text, cause_text, limit_hit_text, large_text, name_in, shut_line, shut_lines}
use Rattle.report_text.specs.Reasons.{point_line, point_lines, gap_lines, no_time_text, no_size_text, side_text}
use Rattle.report_text.specs.Reports.{why_time, why_cost, why_size, why_sizes, reasons_text, text_of_report}
use Rattle.report_text.proofs.Digits.{all_plain}
use Rattle.report_text.proofs.SymbolNames.{name_plain, both_plain}
use Rattle.headline.specs.Reasons.{text_of_lines, is_within_line, IsReasonLine, GivesReasons, ReportsEndInReasons}

-- all bytes are within one line
abbrev IsPlain : List ℕ → Type 0
IsPlain text = list_all is_within_line text ≡ true

-- the rest of a line, and lines that give reasons after it
record Continues (text : List ℕ) : Type 0 where
  pub front : List ℕ
  pub lines : List (List ℕ)
  pub is_text : text ≡ front ++ (codes "\n" ++ text_of_lines lines)
  pub plain : IsPlain front
  pub each : AllByRecursion IsReasonLine lines

-- bytes of a line before the rest of it
before : (x text : List ℕ) → IsPlain x → Continues text → Continues (x ++ text)
before x text plain rest = record {
  front = x ++ rest.front;
  lines = rest.lines;
  is_text =
      ap (λ (w : List ℕ). x ++ w) rest.is_text
      ∙ sym (append_assoc x rest.front (codes "\n" ++ text_of_lines rest.lines));
  plain = both_plain x rest.front plain rest.plain;
  each = rest.each;
}

-- the end of a line
line_end : (text : List ℕ) → GivesReasons text → Continues (codes "\n" ++ text)
line_end text rest = record {
  front = [];
  lines = rest.lines;
  is_text = ap (λ (w : List ℕ). codes "\n" ++ w) rest.is_text;
  plain = refl;
  each = rest.each;
}

-- no line
pub no_reasons : GivesReasons []
no_reasons = record { lines = []; is_text = refl; each = tt }

-- bytes of a line, and its end
last_bytes : (x : List ℕ) → IsPlain x → Continues (x ++ codes "\n")
last_bytes x plain = before x (codes "\n") plain (line_end [] no_reasons)

-- a line that begins with `why `, and one that begins with two blanks
why_line : (text : List ℕ) → Continues text → GivesReasons (codes "why " ++ text)
why_line text rest = record {
  lines = (codes "why " ++ rest.front) ∷ rest.lines;
  is_text = ap (λ (w : List ℕ). codes "why " ++ w) rest.is_text;
  each = (record { begins = inl (rest.front, refl); one_line = rest.plain }, rest.each);
}

blank_line : (text : List ℕ) → Continues text → GivesReasons (codes "  " ++ text)
blank_line text rest = record {
  lines = (codes "  " ++ rest.front) ∷ rest.lines;
  is_text = ap (λ (w : List ℕ). codes "  " ++ w) rest.is_text;
  each = (record { begins = inr (rest.front, refl); one_line = rest.plain }, rest.each);
}

-- lines after lines
text_of_both : (a b : List (List ℕ)) → text_of_lines (a ++ b) ≡ text_of_lines a ++ text_of_lines b
text_of_both [] b = refl
text_of_both (line ∷ a) b =
    ap (λ (w : List ℕ). line ++ (codes "\n" ++ w)) (text_of_both a b)
    ∙ sym (append_assoc line (codes "\n" ++ text_of_lines a) (text_of_lines b))

each_of_both : (a b : List (List ℕ)) → AllByRecursion IsReasonLine a → AllByRecursion IsReasonLine b
    → AllByRecursion IsReasonLine (a ++ b)
each_of_both [] b p q = q
each_of_both (line ∷ a) b p q = (p.0, each_of_both a b p.1 q)

pub both_reasons : (a b : List ℕ) → GivesReasons a → GivesReasons b → GivesReasons (a ++ b)
both_reasons a b p q = record {
  lines = p.lines ++ q.lines;
  is_text =
      ap (λ (w : List ℕ). w ++ b) p.is_text
      ∙ (ap (λ (w : List ℕ). text_of_lines p.lines ++ w) q.is_text ∙ sym (text_of_both p.lines q.lines));
  each = each_of_both p.lines q.lines p.each q.each;
}

-- lines for each element
numbered_reasons : {X : Type 0} (lines : ℕ → X → List ℕ) → ((n : ℕ) (x : X) → GivesReasons (lines n x))
    → (n : ℕ) (xs : List X) → GivesReasons (numbered_lines lines n xs)
numbered_reasons lines give n [] = no_reasons
numbered_reasons lines give n (x ∷ xs) =
    both_reasons (lines n x) (numbered_lines lines (suc n) xs) (give n x) (numbered_reasons lines give (suc n) xs)

-- words with commas between them
before_plain : {X : Type 0} (word : X → List ℕ) → ((x : X) → IsPlain (word x)) → (xs : List X)
    → IsPlain (with_commas_before (map word xs))
before_plain word plain [] = refl
before_plain word plain (x ∷ xs) =
    both_plain (word x) (with_commas_before (map word xs)) (plain x) (before_plain word plain xs)

commas_plain : {X : Type 0} (word : X → List ℕ) → ((x : X) → IsPlain (word x)) → (xs : List X)
    → IsPlain (with_commas (map word xs))
commas_plain word plain [] = refl
commas_plain word plain (x ∷ xs) =
    both_plain (word x) (with_commas_before (map word xs)) (plain x) (before_plain word plain xs)

-- numbers, points and places
signed_plain : (z : ℤ) → IsPlain (signed_decimal z)
signed_plain (pos n) = all_plain n
signed_plain (negsuc n) = all_plain (suc n)

parts_plain : (parts : List ℤ) → IsPlain (parts_text parts)
parts_plain parts =
    both_plain (with_commas (map signed_decimal parts)) (codes ")") (commas_plain signed_decimal signed_plain parts) refl

point_plain : (p : ScaledPoint) → IsPlain (point_text p)
point_plain p = both_plain (parts_text p.parts) (codes " / " ++ decimal p.den) (parts_plain p.parts) (all_plain p.den)

place_plain : (rule place : ℕ) → IsPlain (place_text rule place)
place_plain rule place = both_plain (decimal rule) (codes "." ++ decimal place) (all_plain rule) (all_plain place)

-- limits that were hit, and numbers of nodes
question_plain : (q : Question) → IsPlain (question_text q)
question_plain (questions.Empty rule) = all_plain rule
question_plain (questions.Rank rule) = all_plain rule
question_plain (questions.Local rule place) = place_plain rule place
question_plain (questions.Cost rule) = all_plain rule

cause_plain : (c : LimitCause) → IsPlain (cause_text c)
cause_plain (causes.Range pivot) = all_plain pivot
cause_plain (causes.Budget pivots) = both_plain (decimal pivots) (codes " pivots") (all_plain pivots) refl
cause_plain (causes.Wide entries) = both_plain (decimal entries) (codes " entries") (all_plain entries) refl
cause_plain causes.Scale = refl

limit_plain : (t : LimitHit) → IsPlain (limit_hit_text t)
limit_plain t =
    both_plain (question_text t.question) (codes " " ++ cause_text t.cause) (question_plain t.question) (cause_plain t.cause)

large_plain : (nodes : ℕ) → IsPlain (large_text nodes)
large_plain nodes = both_plain (decimal nodes) (codes " nodes") (all_plain nodes) refl

-- why a size is missing
why_no_size : (w : NoSize) → Continues (no_size_text w)
why_no_size (SizeUnbounded side ray kept) = after_side side (ray_lines)
  where
    kept_line : GivesReasons (codes "  kept: " ++ (point_text kept ++ codes "\n"))
    kept_line =
        blank_line (codes "kept: " ++ (point_text kept ++ codes "\n"))
        (before (codes "kept: ") (point_text kept ++ codes "\n") refl (last_bytes (point_text kept) (point_plain kept)))

    ray_lines : GivesReasons (codes "  ray: " ++ (parts_text ray ++ (codes "\n  kept: " ++ (point_text kept ++ codes "\n"))))
    ray_lines =
        blank_line (codes "ray: " ++ (parts_text ray ++ (codes "\n  kept: " ++ (point_text kept ++ codes "\n"))))
        (before (codes "ray: ") (parts_text ray ++ (codes "\n  kept: " ++ (point_text kept ++ codes "\n"))) refl
        (before (parts_text ray) (codes "\n  kept: " ++ (point_text kept ++ codes "\n")) (parts_plain ray)
        (line_end (codes "  kept: " ++ (point_text kept ++ codes "\n")) kept_line)))

    after_side : (s : Side) {text : List ℕ} → GivesReasons text → Continues (side_text s ++ text)
    after_side Up {text} rest = before (codes "loose up") (codes "\n" ++ text) refl (line_end text rest)
    after_side Low {text} rest = before (codes "loose low") (codes "\n" ++ text) refl (line_end text rest)
why_no_size (SizeHitLimit t) = last_bytes (limit_hit_text t) (limit_plain t)
why_no_size (SizeMissing s) =
    before (codes "missing ") (place_text s.rule s.place ++ codes "\n") refl
    (last_bytes (place_text s.rule s.place) (place_plain s.rule s.place))
why_no_size (SizeNonlinear s) =
    before (codes "bent ") (place_text s.rule s.place ++ codes "\n") refl
    (last_bytes (place_text s.rule s.place) (place_plain s.rule s.place))
why_no_size (SizeUntimed rule) =
    before (codes "untimed ") (decimal rule ++ codes "\n") refl (last_bytes (decimal rule) (all_plain rule))
why_no_size (SizeLarge nodes) = last_bytes (large_text nodes) (large_plain nodes)

-- the reasons of costs and of places
pub cost_reasons : (rule : ℕ) (c : Option RuleCost) → GivesReasons (why_cost rule c)
cost_reasons rule None = no_reasons
cost_reasons rule (Some (Costed b)) = no_reasons
cost_reasons rule (Some (Uncosted w)) =
    why_line (codes "cost " ++ (decimal rule ++ (codes ": " ++ no_size_text w)))
    (before (codes "cost ") (decimal rule ++ (codes ": " ++ no_size_text w)) refl
    (before (decimal rule) (codes ": " ++ no_size_text w) (all_plain rule)
    (before (codes ": ") (no_size_text w) refl (why_no_size w))))

size_reasons : (rule place : ℕ) (s : Size) → GivesReasons (why_size rule place s)
size_reasons rule place (Sized b) = no_reasons
size_reasons rule place (Unsized w) =
    why_line (codes "size " ++ (place_text rule place ++ (codes ": " ++ no_size_text w)))
    (before (codes "size ") (place_text rule place ++ (codes ": " ++ no_size_text w)) refl
    (before (place_text rule place) (codes ": " ++ no_size_text w) (place_plain rule place)
    (before (codes ": ") (no_size_text w) refl (why_no_size w))))

-- the line of a point
point_reason : (word : List ℕ) → IsPlain word → (rule : ℕ) (p : ScaledPoint) → GivesReasons (point_line word rule p)
point_reason word plain rule p =
    blank_line (word ++ (codes " " ++ (decimal rule ++ (codes ": " ++ (point_text p ++ codes "\n")))))
    (before word (codes " " ++ (decimal rule ++ (codes ": " ++ (point_text p ++ codes "\n")))) plain
    (before (codes " ") (decimal rule ++ (codes ": " ++ (point_text p ++ codes "\n"))) refl
    (before (decimal rule) (codes ": " ++ (point_text p ++ codes "\n")) (all_plain rule)
    (before (codes ": ") (point_text p ++ codes "\n") refl (last_bytes (point_text p) (point_plain p))))))

points_reasons : (word : List ℕ) → IsPlain word → (set : List ℕ) (ps : List ScaledPoint)
    → GivesReasons (point_lines word set ps)
points_reasons word plain [] ps = no_reasons
points_reasons word plain (rule ∷ set) [] = no_reasons
points_reasons word plain (rule ∷ set) (p ∷ ps) =
    both_reasons (point_line word rule p) (point_lines word set ps) (point_reason word plain rule p)
    (points_reasons word plain set ps)

-- the name of a symbol is within one line
symbol_plain : (symbols : List Symbol) → AllByRecursion IsName (map (λ (s : Symbol). s.name) symbols) → (i : ℕ)
    → IsPlain (name_in (slice_get symbols i))
symbol_plain [] are zero = refl
symbol_plain [] are (suc i) = refl
symbol_plain (s ∷ symbols) are zero = name_plain s.name are.0
symbol_plain (s ∷ symbols) are (suc i) = symbol_plain symbols are.1 i

module _ (symbols : List Symbol) (are : AllByRecursion IsName (map (λ (s : Symbol). s.name) symbols)) where
  -- the lines of shut places
  shut_reason : (s : SymbolPlace) → GivesReasons (shut_line symbols s)
  shut_reason s =
      let name = name_in (slice_get symbols s.symbol) in
      blank_line (codes "shut " ++ (name ++ (codes "." ++ (decimal s.place ++ codes "\n"))))
      (before (codes "shut ") (name ++ (codes "." ++ (decimal s.place ++ codes "\n"))) refl
      (before name (codes "." ++ (decimal s.place ++ codes "\n")) (symbol_plain symbols are s.symbol)
      (before (codes ".") (decimal s.place ++ codes "\n") refl (last_bytes (decimal s.place) (all_plain s.place)))))

  shut_reasons : (shut : List SymbolPlace) → GivesReasons (shut_lines symbols shut)
  shut_reasons [] = no_reasons
  shut_reasons (s ∷ shut) =
      both_reasons (shut_line symbols s) (shut_lines symbols shut) (shut_reason s) (shut_reasons shut)

  -- the lines of a gap
  gap_reasons : (g : Gap) → GivesReasons (gap_lines symbols g)
  gap_reasons g =
      let moves = point_lines (codes "move") g.set g.moves in
      let floor = point_line (codes "floor") g.rule g.floor in
      let kept = point_lines (codes "kept") g.set g.kept in
      both_reasons (shut_lines symbols g.shut) (moves ++ (floor ++ kept)) (shut_reasons g.shut)
      (both_reasons moves (floor ++ kept) (points_reasons (codes "move") refl g.set g.moves)
      (both_reasons floor kept (point_reason (codes "floor") refl g.rule g.floor)
      (points_reasons (codes "kept") refl g.set g.kept)))

  -- why a time is missing
  why_no_time : (w : NoTime) → Continues (no_time_text symbols w)
  why_no_time (NoFunction g) =
      before (codes "no affine ranking function over rules ") (rules_text g.set ++ (codes "\n" ++ gap_lines symbols g)) refl
      (before (rules_text g.set) (codes "\n" ++ gap_lines symbols g) (commas_plain decimal all_plain g.set)
      (line_end (gap_lines symbols g) (gap_reasons g)))
  why_no_time (TimeHitLimit t) = last_bytes (limit_hit_text t) (limit_plain t)
  why_no_time (TimeLarge nodes) = last_bytes (large_text nodes) (large_plain nodes)

  pub time_reasons : (rule : ℕ) (t : Time) → GivesReasons (why_time symbols rule t)
  time_reasons rule (Timed b) = no_reasons
  time_reasons rule (Untimed w) =
      why_line (codes "time " ++ (decimal rule ++ (codes ": " ++ no_time_text symbols w)))
      (before (codes "time ") (decimal rule ++ (codes ": " ++ no_time_text symbols w)) refl
      (before (decimal rule) (codes ": " ++ no_time_text symbols w) (all_plain rule)
      (before (codes ": ") (no_time_text symbols w) refl (why_no_time w))))

  -- all reasons of a report
  pub reasons_given : (r : Report) → GivesReasons (reasons_text symbols r)
  reasons_given r =
      let times = numbered_lines (why_time symbols) 1 r.times in
      let costs = numbered_lines why_cost 1 r.costs in
      let sizes = numbered_lines why_sizes 1 r.sizes in
      both_reasons times (costs ++ sizes) (numbered_reasons (why_time symbols) time_reasons 1 r.times)
      (both_reasons costs sizes (numbered_reasons why_cost cost_reasons 1 r.costs)
      (numbered_reasons why_sizes (λ n row. numbered_reasons (why_size n) (size_reasons n) 1 row) 1 r.sizes))

pub end_in_reasons : ReportsEndInReasons
unfolding text_of_report
end_in_reasons = record {
  each = λ p r names. record {
    reasons = reasons_text p.symbols r;
    are_reasons = reasons_given p.symbols names r;
    whole = refl;
  };
}
