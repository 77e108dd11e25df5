-- The reasons why times and sizes are missing are determined by their texts.
use Rattle.std.proofs.Common.{◌≡◌, ℕ, ◌&&◌, ◌==◌, if◌then◌else◌, List, ◌++◌, length, ℤ, get_or, codes, decimal, refl}
use Rattle.std.proofs.Common.{sym, ◌∙◌, ap, arith}
use Rattle.std.specs.Prelude.{⊤}
use Rattle.std.specs.List.{AllByRecursion}
use Rattle.model.specs.Programs.{Symbol}
use Rattle.its_model.specs.text_core.Names.{AreNames}
use Rattle.cert_types.specs.declared.answer.Question.{Question}
use Rattle.cert_types.specs.declared.answer.Question.TheVariants as questions
use Rattle.cert_types.specs.cert_rules.Gaps.{ScaledPoint}
use Rattle.cert_types.specs.cert_rules.AcceptsSizes.{Side, Up, Low}
use Rattle.outcome.specs.Reports.{NoTime, NoFunction, TimeHitLimit, TimeLarge}
use Rattle.outcome.specs.Reports.{NoSize, SizeUnbounded, SizeHitLimit, SizeMissing, SizeNonlinear, SizeUntimed, SizeLarge}
use Rattle.report_text.specs.Pieces.{parts_text, point_text, result_variable_text}
use Rattle.report_text.specs.Reasons.{question_text, cause_text, limit_hit_text, large_text, side_text, no_time_text}
use Rattle.report_text.specs.Reasons.{no_size_text}
use Rattle.report_text.specs.Printable.{IsShort, IsShortSigned, IsPrintablePoint, IsPrintableLimitHit, IsPrintableResultVariable}
use Rattle.report_text.specs.Printable.{IsPrintableNoTime, IsPrintableNoSize}
use Rattle.report_text.proofs.DistinguishedTexts.{Determines, Any, determined_behind, determined_before, determined_both, same_after_word}
use Rattle.report_text.proofs.Digits.{number_determined}
use Rattle.report_text.proofs.Points.{parts_determined, point_determined, result_variable_determined}
use Rattle.report_text.proofs.Questions.{limit_hit_determined, large_determined}
use Rattle.report_text.proofs.SymbolNames.{names_of}
use Rattle.report_text.proofs.GapLines.{AreReasonsOrNothing, gap_determined}

-- a limit hit at the end of a line is determined
ended_limit_hit : Determines IsPrintableLimitHit (λ t. limit_hit_text t ++ codes "\n") Any
ended_limit_hit = determined_before limit_hit_determined (codes "\n") Any (λ u s. refl)

-- a number of nodes at the end of a line is determined
ended_large : Determines IsShort (λ n. large_text n ++ codes "\n") Any
ended_large = determined_before large_determined (codes "\n") Any (λ u s. tt)

-- the kind of a reason why a time is missing, by its first two bytes
abbrev time_kind : List ℕ → ℕ
time_kind w = if get_or w 0 0 == 110 then 0 else if (get_or w 0 0 == 108) && (get_or w 1 0 == 97) then 2 else 1

-- the kind of a reason why a time is missing, of the reason itself
abbrev kind_of_time : NoTime → ℕ
kind_of_time (NoFunction g) = 0
kind_of_time (TimeHitLimit t) = 1
kind_of_time (TimeLarge nodes) = 2

-- the kind of a reason why a size is missing, by its first three bytes
abbrev size_kind : List ℕ → ℕ
size_kind w =
    if get_or w 0 0 == 109 then 2
    else if get_or w 0 0 == 98 then 3
    else if get_or w 0 0 == 117 then 4
    else if (get_or w 0 0 == 108) && (get_or w 1 0 == 97) then 5
    else if (get_or w 0 0 == 108) && (get_or w 2 0 == 111) then 0
    else 1

-- the kind of a reason why a size is missing, of the reason itself
abbrev kind_of_size : NoSize → ℕ
kind_of_size (SizeUnbounded side ray kept) = 0
kind_of_size (SizeHitLimit t) = 1
kind_of_size (SizeMissing s) = 2
kind_of_size (SizeNonlinear s) = 3
kind_of_size (SizeUntimed rule) = 4
kind_of_size (SizeLarge nodes) = 5

-- the text shows the kind of the reason why a time is missing
time_kind_is : (symbols : List Symbol) (x : NoTime) (u : List ℕ) → time_kind (no_time_text symbols x ++ u) ≡ kind_of_time x
time_kind_is symbols (NoFunction g) u = refl
time_kind_is symbols (TimeHitLimit t) u = go t.question
  where
    go : (q : Question) → time_kind (((question_text q ++ (codes " " ++ cause_text t.cause)) ++ codes "\n") ++ u) ≡ 1
    go (questions.Empty rule) = refl
    go (questions.Rank rule) = refl
    go (questions.Local rule place) = refl
    go (questions.Cost rule) = refl
time_kind_is symbols (TimeLarge nodes) u = refl

-- the text shows the kind of the reason why a size is missing
size_kind_is : (x : NoSize) (u : List ℕ) → size_kind (no_size_text x ++ u) ≡ kind_of_size x
size_kind_is (SizeUnbounded Up ray kept) u = refl
size_kind_is (SizeUnbounded Low ray kept) u = refl
size_kind_is (SizeHitLimit t) u = go t.question
  where
    go : (q : Question) → size_kind (((question_text q ++ (codes " " ++ cause_text t.cause)) ++ codes "\n") ++ u) ≡ 1
    go (questions.Empty rule) = refl
    go (questions.Rank rule) = refl
    go (questions.Local rule place) = refl
    go (questions.Cost rule) = refl
size_kind_is (SizeMissing s) u = refl
size_kind_is (SizeNonlinear s) u = refl
size_kind_is (SizeUntimed rule) u = refl
size_kind_is (SizeLarge nodes) u = refl

-- the reason why a time is missing is determined by its text
pub no_time_determined : (symbols : List Symbol) → AreNames (names_of symbols) → Determines (IsPrintableNoTime (length symbols)) (no_time_text symbols) AreReasonsOrNothing
no_time_determined symbols are = record { each = λ x y u v p q s t e. go x y u v p q s t e (sym (time_kind_is symbols x u) ∙ (ap time_kind e ∙ time_kind_is symbols y v)) }
  where
    go : (x y : NoTime) (u v : List ℕ) → IsPrintableNoTime (length symbols) x → IsPrintableNoTime (length symbols) y → AreReasonsOrNothing u → AreReasonsOrNothing v → no_time_text symbols x ++ u ≡ no_time_text symbols y ++ v
        → kind_of_time x ≡ kind_of_time y → (x ≡ y) × (u ≡ v)
    go (NoFunction g) (NoFunction h) u v p q s t e k = let r = (gap_determined symbols are).each g h u v p q s t e in (ap NoFunction r.0, r.1)
    go (TimeHitLimit a) (TimeHitLimit b) u v p q s t e k = let r = ended_limit_hit.each a b u v p q tt tt e in (ap TimeHitLimit r.0, r.1)
    go (TimeLarge m) (TimeLarge n) u v p q s t e k = let r = ended_large.each m n u v p q tt tt e in (ap TimeLarge r.0, r.1)
    go x y u v p q s t e k = absurd (omega (arith, k))

-- the remaining lines of an unbounded side: the ray and the point
unbounded_determined : Determines (λ (z : List ℤ × ScaledPoint). AllByRecursion IsShortSigned z.0 × IsPrintablePoint z.1)
    (λ (z : List ℤ × ScaledPoint). codes "  ray: " ++ (parts_text z.0 ++ (codes "\n  kept: " ++ (point_text z.1 ++ codes "\n")))) Any
unbounded_determined = determined_behind (determined_both parts_determined (determined_behind (determined_before point_determined (codes "\n") Any (λ u s. refl)) (codes "\n  kept: ")) (λ p u fits after. tt)) (codes "  ray: ")

-- two sides with one text are equal
side_one : (x y : Side) (u v : List ℕ) → side_text x ++ u ≡ side_text y ++ v → (x ≡ y) × (u ≡ v)
side_one Up Up u v e = (refl, same_after_word (codes "loose up\n") u v e)
side_one Low Low u v e = (refl, same_after_word (codes "loose low\n") u v e)
side_one Up Low u v e = absurd (let no : 117 ≡ 108 = ap (λ (x : List ℕ). get_or x 6 0) e in omega (arith, no))
side_one Low Up u v e = absurd (let no : 108 ≡ 117 = ap (λ (x : List ℕ). get_or x 6 0) e in omega (arith, no))

-- the unbounded side of a place is determined by its text
side_determined : Determines (λ (x : Side). ⊤) side_text Any
side_determined = record { each = λ x y u v p q s t e. side_one x y u v e }

-- a result variable after a word, at the end of a line, is determined
result_variable_after_word : (w : List ℕ) → Determines IsPrintableResultVariable (λ s. w ++ (result_variable_text s ++ codes "\n")) Any
result_variable_after_word w = determined_behind (determined_before result_variable_determined (codes "\n") Any (λ u s. refl)) w

-- a rule after a word, at the end of a line, is determined
rule_after_word : (w : List ℕ) → Determines IsShort (λ n. w ++ (decimal n ++ codes "\n")) Any
rule_after_word w = determined_behind (determined_before number_determined (codes "\n") Any (λ u s. refl)) w

-- the reason why a size is missing is determined by its text
pub no_size_determined : Determines IsPrintableNoSize no_size_text Any
no_size_determined = record { each = λ x y u v p q s t e. go x y u v p q e (sym (size_kind_is x u) ∙ (ap size_kind e ∙ size_kind_is y v)) }
  where
    go : (x y : NoSize) (u v : List ℕ) → IsPrintableNoSize x → IsPrintableNoSize y → no_size_text x ++ u ≡ no_size_text y ++ v → kind_of_size x ≡ kind_of_size y → (x ≡ y) × (u ≡ v)
    go (SizeUnbounded a r k) (SizeUnbounded b o l) u v p q e same =
        let w = (determined_both side_determined unbounded_determined (λ z w fits after. tt)).each (a, (r, k)) (b, (o, l)) u v (tt, p) (tt, q) tt tt e in
        (ap (λ (z : Side × (List ℤ × ScaledPoint)). SizeUnbounded z.0 z.1.0 z.1.1) w.0, w.1)
    go (SizeHitLimit a) (SizeHitLimit b) u v p q e same = let r = ended_limit_hit.each a b u v p q tt tt e in (ap SizeHitLimit r.0, r.1)
    go (SizeMissing a) (SizeMissing b) u v p q e same = let r = (result_variable_after_word (codes "missing ")).each a b u v p q tt tt e in (ap SizeMissing r.0, r.1)
    go (SizeNonlinear a) (SizeNonlinear b) u v p q e same = let r = (result_variable_after_word (codes "bent ")).each a b u v p q tt tt e in (ap SizeNonlinear r.0, r.1)
    go (SizeUntimed m) (SizeUntimed n) u v p q e same = let r = (rule_after_word (codes "untimed ")).each m n u v p q tt tt e in (ap SizeUntimed r.0, r.1)
    go (SizeLarge m) (SizeLarge n) u v p q e same = let r = ended_large.each m n u v p q tt tt e in (ap SizeLarge r.0, r.1)
    go x y u v p q e same = absurd (omega (arith, same))
