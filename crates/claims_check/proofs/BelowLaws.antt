-- The rules below those of the program that a section spells, and the copies of each rule.
use Rattle.std.proofs.Common.{◌≡◌, ◌==◌, ◌+◌, ◌<◌, ◌≤◌, ◌++◌, ◌∙◌, ℕ, zero, suc, Bool, true, false, cond, List, [], ◌∷◌}
use Rattle.std.proofs.Common.{length, map, get_or, drop, take, Option, Some, None, refl, sym, ap, ap₂, add-one, arith}
use Rattle.std.proofs.lemmas.List.{drop_all, append-nil, length-map, length-take-le, map-append, take_more}
use Rattle.std.proofs.lemmas.Option.{slice_get_read}
use Rattle.std.specs.Prelude.{slice_get, Vec}
use Rattle.std.specs.declared.alloc.Global.{Global}
use Rattle.model.specs.Programs.{Atom, Program, Rule, rule_at}
use Rattle.refinement.specs.Simulation.{Projection}
use Rattle.refinement.specs.Laws.{same_numbers}
use Rattle.refinement.specs.Sections.{Cases, To, Never, If, Branch, Section, Path, RuleCopy, passes, fails, paths}
use Rattle.refinement.specs.Sections.{facts_of, copies_along, copies_by, rule_copies, rule_below, rule_number_below}
use Rattle.refinement.specs.Sections.{projection_of}
use Rattle.its_model.specs.Views.{rule_of, program_of}
use Rattle.refined_programs.specs.declared.section.Branch as code_branch
use Rattle.refined_programs.specs.Views.{branch_of}
use Rattle.program_claims.specs.Copies.{copies_from, copies_of}
use Rattle.claims_check.specs.declared.evidence.Evidence.{Evidence}
use Rattle.claims_check.specs.Below.{numbers_from, numbers_below, numbers_along, numbers_if, branch_numbers}
use Rattle.claims_check.specs.Below.{all_numbers, positions}
use Rattle.claims_check.specs.Views.{program_above, projection_by, section_in}
use Rattle.claims_check.specs.Tables.{IsWhole, AreCopies, items_in, list_at}

-- one number more
from-more : (t n : ℕ) → numbers_from t (suc n) ≡ numbers_from t n ++ (t + n) ∷ []
from-more t zero = let e : t + 0 ≡ t = omega arith in rw e refl
from-more t (suc n) =
    let e : t + suc n ≡ suc t + n = omega arith in
    rw e (ap (λ (ns : List ℕ). t ∷ ns) (from-more (suc t) n))

pub from-next : (n : ℕ) (xs ys : List ℕ) → ys ≡ xs ++ (n + 1) ∷ [] → xs ≡ numbers_from 1 n → ys ≡ numbers_from 1 (n + 1)
from-next n xs ys e h =
    let k : n + 1 ≡ 1 + n = omega arith in
    e
    ∙ (ap (λ (ns : List ℕ). ns ++ (n + 1) ∷ []) h
    ∙ (ap (λ (m : ℕ). numbers_from 1 n ++ m ∷ []) k
    ∙ (sym (from-more 1 n) ∙ ap (λ (m : ℕ). numbers_from 1 m) (sym (add-one n)))))

from-length : (t n : ℕ) → length (numbers_from t n) ≡ n
from-length t zero = refl
from-length t (suc n) = ap suc (from-length (suc t) n)

-- the atoms along paths don't change how many there are
along-paths : (rule : ℕ) (atoms : List Atom) (c : Cases)
    → map (λ (path : Path). rule) (paths atoms c) ≡ numbers_along rule c
along-paths rule atoms (To copy) = refl
along-paths rule atoms Never = refl
along-paths rule atoms (If test yes_cases no_cases) =
    map-append (λ (path : Path). rule) (paths (atoms ++ passes test ∷ []) yes_cases)
    (paths (atoms ++ fails test ∷ []) no_cases)
    ∙ ap₂ (λ (xs ys : List ℕ). xs ++ ys) (along-paths rule (atoms ++ passes test ∷ []) yes_cases)
    (along-paths rule (atoms ++ fails test ∷ []) no_cases)

-- the rules below the copies along paths
along-copies : (b : Branch) (r : Rule) (ends : List Path)
    → map (λ (c : RuleCopy). c.of_rule) (copies_along b (Some r) ends) ≡ map (λ (path : Path). b.rule) ends
along-copies b r [] = refl
along-copies b r (path ∷ ends) = ap (λ (ns : List ℕ). b.rule ∷ ns) (along-copies b r ends)

-- those below the copies by a branch, and by all branches
branch-copies : (p : Program) (s : Section) (b : Branch)
    → map (λ (c : RuleCopy). c.of_rule) (copies_by p s b) ≡ branch_numbers p b
branch-copies p s b = go (rule_at p b.rule)
  where
    go : (o : Option Rule)
        → map (λ (c : RuleCopy). c.of_rule) (copies_along b o (paths (map passes (facts_of s b.source)) b.cases))
        ≡ numbers_if b.rule b.cases o
    go None = refl
    go (Some r) =
        along-copies b r (paths (map passes (facts_of s b.source)) b.cases)
        ∙ along-paths b.rule (map passes (facts_of s b.source)) b.cases

all-copies : (p : Program) (s : Section) (bs : List Branch)
    → map (λ (c : RuleCopy). c.of_rule) (rule_copies p s bs) ≡ all_numbers p bs
all-copies p s [] = refl
all-copies p s (b ∷ bs) =
    map-append (λ (c : RuleCopy). c.of_rule) (copies_by p s b) (rule_copies p s bs)
    ∙ ap₂ (λ (xs ys : List ℕ). xs ++ ys) (branch-copies p s b) (all-copies p s bs)

-- behind the last branch all rules are listed
pub branches-done : (p : Program) (s : Section) (bs : List code_branch.Branch) (i : ℕ) (found : List ℕ) → length bs ≤ i
    → found ++ all_numbers p (map branch_of (drop i bs)) ≡ all_numbers p (map branch_of bs)
    → found ≡ map (λ (c : RuleCopy). c.of_rule) (rule_copies p s (map branch_of bs))
branches-done p s bs i found low h =
    sym (append-nil found)
    ∙ (ap (λ (ds : List code_branch.Branch). found ++ all_numbers p (map branch_of ds)) (sym (drop_all i bs low))
    ∙ (h ∙ sym (all-copies p s (map branch_of bs))))

-- where a projection sends each rule to the one that a list has for it, the copies of a rule are by the list
copies-positions : (o : Projection) (rule t : ℕ) (below : List ℕ) (rules : List Rule) → length below ≡ length rules
    → ((i : ℕ) → i < length below → o.rule (t + i) ≡ get_or below i 0)
    → positions rule t below ≡ copies_from o rule t rules
copies-positions o rule t [] [] few h = refl
copies-positions o rule t [] (r ∷ rules) few h = absurd (omega (arith, few))
copies-positions o rule t (b ∷ below) [] few h = absurd (omega (arith, few))
copies-positions o rule t (b ∷ below) (r ∷ rules) few h =
    let k : t + 0 ≡ t = omega arith in
    let here : o.rule t ≡ b = ap o.rule (sym k) ∙ h 0 (omega arith) in
    let later = copies-positions o rule (suc t) below rules (omega (arith, few))
    (λ (i : ℕ) low. let e : suc t + i ≡ t + suc i = omega arith in ap o.rule e ∙ h (suc i) (omega (arith, low))) in
    ap (λ (ts : List ℕ). cond (b == rule) (t ∷ ts) ts) later
    ∙ ap (λ (n : ℕ). cond (n == rule) (t ∷ copies_from o rule (suc t) rules) (copies_from o rule (suc t) rules))
    (sym here)

-- so it is by the rules below copies
below-at : (cs : List RuleCopy) (i : ℕ)
    → rule_below (slice_get cs i) ≡ get_or (map (λ (c : RuleCopy). c.of_rule) cs) i 0
below-at [] i = refl
below-at (c ∷ cs) zero = refl
below-at (c ∷ cs) (suc i) = below-at cs i

section-copies : (o : Projection) (rule : ℕ) (cs : List RuleCopy) → ((t : ℕ) → o.rule t ≡ rule_number_below cs t)
    → positions rule 1 (map (λ (c : RuleCopy). c.of_rule) cs) ≡ copies_from o rule 1 (map (λ (c : RuleCopy). c.rule) cs)
section-copies o rule cs h =
    copies-positions o rule 1 (map (λ (c : RuleCopy). c.of_rule) cs) (map (λ (c : RuleCopy). c.rule) cs)
    (length-map cs (λ (c : RuleCopy). c.of_rule) ∙ sym (length-map cs (λ (c : RuleCopy). c.rule)))
    (λ (i : ℕ) low. let e : 1 + i ≡ suc i = omega arith in ap o.rule e ∙ (h (suc i) ∙ below-at cs i))

own-copies : (rule t : ℕ) (rs : List Rule)
    → positions rule t (numbers_from t (length rs)) ≡ copies_from same_numbers rule t rs
own-copies rule t [] = refl
own-copies rule t (r ∷ rs) = ap (λ (ts : List ℕ). cond (t == rule) (t ∷ ts) ts) (own-copies rule (suc t) rs)

-- the copies of a rule are at its positions in the list of the rules below
pub copies-below : (p : Program) (section : Option Section) (rule : ℕ)
    → positions rule 1 (numbers_below p section) ≡ copies_of (program_above p section) (projection_by p section) rule
copies-below p None rule = own-copies rule 1 p.rules
copies-below p (Some s) rule = section-copies (projection_of p s) rule (rule_copies p s s.branches) (λ t. refl)

-- each rule above has one below it
numbers-length : (p : Program) (section : Option Section)
    → length (numbers_below p section) ≡ length (program_above p section).rules
numbers-length p None = from-length 1 (length p.rules)
numbers-length p (Some s) =
    length-map (rule_copies p s s.branches) (λ (c : RuleCopy). c.of_rule)
    ∙ sym (length-map (rule_copies p s s.branches) (λ (c : RuleCopy). c.rule))

-- rules of whole evidence are few
pub rules-few : (e : Evidence) → IsWhole e → length e.program.now.rules.items ≤ 1000
rules-few e h = omega (arith, h.program.few_rules, length-map e.program.now.rules.items rule_of)

pub rules-above-few : (e : Evidence) → IsWhole e → length e.above.now.rules.items ≤ 1000
rules-above-few e h = omega (arith, h.valid.few_rules, length-map e.above.now.rules.items rule_of)

pub below-few : (e : Evidence) (below : List ℕ) → IsWhole e
    → below ≡ numbers_below (program_of e.program.now) (section_in e) → length below ≤ 1000
below-few e below h is =
    let count : length below ≡ length (program_above (program_of e.program.now) (section_in e)).rules =
    ap length is ∙ numbers-length (program_of e.program.now) (section_in e) in
    let same : length (program_of e.above.now).rules
    ≡ length (program_above (program_of e.program.now) (section_in e)).rules =
    ap (λ (q : Program). length q.rules) h.above in
    omega (arith, count, same, h.valid.few_rules)

-- the positions in a list with one number more
positions-snoc : (rule t : ℕ) (xs : List ℕ) (b : ℕ)
    → positions rule t (xs ++ b ∷ [])
    ≡ cond (b == rule) (positions rule t xs ++ (t + length xs) ∷ []) (positions rule t xs)
positions-snoc rule t [] b = let e : t + 0 ≡ t = omega arith in rw e refl
positions-snoc rule t (x ∷ xs) b =
    let e : t + suc (length xs) ≡ suc t + length xs = omega arith in
    ap (λ (ts : List ℕ). cond (x == rule) (t ∷ ts) ts) (positions-snoc rule (suc t) xs b)
    ∙ (go (x == rule) (b == rule) (suc t + length xs) (positions rule (suc t) xs)
    ∙ ap (λ (n : ℕ). cond (b == rule) (positions rule t (x ∷ xs) ++ n ∷ []) (positions rule t (x ∷ xs))) (sym e))
  where
    go : (v w : Bool) (n : ℕ) (ts : List ℕ)
        → cond v (t ∷ cond w (ts ++ n ∷ []) ts) (cond w (ts ++ n ∷ []) ts)
        ≡ cond w (cond v (t ∷ ts) ts ++ n ∷ []) (cond v (t ∷ ts) ts)
    go true true n ts = refl
    go true false n ts = refl
    go false true n ts = refl
    go false false n ts = refl

positions-next : (rule i : ℕ) (below : List ℕ) → i < length below
    → positions rule 1 (take (i + 1) below)
    ≡ cond (get_or below i 0 == rule) (positions rule 1 (take i below) ++ (i + 1) ∷ [])
    (positions rule 1 (take i below))
positions-next rule i below low =
    let size = length-take-le i below (omega (arith, low)) in
    let n : 1 + length (take i below) ≡ i + 1 = omega (arith, size) in
    ap (positions rule 1) (take_more below i 0 low)
    ∙ (positions-snoc rule 1 (take i below) (get_or below i 0)
    ∙ ap (λ (m : ℕ). cond (get_or below i 0 == rule) (positions rule 1 (take i below) ++ m ∷ [])
    (positions rule 1 (take i below))) n)

-- lists that have the copies of the rules so far, with one more
pub copies-more : (below : List ℕ) (i : ℕ) (old new : List (Vec ℕ Global)) → i < length below
    → AreCopies (take i below) old → length new ≡ length old
    → ((a : ℕ) → a < length old
    → list_at new a ≡ cond (get_or below i 0 == a) (list_at old a ++ (i + 1) ∷ []) (list_at old a))
    → AreCopies (take (i + 1) below) new
copies-more below i old new low h same sets = record {
  each = λ (rule : ℕ) there.
      let here : rule < length old = omega (arith, same, there) in
      sets rule here
      ∙ (ap (λ (ts : List ℕ). cond (get_or below i 0 == rule) (ts ++ (i + 1) ∷ []) ts) (h.each rule here)
      ∙ sym (positions-next rule i below low));
}

-- the list that is read at a position
pub list-read : (lists : List (Vec ℕ Global)) (i : ℕ) (v : Vec ℕ Global) → i < length lists → v ≡ get_or lists i v
    → v.items ≡ list_at lists i
list-read lists i v low e = sym (ap items_in (slice_get_read lists (length lists) i v refl low e))
