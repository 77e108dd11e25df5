-- The first fault of obligations, and of the ends that they belong to, one by one.
use Rattle.std.proofs.Common.{◌≡◌, ℕ, suc, ◌+◌, ◌<◌, Bool, true, false, cond, List, [], ◌∷◌, length, map, drop, get_or}
use Rattle.std.proofs.Common.{Option, Some, None, is_some, refl, sym, ◌∙◌, ap, subst, add-one}
use Rattle.std.specs.Prelude.{◌&&◌, Result, Ok, Err, IfOk}
use Rattle.std.specs.List.{AllByRecursion}
use Rattle.std.proofs.lemmas.Bool.{false≢true}
use Rattle.std.proofs.lemmas.List.{at_drop_more}
use Rattle.refined_programs.proofs.refinement.model.Cases.{none_some}
use Rattle.refined_programs.specs.model.Programs.{Program, rule_at}
use Rattle.refined_programs.specs.refinement.Sections.{Copy}
use Rattle.refined_programs.specs.its_model.Valid.{IsValid}
use Rattle.refinement_rows.specs.linear_forms.Certificates.{minus_one}
use Rattle.refinement_rows.specs.guard_prep.Laws.{IsPreparable}
use Rattle.refinement_rows.specs.guard_prep.Prepared.{rows_of}
use Rattle.cert_rules.specs.Tests.{first_failing}
use Rattle.cert_rules.specs.NumberTests.{implies}
use Rattle.section_checks.specs.Faults.{Fault, WrongShape, OverLimit, BranchEnd, Obligation, obligations_of, IsWithinLimits}
use Rattle.section_decide.specs.Deciding.{is_within_limits, fits_rows, obligation_tests, certificate_tests}
use Rattle.section_decide.specs.Deciding.{limit_test, limit_tests, first_in_stages, or_then}
use Rattle.section_decide.proofs.Deciding.{decides-each, decides-within}
use Rattle.refinement_check.specs.Views.{NumberedEnd, placed}
use Rattle.refinement_check.proofs.Preparing.{obligations-prepared}

-- the rest of a list from a position on is the element there and those after it
pub more : {X Y : Type 0} (f : X → Y) (xs : List X) (i : ℕ) (x : X) → i < length xs → x ≡ get_or xs i x
    → map f (drop i xs) ≡ f x ∷ map f (drop (i + 1) xs)
more f xs i x l e =
    at_drop_more (map f) xs i x l ∙ ap (λ y. f y ∷ map f (drop (i + 1) xs)) (sym e)

-- the fault of the first obligation is that of all; if it has none, the others decide
first-obligation : (a b : Bool) (w f : Fault) (rest found : Option Fault) → is_some found ≡ true
    → found ≡ cond a (cond b None (Some f)) (Some w) → found ≡ cond a (cond b rest (Some f)) (Some w)
first-obligation true true w f rest (Some x) s e = absurd (none_some x (sym e))
first-obligation true true w f rest None s e = absurd (false≢true s)
first-obligation true false w f rest found s e = e
first-obligation false b w f rest found s e = e

other-obligations : (a b : Bool) (w f : Fault) (rest found : Option Fault) → is_some found ≡ false
    → found ≡ cond a (cond b None (Some f)) (Some w) → rest ≡ cond a (cond b rest (Some f)) (Some w)
other-obligations true true w f rest found s e = refl
other-obligations true false w f rest (Some x) s e = absurd (false≢true (sym s))
other-obligations true false w f rest None s e = absurd (none_some f e)
other-obligations false b w f rest (Some x) s e = absurd (false≢true (sym s))
other-obligations false b w f rest None s e = absurd (none_some w e)

pub obligation-fails : (n : ℕ) (o : Obligation) (os : List Obligation) (found : Option Fault) → is_some found ≡ true
    → found ≡ first_failing (obligation_tests n (o ∷ [])) → found ≡ first_failing (obligation_tests n (o ∷ os))
obligation-fails n o os found s e =
    first-obligation (fits_rows o) (implies (rows_of o.rule) o.by minus_one) (WrongShape n) o.fault
    (first_failing (obligation_tests n os)) found s e

pub obligation-passes : (n : ℕ) (o : Obligation) (os : List Obligation) (found : Option Fault) → is_some found ≡ false
    → found ≡ first_failing (obligation_tests n (o ∷ []))
    → first_failing (obligation_tests n os) ≡ first_failing (obligation_tests n (o ∷ os))
obligation-passes n o os found s e =
    other-obligations (fits_rows o) (implies (rows_of o.rule) o.by minus_one) (WrongShape n) o.fault
    (first_failing (obligation_tests n os)) found s e

-- the fault of the obligations left is that of all
pub obligations-fail : (n : ℕ) (o : Obligation) (os now : List Obligation) (fault : Fault) (all : Option Fault)
    → now ≡ o ∷ os → Some fault ≡ first_failing (obligation_tests n (o ∷ []))
    → first_failing (obligation_tests n now) ≡ all → Some fault ≡ all
obligations-fail n o os now fault all left h decide =
    obligation-fails n o os (Some fault) refl h
    ∙ (ap (λ (xs : List Obligation). first_failing (obligation_tests n xs)) (sym left) ∙ decide)

pub obligations-pass : (n : ℕ) (o : Obligation) (os now : List Obligation) (all : Option Fault) → now ≡ o ∷ os
    → None ≡ first_failing (obligation_tests n (o ∷ [])) → first_failing (obligation_tests n now) ≡ all
    → first_failing (obligation_tests n os) ≡ all
obligations-pass n o os now all left h decide =
    obligation-passes n o os None refl h
    ∙ (ap (λ (xs : List Obligation). first_failing (obligation_tests n xs)) (sym left) ∙ decide)

-- the fault of the ends left is that of all
stage-fails : (found rest : Option Fault) → is_some found ≡ true → found ≡ or_then found rest
stage-fails (Some x) rest s = refl
stage-fails None rest s = absurd (false≢true s)

stage-passes : (found rest : Option Fault) → is_some found ≡ false → rest ≡ or_then found rest
stage-passes (Some x) rest s = absurd (false≢true (sym s))
stage-passes None rest s = refl

pub end-fails : (copies : List Copy) (n : ℕ) (e : BranchEnd) (es : List BranchEnd) (found : Option Fault)
    → is_some found ≡ true → found ≡ first_failing (obligation_tests n (obligations_of copies n e.rule e.end))
    → found ≡ first_in_stages (certificate_tests copies n (e ∷ es))
end-fails copies n e es found s h =
    let rest : Option Fault = first_in_stages (certificate_tests copies (suc n) es) in
    stage-fails found rest s ∙ ap (λ (o : Option Fault). or_then o rest) h

pub end-passes : (copies : List Copy) (n : ℕ) (e : BranchEnd) (es : List BranchEnd) (found : Option Fault)
    → is_some found ≡ false → found ≡ first_failing (obligation_tests n (obligations_of copies n e.rule e.end))
    → first_in_stages (certificate_tests copies (suc n) es) ≡ first_in_stages (certificate_tests copies n (e ∷ es))
end-passes copies n e es found s h =
    let rest : Option Fault = first_in_stages (certificate_tests copies (suc n) es) in
    stage-passes found rest s ∙ ap (λ (o : Option Fault). or_then o rest) h

-- if no end is over the limits, the first isn't, nor is any of the others
limit-passed : (v : Bool) (rest : Option Fault) (x : Fault) → cond v rest (Some x) ≡ None → (v ≡ true) × (rest ≡ None)
limit-passed true rest x e = (refl, e)
limit-passed false rest x e = absurd (none_some x (sym e))

second-holds : (a b : Bool) → (a && b) ≡ true → b ≡ true
second-holds true b e = e
second-holds false b e = absurd (false≢true e)

pub others-within : (copies : List Copy) (n : ℕ) (e : BranchEnd) (es : List BranchEnd)
    → first_failing (limit_tests copies n (e ∷ es)) ≡ None → first_failing (limit_tests copies (suc n) es) ≡ None
others-within copies n e es h = (limit-passed (limit_test copies n e).passes _ (OverLimit n) h).1

-- the rules of the obligations of an end that is within the limits can be prepared
pub end-prepared : (p : Program) → IsValid p → (copies : List Copy) (n : ℕ) (e : NumberedEnd) (es : List BranchEnd)
    → first_failing (limit_tests copies n (placed p e ∷ es)) ≡ None
    → AllByRecursion (λ o. IsPreparable o.rule) (obligations_of copies n (rule_at p e.rule) e.end)
end-prepared p valid copies n e es h =
    obligations-prepared p valid copies n e.rule e.end
    ((decides-each (λ o. is_within_limits o.rule) (λ o. IsWithinLimits o.rule) (λ o. decides-within o.rule)
    (obligations_of copies n (rule_at p e.rule) e.end)).0
    (second-holds _ _ (limit-passed (limit_test copies n (placed p e)).passes _ (OverLimit n) h).0))

-- if the first of two tests passes, both pass exactly if the second does
pub both-within : {E : Type 0} (r : Result Bool E) (own a b c : Bool) → own ≡ a → own ≡ true → b ≡ c
    → IfOk r (λ v. v ≡ b) → IfOk r (λ v. v ≡ (a && c))
both-within (Ok v) own a b c e yes_it_does same h =
    h ∙ (same ∙ sym (ap (λ (w : Bool). w && c) (sym e ∙ yes_it_does)))
both-within (Err d) own a b c e yes_it_does same h = tt

-- the rules of the obligations of the first end left can be prepared
pub here-prepared : (p : Program) → IsValid p → (copies : List Copy) (n : ℕ) (e : NumberedEnd) (es now : List BranchEnd)
    (os : List Obligation) → now ≡ placed p e ∷ es → first_failing (limit_tests copies n now) ≡ None
    → os ≡ obligations_of copies n (rule_at p e.rule) e.end → AllByRecursion (λ o. IsPreparable o.rule) os
here-prepared p valid copies n e es now os left within same =
    subst (λ (xs : List Obligation). AllByRecursion (λ o. IsPreparable o.rule) xs) (sym same)
    (end-prepared p valid copies n e es
    (subst (λ (xs : List BranchEnd). first_failing (limit_tests copies n xs) ≡ None) left within))

-- if the ends left are within the limits, so are those after the first
pub left-within : (copies : List Copy) (n : ℕ) (e : BranchEnd) (es now : List BranchEnd) → now ≡ e ∷ es
    → first_failing (limit_tests copies n now) ≡ None → first_failing (limit_tests copies (n + 1) es) ≡ None
left-within copies n e es now left within =
    ap (λ (m : ℕ). first_failing (limit_tests copies m es)) (add-one n)
    ∙ others-within copies n e es
    (subst (λ (xs : List BranchEnd). first_failing (limit_tests copies n xs) ≡ None) left within)

-- the fault of the first end left is that of all; if it has none, the others decide
pub left-fails : (copies : List Copy) (n : ℕ) (e : BranchEnd) (es now : List BranchEnd) (os : List Obligation)
    (fault : Fault) (all : Option Fault) → now ≡ e ∷ es → os ≡ obligations_of copies n e.rule e.end
    → Some fault ≡ first_failing (obligation_tests n os) → first_in_stages (certificate_tests copies n now) ≡ all
    → Some fault ≡ all
left-fails copies n e es now os fault all left same h decide =
    end-fails copies n e es (Some fault) refl
    (h ∙ ap (λ (xs : List Obligation). first_failing (obligation_tests n xs)) same)
    ∙ (ap (λ (xs : List BranchEnd). first_in_stages (certificate_tests copies n xs)) (sym left) ∙ decide)

pub left-passes : (copies : List Copy) (n : ℕ) (e : BranchEnd) (es now : List BranchEnd) (os : List Obligation)
    (all : Option Fault) → now ≡ e ∷ es → os ≡ obligations_of copies n e.rule e.end
    → None ≡ first_failing (obligation_tests n os) → first_in_stages (certificate_tests copies n now) ≡ all
    → first_in_stages (certificate_tests copies (n + 1) es) ≡ all
left-passes copies n e es now os all left same h decide =
    ap (λ (m : ℕ). first_in_stages (certificate_tests copies m es)) (add-one n)
    ∙ (end-passes copies n e es None refl
    (h ∙ ap (λ (xs : List Obligation). first_failing (obligation_tests n xs)) same)
    ∙ (ap (λ (xs : List BranchEnd). first_in_stages (certificate_tests copies n xs)) (sym left) ∙ decide))
