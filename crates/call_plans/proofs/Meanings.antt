-- What a written answer says of its status.
use Rattle.std.proofs.Common.{◌≡◌, ◌⊎◌, ℕ, List, Option, refl, sym, ◌∙◌, ap, subst, inl, inr}
use Rattle.outside_io.specs.Counts.{one_more}
use Rattle.call_plans.specs.declared.status.Status.{Status}
use Rattle.call_plans.specs.declared.status.Status.TheVariants.{ReadFault}
use Rattle.call_plans.specs.Sorts.{Sort, Answer, Refusal, Other, sort_of}
use Rattle.call_plans.specs.Calls.{ShelfUse, SinkUse}
use Rattle.call_plans.specs.Kinds.{TextKind}
use Rattle.call_plans.specs.OnFiles.{IsNoText, Unread, OverLimit, Bad, WithoutText, WithMeaning}
use Rattle.call_plans.specs.Plans.{Plan, Answers, Reads, IsAnswerByPlan}
use Rattle.call_plans.specs.Meanings.{Appended, Wrote, WroteRefusal, MayMiss}
use Rattle.call_plans.specs.Lawful.{HasSorts}
use Rattle.call_plans.proofs.Rows.{row_is_answer}

-- no status is of two sorts
answer_refusal : (r : Sort) → r ≡ Answer → r ≡ Refusal → ⊥
answer_refusal r a b = let e : Answer ≡ Refusal = sym a ∙ b in cc

answer_other : (r : Sort) → r ≡ Answer → r ≡ Other → ⊥
answer_other r a b = let e : Answer ≡ Other = sym a ∙ b in cc

refusal_other : (r : Sort) → r ≡ Refusal → r ≡ Other → ⊥
refusal_other r a b = let e : Refusal ≡ Other = sym a ∙ b in cc

-- a status that is a fault of reading is of no other sort, and one with which a kind refuses is a refusal
fault_other : (s : Status) → s ≡ ReadFault → sort_of s ≡ Other
fault_other s e = ap sort_of e

module _ {T : Type 0} (kind : TextKind T) (sorted : sort_of kind.refused ≡ Refusal) where
  refused_refusal : (s : Status) → s ≡ kind.refused → sort_of s ≡ Refusal
  refused_refusal s e = ap sort_of e ∙ sorted

  -- if a file gives no text, the status isn't that of an answer
  no_text_no_answer : (seen : ShelfUse) (file : List ℕ) (s : Status) (x : List ℕ) → IsNoText kind seen file s x
      → sort_of s ≡ Answer → ⊥
  no_text_no_answer seen file s x (Unread h) is = answer_other (sort_of s) is (fault_other s h.ends)
  no_text_no_answer seen file s x (OverLimit h) is = answer_refusal (sort_of s) is (refused_refusal s h.ends)
  no_text_no_answer seen file s x (Bad h) is = answer_refusal (sort_of s) is (refused_refusal s h.ends)

-- with the status of an answer a text of a row was written
pub wrote_of : (seen : ShelfUse) (put : SinkUse) (count : Option ℕ) (plan : Plan) (s : Status) (x : List ℕ)
    → HasSorts plan
    → sort_of s ≡ Answer → IsAnswerByPlan seen count plan s x → Appended put x → Wrote seen put plan s
wrote_of seen put count (Answers cases) s x sorts is on appended = (x, (on.1, appended))
wrote_of seen put count (Reads kind file next) s x sorts is (WithoutText counted h) appended =
    absurd (no_text_no_answer kind sorts.0 seen file s x h is)
wrote_of seen put count (Reads kind file next) s x sorts is (WithMeaning t gives on) appended =
    (t, (gives, wrote_of seen put (one_more count) (next t) s x (sorts.1 t) is on appended))

-- with the status of a refusal a text that refuses a file was written
pub refused_of : (seen : ShelfUse) (put : SinkUse) (count : Option ℕ) (plan : Plan) (s : Status) (x : List ℕ)
    → HasSorts plan
    → sort_of s ≡ Refusal → IsAnswerByPlan seen count plan s x → Appended put x → WroteRefusal seen put plan s
refused_of seen put count (Answers cases) s x sorts is on appended =
    absurd (answer_refusal (sort_of s) (row_is_answer cases s x sorts on.1) is)
refused_of seen put count (Reads kind file next) s x sorts is (WithoutText counted (Unread h)) appended =
    absurd (refusal_other (sort_of s) is (fault_other s h.ends))
refused_of seen put count (Reads kind file next) s x sorts is (WithoutText counted (OverLimit h)) appended =
    inl (x, (inl h, appended))
refused_of seen put count (Reads kind file next) s x sorts is (WithoutText counted (Bad h)) appended =
    inl (x, (inr h, appended))
refused_of seen put count (Reads kind file next) s x sorts is (WithMeaning t gives on) appended =
    inr (t, (gives, refused_of seen put (one_more count) (next t) s x (sorts.1 t) is on appended))

-- with a fault of reading, a fetch of some file of the plan may fail
pub missed_of : (seen : ShelfUse) (count : Option ℕ) (plan : Plan) (s : Status) (x : List ℕ) → HasSorts plan
    → s ≡ ReadFault → IsAnswerByPlan seen count plan s x → MayMiss seen plan
missed_of seen count (Answers cases) s x sorts is on =
    absurd (answer_other (sort_of s) (row_is_answer cases s x sorts on.1) (fault_other s is))
missed_of seen count (Reads kind file next) s x sorts is (WithoutText counted (Unread h)) = inl h.fault
missed_of seen count (Reads kind file next) s x sorts is (WithoutText counted (OverLimit h)) =
    absurd (refusal_other (sort_of s) (refused_refusal kind sorts.0 s h.ends) (fault_other s is))
missed_of seen count (Reads kind file next) s x sorts is (WithoutText counted (Bad h)) =
    absurd (refusal_other (sort_of s) (refused_refusal kind sorts.0 s h.ends) (fault_other s is))
missed_of seen count (Reads kind file next) s x sorts is (WithMeaning t gives on) =
    inr (t, (gives, missed_of seen (one_more count) (next t) s x (sorts.1 t) is on))

-- a plan answers with the status of an answer, with that of a refusal, or with a fault of reading
pub sort_in : (seen : ShelfUse) (count : Option ℕ) (plan : Plan) (s : Status) (x : List ℕ) → HasSorts plan
    → IsAnswerByPlan seen count plan s x → (sort_of s ≡ Answer) ⊎ ((sort_of s ≡ Refusal) ⊎ (s ≡ ReadFault))
sort_in seen count (Answers cases) s x sorts on = inl (row_is_answer cases s x sorts on.1)
sort_in seen count (Reads kind file next) s x sorts (WithoutText counted (Unread h)) = inr (inr h.ends)
sort_in seen count (Reads kind file next) s x sorts (WithoutText counted (OverLimit h)) =
    inr (inl (refused_refusal kind sorts.0 s h.ends))
sort_in seen count (Reads kind file next) s x sorts (WithoutText counted (Bad h)) =
    inr (inl (refused_refusal kind sorts.0 s h.ends))
sort_in seen count (Reads kind file next) s x sorts (WithMeaning t gives on) =
    sort_in seen (one_more count) (next t) s x (sorts.1 t) on
