-- Members with their side bounds, one by one.
use Rattle.std.specs.Prelude.{slice_get, slice_index_or}
use Rattle.std.specs.declared.alloc.Global.{Global}
use Rattle.std.proofs.Common.{◌≡◌, ℕ, zero, suc, ◌-◌, ◌<◌, ◌≤◌, Bool, true, false, Vec, get_or, List, [], ◌∷◌}
use Rattle.std.proofs.Common.{◌++◌, length, map, Option, Some, None, refl, sym, ◌∙◌, ap, subst, arith}
use Rattle.std.specs.List.{All}
use Rattle.std.specs.Option.{option_map}
use Rattle.std.proofs.lemmas.List.{map-append, length-map, get_or-map}
use Rattle.std.proofs.lemmas.List.Elements.{All-head, All-tail, All-cons, All-nil}
use Rattle.local_size.specs.LocalAnswers.{Local, HasBound, local_answer_of}
use Rattle.local_size.specs.declared.answer.LocalAnswer.{LocalAnswer}
use Rattle.local_size.specs.declared.answer.LocalAnswer.TheVariants as answers
use Rattle.outcome.specs.Reports.{NoSize, Unsized}
use Rattle.outcome.specs.Views.{size_of}
use Rattle.outcome.specs.declared.entry.SizeEntry.{SizeEntry}
use Rattle.cert_types.specs.cert_rules.Nodes.{ResultVariable, Member}
use Rattle.cert_types.specs.Views.{result_variable_of, member_of}
use Rattle.cert_types.specs.declared.side_bound.Member as code
use Rattle.cert_types.specs.declared.side_bound.ResultVariable as code_result_variable
use Rattle.rvg_components.specs.Flows.{Locals}
use Rattle.rvg_components.specs.Listing.{answer_lists, local_in, local_from}
use Rattle.rvg_components.specs.declared.component.Component.{Component}
use Rattle.time_bounds.specs.declared.candidates.Candidate.{Candidate}
use Rattle.time_bounds.specs.declared.candidates.SideBounds.{SideBounds}
use Rattle.time_bounds.specs.declared.candidates.SideBounds.TheVariants as side_bounds
use Rattle.time_bounds.specs.ProgramSizes.{AreMembers, unbounded_reason, limit_hit_reason, or_else, first_reason, lacks_side_bounds}
use Rattle.time_bounds.specs.Locals.{answer_in}
use Rattle.time_bounds.specs.Candidates.{is_bound, IsMember, IsLone, AreSideBounds, IsSideBoundsOf, IsArmed, AreArmed}
use Rattle.model.proofs.Cases.{none_some}

-- the candidates with one more
pub armed_more : (local : Locals) (found : List Component) (cs : List Candidate) (x : Component) (c : Candidate) → AreArmed local found cs
    → IsArmed local x c → AreArmed local (found ++ x ∷ []) (cs ++ c ∷ [])
armed_more local [] [] x c h a = (a, tt)
armed_more local [] (d ∷ cs) x c h a = absurd h
armed_more local (y ∷ found) [] x c h a = absurd h
armed_more local (y ∷ found) (d ∷ cs) x c h a = (h.0, armed_more local found cs x c h.1 a)

-- the answer that was read is that for the place
pub local_seen_at : (locals : List (List LocalAnswer)) (t i : ℕ) (a : LocalAnswer) → answer_in locals t i ≡ Some a → local_from locals t i ≡ local_answer_of a
local_seen_at locals t zero a e = absurd (none_some a e)
local_seen_at locals t (suc i) a e = ap local_in e

all_bounds : (result_variables : List ResultVariable) (members : List Member) (local : Locals) (m : Member)
    → All (λ m. local m.result_variable.rule m.result_variable.place ≡ HasBound m.local) members → local m.result_variable.rule m.result_variable.place ≡ HasBound m.local
    → All (λ m. local m.result_variable.rule m.result_variable.place ≡ HasBound m.local) (members ++ m ∷ [])
all_bounds result_variables [] local m h x =
    All-cons (λ m. local m.result_variable.rule m.result_variable.place ≡ HasBound m.local) m [] x (All-nil (λ m. local m.result_variable.rule m.result_variable.place ≡ HasBound m.local))
all_bounds result_variables (n ∷ members) local m h x =
    All-cons (λ m. local m.result_variable.rule m.result_variable.place ≡ HasBound m.local) n (members ++ m ∷ [])
    (All-head (λ m. local m.result_variable.rule m.result_variable.place ≡ HasBound m.local) n members h)
    (all_bounds result_variables members local m (All-tail (λ m. local m.result_variable.rule m.result_variable.place ≡ HasBound m.local) n members h) x)

-- before the first place there is no member
pub no_members : (local : Locals) (members : List Member) → members ≡ [] → AreMembers local [] members
no_members local members e = subst (λ (ms : List Member). AreMembers local [] ms) (sym e) record {
  result_variables_are = refl;
  bounds_are = All-nil (λ m. local m.result_variable.rule m.result_variable.place ≡ HasBound m.local);
}

-- a place with its local bound is one member more
pub members_more : (local : Locals) (result_variables : List ResultVariable) (members : List Member) (result_variable : ResultVariable) (m : Member) → AreMembers local result_variables members
    → IsMember local result_variable m → AreMembers local (result_variables ++ result_variable ∷ []) (members ++ m ∷ [])
members_more local result_variables members result_variable m h is = record {
  result_variables_are =
      ap (λ (ss : List ResultVariable). ss ++ result_variable ∷ []) h.result_variables_are
      ∙ (ap (λ (s : ResultVariable). map (λ m. m.result_variable) members ++ s ∷ []) (sym is.result_variable_is) ∙ sym (map-append (λ m. m.result_variable) members (m ∷ [])));
  bounds_are =
      all_bounds result_variables members local m h.bounds_are
      (subst (λ (s : ResultVariable). local s.rule s.place ≡ HasBound m.local) (sym is.result_variable_is) is.bound_is);
}

-- if no place has a reason, each has a local bound
pub bound_where : (locals : List (List LocalAnswer)) (t i : ℕ) (a : LocalAnswer) → answer_in locals t i ≡ Some a
    → unbounded_reason (local_from locals t i) ≡ None → limit_hit_reason (local_from locals t i) ≡ None → is_bound a ≡ true
bound_where locals t i (answers.Bound l) e no_unbounded no_limit_hit = refl
bound_where locals t i (answers.UnboundedSide l) e no_unbounded no_limit_hit =
    absurd (none_some _ (sym no_unbounded ∙ ap unbounded_reason (local_seen_at locals t i (answers.UnboundedSide l) e)))
bound_where locals t i (answers.OutOfLimits x) e no_unbounded no_limit_hit =
    absurd (none_some _ (sym no_limit_hit ∙ ap limit_hit_reason (local_seen_at locals t i (answers.OutOfLimits x) e)))

left_none : (a b : Option NoSize) → or_else a b ≡ None → a ≡ None
left_none None b e = refl
left_none (Some w) b e = absurd (none_some w (sym e))

right_none : (a b : Option NoSize) → or_else a b ≡ None → b ≡ None
right_none None b e = e
right_none (Some w) b e = absurd (none_some w (sym e))

-- if the first reason among places is none, no place has a reason
pub each_none : (reason : Local → Option NoSize) (local : Locals) (result_variables : List ResultVariable) → first_reason reason local result_variables ≡ None
    → All (λ m. reason (local m.rule m.place) ≡ None) result_variables
each_none reason local [] e = All-nil (λ (m : ResultVariable). reason (local m.rule m.place) ≡ None)
each_none reason local (m ∷ result_variables) e =
    All-cons (λ (m : ResultVariable). reason (local m.rule m.place) ≡ None) m result_variables
    (left_none (reason (local m.rule m.place)) (first_reason reason local result_variables) e)
    (each_none reason local result_variables (right_none (reason (local m.rule m.place)) (first_reason reason local result_variables) e))

-- if all places have side bounds, no side of them is unbounded
pub none_unbounded : (local : Locals) (result_variables : List ResultVariable) → lacks_side_bounds local result_variables ≡ None → All (λ m. unbounded_reason (local m.rule m.place) ≡ None) result_variables
none_unbounded local result_variables e =
    each_none unbounded_reason local result_variables (left_none (first_reason unbounded_reason local result_variables) (first_reason limit_hit_reason local result_variables) e)

-- if all places have side bounds, none of their questions hit a limit
pub none_hit_limit : (local : Locals) (result_variables : List ResultVariable) → lacks_side_bounds local result_variables ≡ None → All (λ m. limit_hit_reason (local m.rule m.place) ≡ None) result_variables
none_hit_limit local result_variables e =
    each_none limit_hit_reason local result_variables (right_none (first_reason unbounded_reason local result_variables) (first_reason limit_hit_reason local result_variables) e)

-- the side bounds of a single member, or of a loop
pub side_bounds_as : (local : Locals) (result_variables : List ResultVariable) (looping : Bool) (members : List code.Member) (a : SideBounds) → lacks_side_bounds local result_variables ≡ None
    → AreMembers local result_variables (map member_of members) → IsSideBoundsOf members looping a → AreSideBounds local result_variables looping a
side_bounds_as local result_variables looping members (side_bounds.Lacking entry) armed are h = absurd h
side_bounds_as local result_variables looping members (side_bounds.Alone m) armed are (straight, only) =
    (armed, straight, subst (λ (ms : List code.Member). AreMembers local result_variables (map member_of ms)) only are)
side_bounds_as local result_variables looping members (side_bounds.Loop ms) armed are (turns, all) =
    (armed, turns, subst (λ (xs : List code.Member). AreMembers local result_variables (map member_of xs)) (sym all) are)

-- the row of answers that was read, and none past the end
row_read : (lists : List (Vec LocalAnswer Global)) (u : ℕ) (row : Vec LocalAnswer Global) → u < length lists → row ≡ get_or lists u row
    → slice_index_or (answer_lists lists) u [] ≡ row.items
row_read [] u row l e = absurd (omega (arith, l))
row_read (r ∷ lists) zero row l e = ap (λ (v : Vec LocalAnswer Global). v.items) (sym e)
row_read (r ∷ lists) (suc u) row l e = row_read lists u row (omega (arith, l)) e

row_short : (lists : List (Vec LocalAnswer Global)) (u : ℕ) (j : ℕ) (a : LocalAnswer) → slice_get (slice_index_or (answer_lists lists) u []) j ≡ Some a
    → u < length lists
row_short [] u j a e = absurd (none_some a e)
row_short (r ∷ lists) zero j a e = omega arith
row_short (r ∷ lists) (suc u) j a e = let h = row_short lists u j a e in omega (arith, h)

got_short : (xs : List LocalAnswer) (j : ℕ) (a : LocalAnswer) → slice_get xs j ≡ Some a → j < length xs
got_short [] j a e = absurd (none_some a e)
got_short (x ∷ xs) zero a e = omega arith
got_short (x ∷ xs) (suc j) a e = let h = got_short xs j a e in omega (arith, h)

got_read : (xs : List LocalAnswer) (j : ℕ) (a x : LocalAnswer) → slice_get xs j ≡ Some a → x ≡ get_or xs j x → slice_get xs j ≡ Some x
got_read [] j a x e h = absurd (none_some a e)
got_read (y ∷ xs) zero a x e h = ap (λ (z : LocalAnswer). Some z) (sym h)
got_read (y ∷ xs) (suc j) a x e h = got_read xs j a x e h

-- where a place has an answer, it is in the row of its rule
pub answer_row : (lists : List (Vec LocalAnswer Global)) (t i : ℕ) (a : LocalAnswer) → answer_in (answer_lists lists) t i ≡ Some a
    → (1 ≤ t) × (t - 1 < length lists) × (1 ≤ i)
answer_row lists t zero a e = absurd (none_some a e)
answer_row lists zero (suc j) a e = absurd (none_some a e)
answer_row lists (suc u) (suc j) a e = let h = row_short lists u j a e in (omega arith, omega (arith, h), omega arith)

-- where a place has an answer, it is within the row of its rule
pub answer_place : (lists : List (Vec LocalAnswer Global)) (t i : ℕ) (a : LocalAnswer) (row : Vec LocalAnswer Global)
    → answer_in (answer_lists lists) t i ≡ Some a → row ≡ get_or lists (t - 1) row → i - 1 < length row.items
answer_place lists t zero a row e h = absurd (none_some a e)
answer_place lists zero (suc j) a row e h = absurd (none_some a e)
answer_place lists (suc u) (suc j) a row e h =
    let one : suc u - 1 ≡ u = omega arith in
    let read = row_read lists u row (row_short lists u j a e) (h ∙ ap (λ (n : ℕ). get_or lists n row) one) in
    let low = got_short row.items j a (ap (λ (xs : List LocalAnswer). slice_get xs j) (sym read) ∙ e) in
    omega (arith, low)

-- if a place has an answer, it is the one in the row of its rule
pub answer_read : (lists : List (Vec LocalAnswer Global)) (t i : ℕ) (a x : LocalAnswer) (row : Vec LocalAnswer Global)
    → answer_in (answer_lists lists) t i ≡ Some a → row ≡ get_or lists (t - 1) row → x ≡ get_or row.items (i - 1) x
    → answer_in (answer_lists lists) t i ≡ Some x
answer_read lists t zero a x row e h k = absurd (none_some a e)
answer_read lists zero (suc j) a x row e h k = absurd (none_some a e)
answer_read lists (suc u) (suc j) a x row e h k =
    let one : suc u - 1 ≡ u = omega arith in
    let two : suc j - 1 ≡ j = omega arith in
    let read = row_read lists u row (row_short lists u j a e) (h ∙ ap (λ (n : ℕ). get_or lists n row) one) in
    ap (λ (xs : List LocalAnswer). slice_get xs j) read
    ∙ got_read row.items j a x (ap (λ (xs : List LocalAnswer). slice_get xs j) (sym read) ∙ e)
    (k ∙ ap (λ (n : ℕ). get_or row.items n x) two)

-- a property of all places is one of the place that was read
pub of_result_variables : (P : ResultVariable → Type 0) (result_variables : List code_result_variable.ResultVariable) (i : ℕ) (d : code_result_variable.ResultVariable) → All P (map result_variable_of result_variables) → i < length result_variables
    → P (result_variable_of (get_or result_variables i d))
of_result_variables P result_variables i d h l =
    subst P (get_or-map result_variable_of result_variables i d (result_variable_of d) l) (h i (result_variable_of d) (omega (arith, l, length-map result_variables result_variable_of)))

-- a reason as an entry of the code, if there is one
pub lacks_reason : (o : Option NoSize) (e : SizeEntry) → Some (size_of e) ≡ option_map Unsized o
    → (why : NoSize) × (o ≡ Some why) × (size_of e ≡ Unsized why)
lacks_reason None e h = absurd (none_some (size_of e) (sym h))
lacks_reason (Some why) e h = let same : size_of e ≡ Unsized why = cc in (why, refl, same)

-- if the code gives no reason, there is none
pub lacks_not : (o : Option NoSize) → None ≡ option_map Unsized o → o ≡ None
lacks_not None h = refl
lacks_not (Some why) h = absurd (none_some (Unsized why) h)

-- members of a list of one place are one member
pub lone_members : (local : Locals) (result_variables : List ResultVariable) (looping : Bool) (members : List code.Member) → IsLone looping result_variables
    → AreMembers local result_variables (map member_of members) → looping ≡ false → length members ≡ 1
lone_members local result_variables looping members lone are straight =
    let one = lone.only straight in
    let long : length (map (λ m. m.result_variable) (map member_of members)) ≡ length (one.0 ∷ []) =
    ap (λ (ss : List ResultVariable). length ss) (sym are.result_variables_are ∙ one.1) in
    omega (arith, long, length-map (map member_of members) (λ m. m.result_variable), length-map members member_of)
