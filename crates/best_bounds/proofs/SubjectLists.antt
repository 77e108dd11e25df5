-- Lists of statements that keep the subjects of other ones.
use Rattle.std.proofs.Common.{◌≡◌, ◌++◌, ◌⊎◌, inl, inr, List, [], ◌∷◌, map, sym, ap, subst, arith}
use Rattle.std.specs.List.{All, Contains}
use Rattle.std.proofs.lemmas.List.{map-append, append_assoc}
use Rattle.std.proofs.lemmas.List.Elements.{All-cons, All-contains_itself}
use Rattle.program_claims.specs.Claims.{Stated}
use Rattle.best_bounds.specs.Subjects.{Subject, subject_of, KeepsSubjects}
use Rattle.best_bounds.proofs.Within.{subset_transitive, right_part, append_swapped, append_same_front, map_subset}

-- the subjects of statements
abbrev subjects : List Stated → List Subject
subjects stated = map subject_of stated

-- a list keeps its own subjects, and those of a list that it is equal to
pub keeps_own : (all : List Stated) → KeepsSubjects all all
keeps_own all = record { among = All-contains_itself all; on_each = All-contains_itself (subjects all) }

keeps_same : (all some : List Stated) → all ≡ some → KeepsSubjects all some
keeps_same all some e = subst (λ (ss : List Stated). KeepsSubjects all ss) e (keeps_own all)

-- what keeps the subjects of a list that keeps those of another one keeps those of that one
keeps_then : (all some few : List Stated) → KeepsSubjects all some → KeepsSubjects some few → KeepsSubjects all few
keeps_then all some few h k = record {
  among = subset_transitive few some all k.among h.among;
  on_each = subset_transitive (subjects all) (subjects some) (subjects few) h.on_each k.on_each;
}

-- two parts may change places
keeps_swapped : (front middle rest : List Stated)
    → KeepsSubjects (front ++ (middle ++ rest)) (middle ++ (front ++ rest))
keeps_swapped front middle rest = record {
  among = append_swapped front middle rest;
  on_each = map_subset subject_of (front ++ (middle ++ rest)) (middle ++ (front ++ rest)) (append_swapped middle front rest);
}

-- the same part may stand before both
keeps_behind : (front all some : List Stated) → KeepsSubjects all some → KeepsSubjects (front ++ all) (front ++ some)
keeps_behind front all some h = record {
  among = append_same_front front some all h.among;
  on_each = subst (λ (xs : List Subject). All (Contains (subjects (front ++ some))) xs)
      (sym (map-append subject_of front all))
      (subst (λ (ys : List Subject). All (Contains ys) (subjects front ++ subjects all))
      (sym (map-append subject_of front some))
      (append_same_front (subjects front) (subjects all) (subjects some) h.on_each));
}

-- one of two statements on the same subject stands for both
pub keeps_one : (s rival x : Stated) (rest : List Stated) → subject_of s ≡ subject_of rival → (x ≡ s) ⊎ (x ≡ rival)
    → KeepsSubjects (s ∷ (rival ∷ rest)) (x ∷ rest)
keeps_one s rival x rest same one = record {
  among = All-cons (Contains all) x rest (member one) (right_part (s ∷ (rival ∷ [])) rest);
  on_each = All-cons (Contains (subjects (x ∷ rest))) (subject_of s) (subject_of rival ∷ subjects rest)
      (0, omega arith, of_first one)
      (All-cons (Contains (subjects (x ∷ rest))) (subject_of rival) (subjects rest) (0, omega arith, of_second one)
      (right_part (subject_of x ∷ []) (subjects rest)));
}
  where
    all : List Stated
    all = s ∷ (rival ∷ rest)

    member : (x ≡ s) ⊎ (x ≡ rival) → Contains (s ∷ (rival ∷ rest)) x
    member (inl e) = (0, omega arith, sym e)
    member (inr e) = (1, omega arith, sym e)

    of_first : (x ≡ s) ⊎ (x ≡ rival) → subject_of x ≡ subject_of s
    of_first (inl e) = ap subject_of e
    of_first (inr e) = subst (λ (v : Subject). subject_of x ≡ v) (sym same) (ap subject_of e)

    of_second : (x ≡ s) ⊎ (x ≡ rival) → subject_of x ≡ subject_of rival
    of_second (inl e) = subst (λ (v : Subject). subject_of x ≡ v) same (ap subject_of e)
    of_second (inr e) = ap subject_of e

-- what is done, what is left of the first list behind one statement, and what is left of the second, after some of the
-- second list and then one statement, which stands for that one and for what is left out
pub keeps_step : (all done left done_then left_then others known : List Stated) (s x : Stated)
    → KeepsSubjects all (done ++ ((s ∷ known) ++ left)) → done_then ++ left_then ≡ done ++ left
    → KeepsSubjects (s ∷ left_then) (x ∷ others)
    → KeepsSubjects all ((done_then ++ x ∷ []) ++ (known ++ others))
keeps_step all done left done_then left_then others known s x h moved one =
    let rest = s ∷ known in
    let first = keeps_then all (done ++ (rest ++ left)) (rest ++ (done ++ left)) h (keeps_swapped done rest left) in
    let second = subst (λ (ss : List Stated). KeepsSubjects all (rest ++ ss)) (sym moved) first in
    let third = keeps_then all (rest ++ (done_then ++ left_then)) (done_then ++ (rest ++ left_then)) second
    (keeps_swapped rest done_then left_then) in
    let chosen = keeps_then (rest ++ left_then) (known ++ (s ∷ left_then)) (x ∷ (known ++ others))
    (keeps_swapped (s ∷ []) known left_then)
    (keeps_then (known ++ (s ∷ left_then)) (known ++ (x ∷ others)) (x ∷ (known ++ others))
    (keeps_behind known (s ∷ left_then) (x ∷ others) one) (keeps_swapped known (x ∷ []) others)) in
    let fourth = keeps_then all (done_then ++ (rest ++ left_then)) (done_then ++ (x ∷ (known ++ others))) third
    (keeps_behind done_then (rest ++ left_then) (x ∷ (known ++ others)) chosen) in
    subst (λ (ss : List Stated). KeepsSubjects all ss) (sym (append_assoc done_then (x ∷ []) (known ++ others))) fourth

-- what is done, and what is left of the second list, behind which nothing is left of the first
pub keeps_end : (all done left whole : List Stated) → KeepsSubjects all (done ++ ([] ++ left)) → whole ≡ done ++ left
    → KeepsSubjects all whole
keeps_end all done left whole h e = keeps_then all (done ++ left) whole h (keeps_same (done ++ left) whole (sym e))
