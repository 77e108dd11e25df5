-- Lists whose elements another list has.
use Rattle.std.proofs.Common.{◌++◌, List, map, arith, ap, ◌∙◌}
use Rattle.std.specs.List.{All, Contains}
use Rattle.std.proofs.lemmas.List.{get_or-map, length-map}
use Rattle.std.proofs.lemmas.List.Elements.{All-append, All-weaker, All-contains, All-contains_itself, All-map}
use Rattle.std.proofs.lemmas.List.Elements.{Contains-append_left, Contains-append_right}

-- an element of the first list is one of the second
pub element_of_superset : {X : Type 0} (xs ys : List X) (x : X) → All (Contains ys) xs → Contains xs x → Contains ys x
element_of_superset xs ys x h member = All-contains (Contains ys) xs x h member

-- the elements of a list that another one has are in each list that has those of that one
pub subset_transitive : {X : Type 0} (xs ys zs : List X) → All (Contains ys) xs → All (Contains zs) ys → All (Contains zs) xs
subset_transitive xs ys zs h k = All-weaker (Contains ys) (Contains zs) (λ x member. element_of_superset ys zs x k member) xs h

-- a list has its parts
pub left_part : {X : Type 0} (xs ys : List X) → All (Contains (xs ++ ys)) xs
left_part xs ys =
    All-weaker (Contains xs) (Contains (xs ++ ys)) (λ x member. Contains-append_left xs ys x member) xs
    (All-contains_itself xs)

pub right_part : {X : Type 0} (xs ys : List X) → All (Contains (xs ++ ys)) ys
right_part xs ys =
    All-weaker (Contains ys) (Contains (xs ++ ys)) (λ y member. Contains-append_right xs ys y member) ys
    (All-contains_itself ys)

-- two parts may change places
pub append_swapped : {X : Type 0} (front middle rest : List X)
    → All (Contains (front ++ (middle ++ rest))) (middle ++ (front ++ rest))
append_swapped front middle rest =
    let all = front ++ (middle ++ rest) in
    let behind = right_part front (middle ++ rest) in
    All-append (Contains all) middle (front ++ rest) (subset_transitive middle (middle ++ rest) all (left_part middle rest) behind)
    (All-append (Contains all) front rest (left_part front (middle ++ rest))
    (subset_transitive rest (middle ++ rest) all (right_part middle rest) behind))

-- the same part may stand before both lists
pub append_same_front : {X : Type 0} (front xs ys : List X) → All (Contains ys) xs → All (Contains (front ++ ys)) (front ++ xs)
append_same_front front xs ys h =
    All-append (Contains (front ++ ys)) front xs (left_part front ys) (subset_transitive xs ys (front ++ ys) h (right_part front ys))

-- what a function gives for the elements of a list is in what it gives for those of a list that has them
contains_mapped : {X Y : Type 0} (f : X → Y) (ys : List X) (x : X) → Contains ys x → Contains (map f ys) (f x)
contains_mapped f ys x (k, low, is) =
    (k, omega (arith, low, length-map ys f), get_or-map f ys k x (f x) low ∙ ap f is)

pub map_subset : {X Y : Type 0} (f : X → Y) (xs ys : List X) → All (Contains ys) xs → All (Contains (map f ys)) (map f xs)
map_subset f xs ys h =
    All-map (Contains (map f ys)) f xs
    (All-weaker (Contains ys) (λ x. Contains (map f ys) (f x)) (λ x member. contains_mapped f ys x member) xs h)
