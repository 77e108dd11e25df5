-- Tables of the edges of a list of pairs.
use Rattle.std.proofs.Common.{◌≡◌, ◌↔◌, ℕ, ◌<◌, List, Vec, length, map, get_or}
use Rattle.std.specs.declared.alloc.Global.{Global}
use Rattle.std.proofs.lemmas.List.Elements.{All-from_get_or, Contains-get_or}
use Rattle.its_graph.specs.Groups.{values_in, values_of, Joins, IsPair, swap}
use Rattle.its_graph.specs.Components.{IsMutual}
use Rattle.its_graph.specs.Classes.{AreTables, AreLeaders}
use Rattle.its_graph.proofs.PairLists.{Pair, AreWithin, joins-pairs, swap-listed, swap-from, pair-within}
use Rattle.its_graph.proofs.Routes.{path-map}

-- The tables made of the edges and of the reversed edges are those of the graph.
pub tables-of : (n : ℕ) (edges : List Pair) (next previous : List (Vec ℕ Global)) → AreWithin n edges → length next ≡ n → length previous ≡ n
    → ((a : ℕ) → values_in next a ≡ values_of edges a) → ((a : ℕ) → values_in previous a ≡ values_of (map swap edges) a) → AreTables n next previous
tables-of n edges next previous within next_size previous_size next_values previous_values = record {
  next_size = next_size;
  previous_size = previous_size;
  next_within = λ a. All-from_get_or (λ (b : ℕ). b < n) (values_in next a) 0 (λ i low. (pair-within n edges a (get_or (values_in next a) i 0) within (next_is a (get_or (values_in next a) i 0) (Contains-get_or (values_in next a) i 0 low))).1);
  previous_within = λ a. All-from_get_or (λ (b : ℕ). b < n) (values_in previous a) 0 (λ i low. (pair-within n edges (get_or (values_in previous a) i 0) a within (previous_is a (get_or (values_in previous a) i 0) (Contains-get_or (values_in previous a) i 0 low))).0);
  opposite = λ a b. (λ h. (joins-pairs previous (map swap edges) previous_values b a).1 (swap-listed edges a b (next_is a b h)), λ h. (joins-pairs next edges next_values a b).1 (previous_is b a h));
}
  where
    next_is : (a b : ℕ) → Joins next a b → IsPair edges a b
    next_is a b h = (joins-pairs next edges next_values a b).0 h

    previous_is : (a b : ℕ) → Joins previous a b → IsPair edges b a
    previous_is a b h = swap-from edges b a ((joins-pairs previous (map swap edges) previous_values a b).0 h)

-- The leaders of a graph are the leaders of a graph with the same edges.
pub leaders-by : (Edge Other : ℕ → ℕ → Type 0) → ((a b : ℕ) → Edge a b ↔ Other a b) → (n : ℕ) (leaders : List ℕ) → AreLeaders Edge n leaders → AreLeaders Other n leaders
leaders-by Edge Other same n leaders l = record {
  size = l.size;
  within = l.within;
  own = λ a low. mutual-by Edge Other (λ x y. (same x y).0) a (get_or leaders a 0) (l.own a low);
  same = λ a b la lb m. l.same a b la lb (mutual-by Other Edge (λ x y. (same x y).1) a b m);
  least = λ a b la lb m. l.least a b la lb (mutual-by Other Edge (λ x y. (same x y).1) a b m);
}
  where
    mutual-by : (E F : ℕ → ℕ → Type 0) → ((a b : ℕ) → E a b → F a b) → (a b : ℕ) → IsMutual E a b → IsMutual F a b
    mutual-by E F f a b m = record { onward = path-map E F f a b m.onward; back = path-map E F f b a m.back }
