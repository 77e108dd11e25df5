-- How a look-up in a list of files proceeds.
use Rattle.std.proofs.Common.{◌≡◌, ℕ, suc, ◌+◌, ◌<◌, ◌≤◌, ◌∙◌, ap, sym, cond, true, false, List, [], ◌∷◌, length, drop}
use Rattle.std.proofs.Common.{get_or, drop-cons, add-one, Some, None, string_bytes, nat_eq}
use Rattle.std.proofs.lemmas.Bool.{false_from_ne_true}
use Rattle.std.proofs.lemmas.List.{drop_all}
use Rattle.std.proofs.lemmas.Slice.Eq.{bytes_eq-Decides}
use Rattle.std.specs.Cmp.Lexicographic.{slice_cmp, pointwise, nat_list_cmp_total, nat_list_eq_equiv, texts_ties}
use Rattle.std.specs.Ordering.{nat_cmp}
use Rattle.std.specs.FinMap.{get, get-insert, get-empty}
use Rattle.outside_io.specs.declared.memory_file.MemoryFile.{MemoryFile}
use Rattle.outside_io.specs.MemoryFiles.{files_of, FirstCounts}

-- no file is found among none
pub get-none : (name : List ℕ) → get (files_of []) name ≡ None
get-none name = get-empty (slice_cmp nat_cmp) name

-- a file is found if it is the first with this name; else the search goes on after it
pub get-files_of : (file : MemoryFile) (rest : List MemoryFile) (name : List ℕ)
    → get (files_of (file ∷ rest)) name ≡ cond (pointwise nat_eq name (string_bytes file.name)) (Some file.bytes.items) (get (files_of rest) name)
get-files_of file rest name =
    get-insert nat_list_cmp_total (files_of rest) (string_bytes file.name) file.bytes.items name
    ∙ ap (λ b. cond b (Some file.bytes.items) (get (files_of rest) name)) (sym (texts_ties name (string_bytes file.name)))

-- the search ends at a file of this name
pub get-found : (files : List MemoryFile) (i : ℕ) (file : MemoryFile) (name : List ℕ) → i < length files
    → file ≡ get_or files i file
    → pointwise nat_eq name (string_bytes file.name) ≡ true → get (files_of (drop i files)) name ≡ Some file.bytes.items
get-found files i file name within is same =
    let begins : drop i files ≡ file ∷ drop (suc i) files = drop-cons files i file within ∙ ap (λ f. f ∷ drop (suc i) files) (sym is) in
    ap (λ fs. get (files_of fs) name) begins
    ∙ get-files_of file (drop (suc i) files) name
    ∙ ap (λ b. cond b (Some file.bytes.items) (get (files_of (drop (suc i) files)) name)) same

-- the search goes on after a file of another name
pub get-passed : (files : List MemoryFile) (i : ℕ) (file : MemoryFile) (name : List ℕ) → i < length files
    → file ≡ get_or files i file
    → pointwise nat_eq name (string_bytes file.name) ≡ false → get (files_of (drop i files)) name ≡ get (files_of (drop (i + 1) files)) name
get-passed files i file name within is other =
    let begins : drop i files ≡ file ∷ drop (suc i) files = drop-cons files i file within ∙ ap (λ f. f ∷ drop (suc i) files) (sym is) in
    ap (λ fs. get (files_of fs) name) begins
    ∙ get-files_of file (drop (suc i) files) name
    ∙ ap (λ b. cond b (Some file.bytes.items) (get (files_of (drop (suc i) files)) name)) other
    ∙ ap (λ j. get (files_of (drop j files)) name) (sym (add-one i))

-- the search ends where no file is left
pub get-ended : (files : List MemoryFile) (i : ℕ) (name : List ℕ) → length files ≤ i
    → get (files_of (drop i files)) name ≡ None
get-ended files i name past = ap (λ fs. get (files_of fs) name) (drop_all i files past) ∙ get-none name

-- of several files of one name the first counts
pub first_counts : FirstCounts
first_counts = record {
  at_its_name = λ first rest. get-files_of first rest (string_bytes first.name)
      ∙ ap (λ b. cond b (Some first.bytes.items) (get (files_of rest) (string_bytes first.name))) (nat_list_eq_equiv.refl (string_bytes first.name));
  at_others = λ first rest name other. get-files_of first rest name
      ∙ ap (λ b. cond b (Some first.bytes.items) (get (files_of rest) name)) (false_from_ne_true _ (λ same. other ((bytes_eq-Decides name (string_bytes first.name)).0 same)));
  in_none = get-none;
}
