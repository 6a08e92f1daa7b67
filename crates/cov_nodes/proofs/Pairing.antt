-- Tables of operators, and what they say at two numbers.
use Rattle.std.proofs.Common.{◌≡◌, ℕ, zero, suc, ◌+◌, ◌*◌, ◌<◌, ◌++◌, List, [], ◌∷◌, false, Option, None, length, get_or, take, sym, ◌∙◌, ap, ap₂, arith}
use Rattle.std.specs.List.{flat_map}
use Rattle.std.proofs.lemmas.List.{append-nil, get_or_append_left, get_or-append-add, get_or-map, length-append, length-map, take_more}
use Rattle.std.proofs.lemmas.List.Concat.{flat_map-append}
use Rattle.std.proofs.lemmas.Option.{unwrap_or-slice_get}
use Rattle.cov_syntax.specs.declared.tree.Value.{Value}
use Rattle.cov_syntax.specs.declared.tree.Value.TheVariants as v
use Rattle.cov_syntax.specs.declared.tree.Op2.{Op2}
use Rattle.cov_model.specs.Values.{item}
use Rattle.cov_families.specs.Families.{target}
use Rattle.cov_nodes.specs.Choices.{result_of}
use Rattle.cov_nodes.specs.Numbering.{number_in}
use Rattle.cov_nodes.specs.Tables.{numbers_of, numbers_of_pairs}

flat_map_next : {A B : Type 0} (f : A → List B) (xs : List A) (i : ℕ) (d : A) → i < length xs → flat_map f (take (i + 1) xs) ≡ flat_map f (take i xs) ++ f (get_or xs i d)
flat_map_next f xs i d lt =
    ap (flat_map f) (take_more xs i d lt) ∙ flat_map-append f (take i xs) (get_or xs i d ∷ []) ∙ ap (λ l. flat_map f (take i xs) ++ l) (append-nil (f (get_or xs i d)))

-- the rows of one value more
pub pairs_more : (op : Op2) (xs ys results : List Value) (targets new : List (Option ℕ)) (i : ℕ) (x : Value) → i < length xs → x ≡ get_or xs i x
    → targets ≡ numbers_of_pairs op (take i xs) ys results → new ≡ targets ++ numbers_of (λ y. result_of op x y) ys results → new ≡ numbers_of_pairs op (take (i + 1) xs) ys results
pairs_more op xs ys results targets new i x lt at is more =
    let row : Value → List (Option ℕ) = λ z. numbers_of (λ y. result_of op z y) ys results in
    more ∙ ap₂ (λ l k. l ++ k) is (ap row at) ∙ sym (flat_map_next row xs i x lt)

-- the number of what is made of a value
pub number_of_item : (made : Value → Value) (xs results : List Value) (i : ℕ) → i < length xs → target (numbers_of made xs results) i ≡ number_in results (made (item xs i))
number_of_item made xs results i lt =
    get_or-map (λ x. number_in results (made x)) xs i (v.Bool false) None lt
    ∙ ap (λ x. number_in results (made x)) (sym (unwrap_or-slice_get xs i (v.Bool false)))

-- rows of one length, end to end
row_item : {A B : Type 0} (f : A → List B) (m : ℕ) (d : B) (e : A) → ((x : A) → length (f x) ≡ m) → (xs : List A) (i j : ℕ) → i < length xs → j < m → get_or (flat_map f xs) (i * m + j) d ≡ get_or (f (get_or xs i e)) j d
row_item f m d e long [] i j lt in_row = absurd (omega arith)
row_item f m d e long (x ∷ xs) zero j lt in_row =
    let len : length (f x) ≡ m = long x in
    let at : 0 * m + j ≡ j = omega arith in
    ap (λ k. get_or (f x ++ flat_map f xs) k d) at ∙ get_or_append_left (f x) (flat_map f xs) d j (omega arith)
row_item f m d e long (x ∷ xs) (suc i) j lt in_row =
    let len : length (f x) ≡ m = long x in
    let at : suc i * m + j ≡ length (f x) + (i * m + j) = omega arith in
    ap (λ k. get_or (f x ++ flat_map f xs) k d) at
    ∙ get_or-append-add (f x) (flat_map f xs) (i * m + j) d
    ∙ row_item f m d e long xs i j (omega arith) in_row

-- the number of what is made of two values
pub number_of_pair : (op : Op2) (xs ys results : List Value) (i j : ℕ) → i < length xs → j < length ys
    → target (numbers_of_pairs op xs ys results) (i * length ys + j) ≡ number_in results (result_of op (item xs i) (item ys j))
number_of_pair op xs ys results i j lt in_row =
    row_item (λ x. numbers_of (λ y. result_of op x y) ys results) (length ys) None (v.Bool false) (λ x. length-map ys (λ y. number_in results (result_of op x y))) xs i j lt in_row
    ∙ number_of_item (λ y. result_of op (get_or xs i (v.Bool false)) y) ys results j in_row
    ∙ ap (λ x. number_in results (result_of op x (item ys j))) (sym (unwrap_or-slice_get xs i (v.Bool false)))

pub length-pairs : (op : Op2) (xs ys results : List Value) → length (numbers_of_pairs op xs ys results) ≡ length xs * length ys
length-pairs op [] ys results = omega arith
length-pairs op (x ∷ xs) ys results =
    let row : Value → List (Option ℕ) = λ z. numbers_of (λ y. result_of op z y) ys results in
    let own : length (row x) ≡ length ys = length-map ys (λ y. number_in results (result_of op x y)) in
    let rest : length (flat_map row xs) ≡ length xs * length ys = length-pairs op xs ys results in
    length-append (row x) (flat_map row xs) ∙ omega arith
