-- Printed cubes.
use Rattle.std.proofs.Common.{◌≡◌, ℕ, zero, suc, ◌+◌, ◌<◌, ◌≤◌, Bool, true, false, Decides, ◌&&◌, if◌then◌else◌, IsTrue, List, [], ◌∷◌, ◌++◌, length, map, drop, get_or, codes, refl, sym, ap, subst, ◌∙◌, append_assoc, arith}
use Rattle.std.specs.Prelude.{nat_le, nat_lt, slice_get, Some}
use Rattle.std.specs.List.{range_with_len}
use Rattle.std.specs.Str.{bytes_eq}
use Rattle.std.proofs.lemmas.List.{drop_more, append-nil, length-map, get_or-map}
use Rattle.std.proofs.lemmas.Bool.{ltb-true, leb-true, and_parts}
use Rattle.std.proofs.lemmas.Option.{get_or_from_slice_get, slice_get_within}
use Rattle.std.proofs.lemmas.List.FromFn.{length-range_with_len}
use Rattle.std.proofs.lemmas.Slice.Eq.{bytes_eq-Decides}
use Rattle.cov_syntax.specs.declared.tree.Value.{Value}
use Rattle.cov_syntax.specs.Tokens.{Text}
use Rattle.cov_model.specs.declared.model.Var.{Var}
use Rattle.cov_show.specs.Cubes.{are_ascending, is_class, is_cube, counts, Shown, value_text, shown, comma_joined, class_text, part, parts, or_all, or_word}

-- ---- texts with a mark before each

-- the first text after this mark, and each other one after a comma
abbrev pub marked : Text → List Text → Text
marked mark [] = []
marked mark (t ∷ ts) = (mark ++ t) ++ marked (codes ",") ts

pub marked-joined : (ts : List Text) → marked [] ts ≡ comma_joined ts
marked-joined [] = refl
marked-joined (t ∷ []) = append-nil t
marked-joined (t ∷ u ∷ ts) = ap (λ (z : Text). t ++ 44 ∷ z) (marked-joined (u ∷ ts))

pub marked_put : (t : Text) (ts : List Text) (into mark before after whole : Text) → before ≡ into ++ mark → after ≡ before ++ t
    → into ++ marked mark (t ∷ ts) ≡ whole → after ++ marked (codes ",") ts ≡ whole
marked_put t ts into mark before after whole e f so_far =
    ap (λ (z : Text). z ++ marked (codes ",") ts) (f ∙ ap (λ (z : Text). z ++ t) e)
    ∙ regrouped into mark t (marked (codes ",") ts)
    ∙ so_far
  where
    regrouped : (a b c d : Text) → ((a ++ b) ++ c) ++ d ≡ a ++ ((b ++ c) ++ d)
    regrouped a b c d = simp append_assoc

pub marked_next : (ts : List Text) (i : ℕ) (t into mark before after whole : Text) → i < length ts → t ≡ get_or ts i []
    → before ≡ into ++ mark → after ≡ before ++ t → into ++ marked mark (drop i ts) ≡ whole → after ++ marked (codes ",") (drop (i + 1) ts) ≡ whole
marked_next ts i t into mark before after whole h is e f so_far =
    let left : drop i ts ≡ t ∷ drop (i + 1) ts = drop_more ts i [] h ∙ ap (λ (x : Text). x ∷ drop (i + 1) ts) (sym is) in
    let now : into ++ marked mark (t ∷ drop (i + 1) ts) ≡ whole = subst (λ (xs : List Text). into ++ marked mark xs ≡ whole) left so_far in
    marked_put t (drop (i + 1) ts) into mark before after whole e f now

-- ---- classes

-- the first place, and those behind it
ascend_parts : (low n v : ℕ) (c : List ℕ) → IsTrue (are_ascending low n (v ∷ c)) → (low ≤ v) × (v < n) × IsTrue (are_ascending (v + 1) n c)
ascend_parts low n v c h =
    let p = and_parts (nat_le low v && nat_lt v n) (are_ascending (v + 1) n c) h in
    let q = and_parts (nat_le low v) (nat_lt v n) p.0 in
    (leb-true low v q.0, ltb-true v n q.1, p.1)

pub place_in : (low n : ℕ) (c : List ℕ) (i : ℕ) → IsTrue (are_ascending low n c) → i < length c → get_or c i 0 < n
place_in low n [] i h g = absurd (omega arith)
place_in low n (v ∷ c) zero h g = (ascend_parts low n v c h).1
place_in low n (v ∷ c) (suc i) h g = place_in (v + 1) n c i (ascend_parts low n v c h).2 (omega arith)

pub class_ascends : (n : ℕ) (c : List ℕ) → IsTrue (is_class n c) → IsTrue (are_ascending 0 n c)
class_ascends n [] h = cc
class_ascends n (v ∷ c) h = h

-- ascending places are no more than fit, and as many as fit are all
fill : (low n : ℕ) (c : List ℕ) → IsTrue (are_ascending low n c) → low ≤ n → length c + low ≤ n
fill low n [] h g = omega arith
fill low n (v ∷ c) h g =
    let p = ascend_parts low n v c h in
    let more : low ≤ v = p.0 in
    let less : v < n = p.1 in
    let rest : length c + (v + 1) ≤ n = fill (v + 1) n c p.2 (omega arith) in
    omega arith

all_places : (low n count : ℕ) (c : List ℕ) → IsTrue (are_ascending low n c) → length c ≡ count → low + count ≡ n → c ≡ range_with_len low count
all_places low n zero [] h e s = refl
all_places low n (suc count) [] h e s = absurd (omega arith)
all_places low n zero (v ∷ c) h e s = absurd (omega arith)
all_places low n (suc count) (v ∷ c) h e s =
    let p = ascend_parts low n v c h in
    let more : low ≤ v = p.0 in
    let less : v < n = p.1 in
    let rest : length c + (v + 1) ≤ n = fill (v + 1) n c p.2 (omega arith) in
    let same : v ≡ low = omega arith in
    let tail : c ≡ range_with_len (v + 1) count = all_places (v + 1) n count c p.2 (omega arith) (omega arith) in
    ap (λ (k : ℕ). k ∷ c) same ∙ ap (λ (l : List ℕ). low ∷ l) (tail ∙ ap (λ (k : ℕ). range_with_len (k + 1) count) same)

same_bytes : (xs ys : List ℕ) → xs ≡ ys → bytes_eq xs ys ≡ true
same_bytes xs ys e = by (bytes_eq xs ys) (bytes_eq-Decides xs ys)
  where
    by : (b : Bool) → Decides b (xs ≡ ys) → b ≡ true
    by b d = d.1 e

other_bytes : (xs ys : List ℕ) → (xs ≡ ys → ⊥) → bytes_eq xs ys ≡ false
other_bytes xs ys e = by (bytes_eq xs ys) (bytes_eq-Decides xs ys)
  where
    by : (b : Bool) → Decides b (xs ≡ ys) → b ≡ false
    by true d = absurd (e (d.0 refl))
    by false d = refl

-- the test whether a class is the whole list, by lengths
pub whole_class : (x : Shown) (c : List ℕ) → IsTrue (is_class (length x.values) c) → length x.values ≤ length c → part x c ≡ []
whole_class x c h g =
    let n = length x.values in
    let up : IsTrue (are_ascending 0 n c) = class_ascends n c h in
    let most : length c + 0 ≤ n = fill 0 n c up (omega arith) in
    let all : c ≡ range_with_len 0 n = all_places 0 n n c up (omega arith) (omega arith) in
    ap (λ (b : Bool). if b then [] else (x.name ++ codes "=" ++ class_text x.values c) ∷ []) (same_bytes c (range_with_len 0 n) all)

pub other_class : (x : Shown) (c : List ℕ) → length c < length x.values → part x c ≡ (x.name ++ codes "=" ++ class_text x.values c) ∷ []
other_class x c g =
    let n = length x.values in
    ap (λ (b : Bool). if b then [] else (x.name ++ codes "=" ++ class_text x.values c) ∷ [])
    (other_bytes c (range_with_len 0 n) (λ e. let same = ap (λ (l : List ℕ). length l) e ∙ length-range_with_len 0 n in absurd (omega arith)))

-- ---- cubes

-- the parts of the variables of a model
abbrev pub parts_of : List Text → List Var → List (List ℕ) → List Text
parts_of names xs cube = parts (map (shown names) xs) cube

-- what stands at a variable
pub record CubeAt (xs : List Var) (cube : List (List ℕ)) (i : ℕ) (x : Var) (c : List ℕ) : Type 0 where
  pub vars : drop i xs ≡ x ∷ drop (i + 1) xs
  pub classes : drop i cube ≡ c ∷ drop (i + 1) cube
  pub class : IsTrue (is_class (length x.values) c)
  pub rest : IsTrue (is_cube (counts (drop (i + 1) xs)) (drop (i + 1) cube))

pub cube_at : (xs : List Var) (cube : List (List ℕ)) (i : ℕ) (x : Var) (c : List ℕ) → IsTrue (is_cube (counts (drop i xs)) (drop i cube)) → i < length xs
    → x ≡ get_or xs i x → slice_get cube i ≡ Some c → CubeAt xs cube i x c
cube_at xs cube i x c h within is got =
    let vars : drop i xs ≡ x ∷ drop (i + 1) xs = drop_more xs i x within ∙ ap (λ (y : Var). y ∷ drop (i + 1) xs) (sym is) in
    let classes : drop i cube ≡ c ∷ drop (i + 1) cube =
    drop_more cube i c (slice_get_within cube i c got) ∙ ap (λ (l : List ℕ). l ∷ drop (i + 1) cube) (get_or_from_slice_get cube i c c got) in
    let both : IsTrue (is_cube (counts (x ∷ drop (i + 1) xs)) (c ∷ drop (i + 1) cube)) = rw (vars, classes) at h in
    let p = and_parts (is_class (length x.values) c) (is_cube (counts (drop (i + 1) xs)) (drop (i + 1) cube)) both in
    record { vars = vars; classes = classes; class = p.0; rest = p.1 }

-- the part at a variable, and those after it
pub parts_at : (names : List Text) (xs : List Var) (cube : List (List ℕ)) (i : ℕ) (x : Var) (c : List ℕ) → CubeAt xs cube i x c
    → parts_of names (drop i xs) (drop i cube) ≡ part (shown names x) c ++ parts_of names (drop (i + 1) xs) (drop (i + 1) cube)
parts_at names xs cube i x c a =
    ap (λ (ys : List Var). parts_of names ys (drop i cube)) a.vars
    ∙ ap (λ (cs : List (List ℕ)). parts_of names (x ∷ drop (i + 1) xs) cs) a.classes

values_shown : (names : List Text) (values : List Value) → length (map (value_text names) values) ≡ length values
values_shown names [] = refl
values_shown names (v ∷ values) = ap (λ (k : ℕ). suc k) (values_shown names values)

-- a variable whose class is its whole list is passed over
pub part_left_out : (names : List Text) (xs : List Var) (cube : List (List ℕ)) (i : ℕ) (x : Var) (c : List ℕ) (into mark whole : Text) → CubeAt xs cube i x c
    → length x.values ≤ length c → into ++ marked mark (parts_of names (drop i xs) (drop i cube)) ≡ whole
    → into ++ marked mark (parts_of names (drop (i + 1) xs) (drop (i + 1) cube)) ≡ whole
part_left_out names xs cube i x c into mark whole a h so_far =
    let same : length (shown names x).values ≡ length x.values = values_shown names x.values in
    let class : IsTrue (is_class (length (shown names x).values) c) = rw same a.class in
    let none : part (shown names x) c ≡ [] = whole_class (shown names x) c class (omega arith) in
    let next : parts_of names (drop i xs) (drop i cube) ≡ parts_of names (drop (i + 1) xs) (drop (i + 1) cube) =
    parts_at names xs cube i x c a ∙ ap (λ (ts : List Text). ts ++ parts_of names (drop (i + 1) xs) (drop (i + 1) cube)) none in
    ap (λ (ts : List Text). into ++ marked mark ts) (sym next) ∙ so_far

-- and any other has its part behind the mark
pub part_put : (names : List Text) (xs : List Var) (cube : List (List ℕ)) (i : ℕ) (x : Var) (c : List ℕ) (into mark before after whole : Text) → CubeAt xs cube i x c
    → length c < length x.values → before ≡ into ++ mark → after ≡ before ++ ((shown names x).name ++ codes "=" ++ class_text (shown names x).values c)
    → into ++ marked mark (parts_of names (drop i xs) (drop i cube)) ≡ whole
    → after ++ marked (codes ",") (parts_of names (drop (i + 1) xs) (drop (i + 1) cube)) ≡ whole
part_put names xs cube i x c into mark before after whole a h e f so_far =
    let same : length (shown names x).values ≡ length x.values = values_shown names x.values in
    let rest : List Text = parts_of names (drop (i + 1) xs) (drop (i + 1) cube) in
    let text : Text = (shown names x).name ++ codes "=" ++ class_text (shown names x).values c in
    let one : part (shown names x) c ≡ text ∷ [] = other_class (shown names x) c (omega arith) in
    let next : parts_of names (drop i xs) (drop i cube) ≡ text ∷ rest = parts_at names xs cube i x c a ∙ ap (λ (ts : List Text). ts ++ rest) one in
    let now : into ++ marked mark (text ∷ rest) ≡ whole = ap (λ (ts : List Text). into ++ marked mark ts) (sym next) ∙ so_far in
    marked_next (text ∷ rest) 0 text into mark before after whole (omega arith) refl e f now

-- ---- values

pub value_at : (names : List Text) (values : List Value) (class : List ℕ) (i : ℕ) (d : Value) → IsTrue (is_class (length values) class) → i < length class
    → value_text names (get_or values (get_or class i 0) d) ≡ get_or (map (λ i. get_or (map (value_text names) values) i []) class) i []
value_at names values class i d h g =
    let within : get_or class i 0 < length values = place_in 0 (length values) class i (class_ascends (length values) class h) g in
    sym (get_or-map (λ i. get_or (map (value_text names) values) i []) class i 0 [] g ∙ get_or-map (value_text names) values (get_or class i 0) d [] within)

pub texts_length : (names : List Text) (values : List Value) (class : List ℕ) (i : ℕ) → i < length class → i < length (map (λ i. get_or (map (value_text names) values) i []) class)
texts_length names values class i h = rw length-map h

-- ---- the word for no parts

some_joined : (p : Text) (ps : List Text) → 0 < length p → 0 < length (comma_joined (p ∷ ps))
some_joined [] ps h = absurd (omega arith)
some_joined (b ∷ p) [] h = omega arith
some_joined (b ∷ p) (q ∷ ps) h = omega arith

or_word_some : (t : Text) → 0 < length t → or_word t ≡ t
or_word_some [] h = absurd (omega arith)
or_word_some (b ∷ t) h = refl

some_text : (name rest : Text) → 0 < length (name ++ codes "=" ++ rest)
some_text [] rest = omega arith
some_text (b ∷ name) rest = omega arith

some_part : (xs : List Shown) (cube : List (List ℕ)) (p : Text) (ps : List Text) → parts xs cube ≡ p ∷ ps → 0 < length p
some_part [] cube p ps e = cc
some_part (x ∷ xs) [] p ps e = cc
some_part (x ∷ xs) (c ∷ cs) p ps e = by (bytes_eq c (range_with_len 0 (length x.values))) e (some_part xs cs p ps)
  where
    by : (b : Bool) → (if b then [] else (x.name ++ codes "=" ++ class_text x.values c) ∷ []) ++ parts xs cs ≡ p ∷ ps → (parts xs cs ≡ p ∷ ps → 0 < length p) → 0 < length p
    by true e f = f e
    by false e f =
        let same : x.name ++ codes "=" ++ class_text x.values c ≡ p = cc in
        subst (λ (t : Text). 0 < length t) same (some_text x.name (class_text x.values c))

pub or_all-word : (xs : List Shown) (cube : List (List ℕ)) → or_word (comma_joined (parts xs cube)) ≡ or_all (parts xs cube)
or_all-word xs cube = by (parts xs cube) (some_part xs cube)
  where
    by : (ts : List Text) → ((p : Text) (ps : List Text) → ts ≡ p ∷ ps → 0 < length p) → or_word (comma_joined ts) ≡ or_all ts
    by [] f = refl
    by (p ∷ ps) f = or_word_some (comma_joined (p ∷ ps)) (some_joined p ps (f p ps refl))

-- what stands at a variable, from what was read there
pub cube_read : (ys xs : List Var) (cube : List (List ℕ)) (i : ℕ) (x : Var) (c d : List ℕ) → ys ≡ xs → IsTrue (is_cube (counts (drop i xs)) (drop i cube)) → i < length ys
    → x ≡ get_or ys i x → slice_get cube i ≡ Some d → c ≡ d → CubeAt xs cube i x c
cube_read ys xs cube i x c d same h within is got e =
    let there : i < length xs = subst (λ (zs : List Var). i < length zs) same within in
    let read : x ≡ get_or xs i x = subst (λ (zs : List Var). x ≡ get_or zs i x) same is in
    cube_at xs cube i x c h there read (got ∙ ap (λ (l : List ℕ). Some l) (sym e))
