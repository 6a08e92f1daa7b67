-- Printed states.
use Rattle.std.proofs.Common.{◌≡◌, ℕ, suc, ◌+◌, ◌<◌, IsTrue, List, [], ◌∷◌, ◌++◌, length, map, drop, get_or, codes, Some, refl, sym, ap, subst, ◌∙◌, arith}
use Rattle.std.specs.Prelude.{nat_lt, slice_get}
use Rattle.std.proofs.lemmas.Bool.{ltb-true, and_parts}
use Rattle.std.proofs.lemmas.List.{drop_more, length-drop, get_or-map}
use Rattle.std.proofs.lemmas.Option.{get_or_from_slice_get, slice_get_within}
use Rattle.cov_syntax.specs.declared.tree.Value.{Value}
use Rattle.cov_syntax.specs.Tokens.{Text}
use Rattle.cov_model.specs.declared.model.Var.{Var}
use Rattle.cov_model.specs.States.{fits}
use Rattle.cov_show.specs.Cubes.{Shown, value_text, shown, comma_joined, or_word}
use Rattle.cov_show.specs.States.{state_part, state_parts, state_text}
use Rattle.cov_show.proofs.CubeLemmas.{marked, marked_put}

-- the parts of the variables of a model
abbrev pub parts_of : List Text → List Var → List ℕ → List Text
parts_of names xs s = state_parts (map (shown names) xs) s

fits_length : (xs : List Var) (s : List ℕ) → IsTrue (fits xs s) → length xs ≡ length s
fits_length [] [] h = refl
fits_length [] (i ∷ s) h = cc
fits_length (x ∷ xs) [] h = cc
fits_length (x ∷ xs) (i ∷ s) h = ap (λ (k : ℕ). suc k) (fits_length xs s (and_parts (nat_lt i (length x.values)) (fits xs s) h).1)

-- there is a place for each variable
pub place_there : (xs : List Var) (s : List ℕ) (i : ℕ) → IsTrue (fits (drop i xs) (drop i s)) → i < length xs → i < length s
place_there xs s i h g = let same = fits_length (drop i xs) (drop i s) h in omega (arith, length-drop i xs, length-drop i s)

-- what stands at a variable
pub record StateAt (xs : List Var) (s : List ℕ) (i : ℕ) (x : Var) (k : ℕ) : Type 0 where
  pub vars : drop i xs ≡ x ∷ drop (i + 1) xs
  pub places : drop i s ≡ k ∷ drop (i + 1) s
  pub below : k < length x.values
  pub rest : IsTrue (fits (drop (i + 1) xs) (drop (i + 1) s))

pub state_at : (ys xs : List Var) (s : List ℕ) (i : ℕ) (x : Var) (k : ℕ) → ys ≡ xs → IsTrue (fits (drop i xs) (drop i s)) → i < length ys
    → x ≡ get_or ys i x → slice_get s i ≡ Some k → StateAt xs s i x k
state_at ys xs s i x k same h within is got =
    let there : i < length xs = subst (λ (zs : List Var). i < length zs) same within in
    let read : x ≡ get_or xs i x = subst (λ (zs : List Var). x ≡ get_or zs i x) same is in
    let vars : drop i xs ≡ x ∷ drop (i + 1) xs = drop_more xs i x there ∙ ap (λ (y : Var). y ∷ drop (i + 1) xs) (sym read) in
    let places : drop i s ≡ k ∷ drop (i + 1) s =
    drop_more s i k (slice_get_within s i k got) ∙ ap (λ (j : ℕ). j ∷ drop (i + 1) s) (get_or_from_slice_get s i k k got) in
    let both : IsTrue (fits (x ∷ drop (i + 1) xs) (k ∷ drop (i + 1) s)) = rw (vars, places) at h in
    let p = and_parts (nat_lt k (length x.values)) (fits (drop (i + 1) xs) (drop (i + 1) s)) both in
    record { vars = vars; places = places; below = ltb-true k (length x.values) p.0; rest = p.1 }

-- the part at a variable stands behind the mark
pub part_put : (names : List Text) (xs : List Var) (s : List ℕ) (i : ℕ) (x : Var) (k : ℕ) (into mark before after whole : Text) → StateAt xs s i x k
    → before ≡ into ++ mark → after ≡ before ++ state_part (shown names x) k
    → into ++ marked mark (parts_of names (drop i xs) (drop i s)) ≡ whole
    → after ++ marked (codes ",") (parts_of names (drop (i + 1) xs) (drop (i + 1) s)) ≡ whole
part_put names xs s i x k into mark before after whole a e f so_far =
    let rest : List Text = parts_of names (drop (i + 1) xs) (drop (i + 1) s) in
    let next : parts_of names (drop i xs) (drop i s) ≡ state_part (shown names x) k ∷ rest =
    ap (λ (ys : List Var). parts_of names ys (drop i s)) a.vars ∙ ap (λ (t : List ℕ). parts_of names (x ∷ drop (i + 1) xs) t) a.places in
    marked_put (state_part (shown names x) k) rest into mark before after whole e f (ap (λ (ts : List Text). into ++ marked mark ts) (sym next) ∙ so_far)

-- the text of a value, among the texts of all
pub value_shown : (names : List Text) (values : List Value) (k : ℕ) (v : Value) → slice_get values k ≡ Some v
    → get_or (map (value_text names) values) k [] ≡ value_text names v
value_shown names values k v got =
    get_or-map (value_text names) values k v [] (slice_get_within values k v got) ∙ ap (value_text names) (get_or_from_slice_get values k v v got)

-- the word for no parts
some_joined : (t : Text) (ts : List Text) → 0 < length t → or_word (comma_joined (t ∷ ts)) ≡ comma_joined (t ∷ ts)
some_joined [] ts h = absurd (omega arith)
some_joined (b ∷ t) [] h = refl
some_joined (b ∷ t) (u ∷ ts) h = refl

some_part : (name text : Text) → 0 < length (name ++ codes "=" ++ text)
some_part [] text = omega arith
some_part (b ∷ name) text = omega arith

pub or_all-parts : (xs : List Shown) (s : List ℕ) → or_word (comma_joined (state_parts xs s)) ≡ state_text xs s
or_all-parts [] s = refl
or_all-parts (x ∷ xs) [] = refl
or_all-parts (x ∷ xs) (i ∷ s) = some_joined (state_part x i) (state_parts xs s) (some_part x.name (get_or x.values i []))
