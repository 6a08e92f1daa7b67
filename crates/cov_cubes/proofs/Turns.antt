-- The turns of the loops over a Space.
use Rattle.std.proofs.Common.{◌≡◌, map, ap₂, ℕ, suc, ◌<◌, ◌+◌, ◌-◌, ◌++◌, List, [], ◌∷◌, Bool, false, length, take, get_or, Result, Ok, Err, OnOk, Option, Some, None, refl, sym, ◌∙◌, ap, subst, arith, length-append}
use Rattle.std.specs.Result.{is_err}
use Rattle.std.proofs.Math.Path.{fun_ext}
use Rattle.std.proofs.lemmas.List.FromFn.{length-map-range_with_len}
use Rattle.cov_classes.specs.Cubes.{values}
use Rattle.cov_space.specs.Operations.{constant_set}
use Rattle.cov_cubes.specs.Steps.{rests, alike, equal_sets}
use Rattle.cov_cubes.proofs.Equal.{map_last}
use Rattle.cov_space.specs.declared.layer.Layer.TheVariants.{V}
use Rattle.cov_space.specs.Sets.{SpaceOf, set_at}
use Rattle.cov_space.specs.Answers.{PutsSet}
use Rattle.cov_space.specs.Steps.{with_more}
use Rattle.cov_space.proofs.Calls.{at_front, at_behind, push_behind, settled_behind}
use Rattle.cov_fields.specs.declared.field.Field.{Field}
use Rattle.cov_fields.specs.Fields.{field_of}
use Rattle.cov_fields.specs.Sets.{rest_set, IsEmpty}
use Rattle.cov_cubes.specs.declared.variable.Variable.{Variable}
use Rattle.cov_cubes.specs.Rests.{IsVariable, IsLeast, AllEmpty, PutsLeast}

-- a call that did not fail
pub not_failed : {X E : Type 0} (r : Result X E) (b : Bool) (P : Type 0) → b ≡ is_err r → b ≡ false → OnOk r P → P
not_failed (Ok x) b P e f h = h
not_failed (Err x) b P e f h = cc

-- the last set is empty, or not
pub empty_here : (old s : SpaceOf) (set : List Bool) (n : ℕ) → length old.sets ≡ n → s ≡ with_more old (set ∷ []) → IsEmpty s.levels (set_at s.sets n) → IsEmpty old.levels set
empty_here old s set n count is h =
    subst (IsEmpty old.levels) (at_behind old s (set ∷ []) n 0 is (omega arith)) (subst (λ m. IsEmpty m (set_at s.sets n)) (ap (λ (z : SpaceOf). z.levels) is) h)

pub here_empty : (old s : SpaceOf) (set : List Bool) (n : ℕ) → length old.sets ≡ n → s ≡ with_more old (set ∷ []) → IsEmpty old.levels set → IsEmpty s.levels (set_at s.sets n)
here_empty old s set n count is h =
    subst (λ m. IsEmpty m (set_at s.sets n)) (sym (ap (λ (z : SpaceOf). z.levels) is)) (subst (IsEmpty old.levels) (sym (at_behind old s (set ∷ []) n 0 is (omega arith))) h)

-- ---- the least value

-- the least value of a variable is fixed
pub record Fixes (old new : SpaceOf) (f : Field) (set : List Bool) (n v : ℕ) : Type 0 where
  pub is : new ≡ with_more old (rest_set old.levels f v set ∷ [])
  pub least : IsLeast old.levels f set n v

pub fixes : (old s s1 s2 : SpaceOf) (ns : List ℕ) (x v n : ℕ) (y : Variable) (set : List Bool) (o : Option ℕ) → length old.sets ≡ n → s ≡ with_more old (set ∷ []) → IsVariable ns x y
    → o ≡ Some v → PutsLeast s s1 y.field (set_at s.sets n) y.size o → s2 ≡ record s1 { sets = take n s1.sets ++ set_at s1.sets (length s1.sets - 1) ∷ [] }
    → Fixes old s2 (field_of ns x V) set (get_or ns x 0) v
fixes old s s1 s2 ns x v n y set o count is variable found puts settles =
    let levels : s.levels ≡ old.levels = ap (λ (z : SpaceOf). z.levels) is in
    let at : set_at s.sets n ≡ set = at_behind old s (set ∷ []) n 0 is (omega arith) in
    let p : PutsLeast s s1 y.field (set_at s.sets n) y.size (Some v) = subst (PutsLeast s s1 y.field (set_at s.sets n) y.size) found puts in
    let rest : List Bool = rest_set s.levels y.field v (set_at s.sets n) in
    let same : rest_set s.levels y.field v (set_at s.sets n) ≡ rest_set old.levels (field_of ns x V) v set =
    ap (λ m. rest_set m y.field v (set_at s.sets n)) levels ∙ ap (λ (f : Field). rest_set old.levels f v (set_at s.sets n)) variable.field ∙ ap (rest_set old.levels (field_of ns x V) v) at in
    record {
      is = settled_behind old s1 s2 (set ∷ rest ∷ []) n 1 (push_behind old s s1 (set ∷ []) rest is p.1) count refl settles ∙ ap (λ (z : List Bool). with_more old (z ∷ [])) same;
      least = subst (λ (f : Field). IsLeast old.levels f set (get_or ns x 0) v) variable.field
          (subst (λ m. IsLeast old.levels y.field set m v) variable.size
          (subst (λ (z : List Bool). IsLeast old.levels y.field z y.size v) at
          (subst (λ m. IsLeast m y.field (set_at s.sets n) y.size v) levels p.0)));
    }

-- no value of a variable can be fixed
pub fixes_none : (old s s1 : SpaceOf) (ns : List ℕ) (x n : ℕ) (y : Variable) (set : List Bool) (o : Option ℕ) → length old.sets ≡ n → s ≡ with_more old (set ∷ []) → IsVariable ns x y
    → o ≡ None → PutsLeast s s1 y.field (set_at s.sets n) y.size o → AllEmpty old.levels (field_of ns x V) set (get_or ns x 0)
fixes_none old s s1 ns x n y set o count is variable found puts =
    let levels : s.levels ≡ old.levels = ap (λ (z : SpaceOf). z.levels) is in
    let at : set_at s.sets n ≡ set = at_behind old s (set ∷ []) n 0 is (omega arith) in
    let p : PutsLeast s s1 y.field (set_at s.sets n) y.size None = subst (PutsLeast s s1 y.field (set_at s.sets n) y.size) found puts in
    subst (λ (f : Field). AllEmpty old.levels f set (get_or ns x 0)) variable.field
    (subst (λ m. AllEmpty old.levels y.field set m) variable.size
    (subst (λ (z : List Bool). AllEmpty old.levels y.field z y.size) at
    (subst (λ m. AllEmpty m y.field (set_at s.sets n) y.size) levels p.0)))

-- ---- the rest sets of all values

pub rests_turn : (old s s1 : SpaceOf) (f : Field) (k v : ℕ) → k < length old.sets → s ≡ with_more old (map (λ w. rest_set old.levels f w (set_at old.sets k)) (values v))
    → PutsSet s s1 (rest_set s.levels f v (set_at s.sets k)) → s1 ≡ with_more old (map (λ w. rest_set old.levels f w (set_at old.sets k)) (values (v + 1)))
rests_turn old s s1 f k v lt is puts =
    let r : ℕ → List Bool = λ w. rest_set old.levels f w (set_at old.sets k) in
    let next : suc v ≡ v + 1 = omega arith in
    let own : 0 + v ≡ v = omega arith in
    push_behind old s s1 (map r (values v)) _ is puts
    ∙ ap (λ m. with_more old (map r (values v) ++ rest_set m f v (set_at s.sets k) ∷ [])) (ap (λ (z : SpaceOf). z.levels) is)
    ∙ ap (λ (z : List Bool). with_more old (map r (values v) ++ rest_set old.levels f v z ∷ [])) (at_front old s (map r (values v)) k is lt)
    ∙ ap (λ w. with_more old (map r (values v) ++ r w ∷ [])) (sym own)
    ∙ ap (with_more old) (sym (map_last r 0 v) ∙ ap (λ w. map r (values w)) next)

pub length-rests : (levels : ℕ) (f : Field) (set : List Bool) (size : ℕ) → length (rests levels f set size) ≡ size + 1
length-rests levels f set size =
    let m : length (map (λ v. rest_set levels f v set) (values size)) ≡ size = length-map-range_with_len (λ v. rest_set levels f v set) 0 size in
    length-append (map (λ v. rest_set levels f v set) (values size)) (constant_set levels false ∷ []) ∙ ap (λ k. k + 1) m

-- sets that stand behind others are alike where they are alike by themselves
pub alike_behind : (old s : SpaceOf) (more : List (List Bool)) (n : ℕ) → s ≡ with_more old more → length old.sets ≡ n → alike s.sets n ≡ alike more 0
alike_behind old s more n is count =
    let at : (v : ℕ) → set_at s.sets (n + v) ≡ set_at more (0 + v) = λ v. let own : v ≡ 0 + v = omega arith in at_behind old s more (n + v) v is (omega arith) ∙ ap (set_at more) own in
    fun_ext (λ v. fun_ext (λ w. ap₂ equal_sets (at v) (at w)))
