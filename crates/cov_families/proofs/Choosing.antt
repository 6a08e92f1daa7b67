-- The rows of one set or of another, by a third.
use Rattle.std.proofs.Common.{◌≡◌, ℕ, ◌<◌, ◌+◌, ◌-◌, ◌&&◌, ◌||◌, not, if◌then◌else◌, List, [], ◌∷◌, ◌++◌, Bool, true, false, length, take, Option, refl, sym, ◌∙◌, ap, ap₂, arith}
use Rattle.std.proofs.Math.Bool.{or-false}
use Rattle.cov_space.specs.Sets.{SpaceOf, lies, set_at}
use Rattle.cov_space.specs.Operations.{intersection, union, complement}
use Rattle.cov_space.specs.Answers.{PutsSet}
use Rattle.cov_space.specs.Steps.{with_more}
use Rattle.cov_space.proofs.Sets.{values_same, lies_values}
use Rattle.cov_space.proofs.Members.{lies-intersection, lies-complement}
use Rattle.cov_space.proofs.Calls.{at_front, at_behind, settled_behind}
use Rattle.cov_fields.specs.declared.field.Field.{Field}
use Rattle.cov_fields.specs.Fields.{held}
use Rattle.cov_fields.proofs.Steps.{puts_last}
use Rattle.cov_families.specs.Families.{names, if_set, choice_set}
use Rattle.cov_families.specs.Steps.{named_set}
use Rattle.cov_families.proofs.Gathering.{push_same, two_at}

-- the rows of the second set in the first, and the rows outside the first
pub if_second : (old s1 s2 : SpaceOf) (g t : ℕ) → g < length old.sets → PutsSet old s1 (intersection old.levels (set_at old.sets g) (set_at old.sets t)) → PutsSet s1 s2 (complement s1.levels (set_at s1.sets g))
    → s2 ≡ with_more old (intersection old.levels (set_at old.sets g) (set_at old.sets t) ∷ complement old.levels (set_at old.sets g) ∷ [])
if_second old s1 s2 g t lt one two =
    let a : List Bool = intersection old.levels (set_at old.sets g) (set_at old.sets t) in
    push_same old s1 s2 (a ∷ []) _ (complement old.levels (set_at old.sets g)) one.is two
    (ap (λ k. complement k (set_at s1.sets g)) (ap (λ (z : SpaceOf). z.levels) one.is) ∙ ap (complement old.levels) (at_front old s1 (a ∷ []) g one.is lt))

-- and the rows of the third set there
pub if_third : (old s2 s3 : SpaceOf) (n g t o : ℕ) → n ≡ length old.sets → o < length old.sets
    → s2 ≡ with_more old (intersection old.levels (set_at old.sets g) (set_at old.sets t) ∷ complement old.levels (set_at old.sets g) ∷ [])
    → PutsSet s2 s3 (intersection s2.levels (set_at s2.sets (n + 1)) (set_at s2.sets o))
    → s3 ≡ with_more old (intersection old.levels (set_at old.sets g) (set_at old.sets t) ∷ complement old.levels (set_at old.sets g) ∷ intersection old.levels (complement old.levels (set_at old.sets g)) (set_at old.sets o) ∷ [])
if_third old s2 s3 n g t o count lt is puts =
    let a : List Bool = intersection old.levels (set_at old.sets g) (set_at old.sets t) in
    let b : List Bool = complement old.levels (set_at old.sets g) in
    push_same old s2 s3 (a ∷ b ∷ []) _ (intersection old.levels b (set_at old.sets o)) is puts
    (two_at old s2 intersection (a ∷ b ∷ []) (n + 1) o b (set_at old.sets o) is (at_behind old s2 (a ∷ b ∷ []) (n + 1) 1 is (omega arith)) (at_front old s2 (a ∷ b ∷ []) o is lt))

-- a test by cases
by_cases : (g t o : Bool) → ((g && t) || (not g && o)) ≡ (if g then t else o)
by_cases true t o = or-false t
by_cases false t o = refl

if_union : (levels : ℕ) (g t o : List Bool) → union levels (intersection levels g t) (intersection levels (complement levels g) o) ≡ if_set levels g t o
if_union levels g t o =
    values_same levels _ (λ row. if lies g row then lies t row else lies o row) (λ row len.
    ap₂ ◌||◌ (lies-intersection levels g t row len) (lies-intersection levels (complement levels g) o row len ∙ ap (λ b. b && lies o row) (lies-complement levels g row len))
    ∙ by_cases (lies g row) (lies t row) (lies o row))

-- the union of both is what was asked for
pub if_made : (old s3 s4 s5 : SpaceOf) (n g t o : ℕ) → n ≡ length old.sets
    → s3 ≡ with_more old (intersection old.levels (set_at old.sets g) (set_at old.sets t) ∷ complement old.levels (set_at old.sets g) ∷ intersection old.levels (complement old.levels (set_at old.sets g)) (set_at old.sets o) ∷ [])
    → PutsSet s3 s4 (union s3.levels (set_at s3.sets n) (set_at s3.sets (n + 2))) → s5 ≡ record s4 { sets = take n s4.sets ++ set_at s4.sets (length s4.sets - 1) ∷ [] }
    → PutsSet old s5 (if_set old.levels (set_at old.sets g) (set_at old.sets t) (set_at old.sets o))
if_made old s3 s4 s5 n g t o count is puts settle =
    let a : List Bool = intersection old.levels (set_at old.sets g) (set_at old.sets t) in
    let b : List Bool = complement old.levels (set_at old.sets g) in
    let d : List Bool = intersection old.levels b (set_at old.sets o) in
    let is4 : s4 ≡ with_more old (a ∷ b ∷ d ∷ union old.levels a d ∷ []) =
    push_same old s3 s4 (a ∷ b ∷ d ∷ []) _ (union old.levels a d) is puts
    (two_at old s3 union (a ∷ b ∷ d ∷ []) n (n + 2) a d is (at_behind old s3 (a ∷ b ∷ d ∷ []) n 0 is (omega arith)) (at_behind old s3 (a ∷ b ∷ d ∷ []) (n + 2) 2 is (omega arith))) in
    puts_last old s5 _ (settled_behind old s4 s5 (a ∷ b ∷ d ∷ union old.levels a d ∷ []) n 3 is4 (sym count) refl settle
    ∙ ap (λ (z : List Bool). with_more old (z ∷ [])) (if_union old.levels (set_at old.sets g) (set_at old.sets t) (set_at old.sets o)))

-- ---- a choice of two numbers

named_if : (b : Bool) (x y : Option ℕ) (k : ℕ) → (if b then names x k else names y k) ≡ names (if b then x else y) k
named_if true x y k = refl
named_if false x y k = refl

-- the rows of two numbers, and of them those that a set asks for
pub choice_made : (old s1 s2 s3 s4 : SpaceOf) (f : Field) (x y : Option ℕ) (n k : ℕ) → n ≡ length old.sets → k < length old.sets → PutsSet old s1 (named_set old.levels f x) → PutsSet s1 s2 (named_set s1.levels f y)
    → PutsSet s2 s3 (if_set s2.levels (set_at s2.sets k) (set_at s2.sets n) (set_at s2.sets (n + 1))) → s4 ≡ record s3 { sets = take n s3.sets ++ set_at s3.sets (length s3.sets - 1) ∷ [] }
    → PutsSet old s4 (choice_set old.levels f x y (set_at old.sets k))
choice_made old s1 s2 s3 s4 f x y n k count lt one two three settle =
    let p : List Bool = named_set old.levels f x in
    let q : List Bool = named_set old.levels f y in
    let g : List Bool = set_at old.sets k in
    let is2 : s2 ≡ with_more old (p ∷ q ∷ []) = push_same old s1 s2 (p ∷ []) _ q one.is two (ap (λ m. named_set m f y) (ap (λ (z : SpaceOf). z.levels) one.is)) in
    let made : if_set s2.levels (set_at s2.sets k) (set_at s2.sets n) (set_at s2.sets (n + 1)) ≡ choice_set old.levels f x y g =
    ap (λ m. if_set m (set_at s2.sets k) (set_at s2.sets n) (set_at s2.sets (n + 1))) (ap (λ (z : SpaceOf). z.levels) is2)
    ∙ ap (λ (z : List Bool). if_set old.levels z (set_at s2.sets n) (set_at s2.sets (n + 1))) (at_front old s2 (p ∷ q ∷ []) k is2 lt)
    ∙ ap₂ (if_set old.levels g) (at_behind old s2 (p ∷ q ∷ []) n 0 is2 (omega arith)) (at_behind old s2 (p ∷ q ∷ []) (n + 1) 1 is2 (omega arith))
    ∙ values_same old.levels _ (λ row. names (if lies g row then x else y) (held f row)) (λ row len.
    ap₂ (λ b c. if lies g row then b else c) (lies_values old.levels (λ r. names x (held f r)) row len) (lies_values old.levels (λ r. names y (held f r)) row len)
    ∙ named_if (lies g row) x y (held f row)) in
    puts_last old s4 _ (settled_behind old s3 s4 (p ∷ q ∷ choice_set old.levels f x y g ∷ []) n 2 (push_same old s2 s3 (p ∷ q ∷ []) _ _ is2 three made) (sym count) refl settle)
