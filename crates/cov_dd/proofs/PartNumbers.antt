-- The parts of a question by numbers, so that at most so many are different.
use Rattle.std.proofs.Common.{◌≡◌, ℕ, zero, suc, ◌<◌, ◌≤◌, ◌+◌, ◌*◌, ◌||◌, List, [], ◌∷◌, Bool, true, false, cond, length, map, take, get_or, count_by, refl, sym, ◌∙◌, ap, subst, arith, inl, inr}
use Rattle.std.specs.List.{range_with_len}
use Rattle.std.proofs.Math.Nat.{suc-mul, mul-le-mul_right}
use Rattle.std.proofs.lemmas.Bool.{cases_order}
use Rattle.std.proofs.lemmas.List.{take_all}
use Rattle.std.proofs.lemmas.List.Sums.{sum_by-cons}
use Rattle.std.proofs.lemmas.List.FromFn.{length-map-range_with_len, get_or-map-range_with_len}
use Rattle.cov_dd.specs.declared.node.Ref.{Ref}
use Rattle.cov_dd.specs.declared.node.Ref.TheVariants.{Constant, Inner}
use Rattle.cov_dd.specs.declared.node.Part.{Part}
use Rattle.cov_dd.specs.declared.operations.Op.{Op}
use Rattle.cov_dd.specs.declared.questions.Question.{Question}
use Rattle.cov_dd.specs.declared.questions.Question.TheVariants.{Apply, Negate, Restrict}
use Rattle.cov_dd.specs.Nodes.{TableOf, node_at, rank, IsPlaced, IsTable}
use Rattle.cov_dd.specs.Reached.{Reaches}
use Rattle.cov_dd.specs.Reached.Reaches.{here, by_low, by_high}
use Rattle.cov_dd.specs.Questions.{IsAsked, IsPart}
use Rattle.cov_dd.specs.Memo.{Counted, question_at}
use Rattle.cov_dd.specs.Size.{same_ref, is_part_by, all_refs, size, parts_of}
use Rattle.cov_dd.proofs.Pigeonhole.{pigeonhole}
use Rattle.cov_dd.proofs.ReachLemmas.{reach_rank}

-- ---- the test of a part

or_left : (a b : Bool) → a ≡ true → (a || b) ≡ true
or_left a b e = rw e refl

or_right : (a b : Bool) → b ≡ true → (a || b) ≡ true
or_right true b e = refl
or_right false b e = e

same_itself : (f : Ref) → same_ref f f ≡ true
same_itself (Constant true) = refl
same_itself (Constant false) = refl
same_itself (Inner i) = grind arith

part_itself : (n : ℕ) (nodes : List Part) (f : Ref) → is_part_by n nodes f f ≡ true
part_itself n nodes (Constant b) = same_itself (Constant b)
part_itself zero nodes (Inner i) = same_itself (Inner i)
part_itself (suc n) nodes (Inner i) = or_left (same_ref (Inner i) (Inner i)) _ (same_itself (Inner i))

part_reached : (levels : ℕ) (nodes : List Part) → IsTable levels nodes → (n : ℕ) (f g : Ref) → Reaches nodes f g → rank f ≤ n → rank f ≤ length nodes → is_part_by n nodes f g ≡ true
part_reached levels nodes t n _ _ (here f) le live = part_itself n nodes f
part_reached levels nodes t zero _ _ (by_low i g r) le live = absurd (omega arith)
part_reached levels nodes t zero _ _ (by_high i g r) le live = absurd (omega arith)
part_reached levels nodes t (suc n) _ _ (by_low i g r) le live =
    let p : IsPlaced levels nodes i = t.placed i (omega arith) in
    let before : rank (node_at nodes i).low ≤ i = p.low_before in
    or_right (same_ref (Inner i) g) _ (or_left (is_part_by n nodes (node_at nodes i).low g) _ (part_reached levels nodes t n (node_at nodes i).low g r (omega arith) (omega arith)))
part_reached levels nodes t (suc n) _ _ (by_high i g r) le live =
    let p : IsPlaced levels nodes i = t.placed i (omega arith) in
    let before : rank (node_at nodes i).high ≤ i = p.high_before in
    or_right (same_ref (Inner i) g) _ (or_right (is_part_by n nodes (node_at nodes i).low g) _ (part_reached levels nodes t n (node_at nodes i).high g r (omega arith) (omega arith)))

-- ---- the number of a part: how many parts stand before it

-- the places of those that pass are told apart by how many passed before
count_strict : {X : Type 0} (p : X → Bool) (d : X) (xs : List X) (k l : ℕ) → k < l → k < length xs → p (get_or xs k d) ≡ true → count_by p (take k xs) < count_by p (take l xs)
count_strict p d [] k l lt within passed = absurd (omega arith)
count_strict p d (x ∷ xs) k zero lt within passed = absurd (omega arith)
count_strict p d (x ∷ xs) zero (suc l) lt within passed =
    let first : cond {A = ℕ} (p x) 1 0 ≡ 1 = ap (λ b. cond {A = ℕ} b 1 0) passed in
    let whole : count_by p (x ∷ take l xs) ≡ cond (p x) 1 0 + count_by p (take l xs) = sum_by-cons (λ y. cond (p y) 1 0) x (take l xs) in
    let some : 0 < count_by p (x ∷ take l xs) = omega arith in
    some
count_strict p d (x ∷ xs) (suc k) (suc l) lt within passed =
    let rest : count_by p (take k xs) < count_by p (take l xs) = count_strict p d xs k l (omega arith) (omega arith) passed in
    let one : count_by p (x ∷ take k xs) ≡ cond (p x) 1 0 + count_by p (take k xs) = sum_by-cons (λ y. cond (p y) 1 0) x (take k xs) in
    let two : count_by p (x ∷ take l xs) ≡ cond (p x) 1 0 + count_by p (take l xs) = sum_by-cons (λ y. cond (p y) 1 0) x (take l xs) in
    let less : count_by p (x ∷ take k xs) < count_by p (x ∷ take l xs) = omega arith in
    less

-- the place of a reference among all
code : Ref → ℕ
code (Constant b) = cond b 1 0
code (Inner i) = suc (suc i)

code_within : (n : ℕ) (f : Ref) → rank f ≤ n → code f < length (all_refs n)
unfolding code
code_within n (Constant true) le = omega arith
code_within n (Constant false) le = omega arith
code_within n (Inner i) le = let len : length (map (λ k. Inner k) (range_with_len 0 n)) ≡ n = length-map-range_with_len (λ k. Inner k) 0 n in omega arith

at_code : (n : ℕ) (f : Ref) → rank f ≤ n → get_or (all_refs n) (code f) (Constant false) ≡ f
unfolding code
at_code n (Constant true) le = refl
at_code n (Constant false) le = refl
at_code n (Inner i) le = get_or-map-range_with_len (λ k. Inner k) 0 n i i (Constant false) (omega arith) (omega arith)

code_same : (n : ℕ) (f g : Ref) → rank f ≤ n → rank g ≤ n → code f ≡ code g → f ≡ g
code_same n f g lf lg e = sym (at_code n f lf) ∙ ap (λ k. get_or (all_refs n) k (Constant false)) e ∙ at_code n g lg

number : List Part → Ref → Ref → ℕ
number nodes f x = count_by (is_part_by (rank f) nodes f) (take (code x) (all_refs (length nodes)))

-- parts of f, before which others stand
part_counts : (s : TableOf) → IsTable s.levels s.nodes → (f x : Ref) → Reaches s.nodes f x → rank f ≤ length s.nodes → (l : ℕ) → code x < l
    → count_by (is_part_by (rank f) s.nodes f) (take (code x) (all_refs (length s.nodes))) < count_by (is_part_by (rank f) s.nodes f) (take l (all_refs (length s.nodes)))
part_counts s table f x r live l lt =
    let before : rank x ≤ rank f = reach_rank s.levels s.nodes table f x r live in
    let alive : rank x ≤ length s.nodes = omega arith in
    count_strict (is_part_by (rank f) s.nodes f) (Constant false) (all_refs (length s.nodes)) (code x) l lt (code_within (length s.nodes) x alive)
    (ap (is_part_by (rank f) s.nodes f) (at_code (length s.nodes) x alive) ∙ part_reached s.levels s.nodes table (rank f) f x r (omega arith) live)

number_below : (s : TableOf) → IsTable s.levels s.nodes → (f x : Ref) → Reaches s.nodes f x → rank f ≤ length s.nodes → number s.nodes f x < size s.nodes f
unfolding number
number_below s table f x r live =
    let all : List Ref = all_refs (length s.nodes) in
    let before : rank x ≤ rank f = reach_rank s.levels s.nodes table f x r live in
    let whole : take (length all) all ≡ all = take_all (length all) all (omega arith) in
    subst (λ (xs : List Ref). number s.nodes f x < count_by (is_part_by (rank f) s.nodes f) xs) whole (part_counts s table f x r live (length all) (code_within (length s.nodes) x (omega arith)))

number_apart : (s : TableOf) → IsTable s.levels s.nodes → (f x y : Ref) → Reaches s.nodes f x → Reaches s.nodes f y → rank f ≤ length s.nodes → number s.nodes f x ≡ number s.nodes f y → x ≡ y
unfolding number
number_apart s table f x y r q live e =
    let bx : rank x ≤ rank f = reach_rank s.levels s.nodes table f x r live in
    let by' : rank y ≤ rank f = reach_rank s.levels s.nodes table f y q live in
    elim (cases_order (code x) (code y)) [
      | inl same ↦ code_same (length s.nodes) x y (omega arith) (omega arith) same
      | inr (inl lt) ↦ let c = part_counts s table f x r live (code y) lt in absurd (omega arith)
      | inr (inr gt) ↦ let c = part_counts s table f y q live (code x) gt in absurd (omega arith)
    ]

-- ---- the number of a part of a question

-- pairs by numbers
pair_below : (a b m n : ℕ) → a < m → b < n → a * n + b < m * n
pair_below a b m n la lb =
    let h : suc a * n ≤ m * n = mul-le-mul_right n (omega arith) in
    let k : suc a * n ≡ a * n + n = suc-mul a n in
    omega arith

pair_apart : (a b c d n : ℕ) → c < n → d < n → a * n + c ≡ b * n + d → (a ≡ b) × (c ≡ d)
pair_apart a b c d n lc ld e =
    elim (cases_order a b) [
      | inl same ↦ let h : a * n ≡ b * n = ap (λ x. x * n) same in (same, omega arith)
      | inr (inl lt) ↦ let h : suc a * n ≤ b * n = mul-le-mul_right n (omega arith) in let k : suc a * n ≡ a * n + n = suc-mul a n in absurd (omega arith)
      | inr (inr gt) ↦ let h : suc b * n ≤ a * n = mul-le-mul_right n (omega arith) in let k : suc b * n ≡ b * n + n = suc-mul b n in absurd (omega arith)
    ]

-- the operands of a question
first : Question → Ref
first (Apply op f g) = f
first (Negate f) = f
first (Restrict f level bit) = f

second : Question → Ref
second (Apply op f g) = g
second (Negate f) = f
second (Restrict f level bit) = f

index : List Part → Question → Question → ℕ
index nodes (Apply op f g) p = number nodes f (first p) * size nodes g + number nodes g (second p)
index nodes (Negate f) p = number nodes f (first p)
index nodes (Restrict f level bit) p = number nodes f (first p)

index_below : (s : TableOf) → IsTable s.levels s.nodes → (q p : Question) → IsAsked s q → IsPart s.nodes q p → index s.nodes q p < parts_of s.nodes q
unfolding index first second
index_below s table (Apply op f g) p asked (x, y, e, a, b) =
    subst (λ (k : Question). index s.nodes (Apply op f g) k < size s.nodes f * size s.nodes g) (sym e)
    (pair_below (number s.nodes f x) (number s.nodes g y) (size s.nodes f) (size s.nodes g) (number_below s table f x a asked.0) (number_below s table g y b asked.1))
index_below s table (Negate f) p asked (x, e, a) = subst (λ (k : Question). index s.nodes (Negate f) k < size s.nodes f) (sym e) (number_below s table f x a asked)
index_below s table (Restrict f level bit) p asked (x, e, a) = subst (λ (k : Question). index s.nodes (Restrict f level bit) k < size s.nodes f) (sym e) (number_below s table f x a asked.0)

same_apply : (op : Op) (x y v w : Ref) → x ≡ v → y ≡ w → Apply op x y ≡ Apply op v w
same_apply op x y v w e d = ap (λ k. Apply op k y) e ∙ ap (λ k. Apply op v k) d

index_apart : (s : TableOf) → IsTable s.levels s.nodes → (q p k : Question) → IsAsked s q → IsPart s.nodes q p → IsPart s.nodes q k → index s.nodes q p ≡ index s.nodes q k → p ≡ k
unfolding index first second
index_apart s table (Apply op f g) p k asked (x, y, e, a, b) (v, w, d, a', b') same =
    let pairs = pair_apart (number s.nodes f x) (number s.nodes f v) (number s.nodes g y) (number s.nodes g w) (size s.nodes g) (number_below s table g y b asked.1) (number_below s table g w b' asked.1)
    (ap (index s.nodes (Apply op f g)) (sym e) ∙ same ∙ ap (index s.nodes (Apply op f g)) d) in
    e ∙ same_apply op x y v w (number_apart s table f x v a a' asked.0 pairs.0) (number_apart s table g y w b b' asked.1 pairs.1) ∙ sym d
index_apart s table (Negate f) p k asked (x, e, a) (v, d, a') same =
    e ∙ ap (λ r. Negate r) (number_apart s table f x v a a' asked (ap (index s.nodes (Negate f)) (sym e) ∙ same ∙ ap (index s.nodes (Negate f)) d)) ∙ sym d
index_apart s table (Restrict f level bit) p k asked (x, e, a) (v, d, a') same =
    e ∙ ap (λ r. Restrict r level bit) (number_apart s table f x v a a' asked.0 (ap (index s.nodes (Restrict f level bit)) (sym e) ∙ same ∙ ap (index s.nodes (Restrict f level bit)) d)) ∙ sym d

-- `mk` was called at most once for each part
pub calls_by_parts : {s t : TableOf} {before after : List (Question × Ref)} {ok : Bool} (q : Question) → IsTable s.levels s.nodes → IsAsked s q → Counted s t before after q ok → t.calls ≤ s.calls + parts_of s.nodes q
calls_by_parts {s} {t} q table asked c =
    let few : length c.tried ≤ parts_of s.nodes q = pigeonhole (length c.tried) (parts_of s.nodes q) (λ i. index s.nodes q (question_at c.tried i))
    (λ i lt. index_below s table q _ asked (c.parts i lt))
    (λ i j li lj e. c.distinct i j li lj (index_apart s table q _ _ asked (c.parts i li) (c.parts j lj) e)) in
    let calls : t.calls ≤ s.calls + length c.tried = c.calls in
    omega arith
