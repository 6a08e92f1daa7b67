-- No value stands twice among the values of a kind.
use Rattle.std.proofs.Common.{◌≡◌, ◌<ℤ◌, ℕ, zero, suc, ℤ, pos, ◌+ℤ◌, Bool, true, false, ◌||◌, if◌then◌else◌, IsTrue, IsFalse, List, [], ◌∷◌, ◌++◌, map, Option, Some, None, refl, sym, subst, arith}
use Rattle.std.specs.Int.{int_min, int_max}
use Rattle.std.specs.Ordering.{int_eq}
use Rattle.std.specs.List.{list_any, list_all}
use Rattle.std.proofs.lemmas.Int.{ints}
use Rattle.std.proofs.lemmas.Bool.{or_parts}
use Rattle.cov_syntax.specs.declared.tree.Span.{Span}
use Rattle.cov_syntax.specs.declared.tree.Value.{Value}
use Rattle.cov_syntax.specs.declared.tree.Value.TheVariants as v
use Rattle.cov_syntax.specs.declared.tree.Op1.{Op1}
use Rattle.cov_syntax.specs.declared.tree.Op1.TheVariants as op1
use Rattle.cov_syntax.specs.declared.tree.Op2.{Op2}
use Rattle.cov_syntax.specs.declared.tree.Op2.TheVariants as op2
use Rattle.cov_syntax.specs.declared.tree.Expr.{Expr}
use Rattle.cov_syntax.specs.declared.tree.Branch.{Branch}
use Rattle.cov_syntax.specs.declared.tree.Node.TheOpen.{Node-F}
use Rattle.cov_model.specs.Values.{same_value, number}
use Rattle.cov_model.specs.Kinds.{Kind, boolean, interval, among, is_boolean, is_number, member, united, integers, count, values_of, is_truth, is_integer, join, join_all, joined_kind, hull_of, kind_of_values, Kinds, kind_at, own_of_one, own_of_two}
use Rattle.cov_model.specs.Types.{has_twice}
use Rattle.cov_model.specs.Walk as walk
use Rattle.cov_model.specs.Walk.{Judged, put, judged, own, bit, bodies}
use Rattle.cov_model.proofs.Joins.{same_value-eq}
use Rattle.cov_model.proofs.Closed.{integer, judged_branch, judged_layer, judged_step}
use Rattle.cov_order.proofs.ByParts.{Layer, EachItem, EachArm, EachPart, by_parts}
use Rattle.cov_ranges.proofs.PartFaults.{judged_at}

-- no value of the kind stands twice
abbrev pub IsApart : Kind → Type 0
IsApart k = IsFalse (has_twice (values_of k))

-- ---- integers

same_int : (low i : ℤ) → i <ℤ low → IsFalse (int_eq low i)
same_int low i h = grind (arith, ints)

or_none : (a b : Bool) → IsFalse a → IsFalse b → IsFalse (a || b)
or_none true b h g = cc
or_none false b h g = g

below_all : (n : ℕ) (low i : ℤ) → i <ℤ low → IsFalse (member (integers low n) (v.Int i))
below_all zero low i h = refl
below_all (suc n) low i h = or_none (int_eq low i) (member (integers (low +ℤ pos 1) n) (v.Int i)) (same_int low i h) (below_all n (low +ℤ pos 1) i (omega (arith, ints)))

pub integers_apart : (n : ℕ) (low : ℤ) → IsFalse (has_twice (integers low n))
integers_apart zero low = refl
integers_apart (suc n) low = or_none (member (integers (low +ℤ pos 1) n) (v.Int low)) (has_twice (integers (low +ℤ pos 1) n))
    (below_all n (low +ℤ pos 1) low (omega (arith, ints))) (integers_apart n (low +ℤ pos 1))

-- ---- lists

same_back : (x y : Value) → IsFalse (same_value x y) → IsFalse (same_value y x)
same_back x y h = by (same_value y x) refl
  where
    by : (b : Bool) → same_value y x ≡ b → IsFalse b
    by true e = let q : y ≡ x = same_value-eq y x e in let s : same_value x y ≡ true = subst (λ (z : Value). same_value x z ≡ true) (sym q) (subst (λ (z : Value). same_value z x ≡ true) q e) in cc
    by false e = refl

not_last : (xs : List Value) (y x : Value) → IsFalse (member xs x) → IsFalse (same_value y x) → IsFalse (member (xs ++ y ∷ []) x)
not_last [] y x h g = or_none (same_value y x) false g refl
not_last (z ∷ zs) y x h g =
    let c = or_parts (same_value z x) (member zs x) h in
    or_none (same_value z x) (member (zs ++ y ∷ []) x) c.0 (not_last zs y x c.1 g)

apart_last : (xs : List Value) (y : Value) → IsFalse (has_twice xs) → IsFalse (member xs y) → IsFalse (has_twice (xs ++ y ∷ []))
apart_last [] y h g = refl
apart_last (x ∷ xs) y h g =
    let c = or_parts (member xs x) (has_twice xs) h in
    let d = or_parts (same_value x y) (member xs y) g in
    or_none (member (xs ++ y ∷ []) x) (has_twice (xs ++ y ∷ [])) (not_last xs y x c.0 (same_back x y d.0)) (apart_last xs y c.1 d.1)

apart_grown : (xs : List Value) (y : Value) (b : Bool) → member xs y ≡ b → IsFalse (has_twice xs) → IsFalse (has_twice (if b then xs else xs ++ y ∷ []))
apart_grown xs y true e h = h
apart_grown xs y false e h = apart_last xs y h e

pub united_apart : (xs ys : List Value) → IsFalse (has_twice xs) → IsFalse (has_twice (united xs ys))
united_apart xs [] h = h
united_apart xs (y ∷ ys) h = united_apart (if member xs y then xs else xs ++ y ∷ []) ys (apart_grown xs y (member xs y) refl h)

-- ---- kinds

hull_apart : (low high : ℤ) (xs : List Value) → IsApart (hull_of low high xs)
hull_apart low high [] = integers_apart (count low high) low
hull_apart low high (x ∷ xs) = hull_apart (int_min low (number x)) (int_max high (number x)) xs

chosen_apart : (b : Bool) (k l : Kind) → IsApart k → IsApart l → IsApart (if b then k else l)
chosen_apart true k l h g = h
chosen_apart false k l h g = g

pub variable_apart : (xs : List Value) → IsFalse (has_twice xs) → IsApart (kind_of_values xs)
variable_apart [] h = refl
variable_apart (x ∷ xs) h =
    chosen_apart (is_truth x) boolean (if list_all is_integer (x ∷ xs) then hull_of (number x) (number x) xs else among (x ∷ xs)) refl
    (chosen_apart (list_all is_integer (x ∷ xs)) (hull_of (number x) (number x) xs) (among (x ∷ xs)) (hull_apart (number x) (number x) xs) h)

join_apart : (k l : Kind) → IsApart k → IsApart (join k l)
join_apart boolean l h = united_apart (values_of boolean) (values_of l) h
join_apart (interval a b) boolean h = united_apart (values_of (interval a b)) (values_of boolean) h
join_apart (interval a b) (interval c d) h = integers_apart (count (int_min a c) (int_max b d)) (int_min a c)
join_apart (interval a b) (among ys) h = united_apart (values_of (interval a b)) ys h
join_apart (among xs) l h = united_apart xs (values_of l) h

join_all_apart : (k : Kind) (ks : List Kind) → IsApart k → IsApart (join_all k ks)
join_all_apart k [] h = h
join_all_apart k (l ∷ ks) h = join_all_apart (join k l) ks (join_apart k l h)

-- the first is apart, where there is one
abbrev pub IsFirstApart : List Kind → Type 0
IsFirstApart [] = Unit {0}
IsFirstApart (k ∷ ks) = IsApart k

joined_apart : (ks : List Kind) → IsFirstApart ks → IsApart (joined_kind ks)
joined_apart [] h = refl
joined_apart (k ∷ ks) h = chosen_apart (list_any is_boolean (k ∷ ks)) boolean (join_all k ks) refl (join_all_apart k ks h)

number_apart : (k : Kind) → IsTrue (is_number k) → IsApart k
number_apart boolean h = refl
number_apart (interval low high) h = integers_apart (count low high) low
number_apart (among xs) h = cc

one_apart : (op : Op1) (k : Kind) → IsApart k → IsApart (own_of_one op k)
one_apart op1.Neg k h = number_apart (own_of_one op1.Neg k) refl
one_apart op1.Next k h = h
one_apart _ k h = refl

two_apart : (op : Op2) (k l : Kind) → IsApart k → IsApart (own_of_two op k l)
two_apart op2.Add k l h = number_apart (own_of_two op2.Add k l) refl
two_apart op2.Sub k l h = number_apart (own_of_two op2.Sub k l) refl
two_apart op2.Mul k l h = number_apart (own_of_two op2.Mul k l) refl
two_apart op2.Div k l h = number_apart (own_of_two op2.Div k l) refl
two_apart op2.Mod k l h = number_apart (own_of_two op2.Mod k l) refl
two_apart op2.Union k l h = joined_apart (k ∷ l ∷ []) h
two_apart _ k l h = refl

-- ---- expressions

-- every kind of what can be read is apart
pub record AreApart (ks : Kinds) : Type 0 where
  pub vars : (i : ℕ) → IsApart (kind_at ks.vars i)
  pub defs : (i : ℕ) → IsApart (kind_at ks.defs i)

module _ (ks : Kinds) (apart : AreApart ks) where
  abbrev R : Expr → Type 0
  R e = IsApart (own ks e)

  integer_apart : (place : Span) (i : ℤ) (o : Option Bool) → IsApart (integer place i o).own
  integer_apart place i None = integers_apart (count i i) i
  integer_apart place i (Some b) = integers_apart (count i i) i

  literal_apart : (place : Span) (x : Value) → IsApart (walk.judged_literal place x).own
  literal_apart place (v.Bool b) = refl
  literal_apart place (v.Int i) = integer_apart place i (bit i)
  literal_apart place (v.Sym s) = refl

  items_apart : (es : List Expr) → EachItem R es → IsFirstApart (map (λ (j : Judged). j.own) (map (judged ks) es))
  items_apart [] h = tt
  items_apart (e ∷ es) h = h.0

  arms_apart : (bs : List Branch) → EachArm R bs → IsFirstApart (map (λ (j : Judged). j.own) (bodies (map (judged_branch ks) bs)))
  arms_apart [] h = tt
  arms_apart (b ∷ bs) h = subst (λ (j : Judged × Judged). IsApart j.1.own) (sym (judged_at ks b)) h.1

  two_own : (place : Span) (op : Op2) (a b : Expr) → R a → IsApart (walk.of_node ks (Node-F.Two op (judged ks a) (judged ks b)) place).own
  two_own place op2.Union a b h = two_apart op2.Union (judged ks a).own (judged ks b).own h
  two_own place op a b h = two_apart op (judged ks a).own (judged ks b).own h

  layer_apart : (place : Span) (l : Layer) → EachPart R l → IsApart (walk.of_node ks (judged_layer ks l) place).own
  layer_apart place (Node-F.Lit x) h = literal_apart place x
  layer_apart place (Node-F.Path p) h = refl
  layer_apart place (Node-F.Var i) h = apart.vars i
  layer_apart place (Node-F.Def i) h = apart.defs i
  layer_apart place (Node-F.One op a) h = one_apart op (judged ks a).own h
  layer_apart place (Node-F.Two op a b) h = two_own place op a b h.0
  layer_apart place (Node-F.Range low high) h = integers_apart (count low high) low
  layer_apart place (Node-F.Set es) h = joined_apart (map (λ (j : Judged). j.own) (map (judged ks) es)) (items_apart es h)
  layer_apart place (Node-F.Case bs) h = joined_apart (map (λ (j : Judged). j.own) (bodies (map (judged_branch ks) bs))) (arms_apart bs h)

  -- the own kind of any expression is apart
  pub own_apart : (e : Expr) → R e
  own_apart = by_parts R (λ place l h. subst (λ (j : Judged). IsApart j.own) (sym (judged_step ks place l)) (layer_apart place l h))
