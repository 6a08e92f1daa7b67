-- How many conditions and assignments a flat model has.
use Rattle.std.proofs.Common.{◌≡◌, ℕ, ◌+◌, ◌≤◌, Bool, true, false, cond, List, [], ◌∷◌, ◌++◌, map, length, sum_by, Option, Some, None, ap, ◌∙◌, arith, length-append}
use Rattle.std.specs.List.{flat_map, filter}
use Rattle.std.proofs.lemmas.List.{length-map}
use Rattle.std.proofs.lemmas.List.Sums.{sum_by-append, sum_by-cons}
use Rattle.cov_syntax.specs.declared.tree.Expr.{Expr}
use Rattle.cov_syntax.specs.declared.program.When.{When}
use Rattle.cov_syntax.specs.declared.program.When.TheVariants as when
use Rattle.cov_syntax.specs.declared.program.CondKind.{CondKind}
use Rattle.cov_syntax.specs.declared.program.CondKind.TheVariants as cond_kind
use Rattle.cov_syntax.specs.declared.program.Section.{Section}
use Rattle.cov_syntax.specs.declared.program.Section.TheVariants as section
use Rattle.cov_syntax.specs.declared.program.Program.{Program}
use Rattle.cov_model.specs.Flat.{conditions_of, assignments_of}
use Rattle.cov_modules.specs.Things.{Thing, variable, define, instance, symbol, Instance}
use Rattle.cov_modules.specs.Walk.{Stop, walk}
use Rattle.cov_modules.specs.FlatLists.{FlatDefine, flat_defines, Index, index_of, flat_expr, same_when, cond_of, conds, Assignment, assign_of, assignments, flat_assign, assigns, flat_model}
use Rattle.cov_modules.specs.Counts.{nodes, body_of}
use Rattle.cov_modules.specs.ModuleFaults.{modules_fault}
use Rattle.cov_modules.proofs.LawLemmas.{few-nodes}
use Rattle.cov_flatness.proofs.Reading.{has-node}

-- ---- sections

-- the conditions of all kinds
abbrev conditions_in : List Section → ℕ
conditions_in ss =
    length (flat_map (cond_of cond_kind.Init) ss) + length (flat_map (cond_of cond_kind.Invar) ss) + length (flat_map (cond_of cond_kind.Trans) ss)
    + length (flat_map (cond_of cond_kind.Fair) ss) + length (flat_map (cond_of cond_kind.Spec) ss)

-- each section gives one expression at most
sections-few : (p : Program) (y : Instance) (ss : List Section) → conditions_in ss + length (flat_map (assign_of p y) ss) ≤ length (flat_map body_of ss)
sections-few p y [] = omega arith
sections-few p y (section.Decl name kind place ∷ ss) = sections-few p y ss
sections-few p y (section.Define name body ∷ ss) = sections-few p y ss
sections-few p y (section.Assign when target body ∷ ss) = let rest = sections-few p y ss in omega (arith, rest)
sections-few p y (section.Cond cond_kind.Init body ∷ ss) = let rest = sections-few p y ss in omega (arith, rest)
sections-few p y (section.Cond cond_kind.Invar body ∷ ss) = let rest = sections-few p y ss in omega (arith, rest)
sections-few p y (section.Cond cond_kind.Trans body ∷ ss) = let rest = sections-few p y ss in omega (arith, rest)
sections-few p y (section.Cond cond_kind.Fair body ∷ ss) = let rest = sections-few p y ss in omega (arith, rest)
sections-few p y (section.Cond cond_kind.Spec body ∷ ss) = let rest = sections-few p y ss in omega (arith, rest)

-- ---- stops

module _ (p : Program) (ix : Index) where
  -- the conditions of one kind, with one more stop
  conds-more : (k : CondKind) (s : Stop) (w : List Stop) → length (conds p ix (s ∷ w) k) ≡ length (flat_map (cond_of k) s.here.from.sections) + length (conds p ix w k)
  conds-more k s w =
      length-append (map (flat_expr p ix s.here) (flat_map (cond_of k) s.here.from.sections)) (conds p ix w k)
      ∙ ap (λ (n : ℕ). n + length (conds p ix w k)) (length-map (flat_map (cond_of k) s.here.from.sections) (flat_expr p ix s.here))

  abbrev all_conditions : List Stop → ℕ
  all_conditions w =
      length (conds p ix w cond_kind.Init) + length (conds p ix w cond_kind.Invar) + length (conds p ix w cond_kind.Trans)
      + length (conds p ix w cond_kind.Fair) + length (conds p ix w cond_kind.Spec)

  stops-few : (w : List Stop) → all_conditions w + length (assignments p w) ≤ length (flat_map (λ (s : Stop). flat_map body_of s.here.from.sections) w)
  stops-few [] = omega arith
  stops-few (s ∷ w) =
      let here = sections-few p s.here s.here.from.sections in
      let rest = stops-few w in
      omega (
        arith,
        here,
        rest,
        conds-more cond_kind.Init s w,
        conds-more cond_kind.Invar s w,
        conds-more cond_kind.Trans s w,
        conds-more cond_kind.Fair s w,
        conds-more cond_kind.Spec s w,
        length-append (flat_map (assign_of p s.here) s.here.from.sections) (assignments p w),
        length-append (flat_map body_of s.here.from.sections) (flat_map (λ (s : Stop). flat_map body_of s.here.from.sections) w),
      )

  -- ---- assignments

  -- how many of one form are left
  abbrev given : When → List Assignment → ℕ
  given k as' = length (flat_map (flat_assign p ix) (filter (λ (a : Assignment). same_when k a.when) as'))

  -- with one more assignment
  given-more : (b : Bool) (a : Assignment) (rest : List Assignment)
      → length (flat_map (flat_assign p ix) (cond b (a ∷ rest) rest)) ≡ cond b (length (flat_assign p ix a)) 0 + length (flat_map (flat_assign p ix) rest)
  given-more true a rest = length-append (flat_assign p ix a) (flat_map (flat_assign p ix) rest)
  given-more false a rest = omega arith

  -- of one form
  forms : (w : When) (n : ℕ) → n ≤ 1 → cond (same_when when.Now w) n 0 + cond (same_when when.First w) n 0 + cond (same_when when.Next w) n 0 ≤ 1
  forms when.Now n h = omega arith
  forms when.First n h = omega arith
  forms when.Next n h = omega arith

  assigns-few : (as' : List Assignment) → given when.Now as' + given when.First as' + given when.Next as' ≤ length as'
  assigns-few [] = omega arith
  assigns-few (a ∷ as') =
      let rest = assigns-few as' in
      omega (
        arith,
        rest,
        forms a.when (length (flat_assign p ix a)) (one-of a.target),
        given-more (same_when when.Now a.when) a (filter (λ (a : Assignment). same_when when.Now a.when) as'),
        given-more (same_when when.First a.when) a (filter (λ (a : Assignment). same_when when.First a.when) as'),
        given-more (same_when when.Next a.when) a (filter (λ (a : Assignment). same_when when.Next a.when) as'),
      )
    where
      one-of : (o : Option Thing) → length (flat_assign p ix (record a { target = o })) ≤ 1
      one-of None = omega arith
      one-of (Some (variable d)) = omega arith
      one-of (Some (define d)) = omega arith
      one-of (Some (instance d m)) = omega arith
      one-of (Some (symbol i)) = omega arith

-- each expression has a node
long-nodes : (es : List Expr) → length es ≤ sum_by nodes es
long-nodes [] = omega arith
long-nodes (e ∷ es) = let rest = long-nodes es in let one = has-node e in omega (arith, rest, one, sum_by-cons nodes e es)

-- five lists and three
five-long : {A : Type 0} (a b c d e : List A) → length (a ++ b ++ c ++ d ++ e) ≡ length a + length b + length c + length d + length e
five-long a b c d e = omega (arith, length-append (a ++ b ++ c ++ d) e, length-append (a ++ b ++ c) d, length-append (a ++ b) c, length-append a b)

three-long : {A : Type 0} (a b c : List A) → length (a ++ b ++ c) ≡ length a + length b + length c
three-long a b c = omega (arith, length-append (a ++ b) c, length-append a b)

-- there are no more conditions and assignments than nodes
pub few-parts : (p : Program) → modules_fault p ≡ None → length (conditions_of (flat_model p)) + length (assignments_of (flat_model p)) ≤ 1000000
few-parts p h =
    let w : List Stop = walk p in
    let ix : Index = index_of p in
    let bodies' : List Expr = flat_map (λ (s : Stop). flat_map body_of s.here.from.sections) w in
    let defines : List Expr = map (λ (d : FlatDefine). d.body) (flat_defines w) in
    omega (
      arith,
      few-nodes p h,
      sum_by-append nodes defines bodies',
      long-nodes bodies',
      stops-few p ix w,
      assigns-few p ix (assignments p w),
      five-long (conds p ix w cond_kind.Init) (conds p ix w cond_kind.Invar) (conds p ix w cond_kind.Trans) (conds p ix w cond_kind.Fair) (conds p ix w cond_kind.Spec),
      three-long (assigns p ix w when.Now) (assigns p ix w when.First) (assigns p ix w when.Next),
    )
