-- How much a list of stops gives to the flat model.
use Rattle.std.proofs.Common.{◌≡◌, ℕ, ◌+◌, Bool, true, false, cond, List, [], ◌∷◌, ◌++◌, map, length, sum_by, is_some, refl, sym, ap, ◌∙◌, arith, length-append}
use Rattle.std.specs.List.{flat_map, zip}
use Rattle.std.proofs.lemmas.List.Sums.{sum_by-append, sum_by-cons}
use Rattle.cov_syntax.specs.declared.program.Spelled.{Spelled}
use Rattle.cov_syntax.specs.declared.program.TypeTree.TheVariants as type
use Rattle.cov_syntax.specs.declared.program.Section.{Section}
use Rattle.cov_syntax.specs.declared.program.Section.TheVariants as section
use Rattle.cov_syntax.specs.declared.tree.Expr.{Expr}
use Rattle.cov_modules.specs.declared.size.Size.{Size}
use Rattle.cov_modules.specs.Things.{Instance, path_of}
use Rattle.cov_modules.specs.Walk.{Stop}
use Rattle.cov_modules.specs.FlatLists.{var_of, flat_vars, FlatDefine, define_of_argument, define_of, defines_at, flat_defines}
use Rattle.cov_modules.specs.Counts.{nodes, body_of, bodies}
use Rattle.cov_modules.specs.Sizes.{size, both, total, section_size, argument_size, own_size}

-- two sizes with the same numbers
pub same-size : (a b : Size) → a.names ≡ b.names → a.nodes ≡ b.nodes → a ≡ b
same-size a b n m = ap (λ k. size k a.nodes) n ∙ ap (size b.names) m

-- the nodes in the bodies of some DEFINEs
abbrev pub define_nodes : List FlatDefine → ℕ
define_nodes ds = sum_by (λ (d : FlatDefine). nodes d.body) ds

-- the nodes in the expressions of some sections, but for DEFINEs
abbrev pub body_nodes : List Section → ℕ
body_nodes ss = sum_by nodes (flat_map body_of ss)

-- what an argument gives, beside its formal
abbrev pub pair_size : Spelled × Expr → Size
pair_size a = argument_size a.1

-- what the sections of a module give in an instance
module _ (x : Instance) where
  pub names-of-own : (ss : List Section) → (total (map section_size ss)).names ≡ length (flat_map (var_of x.name) ss) + length (flat_map (define_of x) ss)
  names-of-own [] = refl
  names-of-own (section.Decl name (type.Instance from given) place ∷ ss) = let h = names-of-own ss in omega (arith, h)
  names-of-own (section.Decl name type.Boolean place ∷ ss) = let h = names-of-own ss in omega (arith, h)
  names-of-own (section.Decl name (type.List values) place ∷ ss) = let h = names-of-own ss in omega (arith, h)
  names-of-own (section.Decl name (type.Between low high) place ∷ ss) = let h = names-of-own ss in omega (arith, h)
  names-of-own (section.Define name body ∷ ss) = let h = names-of-own ss in omega (arith, h)
  names-of-own (section.Assign when target body ∷ ss) = let h = names-of-own ss in omega (arith, h)
  names-of-own (section.Cond kind body ∷ ss) = let h = names-of-own ss in omega (arith, h)

  pub nodes-of-own : (ss : List Section) → (total (map section_size ss)).nodes ≡ define_nodes (flat_map (define_of x) ss) + body_nodes ss
  nodes-of-own [] = refl
  nodes-of-own (section.Decl name (type.Instance from given) place ∷ ss) = let h = nodes-of-own ss in omega (arith, h)
  nodes-of-own (section.Decl name type.Boolean place ∷ ss) = let h = nodes-of-own ss in omega (arith, h)
  nodes-of-own (section.Decl name (type.List values) place ∷ ss) = let h = nodes-of-own ss in omega (arith, h)
  nodes-of-own (section.Decl name (type.Between low high) place ∷ ss) = let h = nodes-of-own ss in omega (arith, h)
  nodes-of-own (section.Define name body ∷ ss) =
      let h = nodes-of-own ss in
      let made : FlatDefine = record { name = x.name ++ name.name ∷ []; body = body; place = name.place; reader = x } in
      omega (arith, h, sum_by-cons (λ (d : FlatDefine). nodes d.body) made (flat_map (define_of x) ss))
  nodes-of-own (section.Assign when target body ∷ ss) = let h = nodes-of-own ss in omega (arith, h, sum_by-cons nodes body (flat_map body_of ss))
  nodes-of-own (section.Cond kind body ∷ ss) = let h = nodes-of-own ss in omega (arith, h, sum_by-cons nodes body (flat_map body_of ss))

-- what an argument gives, by whether it is a path
names-of-pair : (b : Bool) (k : ℕ) (d : FlatDefine) → (cond b (size 0 0) (size 1 k)).names ≡ length (cond b [] (d ∷ []))
names-of-pair true k d = refl
names-of-pair false k d = refl

nodes-of-pair : (b : Bool) (d : FlatDefine) → (cond b (size 0 0) (size 1 (nodes d.body))).nodes ≡ define_nodes (cond b [] (d ∷ []))
nodes-of-pair true d = refl
nodes-of-pair false d = omega arith

-- what the arguments of a stop give
module _ (s : Stop) where
  pub names-of-given : (as' : List (Spelled × Expr)) → (total (map pair_size as')).names ≡ length (flat_map (define_of_argument s) as')
  names-of-given [] = refl
  names-of-given (a ∷ as') =
      let h = names-of-given as' in
      let made : FlatDefine = record { name = s.here.name ++ a.0.name ∷ []; body = a.1; place = a.1.place; reader = s.caller } in
      let here = names-of-pair (is_some (path_of a.1)) (nodes a.1) made in
      omega (arith, h, here, length-append (define_of_argument s a) (flat_map (define_of_argument s) as'))

  pub nodes-of-given : (as' : List (Spelled × Expr)) → (total (map pair_size as')).nodes ≡ define_nodes (flat_map (define_of_argument s) as')
  nodes-of-given [] = refl
  nodes-of-given (a ∷ as') =
      let h = nodes-of-given as' in
      let made : FlatDefine = record { name = s.here.name ++ a.0.name ∷ []; body = a.1; place = a.1.place; reader = s.caller } in
      let here = nodes-of-pair (is_some (path_of a.1)) made in
      omega (arith, h, here, sum_by-append (λ (d : FlatDefine). nodes d.body) (define_of_argument s a) (flat_map (define_of_argument s) as'))

-- a stop has a name, and gives its arguments and what its module gives
abbrev pub stop_size : Stop → Size
stop_size s = both (both (size 1 0) (total (map pair_size (zip s.here.from.formals s.given)))) (own_size s.here.from)

-- how much the stops give, each with a name
abbrev pub amount : List Stop → Size
amount w = size (length (flat_vars w) + length (flat_defines w) + length w) (sum_by nodes (bodies w))

-- the nodes of the bodies, those of DEFINEs first
mapped-nodes : (ds : List FlatDefine) → sum_by nodes (map (λ (d : FlatDefine). d.body) ds) ≡ define_nodes ds
mapped-nodes [] = refl
mapped-nodes (d ∷ ds) =
    sum_by-cons nodes d.body (map (λ (d : FlatDefine). d.body) ds)
    ∙ ap (λ n. nodes d.body + n) (mapped-nodes ds)
    ∙ sym (sum_by-cons (λ (d : FlatDefine). nodes d.body) d ds)

bodies-nodes : (w : List Stop) → sum_by nodes (bodies w) ≡ define_nodes (flat_defines w) + sum_by nodes (flat_map (λ (s : Stop). flat_map body_of s.here.from.sections) w)
bodies-nodes w =
    sum_by-append nodes (map (λ (d : FlatDefine). d.body) (flat_defines w)) (flat_map (λ (s : Stop). flat_map body_of s.here.from.sections) w)
    ∙ ap (λ n. n + sum_by nodes (flat_map (λ (s : Stop). flat_map body_of s.here.from.sections) w)) (mapped-nodes (flat_defines w))

-- one more stop
amount-more : (s : Stop) (w : List Stop) (rest : Size) → amount w ≡ rest → amount (s ∷ w) ≡ both (stop_size s) rest
amount-more s w rest h = same-size (amount (s ∷ w)) (both (stop_size s) rest)
    (let own = names-of-own s.here s.here.from.sections in
    let given = names-of-given s (zip s.here.from.formals s.given) in
    let n : length (flat_vars w) + length (flat_defines w) + length w ≡ rest.names = ap (λ (a : Size). a.names) h in
    omega (
      arith,
      own,
      given,
      n,
      length-append (flat_map (var_of s.here.name) s.here.from.sections) (flat_vars w),
      length-append (defines_at s) (flat_defines w),
      length-append (flat_map (define_of_argument s) (zip s.here.from.formals s.given)) (flat_map (define_of s.here) s.here.from.sections),
    ))
    (let own = nodes-of-own s.here s.here.from.sections in
    let given = nodes-of-given s (zip s.here.from.formals s.given) in
    let n : sum_by nodes (bodies w) ≡ rest.nodes = ap (λ (a : Size). a.nodes) h in
    omega (
      arith,
      own,
      given,
      n,
      bodies-nodes w,
      bodies-nodes (s ∷ w),
      sum_by-append (λ (d : FlatDefine). nodes d.body) (defines_at s) (flat_defines w),
      sum_by-append (λ (d : FlatDefine). nodes d.body) (flat_map (define_of_argument s) (zip s.here.from.formals s.given)) (flat_map (define_of s.here) s.here.from.sections),
      sum_by-append nodes (flat_map body_of s.here.from.sections) (flat_map (λ (s : Stop). flat_map body_of s.here.from.sections) w),
    ))

-- it is what they give one by one
pub amount-total : (w : List Stop) → amount w ≡ total (map stop_size w)
amount-total [] = refl
amount-total (s ∷ w) = amount-more s w (total (map stop_size w)) (amount-total w)
