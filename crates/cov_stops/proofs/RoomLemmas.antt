-- The numbers of an entry are small.
use Rattle.std.proofs.Common.{◌≡◌, ℕ, zero, suc, ◌+◌, ◌<◌, ◌≤◌, inl, inr, Bool, true, false, ◌||◌, ◌&&◌, nat_lt, eqb, List, [], ◌∷◌, ◌++◌, map, length, sum_by, take, drop, get_or, slice_get, count_by, Some, None, refl, sym, ap, subst, ◌∙◌, arith, length-append, length-drop}
use Rattle.std.specs.List.{list_all, list_any, flat_map, AllByRecursion}
use Rattle.std.specs.Option.{option_to_list}
use Rattle.std.proofs.lemmas.Bool.Decides.{nat_tests}
use Rattle.std.proofs.lemmas.List.{length-map}
use Rattle.std.proofs.lemmas.List.Sums.{sum_by-cons, sum_by-append}
use Rattle.std.proofs.lemmas.Map.Steps.{length-le_from_distinct_below}
use Rattle.std.proofs.lemmas.Option.{slice_get_within, slice_get-get_or}
use Rattle.std.proofs.Math.Seq.{take-length}
use Rattle.cov_syntax.specs.declared.tree.Span.{Span}
use Rattle.cov_syntax.specs.declared.tree.Expr.{Expr}
use Rattle.cov_syntax.specs.declared.tree.Branch.{Branch}
use Rattle.cov_syntax.specs.declared.tree.Node.{Node, roll-Node, out-Node, roll-out-Node}
use Rattle.cov_syntax.specs.declared.tree.Node.TheOpen.{Node-F}
use Rattle.cov_syntax.specs.declared.tree.Node.TheFolds.{map-Node, fold-Node, fold-Branch, fold-Expr, fold-roll-Node, fold-roll-Expr}
use Rattle.cov_syntax.specs.declared.program.Spelled.{Spelled}
use Rattle.cov_syntax.specs.declared.program.Section.{Section}
use Rattle.cov_syntax.specs.declared.program.Section.TheVariants as section
use Rattle.cov_syntax.specs.declared.program.ModuleTree.{ModuleTree}
use Rattle.cov_syntax.specs.declared.program.Program.{Program}
use Rattle.cov_model.specs.Walk.{put}
use Rattle.cov_modules.specs.Conditions.{IsFlattenable, cited, module_expressions, names_cited}
use Rattle.cov_modules.specs.Modules.{module_names, declared, Declaration, instances, symbols_of}
use Rattle.cov_modules.specs.Things.{Instance}
use Rattle.cov_modules.specs.Walk.{Stop, walk}
use Rattle.cov_modules.specs.FlatLists.{var_of, flat_vars, FlatDefine, defines_at, flat_defines}
use Rattle.cov_modules.specs.Counts.{nodes_layer, nodes_branch, nodes_expr, nodes, body_of}
use Rattle.cov_modules.specs.ModuleFaults.{names_of, modules_fault}
use Rattle.cov_modules.proofs.ModuleLemmas.{length-names}
use Rattle.cov_modules.proofs.LawLemmas.{different-modules, different-inside, few-names, few-nodes, few-stops}
use Rattle.cov_stops.specs.declared.stops.Entry.{Entry}
use Rattle.cov_stops.specs.declared.put_off.PutOff.{PutOff}
use Rattle.cov_stops.specs.Counted.{is_variable, is_define}
use Rattle.cov_stops.specs.Touring.{walk_at, stop_of, entry_of, IsPutOff, IsTouring, HasRoom}
use Rattle.cov_stops.proofs.ListLemmas.{flat-fewer}
use Rattle.cov_stops.proofs.TableLemmas.{walk-some}
use Rattle.cov_stops.proofs.TourLemmas.{next-stop, tour-next}

-- ---- names

-- both tests are true
and-both : (a b : Bool) → (a && b) ≡ true → (a ≡ true) × (b ≡ true)
and-both true b h = (refl, h)
and-both false b h = absurd cc

-- what holds of each item holds of that at a place
all-at : {A : Type 0} → (f : A → Bool) (xs : List A) (i : ℕ) (x : A) → list_all f xs ≡ true → slice_get xs i ≡ Some x → f x ≡ true
all-at f [] i x all at = absurd cc
all-at f (y ∷ ys) zero x all at = let same : y ≡ x = cc in subst (λ z. f z ≡ true) same (and-both (f y) (list_all f ys) all).0
all-at f (y ∷ ys) (suc i) x all at = all-at f ys i x (and-both (f y) (list_all f ys) all).1 at

-- it holds of the front
all-front : {A : Type 0} → (f : A → Bool) (xs ys : List A) → list_all f (xs ++ ys) ≡ true → list_all f xs ≡ true
all-front f [] ys all = refl
all-front f (x ∷ xs) ys all =
    let parts = and-both (f x) (list_all f (xs ++ ys)) all in
    ap (λ b. b && list_all f xs) parts.0 ∙ all-front f xs ys parts.1

-- names below a number
all-below : (n : ℕ) (xs : List ℕ) → list_all (λ i. nat_lt i n) xs ≡ true → (q : ℕ) → list_any (eqb q) xs ≡ true → q < n
all-below n [] all q h = absurd cc
all-below n (x ∷ xs) all q h = let parts = and-both (nat_lt x n) (list_all (λ i. nat_lt i n) xs) all in by-test (eqb q x) refl parts.0 (all-below n xs parts.1 q) h
  where
    by-test : (b : Bool) → eqb q x ≡ b → nat_lt x n ≡ true → (list_any (eqb q) xs ≡ true → q < n) → (b || list_any (eqb q) xs) ≡ true → q < n
    by-test true is less rest h = grind (arith, nat_tests)
    by-test false is less rest h = rest h

module _ (p : Program) (flattenable : IsFlattenable p) (sound : modules_fault p ≡ None) where
  -- the names of the modules are below the number of names
  modules-below : (ms : List ModuleTree) → list_all (λ (m : ModuleTree). list_all (λ i. nat_lt i (length p.names)) (names_cited m)) ms ≡ true → list_all (λ i. nat_lt i (length p.names)) (map (λ (m : ModuleTree). m.name.name) ms) ≡ true
  modules-below [] all = refl
  modules-below (m ∷ ms) all =
      let parts = and-both (list_all (λ i. nat_lt i (length p.names)) (names_cited m)) (list_all (λ (m : ModuleTree). list_all (λ i. nat_lt i (length p.names)) (names_cited m)) ms) all in
      let here = and-both (nat_lt m.name.name (length p.names)) _ parts.0 in
      ap (λ b. b && list_all (λ i. nat_lt i (length p.names)) (map (λ (m : ModuleTree). m.name.name) ms)) here.0 ∙ modules-below ms parts.1

  -- there are no more modules than names
  pub few-modules : length p.modules ≤ 1048576
  few-modules =
      let few = flattenable.few_names in
      let h = length-le_from_distinct_below (module_names p) (length p.names) (different-modules p sound) (all-below (length p.names) (module_names p) (modules-below p.modules flattenable.cited_there)) in
      omega (arith, h, length-names p.modules)

  -- nor more declared names in a module
  few-declared : (i : ℕ) (m : ModuleTree) → slice_get p.modules i ≡ Some m → length (flat_map declared m.sections) ≤ 1048576
  few-declared i m at =
      let few = flattenable.few_names in
      let below : ℕ → Bool = λ k. nat_lt k (length p.names) in
      let own : List ℕ = map (λ (x : Spelled). x.name) (m.name ∷ m.formals ++ flat_map declared m.sections) in
      let from : List ℕ = map (λ (d : Declaration). d.from.name) (instances m) in
      let symbols : List ℕ = flat_map symbols_of m.sections in
      let cited' : List ℕ = flat_map cited (module_expressions m) in
      let all : list_all below (names_cited m) ≡ true = all-at (λ (m : ModuleTree). list_all below (names_cited m)) p.modules i m flattenable.cited_there at in
      let front : list_all below own ≡ true = all-front below own from (all-front below (own ++ from) symbols (all-front below ((own ++ from) ++ symbols) cited' all)) in
      let names : list_all below (map (λ (x : Spelled). x.name) (names_of m)) ≡ true = (and-both (below m.name.name) (list_all below (map (λ (x : Spelled). x.name) (names_of m))) front).1 in
      let h = length-le_from_distinct_below (map (λ (x : Spelled). x.name) (names_of m)) (length p.names) (different-inside p sound i m at) (all-below (length p.names) (map (λ (x : Spelled). x.name) (names_of m)) names) in
      omega (arith, h, few, length-map (names_of m) (λ (x : Spelled). x.name), length-append m.formals (flat_map declared m.sections))

-- ---- nodes

-- a layer has a node
layer-some : (l : Node-F ℕ ℕ ℕ) → 1 ≤ nodes_layer l
layer-some (Node-F.Lit x) = omega arith
layer-some (Node-F.Path path) = omega arith
layer-some (Node-F.Var i) = omega arith
layer-some (Node-F.Def i) = omega arith
layer-some (Node-F.One op a) = omega arith
layer-some (Node-F.Two op a b) = omega arith
layer-some (Node-F.Range low high) = omega arith
layer-some (Node-F.Set es) = omega arith
layer-some (Node-F.Case bs) = omega arith

-- an expression has a node
nodes-put : (place : Span) (l : Node-F Node Branch Expr) → 1 ≤ nodes (put place (roll-Node l))
nodes-put place l =
    let top : nodes (put place (roll-Node l)) ≡ nodes_layer (map-Node Node Branch Expr ℕ ℕ ℕ (fold-Node ℕ ℕ ℕ nodes_layer nodes_branch nodes_expr) (fold-Branch ℕ ℕ ℕ nodes_layer nodes_branch nodes_expr) (fold-Expr ℕ ℕ ℕ nodes_layer nodes_branch nodes_expr) l) =
    fold-roll-Expr ℕ ℕ ℕ nodes_layer nodes_branch nodes_expr (record { node = roll-Node l; place = place }) ∙ fold-roll-Node ℕ ℕ ℕ nodes_layer nodes_branch nodes_expr l in
    subst (λ k. 1 ≤ k) (sym top) (layer-some (map-Node Node Branch Expr ℕ ℕ ℕ (fold-Node ℕ ℕ ℕ nodes_layer nodes_branch nodes_expr) (fold-Branch ℕ ℕ ℕ nodes_layer nodes_branch nodes_expr) (fold-Expr ℕ ℕ ℕ nodes_layer nodes_branch nodes_expr) l))

nodes-some : (e : Expr) → 1 ≤ nodes e
nodes-some e = subst (λ (m : Node). 1 ≤ nodes (put e.place m)) (roll-out-Node e.node) (nodes-put e.place (out-Node e.node))

-- ---- sections

-- a section declares a name or has a body
sections-parts : (ss : List Section) → length ss ≤ length (flat_map declared ss) + sum_by nodes (flat_map body_of ss)
sections-parts [] = omega arith
sections-parts (section.Decl name kind place ∷ ss) = let rest = sections-parts ss in omega (arith, rest)
sections-parts (section.Define name body ∷ ss) = let rest = sections-parts ss in omega (arith, rest)
sections-parts (section.Assign when target body ∷ ss) = let rest = sections-parts ss in omega (arith, rest, nodes-some body, sum_by-cons nodes body (flat_map body_of ss))
sections-parts (section.Cond kind body ∷ ss) = let rest = sections-parts ss in omega (arith, rest, nodes-some body, sum_by-cons nodes body (flat_map body_of ss))

-- the nodes of a part are no more than all
nodes-part : {A : Type 0} → (f : A → List Expr) (xs : List A) (i : ℕ) (x : A) → slice_get xs i ≡ Some x → sum_by nodes (f x) ≤ sum_by nodes (flat_map f xs)
nodes-part f [] i x at = absurd cc
nodes-part f (y ∷ ys) zero x at = let same : y ≡ x = cc in let e = ap (λ z. sum_by nodes (f z)) same in omega (arith, e, sum_by-append nodes (f y) (flat_map f ys))
nodes-part f (y ∷ ys) (suc i) x at = let rest = nodes-part f ys i x at in omega (arith, rest, sum_by-append nodes (f y) (flat_map f ys))

module _ (p : Program) (flattenable : IsFlattenable p) (sound : modules_fault p ≡ None) where
  -- a stop has few sections
  pub few-sections : (k : ℕ) (s : Stop) (i : ℕ) → slice_get (walk p) k ≡ Some s → slice_get p.modules i ≡ Some s.here.from → length s.here.from.sections ≤ 2048576
  few-sections k s i walked at =
      let own : Stop → List Expr = λ (s : Stop). flat_map body_of s.here.from.sections in
      let parts = sections-parts s.here.from.sections in
      let names = few-declared p flattenable sound i s.here.from at in
      let part : sum_by nodes (flat_map body_of s.here.from.sections) ≤ sum_by nodes (flat_map own (walk p)) = nodes-part own (walk p) k s walked in
      let few = few-nodes p sound in
      omega (arith, parts, names, part, few, sum_by-append nodes (map (λ (d : FlatDefine). d.body) (flat_defines (walk p))) (flat_map own (walk p)))

module _ (p : Program) (flattenable : IsFlattenable p) (sound : modules_fault p ≡ None) (entries : List Entry) (children : List ℕ) where
  -- there is a stop at least for each thing that is put off
  long : (xs : List PutOff) (k : ℕ) → AllByRecursion (IsPutOff p k) xs → length xs ≤ length (flat_map (walk_at p) (flat_map (stop_of p) xs))
  long [] k a = omega arith
  long (x ∷ xs) k a =
      let rest = long xs k a.1 in
      let here : stop_of p x ≡ a.0.stop ∷ [] = ap option_to_list a.0.there in
      let all : length (flat_map (walk_at p) (flat_map (stop_of p) (x ∷ xs))) ≡ length (walk_at p a.0.stop ++ flat_map (walk_at p) (flat_map (stop_of p) xs)) = ap (λ ys. length (flat_map (walk_at p) (ys ++ flat_map (stop_of p) xs))) here in
      omega (arith, rest, all, walk-some p (length p.modules) a.0.stop, length-append (walk_at p a.0.stop) (flat_map (walk_at p) (flat_map (stop_of p) xs)))

  -- no more places are kept than there are stops
  places-few : (put_off : List PutOff) (vars defines : ℕ) → IsTouring p entries children put_off vars defines → length children ≤ length (walk p)
  places-few put_off vars defines t =
      let within = t.within in
      let count = t.count in
      let left : length (drop (length entries) (walk p)) ≡ length (flat_map (walk_at p) (flat_map (stop_of p) put_off)) = ap length t.left in
      omega (arith, within, count, left, length-drop (length entries) (walk p), long put_off (length entries) t.coming)

  module _ (x : PutOff) (rest : List PutOff) (vars defines : ℕ) (t : IsTouring p entries children (x ∷ rest) vars defines) where
    section-few : x.section < 4294967296
    section-few = elim t.coming.0.declared [
      | inl first ↦ (let zero = first.2 in omega arith)
      | inr d ↦ (let by = slice_get_within t.coming.0.stop.caller.from.sections x.section _ d.1.there in caller-few d.0 by)
    ]
      where
        caller-few : x.caller < length entries → x.section < length t.coming.0.stop.caller.from.sections → x.section < 4294967296
        caller-few less within =
            let e : Entry = get_or entries x.caller (record { «module» = 0; caller = 0; section = 0; first_var = 0; first_define = 0; first_child = 0 }) in
            let noted = t.noted x.caller e t.coming.0.caller (slice_get-get_or entries x.caller (record { «module» = 0; caller = 0; section = 0; first_var = 0; first_define = 0; first_child = 0 }) less) t.coming.0.called_by in
            let few = few-sections p flattenable sound x.caller t.coming.0.caller e.module t.coming.0.called_by noted.module in
            let same : length t.coming.0.caller.here.from.sections ≡ length t.coming.0.stop.caller.from.sections = ap (λ (i : Instance). length i.from.sections) t.coming.0.calls in
            omega (arith, few, same, within)

    -- the next entry has room
    pub room : HasRoom x entries children vars defines
    room =
        let all = few-stops p sound in
        let names = few-names p sound in
        let below = (next-stop p sound entries children x rest vars defines t).below in
        let places = places-few (x ∷ rest) vars defines t in
        let all-vars : length (flat_vars (take (length (walk p)) (walk p))) ≡ length (flat_vars (walk p)) = ap (λ w. length (flat_vars w)) (take-length (walk p)) in
        let all-defines : length (flat_defines (take (length (walk p)) (walk p))) ≡ length (flat_defines (walk p)) = ap (λ w. length (flat_defines w)) (take-length (walk p)) in
        let within = t.within in
        let var-part = flat-fewer (λ (s : Stop). flat_map (var_of s.here.name) s.here.from.sections) (walk p) (length entries) (length (walk p)) within in
        let define-part = flat-fewer defines_at (walk p) (length entries) (length (walk p)) within in
        let v = t.vars_so_far in
        let d = t.defines_so_far in
        record {
          number = omega arith;
          place = t.placed.0;
          «module» = let b = slice_get_within p.modules x.module t.coming.0.stop.here.from t.coming.0.module in let few = few-modules p flattenable sound in omega arith;
          caller = let b = slice_get_within (walk p) x.caller t.coming.0.caller t.coming.0.called_by in omega arith;
          section = section-few;
          vars_before = omega arith;
          defines_before = omega arith;
          children_before = omega arith;
        }

    -- nor are there too many variables and DEFINEs with those of the next stop
    pub vars-fit : (ss : List Section) → t.coming.0.stop.here.from.sections ≡ ss → vars + count_by is_variable ss ≤ 4096
    vars-fit ss is =
        let after = tour-next p sound entries children x rest vars defines t in
        let v = after.vars_so_far in
        let within = after.within in
        let part = flat-fewer (λ (s : Stop). flat_map (var_of s.here.name) s.here.from.sections) (walk p) (length (entries ++ entry_of x vars defines (length children) ∷ [])) (length (walk p)) within in
        let all : length (flat_vars (take (length (walk p)) (walk p))) ≡ length (flat_vars (walk p)) = ap (λ w. length (flat_vars w)) (take-length (walk p)) in
        let names = few-names p sound in
        let same = ap (count_by is_variable) is in
        omega (arith, v, within, part, all, names, same)

    pub defines-fit : (ss : List Section) → t.coming.0.stop.here.from.sections ≡ ss → defines + (x.defines + count_by is_define ss) ≤ 4096
    defines-fit ss is =
        let after = tour-next p sound entries children x rest vars defines t in
        let d = after.defines_so_far in
        let within = after.within in
        let part = flat-fewer defines_at (walk p) (length (entries ++ entry_of x vars defines (length children) ∷ [])) (length (walk p)) within in
        let all : length (flat_defines (take (length (walk p)) (walk p))) ≡ length (flat_defines (walk p)) = ap (λ w. length (flat_defines w)) (take-length (walk p)) in
        let names = few-names p sound in
        let same = ap (count_by is_define) is in
        omega (arith, d, within, part, all, names, same)
