-- What a stop puts off are the stops right below it.
use Rattle.std.proofs.Common.{◌≡◌, ℕ, suc, ◌+◌, ◌<◌, ◌≤◌, inl, inr, true, false, not, ◌==◌, ◌||◌, ◌&&◌, nat_lt, List, [], ◌∷◌, ◌++◌, map, length, drop, slice_get, count_by, Option, Some, None, is_none, refl, sym, ap, subst, ◌∙◌, arith, length-append, append_assoc}
use Rattle.std.specs.List.{flat_map, AllByRecursion}
use Rattle.std.specs.Option.{option_map_or, option_to_list}
use Rattle.std.proofs.lemmas.Bool.{cases_lt}
use Rattle.std.proofs.lemmas.Grind.{flat_map-append}
use Rattle.std.proofs.lemmas.List.{append-nil, drop-drop, map-append}
use Rattle.std.proofs.Math.Seq.{drop-append_seam}
use Rattle.cov_syntax.specs.declared.tree.Span.{Span}
use Rattle.cov_syntax.specs.declared.tree.Expr.{Expr}
use Rattle.cov_syntax.specs.declared.program.Spelled.{Spelled}
use Rattle.cov_syntax.specs.declared.program.TypeTree.TheVariants as type
use Rattle.cov_syntax.specs.declared.program.Section.{Section}
use Rattle.cov_syntax.specs.declared.program.Section.TheVariants as section
use Rattle.cov_syntax.specs.declared.program.ModuleTree.{ModuleTree}
use Rattle.cov_syntax.specs.declared.program.Program.{Program}
use Rattle.cov_modules.specs.Names.{place_of, has, first}
use Rattle.cov_modules.specs.Modules.{module_names, module_named, is_main, Declaration, instance_of, instances}
use Rattle.cov_modules.specs.Things.{Instance}
use Rattle.cov_modules.specs.Walk.{arguments, Stop, stop_in, stops_below, walk}
use Rattle.cov_modules.specs.ModuleFaults.{unknown_place, wrong_place, formals_of}
use Rattle.cov_modules.proofs.FirstLemmas.{first-append, or-none}
use Rattle.cov_modules.proofs.NameLemmas.{has-append, number-self}
use Rattle.cov_modules.proofs.HasLemmas.{or-left, or-right}
use Rattle.cov_modules.proofs.ModuleLemmas.{found_at, not_found}
use Rattle.cov_modules.proofs.WalkLemmas.{IsSound, none-head, not-other}
use Rattle.cov_stops.specs.declared.put_off.PutOff.{PutOff}
use Rattle.cov_stops.specs.Counted.{becomes_define}
use Rattle.cov_stops.specs.Coming.{put_off_at, put_off_from}
use Rattle.cov_stops.specs.Touring.{child_stops, stop_of, IsPutOff}
use Rattle.cov_stops.proofs.CountLemmas.{count-arguments}
use Rattle.cov_stops.proofs.LevelLemmas.{found-named, all-append, all-then}
use Rattle.cov_stops.proofs.ListLemmas.{IsParted, parted}

-- the places of what is put off
abbrev pub places : List PutOff → List ℕ
places xs = map (λ (x : PutOff). x.place) xs

-- the stop that a declaration of an instance makes of a module
abbrev pub stop_at : Program → Instance → Declaration → ModuleTree → Stop
stop_at p caller d m = record {
  caller = caller;
  given = d.given;
  here = record { name = caller.name ++ d.name.name ∷ []; from = m; formals = arguments p caller (caller.name ++ d.name.name ∷ []) m.formals d.given };
}

-- where the module is known
pub stop-made : (p : Program) (caller : Instance) (d : Declaration) (m : ModuleTree) → module_named p d.from.name ≡ Some m → stop_in p caller d ≡ stop_at p caller d m ∷ []
stop-made p caller d m h = ap (λ o. option_map_or (λ (m : ModuleTree). stop_at p caller d m ∷ []) o []) h

-- What is put off at the places from one on, for so many stops.
pub record PutsOff (p : Program) (k place : ℕ) (items : List PutOff) (stops : List Stop) : Type 0 where
  pub each : AllByRecursion (IsPutOff p (suc k)) items
  pub are : flat_map (stop_of p) items ≡ stops
  pub many : length items ≡ length stops
  pub low : AllByRecursion (λ (x : PutOff). x.place < place + length items) items
  pub there : (i : ℕ) → place ≤ i → i < place + length items → has (places items) i ≡ true

-- nothing
puts-none : (p : Program) (k place : ℕ) → PutsOff p k place [] []
puts-none p k place = record { each = tt; are = refl; many = refl; low = tt; there = λ i low high. absurd (omega arith) }

-- one after another
puts-both : (p : Program) (k place : ℕ) (xs ys : List PutOff) (as' bs : List Stop) → PutsOff p k place xs as' → PutsOff p k (place + length xs) ys bs → PutsOff p k place (xs ++ ys) (as' ++ bs)
puts-both p k place xs ys as' bs a b = record {
  each = all-append (IsPutOff p (suc k)) xs ys a.each b.each;
  are = flat_map-append (stop_of p) xs ys ∙ ap (λ zs. zs ++ flat_map (stop_of p) ys) a.are ∙ ap (λ zs. as' ++ zs) b.are;
  many = let m = a.many in let n = b.many in omega (arith, m, n, length-append xs ys, length-append as' bs);
  low =
      let e = length-append xs ys in
      all-append (λ (x : PutOff). x.place < place + length (xs ++ ys)) xs ys
      (all-then (λ (x : PutOff). x.place < place + length xs) (λ (x : PutOff). x.place < place + length (xs ++ ys)) (λ x less. omega arith) xs a.low)
      (all-then (λ (x : PutOff). x.place < (place + length xs) + length ys) (λ (x : PutOff). x.place < place + length (xs ++ ys)) (λ x less. omega arith) ys b.low);
  there = λ i low high. ap (λ zs. has zs i) (map-append (λ (x : PutOff). x.place) xs ys) ∙ has-append (places xs) (places ys) i ∙ by-place i low (let e = length-append xs ys in omega arith);
}
  where
    by-place : (i : ℕ) → place ≤ i → i < place + (length xs + length ys) → (has (places xs) i || has (places ys) i) ≡ true
    by-place i low high = elim (cases_lt i (place + length xs)) [
      | inl less ↦ or-left (has (places xs) i) (has (places ys) i) (a.there i low less)
      | inr more ↦ or-right (has (places xs) i) (has (places ys) i) (b.there i more (omega arith))
    ]

module _ (p : Program) (s : Stop) (k : ℕ) (walked : slice_get (walk p) k ≡ Some s) where
  -- where the module of a declaration is found
  puts-found : (i place : ℕ) (rest : List Stop) (name from : Spelled) (given : List Expr) (at : Span) (o : Option ℕ)
      → place_of (module_names p) from.name ≡ o
      → slice_get s.here.from.sections i ≡ Some (section.Decl name (type.Instance from given) at)
      → is_none (module_named p from.name) ≡ false → length given ≡ formals_of p from.name
      → drop place (child_stops p) ≡ stop_in p s.here (record { name = name; from = from; given = given }) ++ rest
      → PutsOff p k place (map (λ (j : ℕ). record { «module» = j; caller = k; section = i; place = place; defines = count_by becomes_define given }) (option_to_list o)) (stop_in p s.here (record { name = name; from = from; given = given }))
  puts-found i place rest name from given at None found there known same left = let none = ap is_none (not_found p (module_names p) refl from.name found) in absurd cc
  puts-found i place rest name from given at (Some j) found there known same left = by-module (slice_get p.modules j) refl
    where
      d : Declaration
      d = record { name = name; from = from; given = given }

      by-module : (o : Option ModuleTree) → slice_get p.modules j ≡ o → PutsOff p k place (record { «module» = j; caller = k; section = i; place = place; defines = count_by becomes_define given } ∷ []) (stop_in p s.here (record { name = name; from = from; given = given }))
      by-module None e = let none = ap is_none (found_at p (module_names p) refl from.name j found ∙ e) in absurd cc
      by-module (Some m) e =
          let is : module_named p from.name ≡ Some m = found_at p (module_names p) refl from.name j found ∙ e in
          let stop : Stop = stop_at p s.here (record { name = name; from = from; given = given }) m in
          let made : stop_in p s.here (record { name = name; from = from; given = given }) ≡ stop ∷ [] = stop-made p s.here (record { name = name; from = from; given = given }) m is in
          let here : IsParted (child_stops p) place stop rest = parted (child_stops p) place stop rest (left ∙ ap (λ zs. zs ++ rest) made) in
          subst (PutsOff p k place (record { «module» = j; caller = k; section = i; place = place; defines = count_by becomes_define given } ∷ [])) (sym made) (record {
            each = (
              record {
                stop = stop;
                there = here.here;
                named = subst (λ n. module_named p n ≡ Some m) (sym (found-named p.modules from.name m is)) is;
                «module» = e;
                caller = s;
                called_by = walked;
                calls = refl;
                declared = inr (omega arith, record { name = name; from = from; place = at; there = there; made = made });
                defines = count-arguments stop m.formals given (same ∙ ap (λ o. option_map_or (λ (m : ModuleTree). length m.formals) o 0) is);
              },
              tt,
            );
            are = ap (λ o. option_to_list o ++ []) here.here;
            many = refl;
            low = (omega arith, tt);
            there = λ n low high. let same : place ≡ n = omega arith in or-left (place == n) false (subst (λ z. (place == z) ≡ true) same (number-self place));
          })

  -- the instance that a section declares
  puts-one : (i place : ℕ) (rest : List Stop) (x : Section) → slice_get s.here.from.sections i ≡ Some x
      → first (map (unknown_place p) (instance_of x)) ≡ None → first (map (wrong_place p) (instance_of x)) ≡ None
      → drop place (child_stops p) ≡ flat_map (stop_in p s.here) (instance_of x) ++ rest
      → PutsOff p k place (put_off_at (module_names p) k i place x) (flat_map (stop_in p s.here) (instance_of x))
  puts-one i place rest (section.Decl name (type.Instance from given) at) there u w left =
      let d : Declaration = record { name = name; from = from; given = given } in
      let known = none-head (is_none (module_named p from.name)) from.place [] u in
      let same = none-head (not (length given == formals_of p from.name)) from.place [] w in
      subst (PutsOff p k place (put_off_at (module_names p) k i place (section.Decl name (type.Instance from given) at))) (sym (append-nil (stop_in p s.here d)))
      (puts-found i place rest name from given at (place_of (module_names p) from.name) refl there known.0 (not-other (length given) (formals_of p from.name) same.0)
      (left ∙ ap (λ zs. zs ++ rest) (append-nil (stop_in p s.here d))))
  puts-one i place rest (section.Decl name type.Boolean at) there u w left = puts-none p k place
  puts-one i place rest (section.Decl name (type.List values) at) there u w left = puts-none p k place
  puts-one i place rest (section.Decl name (type.Between low high) at) there u w left = puts-none p k place
  puts-one i place rest (section.Define name body) there u w left = puts-none p k place
  puts-one i place rest (section.Assign when target body) there u w left = puts-none p k place
  puts-one i place rest (section.Cond kind body) there u w left = puts-none p k place

  -- the instances that the sections declare
  puts-all : (ss : List Section) (i place : ℕ) (rest : List Stop) → ((j : ℕ) → slice_get s.here.from.sections (i + j) ≡ slice_get ss j)
      → first (map (unknown_place p) (flat_map instance_of ss)) ≡ None → first (map (wrong_place p) (flat_map instance_of ss)) ≡ None
      → drop place (child_stops p) ≡ flat_map (stop_in p s.here) (flat_map instance_of ss) ++ rest
      → PutsOff p k place (put_off_from (module_names p) k i place ss) (flat_map (stop_in p s.here) (flat_map instance_of ss))
  puts-all [] i place rest same u w left = puts-none p k place
  puts-all (x ∷ xs) i place rest same u w left =
      let ds : List Declaration = flat_map instance_of xs in
      let unknown = first-parts (map (unknown_place p) (instance_of x)) (map (unknown_place p) ds) (sym (ap first (map-append (unknown_place p) (instance_of x) ds)) ∙ u) in
      let wrong = first-parts (map (wrong_place p) (instance_of x)) (map (wrong_place p) ds) (sym (ap first (map-append (wrong_place p) (instance_of x) ds)) ∙ w) in
      let here-stops : List Stop = flat_map (stop_in p s.here) (instance_of x) in
      let rest-stops : List Stop = flat_map (stop_in p s.here) ds in
      let split : flat_map (stop_in p s.here) (instance_of x ++ ds) ≡ here-stops ++ rest-stops = flat_map-append (stop_in p s.here) (instance_of x) ds in
      let before : drop place (child_stops p) ≡ here-stops ++ (rest-stops ++ rest) = left ∙ ap (λ zs. zs ++ rest) split ∙ append_assoc here-stops rest-stops rest in
      let at-start : i + 0 ≡ i = omega arith in
      let here : PutsOff p k place (put_off_at (module_names p) k i place x) here-stops =
      puts-one i place (rest-stops ++ rest) x (sym (ap (slice_get s.here.from.sections) at-start) ∙ same 0) unknown.0 wrong.0 before in
      let items : List PutOff = put_off_at (module_names p) k i place x in
      subst (PutsOff p k place (put_off_from (module_names p) k i place (x ∷ xs))) (sym split)
      (puts-both p k place items (put_off_from (module_names p) k (i + 1) (place + length items) xs) here-stops rest-stops here
      (puts-all xs (i + 1) (place + length items) rest
      (λ j. let next : (i + 1) + j ≡ i + suc j = omega arith in ap (slice_get s.here.from.sections) next ∙ same (suc j))
      unknown.1 wrong.1
      (sym (drop-drop (length items) place (child_stops p))
      ∙ ap (drop (length items)) before
      ∙ ap (λ n. drop n (here-stops ++ (rest-stops ++ rest))) here.many
      ∙ drop-append_seam here-stops (rest-stops ++ rest))))
    where
      first-parts : (xs ys : List (Option Span)) → first (xs ++ ys) ≡ None → (first xs ≡ None) × (first ys ≡ None)
      first-parts xs ys h = or-none (first xs) (first ys) (sym (first-append xs ys) ∙ h)

  -- a stop puts off those right below it
  pub puts-below : (rest : List Stop) (place : ℕ) → IsSound p s.here.from → drop place (child_stops p) ≡ stops_below p s ++ rest
      → PutsOff p k place (put_off_from (module_names p) k 0 place s.here.from.sections) (stops_below p s)
  puts-below rest place sound left =
      puts-all s.here.from.sections 0 place rest (λ j. let e : 0 + j ≡ j = omega arith in ap (slice_get s.here.from.sections) e)
      sound.known
      (none-head (is_main p s.here.from && nat_lt 0 (length s.here.from.formals)) s.here.from.name.place (map (wrong_place p) (instances s.here.from)) sound.arguments).1
      left
