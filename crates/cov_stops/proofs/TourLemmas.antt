-- The flat walk with a stack: how it begins, and one stop further.
use Rattle.std.proofs.Common.{◌≡◌, ℕ, zero, suc, ◌+◌, ◌<◌, ◌≤◌, ◌⊎◌, inl, inr, Bool, true, false, cond, ◌==◌, ◌||◌, List, [], ◌∷◌, ◌++◌, map, find, length, take, drop, slice_get, slice_set, count_by, Option, Some, None, is_none, refl, sym, ap, subst, ◌∙◌, arith, length-append, codes}
use Rattle.std.specs.List.{flat_map, zip, AllByRecursion}
use Rattle.std.specs.Str.{bytes_eq}
use Rattle.std.specs.Option.{option_map_or, option_to_list}
use Rattle.std.proofs.lemmas.Bool.{cases_lt}
use Rattle.std.proofs.lemmas.Grind.{flat_map-append}
use Rattle.std.proofs.lemmas.List.{append-nil, map-append, length-map, length-set, length-take-le}
use Rattle.std.proofs.lemmas.Option.{slice_get_within}
use Rattle.std.proofs.Math.Seq.{drop-append-add}
use Rattle.cov_syntax.specs.declared.program.Spelled.{Spelled}
use Rattle.cov_syntax.specs.declared.program.Section.{Section}
use Rattle.cov_syntax.specs.declared.program.ModuleTree.{ModuleTree}
use Rattle.cov_syntax.specs.declared.program.Program.{Program}
use Rattle.cov_modules.specs.Names.{text, has}
use Rattle.cov_modules.specs.Modules.{module_names, module_named, is_main, main_of}
use Rattle.cov_modules.specs.Walk.{Stop, stops_below, walk_from, root, walk}
use Rattle.cov_modules.specs.FlatLists.{var_of, define_of_argument, defines_at, flat_vars, flat_defines}
use Rattle.cov_modules.specs.ModuleFaults.{modules_fault}
use Rattle.cov_modules.proofs.NameLemmas.{has-append, same-number, number-self}
use Rattle.cov_modules.proofs.HasLemmas.{or-left, or-right, or-split}
use Rattle.cov_modules.proofs.LawLemmas.{has-no-fault, module-sound, main-there}
use Rattle.cov_stops.specs.declared.stops.Entry.{Entry}
use Rattle.cov_stops.specs.declared.put_off.PutOff.{PutOff}
use Rattle.cov_stops.specs.Counted.{is_variable, is_define}
use Rattle.cov_stops.specs.Coming.{put_off_from, no_number}
use Rattle.cov_stops.specs.Touring.{walk_at, all_below, child_stops, stop_of, entry_of, IsPutOff, IsNoted, IsNumbered, IsTouring}
use Rattle.cov_stops.proofs.CountLemmas.{count-variables, count-all}
use Rattle.cov_stops.proofs.LevelLemmas.{all-then, all-append, walk-step}
use Rattle.cov_stops.proofs.ListLemmas.{IsParted, parted, drop-at, get-within, get-last, length-last, get-set, get-other, flat-drop, flat-more}
use Rattle.cov_stops.proofs.ComingLemmas.{places, PutsOff, puts-below}

-- ---- the beginning

-- `main` is the first module of its name
main-first : (p : Program) (ms : List ModuleTree) (m : ModuleTree) → find (is_main p) ms ≡ Some m → (find (λ (k : ModuleTree). k.name.name == m.name.name) ms ≡ Some m) × (is_main p m ≡ true)
main-first p [] m e = absurd cc
main-first p (n ∷ ms) m e = by-test (is_main p n) refl (n.name.name == m.name.name) refl (find (is_main p) ms) (find (λ (k : ModuleTree). k.name.name == m.name.name) ms) (main-first p ms m) e
  where
    by-test : (b : Bool) → is_main p n ≡ b → (t : Bool) → (n.name.name == m.name.name) ≡ t → (o r : Option ModuleTree) → (o ≡ Some m → (r ≡ Some m) × (is_main p m ≡ true)) → cond b (Some n) o ≡ Some m
        → (cond t (Some n) r ≡ Some m) × (is_main p m ≡ true)
    by-test true is true at o r rest e = let same : n ≡ m = cc in (ap Some same, subst (λ k. is_main p k ≡ true) same is)
    by-test true is false at o r rest e = let same : n ≡ m = cc in let self = number-self m.name.name in let other : (m.name.name == m.name.name) ≡ false = subst (λ (k : ModuleTree). (k.name.name == m.name.name) ≡ false) same at in absurd cc
    by-test false is true at o r rest e =
        let named : is_main p n ≡ is_main p m = ap (λ i. bytes_eq (text p.names i) (codes "main")) (same-number n.name.name m.name.name at) in
        let main = (rest e).1 in absurd cc
    by-test false is false at o r rest e = rest e

-- no arguments
no-arguments : (s : Stop) (fs : List Spelled) → 0 ≡ length (flat_map (define_of_argument s) (zip fs []))
no-arguments s [] = refl
no-arguments s (f ∷ fs) = refl

-- the stops below, from a place among the children on
pub child-drop : (p : Program) (n : ℕ) (s : Stop) (rest : List Stop) → drop n (walk p) ≡ s ∷ rest
    → drop (1 + length (all_below p (take n (walk p)))) (child_stops p) ≡ stops_below p s ++ all_below p rest
child-drop p n s rest left =
    let some : 1 ≤ length (walk p) = let b = (parted (walk p) n s rest left).below in omega arith in
    let one : length (take 1 (walk p)) ≡ 1 = length-take-le 1 (walk p) some in
    ap (λ k. drop (k + length (all_below p (take n (walk p)))) (child_stops p)) (sym one)
    ∙ drop-append-add (take 1 (walk p)) (all_below p (walk p)) (length (all_below p (take n (walk p))))
    ∙ flat-drop (stops_below p) (walk p) n s rest left

module _ (p : Program) (sound : modules_fault p ≡ None) (main : ℕ) (m : ModuleTree) (at : slice_get p.modules main ≡ Some m) (is : main_of p ≡ Some m) where
  abbrev first_put_off : PutOff
  first_put_off = record { «module» = main; caller = 0; section = 0; place = 0; defines = 0 }

  root-named : module_named p m.name.name ≡ Some m
  root-named = (main-first p p.modules m is).0

  -- the walk is that from `main`
  walk-root : walk p ≡ walk_at p (root m)
  walk-root = ap (λ o. option_map_or (λ m. walk_from p (length p.modules) (root m)) o []) is

  walk-begins : walk p ≡ root m ∷ flat_map (walk_at p) (stops_below p (root m))
  walk-begins = walk-root ∙ walk-step p (has-no-fault p sound).circles (root m) root-named

  root-child : slice_get (child_stops p) 0 ≡ Some (root m)
  root-child = ap (λ w. slice_get (take 1 w ++ all_below p (walk p)) 0) walk-begins

  -- it begins with `main`
  pub tour-start : IsTouring p [] (0 ∷ []) (record { «module» = main; caller = 0; section = 0; place = 0; defines = 0 } ∷ []) 0 0
  tour-start = record {
    left = walk-root ∙ sym (append-nil (walk_at p (root m))) ∙ sym (ap (λ o. flat_map (walk_at p) (option_to_list o ++ [])) root-child);
    within = omega arith;
    count = refl;
    kept = refl;
    numbers = λ i less. let e : 0 ≡ i = omega arith in inr (or-left (0 == i) false (subst (λ k. (0 == k) ≡ true) e refl));
    coming = (
      record {
        stop = root m;
        there = root-child;
        named = root-named;
        «module» = at;
        caller = root m;
        called_by = ap (λ w. slice_get w 0) walk-begins;
        calls = refl;
        declared = inl (refl, refl, refl, refl);
        defines = no-arguments (root m) m.formals;
      },
      tt,
    );
    placed = (omega arith, tt);
    noted = λ k e s there walked. absurd cc;
    vars_so_far = refl;
    defines_so_far = refl;
  }

-- it begins so at the place of `main`
pub tour-start-at : (p : Program) → modules_fault p ≡ None → (main : ℕ) → slice_get p.modules main ≡ main_of p → IsTouring p [] (0 ∷ []) (record { «module» = main; caller = 0; section = 0; place = 0; defines = 0 } ∷ []) 0 0
tour-start-at p sound main at = by-main (main_of p) refl (main-there p sound)
  where
    by-main : (o : Option ModuleTree) → main_of p ≡ o → is_none (main_of p) ≡ false → IsTouring p [] (0 ∷ []) (record { «module» = main; caller = 0; section = 0; place = 0; defines = 0 } ∷ []) 0 0
    by-main None e some = let none = ap is_none e in absurd cc
    by-main (Some m) e some = tour-start p sound main m (at ∙ e) e

-- ---- one stop further

-- the first of what is put off is the next stop
pub next-stop : (p : Program) (sound : modules_fault p ≡ None) (entries : List Entry) (children : List ℕ) (x : PutOff) (rest : List PutOff) (vars defines : ℕ) (t : IsTouring p entries children (x ∷ rest) vars defines)
    → IsParted (walk p) (length entries) t.coming.0.stop (flat_map (walk_at p) (stops_below p t.coming.0.stop) ++ flat_map (walk_at p) (flat_map (stop_of p) rest))
next-stop p sound entries children x rest vars defines t =
    let s : Stop = t.coming.0.stop in
    let after : List Stop = flat_map (walk_at p) (flat_map (stop_of p) rest) in
    parted (walk p) (length entries) s (flat_map (walk_at p) (stops_below p s) ++ after)
    (t.left
    ∙ ap (λ o. flat_map (walk_at p) (option_to_list o ++ flat_map (stop_of p) rest)) t.coming.0.there
    ∙ ap (λ ys. ys ++ after) (walk-step p (has-no-fault p sound).circles s t.coming.0.named))

-- what is put off stays so behind one more stop
still-put-off : (p : Program) (k : ℕ) → 0 < k → (x : PutOff) → IsPutOff p k x → IsPutOff p (suc k) x
still-put-off p k some x a = record {
  stop = a.stop;
  there = a.there;
  named = a.named;
  «module» = a.module;
  caller = a.caller;
  called_by = a.called_by;
  calls = a.calls;
  declared = elim a.declared [ inl first ↦ (let none = first.0 in absurd (omega arith)) | inr d ↦ (let less = d.0 in inr (omega arith, d.1)) ];
  defines = a.defines;
}

-- where more is put off, there was a stop
some-before : (p : Program) (k more : ℕ) → k + suc (suc more) ≡ 1 + length (all_below p (take k (walk p))) → 0 < k
some-before p zero more h = absurd (omega arith)
some-before p (suc k) more h = omega arith

module _ (p : Program) (sound : modules_fault p ≡ None) (entries : List Entry) (children : List ℕ) (x : PutOff) (rest : List PutOff) (vars defines : ℕ) (t : IsTouring p entries children (x ∷ rest) vars defines) where
  next : IsParted (walk p) (length entries) t.coming.0.stop (flat_map (walk_at p) (stops_below p t.coming.0.stop) ++ flat_map (walk_at p) (flat_map (stop_of p) rest))
  next = next-stop p sound entries children x rest vars defines t

  abbrev items : List PutOff
  items = put_off_from (module_names p) (length entries) 0 (length children) t.coming.0.stop.here.from.sections

  -- the stop puts those below it off
  puts : PutsOff p (length entries) (length children) items (stops_below p t.coming.0.stop)
  puts =
      let left : drop (length entries) (walk p) ≡ t.coming.0.stop ∷ drop (suc (length entries)) (walk p) = drop-at (walk p) (length entries) t.coming.0.stop next.here in
      puts-below p t.coming.0.stop (length entries) next.here (all_below p (drop (suc (length entries)) (walk p))) (length children)
      (module-sound p sound x.module t.coming.0.stop.here.from t.coming.0.module)
      (ap (λ k. drop k (child_stops p)) t.kept ∙ child-drop p (length entries) t.coming.0.stop (drop (suc (length entries)) (walk p)) left)

  others-stay : (ys : List PutOff) → length entries + suc (length ys) ≡ 1 + length (all_below p (take (length entries) (walk p))) → AllByRecursion (IsPutOff p (length entries)) ys → AllByRecursion (IsPutOff p (suc (length entries))) ys
  others-stay [] h a = tt
  others-stay (y ∷ ys) h a = all-then (IsPutOff p (length entries)) (IsPutOff p (suc (length entries))) (still-put-off p (length entries) (some-before p (length entries) (length ys) h)) (y ∷ ys) a

  abbrev more : List ℕ
  more = slice_set children x.place (length entries) ++ map no_number items

  length-more : length more ≡ length children + length items
  length-more = length-append (slice_set children x.place (length entries)) (map no_number items)
      ∙ ap (λ k. k + length (map no_number items)) (length-set children x.place (length entries))
      ∙ ap (λ k. length children + k) (length-map items no_number)

  -- the places among the children
  numbers-next : (i : ℕ) → i < length more → IsNumbered p more i ⊎ (has (places (items ++ rest)) i ≡ true)
  numbers-next i less = elim (cases_lt i (length children)) [
    | inr new ↦ inr (ap (λ zs. has zs i) (map-append (λ (x : PutOff). x.place) items rest) ∙ has-append (places items) (places rest) i
        ∙ or-left (has (places items) i) (has (places rest) i) (puts.there i new (let l = length-more in omega arith)))
    | inl old ↦ by-place old (x.place == i) refl
  ]
    where
      within : i < length children → slice_get more i ≡ slice_get (slice_set children x.place (length entries)) i
      within old = get-within (slice_set children x.place (length entries)) (map no_number items) i (let l = length-set children x.place (length entries) in omega arith)

      stays : has (places rest) i ≡ true → has (places (items ++ rest)) i ≡ true
      stays h = ap (λ zs. has zs i) (map-append (λ (x : PutOff). x.place) items rest) ∙ has-append (places items) (places rest) i ∙ or-right (has (places items) i) (has (places rest) i) h

      by-place : i < length children → (b : Bool) → (x.place == i) ≡ b → IsNumbered p more i ⊎ (has (places (items ++ rest)) i ≡ true)
      by-place old true is =
          let same : x.place ≡ i = same-number x.place i is in
          inl (record {
            number = length entries;
            there = within old ∙ subst (λ k. slice_get (slice_set children x.place (length entries)) k ≡ Some (length entries)) same (get-set children x.place (length entries) (omega arith));
            walked = next.here ∙ sym t.coming.0.there ∙ ap (slice_get (child_stops p)) same;
            before = let kept = t.kept in omega arith;
          })
      by-place old false is = elim (t.numbers i old) [
        | inl a ↦ inl (record {
          number = a.number;
          there = within old ∙ get-other children x.place i (length entries) (λ same. other (sym same)) ∙ a.there;
          walked = a.walked;
          before = a.before;
        })
        | inr h ↦ inr (stays (behind h))
      ]
        where
          other : x.place ≡ i → ⊥
          other same = let self = number-self x.place in let not-self : (x.place == x.place) ≡ false = subst (λ k. (x.place == k) ≡ false) (sym same) is in absurd cc

          behind : ((x.place == i) || has (places rest) i) ≡ true → has (places rest) i ≡ true
          behind h = elim (or-split (x.place == i) (has (places rest) i) h) [ inl here ↦ (let not-here = is in absurd cc) | inr there ↦ there ]

  -- the stops that are noted
  noted-next : (k : ℕ) (f : Entry) (r : Stop) → slice_get (entries ++ entry_of x vars defines (length children) ∷ []) k ≡ Some f → slice_get (walk p) k ≡ Some r → IsNoted p k f r
  noted-next k f r there walked = elim (cases_lt k (length entries)) [
    | inl old ↦ t.noted k f r (sym (get-within entries (entry_of x vars defines (length children) ∷ []) k old) ∙ there) walked
    | inr new ↦ at-last (let b = slice_get_within (entries ++ entry_of x vars defines (length children) ∷ []) k f there in let l = length-last entries (entry_of x vars defines (length children)) in omega arith)
  ]
    where
      last : IsNoted p (length entries) (entry_of x vars defines (length children)) t.coming.0.stop
      last = record {
        «module» = t.coming.0.module;
        named = t.coming.0.named;
        caller = t.coming.0.caller;
        called_by = t.coming.0.called_by;
        calls = t.coming.0.calls;
        declared = elim t.coming.0.declared [ inl d ↦ inl (d.0, d.3) | inr d ↦ inr d ];
        at_main = λ zero. elim t.coming.0.declared [ inl d ↦ (d.1, d.2) | inr d ↦ (let less = d.0 in absurd (omega arith)) ];
        vars_before = t.vars_so_far;
        defines_before = t.defines_so_far;
        children_from = t.kept;
      }

      at-last : k ≡ length entries → IsNoted p k f r
      at-last is =
          let entry : entry_of x vars defines (length children) ≡ f = (let a = get-last entries (entry_of x vars defines (length children)) in let b = subst (λ j. slice_get (entries ++ entry_of x vars defines (length children) ∷ []) j ≡ Some f) is there in cc) in
          let stop : t.coming.0.stop ≡ r = (let a = next.here in let b = subst (λ j. slice_get (walk p) j ≡ Some r) is walked in cc) in
          subst (λ j. IsNoted p j f r) (sym is) (subst (λ g. IsNoted p (length entries) g r) entry (subst (IsNoted p (length entries) (entry_of x vars defines (length children))) stop last))

  -- one stop further
  pub tour-next : IsTouring p (entries ++ entry_of x vars defines (length children) ∷ []) (slice_set children x.place (length entries) ++ map no_number items) (items ++ rest)
      (vars + count_by is_variable t.coming.0.stop.here.from.sections) (defines + (x.defines + count_by is_define t.coming.0.stop.here.from.sections))
  tour-next =
      let len : length (entries ++ entry_of x vars defines (length children) ∷ []) ≡ suc (length entries) = length-last entries (entry_of x vars defines (length children)) in
      let w : List Stop = walk p in
      let stop : Stop = t.coming.0.stop in
      let kept-more : length (all_below p (take (suc (length entries)) w)) ≡ length (all_below p (take (length entries) w)) + length (stops_below p stop) = flat-more (stops_below p) w (length entries) stop next.front in
      let many = puts.many in
      record {
        left = ap (λ k. drop k w) len ∙ next.after
            ∙ sym (
            ap (flat_map (walk_at p)) (flat_map-append (stop_of p) items rest ∙ ap (λ ys. ys ++ flat_map (stop_of p) rest) puts.are)
            ∙ flat_map-append (walk_at p) (stops_below p stop) (flat_map (stop_of p) rest));
        within = let b = next.below in omega arith;
        count = let l = length-more in let c = t.count in omega (arith, l, c, length-append items rest);
        kept = length-more ∙ (let k = t.kept in let more : length children + length items ≡ 1 + length (all_below p (take (suc (length entries)) w)) = omega arith in more)
            ∙ ap (λ k. 1 + length (all_below p (take k w))) (sym len);
        numbers = numbers-next;
        coming = subst (λ k. AllByRecursion (IsPutOff p k) (items ++ rest)) (sym len)
            (all-append (IsPutOff p (suc (length entries))) items rest puts.each
            (others-stay rest (let c = t.count in let k = t.kept in omega arith) t.coming.1));
        placed = subst (λ k. AllByRecursion (λ (x : PutOff). x.place < k) (items ++ rest)) (sym length-more)
            (all-append (λ (x : PutOff). x.place < length children + length items) items rest puts.low
            (all-then (λ (x : PutOff). x.place < length children) (λ (x : PutOff). x.place < length children + length items) (λ y less. omega arith) rest t.placed.1));
        noted = noted-next;
        vars_so_far =
            let so_far = t.vars_so_far in
            let own = count-variables stop.here.name stop.here.from.sections in
            let both = flat-more (λ (s : Stop). flat_map (var_of s.here.name) s.here.from.sections) w (length entries) stop next.front in
            let all : vars + count_by is_variable stop.here.from.sections ≡ length (flat_vars (take (suc (length entries)) w)) = omega arith in
            all ∙ ap (λ k. length (flat_vars (take k w))) (sym len);
        defines_so_far =
            let so_far = t.defines_so_far in
            let given = t.coming.0.defines in
            let own = count-all stop in
            let both = flat-more defines_at w (length entries) stop next.front in
            let all : defines + (x.defines + count_by is_define stop.here.from.sections) ≡ length (flat_defines (take (suc (length entries)) w)) = omega arith in
            all ∙ ap (λ k. length (flat_defines (take k w))) (sym len);
      }

-- the same walk, part by part
pub same-tour : (p : Program) (es fs : List Entry) (as' bs : List ℕ) (xs ys : List PutOff) (v w d f : ℕ) → es ≡ fs → as' ≡ bs → xs ≡ ys → v ≡ w → d ≡ f → IsTouring p es as' xs v d → IsTouring p fs bs ys w f
same-tour p es fs as' bs xs ys v w d f a b c g h t =
    subst (λ k. IsTouring p fs bs ys w k) h (subst (λ k. IsTouring p fs bs ys k d) g (subst (λ k. IsTouring p fs bs k v d) c (subst (λ k. IsTouring p fs k xs v d) b (subst (λ k. IsTouring p k as' xs v d) a t))))

-- the sections of the next stop
pub next-sections : (p : Program) (entries : List Entry) (children : List ℕ) (x : PutOff) (rest : List PutOff) (vars defines : ℕ) (t : IsTouring p entries children (x ∷ rest) vars defines)
    → (m : ModuleTree) → slice_get p.modules x.module ≡ Some m → t.coming.0.stop.here.from.sections ≡ m.sections
next-sections p entries children x rest vars defines t m at =
    let there = t.coming.0.module in
    let same : t.coming.0.stop.here.from ≡ m = cc in
    ap (λ (k : ModuleTree). k.sections) same

-- what is put off there, by the sections
pub next-items : (p : Program) (names : List ℕ) (number : ℕ) (entries : List Entry) (children after : List ℕ) (place : ℕ) (ss rs : List Section) → names ≡ module_names p → number ≡ length entries → after ≡ slice_set children place (length entries) → ss ≡ rs
    → put_off_from names number 0 (length after) rs ≡ put_off_from (module_names p) (length entries) 0 (length children) ss
next-items p names number entries children after place ss rs n k a s =
    ap (λ xs. put_off_from xs number 0 (length after) rs) n
    ∙ ap (λ j. put_off_from (module_names p) j 0 (length after) rs) k
    ∙ ap (λ j. put_off_from (module_names p) (length entries) 0 j rs) (ap length a ∙ length-set children place (length entries))
    ∙ sym (ap (put_off_from (module_names p) (length entries) 0 (length children)) s)
