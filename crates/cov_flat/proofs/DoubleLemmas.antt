-- Second assignments, by things, by numbers, and by a table.
use Rattle.std.proofs.Common.{◌≡◌, ℕ, ◌+◌, ◌<◌, ◌++◌, ◌∷◌, [], Bool, true, false, cond, ◌&&◌, ◌||◌, List, length, map, take, drop, reverse, get_or, Option, Some, None, refl, sym, ap, ◌∙◌, arith}
use Rattle.std.specs.Prelude.{◌==◌, slice_get, option_map}
use Rattle.std.specs.List.{list_any, list_all, flat_map}
use Rattle.std.proofs.lemmas.List.{take_more, reverse-append, drop_more}
use Rattle.cov_syntax.specs.declared.tree.Span.{Span}
use Rattle.cov_syntax.specs.declared.program.When.{When}
use Rattle.cov_syntax.specs.declared.program.When.TheVariants as when
use Rattle.cov_syntax.specs.declared.program.Program.{Program}
use Rattle.cov_modules.specs.Names.{Dotted, same_name}
use Rattle.cov_modules.specs.Things.{Thing, variable, define, instance, symbol}
use Rattle.cov_modules.specs.Walk.{Stop, walk}
use Rattle.cov_modules.specs.FlatLists.{Index, index_of, place_in, Assignment, assign_of, assignments}
use Rattle.cov_modules.specs.NameFaults.{is_variable, same_target, excludes, double, double_assign}
use Rattle.cov_flat.specs.declared.doubles.Assigned.{Assigned}
use Rattle.cov_flat.specs.declared.forms.Forms.{Forms}
use Rattle.cov_flat.specs.Reading.{flat_walk, flat_index, variable_of}
use Rattle.cov_flat.specs.Doubles.{Mark, mark_at, marks_of, mark_of, marks, forms_exclude, double_mark, double_number, no_form, with_form, forms_of, excludes_form}
use Rattle.cov_flat.proofs.ListLemmas.{fused, flat_map-same}

-- ---- the table

-- one more form, by the forms that there are
form_step : (a b : When) (n f x : Bool) → (forms_exclude a b || excludes_form (record { now = n; first = f; next = x }) a) ≡ excludes_form (with_form b (record { now = n; first = f; next = x })) a
form_step when.Now when.Now n f x = refl
form_step when.Now when.First true f x = refl
form_step when.Now when.First false f x = refl
form_step when.Now when.Next true f x = refl
form_step when.Now when.Next false true x = refl
form_step when.Now when.Next false false x = refl
form_step when.First when.Now n f x = refl
form_step when.First when.First true f x = refl
form_step when.First when.First false f x = refl
form_step when.First when.Next n f x = refl
form_step when.Next when.Now n f x = refl
form_step when.Next when.First n f x = refl
form_step when.Next when.Next true f x = refl
form_step when.Next when.Next false f x = refl

no_form_excludes : (a : When) → false ≡ excludes_form no_form a
no_form_excludes when.Now = refl
no_form_excludes when.First = refl
no_form_excludes when.Next = refl

same_either_way : (i j : ℕ) → (i == j) ≡ (j == i)
same_either_way i j = grind arith

-- by whether both are about one variable
any_by : (a b : Assigned) (f : Forms) (rest same : Bool) → rest ≡ excludes_form f a.when → ((same && forms_exclude a.when b.when) || rest) ≡ excludes_form (cond same (with_form b.when f) f) a.when
any_by a b f rest true h = ap (λ r. forms_exclude a.when b.when || r) h ∙ form_step a.when b.when f.now f.first f.next
any_by a b f rest false h = h

-- the forms tell whether one of the assignments excludes this one
pub any_forms : (a : Assigned) (before : List Assigned) → list_any (λ (b : Assigned). (a.var == b.var) && forms_exclude a.when b.when) before ≡ excludes_form (forms_of before a.var) a.when
any_forms a [] = no_form_excludes a.when
any_forms a (b ∷ bs) =
    any_by a b (forms_of bs a.var) (list_any (λ (b : Assigned). (a.var == b.var) && forms_exclude a.when b.when) bs) (a.var == b.var) (any_forms a bs)
    ∙ ap (λ same. excludes_form (cond same (with_form b.when (forms_of bs a.var)) (forms_of bs a.var)) a.when) (same_either_way a.var b.var)

-- ---- things

not_variable_right : (t u : Option Thing) → is_variable u ≡ false → same_target t u ≡ false
not_variable_right None u h = refl
not_variable_right (Some (variable d)) None h = refl
not_variable_right (Some (variable d)) (Some (variable e)) h = absurd cc
not_variable_right (Some (variable d)) (Some (define e)) h = refl
not_variable_right (Some (variable d)) (Some (instance e m)) h = refl
not_variable_right (Some (variable d)) (Some (symbol i)) h = refl
not_variable_right (Some (define d)) u h = refl
not_variable_right (Some (instance d m)) u h = refl
not_variable_right (Some (symbol i)) u h = refl

not_variable_left : (t u : Option Thing) → is_variable t ≡ false → same_target t u ≡ false
not_variable_left None u h = refl
not_variable_left (Some (variable d)) u h = absurd cc
not_variable_left (Some (define d)) u h = refl
not_variable_left (Some (instance d m)) u h = refl
not_variable_left (Some (symbol i)) u h = refl

-- whether two marks exclude each other
abbrev mark_excludes : Mark → Mark → Bool
mark_excludes a b = same_target a.target b.target && forms_exclude a.when b.when

abbrev mark_is : Assignment → Mark
mark_is a = record { when = a.when; target = a.target; place = a.place }

any_mark_by : (a b : Assignment) (rest : List Mark) (r is : Bool) → is_variable b.target ≡ is → r ≡ list_any (mark_excludes (mark_is a)) rest
    → (excludes a b || r) ≡ list_any (mark_excludes (mark_is a)) ((cond is (mark_is b ∷ []) []) ++ rest)
any_mark_by a b rest r true e h = ap (λ s. excludes a b || s) h
any_mark_by a b rest r false e h = ap (λ s. (s && forms_exclude a.when b.when) || r) (not_variable_right a.target b.target e) ∙ h

-- assignments to no variable exclude none
any_marks : (a : Assignment) (before : List Assignment) → list_any (excludes a) before ≡ list_any (mark_excludes (mark_is a)) (flat_map mark_at before)
any_marks a [] = refl
any_marks a (b ∷ bs) = any_mark_by a b (flat_map mark_at bs) (list_any (excludes a) bs) (is_variable b.target) refl (any_marks a bs)

none_excluded : (a : Assignment) → is_variable a.target ≡ false → (before : List Assignment) → list_any (excludes a) before ≡ false
none_excluded a e [] = refl
none_excluded a e (b ∷ bs) = ap (λ s. (s && forms_exclude a.when b.when) || list_any (excludes a) bs) (not_variable_left a.target b.target e) ∙ none_excluded a e bs

double_by : (a : Assignment) (before : List Assignment) (rest : List Mark) (after : Option Span) (is : Bool) → is_variable a.target ≡ is
    → after ≡ double_mark ((cond is (mark_is a ∷ []) []) ++ flat_map mark_at before) rest
    → cond (list_any (excludes a) before) (Some a.place) after ≡ double_mark (flat_map mark_at before) ((cond is (mark_is a ∷ []) []) ++ rest)
double_by a before rest after true e h = ap (λ b. cond b (Some a.place) after) (any_marks a before) ∙ ap (λ o. cond (list_any (mark_excludes (mark_is a)) (flat_map mark_at before)) (Some a.place) o) h
double_by a before rest after false e h = ap (λ b. cond b (Some a.place) after) (none_excluded a e before) ∙ h

-- the first second assignment is that to a variable
pub double_marks : (before as' : List Assignment) → double before as' ≡ double_mark (flat_map mark_at before) (flat_map mark_at as')
double_marks before [] = refl
double_marks before (a ∷ as') = double_by a before (flat_map mark_at as') (double (a ∷ before) as') (is_variable a.target) refl (double_marks (a ∷ before) as')

and_both : (a b : Bool) → (a && b) ≡ true → (a ≡ true) × (b ≡ true)
and_both true b h = (refl, h)
and_both false b h = absurd cc

-- ---- numbers

same_name-self : (d : Dotted) → same_name d d ≡ true
same_name-self [] = refl
same_name-self (i ∷ is) = let same : (i == i) ≡ true = grind arith in ap (λ b. b && same_name is is) same ∙ same_name-self is

heads : (i j : ℕ) (is js : Dotted) (b : Bool) → (i == j) ≡ b → (same_name is js ≡ true → is ≡ js) → (b && same_name is js) ≡ true → i ∷ is ≡ j ∷ js
heads i j is js true e f h = let first : i ≡ j = grind arith in ap (λ (k : ℕ). k ∷ is) first ∙ ap (λ (ks : Dotted). j ∷ ks) (f h)
heads i j is js false e f h = absurd cc

same_name-eq : (d e : Dotted) → same_name d e ≡ true → d ≡ e
same_name-eq [] [] h = refl
same_name-eq [] (j ∷ js) h = absurd cc
same_name-eq (i ∷ is) [] h = absurd cc
same_name-eq (i ∷ is) (j ∷ js) h = heads i j is js (i == j) refl (same_name-eq is js) h

module _ (vars : List Dotted) (law : (i : ℕ) (d : Dotted) → slice_get vars i ≡ Some d → place_in vars d ≡ i) where
  abbrev at : ℕ → Option Thing
  at i = option_map variable (slice_get vars i)

  by_names : (i j : ℕ) (d e : Dotted) → slice_get vars i ≡ Some d → slice_get vars j ≡ Some e → (same named : Bool) → (i == j) ≡ same → same_name d e ≡ named → named ≡ same
  by_names i j d e hi hj true true h k = refl
  by_names i j d e hi hj false false h k = refl
  by_names i j d e hi hj true false h k =
      let one : i ≡ j = grind arith in
      let same : d ≡ e = let there : Some d ≡ Some e = sym hi ∙ ap (slice_get vars) one ∙ hj in cc in
      absurd (let self : same_name d e ≡ true = ap (same_name d) (sym same) ∙ same_name-self d in cc)
  by_names i j d e hi hj false true h k =
      let same : d ≡ e = same_name-eq d e k in
      let one : i ≡ j = sym (law i d hi) ∙ ap (place_in vars) same ∙ law j e hj in
      absurd (let self : (i == i) ≡ true = grind arith in let both : (i == j) ≡ true = ap (λ (m : ℕ). i == m) (sym one) ∙ self in cc)

  by_items : (i j : ℕ) (o r : Option Dotted) → slice_get vars i ≡ o → slice_get vars j ≡ r → is_variable (option_map variable o) ≡ true → is_variable (option_map variable r) ≡ true
      → same_target (option_map variable o) (option_map variable r) ≡ (i == j)
  by_items i j (Some d) (Some e) hi hj is js = by_names i j d e hi hj (i == j) (same_name d e) refl refl
  by_items i j None r hi hj is js = absurd cc
  by_items i j (Some d) None hi hj is js = absurd cc

  -- two variables are one where they have one number
  pub same_number : (i j : ℕ) → is_variable (at i) ≡ true → is_variable (at j) ≡ true → same_target (at i) (at j) ≡ (i == j)
  same_number i j is js = by_items i j (slice_get vars i) (slice_get vars j) refl refl is js

module _ (ix : Index) (law : (i : ℕ) (d : Dotted) → slice_get ix.vars i ≡ Some d → place_in ix.vars d ≡ i) where
  -- the variable of the assignment is there
  abbrev is_known : Assigned → Bool
  is_known a = is_variable (variable_of ix (Some a.var))

  any_numbers : (a : Assigned) → is_known a ≡ true → (before : List Assigned) → list_all is_known before ≡ true
      → list_any (mark_excludes (mark_of ix a)) (map (mark_of ix) before) ≡ list_any (λ (b : Assigned). (a.var == b.var) && forms_exclude a.when b.when) before
  any_numbers a k [] h = refl
  any_numbers a k (b ∷ bs) h =
      let both : (is_known b ≡ true) × (list_all is_known bs ≡ true) = and_both (is_known b) (list_all is_known bs) h in
      ap (λ same. (same && forms_exclude a.when b.when) || list_any (mark_excludes (mark_of ix a)) (map (mark_of ix) bs)) (same_number ix.vars law a.var b.var k both.0)
      ∙ ap (λ rest. ((a.var == b.var) && forms_exclude a.when b.when) || rest) (any_numbers a k bs both.1)

  -- the first second assignment, by numbers
  pub double_numbers : (before found : List Assigned) → list_all is_known before ≡ true → list_all is_known found ≡ true
      → double_mark (map (mark_of ix) before) (map (mark_of ix) found) ≡ double_number before found
  double_numbers before [] h k = refl
  double_numbers before (a ∷ rest) h k =
      let both : (is_known a ≡ true) × (list_all is_known rest ≡ true) = and_both (is_known a) (list_all is_known rest) k in
      let more : list_all is_known (a ∷ before) ≡ true = ap (λ b. b && list_all is_known before) both.0 ∙ h in
      ap (λ b. cond b (Some a.place) (double_mark (map (mark_of ix) (a ∷ before)) (map (mark_of ix) rest))) (any_numbers a both.0 before h)
      ∙ ap (λ o. cond (list_any (λ (b : Assigned). (a.var == b.var) && forms_exclude a.when b.when) before) (Some a.place) o) (double_numbers (a ∷ before) rest more both.1)

-- ---- all of the walk

abbrev has_variable : Mark → Bool
has_variable m = is_variable m.target

all_by : (a : Assignment) (rest : List Mark) (is : Bool) → is_variable a.target ≡ is → list_all has_variable rest ≡ true → list_all has_variable ((cond is (mark_is a ∷ []) []) ++ rest) ≡ true
all_by a rest true e h = ap (λ b. b && list_all has_variable rest) e ∙ h
all_by a rest false e h = h

-- marks are assignments to variables
all_variables : (as' : List Assignment) → list_all has_variable (flat_map mark_at as') ≡ true
all_variables [] = refl
all_variables (a ∷ as') = all_by a (flat_map mark_at as') (is_variable a.target) refl (all_variables as')

list_all-map : {A B : Type 0} (t : B → Bool) (f : A → B) (xs : List A) → list_all t (map f xs) ≡ list_all (λ x. t (f x)) xs
list_all-map t f [] = refl
list_all-map t f (x ∷ xs) = ap (λ b. t (f x) && b) (list_all-map t f xs)

-- the marks of the assignments are those of the stops
marks_all : (p : Program) (w : List Stop) → flat_map mark_at (assignments p w) ≡ flat_map (marks_of p) w
marks_all p w =
    fused mark_at (λ (s : Stop). flat_map (assign_of p s.here) s.here.from.sections) w
    ∙ flat_map-same (λ (s : Stop). flat_map mark_at (flat_map (assign_of p s.here) s.here.from.sections)) (marks_of p) (λ (s : Stop). fused mark_at (assign_of p s.here) s.here.from.sections) w

-- the first second assignment of the walk, by the numbers of the variables
pub double_is : (p : Program) (found : List Assigned) → ((i : ℕ) (d : Dotted) → slice_get (index_of p).vars i ≡ Some d → place_in (index_of p).vars d ≡ i)
    → marks p found ≡ flat_map (marks_of p) (flat_walk p) → double_number [] found ≡ double_assign p
unfolding flat_walk flat_index
double_is p found law is =
    let same : map (mark_of (index_of p)) found ≡ flat_map mark_at (assignments p (walk p)) = is ∙ sym (marks_all p (walk p)) in
    let known : list_all (λ (a : Assigned). is_variable (variable_of (index_of p) (Some a.var))) found ≡ true
    = sym (list_all-map has_variable (mark_of (index_of p)) found) ∙ ap (list_all has_variable) same ∙ all_variables (assignments p (walk p)) in
    sym (double_numbers (index_of p) law [] found refl known)
    ∙ ap (double_mark []) same
    ∙ sym (double_marks [] (assignments p (walk p)))

-- ---- a loop through the assignments

module _ (xs : List Assigned) (i : ℕ) (d : Assigned) (below : i < length xs) where
  abbrev met : List Assigned
  met = reverse (take i xs)

  abbrev here : Assigned
  here = get_or xs i d

  next_met : reverse (take (i + 1) xs) ≡ here ∷ met
  next_met = ap reverse (take_more xs i d below) ∙ reverse-append (take i xs) (here ∷ [])

  module _ (table : ℕ → Forms) (tells : (j : ℕ) → table j ≡ forms_of met j) where
    abbrev rest : Option Span
    rest = double_number (here ∷ met) (drop (i + 1) xs)

    now_is : double_number met (drop i xs) ≡ cond (excludes_form (table here.var) here.when) (Some here.place) rest
    now_is =
        ap (double_number met) (drop_more xs i d below)
        ∙ ap (λ b. cond b (Some here.place) rest) (any_forms here met ∙ ap (λ f. excludes_form f here.when) (sym (tells here.var)))

    -- one before it excludes it
    pub double_hit : excludes_form (table here.var) here.when ≡ true → double_number met (drop i xs) ≡ Some here.place
    double_hit h = now_is ∙ ap (λ b. cond b (Some here.place) rest) h

    -- none does
    pub double_miss : excludes_form (table here.var) here.when ≡ false → double_number (reverse (take (i + 1) xs)) (drop (i + 1) xs) ≡ double_number met (drop i xs)
    double_miss h = ap (λ ms. double_number ms (drop (i + 1) xs)) next_met ∙ sym (now_is ∙ ap (λ b. cond b (Some here.place) rest) h)

    put_by : (j : ℕ) (same : Bool) → (here.var == j) ≡ same → cond same (with_form here.when (table here.var)) (table j) ≡ cond same (with_form here.when (forms_of met j)) (forms_of met j)
    put_by j true e = let one : here.var ≡ j = grind arith in ap (with_form here.when) (tells here.var ∙ ap (forms_of met) one)
    put_by j false e = tells j

    -- the table with the forms of one more
    pub table_put : (new : ℕ → Forms) → ((j : ℕ) → new j ≡ cond (here.var == j) (with_form here.when (table here.var)) (table j)) → (j : ℕ) → new j ≡ forms_of (reverse (take (i + 1) xs)) j
    table_put new put j = put j ∙ put_by j (here.var == j) refl ∙ ap (λ ms. forms_of ms j) (sym next_met)
