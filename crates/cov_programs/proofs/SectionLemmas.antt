-- Sections that are read have what flattening asks of them.
use Rattle.std.proofs.Common.{◌≡◌, ℕ, Bool, true, false, ◌&&◌, nat_lt, is_some, List, [], ◌∷◌, ◌++◌, refl, sym, ap, subst, ◌∙◌}
use Rattle.std.specs.List.{AllByRecursion, list_all, flat_map}
use Rattle.std.proofs.lemmas.Bool.{and_from, lt-ltb}
use Rattle.std.proofs.lemmas.List.Folds.{list_all-append}
use Rattle.cov_syntax.specs.declared.lexeme.Block.{Block}
use Rattle.cov_syntax.specs.declared.program.CondKind.{CondKind}
use Rattle.cov_syntax.specs.declared.program.Section.{Section}
use Rattle.cov_syntax.specs.declared.program.Section.TheVariants as section
use Rattle.cov_syntax.specs.declared.program.Spelled.{Spelled}
use Rattle.cov_syntax.specs.declared.program.TypeTree.{TypeTree}
use Rattle.cov_syntax.specs.declared.program.When.{When}
use Rattle.cov_syntax.specs.declared.tree.Expr.{Expr, roll-Expr}
use Rattle.cov_syntax.specs.declared.tree.Node.{Node, out-Node, out-roll-Node}
use Rattle.cov_syntax.specs.declared.tree.Node.TheOpen.{Node-F}
use Rattle.cov_syntax.specs.declared.tree.Node.TheVariants as n
use Rattle.cov_syntax.specs.declared.tree.Span.{Span}
use Rattle.cov_syntax.specs.declared.tree.Value.{Value}
use Rattle.cov_syntax.specs.Lexemes.{Lexemes, span}
use Rattle.cov_syntax.specs.Reading.{Reads, ReadsExprs}
use Rattle.cov_syntax.specs.Programs.{ReadsMany, ReadsItem, ReadsType, ReadsTarget, ReadsEntry, ReadsSection, ReadsSections}
use Rattle.cov_modules.specs.Modules.{declared, Declaration, instance_of, symbol_of, symbols_of}
use Rattle.cov_modules.specs.Things.{path_of, path_layer}
use Rattle.cov_modules.specs.Conditions.{expressions_of, cited_layer, cited, is_filled, unflat_layer, is_unflat, has_path, is_enumerable, has_values}
use Rattle.cov_programs.proofs.KnownLemmas.{Known, Passes, some_pass, some_are_all, separated_passes, in_parens_passes, int_known, spelled_passes, path_passes}
use Rattle.cov_programs.proofs.TreeLemmas.{IsReadTest, expr_passes, exprs_pass, path_expr_passes}

-- ---- lists

-- all of the parts pass where all of each part do
pub list_all-flat_map : {X A : Type 0} (test : A → Bool) (f : X → List A) (xs : List X) → list_all (λ x. list_all test (f x)) xs ≡ true → list_all test (flat_map f xs) ≡ true
list_all-flat_map test f [] e = refl
list_all-flat_map test f (x ∷ xs) e = by (list_all test (f x)) refl e (λ h. list_all-flat_map test f xs h)
  where
    by : (b : Bool) → list_all test (f x) ≡ b → (b && list_all (λ y. list_all test (f y)) xs) ≡ true → (list_all (λ y. list_all test (f y)) xs ≡ true → list_all test (flat_map f xs) ≡ true)
        → list_all test (f x ++ flat_map f xs) ≡ true
    by true p h later = list_all-append test (f x) (flat_map f xs) ∙ and_from _ _ p (later h)
    by false p h later = absurd cc

AllByRecursion-append : {X : Type 0} (P : X → Type 0) (xs ys : List X) → AllByRecursion P xs → AllByRecursion P ys → AllByRecursion P (xs ++ ys)
AllByRecursion-append P [] ys p q = q
AllByRecursion-append P (x ∷ xs) ys p q = (p.0, AllByRecursion-append P xs ys p.1 q)

-- ---- expressions

all_filled : (es : List Bool) → some_pass (λ b. b) es ≡ true → (is_filled es && list_all (λ b. b) es) ≡ true
all_filled [] e = absurd cc
all_filled (b ∷ es) e = e

filled_path : (names : List ℕ) (test : ℕ → Bool) → some_pass test names ≡ true → is_filled names ≡ true
filled_path [] test e = absurd cc
filled_path (i ∷ names) test e = refl

module _ (bound : ℕ) where
  abbrev below : ℕ → Bool
  below i = nat_lt i bound

  -- the names cited in what is read are there
  cited_test : IsReadTest bound (list_all below) cited_layer (λ b. b.guard ++ b.body) (λ e. e.node)
  cited_test = record {
    integer = λ i. refl;
    truth = λ b. refl;
    path = λ names e. some_are_all below names e;
    one = λ op a e. e;
    two = λ op a b p q. list_all-append below a b ∙ and_from _ _ p q;
    range = λ i j. refl;
    set = λ es e. list_all-flat_map below (λ xs. xs) es (some_are_all (list_all below) es e);
    choice = λ bs e. list_all-flat_map below (λ xs. xs) bs (some_are_all (list_all below) bs e);
    pair = λ g e p q. list_all-append below g e ∙ and_from _ _ p q;
    placed = λ place a e. e;
  }

  -- what is read has the form that it has before flattening
  unflat_test : IsReadTest bound (λ b. b) unflat_layer (λ b. b.guard && b.body) (λ e. e.node)
  unflat_test = record {
    integer = λ i. refl;
    truth = λ b. refl;
    path = λ names e. filled_path names below e;
    one = λ op a e. e;
    two = λ op a b p q. and_from a b p q;
    range = λ i j. refl;
    set = λ es e. all_filled es e;
    choice = λ bs e. all_filled bs e;
    pair = λ g e p q. and_from g e p q;
    placed = λ place a e. e;
  }

  -- the names that an expression cites are below the bound
  abbrev cites_below : Expr → Bool
  cites_below e = list_all below (cited e)

  -- an expression as it is read
  record IsReadExpr (e : Expr) : Type 0 where
    cited_there : cites_below e ≡ true
    unflat : is_unflat e ≡ true

  -- each expression that is read is so, and each in a list
  expr_read : {l : ℕ} {xs ys : Lexemes} {e : Expr} → Reads l xs e ys → Known bound xs → IsReadExpr e × Known bound ys
  expr_read p known =
      let h = expr_passes bound (list_all below) cited_layer (λ b. b.guard ++ b.body) (λ e. e.node) cited_test p known in
      let g = expr_passes bound (λ b. b) unflat_layer (λ b. b.guard && b.body) (λ e. e.node) unflat_test p known in
      (record { cited_there = h.0; unflat = g.0 }, h.1)

  exprs_cite : Passes bound (some_pass cites_below) ReadsExprs
  exprs_cite xs ys es p known = exprs_pass bound (list_all below) cited_layer (λ b. b.guard ++ b.body) (λ e. e.node) cited_test p known

  exprs_unflat : Passes bound (some_pass is_unflat) ReadsExprs
  exprs_unflat xs ys es p known = exprs_pass bound (λ b. b) unflat_layer (λ b. b.guard && b.body) (λ e. e.node) unflat_test p known

  -- ---- sections

  -- what flattening asks of a section
  pub record IsReadSection (s : Section) : Type 0 where
    pub declared_there : list_all (λ (x : Spelled). nat_lt x.name bound) (declared s) ≡ true
    pub modules_there : list_all (λ (d : Declaration). nat_lt d.from.name bound) (instance_of s) ≡ true
    pub symbols_there : list_all (λ i. nat_lt i bound) (symbols_of s) ≡ true
    pub cited_there : list_all (λ e. list_all (λ i. nat_lt i bound) (cited e)) (expressions_of s) ≡ true
    pub unflat : list_all is_unflat (expressions_of s) ≡ true
    pub target : has_path s ≡ true
    pub values : has_values s ≡ true

  all_of_one : {A : Type 0} (test : A → Bool) (x : A) → test x ≡ true → list_all test (x ∷ []) ≡ true
  all_of_one test x e = and_from (test x) true e refl

  -- an item of an enumeration is no Boolean, and its symbol is there
  item_enumerable : Passes bound is_enumerable ReadsItem
  item_enumerable xs ys x (ReadsItem.symbol e) known = (refl, known.1)
  item_enumerable xs ys x (ReadsItem.integer p) known = (refl, int_known bound p known)

  item_there : Passes bound (λ x. list_all below (symbol_of x)) ReadsItem
  item_there xs ys x (ReadsItem.symbol {t = t} e) known = (all_of_one below t.value (lt-ltb t.value bound (known.0 e)), known.1)
  item_there xs ys x (ReadsItem.integer p) known = (refl, int_known bound p known)

  values_filled : (values : List Value) → some_pass is_enumerable values ≡ true → (is_filled values && list_all is_enumerable values) ≡ true
  values_filled [] e = absurd cc
  values_filled (x ∷ values) e = e

  -- a declaration of this type
  abbrev IsReadType : TypeTree → Type 0
  IsReadType t = (name : Spelled) (place : Span) → nat_lt name.name bound ≡ true → IsReadSection (section.Decl name t place)

  -- each type, target, entry and section that is read is as flattening asks
  type_read : {xs ys : Lexemes} {t : TypeTree} → ReadsType xs t ys → Known bound xs → IsReadType t × Known bound ys
  type_read (ReadsType.boolean e) known = (
    λ name place h. record {
      declared_there = all_of_one (λ (x : Spelled). nat_lt x.name bound) name h;
      modules_there = refl;
      symbols_there = refl;
      cited_there = refl;
      unflat = refl;
      target = refl;
      values = refl;
    },
    known.1,
  )
  type_read (ReadsType.listed {values = values} e f p) known =
      let g = separated_passes bound is_enumerable ReadsItem item_enumerable _ p known.1 in
      let i = separated_passes bound (λ x. list_all below (symbol_of x)) ReadsItem item_there _ p known.1 in (
        λ name place h. record {
          declared_there = all_of_one (λ (x : Spelled). nat_lt x.name bound) name h;
          modules_there = refl;
          symbols_there = list_all-flat_map below symbol_of values (some_are_all (λ x. list_all below (symbol_of x)) values i.0);
          cited_there = refl;
          unflat = refl;
          target = refl;
          values = values_filled values g.0;
        },
        g.1.1,
      )
  type_read (ReadsType.between e p q) known = (
    λ name place h. record {
      declared_there = all_of_one (λ (x : Spelled). nat_lt x.name bound) name h;
      modules_there = refl;
      symbols_there = refl;
      cited_there = refl;
      unflat = refl;
      target = refl;
      values = refl;
    },
    int_known bound q (int_known bound p known).1,
  )
  type_read (ReadsType.instance {module' = from} {given = given} p q) known =
      let m = spelled_passes bound _ _ from p known in
      let c = in_parens_passes bound cites_below ReadsExprs exprs_cite q m.1 in
      let u = in_parens_passes bound is_unflat ReadsExprs exprs_unflat q m.1 in (
        λ name place h. record {
          declared_there = all_of_one (λ (x : Spelled). nat_lt x.name bound) name h;
          modules_there = all_of_one (λ (d : Declaration). nat_lt d.from.name bound) (record { name = name; from = from; given = given }) m.0;
          symbols_there = refl;
          cited_there = c.0;
          unflat = u.0;
          target = refl;
          values = refl;
        },
        c.1,
      )

  -- the target of an assignment as it is read
  record IsReadTarget (e : Expr) : Type 0 where
    read : IsReadExpr e
    path : is_some (path_of e) ≡ true

  path_is : (names : List ℕ) → is_some (path_layer (out-Node (n.Path names))) ≡ true
  path_is names = ap (λ (m : Node). is_some (path_layer (out-Node m))) (sym (n.rolls-Path names)) ∙ ap (λ (l : Node-F _ _ _). is_some (path_layer l)) (out-roll-Node (Node-F.Path names))

  path_read : (names : List ℕ) (place : Span) → some_pass below names ≡ true → IsReadTarget (roll-Expr (record { node = n.Path names; place = place }))
  path_read names place e = record {
    read = record {
      cited_there = path_expr_passes bound (list_all below) cited_layer (λ b. b.guard ++ b.body) (λ e. e.node) cited_test names place e;
      unflat = path_expr_passes bound (λ b. b) unflat_layer (λ b. b.guard && b.body) (λ e. e.node) unflat_test names place e;
    };
    path = path_is names;
  }

  target_read : {xs ys : Lexemes} {at_when : When} {e : Expr} → ReadsTarget xs at_when e ys → Known bound xs → IsReadTarget e × Known bound ys
  target_read (ReadsTarget.now {xs = xs} {ys = ys} {names = names} p) known = let h = path_passes bound p known in (path_read names (span xs ys) h.0, h.1)
  target_read (ReadsTarget.at_moment {xs = xs} {ys = ys} {c = c} {names = names} e f g p) known = let h = path_passes bound p known.1.1 in (path_read names (span xs (c ∷ ys)) h.0, h.1.1)

  entry_read : {b : Block} {xs ys : Lexemes} {s : Section} → ReadsEntry b xs s ys → Known bound xs → IsReadSection s × Known bound ys
  entry_read (ReadsEntry.declared {ys = ys} {zs = zs} {s = s} {name = name} e f p q) known =
      let h = spelled_passes bound _ _ name p known in
      let g = type_read q h.1.1 in
      (g.0 name (span ys (s ∷ zs)) h.0, g.1.1)
  entry_read (ReadsEntry.assigned {target = target} {e = body} e f p q) known =
      let h = target_read p known in
      let g = expr_read q h.1.1 in (
        record {
          declared_there = refl;
          modules_there = refl;
          symbols_there = refl;
          cited_there = and_from _ _ h.0.read.cited_there (all_of_one cites_below body g.0.cited_there);
          unflat = and_from _ _ h.0.read.unflat (all_of_one is_unflat body g.0.unflat);
          target = h.0.path;
          values = refl;
        },
        g.1.1,
      )
  entry_read (ReadsEntry.defined {name = name} {e = body} e f p q) known =
      let h = spelled_passes bound _ _ name p known in
      let g = expr_read q h.1.1 in (
        record {
          declared_there = all_of_one (λ (x : Spelled). nat_lt x.name bound) name h.0;
          modules_there = refl;
          symbols_there = refl;
          cited_there = all_of_one cites_below body g.0.cited_there;
          unflat = all_of_one is_unflat body g.0.unflat;
          target = refl;
          values = refl;
        },
        g.1.1,
      )

  entries_read : {b : Block} {xs ys : Lexemes} {found : List Section} → ReadsMany (ReadsEntry b) xs found ys → Known bound xs → AllByRecursion IsReadSection found × Known bound ys
  entries_read ReadsMany.none known = (tt, known)
  entries_read (ReadsMany.more p q) known = let h = entry_read p known in let g = entries_read q h.1 in ((h.0, g.0), g.1)

  condition_read : (c : CondKind) (e : Expr) → IsReadExpr e → IsReadSection (section.Cond c e)
  condition_read c e h = record {
    declared_there = refl;
    modules_there = refl;
    symbols_there = refl;
    cited_there = all_of_one cites_below e h.cited_there;
    unflat = all_of_one is_unflat e h.unflat;
    target = refl;
    values = refl;
  }

  section_read : {xs ys : Lexemes} {found : List Section} → ReadsSection xs found ys → Known bound xs → AllByRecursion IsReadSection found × Known bound ys
  section_read (ReadsSection.entries e p) known = entries_read p known.1
  section_read (ReadsSection.condition {c = c} {e = body} e p) known = let h = expr_read p known.1 in ((condition_read c body h.0, tt), h.1)
  section_read (ReadsSection.closed_condition {c = c} {e = body} e f p) known = let h = expr_read p known.1 in ((condition_read c body h.0, tt), h.1.1)

  pub sections_read : {xs ys : Lexemes} {found : List Section} → ReadsSections xs found ys → Known bound xs → AllByRecursion IsReadSection found × Known bound ys
  sections_read ReadsSections.none known = (tt, known)
  sections_read (ReadsSections.more {found = found} {others = others} e p q) known =
      let h = section_read p known in
      let g = sections_read q h.1 in
      (subst (λ (ss : List Section). AllByRecursion IsReadSection ss) (sym e) (AllByRecursion-append IsReadSection found others h.0 g.0), g.1)
