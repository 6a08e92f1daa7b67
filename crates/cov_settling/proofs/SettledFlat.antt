-- A flat model stays flat where it is settled, its DEFINEs read what they read, and its formulas have their sizes.
use Rattle.std.proofs.Common.{◌≡◌, ℕ, suc, ◌+◌, ◌≤◌, Bool, true, false, ◌&&◌, if◌then◌else◌, List, [], ◌∷◌, ◌++◌, map, length, Option, Some, refl, sym, ap, subst, ◌∙◌}
use Rattle.std.specs.Prelude.{nat_lt}
use Rattle.std.specs.List.{list_all}
use Rattle.cov_syntax.specs.declared.fault.ModelFault.{ModelFault}
use Rattle.cov_syntax.specs.declared.tree.Value.{Value}
use Rattle.cov_syntax.specs.declared.tree.Value.TheVariants as v
use Rattle.cov_syntax.specs.declared.tree.Expr.{Expr}
use Rattle.cov_syntax.specs.declared.tree.Node.TheOpen.{Node-F}
use Rattle.cov_syntax.specs.declared.tree.Node.TheFolds.{fold-Expr}
use Rattle.cov_model.specs.declared.model.Var.{Var}
use Rattle.cov_model.specs.declared.model.Define.{Define}
use Rattle.cov_model.specs.declared.model.Assign.{Assign}
use Rattle.cov_model.specs.declared.model.Model.{Model}
use Rattle.cov_model.specs.Kinds.{Kind, Kinds}
use Rattle.cov_model.specs.Walk.{asks_truth, own, fault_if}
use Rattle.cov_model.specs.Order.{reads, reads_of, Reads, leads_to, circular_from, circular}
use Rattle.cov_model.specs.Settled.{known, kinds_of, asked_by, settled, settled_assign, settled_defines, settled_model}
use Rattle.cov_model.specs.WellFormed.{is_symbol, cites_layer, cites, all_cite, assigns_cite, has_name, all_different, flat_names}
use Rattle.cov_model.specs.Written.{formula_size, formula_fault}
use Rattle.cov_model.specs.Flat.{greatest, depth, conditions_of, assignments_of, expressions, IsFlat}
use Rattle.cov_settling.proofs.Kept.{same_reads, same_cites, same_size, same_depth, same_place}

-- ---- lists

both : {A B : Type 0} (f : A → B) (xs ys : List A) → map f xs ++ map f ys ≡ map f (xs ++ ys)
both f [] ys = refl
both f (x ∷ xs) ys = ap (λ zs. f x ∷ zs) (both f xs ys)

three : {A B : Type 0} (f : A → B) (a b c : List A) → map f a ++ map f b ++ map f c ≡ map f (a ++ b ++ c)
three f a b c = ap (λ zs. zs ++ map f c) (both f a b) ∙ both f (a ++ b) c

five : {A B : Type 0} (f : A → B) (a b c d e : List A) → map f a ++ map f b ++ map f c ++ map f d ++ map f e ≡ map f (a ++ b ++ c ++ d ++ e)
five f a b c d e = ap (λ zs. zs ++ map f d ++ map f e) (three f a b c) ∙ three f (a ++ b ++ c) d e

as_many : {A B : Type 0} (f : A → B) (xs : List A) → length (map f xs) ≡ length xs
as_many f [] = refl
as_many f (x ∷ xs) = ap suc (as_many f xs)

-- ---- DEFINEs

module _ (vk : List Kind) where
  -- what is asked of each body alike is the same of the settled ones
  same_bodies : {B : Type 0} (f : Define → B) → ((done : List Kind) (d : Define) → f (record d { body = settled (known vk done) false d.body }) ≡ f d)
      → (ds : List Define) (done : List Kind) → map f (settled_defines vk ds done) ≡ map f ds
  same_bodies f h [] done = refl
  same_bodies f h (d ∷ ds) done =
      let k : Kind = own (known vk done) d.body in
      ap (λ x. x ∷ map f (settled_defines vk ds (done ++ k ∷ []))) (h done d) ∙ ap (λ xs. f d ∷ xs) (same_bodies f h ds (done ++ k ∷ []))

  same_number : (ds : List Define) (done : List Kind) → length (settled_defines vk ds done) ≡ length ds
  same_number [] done = refl
  same_number (d ∷ ds) done = ap suc (same_number ds (done ++ own (known vk done) d.body ∷ []))

  same_circles : (g : Reads) (i : ℕ) (ds : List Define) (done : List Kind) → circular_from g i (settled_defines vk ds done) ≡ circular_from g i ds
  same_circles g i [] done = refl
  same_circles g i (d ∷ ds) done =
      ap (λ (o : Option ModelFault). let f : ModelFault = record { code = 17; place = d.place } in if leads_to (length g) g i i then Some f else o)
      (same_circles g (i + 1) ds (done ++ own (known vk done) d.body ∷ []))

-- the DEFINEs read what they read
pub same_reads_of : (m : Model) → reads_of (settled_model m).defines ≡ reads_of m.defines
same_reads_of m = same_bodies (kinds_of m).vars (λ d. reads d.body) (λ done d. same_reads (known (kinds_of m).vars done) false d.body) m.defines []

-- the first circle is the same
pub same_circular : (m : Model) → circular (settled_model m).defines ≡ circular m.defines
same_circular m = ap (λ (g : Reads). circular_from g 0 (settled_model m).defines) (same_reads_of m) ∙ same_circles (kinds_of m).vars (reads_of m.defines) 0 m.defines []

-- ---- formulas

formula_again : (ks : Kinds) (e : Expr) → formula_fault (settled ks true e) ≡ formula_fault e
formula_again ks e =
    ap (λ (w : Bool × ℕ). fault_if (nat_lt 4096 w.1) 23 (settled ks true e).place) (same_size ks true e)
    ∙ ap (fault_if (nat_lt 4096 (formula_size e)) 23) (same_place ks true e)

formulas_again : (ks : Kinds) (es : List Expr) → map formula_fault (map (settled ks true) es) ≡ map formula_fault es
formulas_again ks [] = refl
formulas_again ks (e ∷ es) = ap (λ (o : Option ModelFault). o ∷ map formula_fault (map (settled ks true) es)) (formula_again ks e) ∙ ap (λ (os : List (Option ModelFault)). formula_fault e ∷ os) (formulas_again ks es)

-- no formula grows
pub same_formulas : (m : Model) → map formula_fault (settled_model m).specs ≡ map formula_fault m.specs
same_formulas m = formulas_again (kinds_of m) m.specs

-- ---- what is cited is there

symbol_again : (m : Model) (x : Value) → is_symbol (settled_model m) x ≡ is_symbol m x
symbol_again m (v.Bool b) = refl
symbol_again m (v.Int i) = refl
symbol_again m (v.Sym s) = refl

layer_again : (m : Model) (y : Node-F Bool Bool Bool) → cites_layer (settled_model m) y ≡ cites_layer m y
layer_again m (Node-F.Lit x) = symbol_again m x
layer_again m (Node-F.Def i) = ap (nat_lt i) (same_number (kinds_of m).vars m.defines [])
layer_again m _ = refl

citing_again : (m : Model) (e : Expr) → cites (settled_model m) e ≡ cites m e
citing_again m e = ap (λ (f : Node-F Bool Bool Bool → Bool). fold-Expr Bool Bool Bool f (λ b. b.guard && b.body) (λ e. e.node) e) (λ i y. layer_again m y i)

cited_again : (m : Model) (ks : Kinds) (b : Bool) (e : Expr) → cites (settled_model m) (settled ks b e) ≡ cites m e
cited_again m ks b e = citing_again m (settled ks b e) ∙ same_cites m ks b e

all_cited : (m : Model) (ks : Kinds) (es : List Expr) → all_cite (settled_model m) (map (settled ks true) es) ≡ all_cite m es
all_cited m ks [] = refl
all_cited m ks (e ∷ es) = ap (λ (b : Bool). b && all_cite (settled_model m) (map (settled ks true) es)) (cited_again m ks true e) ∙ ap (λ (b : Bool). cites m e && b) (all_cited m ks es)

all_assigned : (m : Model) (ks : Kinds) (as' : List Assign) → assigns_cite (settled_model m) (map (settled_assign ks) as') ≡ assigns_cite m as'
all_assigned m ks [] = refl
all_assigned m ks (a ∷ as') =
    ap (λ (b : Bool). (nat_lt a.var (length m.vars) && b) && assigns_cite (settled_model m) (map (settled_assign ks) as')) (cited_again m ks (asks_truth (Some (asked_by ks a.var))) a.body)
    ∙ ap (λ (b : Bool). (nat_lt a.var (length m.vars) && cites m a.body) && b) (all_assigned m ks as')

all_bodies : (m : Model) (vk : List Kind) (ds : List Define) (done : List Kind) → list_all (λ (d : Define). cites (settled_model m) d.body) (settled_defines vk ds done) ≡ list_all (λ (d : Define). cites m d.body) ds
all_bodies m vk [] done = refl
all_bodies m vk (d ∷ ds) done =
    let rest : List Define = settled_defines vk ds (done ++ own (known vk done) d.body ∷ []) in
    ap (λ (b : Bool). b && list_all (λ (d : Define). cites (settled_model m) d.body) rest) (cited_again m (known vk done) false d.body)
    ∙ ap (λ (b : Bool). cites m d.body && b) (all_bodies m vk ds (done ++ own (known vk done) d.body ∷ []))

-- ---- a flat model

depths_again : (ks : Kinds) (es : List Expr) → map depth (map (settled ks true) es) ≡ map depth es
depths_again ks [] = refl
depths_again ks (e ∷ es) = ap (λ (n : ℕ). n ∷ map depth (map (settled ks true) es)) (same_depth ks true e) ∙ ap (λ (ns : List ℕ). depth e ∷ ns) (depths_again ks es)

assigned_depths : (ks : Kinds) (as' : List Assign) → map depth (map (λ (a : Assign). a.body) (map (settled_assign ks) as')) ≡ map depth (map (λ (a : Assign). a.body) as')
assigned_depths ks [] = refl
assigned_depths ks (a ∷ as') =
    ap (λ (n : ℕ). n ∷ map depth (map (λ (a : Assign). a.body) (map (settled_assign ks) as'))) (same_depth ks (asks_truth (Some (asked_by ks a.var))) a.body)
    ∙ ap (λ (ns : List ℕ). depth a.body ∷ ns) (assigned_depths ks as')

defined_depths : (vk : List Kind) (ds : List Define) (done : List Kind) → map depth (map (λ (d : Define). d.body) (settled_defines vk ds done)) ≡ map depth (map (λ (d : Define). d.body) ds)
defined_depths vk [] done = refl
defined_depths vk (d ∷ ds) done =
    let rest : List Define = settled_defines vk ds (done ++ own (known vk done) d.body ∷ []) in
    ap (λ (n : ℕ). n ∷ map depth (map (λ (d : Define). d.body) rest)) (same_depth (known vk done) false d.body)
    ∙ ap (λ (ns : List ℕ). depth d.body ∷ ns) (defined_depths vk ds (done ++ own (known vk done) d.body ∷ []))

conditions_settled : (m : Model) → conditions_of (settled_model m) ≡ map (settled (kinds_of m) true) (conditions_of m)
conditions_settled m = five (settled (kinds_of m) true) m.inits m.invars m.trans m.fair m.specs

assignments_settled : (m : Model) → assignments_of (settled_model m) ≡ map (settled_assign (kinds_of m)) (assignments_of m)
assignments_settled m = three (settled_assign (kinds_of m)) m.nows m.firsts m.nexts

same_depths : (m : Model) → map depth (expressions (settled_model m)) ≡ map depth (expressions m)
same_depths m =
    let s : Model = settled_model m in
    let ks : Kinds = kinds_of m in
    let body : Define → Expr = λ d. d.body in
    let right : Assign → Expr = λ a. a.body in
    sym (three depth (map body s.defines) (conditions_of s) (map right (assignments_of s)))
    ∙ ap (λ (ns : List ℕ). ns ++ map depth (conditions_of s) ++ map depth (map right (assignments_of s))) (defined_depths ks.vars m.defines [])
    ∙ ap (λ (es : List Expr). map depth (map body m.defines) ++ map depth es ++ map depth (map right (assignments_of s))) (conditions_settled m)
    ∙ ap (λ (ns : List ℕ). map depth (map body m.defines) ++ ns ++ map depth (map right (assignments_of s))) (depths_again ks (conditions_of m))
    ∙ ap (λ (as' : List Assign). map depth (map body m.defines) ++ map depth (conditions_of m) ++ map depth (map right as')) (assignments_settled m)
    ∙ ap (λ (ns : List ℕ). map depth (map body m.defines) ++ map depth (conditions_of m) ++ ns) (assigned_depths ks (assignments_of m))
    ∙ three depth (map body m.defines) (conditions_of m) (map right (assignments_of m))

same_flat_names : (m : Model) → flat_names (settled_model m) ≡ flat_names m
same_flat_names m = ap (λ (ns : List ℕ). map (λ (x : Var). x.name) m.vars ++ ns) (same_bodies (kinds_of m).vars (λ d. d.name) (λ done d. refl) m.defines [])

-- a flat model stays flat
pub flat_again : (m : Model) → IsFlat m → IsFlat (settled_model m)
flat_again m w =
    let s : Model = settled_model m in
    let ks : Kinds = kinds_of m in
    record {
      conditions = ap (all_cite s) (conditions_settled m) ∙ all_cited m ks (conditions_of m) ∙ w.conditions;
      bodies = all_bodies m ks.vars m.defines [] ∙ w.bodies;
      assigned = ap (assigns_cite s) (assignments_settled m) ∙ all_assigned m ks (assignments_of m) ∙ w.assigned;
      symbols = ap (λ (f : Value → Bool). list_all (λ (x : Var). list_all f x.values) m.vars) (λ i x. symbol_again m x i) ∙ w.symbols;
      names = ap (list_all (has_name m)) (same_flat_names m) ∙ w.names;
      different = ap all_different (same_flat_names m) ∙ w.different;
      values = w.values;
      few_defines = subst (λ (n : ℕ). n ≤ 4096) (sym (same_number ks.vars m.defines [])) w.few_defines;
      few_parts = subst (λ (n : ℕ). n ≤ 1000000)
          (sym (ap (λ (n : ℕ). n + length (assignments_of s)) (ap length (conditions_settled m) ∙ as_many (settled ks true) (conditions_of m))
          ∙ ap (λ (n : ℕ). length (conditions_of m) + n) (ap length (assignments_settled m) ∙ as_many (settled_assign ks) (assignments_of m)))) w.few_parts;
      shallow = subst (λ (ns : List ℕ). greatest ns ≤ 1000001) (sym (same_depths m)) w.shallow;
    }
