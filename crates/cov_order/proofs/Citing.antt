-- What is cited is there, also where DEFINEs are renumbered.
use Rattle.std.proofs.Common.{◌≡◌, ℕ, ◌<◌, Bool, false, ◌&&◌, IsTrue, ◌⊎◌, inl, inr, List, [], ◌∷◌, ◌++◌, map, length, refl, sym, ap, subst, ◌∙◌, arith}
use Rattle.std.specs.Prelude.{◌==◌, nat_lt}
use Rattle.std.specs.List.{list_all}
use Rattle.cov_syntax.specs.declared.tree.Span.{Span}
use Rattle.cov_syntax.specs.declared.tree.Value.{Value}
use Rattle.cov_syntax.specs.declared.tree.Expr.{Expr}
use Rattle.cov_syntax.specs.declared.tree.Branch.{Branch}
use Rattle.cov_syntax.specs.declared.tree.Node.{Node, roll-Node}
use Rattle.cov_syntax.specs.declared.tree.Node.TheOpen.{Node-F}
use Rattle.cov_syntax.specs.declared.tree.Node.TheFolds.{map-Node, fold-Node, fold-Branch}
use Rattle.cov_model.specs.declared.model.Model.{Model}
use Rattle.cov_model.specs.Walk.{put, branch_of}
use Rattle.cov_model.specs.Order.{reads, reads_layer, has, place_in}
use Rattle.cov_model.specs.WellFormed.{cites, cites_layer, is_symbol, some_items}
use Rattle.cov_model.proofs.Joins.{or_left, or_right, or_case}
use Rattle.cov_model.proofs.Joined.{and_split, and_join}
use Rattle.cov_order.specs.Parts.{reads_of_branch, item_reads, branch_reads}
use Rattle.cov_order.proofs.ByParts.{Layer, EachItem, EachArm, EachPart, by_parts, fold_step, fold_branch}
use Rattle.cov_order.proofs.Renumbering.{read_parts, read_step, read_branch, ren, ren_branch, ren_layer, ren_step, ren_at}

abbrev cites_node : Model → Node → Bool
cites_node m = fold-Node Bool Bool Bool (cites_layer m) (λ b. b.guard && b.body) (λ e. e.node)

abbrev cites_branch : Model → Branch → Bool
cites_branch m = fold-Branch Bool Bool Bool (cites_layer m) (λ b. b.guard && b.body) (λ e. e.node)

abbrev cited_parts : Model → Layer → Node-F Bool Bool Bool
cited_parts m l = map-Node Node Branch Expr Bool Bool Bool (cites_node m) (cites_branch m) (cites m) l

cites_step : (m : Model) (place : Span) (l : Layer) → cites m (put place (roll-Node l)) ≡ cites_layer m (cited_parts m l)
cites_step m place l = fold_step Bool Bool Bool (cites_layer m) (λ b. b.guard && b.body) (λ e. e.node) place l

cites_at_branch : (m : Model) (b : Branch) → cites_branch m b ≡ (cites m b.guard && cites m b.body)
cites_at_branch m b = fold_branch Bool Bool Bool (cites_layer m) (λ b. b.guard && b.body) (λ e. e.node) b

all_items : (bs : List Bool) → IsTrue (some_items bs) → IsTrue (list_all (λ c. c) bs)
all_items [] h = cc
all_items (b ∷ bs) h = h

has_both : (xs ys : List ℕ) (j : ℕ) → IsTrue (has (xs ++ ys) j) → IsTrue (has xs j) ⊎ IsTrue (has ys j)
has_both [] ys j h = inr h
has_both (x ∷ xs) ys j h = elim (or_case (x == j) (has (xs ++ ys) j) h) [
  | inl k ↦ inl (or_left (x == j) (has xs j) k)
  | inr k ↦ elim (has_both xs ys j k) [ inl l ↦ inl (or_right (x == j) (has xs j) l) | inr l ↦ inr l ]
]

-- ---- a DEFINE that is named is there

module _ (m : Model) where
  abbrev There : List ℕ → Type 0
  There xs = (j : ℕ) → IsTrue (has xs j) → j < length m.defines

  abbrev Named : Expr → Type 0
  Named e = IsTrue (cites m e) → There (reads e)

  both_there : (xs ys : List ℕ) → There xs → There ys → There (xs ++ ys)
  both_there xs ys f g j h = elim (has_both xs ys j h) [ inl k ↦ f j k | inr k ↦ g j k ]

  items_there : (es : List Expr) → EachItem Named es → IsTrue (list_all (λ c. c) (map (cites m) es)) → There (item_reads es)
  items_there [] h c j k = cc
  items_there (e ∷ es) h c j k = let s = and_split (cites m e) (list_all (λ c. c) (map (cites m) es)) c in both_there (reads e) (item_reads es) (h.0 s.0) (items_there es h.1 s.1) j k

  arms_there : (bs : List Branch) → EachArm Named bs → IsTrue (list_all (λ c. c) (map (cites_branch m) bs)) → There (branch_reads bs)
  arms_there [] h c j k = cc
  arms_there (b ∷ bs) h c j k =
      let s = and_split (cites_branch m b) (list_all (λ c. c) (map (cites_branch m) bs)) c in
      let t = and_split (cites m b.guard) (cites m b.body) (sym (cites_at_branch m b) ∙ s.0) in
      both_there (reads_of_branch b) (branch_reads bs)
      (subst There (sym (read_branch b)) (both_there (reads b.guard) (reads b.body) (h.0 t.0) (h.1 t.1)))
      (arms_there bs h.2 s.1) j k

  there_at : (l : Layer) → EachPart Named l → IsTrue (cites_layer m (cited_parts m l)) → There (reads_layer (read_parts l))
  there_at (Node-F.Lit x) h c j k = cc
  there_at (Node-F.Path p) h c j k = cc
  there_at (Node-F.Var i) h c j k = cc
  there_at (Node-F.Def i) h c j k = elim (or_case (i == j) false k) [ inl e ↦ below i j (length m.defines) c e | inr e ↦ cc ]
    where
      below : (i j n : ℕ) → IsTrue (nat_lt i n) → IsTrue (i == j) → j < n
      below i j n h e = grind arith
  there_at (Node-F.One op a) h c j k = h c j k
  there_at (Node-F.Two op a b) h c j k = let s = and_split (cites m a) (cites m b) c in both_there (reads a) (reads b) (h.0 s.0) (h.1 s.1) j k
  there_at (Node-F.Range low high) h c j k = cc
  there_at (Node-F.Set es) h c j k = items_there es h (all_items (map (cites m) es) c) j k
  there_at (Node-F.Case bs) h c j k = arms_there bs h (all_items (map (cites_branch m) bs) c) j k

  -- each DEFINE that an expression names is there
  pub cited_reads : (e : Expr) → Named e
  cited_reads = by_parts Named (λ place l h c. subst There (sym (read_step place l)) (there_at l h (sym (cites_step m place l) ∙ c)))

-- ---- renumbered

module _ (m n : Model) (order : List ℕ) (symbols : (x : Value) → IsTrue (is_symbol m x) → IsTrue (is_symbol n x)) (vars : length m.vars ≡ length n.vars)
    (defines : (i : ℕ) → i < length m.defines → place_in order i < length n.defines) where
  abbrev Kept : Expr → Type 0
  Kept e = IsTrue (cites m e) → IsTrue (cites n (ren order e))

  items_kept : (es : List Expr) → EachItem Kept es → IsTrue (list_all (λ c. c) (map (cites m) es)) → IsTrue (list_all (λ c. c) (map (cites n) (map (ren order) es)))
  items_kept [] h c = refl
  items_kept (e ∷ es) h c = let s = and_split (cites m e) (list_all (λ c. c) (map (cites m) es)) c in
      and_join (cites n (ren order e)) (list_all (λ c. c) (map (cites n) (map (ren order) es))) (h.0 s.0) (items_kept es h.1 s.1)

  arms_kept : (bs : List Branch) → EachArm Kept bs → IsTrue (list_all (λ c. c) (map (cites_branch m) bs)) → IsTrue (list_all (λ c. c) (map (cites_branch n) (map (ren_branch order) bs)))
  arms_kept [] h c = refl
  arms_kept (b ∷ bs) h c =
      let s = and_split (cites_branch m b) (list_all (λ c. c) (map (cites_branch m) bs)) c in
      let t = and_split (cites m b.guard) (cites m b.body) (sym (cites_at_branch m b) ∙ s.0) in
      let head : IsTrue (cites_branch n (ren_branch order b)) = ap (cites_branch n) (ren_at order b) ∙ cites_at_branch n (branch_of (ren order b.guard) (ren order b.body))
      ∙ and_join (cites n (ren order b.guard)) (cites n (ren order b.body)) (h.0 t.0) (h.1 t.1) in
      and_join (cites_branch n (ren_branch order b)) (list_all (λ c. c) (map (cites_branch n) (map (ren_branch order) bs))) head (arms_kept bs h.2 s.1)

  some_kept : (es : List Expr) → EachItem Kept es → IsTrue (some_items (map (cites m) es)) → IsTrue (some_items (map (cites n) (map (ren order) es)))
  some_kept [] h c = cc
  some_kept (e ∷ es) h c = items_kept (e ∷ es) h c

  some_arms_kept : (bs : List Branch) → EachArm Kept bs → IsTrue (some_items (map (cites_branch m) bs)) → IsTrue (some_items (map (cites_branch n) (map (ren_branch order) bs)))
  some_arms_kept [] h c = cc
  some_arms_kept (b ∷ bs) h c = arms_kept (b ∷ bs) h c

  kept_at : (l : Layer) → EachPart Kept l → IsTrue (cites_layer m (cited_parts m l)) → IsTrue (cites_layer n (cited_parts n (ren_layer order l)))
  kept_at (Node-F.Lit x) h c = symbols x c
  kept_at (Node-F.Path p) h c = cc
  kept_at (Node-F.Var i) h c = subst (λ (k : ℕ). IsTrue (nat_lt i k)) vars c
  kept_at (Node-F.Def i) h c = under (place_in order i) (length n.defines) (defines i (over i (length m.defines) c))
    where
      over : (i k : ℕ) → IsTrue (nat_lt i k) → i < k
      over i k h = grind arith

      under : (i k : ℕ) → i < k → IsTrue (nat_lt i k)
      under i k h = grind arith
  kept_at (Node-F.One op a) h c = h c
  kept_at (Node-F.Two op a b) h c = let s = and_split (cites m a) (cites m b) c in and_join (cites n (ren order a)) (cites n (ren order b)) (h.0 s.0) (h.1 s.1)
  kept_at (Node-F.Range low high) h c = refl
  kept_at (Node-F.Set es) h c = some_kept es h c
  kept_at (Node-F.Case bs) h c = some_arms_kept bs h c

  -- what is cited is there also by the new numbers
  pub renumbered_cites : (e : Expr) → Kept e
  renumbered_cites = by_parts Kept (λ place l h c. ap (cites n) (ren_step order place l) ∙ cites_step n place (ren_layer order l) ∙ kept_at l h (sym (cites_step m place l) ∙ c))
