-- What an expression keeps where its DEFINEs are renumbered.
use Rattle.std.proofs.Common.{◌≡◌, ℕ, ◌+◌, max, false, ◌||◌, IsTrue, inl, inr, List, [], ◌∷◌, ◌++◌, map, refl, sym, ap, subst, ◌∙◌}
use Rattle.std.specs.Prelude.{◌==◌}
use Rattle.std.specs.List.{list_any}
use Rattle.std.proofs.lemmas.List.{map-append}
use Rattle.cov_syntax.specs.declared.tree.Span.{Span}
use Rattle.cov_syntax.specs.declared.tree.Expr.{Expr, roll-Expr}
use Rattle.cov_syntax.specs.declared.tree.Branch.{Branch, roll-Branch}
use Rattle.cov_syntax.specs.declared.tree.Node.{Node, roll-Node}
use Rattle.cov_syntax.specs.declared.tree.Node.TheVariants as n
use Rattle.cov_syntax.specs.declared.tree.Node.TheOpen.{Node-F}
use Rattle.cov_syntax.specs.declared.tree.Node.TheFolds.{map-Node, fold-Node, fold-Branch}
use Rattle.cov_model.specs.Walk.{put, branch_of}
use Rattle.cov_model.specs.Order.{reads, reads_layer, has, place_in, renumbered, renumbered_layer}
use Rattle.cov_model.specs.Flat.{depth, depth_layer, greatest}
use Rattle.cov_model.specs.Written.{Written, written, written_layer, written_branch, written_expr, written_one, written_two, atom}
use Rattle.cov_model.proofs.Joins.{or_left, or_right, or_case}
use Rattle.cov_order.specs.Parts.{node_reads, reads_of_branch, item_reads, branch_reads, renumbered_node, renumbered_branch}
use Rattle.cov_order.proofs.ByParts.{Layer, EachItem, EachArm, EachPart, by_parts, fold_step, fold_branch}
use Rattle.cov_order.proofs.Numbers.{same_self}

-- ---- an expression by its top node

-- what the parts of a node name
abbrev pub read_parts : Layer → Node-F (List ℕ) (List ℕ) (List ℕ)
read_parts l = map-Node Node Branch Expr (List ℕ) (List ℕ) (List ℕ) node_reads reads_of_branch reads l

-- what an expression names, by its top node
pub read_step : (place : Span) (l : Layer) → reads (put place (roll-Node l)) ≡ reads_layer (read_parts l)
read_step place l = fold_step (List ℕ) (List ℕ) (List ℕ) reads_layer (λ b. b.guard ++ b.body) (λ e. e.node) place l

-- what a branch names
pub read_branch : (b : Branch) → reads_of_branch b ≡ reads b.guard ++ reads b.body
read_branch b = fold_branch (List ℕ) (List ℕ) (List ℕ) reads_layer (λ b. b.guard ++ b.body) (λ e. e.node) b

module _ (order : List ℕ) where
  abbrev pub ren : Expr → Expr
  ren = renumbered order

  abbrev pub ren_branch : Branch → Branch
  ren_branch = renumbered_branch order

  -- a layer with its DEFINE and its parts renumbered
  abbrev pub ren_layer : Layer → Layer
  ren_layer (Node-F.Lit x) = Node-F.Lit x
  ren_layer (Node-F.Path p) = Node-F.Path p
  ren_layer (Node-F.Var i) = Node-F.Var i
  ren_layer (Node-F.Def i) = Node-F.Def (place_in order i)
  ren_layer (Node-F.One op a) = Node-F.One op (ren a)
  ren_layer (Node-F.Two op a b) = Node-F.Two op (ren a) (ren b)
  ren_layer (Node-F.Range low high) = Node-F.Range low high
  ren_layer (Node-F.Set es) = Node-F.Set (map ren es)
  ren_layer (Node-F.Case bs) = Node-F.Case (map ren_branch bs)

  rolls : (l : Layer) → renumbered_layer order (map-Node Node Branch Expr Node Branch Expr (renumbered_node order) ren_branch ren l) ≡ roll-Node (ren_layer l)
  rolls (Node-F.Lit x) = sym (n.rolls-Lit x)
  rolls (Node-F.Path p) = sym (n.rolls-Path p)
  rolls (Node-F.Var i) = sym (n.rolls-Var i)
  rolls (Node-F.Def i) = sym (n.rolls-Def (place_in order i))
  rolls (Node-F.One op a) = sym (n.rolls-One op (ren a))
  rolls (Node-F.Two op a b) = sym (n.rolls-Two op (ren a) (ren b))
  rolls (Node-F.Range low high) = sym (n.rolls-Range low high)
  rolls (Node-F.Set es) = sym (n.rolls-Set (map ren es))
  rolls (Node-F.Case bs) = sym (n.rolls-Case (map ren_branch bs))

  -- an expression renumbered, by its top node
  pub ren_step : (place : Span) (l : Layer) → ren (put place (roll-Node l)) ≡ put place (roll-Node (ren_layer l))
  ren_step place l =
      fold_step Node Branch Expr (renumbered_layer order) (λ b. roll-Branch (record { guard = b.guard; body = b.body })) (λ e. roll-Expr (record { node = e.node; place = e.place })) place l
      ∙ ap (put place) (rolls l)

  -- a branch renumbered
  pub ren_at : (b : Branch) → ren_branch b ≡ branch_of (ren b.guard) (ren b.body)
  ren_at b = fold_branch Node Branch Expr (renumbered_layer order) (λ b. roll-Branch (record { guard = b.guard; body = b.body })) (λ e. roll-Expr (record { node = e.node; place = e.place })) b

  -- the place stays
  pub same_place : (e : Expr) → (ren e).place ≡ e.place
  same_place = by_parts (λ e. (ren e).place ≡ e.place) (λ place l h. ap (λ (e : Expr). e.place) (ren_step place l))

  -- ---- what is read

  abbrev Read : Expr → Type 0
  Read e = reads (ren e) ≡ map (place_in order) (reads e)

  both_read : (xs ys us vs : List ℕ) → us ≡ map (place_in order) xs → vs ≡ map (place_in order) ys → us ++ vs ≡ map (place_in order) (xs ++ ys)
  both_read xs ys us vs h k = ap (λ (zs : List ℕ). zs ++ vs) h ∙ ap (λ (zs : List ℕ). map (place_in order) xs ++ zs) k ∙ sym (map-append (place_in order) xs ys)

  items_read : (es : List Expr) → EachItem Read es → item_reads (map ren es) ≡ map (place_in order) (item_reads es)
  items_read [] h = refl
  items_read (e ∷ es) h = both_read (reads e) (item_reads es) (reads (ren e)) (item_reads (map ren es)) h.0 (items_read es h.1)

  arms_read : (bs : List Branch) → EachArm Read bs → branch_reads (map ren_branch bs) ≡ map (place_in order) (branch_reads bs)
  arms_read [] h = refl
  arms_read (b ∷ bs) h =
      both_read (reads_of_branch b) (branch_reads bs) (reads_of_branch (ren_branch b)) (branch_reads (map ren_branch bs))
      (ap reads_of_branch (ren_at b) ∙ read_branch (branch_of (ren b.guard) (ren b.body)) ∙ both_read (reads b.guard) (reads b.body) (reads (ren b.guard)) (reads (ren b.body)) h.0 h.1 ∙ ap (map (place_in order)) (sym (read_branch b)))
      (arms_read bs h.2)

  read_at : (l : Layer) → EachPart Read l → reads_layer (read_parts (ren_layer l)) ≡ map (place_in order) (reads_layer (read_parts l))
  read_at (Node-F.Lit x) h = refl
  read_at (Node-F.Path p) h = refl
  read_at (Node-F.Var i) h = refl
  read_at (Node-F.Def i) h = refl
  read_at (Node-F.One op a) h = h
  read_at (Node-F.Two op a b) h = both_read (reads a) (reads b) (reads (ren a)) (reads (ren b)) h.0 h.1
  read_at (Node-F.Range low high) h = refl
  read_at (Node-F.Set es) h = items_read es h
  read_at (Node-F.Case bs) h = arms_read bs h

  -- it names the places of what was named
  pub renumbered_reads : (e : Expr) → Read e
  renumbered_reads = by_parts Read (λ place l h. ap reads (ren_step place l) ∙ read_step place (ren_layer l) ∙ read_at l h ∙ ap (map (place_in order)) (sym (read_step place l)))

  -- ---- a numbering that changes nothing

  abbrev Stays : List ℕ → Type 0
  Stays xs = (j : ℕ) → IsTrue (has xs j) → place_in order j ≡ j

  has_left : (xs ys : List ℕ) (j : ℕ) → IsTrue (has xs j) → IsTrue (has (xs ++ ys) j)
  has_left [] ys j h = cc
  has_left (x ∷ xs) ys j h = elim (or_case (x == j) (has xs j) h) [ inl k ↦ or_left (x == j) (has (xs ++ ys) j) k | inr k ↦ or_right (x == j) (has (xs ++ ys) j) (has_left xs ys j k) ]

  has_right : (xs ys : List ℕ) (j : ℕ) → IsTrue (has ys j) → IsTrue (has (xs ++ ys) j)
  has_right [] ys j h = h
  has_right (x ∷ xs) ys j h = or_right (x == j) (has (xs ++ ys) j) (has_right xs ys j h)

  abbrev Same : Expr → Type 0
  Same e = Stays (reads e) → ren e ≡ e

  items_same : (es : List Expr) → EachItem Same es → Stays (item_reads es) → map ren es ≡ es
  items_same [] h s = refl
  items_same (e ∷ es) h s =
      ap (λ (f : Expr). f ∷ map ren es) (h.0 (λ j k. s j (has_left (reads e) (item_reads es) j k)))
      ∙ ap (λ (fs : List Expr). e ∷ fs) (items_same es h.1 (λ j k. s j (has_right (reads e) (item_reads es) j k)))

  arms_same : (bs : List Branch) → EachArm Same bs → Stays (branch_reads bs) → map ren_branch bs ≡ bs
  arms_same [] h s = refl
  arms_same (b ∷ bs) h s =
      let here : Stays (reads b.guard ++ reads b.body) = subst Stays (read_branch b) (λ j k. s j (has_left (reads_of_branch b) (branch_reads bs) j k)) in
      let head : ren_branch b ≡ b = ren_at b
      ∙ ap (λ (e : Expr). branch_of e (ren b.body)) (h.0 (λ j k. here j (has_left (reads b.guard) (reads b.body) j k)))
      ∙ ap (λ (e : Expr). branch_of b.guard e) (h.1 (λ j k. here j (has_right (reads b.guard) (reads b.body) j k))) in
      ap (λ (c : Branch). c ∷ map ren_branch bs) head
      ∙ ap (λ (cs : List Branch). b ∷ cs) (arms_same bs h.2 (λ j k. s j (has_right (reads_of_branch b) (branch_reads bs) j k)))

  same_at : (l : Layer) → EachPart Same l → Stays (reads_layer (read_parts l)) → ren_layer l ≡ l
  same_at (Node-F.Lit x) h s = refl
  same_at (Node-F.Path p) h s = refl
  same_at (Node-F.Var i) h s = refl
  same_at (Node-F.Def i) h s = let e : place_in order i ≡ i = s i (or_left (i == i) false (same_self i)) in let at : ℕ → Layer = λ (k : ℕ). Node-F.Def k in ap at e
  same_at (Node-F.One op a) h s = let at : Expr → Layer = λ (e : Expr). Node-F.One op e in ap at (h s)
  same_at (Node-F.Two op a b) h s =
      let left : Expr → Layer = λ (e : Expr). Node-F.Two op e (ren b) in
      let right : Expr → Layer = λ (e : Expr). Node-F.Two op a e in
      ap left (h.0 (λ j k. s j (has_left (reads a) (reads b) j k))) ∙ ap right (h.1 (λ j k. s j (has_right (reads a) (reads b) j k)))
  same_at (Node-F.Range low high) h s = refl
  same_at (Node-F.Set es) h s = let at : List Expr → Layer = λ (fs : List Expr). Node-F.Set fs in ap at (items_same es h s)
  same_at (Node-F.Case bs) h s = let at : List Branch → Layer = λ (cs : List Branch). Node-F.Case cs in ap at (arms_same bs h s)

  -- an expression whose DEFINEs keep their places is the same
  pub renumbered_same : (e : Expr) → Same e
  renumbered_same = by_parts Same (λ place l h s. ren_step place l ∙ ap (λ (k : Layer). put place (roll-Node k)) (same_at l h (subst Stays (read_step place l) s)))

  -- ---- depth

  abbrev depth_node : Node → ℕ
  depth_node = fold-Node ℕ ℕ ℕ depth_layer (λ b. max b.guard b.body) (λ e. e.node)

  abbrev depth_branch : Branch → ℕ
  depth_branch = fold-Branch ℕ ℕ ℕ depth_layer (λ b. max b.guard b.body) (λ e. e.node)

  abbrev depth_parts : Layer → Node-F ℕ ℕ ℕ
  depth_parts l = map-Node Node Branch Expr ℕ ℕ ℕ depth_node depth_branch depth l

  depth_step : (place : Span) (l : Layer) → depth (put place (roll-Node l)) ≡ depth_layer (depth_parts l)
  depth_step place l = fold_step ℕ ℕ ℕ depth_layer (λ b. max b.guard b.body) (λ e. e.node) place l

  depth_of_branch : (b : Branch) → depth_branch b ≡ max (depth b.guard) (depth b.body)
  depth_of_branch b = fold_branch ℕ ℕ ℕ depth_layer (λ b. max b.guard b.body) (λ e. e.node) b

  abbrev Deep : Expr → Type 0
  Deep e = depth (ren e) ≡ depth e

  items_deep : (es : List Expr) → EachItem Deep es → greatest (map depth (map ren es)) ≡ greatest (map depth es)
  items_deep [] h = refl
  items_deep (e ∷ es) h = ap (λ (k : ℕ). max k (greatest (map depth (map ren es)))) h.0 ∙ ap (max (depth e)) (items_deep es h.1)

  arms_deep : (bs : List Branch) → EachArm Deep bs → greatest (map depth_branch (map ren_branch bs)) ≡ greatest (map depth_branch bs)
  arms_deep [] h = refl
  arms_deep (b ∷ bs) h =
      let head : depth_branch (ren_branch b) ≡ depth_branch b = ap depth_branch (ren_at b) ∙ depth_of_branch (branch_of (ren b.guard) (ren b.body))
      ∙ ap (λ (k : ℕ). max k (depth (ren b.body))) h.0 ∙ ap (max (depth b.guard)) h.1 ∙ sym (depth_of_branch b) in
      ap (λ (k : ℕ). max k (greatest (map depth_branch (map ren_branch bs)))) head ∙ ap (max (depth_branch b)) (arms_deep bs h.2)

  deep_at : (l : Layer) → EachPart Deep l → depth_layer (depth_parts (ren_layer l)) ≡ depth_layer (depth_parts l)
  deep_at (Node-F.Lit x) h = refl
  deep_at (Node-F.Path p) h = refl
  deep_at (Node-F.Var i) h = refl
  deep_at (Node-F.Def i) h = refl
  deep_at (Node-F.One op a) h = ap (λ (k : ℕ). 1 + k) h
  deep_at (Node-F.Two op a b) h = ap (λ (k : ℕ). 1 + max k (depth (ren b))) h.0 ∙ ap (λ (k : ℕ). 1 + max (depth a) k) h.1
  deep_at (Node-F.Range low high) h = refl
  deep_at (Node-F.Set es) h = ap (λ (k : ℕ). 1 + k) (items_deep es h)
  deep_at (Node-F.Case bs) h = ap (λ (k : ℕ). 1 + k) (arms_deep bs h)

  -- the depth stays
  pub same_depth : (e : Expr) → Deep e
  same_depth = by_parts Deep (λ place l h. ap depth (ren_step place l) ∙ depth_step place (ren_layer l) ∙ deep_at l h ∙ sym (depth_step place l))

  -- ---- the size of the formula

  abbrev written_node : Node → Written
  written_node = fold-Node Written Written Written written_layer written_branch written_expr

  abbrev written_of_branch : Branch → Written
  written_of_branch = fold-Branch Written Written Written written_layer written_branch written_expr

  abbrev written_parts : Layer → Node-F Written Written Written
  written_parts l = map-Node Node Branch Expr Written Written Written written_node written_of_branch written l

  written_step : (place : Span) (l : Layer) → written (put place (roll-Node l)) ≡ written_layer (written_parts l)
  written_step place l = fold_step Written Written Written written_layer written_branch written_expr place l

  written_at_branch : (b : Branch) → written_of_branch b ≡ atom ((written b.guard).0 || (written b.body).0)
  written_at_branch b = fold_branch Written Written Written written_layer written_branch written_expr b

  abbrev Sized : Expr → Type 0
  Sized e = written (ren e) ≡ written e

  items_sized : (es : List Expr) → EachItem Sized es → map written (map ren es) ≡ map written es
  items_sized [] h = refl
  items_sized (e ∷ es) h = ap (λ (w : Written). w ∷ map written (map ren es)) h.0 ∙ ap (λ (ws : List Written). written e ∷ ws) (items_sized es h.1)

  arms_sized : (bs : List Branch) → EachArm Sized bs → map written_of_branch (map ren_branch bs) ≡ map written_of_branch bs
  arms_sized [] h = refl
  arms_sized (b ∷ bs) h =
      let head : written_of_branch (ren_branch b) ≡ written_of_branch b = ap written_of_branch (ren_at b) ∙ written_at_branch (branch_of (ren b.guard) (ren b.body))
      ∙ ap (λ (w : Written). atom (w.0 || (written (ren b.body)).0)) h.0 ∙ ap (λ (w : Written). atom ((written b.guard).0 || w.0)) h.1 ∙ sym (written_at_branch b) in
      ap (λ (w : Written). w ∷ map written_of_branch (map ren_branch bs)) head ∙ ap (λ (ws : List Written). written_of_branch b ∷ ws) (arms_sized bs h.2)

  sized_at : (l : Layer) → EachPart Sized l → written_layer (written_parts (ren_layer l)) ≡ written_layer (written_parts l)
  sized_at (Node-F.Lit x) h = refl
  sized_at (Node-F.Path p) h = refl
  sized_at (Node-F.Var i) h = refl
  sized_at (Node-F.Def i) h = refl
  sized_at (Node-F.One op a) h = ap (written_one op) h
  sized_at (Node-F.Two op a b) h = ap (λ (w : Written). written_two op w (written (ren b))) h.0 ∙ ap (λ (w : Written). written_two op (written a) w) h.1
  sized_at (Node-F.Range low high) h = refl
  sized_at (Node-F.Set es) h = ap (λ (ws : List Written). atom (list_any (λ (w : Written). w.0) ws)) (items_sized es h)
  sized_at (Node-F.Case bs) h = ap (λ (ws : List Written). atom (list_any (λ (w : Written). w.0) ws)) (arms_sized bs h)

  -- the size of the formula stays
  pub same_written : (e : Expr) → Sized e
  same_written = by_parts Sized (λ place l h. ap written (ren_step place l) ∙ written_step place (ren_layer l) ∙ sized_at l h ∙ sym (written_step place l))
