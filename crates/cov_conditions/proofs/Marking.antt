-- What is marked stays so, and what is read is marked.
use Rattle.std.proofs.Common.{◌≡◌, ◌≢◌, ℕ, suc, ◌<◌, ◌≤◌, ◌+◌, ◌==◌, IsTrue, List, [], ◌∷◌, ◌++◌, Bool, true, false, length, take, drop, get_or, set, refl, sym, ◌∙◌, ap, subst, arith, inl, inr}
use Rattle.std.proofs.lemmas.List.{get_or-set_same, get_or-set_other, length-set, set_past}
use Rattle.std.proofs.lemmas.Bool.{cases_eq, cases_lt}
use Rattle.std.proofs.Math.Seq.{drop-cons, take-append_seam}
use Rattle.std.proofs.Common.{add-one}
use Rattle.std.specs.Prelude.{Some, slice_get}
use Rattle.cov_model.specs.declared.model.Define.{Define}
use Rattle.cov_model.specs.Order.{has, reads}
use Rattle.cov_syntax.specs.declared.tree.Expr.{Expr}
use Rattle.cov_syntax.specs.declared.tree.Branch.{Branch}
use Rattle.cov_order.specs.Parts as parts
use Rattle.cov_order.proofs.Renumbering.{read_branch}
use Rattle.cov_model.proofs.Joins.{or_left, or_right}
use Rattle.cov_model.proofs.Joined.{and_split, and_join}
use Rattle.cov_conditions.specs.Marks.{is_marked, are_marked, with_marks}

pub marks_append : (marks : List Bool) (xs ys : List ℕ) → with_marks marks (xs ++ ys) ≡ with_marks (with_marks marks xs) ys
marks_append marks [] ys = refl
marks_append marks (x ∷ xs) ys = marks_append (set marks x true) xs ys

pub marks_joined : (marks : List Bool) (xs ys : List ℕ) → with_marks (with_marks marks xs) ys ≡ with_marks marks (xs ++ ys)
marks_joined marks xs ys = sym (marks_append marks xs ys)

pub length-with_marks : (marks : List Bool) (xs : List ℕ) → length (with_marks marks xs) ≡ length marks
length-with_marks marks [] = refl
length-with_marks marks (x ∷ xs) = length-with_marks (set marks x true) xs ∙ length-set marks x true

set_kept : (marks : List Bool) (x i : ℕ) → IsTrue (is_marked marks i) → IsTrue (is_marked (set marks x true) i)
set_kept marks x i h = elim (cases_eq i x) [
  | inl e ↦ elim (cases_lt x (length marks)) [
    | inl lt ↦ subst (λ (k : ℕ). get_or (set marks x true) k false ≡ true) (sym e) (get_or-set_same marks x true false lt)
    | inr ge ↦ ap (λ (ms : List Bool). get_or ms i false) (set_past marks x true ge) ∙ h
  ]
  | inr ne ↦ get_or-set_other marks x i true false ne ∙ h
]

pub marks_kept : (marks : List Bool) (xs : List ℕ) (i : ℕ) → IsTrue (is_marked marks i) → IsTrue (is_marked (with_marks marks xs) i)
marks_kept marks [] i h = h
marks_kept marks (x ∷ xs) i h = marks_kept (set marks x true) xs i (set_kept marks x i h)

pub all_kept : (marks : List Bool) (xs ys : List ℕ) → IsTrue (are_marked marks ys) → IsTrue (are_marked (with_marks marks xs) ys)
all_kept marks xs [] h = refl
all_kept marks xs (y ∷ ys) h =
    let s = and_split (is_marked marks y) (are_marked marks ys) h in
    and_join (is_marked (with_marks marks xs) y) (are_marked (with_marks marks xs) ys) (marks_kept marks xs y s.0) (all_kept marks xs ys s.1)

same_number : (x : ℕ) → IsTrue (x == x)
same_number x = grind arith

pub reads_marked : (marks : List Bool) (xs : List ℕ) → ((j : ℕ) → IsTrue (has xs j) → j < length marks) → IsTrue (are_marked (with_marks marks xs) xs)
reads_marked marks [] h = refl
reads_marked marks (x ∷ xs) h =
    and_join (is_marked (with_marks (set marks x true) xs) x) (are_marked (with_marks (set marks x true) xs) xs)
    (marks_kept (set marks x true) xs x (get_or-set_same marks x true false (h x (or_left (x == x) (has xs x) (same_number x)))))
    (reads_marked (set marks x true) xs (λ j k. let e : length (set marks x true) ≡ length marks = length-set marks x true in let lt : j < length marks = h j (or_right (x == j) (has xs j) k) in omega arith))

pub marks_above : (marks : List Bool) (xs : List ℕ) (i : ℕ) → ((j : ℕ) → IsTrue (has xs j) → j < i) → is_marked (with_marks marks xs) i ≡ is_marked marks i
marks_above marks [] i h = refl
marks_above marks (x ∷ xs) i h =
    let lt : x < i = h x (or_left (x == x) (has xs x) (same_number x)) in
    let ne : i ≢ x = omega arith in
    marks_above (set marks x true) xs i (λ j k. h j (or_right (x == j) (has xs j) k)) ∙ get_or-set_other marks x i true false ne

-- the marks after those of one more body
pub record Turn (defines : List Define) (old marks : List Bool) (i : ℕ) : Type 0 where
  pub count : length marks ≡ length defines
  pub kept : (j : ℕ) → IsTrue (is_marked old j) → IsTrue (is_marked marks j)
  pub closed : (j : ℕ) → i ≤ j → (d : Define) → slice_get defines j ≡ Some d → IsTrue (is_marked marks j) → IsTrue (are_marked marks (reads d.body))

pub turn : (defines : List Define) (old marks : List Bool) (i n : ℕ) (d : Define) → slice_get defines i ≡ Some d → i < length defines → n ≤ i + 1
    → ((i : ℕ) (d : Define) → slice_get defines i ≡ Some d → (j : ℕ) → IsTrue (has (reads d.body) j) → j < i)
    → Turn defines old marks n → Turn defines old (with_marks marks (reads d.body)) i
turn defines old marks i n d at within le earlier t =
    let js : List ℕ = reads d.body in
    record {
      count = length-with_marks marks js ∙ t.count;
      kept = λ j h. marks_kept marks js j (t.kept j h);
      closed = λ j from e is h. elim (cases_eq j i) [
        | inl same ↦ here j e same is
        | inr other ↦ all_kept marks js (reads e.body) (t.closed j (omega arith) e is (sym (marks_above marks js j (λ k r. let lt : k < i = earlier i d at k r in omega arith)) ∙ h))
      ];
    }
  where
    here : (j : ℕ) (e : Define) → j ≡ i → slice_get defines j ≡ Some e → IsTrue (are_marked (with_marks marks (reads d.body)) (reads e.body))
    here j e same is =
        let one : d ≡ e = cc (sym at ∙ ap (slice_get defines) (sym same) ∙ is) in
        subst (λ (x : Define). IsTrue (are_marked (with_marks marks (reads d.body)) (reads x.body))) one
        (reads_marked marks (reads d.body) (λ k r. let lt : k < i = earlier i d at k r in let c : length marks ≡ length defines = t.count in omega arith))

pub all_stay : (old marks : List Bool) (xs : List ℕ) → ((j : ℕ) → IsTrue (is_marked old j) → IsTrue (is_marked marks j)) → IsTrue (are_marked old xs) → IsTrue (are_marked marks xs)
all_stay old marks [] f h = refl
all_stay old marks (x ∷ xs) f h =
    let s = and_split (is_marked old x) (are_marked old xs) h in
    and_join (is_marked marks x) (are_marked marks xs) (f x s.0) (all_stay old marks xs f s.1)

drop_next : {A : Type 0} (xs : List A) (i : ℕ) (x : A) → i < length xs → x ≡ get_or xs i x → drop i xs ≡ x ∷ drop (i + 1) xs
drop_next xs i x lt is = rw add-one (drop-cons xs i x lt ∙ ap (λ y. y ∷ drop (suc i) xs) (sym is))

-- one more member is done
pub item_turn : (marks new : List Bool) (es : List Expr) (i : ℕ) (e : Expr) → i < length es → e ≡ get_or es i e → new ≡ with_marks marks (reads e)
    → with_marks new (parts.item_reads (drop (i + 1) es)) ≡ with_marks marks (parts.item_reads (drop i es))
item_turn marks new es i e lt is done =
    ap (λ (ms : List Bool). with_marks ms (parts.item_reads (drop (i + 1) es))) done
    ∙ marks_joined marks (reads e) (parts.item_reads (drop (i + 1) es))
    ∙ sym (ap (λ (xs : List Expr). with_marks marks (parts.item_reads xs)) (drop_next es i e lt is))

-- one more branch is done
pub branch_turn : (marks mid new : List Bool) (bs : List Branch) (i : ℕ) (b : Branch) → i < length bs → b ≡ get_or bs i b → mid ≡ with_marks marks (reads b.guard) → new ≡ with_marks mid (reads b.body)
    → with_marks new (parts.branch_reads (drop (i + 1) bs)) ≡ with_marks marks (parts.branch_reads (drop i bs))
branch_turn marks mid new bs i b lt is guard body =
    let rest : List ℕ = parts.branch_reads (drop (i + 1) bs) in
    ap (λ (ms : List Bool). with_marks ms rest) (body ∙ ap (λ (ms : List Bool). with_marks ms (reads b.body)) guard ∙ marks_joined marks (reads b.guard) (reads b.body) ∙ ap (with_marks marks) (sym (read_branch b)))
    ∙ marks_joined marks (parts.reads_of_branch b) rest
    ∙ sym (ap (λ (xs : List Branch). with_marks marks (parts.branch_reads xs)) (drop_next bs i b lt is))

-- a list that is written back over one as long
pub whole_again : (n : ℕ) (new rest : List Bool) → n ≡ length new → take n (new ++ rest) ≡ new
whole_again n new rest e = ap (λ k. take k (new ++ rest)) e ∙ take-append_seam new rest
