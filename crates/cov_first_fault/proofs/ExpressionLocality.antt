-- The parsers of expressions do the same on lexemes that agree.
use Rattle.std.proofs.Common.{◌≡◌, ◌≢◌, ℕ, zero, suc, ◌+◌, ◌*◌, ◌<◌, ◌≤◌, Bool, true, false, cond, [], ◌∷◌, length, Option, Some, None, Result, Ok, Err, ◌⊎◌, inl, inr, refl, sym, ap, subst, ◌∙◌, arith}
use Rattle.std.specs.Prelude.{◌&&◌, is_some, IfOk}
use Rattle.std.proofs.lemmas.Bool.{cases_lt, eq-eqb}
use Rattle.std.proofs.lemmas.Result.{IfOk-at_ok}
use Rattle.cov_syntax.specs.declared.lexeme.Terminal.{Terminal}
use Rattle.cov_syntax.specs.declared.lexeme.Terminal.TheVariants as k
use Rattle.cov_syntax.specs.declared.marks.Mark.TheVariants as m
use Rattle.cov_syntax.specs.declared.tree.Expr.{Expr}
use Rattle.cov_syntax.specs.declared.tree.Op1.{Op1}
use Rattle.cov_syntax.specs.declared.tree.Op2.{Op2}
use Rattle.cov_syntax.specs.Lexemes.{Lexemes, kind, next, same, left, prefix, equality}
use Rattle.cov_grammar.specs.Steps.{Stop, Parser, ◌>>=◌, expect}
use Rattle.cov_grammar.specs.Expressions.{at_level, ends_comparison, joint, implied, implication, turn, climb, chain, compared, prefixed_by, prefixed, level, expr}
use Rattle.cov_grammar.proofs.StepLemmas.{same_is, token}
use Rattle.cov_first_fault.proofs.Steps.{Nil, Tok, Seq, Or, Is, IsPlain, Walks, widen, mapped, stay, choose, skipping}
use Rattle.cov_first_fault.proofs.ListWalks.{behind}
use Rattle.cov_first_fault.proofs.ExpressionWalks.{E, Climbed, joint_left, implied_walk, operand_walk, turn_walk, climb_walk, compared_walk, prefixed_by_walk, expr_walk}
use Rattle.cov_first_fault.proofs.Agreement.{Within, within, leaves, ok_after, next_shorter, next_shorter_or_equal, Agree, Agreed, agreed, IsLocal, Local, local_err, local_past, local_ok, local_stopped, local_then, before, local_cond}

-- ---- single steps

-- a test that both meet alike
pub same_choice : {X A : Type 0} {v : A → Lexemes} {n : ℕ} (f g : X → Result A Stop) (x y : X) → x ≡ y → Local v n (f x) (g x) → Local v n (f x) (g y)
same_choice {v = v} {n = n} f g x y e h = subst (λ z. Local v n (f x) (g z)) e h

pub token_shorter : {c : Terminal} (xs ys : Lexemes) → IsPlain (Is c) → expect c xs ≡ Ok ys → suc (length ys) ≤ length xs
token_shorter {c} xs ys i e = let t = IfOk-at_ok (λ (zs : Lexemes). (kind xs ≡ c) × (zs ≡ next xs)) e (token c xs).holds in go xs t.0 t.1
  where
    go : (xs : Lexemes) → kind xs ≡ c → ys ≡ next xs → suc (length ys) ≤ length xs
    go [] e f = absurd (i.some e)
    go (t ∷ xs) e f = let g : length ys ≡ length xs = ap length f in omega arith

next_less : {n : ℕ} (xs : Lexemes) → length xs ≤ suc n → length (next xs) ≤ n
next_less [] le = omega arith
next_less (t ∷ xs) le = omega arith

-- a lexeme of a kind and what stands behind it, or nothing
pub optional_walk : {A : Type 0} {v : A → Lexemes} {G : Lexemes → Lexemes → Type 0} {r s : Result A Stop} (c : Terminal) → IsPlain (Is c) → (xs : Lexemes) → Walks v G (next xs) r → Walks v Nil xs s
    → Walks v (Or Nil (Seq (Tok (Is c)) G)) xs (cond (same (kind xs) c) r s)
optional_walk c i xs a b = choose (same (kind xs) c)
    (λ e. widen (λ us ys h. Or.right h) (skipping xs i (same_is (kind xs) c e) a))
    (λ e. widen (λ us ys h. Or.left h) b)

pub optional_local : {A : Type 0} {v : A → Lexemes} {G : Lexemes → Lexemes → Type 0} {n : ℕ} {r s r' s' : Result A Stop} (c : Terminal) → IsPlain (Is c) → (xs ys : Lexemes) → Agree n xs ys
    → Walks v G (next xs) r → Walks v Nil xs s → (n < length xs → Agree n (next xs) (next ys) → Local v n r r') → Local v n s s'
    → Local v n (cond (same (kind xs) c) r s) (cond (same (kind ys) c) r' s')
optional_local c i xs ys h a b f g = before xs ys h (optional_walk c i xs a b) (λ lt d. local_cond (same (kind xs) c) (same (kind ys) c) (ap (λ e. same e c) d.kinds) (λ e. f lt d.behind) (λ e. g))

-- ---- chains of operators

-- The same up to there; or a comparison that ends before an equality, at the last lexeme that agrees.
abbrev pub IsChained : ℕ → ℕ → Result (Expr × Lexemes) Stop → Result (Expr × Lexemes) Stop → Type 0
IsChained l n (Ok a) s = ((l ≡ 6) × (ends_comparison a.1 ≡ true) × (length a.1 ≤ suc n)) ⊎ IsLocal behind n (Ok a) s
IsChained l n (Err e) s = IsLocal behind n (Err e) s

pub record Chained (l n : ℕ) (r s : Result (Expr × Lexemes) Stop) : Type 0 where
  pub holds : IsChained l n r s

pub chained_of : {l n : ℕ} {r s : Result (Expr × Lexemes) Stop} → Local behind n r s → Chained l n r s
chained_of {l} {n} {r} {s} h = record { holds = go r h.holds }
  where
    go : (r : Result (Expr × Lexemes) Stop) → IsLocal behind n r s → IsChained l n r s
    go (Ok a) g = inr g
    go (Err e) g = g

pub local_of : {l n : ℕ} {r s : Result (Expr × Lexemes) Stop} → l ≢ 6 → Chained l n r s → Local behind n r s
local_of {l} {n} {r} {s} other h = record { holds = go r h.holds }
  where
    go : (r : Result (Expr × Lexemes) Stop) → IsChained l n r s → IsLocal behind n r s
    go (Ok a) (inl e) = absurd (other e.0)
    go (Ok a) (inr g) = g
    go (Err e) g = g

chained_then : {l n : ℕ} {r s : Result (Expr × Lexemes) Stop} {f g : Expr × Lexemes → Result (Expr × Lexemes) Stop}
    → Local behind n r s → ((a b : Expr × Lexemes) → r ≡ Ok a → s ≡ Ok b → Agree n a.1 b.1 → Chained l n (f a) (g b)) → Chained l n (r >>= f) (s >>= g)
chained_then {l} {n} {r} {s} {f} {g} h after = go r s refl refl h.holds
  where
    go : (x y : Result (Expr × Lexemes) Stop) → r ≡ x → s ≡ y → IsLocal behind n x y → Chained l n (x >>= f) (y >>= g)
    go (Ok a) (Ok b) ea eb le = after a b ea eb le
    go (Ok a) (Err e) ea eb le = chained_of local_err
    go (Err (Stop.unread places)) (Ok b) ea eb le = chained_of (local_stopped (g b) le)
    go (Err (Stop.unread places)) (Err e) ea eb le = record { holds = tt }
    go (Err (Stop.too_great places)) y ea eb le = record { holds = tt }

joint_same : (l : ℕ) (xs ys : Lexemes) → kind xs ≡ kind ys → kind (next xs) ≡ kind (next ys) → joint l xs ≡ joint l ys
unfolding joint
joint_same l xs ys e f =
    ap (λ c. cond (is_some (equality c) && is_some (prefix (kind (next xs)))) None (at_level l (left c))) e
    ∙ ap (λ c. cond (is_some (equality (kind ys)) && is_some (prefix c)) None (at_level l (left (kind ys)))) f

abbrev no_operator : Option Op2
no_operator = None

at_six : (c : Terminal) (l : ℕ) (op : Op2) → is_some (equality c) ≡ true → left c ≡ Some (l, op) → l ≡ 6
at_six (k.Mark m.Equal) l op e f = ap level_in (sym f)
  where
    level_in : Option (ℕ × Op2) → ℕ
    level_in None = 0
    level_in (Some p) = p.0
at_six (k.Mark m.NotEqual) l op e f = ap level_in (sym f)
  where
    level_in : Option (ℕ × Op2) → ℕ
    level_in None = 0
    level_in (Some p) = p.0
at_six _ l op e f = absurd cc

and_left : (a b : Bool) → (a && b) ≡ true → a ≡ true
and_left true b e = refl
and_left false b e = absurd cc

at_own : (l : ℕ) (op : Op2) → at_level l (Some (l, op)) ≡ Some op
at_own l op = ap (λ b. cond b (Some op) None) (eq-eqb l l refl)

-- where the one chain stops and the other goes on, the first stands before an equality that ends a comparison
joint_differs : (l : ℕ) (xs ys : Lexemes) (op : Op2) → joint l xs ≡ None → joint l ys ≡ Some op → kind xs ≡ kind ys → (l ≡ 6) × (ends_comparison xs ≡ true)
unfolding joint
joint_differs l xs ys op none one e = go (ends_comparison xs) refl none
  where
    left_is : left (kind xs) ≡ Some (l, op)
    left_is = ap left e ∙ joint_left l ys op one

    go : (b : Bool) → ends_comparison xs ≡ b → cond b None (at_level l (left (kind xs))) ≡ None → (l ≡ 6) × (ends_comparison xs ≡ true)
    go true f g = (at_six (kind xs) l op (and_left (is_some (equality (kind xs))) (is_some (prefix (kind (next xs)))) f) left_is, f)
    go false f g = let h : at_level l (left (kind xs)) ≡ Some op = ap (at_level l) left_is ∙ at_own l op in absurd cc

-- a comparison that stands before an equality has ended there
joint_ended : (xs : Lexemes) (op : Op2) → joint 6 xs ≡ None → equality (kind xs) ≡ Some op → ends_comparison xs ≡ true
unfolding joint
joint_ended xs op none e = go (ends_comparison xs) refl none
  where
    taken : (c : Terminal) → equality c ≡ Some op → at_level 6 (left c) ≡ None → ⊥
    taken (k.Mark m.Equal) f g = cc
    taken (k.Mark m.NotEqual) f g = cc
    taken _ f g = cc

    go : (b : Bool) → ends_comparison xs ≡ b → cond b None (at_level 6 (left (kind xs))) ≡ None → ends_comparison xs ≡ true
    go true f g = f
    go false f g = absurd (taken (kind xs) e g)

-- ---- what a chain ends at

module _ (p : ℕ → Parser Expr) (walks : (l : ℕ) (xs : Lexemes) → l ≤ 12 → Walks behind (E l) xs (p l xs)) where
  climb_finished : (i l : ℕ) → l < 12 → (xs : Lexemes) (a : Expr) (ys : Lexemes) → length ys ≤ i → IfOk (climb p i l xs a ys) (λ b. joint l b.1 ≡ None)
  unfolding climb joint
  climb_finished zero l lt xs a [] room = refl
  climb_finished zero l lt xs a (t ∷ ys) room = absurd (omega arith)
  climb_finished (suc i) l lt xs a ys room = go (λ b zs le. climb_finished i l lt xs b zs le) (joint l ys) refl
    where
      nonempty : (ys : Lexemes) (op : Op2) → joint l ys ≡ Some op → 0 < length ys
      nonempty [] op e = let f = joint_left l [] op e in absurd cc
      nonempty (t ∷ ys) op e = omega arith

      go : ((b : Expr) (zs : Lexemes) → length zs ≤ i → IfOk (climb p i l xs b zs) (λ b. joint l b.1 ≡ None)) → (o : Option Op2) → joint l ys ≡ o → IfOk (turn p (climb p i l xs) l xs a ys o) (λ b. joint l b.1 ≡ None)
      go goes None e = e
      go goes (Some op) e = ok_after (p (l + 1) (next ys)) _ (λ (b : Expr × Lexemes). joint l b.1 ≡ None) (λ b eb.
          let less = leaves (walks (l + 1) (next ys) (omega arith)) eb in
          let shorter = next_shorter ys (nonempty ys op e) in
          goes _ b.1 (omega arith))

  chain_finished : (xs : Lexemes) → IfOk (chain p 6 xs) (λ b. joint 6 b.1 ≡ None)
  unfolding chain
  chain_finished xs = ok_after (p 7 xs) _ (λ (b : Expr × Lexemes). joint 6 b.1 ≡ None) (λ a ea. climb_finished (length a.1) 6 (omega arith) xs a.0 a.1 (omega arith))

pub expr_finished : (depth : ℕ) (xs : Lexemes) → IfOk (expr depth 6 xs) (λ b. joint 6 b.1 ≡ None)
unfolding expr level
expr_finished zero xs = tt
expr_finished (suc depth) xs = chain_finished (expr depth) (λ l ys. expr_walk depth l ys) xs

-- ---- the parts

module _ (n depth : ℕ) (p q : ℕ → Parser Expr)
    (walks : (l : ℕ) (xs : Lexemes) → l ≤ 12 → Walks behind (E l) xs (p l xs))
    (walks' : (l : ℕ) (xs : Lexemes) → l ≤ 12 → Walks behind (E l) xs (q l xs))
    (finished : (xs : Lexemes) → IfOk (p 6 xs) (λ b. joint 6 b.1 ≡ None))
    (local : (l : ℕ) → l ≤ 12 → (xs ys : Lexemes) → 13 * length xs + 13 ≤ depth + l → Agree n xs ys → Chained l n (p l xs) (q l ys)) where
  one : (xs ys : Lexemes) → 13 * length xs + 13 ≤ depth + 1 → Agree n xs ys → Local behind n (p 1 xs) (q 1 ys)
  one xs ys enough h = local_of (omega arith) (local 1 (omega arith) xs ys enough h)

  implied_local : (xs xs' : Lexemes) (a b : Expr × Lexemes) → 13 * length a.1 + 12 ≤ depth + 1 → Agree n a.1 b.1 → Local behind n (implied p xs a (same (kind a.1) (k.Mark m.Implies))) (implied q xs' b (same (kind b.1) (k.Mark m.Implies)))
  implied_local xs xs' a b enough h = before a.1 b.1 h (implied_walk p walks xs a (same (kind a.1) (k.Mark m.Implies)) refl) (λ lt d.
      same_choice (implied p xs a) (implied q xs' b) _ _ (ap (λ c. same c (k.Mark m.Implies)) d.kinds) (go (same (kind a.1) (k.Mark m.Implies)) lt d))
    where
      go : (c : Bool) → n < length a.1 → Agreed n a.1 b.1 → Local behind n (implied p xs a c) (implied q xs' b c)
      go true lt d = let shorter = next_shorter a.1 (omega arith) in local_then (one (next a.1) (next b.1) (omega arith) d.behind) (λ x y ex ey g. local_ok g)
      go false lt d = local_ok h

  pub implication_local : (xs ys : Lexemes) → 13 * length xs + 12 ≤ depth + 1 → Agree n xs ys → Local behind n (implication p xs) (implication q ys)
  unfolding implication
  implication_local xs ys enough h = local_then (local_of (omega arith) (local 2 (omega arith) xs ys (omega arith) h)) (λ a b ea eb g.
      let less = leaves (walks 2 xs (omega arith)) ea in implied_local xs ys a b (omega arith) g)

  -- one turn of the chain
  turn_local : (l : ℕ) → l < 12 → l ≢ 5 → (step step' : Expr → Parser Expr) → ((b : Expr) (zs : Lexemes) → Walks behind (Climbed l) zs (step b zs))
      → (xs xs' : Lexemes) (a a' : Expr) (ys ys' : Lexemes) → 13 * length ys + 12 ≤ depth + l → Agree n ys ys'
      → ((b b' : Expr) (zs zs' : Lexemes) → length zs < length ys → length zs' < length ys' → Agree n zs zs' → Chained l n (step b zs) (step' b' zs'))
      → (o : Option Op2) → joint l ys ≡ o → (o' : Option Op2) → joint l ys' ≡ o' → Chained l n (turn p step l xs a ys o) (turn q step' l xs' a' ys' o')
  turn_local l lt other step step' step_walk xs xs' a a' ys ys' enough h goes None e None f = chained_of (local_ok h)
  turn_local l lt other step step' step_walk xs xs' a a' ys ys' enough h goes None e (Some op) f = elim (cases_lt n (length ys)) [
    | inr le ↦ chained_of (local_past (record { holds = le }))
    | inl more ↦
        let d = agreed ys ys' h more in
        elim (cases_lt (suc n) (length ys)) [
          | inr le ↦ let s = joint_differs l ys ys' op e f d.kinds in record { holds = inl (s.0, s.1, le) }
          | inl far ↦
              let shorter = next_shorter ys (omega arith) in
              let g = agreed (next ys) (next ys') d.behind (omega arith) in
              let is : None ≡ Some op = sym e ∙ joint_same l ys ys' d.kinds g.kinds ∙ f in absurd cc
        ]
  ]
  turn_local l lt other step step' step_walk xs xs' a a' ys ys' enough h goes (Some op) e o' f = elim (cases_lt (suc n) (length ys)) [
    | inr le ↦ chained_of (local_past (within (operand_walk p walks step l lt step_walk op xs a ys) (next_less ys le)))
    | inl far ↦
        let d = agreed ys ys' h (omega arith) in
        let shorter = next_shorter ys (omega arith) in
        let shorter' = next_shorter ys' d.some in
        let g = agreed (next ys) (next ys') d.behind (omega arith) in
        let is : Some op ≡ o' = sym e ∙ joint_same l ys ys' d.kinds g.kinds ∙ f in
        subst (λ (x : Option Op2). Chained l n (turn p step l xs a ys (Some op)) (turn q step' l xs' a' ys' x)) is
        (chained_then (local_of (omega arith) (local (l + 1) (omega arith) (next ys) (next ys') (omega arith) d.behind)) (λ b b' eb eb' c.
        let less = leaves (walks (l + 1) (next ys) (omega arith)) eb in
        let less' = leaves (walks' (l + 1) (next ys') (omega arith)) eb' in
        goes _ _ b.1 b'.1 (omega arith) (omega arith) c))
  ]

  climb_local : (i j l : ℕ) → l < 12 → l ≢ 5 → (xs xs' : Lexemes) (a a' : Expr) (ys ys' : Lexemes) → length ys ≤ i → length ys' ≤ j → 13 * length ys + 12 ≤ depth + l → Agree n ys ys'
      → Chained l n (climb p i l xs a ys) (climb q j l xs' a' ys')
  unfolding climb
  climb_local zero j l lt other xs xs' a a' ys ys' room room' enough h = chained_of (local_past {r = Ok (a, ys)} (record { holds = omega arith }))
  climb_local (suc i) zero l lt other xs xs' a a' ys ys' room room' enough h = elim (cases_lt n (length ys)) [
    | inr le ↦ chained_of (local_past (within (turn_walk p walks (climb p i l xs) l lt (λ b zs. climb_walk p walks i l lt xs b zs) xs a ys (joint l ys) refl) le))
    | inl more ↦ let d = agreed ys ys' h more in let some = d.some in absurd (omega arith)
  ]
  climb_local (suc i) (suc j) l lt other xs xs' a a' ys ys' room room' enough h =
      turn_local l lt other (climb p i l xs) (climb q j l xs') (λ b zs. climb_walk p walks i l lt xs b zs) xs xs' a a' ys ys' enough h
      (λ b b' zs zs' less less' g. climb_local i j l lt other xs xs' b b' zs zs' (omega arith) (omega arith) (omega arith) g) (joint l ys) refl (joint l ys') refl

  pub chain_local : (l : ℕ) → l < 12 → l ≢ 5 → (xs ys : Lexemes) → 13 * length xs + 12 ≤ depth + l → Agree n xs ys → Chained l n (chain p l xs) (chain q l ys)
  unfolding chain
  chain_local l lt other xs ys enough h = chained_then (local_of (omega arith) (local (l + 1) (omega arith) xs ys (omega arith) h)) (λ a b ea eb g.
      let less = leaves (walks (l + 1) xs (omega arith)) ea in
      climb_local (length a.1) (length b.1) l lt other xs ys a.0 b.0 a.1 b.1 (omega arith) (omega arith) (omega arith) g)

  -- ---- comparisons

  compared_by : (xs xs' : Lexemes) (a b : Expr × Lexemes) → 13 * length a.1 + 12 ≤ depth + 5 → n < length a.1 → Agree n a.1 b.1 → Agree n (next (next a.1)) (next (next b.1)) → (o : Option Op2) (c : Option Op1)
      → Local behind n (compared p xs a o c) (compared q xs' b o c)
  compared_by xs xs' a b enough lt h g (Some op) (Some pre) =
      let shorter = next_shorter a.1 (omega arith) in
      let less = next_shorter_or_equal (next a.1) in
      local_then (local_of (omega arith) (local 5 (omega arith) (next (next a.1)) (next (next b.1)) (omega arith) g)) (λ x y ex ey d. local_ok d)
  compared_by xs xs' a b enough lt h g (Some op) None = local_ok h
  compared_by xs xs' a b enough lt h g None (Some pre) = local_ok h
  compared_by xs xs' a b enough lt h g None None = local_ok h

  -- a comparison that has ended is taken with what follows
  ended_within : (xs : Lexemes) (a : Expr × Lexemes) → length a.1 ≤ suc n → ends_comparison a.1 ≡ true → Within behind n (compared p xs a (equality (kind a.1)) (prefix (kind (next a.1))))
  ended_within xs a le e = go (equality (kind a.1)) (prefix (kind (next a.1))) e
    where
      go : (o : Option Op2) (c : Option Op1) → (is_some o && is_some c) ≡ true → Within behind n (compared p xs a o c)
      go (Some op) (Some pre) f =
          let less = next_less a.1 le in
          let least = next_shorter_or_equal (next a.1) in
          within (mapped {w = behind} (walks 5 (next (next a.1)) (omega arith)) (λ b. stay _)) (omega arith)
      go (Some op) None f = absurd cc
      go None c f = absurd cc

  compared_local : (xs xs' : Lexemes) (a b : Expr × Lexemes) → p 6 xs ≡ Ok a → 13 * length a.1 + 12 ≤ depth + 5 → Agree n a.1 b.1
      → Local behind n (compared p xs a (equality (kind a.1)) (prefix (kind (next a.1)))) (compared q xs' b (equality (kind b.1)) (prefix (kind (next b.1))))
  compared_local xs xs' a b is enough h = before a.1 b.1 h (compared_walk p walks xs a (equality (kind a.1)) refl (prefix (kind (next a.1))) refl) (λ lt d. elim (cases_lt (suc n) (length a.1)) [
    | inl far ↦
        let shorter = next_shorter a.1 (omega arith) in
        let g = agreed (next a.1) (next b.1) d.behind (omega arith) in
        same_choice (λ c. compared p xs a (equality (kind a.1)) (prefix (kind (next a.1)))) (λ c. compared q xs' b (equality c) (prefix (kind (next b.1)))) _ _ d.kinds
        (same_choice (λ c. compared p xs a (equality (kind a.1)) (prefix (kind (next a.1)))) (λ c. compared q xs' b (equality (kind a.1)) (prefix c)) _ _ g.kinds
        (compared_by xs xs' a b enough lt h g.behind (equality (kind a.1)) (prefix (kind (next a.1)))))
    | inr le ↦ go d le (equality (kind a.1)) refl
  ])
    where
      alone : (c c' : Option Op1) → Local behind n (compared p xs a None c) (compared q xs' b None c')
      alone None None = local_ok h
      alone None (Some pre) = local_ok h
      alone (Some pre) None = local_ok h
      alone (Some pre) (Some pre') = local_ok h

      go : Agreed n a.1 b.1 → length a.1 ≤ suc n → (o : Option Op2) → equality (kind a.1) ≡ o
          → Local behind n (compared p xs a (equality (kind a.1)) (prefix (kind (next a.1)))) (compared q xs' b (equality (kind b.1)) (prefix (kind (next b.1))))
      go d le (Some op) e = local_past (ended_within xs a le (joint_ended a.1 op (IfOk-at_ok (λ (x : Expr × Lexemes). joint 6 x.1 ≡ None) is (finished xs)) e))
      go d le None e =
          let e' : equality (kind b.1) ≡ None = ap equality (sym d.kinds) ∙ e in
          subst (λ (o : Option Op2). Local behind n (compared p xs a o (prefix (kind (next a.1)))) (compared q xs' b (equality (kind b.1)) (prefix (kind (next b.1))))) (sym e)
          (subst (λ (o : Option Op2). Local behind n (compared p xs a None (prefix (kind (next a.1)))) (compared q xs' b o (prefix (kind (next b.1))))) (sym e') (alone (prefix (kind (next a.1))) (prefix (kind (next b.1)))))

  operand_local : (xs xs' : Lexemes) → 13 * length xs + 12 ≤ depth + 5 → (r s : Result (Expr × Lexemes) Stop) → p 6 xs ≡ r → Chained 6 n r s
      → Local behind n (r >>= λ a. compared p xs a (equality (kind a.1)) (prefix (kind (next a.1)))) (s >>= λ b. compared q xs' b (equality (kind b.1)) (prefix (kind (next b.1))))
  operand_local xs xs' enough r (Err e) is h = local_err
  operand_local xs xs' enough (Err (Stop.unread places)) (Ok b) is h = local_stopped _ h.holds
  operand_local xs xs' enough (Err (Stop.too_great places)) (Ok b) is h = record { holds = tt }
  operand_local xs xs' enough (Ok a) (Ok b) is h = go h.holds
    where
      less : length a.1 ≤ length xs
      less = leaves (walks 6 xs (omega arith)) is

      go : IsChained 6 n (Ok a) (Ok b) → Local behind n (compared p xs a (equality (kind a.1)) (prefix (kind (next a.1)))) (compared q xs' b (equality (kind b.1)) (prefix (kind (next b.1))))
      go (inl e) = local_past (ended_within xs a e.2 e.1)
      go (inr g) = let le = less in compared_local xs xs' a b is (omega arith) g

  prefixed_by_local : (xs ys : Lexemes) → 13 * length xs + 12 ≤ depth + 5 → n < length xs → Agree n xs ys → Agree n (next xs) (next ys) → (o : Option Op1) → Local behind n (prefixed_by p xs o) (prefixed_by q ys o)
  prefixed_by_local xs ys enough lt h g (Some op) = let shorter = next_shorter xs (omega arith) in local_then (local_of (omega arith) (local 5 (omega arith) (next xs) (next ys) (omega arith) g)) (λ a b ea eb d. local_ok d)
  prefixed_by_local xs ys enough lt h g None = operand_local xs ys enough (p 6 xs) (q 6 ys) refl (local 6 (omega arith) xs ys (omega arith) h)

  pub prefixed_local : (xs ys : Lexemes) → 13 * length xs + 12 ≤ depth + 5 → Agree n xs ys → Local behind n (prefixed p xs) (prefixed q ys)
  unfolding prefixed
  prefixed_local xs ys enough h = before xs ys h (prefixed_by_walk p walks xs (prefix (kind xs)) refl) (λ lt d.
      same_choice (λ c. prefixed_by p xs (prefix (kind xs))) (λ c. prefixed_by q ys (prefix c)) _ _ d.kinds (prefixed_by_local xs ys enough lt h d.behind (prefix (kind xs))))
