-- Laws of replacing an occurrence.
use Rattle.std.proofs.Common.{◌≡◌, ◌≢◌, ℕ, ◌+◌, ◌-◌, ◌==◌, ◌<◌, ◌≤◌, Bool, true, false, if◌then◌else◌, ap, sym, arith}
use Rattle.std.proofs.lemmas.Bool.{cond_both, eqb-true, leb-true, leb-false}
use Rattle.cov_logic.specs.Formula.{Formula, Atom, Not, And, Or, Implies, EX, EF, EG, EU, AX, AF, AG, AU}
use Rattle.cov_logic.specs.Occurrence.{size, in_left}
use Rattle.cov_logic.specs.Replacement.{replace}
use Rattle.cov_logic.proofs.Nodes.{nodes_law}

module _ {A : Type 0} where
  pub some_node : (f : Formula A) → 0 < size f
  some_node (Atom a) = omega arith
  some_node (Not f) = omega arith
  some_node (And f g) = omega arith
  some_node (Or f g) = omega arith
  some_node (Implies f g) = omega arith
  some_node (EX f) = omega arith
  some_node (EF f) = omega arith
  some_node (EG f) = omega arith
  some_node (EU f g) = omega arith
  some_node (AX f) = omega arith
  some_node (AF f) = omega arith
  some_node (AG f) = omega arith
  some_node (AU f g) = omega arith

  -- ---- the size falls where one node is put in

  either : (b : Bool) (k : ℕ) (r s : Formula A) → size r ≤ k → size s ≤ k → size (if b then r else s) ≤ k
  either true k r s h i = h
  either false k r s h i = i

  pub size_replaced : (f : Formula A) (n : ℕ) (x : Formula A) → size x ≡ 1 → size (replace f n x) ≤ size f
  size_replaced (Atom a) n x h = either (n == 1) _ x _ (omega arith) (omega arith)
  size_replaced (Not f) n x h = either (n == 1) _ x _ (omega arith) (omega (arith, size_replaced f (n - 1) x h))
  size_replaced (And f g) n x h =
      either (n == 1) _ x _ (omega arith) (either (in_left f n) _ _ _ (omega (arith, size_replaced f (n - 1) x h)) (omega (arith, size_replaced g (n - 1 - size f) x h)))
  size_replaced (Or f g) n x h =
      either (n == 1) _ x _ (omega arith) (either (in_left f n) _ _ _ (omega (arith, size_replaced f (n - 1) x h)) (omega (arith, size_replaced g (n - 1 - size f) x h)))
  size_replaced (Implies f g) n x h =
      either (n == 1) _ x _ (omega arith) (either (in_left f n) _ _ _ (omega (arith, size_replaced f (n - 1) x h)) (omega (arith, size_replaced g (n - 1 - size f) x h)))
  size_replaced (EX f) n x h = either (n == 1) _ x _ (omega arith) (omega (arith, size_replaced f (n - 1) x h))
  size_replaced (EF f) n x h = either (n == 1) _ x _ (omega arith) (omega (arith, size_replaced f (n - 1) x h))
  size_replaced (EG f) n x h = either (n == 1) _ x _ (omega arith) (omega (arith, size_replaced f (n - 1) x h))
  size_replaced (EU f g) n x h =
      either (n == 1) _ x _ (omega arith) (either (in_left f n) _ _ _ (omega (arith, size_replaced f (n - 1) x h)) (omega (arith, size_replaced g (n - 1 - size f) x h)))
  size_replaced (AX f) n x h = either (n == 1) _ x _ (omega arith) (omega (arith, size_replaced f (n - 1) x h))
  size_replaced (AF f) n x h = either (n == 1) _ x _ (omega arith) (omega (arith, size_replaced f (n - 1) x h))
  size_replaced (AG f) n x h = either (n == 1) _ x _ (omega arith) (omega (arith, size_replaced f (n - 1) x h))
  size_replaced (AU f g) n x h =
      either (n == 1) _ x _ (omega arith) (either (in_left f n) _ _ _ (omega (arith, size_replaced f (n - 1) x h)) (omega (arith, size_replaced g (n - 1 - size f) x h)))

  -- ---- both operands may be walked

  -- above the size, or at 0, nothing is replaced
  pub not_there : (f : Formula A) (n : ℕ) (x : Formula A) → (0 < n → size f < n) → replace f n x ≡ f
  not_there f n x h = (nodes_law A).nowhere f x n (λ o. let above : size f < n = h o.0 in absurd (omega (arith, o.1)))

  pub replaced_both : (op : Formula A → Formula A → Formula A) (f g : Formula A) (n : ℕ) (x : Formula A) → n ≢ 1 →
      (if n == 1 then x else if in_left f n then op (replace f (n - 1) x) g else op f (replace g (n - 1 - size f) x))
      ≡ op (replace f (n - 1) x) (replace g (n - 1 - size f) x)
  replaced_both op f g n x ne =
      let both : Formula A = op (replace f (n - 1) x) (replace g (n - 1 - size f) x) in
      cond_both (n == 1) x (if in_left f n then op (replace f (n - 1) x) g else op f (replace g (n - 1 - size f) x)) (λ r. r ≡ both)
      (λ e. absurd (ne (eqb-true n 1 e)))
      (λ e. cond_both (in_left f n) (op (replace f (n - 1) x) g) (op f (replace g (n - 1 - size f) x)) (λ r. r ≡ both)
      (λ d. let left = leb-true n (1 + size f) d in ap (op (replace f (n - 1) x)) (sym (not_there g (n - 1 - size f) x (λ p. absurd (omega arith)))))
      (λ d. let right = leb-false n (1 + size f) d in ap (λ r. op r (replace g (n - 1 - size f) x)) (sym (not_there f (n - 1) x (λ p. omega arith)))))
