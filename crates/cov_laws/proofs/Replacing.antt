-- What replaces an occurrence stands there, and what is neither above nor below it stays.
use Rattle.std.proofs.Common.{◌≡◌, ℕ, ◌+◌, ◌-◌, ◌<◌, ◌≤◌, Option, Some, None, IsSome, is_some, refl, sym, ap, subst, ◌∙◌, arith, inl, inr}
use Rattle.std.proofs.lemmas.Bool.{cases_lt, cases_eq}
use Rattle.cov_logic.specs.Formula.{Formula, Atom}
use Rattle.cov_logic.specs.Occurrence.{size, IsOccurrence, occurrence}
use Rattle.cov_logic.specs.Replacement.{replace}
use Rattle.cov_logic.proofs.Nodes.{nodes_law}
use Rattle.cov_laws.specs.Occurrences.{ReplacedStands}
use Rattle.cov_laws.proofs.Shapes.{IsUnary, IsBinary, by_shape, at_one, past_one, one_first, one_later, one_put, two_first, two_left, two_right, put_left, put_right}

module _ {A : Type 0} where
  -- what every formula is like
  record IsSound (f : Formula A) : Type 0 where
    some : 0 < size f
    first : (n : ℕ) → n ≡ 1 → occurrence f n ≡ Some f
    here : (x : Formula A) (n : ℕ) → n ≡ 1 → replace f n x ≡ x
    fits : (n : ℕ) (y : Formula A) → occurrence f n ≡ Some y → n + size y ≤ size f + 1

  atom_sound : (a : A) → IsSound (Atom a)
  atom_sound a = record {
    some = omega arith;
    first = λ n e. at_one (Some (Atom a)) None n e;
    here = λ x n e. at_one x (Atom a) n e;
    fits = λ n y h. elim (cases_eq n 1) [
      | inl e ↦ let whole : Some y ≡ Some (Atom a) = sym h ∙ at_one (Some (Atom a)) None n e in let same : y ≡ Atom a = cc in let sizes = ap size same in omega arith
      | inr e ↦ let nothing : Some y ≡ None = sym h ∙ past_one (Some (Atom a)) None n e in cc
    ];
  }

  whole_fits : (f y : Formula A) (n : ℕ) → n ≡ 1 → occurrence f n ≡ Some f → occurrence f n ≡ Some y → n + size y ≤ size f + 1
  whole_fits f y n e h d = let same : y ≡ f = cc in let sizes = ap size same in omega arith

  one_sound : (op : Formula A → Formula A) → IsUnary op → (f : Formula A) → IsSound f → IsSound (op f)
  one_sound op h f q = record {
    some = let size = h.sized f in omega arith;
    first = λ n e. one_first op h f n e;
    here = λ x n e. h.put f x n ∙ at_one _ _ n e;
    fits = λ n y d. elim (cases_eq n 1) [
      | inl e ↦ whole_fits (op f) y n e (one_first op h f n e) d
      | inr e ↦ let below = q.fits (n - 1) y (sym (one_later op h f n e) ∙ d) in let sizes = h.sized f in omega arith
    ];
  }

  two_sound : (op : Formula A → Formula A → Formula A) → IsBinary op → (f g : Formula A) → IsSound f → IsSound g → IsSound (op f g)
  two_sound op h f g p q = record {
    some = let size = h.sized f g in omega arith;
    first = λ n e. two_first op h f g n e;
    here = λ x n e. h.put f g x n ∙ at_one _ _ n e;
    fits = λ n y d. elim (cases_eq n 1) [
      | inl e ↦ whole_fits (op f g) y n e (two_first op h f g n e) d
      | inr e ↦ elim (cases_lt (1 + size f) n) [
        | inl right ↦
            let below = q.fits (n - 1 - size f) y (sym (two_right op h f g n right) ∙ d) in let sizes = h.sized f g in omega arith
        | inr left ↦
            let below = p.fits (n - 1) y (sym (two_left op h f g n e (omega arith)) ∙ d) in let sizes = h.sized f g in omega arith
      ]
    ];
  }

  sound : (f : Formula A) → IsSound f
  sound = by_shape IsSound atom_sound one_sound two_sound

  none_there : (f : Formula A) (n : ℕ) → ¬ IsOccurrence f n → occurrence f n ≡ None
  none_there f n h = go (occurrence f n) (λ s. h (((nodes_law A).there f n).0 s))
    where
      go : (o : Option (Formula A)) → ¬ IsSome o → o ≡ None
      go None h = refl
      go (Some y) h = absurd (h refl)

  past_end : (f : Formula A) (n : ℕ) → size f < n → occurrence f n ≡ None
  past_end f n h = none_there f n (λ q. omega arith)

  not_zero : (f y : Formula A) (n : ℕ) → occurrence f n ≡ Some y → 0 < n
  not_zero f y n h = (((nodes_law A).there f n).0 (ap is_some h)).0

  -- r is f with x in the place of occurrence n, which is old
  record IsReplaced (f x old r : Formula A) (n : ℕ) : Type 0 where
    resized : size r + size old ≡ size f + size x
    below : (k : ℕ) → k < size x → occurrence r (n + k) ≡ occurrence x (k + 1)
    before : (k : ℕ) (y : Formula A) → k ≤ n → occurrence f k ≡ Some y → occurrence r k ≡ Some (replace y (n + 1 - k) x)
    behind : (k : ℕ) → n ≤ k → occurrence r (k + size x) ≡ occurrence f (k + size old)

  -- the formula itself is replaced
  whole_replaced : (f x : Formula A) (n : ℕ) → n ≡ 1 → IsReplaced f x f x n
  whole_replaced f x n e = record {
    resized = omega arith;
    below = λ k h. let there : n + k ≡ k + 1 = omega arith in ap (occurrence x) there;
    before = λ k y h d.
        let some = not_zero f y k d in
        let first : k ≡ 1 = omega arith in
        let one : n + 1 - k ≡ 1 = omega arith in
        (sound x).first k first ∙ ap Some (sym ((sound y).here x (n + 1 - k) one));
    behind = λ k h. let some = (sound f).some in past_end x (k + size x) (omega arith) ∙ sym (past_end f (k + size f) (omega arith));
  }

  module _ (op : Formula A → Formula A) (h : IsUnary op) (f x old r : Formula A) (n : ℕ) (later : n ≡ 1 → ⊥) (some : 0 < n)
      (fits : n - 1 + size old ≤ size f + 1) (q : IsReplaced f x old r (n - 1)) where
    one_before : (k : ℕ) (y : Formula A) → k ≤ n → occurrence (op f) k ≡ Some y → replace (op f) n x ≡ op r → occurrence (op r) k ≡ Some (replace y (n + 1 - k) x)
    one_before k y b d e =
        let there = not_zero (op f) y k d in
        elim (cases_eq k 1) [
          | inl first ↦
              let same : y ≡ op f = cc (one_first op h f k first) in
              let back : n + 1 - k ≡ n = omega arith in
              one_first op h r k first ∙ ap Some (sym (ap (λ j. replace y j x) back ∙ ap (λ z. replace z n x) same ∙ e))
          | inr next ↦
              let back : n - 1 + 1 - (k - 1) ≡ n + 1 - k = omega arith in
              one_later op h r k next ∙ q.before (k - 1) y (omega arith) (sym (one_later op h f k next) ∙ d) ∙ ap (λ j. Some (replace y j x)) back
        ]

    one_replaced : replace (op f) n x ≡ op r → IsReplaced (op f) x old (op r) n
    one_replaced e = record {
      resized = let now = h.sized r in let then = h.sized f in let inner = q.resized in omega arith;
      below = λ k b.
          let back : n + k - 1 ≡ n - 1 + k = omega arith in
          one_later op h r (n + k) (λ d. omega arith) ∙ ap (occurrence r) back ∙ q.below k b;
      before = λ k y b d. one_before k y b d e;
      behind = λ k b.
          let positive = (sound x).some in
          let also = (sound old).some in
          let now : k + size x - 1 ≡ k - 1 + size x = omega arith in
          let then : k + size old - 1 ≡ k - 1 + size old = omega arith in
          one_later op h r (k + size x) (λ d. omega arith) ∙ ap (occurrence r) now ∙ q.behind (k - 1) (omega arith)
          ∙ sym (ap (occurrence f) then) ∙ sym (one_later op h f (k + size old) (λ d. omega arith));
    }

  module _ (op : Formula A → Formula A → Formula A) (h : IsBinary op) (f g x old r : Formula A) (n : ℕ) (later : n ≡ 1 → ⊥) (some : 0 < n) where
    module _ (left : n ≤ 1 + size f) (fits : n - 1 + size old ≤ size f + 1) (q : IsReplaced f x old r (n - 1)) where
      left_before : (k : ℕ) (y : Formula A) → k ≤ n → occurrence (op f g) k ≡ Some y → replace (op f g) n x ≡ op r g →
          occurrence (op r g) k ≡ Some (replace y (n + 1 - k) x)
      left_before k y b d e =
          let there = not_zero (op f g) y k d in
          let positive = (sound x).some in
          let inner = q.resized in
          elim (cases_eq k 1) [
            | inl first ↦
                let same : y ≡ op f g = cc (two_first op h f g k first) in
                let back : n + 1 - k ≡ n = omega arith in
                two_first op h r g k first ∙ ap Some (sym (ap (λ j. replace y j x) back ∙ ap (λ z. replace z n x) same ∙ e))
            | inr next ↦
                let back : n - 1 + 1 - (k - 1) ≡ n + 1 - k = omega arith in
                two_left op h r g k next (omega arith) ∙ q.before (k - 1) y (omega arith) (sym (two_left op h f g k next (omega arith)) ∙ d)
                ∙ ap (λ j. Some (replace y j x)) back
          ]

      left_behind : (k : ℕ) → n ≤ k → occurrence (op r g) (k + size x) ≡ occurrence (op f g) (k + size old)
      left_behind k b =
          let positive = (sound x).some in
          let also = (sound old).some in
          let inner = q.resized in
          elim (cases_lt (1 + size f) (k + size old)) [
            | inl out ↦
                let same : k + size x - 1 - size r ≡ k + size old - 1 - size f = omega arith in
                two_right op h r g (k + size x) (omega arith) ∙ ap (occurrence g) same ∙ sym (two_right op h f g (k + size old) out)
            | inr within ↦
                let now : k + size x - 1 ≡ k - 1 + size x = omega arith in
                let then : k + size old - 1 ≡ k - 1 + size old = omega arith in
                two_left op h r g (k + size x) (λ d. omega arith) (omega arith) ∙ ap (occurrence r) now ∙ q.behind (k - 1) (omega arith)
                ∙ sym (ap (occurrence f) then) ∙ sym (two_left op h f g (k + size old) (λ d. omega arith) (omega arith))
          ]

      left_replaced : replace (op f g) n x ≡ op r g → IsReplaced (op f g) x old (op r g) n
      left_replaced e = record {
        resized = let now = h.sized r g in let then = h.sized f g in let inner = q.resized in omega arith;
        below = λ k b.
            let inner = q.resized in
            let back : n + k - 1 ≡ n - 1 + k = omega arith in
            two_left op h r g (n + k) (λ d. omega arith) (omega arith) ∙ ap (occurrence r) back ∙ q.below k b;
        before = λ k y b d. left_before k y b d e;
        behind = left_behind;
      }

    module _ (right : 1 + size f < n) (q : IsReplaced g x old r (n - 1 - size f)) where
      right_before : (k : ℕ) (y : Formula A) → k ≤ n → occurrence (op f g) k ≡ Some y → replace (op f g) n x ≡ op f r →
          occurrence (op f r) k ≡ Some (replace y (n + 1 - k) x)
      right_before k y b d e =
          let there = not_zero (op f g) y k d in
          elim (cases_eq k 1) [
            | inl first ↦
                let same : y ≡ op f g = cc (two_first op h f g k first) in
                let back : n + 1 - k ≡ n = omega arith in
                two_first op h f r k first ∙ ap Some (sym (ap (λ j. replace y j x) back ∙ ap (λ z. replace z n x) same ∙ e))
            | inr next ↦ elim (cases_lt (1 + size f) k) [
              | inl far ↦
                  let back : n - 1 - size f + 1 - (k - 1 - size f) ≡ n + 1 - k = omega arith in
                  two_right op h f r k far ∙ q.before (k - 1 - size f) y (omega arith) (sym (two_right op h f g k far) ∙ d)
                  ∙ ap (λ j. Some (replace y j x)) back
              | inr near ↦
                  let found : occurrence f (k - 1) ≡ Some y = sym (two_left op h f g k next (omega arith)) ∙ d in
                  let end = (sound f).fits (k - 1) y found in
                  let same = (nodes_law A).nowhere y x (n + 1 - k) (λ o. omega arith) in
                  two_left op h f r k next (omega arith) ∙ found ∙ ap Some (sym same)
            ]
          ]

      right_replaced : replace (op f g) n x ≡ op f r → IsReplaced (op f g) x old (op f r) n
      right_replaced e = record {
        resized = let now = h.sized f r in let then = h.sized f g in let inner = q.resized in omega arith;
        below = λ k b.
            let back : n + k - 1 - size f ≡ n - 1 - size f + k = omega arith in
            two_right op h f r (n + k) (omega arith) ∙ ap (occurrence r) back ∙ q.below k b;
        before = λ k y b d. right_before k y b d e;
        behind = λ k b.
            let now : k + size x - 1 - size f ≡ k - 1 - size f + size x = omega arith in
            let then : k + size old - 1 - size f ≡ k - 1 - size f + size old = omega arith in
            two_right op h f r (k + size x) (omega arith) ∙ ap (occurrence r) now ∙ q.behind (k - 1 - size f) (omega arith)
            ∙ sym (ap (occurrence g) then) ∙ sym (two_right op h f g (k + size old) (omega arith));
      }

  -- the claim of the induction
  abbrev Replaces : Formula A → Type 0
  Replaces f = (n : ℕ) (x old : Formula A) → occurrence f n ≡ Some old → IsReplaced f x old (replace f n x) n

  -- the occurrence is the formula itself
  at_whole : (f x old : Formula A) (n : ℕ) → n ≡ 1 → occurrence f n ≡ Some old → IsReplaced f x old (replace f n x) n
  at_whole f x old n e h =
      let same : old ≡ f = cc ((sound f).first n e) in
      subst (λ r. IsReplaced f x old r n) (sym ((sound f).here x n e))
      (subst (λ o. IsReplaced f x o x n) (sym same) (whole_replaced f x n e))

  atom_replaces : (a : A) → Replaces (Atom a)
  atom_replaces a n x old h = elim (cases_eq n 1) [
    | inl e ↦ at_whole (Atom a) x old n e h
    | inr e ↦ let nothing : Some old ≡ None = sym h ∙ past_one (Some (Atom a)) None n e in cc
  ]

  one_replaces : (op : Formula A → Formula A) → IsUnary op → (f : Formula A) → Replaces f → Replaces (op f)
  one_replaces op h f q n x old d = elim (cases_eq n 1) [
    | inl e ↦ at_whole (op f) x old n e d
    | inr e ↦
        let below = sym (one_later op h f n e) ∙ d in
        let put = one_put op h f x n e in
        subst (λ r. IsReplaced (op f) x old r n) (sym put)
        (one_replaced op h f x old (replace f (n - 1) x) n e (not_zero (op f) old n d) ((sound f).fits (n - 1) old below) (q (n - 1) x old below) put)
  ]

  two_replaces : (op : Formula A → Formula A → Formula A) → IsBinary op → (f g : Formula A) → Replaces f → Replaces g → Replaces (op f g)
  two_replaces op h f g p q n x old d =
      let some = not_zero (op f g) old n d in
      elim (cases_eq n 1) [
        | inl e ↦ at_whole (op f g) x old n e d
        | inr e ↦ elim (cases_lt (1 + size f) n) [
          | inl right ↦
              let put = put_right op h f g x n right in
              subst (λ r. IsReplaced (op f g) x old r n) (sym put)
              (right_replaced op h f g x old (replace g (n - 1 - size f) x) n e some right
              (q (n - 1 - size f) x old (sym (two_right op h f g n right) ∙ d)) put)
          | inr within ↦
              let left : n ≤ 1 + size f = omega arith in
              let below = sym (two_left op h f g n e left) ∙ d in
              let put = put_left op h f g x n e left in
              subst (λ r. IsReplaced (op f g) x old r n) (sym put)
              (left_replaced op h f g x old (replace f (n - 1) x) n e some left ((sound f).fits (n - 1) old below) (p (n - 1) x old below) put)
        ]
      ]

  replaces : (f : Formula A) → Replaces f
  replaces = by_shape Replaces atom_replaces one_replaces two_replaces

  -- where there is an occurrence, it is some formula
  the_old : (f x : Formula A) (n : ℕ) → IsOccurrence f n → (old : Formula A) × IsReplaced f x old (replace f n x) n
  the_old f x n h = go (occurrence f n) refl (((nodes_law A).there f n).1 h)
    where
      go : (o : Option (Formula A)) → occurrence f n ≡ o → IsSome o → (old : Formula A) × IsReplaced f x old (replace f n x) n
      go None e s = cc
      go (Some old) e s = (old, replaces f n x old e)

pub replaced_law : (A : Type 0) → ReplacedStands A
replaced_law A = record {
  there = λ f x n h.
      let (old, r) = the_old f x n h in
      let here : n + 0 ≡ n = omega arith in
      sym (ap (occurrence (replace f n x)) here) ∙ r.below 0 (sound x).some ∙ (sound x).first (0 + 1) refl;
  below = λ f x n k h b. let (old, r) = the_old f x n h in r.below k b;
  before = λ f x y n k h b d. let (old, r) = the_old f x n h in r.before k y b d;
  behind = λ f x old n k h b. (replaces f n x old h).behind k b;
  resized = λ f x old n h. (replaces f n x old h).resized;
}
