-- What operators make of the choices of their operands is what they mean.
use Rattle.std.proofs.Common.{◌≡◌, List, Bool, true, false, not, ◌&&◌, if◌then◌else◌, IsTrue, IsFalse, ◌⊎◌, inl, inr, Option, Some, None, refl, sym, ◌∙◌, ap, ap₂, subst}
use Rattle.std.specs.Prelude.{◌≢◌, neg_ℤ}
use Rattle.std.specs.List.{list_any, list_all}
use Rattle.cov_syntax.specs.declared.tree.Value.{Value}
use Rattle.cov_syntax.specs.declared.tree.Value.TheVariants as v
use Rattle.cov_syntax.specs.declared.tree.Op1.{Op1}
use Rattle.cov_syntax.specs.declared.tree.Op1.TheVariants as op1
use Rattle.cov_syntax.specs.declared.tree.Op2.{Op2}
use Rattle.cov_syntax.specs.declared.tree.Op2.TheVariants as op2
use Rattle.cov_syntax.specs.declared.tree.Expr.{Expr}
use Rattle.cov_model.specs.declared.model.Model.{Model}
use Rattle.cov_model.specs.declared.model.Signal.{Signal}
use Rattle.cov_model.specs.Kinds.{is_truth, member}
use Rattle.cov_model.specs.Meaning.{Point, Meaning, prefixed, joined, meaning, value, allows}
use Rattle.cov_model.specs.States.{State, is_typed, between}
use Rattle.cov_model.specs.Values.{number, operated, same_truth, same_value, truth, whole}
use Rattle.cov_model.specs.WellFormed.{IsWellFormed}
use Rattle.cov_ranges.specs.Ranges.{IsExpressionOf, ListsAll, is_set, range_of}
use Rattle.cov_ranges.proofs.Listed.{lists_all}
use Rattle.cov_readings.specs.Single.{HasOneChoice}
use Rattle.cov_readings.proofs.OneChoice.{one_choice}
use Rattle.cov_nodes.specs.declared.reading.Reading.{Reading}
use Rattle.cov_nodes.specs.Choices.{is_logic, is_true_at, of_truth, result_of, operated_choices, negated_choices}
use Rattle.cov_expressions.specs.Parts.{asks_values, is_sum, logic_choice, logic_for, made_choice}
use Rattle.cov_expressions.proofs.Families.{SameChoices, SameTruths}
use Rattle.cov_expressions.proofs.OneOf.{only_one, only_one_behind, any_same, same_true, truth_kept, truth_in}

-- an operand with one choice, its value, which is one of these
pub record IsSingle (m : Model) (e : Expr) (xs : List Value) : Type 0 where
  pub one : HasOneChoice m e
  pub listed : (s t : State) (flip : Option Signal) → IsTrue (is_typed m s) → IsTrue (is_typed m t) → IsTrue (member xs (value e (between m s t flip)))

pub single_is : (m : Model) (e : Expr) → IsWellFormed m → IsExpressionOf m e → IsFalse (is_set e) → IsSingle m e (range_of m e)
single_is m e w x s = record {
  one = one_choice m w e x s;
  listed = λ a b flip ta tb. (lists_all m w e x).values a b flip ta tb s;
}

-- where it may be TRUE, it is
pub true_is : (m : Model) (e : Expr) → HasOneChoice m e → (s t : State) (flip : Option Signal) → IsTrue (is_typed m s) → IsTrue (is_typed m t) → is_true_at (allows e) (between m s t flip) ≡ truth (value e (between m s t flip))
true_is m e one s t flip ts tt' = one s t flip ts tt' (v.Bool true) ∙ same_true (value e (between m s t flip))

-- ---- one operand

pub not_meant : (m : Model) (at : Reading) (a : Expr) → HasOneChoice m a → SameChoices m at (of_truth (λ p. not (is_true_at (allows a) p))) (prefixed whole op1.Not (meaning a)).allows
not_meant m at a one = record { same = λ s t ts tt' x. ap (λ (b : Bool). same_value (v.Bool (not b)) x) (true_is m a one s t at.flip ts tt') }

pub negated_meant : (m : Model) (at : Reading) (a : Expr) (xs : List Value) → IsSingle m a xs → SameChoices m at (negated_choices xs (allows a)) (prefixed whole op1.Neg (meaning a)).allows
negated_meant m at a xs h = record {
  same = λ s t ts tt' z.
      let p : Point = between m s t at.flip in
      let f : Value → Bool = λ x. same_value (v.Int (neg_ℤ (number x))) z in
      any_same (λ x. allows a p x && f x) (λ x. same_value (value a p) x && f x) xs (λ x. ap (λ (b : Bool). b && f x) (h.one s t at.flip ts tt' x))
      ∙ only_one (value a p) f xs (λ k. h.listed s t at.flip ts tt');
}

-- the operand of `next`, read in the next state
pub next_meant : (m : Model) (at : Reading) (a : Expr) → HasOneChoice m a → (s t : State) → IsTrue (is_typed m s) → IsTrue (is_typed m t) → (x : Value)
    → allows a (between m t t None) x ≡ (prefixed whole op1.Next (meaning a)).allows (between m s t at.flip) x
next_meant m at a one s t ts tt' x = one t t None tt' tt' x

pub temporal_one : (op : Op1) (a : Meaning) → op ≢ op1.Not → op ≢ op1.Neg → op ≢ op1.Next → (λ (p : Point) (x : Value). same_value (v.Bool false) x) ≡ (prefixed whole op a).allows
temporal_one op1.Not a f g h = absurd (f refl)
temporal_one op1.Neg a f g h = absurd (g refl)
temporal_one op1.Next a f g h = absurd (h refl)
temporal_one _ a f g h = refl

-- ---- two operands, one choice each

logic_kept : (op : Op2) (x y z : Value) → IsTrue (is_logic op) → same_value (v.Bool (truth (operated whole op (v.Bool (truth x)) (v.Bool (truth y))))) z ≡ same_value (operated whole op x y) z
logic_kept op2.And x y z h = refl
logic_kept op2.Or x y z h = refl
logic_kept op2.Xor x y z h = refl
logic_kept op2.Implies x y z h = refl
logic_kept op2.Iff x y z h = refl
logic_kept _ x y z h = cc

logic_single : (op : Op2) (a b : Meaning) (p : Point) (z : Value) → IsTrue (is_logic op) → same_value (operated whole op (a.value p) (b.value p)) z ≡ (joined whole op a b).allows p z
logic_single op2.Union a b p z h = cc
logic_single op2.Member a b p z h = cc
logic_single _ a b p z h = refl

pub logic_meant : (m : Model) (at : Reading) (op : Op2) (a b : Expr) → IsTrue (is_logic op) → HasOneChoice m a → HasOneChoice m b → SameChoices m at (logic_choice op (allows a) (allows b)) (joined whole op (meaning a) (meaning b)).allows
logic_meant m at op a b h f g = record {
  same = λ s t ts tt' z.
      let p : Point = between m s t at.flip in
      ap₂ (λ (x y : Bool). same_value (v.Bool (truth (operated whole op (v.Bool x) (v.Bool y)))) z) (true_is m a f s t at.flip ts tt') (true_is m b g s t at.flip ts tt')
      ∙ logic_kept op (value a p) (value b p) z h
      ∙ logic_single op (meaning a) (meaning b) p z h;
}

-- ---- `=` and `!=` of truths

same_truths : (x y : Value) → IsTrue (is_truth x) → IsTrue (is_truth y) → same_truth (truth x) (truth y) ≡ same_value x y
same_truths (v.Bool a) (v.Bool b) h k = refl
same_truths (v.Bool a) (v.Int n) h k = cc
same_truths (v.Bool a) (v.Sym n) h k = cc
same_truths (v.Int n) y h k = cc
same_truths (v.Sym n) y h k = cc

-- what is known where there is an operator of logic for a comparison
pub record IsLogicFor (op q : Op2) (xs ys : List Value) : Type 0 where
  pub logic : IsTrue (is_logic q)
  pub left : IsTrue (list_all is_truth xs)
  pub right : IsTrue (list_all is_truth ys)
  pub same : (x y : Value) → IsTrue (is_truth x) → IsTrue (is_truth y) → operated whole q x y ≡ operated whole op x y
  pub single : (a b : Meaning) → (joined whole op a b).allows ≡ (λ p z. same_value (operated whole op (a.value p) (b.value p)) z)
  pub alone : (a b : Meaning) → (joined whole q a b).allows ≡ (λ p z. same_value (operated whole q (a.value p) (b.value p)) z)

pub logic_for_is : (op q : Op2) (xs ys : List Value) → logic_for op xs ys ≡ Some q → IsLogicFor op q xs ys
logic_for_is op2.Eq q xs ys h = by (list_all is_truth xs) (list_all is_truth ys) refl refl h
  where
    by : (a b : Bool) → list_all is_truth xs ≡ a → list_all is_truth ys ≡ b → (if a && b then Some op2.Iff else None) ≡ Some q → IsLogicFor op2.Eq q xs ys
    by true true e f h =
        let k : op2.Iff ≡ q = cc in
        subst (λ (o : Op2). IsLogicFor op2.Eq o xs ys) k (record {
          logic = refl;
          left = e;
          right = f;
          same = λ x y tx ty. ap (λ (b : Bool). v.Bool b) (same_truths x y tx ty);
          single = λ a b. refl;
          alone = λ a b. refl;
        })
    by true false e f h = cc
    by false b e f h = cc
logic_for_is op2.Ne q xs ys h = by (list_all is_truth xs) (list_all is_truth ys) refl refl h
  where
    by : (a b : Bool) → list_all is_truth xs ≡ a → list_all is_truth ys ≡ b → (if a && b then Some op2.Xor else None) ≡ Some q → IsLogicFor op2.Ne q xs ys
    by true true e f h =
        let k : op2.Xor ≡ q = cc in
        subst (λ (o : Op2). IsLogicFor op2.Ne o xs ys) k (record {
          logic = refl;
          left = e;
          right = f;
          same = λ x y tx ty. ap (λ (b : Bool). v.Bool (not b)) (same_truths x y tx ty);
          single = λ a b. refl;
          alone = λ a b. refl;
        })
    by true false e f h = cc
    by false b e f h = cc
logic_for_is _ q xs ys h = cc

pub compared_meant : (m : Model) (at : Reading) (op q : Op2) (a b : Expr) (xs ys : List Value) → IsLogicFor op q xs ys → IsSingle m a xs → IsSingle m b ys
    → SameChoices m at (logic_choice q (allows a) (allows b)) (joined whole op (meaning a) (meaning b)).allows
compared_meant m at op q a b xs ys k f g = record {
  same = λ s t ts tt' z.
      let p : Point = between m s t at.flip in
      (logic_meant m at q a b k.logic f.one g.one).same s t ts tt' z
      ∙ ap (λ (F : Point → Value → Bool). F p z) (k.alone (meaning a) (meaning b))
      ∙ ap (λ (x : Value). same_value x z) (k.same (value a p) (value b p) (truth_in xs (value a p) k.left (f.listed s t at.flip ts tt')) (truth_in ys (value b p) k.right (g.listed s t at.flip ts tt')))
      ∙ ap (λ (F : Point → Value → Bool). F p z) (sym (k.single (meaning a) (meaning b)));
}

-- ---- the values of both sides

pub operated_meant : (m : Model) (at : Reading) (op : Op2) (a b : Expr) (xs ys : List Value) → IsSingle m a xs → IsSingle m b ys
    → SameChoices m at (operated_choices op xs ys (allows a) (allows b)) (λ p z. same_value (result_of op (value a p) (value b p)) z)
operated_meant m at op a b xs ys f g = record {
  same = λ s t ts tt' z.
      let p : Point = between m s t at.flip in
      let inner : Value → Bool = λ x. list_any (λ y. allows b p y && same_value (result_of op x y) z) ys in
      let one : (x : Value) → inner x ≡ same_value (result_of op x (value b p)) z = λ x.
      any_same (λ y. allows b p y && same_value (result_of op x y) z) (λ y. same_value (value b p) y && same_value (result_of op x y) z) ys (λ y. ap (λ (c : Bool). c && same_value (result_of op x y) z) (g.one s t at.flip ts tt' y))
      ∙ only_one (value b p) (λ y. same_value (result_of op x y) z) ys (λ k. g.listed s t at.flip ts tt') in
      any_same (λ x. allows a p x && inner x) (λ x. same_value (value a p) x && inner x) xs (λ x. ap (λ (c : Bool). c && inner x) (f.one s t at.flip ts tt' x))
      ∙ only_one (value a p) inner xs (λ k. f.listed s t at.flip ts tt')
      ∙ one (value a p);
}

-- `in` is TRUE where the value on the left is a choice on the right
pub member_meant : (m : Model) (at : Reading) (a b : Expr) (xs ys : List Value) → IsSingle m a xs → ((s t : State) → IsTrue (is_typed m s) → IsTrue (is_typed m t) → (x : Value) → IsTrue (allows b (between m s t at.flip) x) → IsTrue (member ys x))
    → SameTruths m at (operated_choices op2.Member xs ys (allows a) (allows b)) (of_truth (λ p. allows b p (value a p)))
member_meant m at a b xs ys f listed = record {
  same = λ s t ts tt'.
      let p : Point = between m s t at.flip in
      let inner : Value → Bool = λ x. list_any (λ y. allows b p y && same_value (v.Bool (same_value x y)) (v.Bool true)) ys in
      let one : inner (value a p) ≡ allows b p (value a p) =
      any_same (λ y. allows b p y && same_value (v.Bool (same_value (value a p) y)) (v.Bool true)) (λ y. allows b p y && same_value (value a p) y) ys (λ y. ap (λ (c : Bool). allows b p y && c) (same_true (v.Bool (same_value (value a p) y))))
      ∙ only_one_behind (value a p) (allows b p) ys (listed s t ts tt' (value a p)) in
      any_same (λ x. allows a p x && inner x) (λ x. same_value (value a p) x && inner x) xs (λ x. ap (λ (c : Bool). c && inner x) (f.one s t at.flip ts tt' x))
      ∙ only_one (value a p) inner xs (λ k. f.listed s t at.flip ts tt')
      ∙ one
      ∙ sym (same_true (v.Bool (allows b p (value a p))));
}

result_plain : (op : Op2) (x y : Value) → op ≢ op2.Member → result_of op x y ≡ operated whole op x y
result_plain op2.Member x y h = absurd (h refl)
result_plain _ x y h = refl

asks_single : (op : Op2) (a b : Meaning) → IsTrue (asks_values op) → op ≢ op2.Member → (joined whole op a b).allows ≡ (λ p z. same_value (operated whole op (a.value p) (b.value p)) z)
asks_single op2.Member a b h n = absurd (n refl)
asks_single op2.Union a b h n = cc
asks_single _ a b h n = refl

compares_truth : (op : Op2) (x y : Value) → IsTrue (asks_values op) → is_sum op ≡ false → op ≢ op2.Member → IsTrue (is_truth (operated whole op x y))
compares_truth op2.Eq x y h s n = refl
compares_truth op2.Ne x y h s n = refl
compares_truth op2.Lt x y h s n = refl
compares_truth op2.Le x y h s n = refl
compares_truth op2.Gt x y h s n = refl
compares_truth op2.Ge x y h s n = refl
compares_truth op2.Member x y h s n = absurd (n refl)
compares_truth _ x y h s n = cc

-- an operator other than `in`
pub made_meant : (m : Model) (at : Reading) (op : Op2) (a b : Expr) (xs ys : List Value) → IsTrue (asks_values op) → op ≢ op2.Member → IsSingle m a xs → IsSingle m b ys
    → SameChoices m at (made_choice op xs ys (allows a) (allows b)) (joined whole op (meaning a) (meaning b)).allows
made_meant m at op a b xs ys h n f g = record { same = λ s t ts tt' z. by (is_sum op) refl s t ts tt' z }
  where
    plain : (s t : State) → IsTrue (is_typed m s) → IsTrue (is_typed m t) → (z : Value) → operated_choices op xs ys (allows a) (allows b) (between m s t at.flip) z ≡ same_value (operated whole op (value a (between m s t at.flip)) (value b (between m s t at.flip))) z
    plain s t ts tt' z =
        let p : Point = between m s t at.flip in
        (operated_meant m at op a b xs ys f g).same s t ts tt' z ∙ ap (λ (x : Value). same_value x z) (result_plain op (value a p) (value b p) n)

    by : (c : Bool) → is_sum op ≡ c → (s t : State) → IsTrue (is_typed m s) → IsTrue (is_typed m t) → (z : Value)
        → (if c then operated_choices op xs ys (allows a) (allows b) else of_truth (is_true_at (operated_choices op xs ys (allows a) (allows b)))) (between m s t at.flip) z ≡ (joined whole op (meaning a) (meaning b)).allows (between m s t at.flip) z
    by true e s t ts tt' z = plain s t ts tt' z ∙ ap (λ (K : Point → Value → Bool). K (between m s t at.flip) z) (sym (asks_single op (meaning a) (meaning b) h n))
    by false e s t ts tt' z =
        let p : Point = between m s t at.flip in
        ap (λ (c : Bool). same_value (v.Bool c) z) (plain s t ts tt' (v.Bool true))
        ∙ truth_kept (operated whole op (value a p) (value b p)) z (compares_truth op (value a p) (value b p) h e n)
        ∙ ap (λ (K : Point → Value → Bool). K p z) (sym (asks_single op (meaning a) (meaning b) h n))

pub made_member_meant : (m : Model) (at : Reading) (a b : Expr) (xs ys : List Value) → IsSingle m a xs → ((s t : State) → IsTrue (is_typed m s) → IsTrue (is_typed m t) → (x : Value) → IsTrue (allows b (between m s t at.flip) x) → IsTrue (member ys x))
    → SameChoices m at (made_choice op2.Member xs ys (allows a) (allows b)) (joined whole op2.Member (meaning a) (meaning b)).allows
made_member_meant m at a b xs ys f listed = record {
  same = λ s t ts tt' z.
      let p : Point = between m s t at.flip in
      ap (λ (c : Bool). same_value (v.Bool c) z) ((member_meant m at a b xs ys f listed).same s t ts tt' ∙ same_true (v.Bool (allows b p (value a p))));
}

pub temporal_two : (op : Op2) (a b : Meaning) → (op ≡ op2.Au) ⊎ (op ≡ op2.Eu) → (λ (p : Point) (x : Value). same_value (v.Bool false) x) ≡ (joined whole op a b).allows
temporal_two op a b (inl h) = ap (λ (o : Op2). (joined whole o a b).allows) (sym h)
temporal_two op a b (inr h) = ap (λ (o : Op2). (joined whole o a b).allows) (sym h)

-- ---- any operator that asks for values

is_member : (op : Op2) → (op ≡ op2.Member) ⊎ (op ≢ op2.Member)
is_member op2.Member = inl refl
is_member _ = inr (λ e. cc)

pub operation_meant : (m : Model) (at : Reading) (op : Op2) (a b : Expr) (xs ys : List Value) → IsTrue (asks_values op) → IsSingle m a xs → (op ≢ op2.Member → IsSingle m b ys) → ListsAll m b ys
    → SameChoices m at (made_choice op xs ys (allows a) (allows b)) (joined whole op (meaning a) (meaning b)).allows
operation_meant m at op a b xs ys h f g all = by (is_member op)
  where
    by : (op ≡ op2.Member) ⊎ (op ≢ op2.Member) → SameChoices m at (made_choice op xs ys (allows a) (allows b)) (joined whole op (meaning a) (meaning b)).allows
    by (inr n) = made_meant m at op a b xs ys h n f (g n)
    by (inl e) = subst (λ (o : Op2). SameChoices m at (made_choice o xs ys (allows a) (allows b)) (joined whole o (meaning a) (meaning b)).allows) (sym e)
        (made_member_meant m at a b xs ys f (λ s t ts tt' x k. all.choices s t at.flip ts tt' x k))

-- ---- operators of logic

pub logic_among : (op : Op2) → (op ≡ op2.And) ⊎ ((op ≡ op2.Or) ⊎ ((op ≡ op2.Xor) ⊎ ((op ≡ op2.Implies) ⊎ (op ≡ op2.Iff)))) → IsTrue (is_logic op)
logic_among op (inl h) = ap is_logic h
logic_among op (inr (inl h)) = ap is_logic h
logic_among op (inr (inr (inl h))) = ap is_logic h
logic_among op (inr (inr (inr (inl h)))) = ap is_logic h
logic_among op (inr (inr (inr (inr h)))) = ap is_logic h

pub logic_no_union : (op : Op2) → IsTrue (is_logic op) → op ≢ op2.Union
logic_no_union op h e = let k : IsTrue (is_logic op2.Union) = subst (λ (o : Op2). IsTrue (is_logic o)) e h in cc

pub logic_no_member : (op : Op2) → IsTrue (is_logic op) → op ≢ op2.Member
logic_no_member op h e = let k : IsTrue (is_logic op2.Member) = subst (λ (o : Op2). IsTrue (is_logic o)) e h in cc

pub compared_no_member : (op q : Op2) (xs ys : List Value) → logic_for op xs ys ≡ Some q → op ≢ op2.Member
compared_no_member op q xs ys h e = let k : logic_for op2.Member xs ys ≡ Some q = subst (λ (o : Op2). logic_for o xs ys ≡ Some q) e h in cc
