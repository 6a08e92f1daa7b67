-- A model of two variables is flat.
use Rattle.std.proofs.Common.{◌≡◌, ◌≢◌, ℕ, zero, suc, Bool, true, false, not, ◌&&◌, ◌||◌, IsTrue, List, [], ◌∷◌, ◌++◌, Option, Some, None, refl, sym, ap, subst, ◌∙◌, arith}
use Rattle.std.specs.Prelude.{◌==◌, slice_get, pos}
use Rattle.std.specs.List.{list_all}
use Rattle.cov_syntax.specs.declared.tree.Value.{Value}
use Rattle.cov_syntax.specs.declared.tree.Value.TheVariants as v
use Rattle.cov_model.specs.declared.model.Var.{Var}
use Rattle.cov_model.specs.declared.model.Model.{Model}
use Rattle.cov_model.specs.Flat.{IsFlat}
use Rattle.cov_model.specs.Names.{is_dotted, is_reserved}
use Rattle.cov_model.specs.WellFormed.{are_values, has_name, is_symbol}
use Rattle.cov_order.proofs.Numbers.{same_number}

-- the model of these variables alone
abbrev pub plain : List (List ℕ) → List Var → Model
plain ns vars = record { names = ns; vars = vars; defines = []; inits = []; invars = []; nows = []; firsts = []; nexts = []; trans = []; fair = []; specs = [] }

-- `out`
abbrev pub out : List ℕ
out = 111 ∷ 117 ∷ 116 ∷ []

-- `mode`
abbrev pub mode : List ℕ
mode = 109 ∷ 111 ∷ 100 ∷ 101 ∷ []

out_is_name : is_dotted out ≡ true
unfolding is_reserved
out_is_name = refl

mode_is_name : is_dotted mode ≡ true
unfolding is_reserved
mode_is_name = refl

differ : (b : Bool) → (b ≡ true → ⊥) → not (b || false) && (true && true) ≡ true
differ true h = absurd (h refl)
differ false h = refl

pub flat_two : (ns : List (List ℕ)) (x y : Var) → slice_get ns x.name ≡ Some out → slice_get ns y.name ≡ Some mode
    → x.values ≡ v.Bool false ∷ v.Bool true ∷ [] → y.values ≡ v.Int (pos 0) ∷ v.Int (pos 2) ∷ [] → IsFlat (plain ns (x ∷ y ∷ []))
flat_two ns x y nx ny vx vy =
    let m : Model = plain ns (x ∷ y ∷ []) in
    record {
      conditions = refl;
      bodies = refl;
      assigned = refl;
      symbols =
          ap (λ (xs : List Value). list_all (is_symbol m) xs && (list_all (is_symbol m) y.values && true)) vx
          ∙ ap (λ (ys : List Value). list_all (is_symbol m) ys && true) vy;
      names =
          ap (λ (o : Option (List ℕ)). elim o [ Some t ↦ is_dotted t | None ↦ false ] && (has_name m y.name && true)) nx
          ∙ ap (λ (b : Bool). b && (has_name m y.name && true)) out_is_name
          ∙ ap (λ (o : Option (List ℕ)). elim o [ Some t ↦ is_dotted t | None ↦ false ] && true) ny
          ∙ ap (λ (b : Bool). b && true) mode_is_name;
      different = differ (y.name == x.name) (λ e. apart (same_number y.name x.name e));
      values = ap (λ (xs : List Value). are_values xs && (are_values y.values && true)) vx ∙ ap (λ (ys : List Value). are_values ys && true) vy;
      few_defines = omega arith;
      few_parts = omega arith;
      shallow = omega arith;
    }
  where
    apart : y.name ≡ x.name → ⊥
    apart e = let k : Some mode ≡ Some out = sym ny ∙ ap (slice_get ns) e ∙ nx in cc

-- a text stands where it stood when others are put behind it
pub still_there : (ns more : List (List ℕ)) (t : List ℕ) (i : ℕ) → slice_get ns i ≡ Some t → slice_get (ns ++ more) i ≡ Some t
still_there [] more t i e = absurd cc
still_there (n ∷ ns) more t zero e = e
still_there (n ∷ ns) more t (suc i) e = still_there ns more t i e
