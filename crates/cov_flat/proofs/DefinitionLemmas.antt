-- The DEFINEs that arguments become, one after the other.
use Rattle.std.proofs.Common.{◌≡◌, ℕ, zero, suc, ◌++◌, ◌∷◌, [], Bool, true, false, cond, List, take, map, refl, sym, ap, ◌∙◌}
use Rattle.std.specs.Prelude.{is_some, slice_get, Some}
use Rattle.std.specs.List.{zip}
use Rattle.cov_syntax.specs.declared.tree.Expr.{Expr}
use Rattle.cov_syntax.specs.declared.program.Spelled.{Spelled}
use Rattle.cov_syntax.specs.declared.program.Program.{Program}
use Rattle.cov_modules.specs.Names.{spelled}
use Rattle.cov_modules.specs.Things.{Instance, path_of}
use Rattle.cov_modules.specs.Walk.{Stop}
use Rattle.cov_modules.specs.FlatLists.{FlatDefine, flat_expr}
use Rattle.cov_flat.specs.declared.definitions.Definition.{Definition}
use Rattle.cov_flat.specs.Reading.{flat_index}
use Rattle.cov_flat.specs.Entries.{argument_in, spelled_define, pair_at}

-- a path becomes none
pub argument_path : (p : Program) (s : Stop) (formal : Spelled) (e : Expr) → is_some (path_of e) ≡ true → argument_in p s (formal, e) ≡ []
argument_path p s formal e h =
    let one : FlatDefine = record { name = s.here.name ++ formal.name ∷ []; body = e; place = e.place; reader = s.caller } in
    ap (λ (b : Bool). map (spelled_define p) (cond b [] (one ∷ []))) h

-- any other argument becomes one, read by the caller
pub argument_define : (p : Program) (s : Stop) (x : Instance) (formal : Spelled) (e body : Expr) (text : List ℕ) → is_some (path_of e) ≡ false
    → text ≡ spelled p.names (s.here.name ++ formal.name ∷ []) → x ≡ s.caller → body ≡ flat_expr p (flat_index p) x e
    → record { text = text; body = body; place = e.place } ∷ [] ≡ argument_in p s (formal, e)
argument_define p s x formal e body text h named reads is =
    let one : FlatDefine = record { name = s.here.name ++ formal.name ∷ []; body = e; place = e.place; reader = s.caller } in
    let made : List ℕ → Expr → List Definition = λ (t : List ℕ) (b : Expr). record { text = t; body = b; place = e.place } ∷ [] in
    ap (λ (t : List ℕ). made t body) named
    ∙ ap (made (spelled p.names one.name)) (is ∙ ap (λ (y : Instance). flat_expr p (flat_index p) y e) reads)
    ∙ sym (ap (λ (b : Bool). map (spelled_define p) (cond b [] (one ∷ []))) h)

-- without arguments there is no pair
pub zip_nil : {A B : Type 0} (xs : List A) → (λ (ys : List B). zip xs ys) [] ≡ []
zip_nil [] = refl
zip_nil (x ∷ xs) = refl

-- one more argument
pub zip_step : {A B : Type 0} (xs : List A) (ys : List B) (i : ℕ) (y : B) → slice_get ys i ≡ Some y → zip xs (take (suc i) ys) ≡ zip xs (take i ys) ++ pair_at xs i y
zip_step [] ys i y h = refl
zip_step (x ∷ xs) [] i y h = absurd cc
zip_step {B = B} (x ∷ xs) (z ∷ zs) zero y h =
    let same : z ≡ y = cc in
    ap (λ ps. (x, z) ∷ ps) (zip_nil {B = B} xs) ∙ ap (λ (w : B). (x, w) ∷ []) same
zip_step (x ∷ xs) (z ∷ zs) (suc i) y h = ap (λ ps. (x, z) ∷ ps) (zip_step xs zs i y h)
