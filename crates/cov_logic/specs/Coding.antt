-- Codings: a structure whose states stand for those of another, as rows of bits do for the states of a model.
use Rattle.std.specs.Prelude.{◌≡◌, IsTrue, List, [], ◌∷◌}
use Rattle.cov_logic.specs.Structure.{Structure}
use Rattle.cov_logic.specs.Sets.{Set}

-- the fairness sets agree, one by one, about each valid state and its code
abbrev pub AgreeAll : {S R : Type 0} → Set S → (S → R) → List (Set S) → List (Set R) → Type 0
AgreeAll valid encode [] [] = Unit {0}
AgreeAll valid encode [] (g ∷ gs) = ⊥
AgreeAll valid encode (f ∷ fs) [] = ⊥
AgreeAll {S} valid encode (f ∷ fs) (g ∷ gs) =
    ((s : S) → IsTrue (valid s) → f s ≡ g (encode s)) × AgreeAll valid encode fs gs

-- a step leads from a valid state, and its code from the code of one; a valid state can be had back from its code,
-- and the structures agree about valid states and their codes
pub record IsCoding {S R : Type 0} (m : Structure S) (k : Structure R) (valid : Set S) (encode : S → R)
    (decode : R → S) : Type 0 where
  pub from_valid : (s t : S) → IsTrue (m.step s t) → IsTrue (valid s)
  pub from_code : (r u : R) → IsTrue (k.step r u) → IsTrue (valid (decode r)) × (encode (decode r) ≡ r)
  pub decoded : (s : S) → IsTrue (valid s) → decode (encode s) ≡ s
  pub initial : (s : S) → IsTrue (valid s) → m.initial s ≡ k.initial (encode s)
  pub step : (s t : S) → IsTrue (valid s) → IsTrue (valid t) → m.step s t ≡ k.step (encode s) (encode t)
  pub fair : AgreeAll valid encode m.fair k.fair
