-- A fair lasso that was found from a later state, brought back along a path.
use Rattle.std.proofs.Common.{ℕ, zero, suc, ◌<◌, ◌∷◌, [], arith}
use Rattle.cov_logic.specs.Structure.{Structure}
use Rattle.cov_logic.specs.Lasso.{Lasso}
use Rattle.cov_logic.specs.Suffix.{suffix, at}
use Rattle.cov_logic.specs.FairLasso.{IsFair, IsFairFrom}
use Rattle.cov_logic.proofs.Suffixes.{suffix_fair, at_step}
use Rattle.cov_logic.proofs.Joins.{after_path, after_step_fair}
use Rattle.cov_logic.proofs.Positions.{below_suc}

module _ {S : Type 0} (m : Structure S) where
  -- a fair lasso from s with a property
  pub record Found (D : Lasso S → Type 0) (s : S) : Type 0 where
    pub lasso : Lasso S
    pub fair : IsFairFrom m s lasso
    pub has : D lasso

  -- the lasso that was found has another property too
  pub found_map : (D E : Lasso S → Type 0) (s : S) → ((k : Lasso S) → IsFairFrom m s k → D k → E k) → Found D s → Found E s
  found_map D E s h r = record { lasso = r.lasso; fair = r.fair; has = h r.lasso r.fair r.has }

  -- one more state before it
  pub step_back : (D : Lasso S → Type 0) (l : Lasso S) → IsFair m l → Found D (at l 1) → Found (λ k. D (suffix 1 k)) (at l 0)
  step_back D l fair h = record {
    lasso = after_path (at l 0 ∷ []) h.lasso;
    fair = after_step_fair m (at l 0) (at l 1) h.lasso (at_step m 0 l fair) h.fair;
    has = h.has;
  }

  -- some suffix has D, and each suffix before it has E
  pub record Later (D E : Lasso S → Type 0) (l : Lasso S) : Type 0 where
    pub place : ℕ
    pub there : D (suffix place l)
    pub before : (i : ℕ) → i < place → E (suffix i l)

  -- a path before it; E follows from a property of the states of the path
  pub path_back : (D E : Lasso S → Type 0) (C : S → Type 0) → ((s : S) (k : Lasso S) → IsFairFrom m s k → C s → E k) →
      (j : ℕ) (l : Lasso S) → IsFair m l → ((i : ℕ) → i < j → C (at l i)) → Found D (at l j) → Found (Later D E) (at l 0)
  path_back D E C told zero l fair c h = record {
    lasso = h.lasso;
    fair = h.fair;
    has = record { place = 0; there = h.has; before = λ i d. absurd (omega arith) };
  }
  path_back D E C told (suc j) l fair c h =
      let r = path_back D E C told j (suffix 1 l) (suffix_fair m 1 l fair) (λ i d. c (suc i) (omega arith)) h in
      let k = after_path (at l 0 ∷ []) r.lasso in
      let k_fair = after_step_fair m (at l 0) (at l 1) r.lasso (at_step m 0 l fair) r.fair in
      record {
        lasso = k;
        fair = k_fair;
        has = record {
          place = suc r.has.place;
          there = r.has.there;
          before = below_suc (λ i. E (suffix i k)) r.has.place (told (at l 0) k k_fair (c 0 (omega arith))) r.has.before;
        };
      }
