-- How a diagram is split at a level, and tables that grow by cofactors of a function.
use Rattle.std.proofs.Common.{◌≡◌, ℕ, ◌<◌, ◌≤◌, List, Bool, true, false, cond, length, get_or, set, refl, sym, ◌∙◌, subst, arith}
use Rattle.cov_dd.specs.declared.node.Ref.{Ref}
use Rattle.cov_dd.specs.declared.node.Ref.TheVariants.{Inner}
use Rattle.cov_dd.specs.declared.node.Part.{Part}
use Rattle.cov_dd.specs.Nodes.{TableOf, node_at, rank, level_of, den, IsPlaced, IsTable, IsLive, Keeps}
use Rattle.cov_dd.specs.Cofactors.{Computes, SplitsAt}
use Rattle.cov_dd.specs.Reached.Reaches.{here, by_low, by_high}
use Rattle.cov_dd.proofs.Diagrams.{den_node}
use Rattle.cov_dd.proofs.Canonical.{den_skip, den_low, den_high}
use Rattle.cov_dd.proofs.Growth.{keeps, extends_trans}
use Rattle.cov_dd.proofs.CofactorLemmas.{adds_lift, adds_same, adds_trans}

-- a node is split at its own level
pub split_at : (t : TableOf) → IsTable t.levels t.nodes → (i : ℕ) (node : Part) → i < length t.nodes → node ≡ node_at t.nodes i → SplitsAt t node.level (Inner i) node.low node.high
split_at t table i node within is =
    let P : Part → Type 0 = λ n. SplitsAt t n.level (Inner i) n.low n.high in
    let placed : IsPlaced t.levels t.nodes i = table.placed i within in
    let low : rank (node_at t.nodes i).low ≤ i = placed.low_before in
    let high : rank (node_at t.nodes i).high ≤ i = placed.high_before in
    subst P (sym is) (record {
      below_low = record { live = omega arith; ordered = placed.low_ordered };
      below_high = record { live = omega arith; ordered = placed.high_ordered };
      part_low = by_low i (node_at t.nodes i).low (here (node_at t.nodes i).low);
      part_high = by_high i (node_at t.nodes i).high (here (node_at t.nodes i).high);
      rank_low = omega arith;
      rank_high = omega arith;
      falls_low = λ _. omega arith;
      falls_high = λ _. omega arith;
      splits = record {
        at_low = den_low t.levels t.nodes table i within;
        at_high = den_high t.levels t.nodes table i within;
        choice = λ row. den_node t.levels t.nodes table row i within;
      };
    })

same_choice : (b x : Bool) → x ≡ cond b x x
same_choice true x = refl
same_choice false x = refl

-- a diagram does not depend on a level above its own
pub split_skip : (t : TableOf) → IsTable t.levels t.nodes → (level : ℕ) (f : Ref) → rank f ≤ length t.nodes → level < level_of t.levels t.nodes f → SplitsAt t level f f f
split_skip t table level f live below = record {
  below_low = record { live = live; ordered = below };
  below_high = record { live = live; ordered = below };
  part_low = here f;
  part_high = here f;
  rank_low = omega arith;
  rank_high = omega arith;
  falls_low = λ e. absurd (omega arith);
  falls_high = λ e. absurd (omega arith);
  splits = record {
    at_low = λ row len. sym (den_skip t.levels t.nodes table f live level false below row);
    at_high = λ row len. sym (den_skip t.levels t.nodes table f live level true below row);
    choice = λ row. same_choice (get_or row level false) (den t.nodes f row);
  };
}

pub computes_lift : (s t : TableOf) (level top : ℕ) (b : Bool) (function part : List Bool → Bool) → level < top → ((row : List Bool) → length row ≡ s.levels → part row ≡ function (set row level b)) → Computes s t top part → Computes s t level function
computes_lift s t level top b function part lt is c = record {
  extends = c.extends;
  table = c.table;
  adds = adds_lift s t level top b function part c.table lt (λ row len. is row (len ∙ c.extends.levels)) c.adds;
}

pub computes_trans : (s t u : TableOf) (top : ℕ) (function : List Bool → Bool) → Computes s t top function → Computes t u top function → Computes s u top function
computes_trans s t u top function p q = record {
  extends = extends_trans s t u p.extends q.extends;
  table = q.table;
  adds = adds_trans s t u top function p.table q.extends p.adds q.adds;
}

pub computes_same : (s t : TableOf) (top : ℕ) (f g : List Bool → Bool) → ((row : List Bool) → f row ≡ g row) → Computes s t top f → Computes s t top g
computes_same s t top f g same c = record { extends = c.extends; table = c.table; adds = adds_same s t top f g same c.adds }

-- no diagram that stood changes
pub computes_keeps : (s t : TableOf) (top : ℕ) (function : List Bool → Bool) → IsTable s.levels s.nodes → Computes s t top function → (r : Ref) → IsLive s.nodes r → Keeps s t r
computes_keeps s t top function table c r live = keeps s t table c.extends r live
