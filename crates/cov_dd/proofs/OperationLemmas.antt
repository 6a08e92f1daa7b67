-- What each operation makes of functions that are split at a level.
use Rattle.std.proofs.Common.{◌≡◌, ◌≢◌, ℕ, ◌<◌, ◌≤◌, List, Bool, true, false, cond, length, get_or, set, not, sym, ◌∙◌, ap, arith}
use Rattle.std.proofs.lemmas.List.{length-set, set_comm}
use Rattle.cov_dd.specs.declared.node.Ref.{Ref}
use Rattle.cov_dd.specs.declared.operations.Op.{Op}
use Rattle.cov_dd.specs.Nodes.{TableOf, rank, level_of, top_of, den, IsBelow, IsTable, Extends, Denotes}
use Rattle.cov_dd.specs.Cofactors.{Splits, SplitsAt}
use Rattle.cov_dd.specs.Operations.{value_of, applied, negated, put, restricted}
use Rattle.cov_dd.proofs.Diagrams.{den_by_agree}
use Rattle.cov_dd.proofs.Growth.{keeps}
use Rattle.cov_dd.proofs.Rows.{put_is_set, get_or-put_same, get_or-put_other}
use Rattle.cov_dd.specs.Questions.{Halved, on_two, negation_of, restriction_of}

-- ---- two functions

choice_applied : (op : Op) (b f fl fh g gl gh : Bool) → f ≡ cond b fh fl → g ≡ cond b gh gl → value_of op f g ≡ cond b (value_of op fh gh) (value_of op fl gl)
choice_applied op true f fl fh g gl gh p q = cc
choice_applied op false f fl fh g gl gh p q = cc

splits_applied : (levels level : ℕ) (op : Op) (f fl fh g gl gh : List Bool → Bool) → Splits levels level f fl fh → Splits levels level g gl gh → Splits levels level (applied op f g) (applied op fl gl) (applied op fh gh)
splits_applied levels level op f fl fh g gl gh p q = record {
  at_low = λ row len. ap (λ b. value_of op b (gl row)) (p.at_low row len) ∙ ap (λ b. value_of op (f (set row level false)) b) (q.at_low row len);
  at_high = λ row len. ap (λ b. value_of op b (gh row)) (p.at_high row len) ∙ ap (λ b. value_of op (f (set row level true)) b) (q.at_high row len);
  choice = λ row. choice_applied op (get_or row level false) _ _ _ _ _ _ (p.choice row) (q.choice row);
}

pub halved_two : (s : TableOf) (op : Op) (f g : Ref) (level : ℕ) (fl fh gl gh : Ref) → IsTable s.levels s.nodes → level ≡ top_of s f g → SplitsAt s level f fl fh → SplitsAt s level g gl gh → Halved s level (on_two op f g) (on_two op fl gl) (on_two op fh gh)
halved_two s op f g level fl fh gl gh table top p q = record {
  table = table;
  top = top;
  splits = splits_applied s.levels level op _ _ _ _ _ _ p.splits q.splits;
  below_low =
      let a : level < level_of s.levels s.nodes fl = p.below_low.ordered in
      let b : level < level_of s.levels s.nodes gl = q.below_low.ordered in
      omega arith;
  below_high = λ t e.
      let a : level < level_of s.levels s.nodes fh = p.below_high.ordered in
      let b : level < level_of s.levels s.nodes gh = q.below_high.ordered in
      let a' : level_of t.levels t.nodes fh ≡ level_of s.levels s.nodes fh = (keeps s t table e fh p.below_high.live).level in
      let b' : level_of t.levels t.nodes gh ≡ level_of s.levels s.nodes gh = (keeps s t table e gh q.below_high.live).level in
      omega arith;
  same_high = λ t e row.
      ap (λ b. value_of op b (den t.nodes gh row)) ((keeps s t table e fh p.below_high.live).den row)
      ∙ ap (λ b. value_of op (den s.nodes fh row) b) ((keeps s t table e gh q.below_high.live).den row);
}

-- ---- negation

choice_not : (b f fl fh : Bool) → f ≡ cond b fh fl → not f ≡ cond b (not fh) (not fl)
choice_not true f fl fh p = ap not p
choice_not false f fl fh p = ap not p

splits_negated : (levels level : ℕ) (f fl fh : List Bool → Bool) → Splits levels level f fl fh → Splits levels level (negated f) (negated fl) (negated fh)
splits_negated levels level f fl fh p = record {
  at_low = λ row len. ap not (p.at_low row len);
  at_high = λ row len. ap not (p.at_high row len);
  choice = λ row. choice_not (get_or row level false) _ _ _ (p.choice row);
}

-- a diagram keeps its level
below_grown : (s t : TableOf) (level : ℕ) (r : Ref) → IsTable s.levels s.nodes → Extends s t → IsBelow s.levels s.nodes level r → level < level_of t.levels t.nodes r
below_grown s t level r table e below =
    let a : level < level_of s.levels s.nodes r = below.ordered in
    let b : level_of t.levels t.nodes r ≡ level_of s.levels s.nodes r = (keeps s t table e r below.live).level in
    omega arith

pub halved_negation : (s : TableOf) (f : Ref) (level : ℕ) (fl fh : Ref) → IsTable s.levels s.nodes → level ≡ level_of s.levels s.nodes f → SplitsAt s level f fl fh → Halved s level (negation_of f) (negation_of fl) (negation_of fh)
halved_negation s f level fl fh table top p = record {
  table = table;
  top = top;
  splits = splits_negated s.levels level _ _ _ p.splits;
  below_low = p.below_low.ordered;
  below_high = λ t e. below_grown s t level fh table e p.below_high;
  same_high = λ t e row. ap not ((keeps s t table e fh p.below_high.live).den row);
}

-- ---- one bit fixed

-- a bit above the level of a diagram does not matter
pub put_skip : (s : TableOf) → IsTable s.levels s.nodes → (r : Ref) → rank r ≤ length s.nodes → (k : ℕ) (b : Bool) → k < level_of s.levels s.nodes r → (row : List Bool) → den s.nodes r (put row k b) ≡ den s.nodes r row
put_skip s table r live k b below row =
    den_by_agree s.levels s.nodes table (put row k b) row (rank r) r live (λ j le. let ne : j ≢ k = omega arith in get_or-put_other row k j b ne)

splits_restricted : (levels level k : ℕ) (b : Bool) (f fl fh : List Bool → Bool) → level ≢ k → k < levels → Splits levels level f fl fh → Splits levels level (restricted k b f) (restricted k b fl) (restricted k b fh)
splits_restricted levels level k b f fl fh ne lt p = record {
  at_low = λ row len. at_bit false fl row len p.at_low;
  at_high = λ row len. at_bit true fh row len p.at_high;
  choice = λ row.
      p.choice (put row k b)
      ∙ ap (λ x. cond x (fh (put row k b)) (fl (put row k b))) (get_or-put_other row k level b ne);
}
  where
    at_bit : (v : Bool) (part : List Bool → Bool) (row : List Bool) → length row ≡ levels → ((r : List Bool) → length r ≡ levels → part r ≡ f (set r level v)) → part (put row k b) ≡ f (put (set row level v) k b)
    at_bit v part row len at =
        let room : k < length row = omega arith in
        let room' : k < length (set row level v) = omega (arith, length-set row level v) in
        ap part (put_is_set row k b room)
        ∙ at (set row k b) (length-set row k b ∙ len)
        ∙ ap f (set_comm row k level b v (λ e. ne (sym e)) ∙ sym (put_is_set (set row level v) k b room'))

pub halved_restriction : (s : TableOf) (f : Ref) (level : ℕ) (fl fh : Ref) (k : ℕ) (b : Bool) → IsTable s.levels s.nodes → level ≡ level_of s.levels s.nodes f → SplitsAt s level f fl fh → level ≢ k → k < s.levels → Halved s level (restriction_of k b f) (restriction_of k b fl) (restriction_of k b fh)
halved_restriction s f level fl fh k b table top p ne lt = record {
  table = table;
  top = top;
  splits = splits_restricted s.levels level k b _ _ _ ne lt p.splits;
  below_low = p.below_low.ordered;
  below_high = λ t e. below_grown s t level fh table e p.below_high;
  same_high = λ t e row. (keeps s t table e fh p.below_high.live).den (put row k b);
}

-- f does not depend on the bit
pub restrict_skip : (s : TableOf) → IsTable s.levels s.nodes → (f : Ref) → rank f ≤ length s.nodes → (k : ℕ) (b : Bool) → k < level_of s.levels s.nodes f → Denotes s (level_of s.levels s.nodes f) f (restricted k b (den s.nodes f))
restrict_skip s table f live k b below = record { live = live; level = omega arith; den = λ row. sym (put_skip s table f live k b below row) }

-- the bit of the level of f
pub restrict_low : (s : TableOf) → IsTable s.levels s.nodes → (f : Ref) (level k : ℕ) (fl fh : Ref) (b : Bool) → b ≡ false → level ≡ level_of s.levels s.nodes f → level ≡ k → SplitsAt s level f fl fh → Denotes s (level_of s.levels s.nodes f) fl (restricted k b (den s.nodes f))
restrict_low s table f level k fl fh b clear top here split =
    let below : level < level_of s.levels s.nodes fl = split.below_low.ordered in
    let below' : k < level_of s.levels s.nodes fl = omega arith in
    record {
      live = split.below_low.live;
      level = omega arith;
      den = λ row.
          sym (split.splits.choice (put row k b)
          ∙ ap (λ x. cond x (den s.nodes fh (put row k b)) (den s.nodes fl (put row k b))) (ap (λ n. get_or (put row k b) n false) here ∙ get_or-put_same row k b ∙ clear)
          ∙ put_skip s table fl split.below_low.live k b below' row);
    }

pub restrict_high : (s : TableOf) → IsTable s.levels s.nodes → (f : Ref) (level k : ℕ) (fl fh : Ref) (b : Bool) → b ≡ true → level ≡ level_of s.levels s.nodes f → level ≡ k → SplitsAt s level f fl fh → Denotes s (level_of s.levels s.nodes f) fh (restricted k b (den s.nodes f))
restrict_high s table f level k fl fh b set_bit top here split =
    let below : level < level_of s.levels s.nodes fh = split.below_high.ordered in
    let below' : k < level_of s.levels s.nodes fh = omega arith in
    record {
      live = split.below_high.live;
      level = omega arith;
      den = λ row.
          sym (split.splits.choice (put row k b)
          ∙ ap (λ x. cond x (den s.nodes fh (put row k b)) (den s.nodes fl (put row k b))) (ap (λ n. get_or (put row k b) n false) here ∙ get_or-put_same row k b ∙ set_bit)
          ∙ put_skip s table fh split.below_high.live k b below' row);
    }
