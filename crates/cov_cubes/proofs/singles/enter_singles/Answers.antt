use Rattle.std.proofs.Common.{◌≡◌, ℕ, ◌-◌, ◌++◌, ◌∷◌, [], List, length, get_or, refl, sym, ◌∙◌, ap, arith}
use Rattle.std.proofs.lemmas.List.{append-nil}
use Rattle.cov_model.specs.declared.model.Var.{Var}
use Rattle.cov_bits.specs.Layout.{sizes}
use Rattle.cov_cubes.specs.declared.found.Found.{Found}
use Rattle.cov_cubes.specs.OneValue.{singles}
use Rattle.cov_cubes.proofs.Sizes.{length-plan, size_read}
use Rattle.cov_cubes.proofs.Passing.{singles_last, one_more}
use Rattle.cov_cubes.proofs.singles.enter_singles.Goals as goal

pub loop-x-init : goal.loop-x-init
loop-x-init c =
    let old : Found = c.args.found.now in
    let none : 0 ≡ c.args.from - c.args.from = omega arith in
    record {
      found = ap (λ (l : List (List ℕ)). record old { front = l }) (sym (append-nil old.front)) ∙ ap (λ n. record old { front = old.front ++ singles n }) none;
      one = λ k lo hi. absurd (omega arith);
    }

pub loop-x-preserved : goal.loop-x-preserved
loop-x-preserved c =
    let old : Found = c.args.found.now in
    let vars : List Var = c.args.m.now.vars in
    let only : c.push.new.self ≡ 0 ∷ [] = c.in_ok-push.ensures.ok ∙ ap (λ (l : List ℕ). l ++ 0 ∷ []) c.new-only.ensures in
    let one : c.len.result ≡ 1 = c.if-len-ne1.false in
    let size : get_or (sizes vars) c.loop-x.x 0 ≡ 1 = sym (size_read (sizes vars) vars c.loop-x.x c.get.result.now refl c.get.ensures) ∙ sym c.len.ensures ∙ one in
    record {
      found =
          c.in_ok-enter.ensures
          ∙ ap (λ (f : Found). record f { front = f.front ++ c.push.new.self ∷ [] }) c.loop-x.invariant.found
          ∙ ap (λ (k : List ℕ). record old { front = (old.front ++ singles (c.loop-x.x - c.args.from)) ++ k ∷ [] }) only
          ∙ ap (λ (l : List (List ℕ)). record old { front = l }) (singles_last c.args.from c.loop-x.x old.front c.loop-x.auto.x);
      one = one_more (sizes vars) c.args.from c.loop-x.x c.loop-x.invariant.one size;
    }

pub returns-then-len-ne1-clause-passed : goal.returns-then-len-ne1-clause-passed
returns-then-len-ne1-clause-passed c =
    let vars : List Var = c.args.m.now.vars in
    let count : length (sizes c.args.m.now.vars) ≡ length c.args.m.now.vars = length-plan (sizes vars) vars refl in
    record {
      up = c.loop-x.auto.x;
      there = omega arith;
      one = c.loop-x.invariant.one;
      others = λ lt e. c.if-len-ne1.true (c.len.ensures ∙ size_read (sizes vars) vars c.loop-x.x c.get.result.now refl c.get.ensures ∙ e);
    }

pub returns-clause-passed : goal.returns-clause-passed
returns-clause-passed c =
    let vars : List Var = c.args.m.now.vars in
    let count : length (sizes c.args.m.now.vars) ≡ length c.args.m.now.vars = length-plan (sizes vars) vars refl in
    record {
      up = omega arith;
      there = omega arith;
      one = λ k lo hi. c.loop-x.invariant.one k lo (omega arith);
      others = λ lt. absurd (omega arith);
    }

pub returns-clause-entered : goal.returns-clause-entered
returns-clause-entered c =
    let old : Found = c.args.found.now in
    let all : c.loop-x.x ≡ c.len-2.result = omega arith in
    c.loop-x.invariant.found ∙ ap (λ n. record old { front = old.front ++ singles (n - c.args.from) }) all
