use Rattle.std.proofs.Common.{◌≡◌, ◌≢◌, ◌<◌, ◌-◌, ℕ, suc, Bool, false, ◌||◌, ◌&&◌, length, drop, get_or, ap, arith, inl, inr, ◌∙◌, sym, get_or-set_other, get_or-set_same}
use Rattle.std.proofs.lemmas.Bool.{cases_order}
use Rattle.cov_replay.specs.Walks.{walks}
use Rattle.cov_replay.proofs.Walking.{or_then, or_else_then, or_else_else, walks_back}
use Rattle.cov_replay.proofs.scan.scan.Goals as goal
use Rattle.cov_replay.proofs.scan.scan.Goals.{then-ends-p, else-ends-p+then-stays-p, else-ends-p+else-stays-p}

pub loop-p-preserved : goal.loop-p-preserved
loop-p-preserved c =
    let q : ℕ = c.loop-p.p - 1 in
    let e : Bool = get_or c.loop-p.ends q false in
    let s : Bool = get_or c.args.stays.now q false in
    let one : suc q ≡ c.loop-p.p = omega arith in
    let here : q < length c.args.ends.now = omega arith in
    let new : c.if-ends-p.found ≡ (get_or c.loop-p.ends q false || (get_or c.args.stays.now q false && c.loop-p.found)) =
    elim c.if-ends-p.branch [
      | then-ends-p w ↦ or_then e s c.loop-p.found c.if-ends-p.found w.if-ends-p.true (w.found-is ∙ w.if-ends-p.true)
      | else-ends-p+then-stays-p w ↦ or_else_then e s c.loop-p.found c.if-ends-p.found w.if-ends-p.false w.if-stays-p.true w.found-is
      | else-ends-p+else-stays-p w ↦ or_else_else e s c.loop-p.found c.if-ends-p.found w.if-ends-p.false w.if-stays-p.false (w.found-is ∙ w.if-stays-p.false)
    ] in
    let found : c.if-ends-p.found ≡ walks (drop q c.args.ends.now) (drop q c.args.stays.now) c.walks_from-found.result =
    walks_back c.loop-p.ends c.args.ends.now c.args.stays.now q c.walks_from-found.result c.loop-p.found c.if-ends-p.found here c.requires.same
    (c.loop-p.invariant.before q (omega arith))
    (c.loop-p.invariant.found ∙ ap (λ k. walks (drop k c.args.ends.now) (drop k c.args.stays.now) c.walks_from-found.result) (sym one)) new in
    record {
      found = found;
      before = λ k h. let ne : k ≢ q = omega arith in rw get_or-set_other (c.loop-p.invariant.before k (omega arith));
      done = λ k h d. elim (cases_order k q) [
        | inl e ↦ (let lt : q < length c.loop-p.ends = omega arith in
            rw e (rw get_or-set_same found))
        | inr o ↦ elim o [
          | inl less ↦ absurd (omega arith)
          | inr more ↦ (let ne : k ≢ q = omega arith in rw get_or-set_other (c.loop-p.invariant.done k (omega arith) d))
        ]
      ];
    }
