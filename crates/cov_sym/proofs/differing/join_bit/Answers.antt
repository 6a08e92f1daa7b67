use Rattle.std.proofs.Common.{◌≡◌, ℕ, ◌<◌, ◌≤◌, ◌+◌, ◌*◌, ◌∷◌, [], List, Bool, length, refl, ◌∙◌, ap, rules, arith}
use Rattle.cov_space.specs.Answers.{PutsSet}
use Rattle.cov_space.specs.Sets.{SpaceOf, set_at}
use Rattle.cov_space.specs.Operations.{bit_set, symmetric_difference, union}
use Rattle.cov_space.specs.Steps.{with_more}
use Rattle.cov_space.proofs.Calls.{at_behind, at_front, basic_call, err_exit, push_behind}
use Rattle.cov_image.specs.Stacks.{below}
use Rattle.cov_fair.proofs.Calls.{put_or, same_levels}
use Rattle.cov_sym.proofs.Exchanging.{basic_above, call_base, put_xor, settled_last}
use Rattle.cov_sym.proofs.Differences.{joined_is}
use Rattle.cov_sym.proofs.differing.join_bit.Goals as goal

-- the two bits
two : (s s1 s2 : SpaceOf) (b : ℕ) → s1 ≡ with_more s (bit_set s.levels (3 * b) ∷ []) → PutsSet s1 s2 (bit_set s1.levels (3 * b + 1)) → s2 ≡ with_more s (bit_set s.levels (3 * b) ∷ bit_set s.levels (3 * b + 1) ∷ [])
two s s1 s2 b is puts =
    let p : List Bool = bit_set s.levels (3 * b) in
    push_behind s s1 s2 (p ∷ []) _ is puts ∙ ap (λ k. with_more s (p ∷ bit_set k (3 * b + 1) ∷ [])) (same_levels s s1 (p ∷ []) is)

-- and where they differ
three : (s s2 s3 : SpaceOf) (n : ℕ) (p q : List Bool) → length s.sets ≡ n + 1 → s2 ≡ with_more s (p ∷ q ∷ []) → PutsSet s2 s3 (symmetric_difference s2.levels (set_at s2.sets (n + 1)) (set_at s2.sets (n + 2)))
    → s3 ≡ with_more s (p ∷ q ∷ symmetric_difference s.levels p q ∷ [])
three s s2 s3 n p q last is puts =
    put_xor s s2 s3 (p ∷ q ∷ []) (n + 1) (n + 2) p q is (at_behind s s2 (p ∷ q ∷ []) (n + 1) 0 is (omega arith)) (at_behind s s2 (p ∷ q ∷ []) (n + 2) 1 is (omega arith)) puts

pub returns-in_err-bit-clause-err : goal.returns-in_err-bit-clause-err
returns-in_err-bit-clause-err c =
    let s : SpaceOf = c.args.sp.now in
    err_exit c.from_residual.result c.in_err-bit.field-0.0 _ (search rules)
    (call_base s c.bit.new.self c.args.n c.in_err-bit.field-0.0 (basic_call s c.bit.new.self (bit_set s.levels (3 * c.args.b)) c.in_err-bit.field-0.0 c.in_err-bit.ensures.err))

pub returns-in_err-bit-2-clause-err : goal.returns-in_err-bit-2-clause-err
returns-in_err-bit-2-clause-err c =
    let s : SpaceOf = c.args.sp.now in
    let s1 : SpaceOf = c.bit.new.self in
    let b = c.args.b in
    err_exit c.from_residual-in_err-bit-2.result c.in_err-bit-2.field-0.0 _ (search rules)
    (basic_above s s1 c.bit-2.new.self (bit_set s.levels (3 * b) ∷ []) (bit_set s1.levels (3 * b + 1)) c.args.n c.in_err-bit-2.field-0.0 c.in_ok-bit.ensures.ok.is c.in_err-bit-2.ensures.err)

pub returns-in_err-xor-clause-err : goal.returns-in_err-xor-clause-err
returns-in_err-xor-clause-err c =
    let s : SpaceOf = c.args.sp.now in
    let s2 : SpaceOf = c.bit-2.new.self in
    let n = c.args.n in
    let b = c.args.b in
    err_exit c.from_residual-in_err-xor.result c.in_err-xor.field-0.0 _ (search rules)
    (basic_above s s2 c.xor.new.self (bit_set s.levels (3 * b) ∷ bit_set s.levels (3 * b + 1) ∷ []) (symmetric_difference s2.levels (set_at s2.sets (n + 1)) (set_at s2.sets (n + 2))) n c.in_err-xor.field-0.0
    (two s c.bit.new.self s2 b c.in_ok-bit.ensures.ok.is c.in_ok-bit-2.ensures.ok) c.in_err-xor.ensures.err)

pub returns-in_err-or-clause-err : goal.returns-in_err-or-clause-err
returns-in_err-or-clause-err c =
    let s : SpaceOf = c.args.sp.now in
    let s2 : SpaceOf = c.bit-2.new.self in
    let s3 : SpaceOf = c.xor.new.self in
    let n = c.args.n in
    let b = c.args.b in
    let p : List Bool = bit_set s.levels (3 * b) in
    let q : List Bool = bit_set s.levels (3 * b + 1) in
    err_exit c.from_residual-in_err-or.result c.in_err-or.field-0.0 _ (search rules)
    (basic_above s s3 c.or.new.self (p ∷ q ∷ symmetric_difference s.levels p q ∷ []) (union s3.levels (set_at s3.sets n) (set_at s3.sets (n + 3))) n c.in_err-or.field-0.0
    (three s s2 s3 n p q c.requires.last (two s c.bit.new.self s2 b c.in_ok-bit.ensures.ok.is c.in_ok-bit-2.ensures.ok) c.in_ok-xor.ensures.ok) c.in_err-or.ensures.err)

pub returns-clause-ok : goal.returns-clause-ok
returns-clause-ok c =
    let s : SpaceOf = c.args.sp.now in
    let s2 : SpaceOf = c.bit-2.new.self in
    let s3 : SpaceOf = c.xor.new.self in
    let s4 : SpaceOf = c.or.new.self in
    let n = c.args.n in
    let b = c.args.b in
    let x : List Bool = set_at s.sets n in
    let p : List Bool = bit_set s.levels (3 * b) in
    let q : List Bool = bit_set s.levels (3 * b + 1) in
    let d : List Bool = symmetric_difference s.levels p q in
    let last : length s.sets ≡ n + 1 = c.requires.last in
    let there : n < length s.sets = omega arith in
    let within : n ≤ length s.sets = omega arith in
    let is3 : s3 ≡ with_more s (p ∷ q ∷ d ∷ []) = three s s2 s3 n p q last (two s c.bit.new.self s2 b c.in_ok-bit.ensures.ok.is c.in_ok-bit-2.ensures.ok) c.in_ok-xor.ensures.ok in
    let is4 : s4 ≡ with_more s (p ∷ q ∷ d ∷ union s.levels x d ∷ []) =
    put_or s s3 s4 (p ∷ q ∷ d ∷ []) n (n + 3) x d is3 (at_front s s3 (p ∷ q ∷ d ∷ []) n is3 there) (at_behind s s3 (p ∷ q ∷ d ∷ []) (n + 3) 2 is3 (omega arith)) c.in_ok-or.ensures.ok in
    settled_last s s4 c.settle.new.self n 3 (p ∷ q ∷ d ∷ union s.levels x d ∷ []) within is4 refl c.settle.ensures
    ∙ ap (λ (y : List Bool). with_more (below s n) (y ∷ [])) (joined_is s.levels b x)
