use Rattle.std.proofs.Common.{◌≡◌, ◌+◌, ◌≤◌, List, Bool, true, false, is_ok, sym, ◌∙◌, subst, arith, inl, rules}
use Rattle.cov_dd.specs.declared.node.Ref.{Ref}
use Rattle.cov_dd.specs.declared.questions.Question.{Question}
use Rattle.cov_dd.specs.declared.fault.TableFault.TheVariants as cause
use Rattle.cov_dd.specs.Cofactors.{Computes, fault_of}
use Rattle.cov_dd.specs.Questions.{wanted}
use Rattle.cov_dd.specs.Memo.{HasKey, AllRight, Counted}
use Rattle.cov_dd.proofs.Recursion.{Answered, low_computes, low_fault, high_computes, high_fault, low_below, mk_computes, mk_denotes, mk_fault, err_exit}
use Rattle.cov_dd.proofs.MemoLemmas.{right_grows, right_push, is_right, key_stays, key_cases, key_pushed}
use Rattle.cov_dd.proofs.CountLemmas.{Below, counted_low, counted_high, both_below, counted_mk}
use Rattle.cov_dd.proofs.answers.+answer.Goals.{In_ok-high, After-mk}
use Rattle.cov_dd.proofs.answers.+answer.Goals as goal

-- both halves were answered
answered : (t : _) (c : In_ok-high t) → Answered c.args.store.now c.answer.new.store c.answer-2.new.store c.halve-halves.result.level (wanted c.args.asked) (wanted c.halve-halves.result.low) (wanted c.halve-halves.result.high) c.in_ok-low.low c.in_ok-high.high
answered t c = record {
  halved = c.halve-halves.ensures.halved;
  first = c.answer.ensures.computes;
  second = c.answer-2.ensures.computes;
  at_low = c.in_ok-low.ensures.ok;
  at_high = c.in_ok-high.ensures.ok;
}

-- and no part that was tried is the question itself
below : (t : _) (c : In_ok-high t) → Below c.args.store.now c.answer-2.new.store c.args.memo.now c.answer-2.new.memo c.args.asked
below t c =
    both_below c.args.store.now c.answer.new.store c.answer-2.new.store c.args.memo.now c.answer.new.memo c.answer-2.new.memo c.args.asked c.halve-halves.result.low c.halve-halves.result.high
    c.settled.ensures.table c.answer.ensures.computes.extends c.halve-halves.ensures.low c.halve-halves.ensures.high c.in_default-get.ensures.none c.in_ok-low.ensures.counted c.in_ok-high.ensures.counted

-- the answers that were kept before are right after `mk`
still_right : (t : _) (c : After-mk t) → AllRight c.mk.new.self c.answer-2.new.memo
still_right t c = right_grows c.answer-2.new.store c.mk.new.self c.answer-2.new.memo c.answer-2.ensures.computes.table c.mk.ensures.computes.extends c.answer-2.ensures.right

pub returns-in-Some-get-clause-ok : goal.returns-in-Some-get-clause-ok
returns-in-Some-get-clause-ok t c = (c.requires.right c.args.asked c.in-Some-get.known c.in-Some-get.ensures.found).is

-- ---- the first half was refused

pub returns-in_err-low-clause-computes : goal.returns-in_err-low-clause-computes
returns-in_err-low-clause-computes t c = low_computes c.halve-halves.ensures.halved c.answer.ensures.computes

pub returns-in_err-low-clause-err : goal.returns-in_err-low-clause-err
returns-in_err-low-clause-err t c = err_exit c.from_residual.result c.in_err-low.field-0.0 _ (search rules) (low_fault _ _ c.halve-halves.ensures.halved c.answer.ensures.computes.extends.levels c.in_err-low.ensures.err)

pub returns-in_err-low-clause-counted : goal.returns-in_err-low-clause-counted
returns-in_err-low-clause-counted t c =
    let refused : is_ok c.from_residual.result ≡ false = search rules in
    subst (λ (ok : Bool). Counted c.args.store.now c.answer.new.store c.args.memo.now c.answer.new.memo c.args.asked ok) (sym refused)
    (counted_low c.args.store.now c.answer.new.store c.args.memo.now c.answer.new.memo c.args.asked c.halve-halves.result.low false c.halve-halves.ensures.low c.in_err-low.ensures.counted)

-- ---- the second half was refused

pub returns-in_err-high-clause-computes : goal.returns-in_err-high-clause-computes
returns-in_err-high-clause-computes t c = high_computes c.halve-halves.ensures.halved c.answer.ensures.computes c.answer-2.ensures.computes

pub returns-in_err-high-clause-err : goal.returns-in_err-high-clause-err
returns-in_err-high-clause-err t c =
    err_exit c.from_residual-in_err-high.result c.in_err-high.field-0.0 _ (search rules)
    (high_fault _ _ c.halve-halves.ensures.halved c.answer.ensures.computes.extends (c.answer-2.ensures.computes.extends.levels ∙ c.answer.ensures.computes.extends.levels) c.in_err-high.ensures.err)

pub returns-in_err-high-clause-counted : goal.returns-in_err-high-clause-counted
returns-in_err-high-clause-counted t c =
    let refused : is_ok c.from_residual-in_err-high.result ≡ false = search rules in
    subst (λ (ok : Bool). Counted c.args.store.now c.answer-2.new.store c.args.memo.now c.answer-2.new.memo c.args.asked ok) (sym refused)
    (counted_high c.args.store.now c.answer.new.store c.answer-2.new.store c.args.memo.now c.answer.new.memo c.answer-2.new.memo c.args.asked c.halve-halves.result.low c.halve-halves.result.high false
    c.settled.ensures.table c.answer.ensures.computes.extends c.halve-halves.ensures.low c.halve-halves.ensures.high c.in_ok-low.ensures.counted c.in_err-high.ensures.counted)

-- ---- `mk` of the two answers

pub mk-requires-clause-low : goal.mk-requires-clause-low
mk-requires-clause-low t c = low_below c.halve-halves.ensures.halved c.answer.ensures.computes c.answer-2.ensures.computes.extends c.in_ok-low.ensures.ok

pub returns-in_err-made-clause-computes : goal.returns-in_err-made-clause-computes
returns-in_err-made-clause-computes t c = mk_computes (answered t (goal.at.returns-in_err-made-clause-computes t c).In_ok-high) c.mk.ensures.computes

pub returns-in_err-made-clause-err : goal.returns-in_err-made-clause-err
returns-in_err-made-clause-err t c =
    err_exit c.from_residual-in_err-made.result (fault_of c.in_err-made.field-0.0) _ (search rules) (mk_fault (answered t (goal.at.returns-in_err-made-clause-err t c).In_ok-high) c.in_err-made.ensures.err)

pub returns-in_err-made-clause-right : goal.returns-in_err-made-clause-right
returns-in_err-made-clause-right t c = still_right t (goal.at.returns-in_err-made-clause-right t c).After-mk

pub returns-in_err-made-clause-counted : goal.returns-in_err-made-clause-counted
returns-in_err-made-clause-counted t c =
    let refused : is_ok c.from_residual-in_err-made.result ≡ false = search rules in
    let calls : c.mk.new.self.calls ≤ c.answer-2.new.store.calls + 1 = let n = c.mk.ensures.counts in omega arith in
    subst (λ (ok : Bool). Counted c.args.store.now c.mk.new.self c.args.memo.now c.answer-2.new.memo c.args.asked ok) (sym refused)
    (counted_mk c.args.store.now c.answer-2.new.store c.mk.new.self c.args.memo.now c.answer-2.new.memo c.answer-2.new.memo c.args.asked false calls c.in_default-get.ensures.none
    (λ p h. h) (λ p h. inl h) (λ (no : false ≡ true). cc) (below t (goal.at.returns-in_err-made-clause-counted t c).In_ok-high))

-- ---- the answer is kept

pub insert-requires : goal.insert-requires
insert-requires t c = (below t (goal.at.insert-requires t c).In_ok-high).absent

pub returns-in_err-insert-clause-computes : goal.returns-in_err-insert-clause-computes
returns-in_err-insert-clause-computes t c = mk_computes (answered t (goal.at.returns-in_err-insert-clause-computes t c).In_ok-high) c.mk.ensures.computes

pub returns-in_err-insert-clause-err : goal.returns-in_err-insert-clause-err
returns-in_err-insert-clause-err t c = err_exit c.from_residual-in_err-insert.result cause.Memory _ (search rules) tt

pub returns-in_err-insert-clause-right : goal.returns-in_err-insert-clause-right
returns-in_err-insert-clause-right t c = subst (AllRight c.mk.new.self) (sym c.in_err-insert.ensures.err) (still_right t (goal.at.returns-in_err-insert-clause-right t c).After-mk)

pub returns-in_err-insert-clause-counted : goal.returns-in_err-insert-clause-counted
returns-in_err-insert-clause-counted t c =
    let refused : is_ok c.from_residual-in_err-insert.result ≡ false = search rules in
    let calls : c.mk.new.self.calls ≤ c.answer-2.new.store.calls + 1 = let n = c.mk.ensures.counts in omega arith in
    subst (λ (ok : Bool). Counted c.args.store.now c.mk.new.self c.args.memo.now c.insert.new.self c.args.asked ok) (sym refused)
    (counted_mk c.args.store.now c.answer-2.new.store c.mk.new.self c.args.memo.now c.answer-2.new.memo c.insert.new.self c.args.asked false calls c.in_default-get.ensures.none
    (λ p h. subst (λ (m : List (Question × Ref)). HasKey m p) (sym c.in_err-insert.ensures.err) h)
    (λ p h. inl (subst (λ (m : List (Question × Ref)). HasKey m p) c.in_err-insert.ensures.err h))
    (λ (no : false ≡ true). cc) (below t (goal.at.returns-in_err-insert-clause-counted t c).In_ok-high))

pub returns-clause-ok : goal.returns-clause-ok
returns-clause-ok t c = mk_denotes (answered t (goal.at.returns-clause-ok t c).In_ok-high) c.in_ok-made.ensures.ok

pub returns-clause-computes : goal.returns-clause-computes
returns-clause-computes t c = mk_computes (answered t (goal.at.returns-clause-computes t c).In_ok-high) c.mk.ensures.computes

pub returns-clause-right : goal.returns-clause-right
returns-clause-right t c =
    let both = answered t (goal.at.returns-clause-right t c).In_ok-high in
    let whole : Computes c.args.store.now c.mk.new.self _ _ = mk_computes both c.mk.ensures.computes in
    subst (AllRight c.mk.new.self) (sym c.in_ok-insert.ensures.ok)
    (right_push c.mk.new.self c.answer-2.new.memo c.args.asked c.in_ok-made.made (still_right t (goal.at.returns-clause-right t c).After-mk)
    (is_right c.args.store.now c.mk.new.self c.args.asked c.in_ok-made.made c.settled.ensures.table whole.extends c.requires.asked (mk_denotes both c.in_ok-made.ensures.ok)))

pub returns-clause-counted : goal.returns-clause-counted
returns-clause-counted t c =
    let calls : c.mk.new.self.calls ≤ c.answer-2.new.store.calls + 1 = let n = c.mk.ensures.counts in omega arith in
    counted_mk c.args.store.now c.answer-2.new.store c.mk.new.self c.args.memo.now c.answer-2.new.memo c.insert.new.self c.args.asked true calls c.in_default-get.ensures.none
    (λ p h. subst (λ (m : List (Question × Ref)). HasKey m p) (sym c.in_ok-insert.ensures.ok) (key_stays c.answer-2.new.memo c.args.asked c.in_ok-made.made p h))
    (λ p h. key_cases c.answer-2.new.memo c.args.asked c.in_ok-made.made p (subst (λ (m : List (Question × Ref)). HasKey m p) c.in_ok-insert.ensures.ok h))
    (λ yes. subst (λ (m : List (Question × Ref)). HasKey m c.args.asked) (sym c.in_ok-insert.ensures.ok) (key_pushed c.answer-2.new.memo c.args.asked c.in_ok-made.made))
    (below t (goal.at.returns-clause-counted t c).In_ok-high)
