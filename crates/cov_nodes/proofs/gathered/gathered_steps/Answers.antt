use Rattle.std.proofs.Common.{◌≡◌, ◌<◌, ◌*◌, ◌+◌, ℕ, List, Bool, length, sym, ◌∙◌, ap, subst}
use Rattle.std.specs.Int.{div_ceil}
use Rattle.cov_syntax.specs.declared.tree.Value.{Value}
use Rattle.cov_space.specs.Sets.{SpaceOf, lies, set_at}
use Rattle.cov_space.proofs.Calls.{at_front}
use Rattle.cov_fields.specs.Fields.{IsField}
use Rattle.cov_families.specs.Families.{index_of}
use Rattle.cov_families.proofs.Gathering.{gathers_more}
use Rattle.cov_nodes.specs.Chunks.{own_set}
use Rattle.cov_nodes.specs.Standing.{chunk, chunk_size}
use Rattle.cov_nodes.proofs.Chunking.{begins_within, chunk_field, some_in_chunk, some_size}
use Rattle.cov_nodes.proofs.gathered.gathered_steps.Goals as goal

-- the chunk begins within the list
begins : (n size levels count k : ℕ) → size ≡ chunk_size levels → count ≡ div_ceil n size → k < count → k * chunk_size levels < n
begins n size levels count k is all lt = begins_within n (chunk_size levels) k (some_size levels) (subst (λ m. k < m) (all ∙ ap (λ s. div_ceil n s) is) lt)

-- its values
values_are : (part values : List Value) (size levels k : ℕ) → size ≡ chunk_size levels → part ≡ chunk size values k → part ≡ chunk (chunk_size levels) values k
values_are part values size levels k is are = are ∙ ap (λ s. chunk s values k) is

pub add_own-requires-clause-some : goal.add_own-requires-clause-some
add_own-requires-clause-some c =
    let old : SpaceOf = c.args.sp.now in
    let vs : List Value = c.args.values.now in
    subst (λ (part : List Value). 0 < length part) (sym (values_are c.chunk_of.result.now vs c.chunk_size-size.result old.levels c.loop-k.k c.chunk_size-size.ensures c.chunk_of.ensures))
    (some_in_chunk (chunk_size old.levels) vs c.loop-k.k (some_size old.levels) (begins (length vs) c.chunk_size-size.result old.levels c.div_ceil-k-end.result c.loop-k.k c.chunk_size-size.ensures c.div_ceil-k-end.ensures c.loop-k-test.true))

pub add_own-requires-clause-field : goal.add_own-requires-clause-field
add_own-requires-clause-field c =
    let old : SpaceOf = c.args.sp.now in
    let vs : List Value = c.args.values.now in
    subst (λ n. IsField n (index_of (length c.chunk_of.result.now))) (sym c.loop-k.invariant.levels)
    (subst (λ (part : List Value). IsField old.levels (index_of (length part))) (sym (values_are c.chunk_of.result.now vs c.chunk_size-size.result old.levels c.loop-k.k c.chunk_size-size.ensures c.chunk_of.ensures))
    (chunk_field old.levels vs c.loop-k.k (begins (length vs) c.chunk_size-size.result old.levels c.div_ceil-k-end.result c.loop-k.k c.chunk_size-size.ensures c.div_ceil-k-end.ensures c.loop-k-test.true)))

-- the set of the chunk, as it is where more sets stand
own_is : (old s : SpaceOf) (more : List (List Bool)) (k : ℕ) (part part' xs : List Value) → s ≡ record old { sets = more } → part ≡ part' → set_at s.sets k ≡ set_at old.sets k → (row : List Bool)
    → lies (own_set s.levels part xs (set_at s.sets k)) row ≡ lies (own_set old.levels part' xs (set_at old.sets k)) row
own_is old s more k part part' xs is are at row =
    ap (λ (x : List Bool). lies (own_set s.levels part xs x) row) at
    ∙ ap (λ (p : List Value). lies (own_set s.levels p xs (set_at old.sets k)) row) are
    ∙ ap (λ (z : SpaceOf). lies (own_set z.levels part' xs (set_at old.sets k)) row) is

pub loop-k-preserved : goal.loop-k-preserved
loop-k-preserved c =
    let old : SpaceOf = c.args.sp.now in
    let vs : List Value = c.args.values.now in
    let part : c.chunk_of.result.now ≡ chunk (chunk_size old.levels) vs c.loop-k.k = values_are c.chunk_of.result.now vs c.chunk_size-size.result old.levels c.loop-k.k c.chunk_size-size.ensures c.chunk_of.ensures in
    let lt : c.loop-k.k * chunk_size old.levels < length vs = begins (length vs) c.chunk_size-size.result old.levels c.div_ceil-k-end.result c.loop-k.k c.chunk_size-size.ensures c.div_ceil-k-end.ensures c.loop-k-test.true in
    let at : set_at c.loop-k.sp.sets (c.args.first + c.loop-k.k) ≡ set_at old.sets (c.args.first + c.loop-k.k) = at_front old c.loop-k.sp _ (c.args.first + c.loop-k.k) c.loop-k.invariant.is (c.requires.there c.loop-k.k lt) in
    gathers_more old c.loop-k.sp c.add_own.new.sp c.sets-n.result c.loop-k.k _ _ (sym c.sets-n.ensures.count) c.loop-k.invariant c.in_ok-add_own.ensures.ok (λ row len.
    own_is old c.loop-k.sp _ (c.args.first + c.loop-k.k) c.chunk_of.result.now (chunk (chunk_size old.levels) vs c.loop-k.k) c.args.xs.now c.loop-k.invariant.is part at row)
