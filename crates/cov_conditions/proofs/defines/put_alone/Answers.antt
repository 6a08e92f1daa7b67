use Rattle.std.proofs.Common.{rules, arith, ◌≡◌, ◌+◌, ◌<◌, ◌∙◌, ◌∷◌, ◌++◌, [], length, None, Option, List, sym, ap, subst}
use Rattle.cov_model.specs.declared.model.Model.{Model}
use Rattle.cov_space.specs.Sets.{SpaceOf}
use Rattle.cov_space.proofs.Calls.{leaves_behind}
use Rattle.cov_nodes.specs.declared.reading.Reading.{Reading}
use Rattle.cov_nodes.specs.declared.defined.Standing as standing
use Rattle.cov_conditions.specs.Bodies.{PutsEntry, body_room}
use Rattle.cov_conditions.proofs.Gathering.{Gathered, define_at, err_exit, gathers_turn, not_failed, room_left}
use Rattle.cov_conditions.proofs.defines.put_alone.Goals as goal

pub put_entry-requires-clause-room : goal.put_entry-requires-clause-room
put_entry-requires-clause-room c =
    let m : Model = c.args.m.now in
    let end : c.len-i-end.result ≡ length m.defines = c.len-i-end.ensures ∙ ap (λ (x : Model). length x.defines) c.model.ensures.value in
    room_left c.args.sp.now c.loop-i.sp m c.args.layer None c.args.marks.now c.loop-i.i c.loop-i.here (body_room m) (omega arith) c.loop-i.invariant.gathered c.requires.room

pub returns-in_err-entry-clause-err : goal.returns-in_err-entry-clause-err
returns-in_err-entry-clause-err c =
    err_exit c.from_residual.result c.in_err-entry.field-0.0 _ (search rules)
    (leaves_behind c.args.sp.now c.loop-i.sp _ c.loop-i.invariant.gathered.puts.more c.in_err-entry.field-0.0 c.loop-i.invariant.gathered.puts.is c.in_err-entry.ensures.err)

pub loop-i-preserved : goal.loop-i-preserved
loop-i-preserved c =
    let m : Model = c.args.m.now in
    let end : c.len-i-end.result ≡ length m.defines = c.len-i-end.ensures ∙ ap (λ (x : Model). length x.defines) c.model.ensures.value in
    let lt : c.loop-i.i < length m.defines = omega arith in
    let d = define_at m.defines c.loop-i.i lt in
    let pushed : c.push.new.self ≡ c.loop-i.here ++ c.in_ok-entry.entry ∷ [] = not_failed c.push.result c.is_err.result _ c.is_err.ensures.value c.if-is_err.false c.push.ensures.ok in
    let g : Gathered c.args.sp.now c.put_entry.new.sp m c.args.layer None c.args.marks.now (c.loop-i.i + 1) (c.loop-i.here ++ c.in_ok-entry.entry ∷ []) =
    gathers_turn c.args.sp.now c.loop-i.sp c.put_entry.new.sp m c.args.layer None c.args.marks.now c.loop-i.i c.loop-i.here c.in_ok-entry.entry d.0 d.1 lt c.loop-i.invariant.gathered
    (subst (λ (r : Reading). PutsEntry c.loop-i.sp c.put_entry.new.sp m r.present r.flip c.args.marks.now c.loop-i.i c.in_ok-entry.entry) c.at-at.ensures c.in_ok-entry.ensures.ok) in
    record {
      gathered = subst (λ (es : List (Option standing.Standing)). Gathered c.args.sp.now c.put_entry.new.sp m c.args.layer None c.args.marks.now (c.loop-i.i + 1) es) (sym pushed) g;
      places = ap (λ (z : SpaceOf). z.places) g.puts.is;
      levels = ap (λ (z : SpaceOf). z.levels) g.puts.is;
    }
