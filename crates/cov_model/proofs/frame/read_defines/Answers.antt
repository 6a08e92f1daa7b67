use Rattle.std.proofs.Common.{◌≡◌, length, ap, ◌∙◌, refl, length-set, arith}
use Rattle.cov_model.proofs.FrameLemmas.{completed_none, completed_step, completed_all}
use Rattle.cov_model.proofs.frame.read_defines.Goals as goal

pub loop-i-init : goal.loop-i-init
loop-i-init c = record {
  done = completed_none c.args.defines.now c.args.r.now.vars c.args.r.now.flip c.args.r.now.defines;
  known = refl;
  room = c.requires;
  vars = refl;
  flip = refl;
}

pub loop-i-preserved : goal.loop-i-preserved
loop-i-preserved c = record {
  done = completed_step c.args.defines.now c.args.r.now.vars c.loop-i.r.vars c.args.r.now.flip c.loop-i.r.flip c.loop-i.r.defines c.replace.new.self c.loop-i.i c.loop-i.r.known c.index-defines-i.result c.value-v.result
      c.loop-i-test.true c.loop-i.invariant.room c.loop-i.invariant.known c.loop-i.invariant.vars c.loop-i.invariant.flip c.index-defines-i.is c.value-v.ensures c.replace.ensures.after c.loop-i.invariant.done;
  known = refl;
  room = ap length c.replace.ensures.after ∙ length-set c.loop-i.r.defines c.loop-i.i c.value-v.result ∙ c.loop-i.invariant.room;
  vars = c.loop-i.invariant.vars;
  flip = c.loop-i.invariant.flip;
}

pub returns : goal.returns
returns c = record {
  room = c.loop-i.invariant.room;
  defines = completed_all c.args.defines.now c.args.r.now.vars c.args.r.now.flip c.loop-i.r.defines c.loop-i.i c.loop-i.r.known c.loop-i-test.false c.loop-i.invariant.room c.loop-i.invariant.known c.loop-i.invariant.done;
  vars = c.loop-i.invariant.vars;
  flip = c.loop-i.invariant.flip;
}
