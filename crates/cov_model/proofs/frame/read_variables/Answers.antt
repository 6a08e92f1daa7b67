use Rattle.std.proofs.Common.{◌≡◌, length, ap, ◌∙◌, length-set, arith}
use Rattle.cov_syntax.specs.declared.tree.Value.{Value}
use Rattle.cov_model.proofs.FrameLemmas.{front_none, front_step, front_all}
use Rattle.cov_model.proofs.frame.read_variables.Goals as goal

pub loop-i-init : goal.loop-i-init
loop-i-init c = record {
  done = front_none c.args.vars.now c.args.s.now c.args.values.now;
  room = c.requires.room;
}

pub loop-i-preserved : goal.loop-i-preserved
loop-i-preserved c = record {
  done = front_step c.args.vars.now c.args.s.now c.loop-i.values c.replace.new.self c.as_slice.result.now c.loop-i.i c.place_of.result c.index-vars-i.result c.item-v.result
      c.requires.typed c.loop-i-test.true c.loop-i.invariant.room c.index-vars-i.is c.as_slice.ensures c.place_of.ensures c.item-v.ensures c.replace.ensures.after c.loop-i.invariant.done;
  room = ap length c.replace.ensures.after ∙ length-set c.loop-i.values c.loop-i.i c.item-v.result ∙ c.loop-i.invariant.room;
}

pub returns : goal.returns
returns c = record {
  room = c.loop-i.invariant.room;
  read = front_all c.args.vars.now c.args.s.now c.loop-i.values c.loop-i.i c.loop-i-test.false c.loop-i.invariant.room c.loop-i.invariant.done;
}
