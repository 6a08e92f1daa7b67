use Rattle.std.proofs.Common.{◌≡◌, ◌+◌, ◌-◌, List, ℕ, [], ◌∷◌, length, map, take, drop, sym, ap, ◌∙◌, arith}
use Rattle.std.proofs.lemmas.List.{length-drop, length-append}
use Rattle.cov_show.specs.Cubes.{shown}
use Rattle.cov_show.specs.States.{told_part, told_parts, are_small}
use Rattle.cov_show.proofs.StateReading.{with_places, with_places-nil, no_small, rest_is, read_on, small_on}
use Rattle.cov_show.proofs.state_reading.read_parts.Goals as goal

pub loop-x-init : goal.loop-x-init
loop-x-init c = record {
  left =
      ap (λ (s : List ℕ). with_places s (told_parts (map (shown c.args.names.now) c.args.vars.now) [] 0 c.args.text.now)) c.new-state.ensures
      ∙ with_places-nil (told_parts (map (shown c.args.names.now) c.args.vars.now) [] 0 c.args.text.now);
  within = omega arith;
  count = ap length c.new-state.ensures;
  small = ap (are_small c.args.vars.now) c.new-state.ensures ∙ no_small c.args.vars.now;
}

pub loop-x-preserved : goal.loop-x-preserved
loop-x-preserved c =
    let rest : take (length c.args.text.now - c.loop-x.at) (drop c.loop-x.at c.args.text.now) ≡ drop c.loop-x.at c.args.text.now = rest_is c.loop-x.at c.args.text.now in
    let len = c.in_ok-part.ensures.within in
    record {
      left = read_on c.args.names.now c.args.vars.now c.loop-x.x-index c.x-item.result c.loop-x.state c.push.new.self c.loop-x.mark.now c.loop-x.at c.args.text.now c.in_ok-part.part _
          c.loop-x-test.true c.x-item.is (ap (told_part (shown c.args.names.now c.x-item.result) c.loop-x.mark.now c.loop-x.at) (sym rest) ∙ sym c.in_ok-part.ensures.told) c.in_ok-push.ensures.ok c.loop-x.invariant.left;
      within = omega (arith, len, ap length rest, length-drop c.loop-x.at c.args.text.now, c.loop-x.invariant.within);
      count = ap length c.in_ok-push.ensures.ok ∙ length-append c.loop-x.state (c.in_ok-part.part.place ∷ []) ∙ ap (λ n. n + 1) c.loop-x.invariant.count;
      small = small_on c.args.vars.now c.loop-x.state c.push.new.self c.loop-x.x-index c.in_ok-part.part.place c.x-item.result c.loop-x-test.true c.loop-x.invariant.count c.x-item.is
          c.in_ok-part.ensures.small c.in_ok-push.ensures.ok c.loop-x.invariant.small;
    }
