use Rattle.std.proofs.Common.{◌≡◌, Bool, ◌&&◌, ◌||◌, not, if◌then◌else◌, true, false, sym, ap, ◌∙◌}
use Rattle.cov_syntax.specs.declared.tree.Value.TheVariants as v
use Rattle.cov_syntax.specs.declared.tree.Op2.{Op2}
use Rattle.cov_syntax.specs.declared.tree.Op2.TheVariants as op2
use Rattle.cov_model.specs.Values.{operated, truth, whole}
use Rattle.cov_space.specs.Sets.{set_at}
use Rattle.cov_space.proofs.Calls.{on_ok_map}
use Rattle.cov_nodes.specs.Steps.{one_of}
use Rattle.cov_nodes.proofs.Logic.{last_logic, logic_family, rest_same, xor_same}
use Rattle.cov_nodes.proofs.truths.put_logic.Goals as goal

told : Op2 → Bool → Bool → Bool
told op x y = truth (operated whole op (v.Bool x) (v.Bool y))

pub returns-in-And-clause-ok : goal.returns-in-And-clause-ok
unfolding told
returns-in-And-clause-ok c m at f g is_f is_g =
    on_ok_map c.and.result _ _
    (λ puts. logic_family c.args.sp.now c.and.new.self m at f g (set_at c.args.sp.now.sets c.args.a) (set_at c.args.sp.now.sets c.args.b) (λ x y. x && y) (told c.args.op) is_f is_g
    (λ x y. ap (λ op. told op x y) (sym c.in-And.is)) puts) c.and.ensures.ok

pub returns-in-Or-clause-ok : goal.returns-in-Or-clause-ok
unfolding told
returns-in-Or-clause-ok c m at f g is_f is_g =
    on_ok_map c.or.result _ _
    (λ puts. logic_family c.args.sp.now c.or.new.self m at f g (set_at c.args.sp.now.sets c.args.a) (set_at c.args.sp.now.sets c.args.b) (λ x y. x || y) (told c.args.op) is_f is_g
    (λ x y. ap (λ op. told op x y) (sym c.in-Or.is)) puts) c.or.ensures.ok

pub returns-in-Xor-clause-ok : goal.returns-in-Xor-clause-ok
unfolding told
returns-in-Xor-clause-ok c m at f g is_f is_g =
    on_ok_map c.xor.result _ _
    (λ puts. logic_family c.args.sp.now c.xor.new.self m at f g (set_at c.args.sp.now.sets c.args.a) (set_at c.args.sp.now.sets c.args.b) (λ x y. if x then not y else y) (told c.args.op) is_f is_g
    (λ x y. xor_same x y ∙ ap (λ op. told op x y) (sym c.in-Xor.is)) puts) c.xor.ensures.ok

pub returns-in-Implies-clause-ok : goal.returns-in-Implies-clause-ok
unfolding told
returns-in-Implies-clause-ok c m at f g is_f is_g =
    on_ok_map c.put_rest.result _ _
    (λ puts. logic_family c.args.sp.now c.put_rest.new.sp m at f g (set_at c.args.sp.now.sets c.args.a) (set_at c.args.sp.now.sets c.args.b) (λ x y. one_of false (not x) y) (told c.args.op) is_f is_g
    (λ x y. ap (λ op. told op x y) (sym c.in-Implies.is)) puts) c.put_rest.ensures.ok

pub returns-in_default-clause-ok : goal.returns-in_default-clause-ok
unfolding told
returns-in_default-clause-ok c m at f g is_f is_g =
    let iff : c.args.op ≡ op2.Iff = last_logic c.args.op c.requires.op c.in_default.not-And c.in_default.not-Or c.in_default.not-Xor c.in_default.not-Implies in
    on_ok_map c.put_rest-in_default.result _ _
    (λ puts. logic_family c.args.sp.now c.put_rest-in_default.new.sp m at f g (set_at c.args.sp.now.sets c.args.a) (set_at c.args.sp.now.sets c.args.b) (λ x y. one_of true (not x) y) (told c.args.op) is_f is_g
    (λ x y. rest_same x y ∙ ap (λ op. told op x y) (sym iff)) puts) c.put_rest-in_default.ensures.ok
