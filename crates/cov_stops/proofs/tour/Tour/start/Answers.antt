use Rattle.std.proofs.Common.{rules, ◌≡◌, [], ◌∷◌, slice_get, reverse, sym}
use Rattle.cov_modules.specs.Modules.{main_of}
use Rattle.cov_stops.specs.declared.put_off.PutOff.{PutOff}
use Rattle.cov_stops.proofs.TourLemmas.{tour-start-at, same-tour}
use Rattle.std.proofs.Common.{ap, refl}
use Rattle.cov_stops.proofs.tour.Tour.start.Goals as goal

pub returns : goal.returns
returns c =
    let first : PutOff = record { «module» = c.unwrap-main.result; caller = 0; section = 0; place = 0; defines = 0 } in
    let at : slice_get c.args.p.now.modules c.unwrap-main.result ≡ main_of c.args.p.now = search rules in
    let children : c.push.new.self ≡ 0 ∷ [] = search rules in
    let put_off : c.push-2.new.self ≡ first ∷ [] = search rules in
    same-tour c.args.p.now [] c.new.result (0 ∷ []) c.push.new.self (first ∷ []) (reverse c.push-2.new.self) 0 0 0 0
    (sym c.new.ensures) (sym children) (sym (ap reverse put_off)) refl refl
    (tour-start-at c.args.p.now c.requires.sound c.unwrap-main.result at)
