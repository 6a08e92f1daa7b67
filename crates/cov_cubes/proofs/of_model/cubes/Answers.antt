use Rattle.cov_cubes.proofs.ModelRoom.{room_left}
use Rattle.cov_cubes.proofs.of_model.cubes.Goals as goal

pub cubes_in-requires-clause-room : goal.cubes_in-requires-clause-room
cubes_in-requires-clause-room c = room_left c.args.m.now c.args.sys.now c.requires.built c.requires.alone
