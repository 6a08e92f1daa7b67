use Rattle.cov_readings.proofs.Bodies.{body_value}
use Rattle.cov_readings.proofs.defines.defines_are_their_bodies.Goals as goal

pub returns : goal.returns
returns c = λ m w i d g s t flip. body_value m w i d g s t flip
