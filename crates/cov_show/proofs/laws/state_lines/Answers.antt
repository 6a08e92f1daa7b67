use Rattle.cov_show.proofs.StateLines.{faultless, one_line, no_turn, no_end}
use Rattle.cov_show.proofs.laws.state_lines.Goals as goal

pub returns : goal.returns
returns c = record {
  faultless = faultless;
  line = one_line;
  no_turn = no_turn;
  no_end = no_end;
}
